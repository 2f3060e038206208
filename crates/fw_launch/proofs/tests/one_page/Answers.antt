use Rattle.std.proofs.Common.{None, refl}
use Rattle.rmp_table.proofs.EntryLaws.{all_same}
use Rattle.fw_launch.proofs.tests.one_page.Goals as goal

pub write_entry-requires-clause-large : goal.write_entry-requires-clause-large
write_entry-requires-clause-large c =
    λ large. record { assigned = refl; first = refl; aligned = refl; one_holder = all_same _ None c.in_ok-rmp.ensures.unlocked }
