use Rattle.std.proofs.Common.{refl}
use Rattle.rmp_table.proofs.EntryLaws.{write_facts, write_others, write_stored}
use Rattle.rmp_table.proofs.table.RmpRegion.write_entry.Goals as goal

pub invariant_of-self : goal.invariant_of-self
invariant_of-self c =
    write_stored _ _ _ _ _ c.args.slot c.args.entry (record { are = c.self.invariant; is = c.self.view_is; low = c.requires.slot_below; size_is = refl; small = c.requires.small; large = c.requires.large })

pub returns-clause-written : goal.returns-clause-written
returns-clause-written c =
    write_facts _ _ _ _ _ c.args.slot c.args.entry (record { are = c.self.invariant; is = c.self.view_is; low = c.requires.slot_below; size_is = refl; small = c.requires.small; large = c.requires.large })

pub returns-clause-others : goal.returns-clause-others
returns-clause-others c =
    write_others _ _ _ _ _ c.args.slot c.args.entry (record { are = c.self.invariant; is = c.self.view_is; low = c.requires.slot_below; size_is = refl; small = c.requires.small; large = c.requires.large })
