use Rattle.std.proofs.Common.{arith}
use Rattle.std.proofs.lemmas.List.FromFn.{fill_by_all}
use Rattle.snp_model.specs.Facts.{free_entry}
use Rattle.snp_model.specs.Entries.{facts_within}
use Rattle.rmp_table.proofs.table.spread.Goals as goal

pub returns : goal.returns
returns c =
    fill_by_all (facts_within c.args.head.now) c.slots.entries.items 512 free_entry c.slots.invariant.count (λ k low. c.slots.invariant.written k (omega arith))
