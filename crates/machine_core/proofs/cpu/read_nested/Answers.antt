use Rattle.std.proofs.Common.{List, ℕ, None, Some, sym, subst}
use Rattle.snp_model.specs.Walking.{walk_need}
use Rattle.machine_core.specs.Walks.{IsReading}
use Rattle.machine_core.specs.Moves.{processor_of}
use Rattle.machine_core.proofs.CpuLaws.{nested_shown}
use Rattle.machine_core.proofs.cpu.read_nested.Goals as goal

pub returns-in-None : goal.returns-in-None
returns-in-None g c =
    let walker = c.args.walker.now in
    nested_shown c.args.frames (processor_of walker.cpu) walker.lookup c.args.actor.now.deeds c.args.frame c.args.index _ _ _ _ _ None _ c.table_word-value.ensures c.requires.stands c.nested_words-words.ensures
    c.in-None.is c.fault_by_nested.ensures c.quiet.ensures

pub returns-in-Some : goal.returns-in-Some
returns-in-Some g c =
    let walker = c.args.walker.now in
    nested_shown c.args.frames (processor_of walker.cpu) walker.lookup c.args.actor.now.deeds c.args.frame c.args.index _ _ _ _ _ (Some c.in-Some.code) _ c.table_word-value.ensures c.requires.stands c.nested_words-words.ensures
    c.in-Some.is c.fault_by_nested.ensures c.last.ensures

pub fault_by_nested-requires-clause-reads : goal.fault_by_nested-requires-clause-reads
fault_by_nested-requires-clause-reads g c =
    let walker = c.args.walker.now in
    let P : List ℕ → Type 0 = λ words. IsReading (walk_need c.args.frames walker.cpu.npt walker.lookup c.args.stands words) in
    subst P (sym c.nested_words-words.ensures) c.requires.reads
