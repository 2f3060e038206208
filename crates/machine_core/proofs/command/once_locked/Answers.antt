use Rattle.std.proofs.Common.{Option, sym, ap, ◌∙◌}
use Rattle.std.specs.Option.{option_map}
use Rattle.snp_model.specs.Sealing.{sealing_of}
use Rattle.machine_core.specs.declared.sealing.Sealing.{Sealing}
use Rattle.machine_core.specs.Seals.{sealing_by}
use Rattle.machine_core.proofs.CommandLaws.{committing, computing, sealing_none}
use Rattle.machine_core.proofs.command.once_locked.Goals as goal

pub returns-in-None-clause-phase : goal.returns-in-None-clause-phase
returns-in-None-clause-phase c =
    sealing_none (sealing_of c.args.command.now) c.args.actor.now.standing.computed (sym c.sealing_of.ensures ∙ ap (λ (o : Option Sealing). option_map sealing_by o) c.in-None.is)

pub returns-in-None-clause-commits : goal.returns-in-None-clause-commits
returns-in-None-clause-commits c = sym c.sealing_of.ensures ∙ ap (λ (o : Option Sealing). option_map sealing_by o) c.in-None.is

pub returns-then-has_made-clause-phase : goal.returns-then-has_made-clause-phase
returns-then-has_made-clause-phase c =
    committing (sealing_by c.in-Some.sealing) (sealing_of c.args.command.now) c.args.actor.now.standing.computed (sym c.sealing_of.ensures ∙ ap (λ (o : Option Sealing). option_map sealing_by o) c.in-Some.is)
    (sym c.has_made.ensures ∙ c.if-has_made.true)

pub returns-then-has_made-clause-commits : goal.returns-then-has_made-clause-commits
returns-then-has_made-clause-commits c = sym c.sealing_of.ensures ∙ ap (λ (o : Option Sealing). option_map sealing_by o) c.in-Some.is

pub returns-else-has_made-clause-phase : goal.returns-else-has_made-clause-phase
returns-else-has_made-clause-phase c =
    computing (sealing_by c.in-Some.sealing) (sealing_of c.args.command.now) c.args.actor.now.standing.computed (sym c.sealing_of.ensures ∙ ap (λ (o : Option Sealing). option_map sealing_by o) c.in-Some.is)
    (sym c.has_made.ensures ∙ c.if-has_made.false)
