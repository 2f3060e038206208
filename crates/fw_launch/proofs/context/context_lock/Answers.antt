use Rattle.std.proofs.Common.{◌∙◌, Option, ℕ, sym, ap}
use Rattle.snp_model.specs.FirmwareLocks.{takes_context}
use Rattle.snp_model.specs.HeldContexts.{HeldContext}
use Rattle.fw_launch.specs.Commits.{refusal_of}
use Rattle.fw_launch.proofs.PassedLaws.{is_passed}
use Rattle.fw_launch.proofs.context.context_lock.Goals as goal

pub returns-in-Ok-clause-passed : goal.returns-in-Ok-clause-passed
returns-in-Ok-clause-passed c = λ ok.
    is_passed c.args.guests.now c.args.command.now c.args.context.now.context
    (sym c.has_equal_frames.ensures ∙ c.if-has_equal_frames.false)
    (ap (λ (held : HeldContext). takes_context c.args.command.now held.context.state held.context.bound) (sym c.context.view_is) ∙ sym c.takes_context.ensures ∙ c.if-not-takes_context.false)
    (sym c.further_test.ensures ∙ ap (λ (status : Option ℕ). refusal_of status) c.in-None.is)
