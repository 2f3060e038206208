use Rattle.std.proofs.Common.{ℕ, sym, ◌∙◌, arith}
use Rattle.scenario_text.specs.Pages.{gpn_taken}
use Rattle.scenario_text.proofs.PagesLaws.{some_in, none_in}
use Rattle.scenario_text.proofs.taken.Taken.has_gpns.Goals as goal

pub returns-then-contains : goal.returns-then-contains
returns-then-contains c =
    some_in (λ (gpn : ℕ). gpn_taken c.args.self.now (c.args.guest, gpn)) c.args.base c.args.count c.loop-gpn.gpn (omega arith) (omega arith) (sym c.contains.ensures ∙ c.if-contains.true)

pub returns : goal.returns
returns c =
    none_in (λ (gpn : ℕ). gpn_taken c.args.self.now (c.args.guest, gpn)) c.args.base c.args.count (λ n low high. c.loop-gpn.invariant n low (omega arith))
