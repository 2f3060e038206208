use Rattle.std.proofs.Common.{refl, sym, ap, ◌∙◌}
use Rattle.snp_model.specs.HeldContexts.{HeldContext}
use Rattle.snp_model.specs.Sealing.{opens_as}
use Rattle.machine_core.specs.Seals.{what_by}
use Rattle.machine_core.proofs.ComputeLaws.{opened_foreign, opened_refused, opened_taken}
use Rattle.machine_core.proofs.compute.unseal.Goals as goal

pub returns-in-Err : goal.returns-in-Err
returns-in-Err c = sym (opened_refused (what_by c.args.what) c.args.context.now.context c.args.kept.now c.in-Some.entry c.args.words.now c.in-Err.refusal c.in-Some.is (c.unseal_page.ensures.refused c.in-Err.refusal c.in-Err.is))

pub returns-then-opens_as : goal.returns-then-opens_as
returns-then-opens_as c =
    let asid = ap (λ (h : HeldContext). opens_as (what_by c.args.what) h.context.asid c.unseal_page.new.words) (sym c.context.view_is) in
    sym (opened_taken (what_by c.args.what) c.args.context.now.context c.args.kept.now c.in-Some.entry c.args.words.now c.unseal_page.new.words c.in-Some.is (c.in-Ok.ensures.opened refl) (asid ∙ sym c.opens_as.ensures ∙ c.if-opens_as.true))

pub returns-else-opens_as : goal.returns-else-opens_as
returns-else-opens_as c =
    let asid = ap (λ (h : HeldContext). opens_as (what_by c.args.what) h.context.asid c.unseal_page.new.words) (sym c.context.view_is) in
    sym (opened_foreign (what_by c.args.what) c.args.context.now.context c.args.kept.now c.in-Some.entry c.args.words.now c.unseal_page.new.words c.in-Some.is (c.in-Ok.ensures.opened refl) (asid ∙ sym c.opens_as.ensures ∙ c.if-opens_as.false))
