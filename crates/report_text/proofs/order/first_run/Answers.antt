use Rattle.std.proofs.Common.{◌≡◌, ℕ, List, ◌∷◌, ◌+◌, ◌-◌, drop, ap, ◌∙◌, arith}
use Rattle.std.proofs.lemmas.List.{drop_all}
use Rattle.snp_model.specs.Journal.{actors_of}
use Rattle.snp_model.specs.Report.{runs_after, runs_of}
use Rattle.report_text.proofs.Lines.{entry_at, length-actors, run_begins, run_goes_on, run_ends, run_ends_all}
use Rattle.report_text.proofs.order.first_run.Goals as goal

pub run-init : goal.run-init
run-init c =
    let at = c.args.at in
    let actor = c.actor-actor.result in
    let actors = actors_of c.args.journal.now.list in
    let one : 1 ≡ at + 1 - at = omega arith in
    record {
      later = omega arith;
      within = omega arith;
      run = ap (λ (xs : List ℕ). runs_of xs) (entry_at actors at _ c.actor-actor.ensures) ∙ run_begins _ _ ∙ ap (λ (n : ℕ). runs_after actor n (drop (at + 1) actors)) one;
    }

pub returns-then-next-actor-clause-run : goal.returns-then-next-actor-clause-run
returns-then-next-actor-clause-run c =
    let at = c.args.at in
    let end = c.run.end in
    let actor = c.actor-actor.result in
    let actors = actors_of c.args.journal.now.list in
    let place : end ≡ at + (end - at) = omega arith in
    c.run.invariant.run ∙ run_ends actor (end - at) _ _ _ (entry_at actors c.run.end _ c.actor-next.ensures) c.if-next-actor.true
    ∙ ap (λ (k : ℕ). (actor, end - at) ∷ runs_of (drop k actors)) place

pub run-preserved : goal.run-preserved
run-preserved c =
    let at = c.args.at in
    let end = c.run.end in
    let actor = c.actor-actor.result in
    let actors = actors_of c.args.journal.now.list in
    let more : end - at + 1 ≡ end + 1 - at = omega arith in
    record {
      later = omega arith;
      within = omega arith;
      run = c.run.invariant.run ∙ run_goes_on actor (end - at) _ _ _ (entry_at actors c.run.end _ c.actor-next.ensures) c.if-next-actor.false ∙ ap (λ (n : ℕ). runs_after actor n (drop (end + 1) actors)) more;
    }

pub returns-clause-run : goal.returns-clause-run
returns-clause-run c =
    let at = c.args.at in
    let end = c.run.end in
    let actor = c.actor-actor.result in
    let actors = actors_of c.args.journal.now.list in
    let place : end ≡ at + (end - at) = omega arith in
    c.run.invariant.run ∙ run_ends_all actor (end - at) _ (drop_all end actors (omega (arith, length-actors c.args.journal.now.list)))
    ∙ ap (λ (k : ℕ). (actor, end - at) ∷ runs_of (drop k actors)) place
