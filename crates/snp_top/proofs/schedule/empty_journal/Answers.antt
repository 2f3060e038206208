use Rattle.std.proofs.Common.{◌≡◌, ℕ, ◌*◌, [], IfOk, ap, ◌∙◌, subst, arith}
use Rattle.snp_model.specs.Attempts.{actors_attempts, attempts_of}
use Rattle.snp_model.specs.Journal.{JournalImage}
use Rattle.snp_top.proofs.ScheduleLaws.{attempts_few}
use Rattle.snp_top.proofs.schedule.empty_journal.Goals as goal

pub count_attempts-attempts-requires : goal.count_attempts-attempts-requires
count_attempts-attempts-requires c = rw c.as_slice.ensures (attempts_few c.args.scenario.now c.requires)

pub overflow_mul-attempts : goal.overflow_mul-attempts
overflow_mul-attempts c =
    let few = attempts_few c.args.scenario.now c.requires in
    let counted : c.count_attempts-attempts.result ≡ actors_attempts c.args.scenario.now.actors = c.count_attempts-attempts.ensures ∙ ap actors_attempts c.as_slice.ensures in
    omega arith

pub returns : goal.returns
unfolding attempts_of
returns c =
    let counted : c.count_attempts-attempts.result ≡ actors_attempts c.args.scenario.now.actors = c.count_attempts-attempts.ensures ∙ ap actors_attempts c.as_slice.ensures in
    let empty : ℕ → JournalImage = λ attempts. record { list = []; room = 32 * attempts } in
    subst (λ (n : ℕ). IfOk c.with_room.result (λ journal. journal ≡ empty n)) counted c.with_room.ensures
