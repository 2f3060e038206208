use Rattle.std.proofs.Common.{ℕ, sym, ap, ◌∙◌}
use Rattle.snp_model.specs.declared.entry.PageSize.{PageSize}
use Rattle.snp_model.specs.Entries.{holder_at, refusal_answer, with_lock}
use Rattle.snp_model.specs.Locks.{range_lock}
use Rattle.rmp_update.specs.Regions.{first_slot}
use Rattle.rmp_update.proofs.LockLaws.{ok_none, range_held, tested_is}
use Rattle.rmp_update.proofs.RowLaws.{accepted_frame, large_rows, small_rows}
use Rattle.rmp_update.proofs.update.update_lock.Goals as goal

pub returns-in-Small-clause-answer : goal.returns-in-Small-clause-answer
returns-in-Small-clause-answer c = c.lock_frame.ensures.answer ∙ ap refusal_answer (sym (small_rows c.args.update.now c.args.rmp.now c.in-Small.is))

pub returns-in-Large-clause-answer : goal.returns-in-Large-clause-answer
returns-in-Large-clause-answer c =
    c.lock_region.ensures.answer
    ∙ ap refusal_answer (sym (large_rows c.args.update.now c.args.rmp.now c.in-Large.is (accepted_frame c.requires.accepted.0 c.args.update.now c.requires.accepted.1 c.in-Large.is)))

pub returns-in-Large-clause-locked : goal.returns-in-Large-clause-locked
returns-in-Large-clause-locked c =
    let first = accepted_frame c.requires.accepted.0 c.args.update.now c.requires.accepted.1 c.in-Large.is in
    let held = holder_at c.args.rmp.now in
    λ ok.
    c.lock_region.ensures.locked ok
    ∙ ap (λ (s : PageSize). with_lock (range_lock s 0) c.args.actor held) (sym c.in-Large.is)
    ∙ ap (λ (b : ℕ). with_lock (range_lock c.args.update.now.size b) c.args.actor held) (sym first)

pub returns-in-Small-clause-held : goal.returns-in-Small-clause-held
returns-in-Small-clause-held c =
    λ ok.
    range_held c.args.update.now c.args.rmp.now c.lock_frame.new.rmp c.args.actor
    (c.lock_frame.ensures.locked ok ∙ ap (λ (s : PageSize). with_lock (range_lock s (first_slot c.args.update.now)) c.args.actor (holder_at c.args.rmp.now)) (sym c.in-Small.is))

pub returns-in-Small-clause-tested : goal.returns-in-Small-clause-tested
returns-in-Small-clause-tested c =
    λ ok.
    tested_is c.args.update.now c.args.rmp.now c.lock_frame.new.rmp c.lock_frame.ensures.facts
    (ok_none _ c.lock_frame.result ok (c.lock_frame.ensures.answer ∙ ap refusal_answer (sym (small_rows c.args.update.now c.args.rmp.now c.in-Small.is))))

pub returns-in-Large-clause-held : goal.returns-in-Large-clause-held
returns-in-Large-clause-held c =
    let first = accepted_frame c.requires.accepted.0 c.args.update.now c.requires.accepted.1 c.in-Large.is in
    let held = holder_at c.args.rmp.now in
    λ ok.
    range_held c.args.update.now c.args.rmp.now c.lock_region.new.rmp c.args.actor
    (c.lock_region.ensures.locked ok
    ∙ ap (λ (s : PageSize). with_lock (range_lock s 0) c.args.actor held) (sym c.in-Large.is)
    ∙ ap (λ (b : ℕ). with_lock (range_lock c.args.update.now.size b) c.args.actor held) (sym first))

pub returns-in-Large-clause-tested : goal.returns-in-Large-clause-tested
returns-in-Large-clause-tested c =
    let first = accepted_frame c.requires.accepted.0 c.args.update.now c.requires.accepted.1 c.in-Large.is in
    λ ok.
    tested_is c.args.update.now c.args.rmp.now c.lock_region.new.rmp c.lock_region.ensures.facts
    (ok_none _ c.lock_region.result ok (c.lock_region.ensures.answer ∙ ap refusal_answer (sym (large_rows c.args.update.now c.args.rmp.now c.in-Large.is first))))
