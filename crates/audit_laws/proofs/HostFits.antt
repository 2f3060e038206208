-- The numbers in the events of hypervisor processors, and of skips, fit their types.
use Rattle.std.proofs.Common.{◌≡◌, ℕ, zero, suc, ◌+◌, ◌*◌, ◌/◌, ◌^◌, ◌<◌, false, not, List, [], ◌∷◌, Option, Some, None, arith}
use Rattle.std.specs.Option.{option_or}
use Rattle.std.proofs.lemmas.Bool.{cond_both}
use Rattle.std.proofs.lemmas.Bool.Decides.{nat_tests}
use Rattle.snp_model.specs.declared.access.Verdict.{Verdict}
use Rattle.snp_model.specs.declared.access.Verdict.TheVariants.{Pass, Hidden, Fault}
use Rattle.snp_model.specs.declared.entry.RmpEntry.{RmpEntry}
use Rattle.snp_model.specs.declared.event.Deed.TheVariants as deeds
use Rattle.snp_model.specs.declared.event.Outcome.{Outcome}
use Rattle.snp_model.specs.declared.event.Refusal.{Refusal}
use Rattle.snp_model.specs.declared.item.Op.{Op}
use Rattle.snp_model.specs.declared.item.SkipTest.{SkipTest}
use Rattle.snp_model.specs.declared.item.Update.{Update}
use Rattle.snp_model.specs.Bounds.{IsSkip, IsUpdate}
use Rattle.snp_model.specs.Facts.{frames_in, some_frame}
use Rattle.snp_model.specs.InstructionStep.{facts_of, instruction_lock, update_move, smash_move}
use Rattle.snp_model.specs.Locks.{page_lock, range_holder}
use Rattle.snp_model.specs.Moves.{Move, lock_move}
use Rattle.snp_model.specs.RmpUpdate.{is_bad_update, is_bad_smash, overlaps, update_lock, update_range_refusal, update_refusal, smash_page_refusal, smash_refusal}
use Rattle.snp_model.specs.Skips.{skip_outcome, test_holds}
use Rattle.snp_model.specs.State.{ActorPart, Contents, PageLock, View}
use Rattle.snp_model.specs.Step.{access_move, host_access, skip_move}
use Rattle.snp_model.specs.Verdicts.{is_large}
use Rattle.snp_model.specs.Walking.{index_of}
use Rattle.run_laws.specs.HeldLocks.{IsOneLock, IsSmashLock, IsUpdateLock}
use Rattle.run_laws.specs.Uniqueness.{IsFull}
use Rattle.run_laws.proofs.TestedLaws.{smash_passes, update_passes}
use Rattle.run_theorems.specs.Ranges.{IsRanged}
use Rattle.report_text.specs.EventNumbers.{IsDeed}
use Rattle.audit_laws.proofs.CpuFits.{EndingFits, LooksAt, MoveFits, RefusalFits, VerdictFits, deed_fits, held_fits, host_fits, word_outcome}

-- all numbers of a move
pub record IsFitMove (move : Move) : Type 0 where
  pub deed : IsDeed move.deed
  pub outcome : EndingFits move.outcome

pub ranged_fits : (move : Move) → IsRanged move.deed → MoveFits move → IsFitMove move
ranged_fits move ranged fits = record { deed = deed_fits move.deed ranged fits.deed; outcome = fits.outcome }

-- an access
index_in : (address : ℕ) → index_of address < 512
index_in address = grind (arith)

verdict_fits : (contents : Contents) (part : ActorPart) (verdict : Verdict) (op : Op) (frame index : ℕ) → frame < 2 ^ 32 → index < 512 → IsFull (contents.pages frame).words → VerdictFits verdict
    → IsFitMove (access_move contents part (deeds.Host frame index) verdict op frame index)
unfolding access_move
verdict_fits contents part Pass op frame index small within full fits = record { deed = (small, omega (arith, within)); outcome = word_outcome op _ (full.fits index) }
verdict_fits contents part Hidden op frame index small within full fits = record { deed = (small, omega (arith, within)); outcome = tt }
verdict_fits contents part (Fault outcome) op frame index small within full fits = record { deed = (small, omega (arith, within)); outcome = fits }

pub host_access_fits : (frames : ℕ) (view : View) (part : ActorPart) (address : ℕ) (op : Op) → LooksAt frames view → address < 4096 * frames → IsFitMove (host_access view.contents part address op)
unfolding host_access
host_access_fits frames view part address op looks inside =
    let small = looks.small in
    verdict_fits view.contents part _ op (address / 4096) (index_of address) (omega (arith, small, inside)) (index_in address) (looks.words (address / 4096)) (host_fits (view.contents.pages (address / 4096)).facts op)

-- locks
first_or : (one other : Option ℕ) (h : ℕ) → ((k : ℕ) → one ≡ Some k → k < 2 ^ 32) → ((k : ℕ) → other ≡ Some k → k < 2 ^ 32) → option_or one other ≡ Some h → h < 2 ^ 32
first_or None other h first second is = second h is
first_or (Some k) other h first second is = first h is

range_fits : (holder : ℕ → Option ℕ) (base count h : ℕ) → ((frame k : ℕ) → holder frame ≡ Some k → k < 2 ^ 32) → range_holder holder base count ≡ Some h → h < 2 ^ 32
unfolding range_holder
range_fits holder base zero h small is = cc
range_fits holder base (suc count) h small is =
    first_or (holder base) (range_holder holder (base + 1) count) h (small base) (λ k there. range_fits holder (base + 1) count k small there) is

update_range_fits : (update : Update) (facts : ℕ → RmpEntry) (holder : ℕ → Option ℕ) → ((frame k : ℕ) → holder frame ≡ Some k → k < 2 ^ 32) → RefusalFits (update_range_refusal update facts holder)
unfolding update_range_refusal
update_range_fits update facts holder small =
    held_fits (range_holder holder 0 (frames_in update.size)) _ (λ h is. range_fits holder 0 (frames_in update.size) h small is)
    (cond_both (overlaps update.size facts) _ _ RefusalFits (λ _. omega arith) (λ _. cond_both (some_frame (λ place. (facts place).immutable) 0 (frames_in update.size)) _ _ RefusalFits (λ _. omega arith) (λ _. tt)))

update_refusal_fits : (frames : ℕ) (update : Update) (facts : ℕ → RmpEntry) (holder : ℕ → Option ℕ) → ((frame k : ℕ) → holder frame ≡ Some k → k < 2 ^ 32) → RefusalFits (update_refusal frames update facts holder)
unfolding update_refusal
update_refusal_fits frames update facts holder small =
    cond_both (is_bad_update frames update) _ _ RefusalFits (λ _. omega arith) (λ _. update_range_fits update facts holder small)

smash_page_fits : (facts : RmpEntry) (holder : Option ℕ) → ((k : ℕ) → holder ≡ Some k → k < 2 ^ 32) → RefusalFits (smash_page_refusal facts holder)
unfolding smash_page_refusal
smash_page_fits facts holder small =
    held_fits holder _ small (cond_both (not (is_large facts.size)) _ _ RefusalFits (λ _. omega arith) (λ _. cond_both facts.immutable _ _ RefusalFits (λ _. omega arith) (λ _. tt)))

smash_refusal_fits : (frames frame : ℕ) (facts : RmpEntry) (holder : Option ℕ) → ((k : ℕ) → holder ≡ Some k → k < 2 ^ 32) → RefusalFits (smash_refusal frames frame facts holder)
unfolding smash_refusal
smash_refusal_fits frames frame facts holder small = cond_both (is_bad_smash frames frame) _ _ RefusalFits (λ _. omega arith) (λ _. smash_page_fits facts holder small)

-- a lock that an instruction takes, or is refused
lock_move_fits : (view : View) (part : ActorPart) (lock : PageLock) (refusal : Option Refusal) → lock.frame < 2 ^ 64 → RefusalFits refusal → IsFitMove (instruction_lock view part lock refusal)
unfolding lock_move
lock_move_fits view part lock None small fits = record { deed = small; outcome = tt }
lock_move_fits view part lock (Some refusal) small fits = record { deed = small; outcome = fits }

-- RMPUPDATE
update_inside : (frames : ℕ) (update : Update) → is_bad_update frames update ≡ false → update.frame < frames
unfolding is_bad_update
update_inside frames update fine = grind (arith, nat_tests)

pub update_fits : (frames : ℕ) (view : View) (part : ActorPart) (update : Update) (locks : List PageLock) → LooksAt frames view → IsUpdate update → update.frame < 2 ^ 64
    → IsOneLock (IsUpdateLock frames view.contents update) locks → IsFitMove (update_move frames view part update locks)
unfolding update_move
update_fits frames view part update [] looks operands wide one =
    lock_move_fits view part (update_lock update) _ wide (update_refusal_fits frames update _ _ (λ place k is. looks.holders (update.frame + place) k is))
update_fits frames view part update (lock ∷ others) looks operands wide one =
    let inside = update_inside frames update (update_passes frames update _ _ one.0.passes).fine in
    let small = looks.small in
    let gpn = operands.1 in
    record { deed = (omega (arith, inside, small), omega (arith, gpn)); outcome = omega arith }

-- PSMASH
smash_inside : (frames frame : ℕ) → is_bad_smash frames frame ≡ false → frame < frames
unfolding is_bad_smash
smash_inside frames frame fine = grind (arith, nat_tests)

pub smash_fits : (frames : ℕ) (view : View) (part : ActorPart) (frame : ℕ) (locks : List PageLock) → LooksAt frames view → frame < 2 ^ 64
    → IsOneLock (IsSmashLock frames view.contents frame) locks → IsFitMove (smash_move frames view part frame locks)
unfolding smash_move
smash_fits frames view part frame [] looks wide one =
    lock_move_fits view part (page_lock (facts_of view.contents frame).size frame) _ wide (smash_refusal_fits frames frame (facts_of view.contents frame) (view.holder frame) (looks.holders frame))
smash_fits frames view part frame (lock ∷ others) looks wide one =
    let inside = smash_inside frames frame (smash_passes frames frame _ None one.0.passes).fine in
    let small = looks.small in
    record { deed = (omega (arith, inside, small), looks.gpns frame); outcome = omega arith }

-- skips, whatever the role
skip_outcome_fits : (count : ℕ) (test : SkipTest) (last : Option Outcome) → IsSkip count → EndingFits (Some (skip_outcome count test last))
unfolding skip_outcome
skip_outcome_fits count test None is = tt
skip_outcome_fits count test (Some last) is =
    let most = is.1 in
    cond_both (test_holds test last) _ _ (λ (outcome : Outcome). EndingFits (Some outcome)) (λ _. omega (arith, most)) (λ _. tt)

pub skip_fits : (contents : Contents) (part : ActorPart) (count : ℕ) (test : SkipTest) → IsSkip count → IsFitMove (skip_move contents part count test)
skip_fits contents part count test is = record { deed = tt; outcome = skip_outcome_fits count test part.last is }
