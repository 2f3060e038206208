-- An event that is refused leaves the contents as they were.
use Rattle.std.proofs.Common.{◌≡◌, ◌≢◌, ℕ, ◌-◌, true, false, List, Option, Some, unwrap_or, Result, Ok, Err, refl, sym, ap, ◌∙◌, None}
use Rattle.std.proofs.lemmas.Bool.{false≢true}
use Rattle.snp_model.specs.declared.command.Command.{Command}
use Rattle.snp_model.specs.declared.event.FwRefusal.{FwRefusal}
use Rattle.snp_model.specs.declared.event.Outcome.{Outcome}
use Rattle.snp_model.specs.declared.event.Outcome.TheVariants as outcomes
use Rattle.snp_model.specs.declared.item.Op.{Op}
use Rattle.snp_model.specs.declared.item.Op.TheVariants as ops
use Rattle.snp_model.specs.FirmwareStep.{context_taken, computed_move, commit_move}
use Rattle.snp_model.specs.declared.scenario.Scenario.{Scenario}
use Rattle.snp_model.specs.Locks.{context_holder_of, holder_of, view_of}
use Rattle.snp_model.specs.Moves.{Move, lock_move}
use Rattle.snp_model.specs.Operations.{outcome_of}
use Rattle.snp_model.specs.Run.{IsDefined, state_after}
use Rattle.snp_model.specs.Sound.{IsSound}
use Rattle.snp_model.specs.State.{PageLock, Contents, Computed, ActorPart, Standing, State, nothing_taken, part_of, IsUnfinished}
use Rattle.snp_model.specs.Step.{part_after, item_move, event_of, after, line_at}
use Rattle.run_laws.specs.KeptLocks.{KeepsLocks, recontexted, relocked}
use Rattle.run_laws.specs.OpenAttempts.{IsWalking}
use Rattle.run_laws.proofs.ContextLaws.{context_holders_after}
use Rattle.run_laws.proofs.HolderLaws.{holders_after}
use Rattle.run_laws.proofs.LockedRuns.{part_walking}
use Rattle.run_laws.proofs.RunLaws.{after_part, after_other, unfinished_at}
use Rattle.run_laws.proofs.SealedRuns.{run_order}
use Rattle.run_theorems.specs.Refusals.{LetsGo, is_refusal}
use Rattle.run_theorems.proofs.EventLaws.{OfPlain, OfCommand, every_event}

-- a move that is refused leaves these contents
abbrev IsStill : Contents → Move → Type 0
IsStill contents move = (outcome : Outcome) → move.outcome ≡ Some outcome → is_refusal outcome ≡ true → move.contents ≡ contents

-- what an outcome that is no refusal is told as isn't one either
fine : (given outcome : Outcome) → is_refusal given ≡ false → Some given ≡ Some outcome → is_refusal outcome ≡ true → ⊥
fine given outcome good is refused = false≢true (sym good ∙ ap (λ (o : Option Outcome). is_refusal (unwrap_or o outcomes.Gp)) is ∙ refused)

-- what an access that passed answers is no refusal
passed_fine : (op : Op) (word : ℕ) → is_refusal (outcome_of op word) ≡ false
passed_fine ops.Load word = refl
passed_fine (ops.Store value) word = refl
passed_fine (ops.Swap value) word = refl
passed_fine (ops.Compare expected next) word = refl
passed_fine (ops.Xor value) word = refl

lock_still : (contents : Contents) (part : ActorPart) (lock : PageLock) (refusal : Option Outcome) → IsStill contents (lock_move contents part lock refusal)
unfolding lock_move
lock_still contents part lock None outcome said refused = refl
lock_still contents part lock (Some ended) outcome said refused = refl

plain_still : (contents : Contents) (part : ActorPart) → OfPlain (IsStill contents) contents part
plain_still contents part = record {
  quiet = λ deed ended outcome said refused. refl;
  locks = λ lock. lock_still contents part lock None;
  accesses = λ deed op word pages outcome said refused. absurd (fine (outcome_of op word) outcome (passed_fine op word) said refused);
  succeeds = λ deed pages outcome said refused. absurd (fine (outcomes.Status 0) outcome refl said refused);
  carries = λ deed carry pages outcome said refused. absurd (fine (outcomes.Carry carry) outcome refl said refused);
}

taken_still : (contents : Contents) (part : ActorPart) (guest : ℕ) (refusal : Option FwRefusal) → IsStill contents (context_taken contents part guest refusal)
unfolding context_taken
taken_still contents part guest None outcome said refused = refl
taken_still contents part guest (Some refusal) outcome said refused = refl

computed_still : (contents : Contents) (part : ActorPart) (result : Result Computed FwRefusal) → IsStill contents (computed_move contents part result)
unfolding computed_move
computed_still contents part (Ok made) outcome said refused = refl
computed_still contents part (Err refusal) outcome said refused = refl

commit_still : (contents : Contents) (part : ActorPart) (command : Command) → IsStill contents (commit_move contents part command)
unfolding commit_move
commit_still contents part command outcome said refused = absurd (fine (outcomes.Firmware 0) outcome refl said refused)

command_still : (contents : Contents) (part : ActorPart) (command : Command) → OfCommand (IsStill contents) contents part command
command_still contents part command = record {
  takes = taken_still contents part;
  locks = lock_still contents part;
  computes = computed_still contents part;
  commits = commit_still contents part command;
  misplaced = λ outcome said refused. refl;
}

-- so each actor's step
pub refused_still : (m : State) (actor : ℕ) (outcome : Outcome) → (event_of m actor).outcome ≡ Some outcome → is_refusal outcome ≡ true → (after m actor).contents ≡ m.contents
unfolding event_of after
refused_still m actor =
    let part = part_of m actor in
    every_event (IsStill m.contents) m.frames m.guests (view_of m) part part.role (line_at part.script part.item).item (λ plain. plain_still m.contents part) (λ command is. command_still m.contents part command)

-- the end of an attempt releases all
closed : (part : ActorPart) (move : Move) (ended : Option Outcome) (outcome : Outcome) → ended ≡ Some outcome → (part_after part move ended).standing ≡ nothing_taken
unfolding part_after
closed part move ended outcome is = ap (λ (o : Option Outcome). (part_after part move o).standing) is

pub end_releases : (m : State) (actor : ℕ) (outcome : Outcome) → IsUnfinished m actor → (event_of m actor).outcome ≡ Some outcome → (part_of (after m actor) actor).standing ≡ nothing_taken
unfolding event_of
end_releases m actor outcome unfinished said =
    let move = item_move m.frames m.guests (view_of m) (part_of m actor) (part_of m actor).role (line_at (part_of m actor).script (part_of m actor).item).item in
    ap (λ (part : ActorPart). part.standing) (after_part m actor (unfinished_at m actor unfinished).within) ∙ closed (part_of m actor) move move.outcome outcome said

-- other actors stay
pub others_stay : (m : State) (actor other : ℕ) → other - 1 ≢ actor - 1 → part_of (after m actor) other ≡ part_of m other
others_stay m actor other apart = after_other m actor other apart

-- so what it had locked is free
lets_go : (m : State) (actor : ℕ) (outcome : Outcome) → KeepsLocks m → IsWalking m.frames (part_of m actor) → IsUnfinished m actor → (event_of m actor).outcome ≡ Some outcome → LetsGo m actor
lets_go m actor outcome keeps walking unfinished said =
    let nothing = end_releases m actor outcome unfinished said in
    record {
      frames = λ frame.
          ap (λ (holder : ℕ → Option ℕ). holder frame) (holders_after m actor keeps walking unfinished.0)
          ∙ ap (λ (standing : Standing). relocked actor standing.locks (holder_of m) frame) nothing;
      contexts = λ guest.
          ap (λ (holder : ℕ → Option ℕ). holder guest) (context_holders_after m actor keeps walking unfinished.0)
          ∙ ap (λ (standing : Standing). recontexted actor standing.context_lock (context_holder_of m) guest) nothing;
    }

pub run_lets_go : (scenario : Scenario) (schedule : List ℕ) (actor : ℕ) (outcome : Outcome) → IsSound scenario → IsDefined scenario schedule
    → IsUnfinished (state_after scenario schedule) actor → (event_of (state_after scenario schedule) actor).outcome ≡ Some outcome → LetsGo (state_after scenario schedule) actor
run_lets_go scenario schedule actor outcome sound defined unfinished said =
    let m = state_after scenario schedule in
    let order = run_order scenario schedule sound defined in
    lets_go m actor outcome order.locks (part_walking m actor order.walking unfinished) unfinished said
