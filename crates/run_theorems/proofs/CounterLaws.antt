-- A guest's counter never falls: only the commit of a command that seals changes it, by one.
use Rattle.std.proofs.Common.{◌≡◌, ℕ, ◌≤◌, ◌+◌, ◌==◌, Option, Some, None, Result, Ok, Err, refl, subst, arith}
use Rattle.std.proofs.lemmas.Bool.{cond_both, eqb-true}
use Rattle.snp_model.specs.declared.command.Command.{Command}
use Rattle.snp_model.specs.declared.command.Command.TheVariants as commands
use Rattle.snp_model.specs.declared.event.FwRefusal.{FwRefusal}
use Rattle.snp_model.specs.declared.event.Outcome.{Outcome}
use Rattle.snp_model.specs.Firmware.{guest_of}
use Rattle.snp_model.specs.FirmwareCommits.{at_guest, context_after, launched_into}
use Rattle.snp_model.specs.FirmwareStep.{context_taken, computed_move, commit_move, context_committed, contexts_after}
use Rattle.snp_model.specs.Locks.{view_of}
use Rattle.snp_model.specs.Moves.{Move, lock_move}
use Rattle.snp_model.specs.State.{PageLock, Context, Contexts, Contents, Computed, ActorPart, State, part_of}
use Rattle.snp_model.specs.Step.{after, line_at}
use Rattle.run_theorems.specs.Counters.{counter_of}
use Rattle.run_theorems.proofs.EventLaws.{OfPlain, OfCommand, every_event}

-- no counter of these contents falls in a move
abbrev pub Rises : Contents → Move → Type 0
Rises contents move = (guest : ℕ) → (contents.contexts guest).iv ≤ (move.contents.contexts guest).iv

level : (n : ℕ) → n ≤ n
level n = omega arith

one_up : (n m : ℕ) → m ≡ n + 1 → n ≤ m
one_up n m is = omega arith

same_up : (n m : ℕ) → m ≡ n → n ≤ m
same_up n m is = omega arith

lock_rises : (contents : Contents) (part : ActorPart) (lock : PageLock) (refusal : Option Outcome) → Rises contents (lock_move contents part lock refusal)
unfolding lock_move
lock_rises contents part lock None guest = level _
lock_rises contents part lock (Some outcome) guest = level _

plain_rises : (contents : Contents) (part : ActorPart) → OfPlain (Rises contents) contents part
plain_rises contents part = record {
  quiet = λ deed ended guest. level _;
  locks = λ lock. lock_rises contents part lock None;
  accesses = λ deed op word pages guest. level _;
  succeeds = λ deed pages guest. level _;
  carries = λ deed carry pages guest. level _;
}

taken_rises : (contents : Contents) (part : ActorPart) (guest : ℕ) (refusal : Option FwRefusal) → Rises contents (context_taken contents part guest refusal)
unfolding context_taken
taken_rises contents part owner None guest = level _
taken_rises contents part owner (Some refusal) guest = level _

computed_rises : (contents : Contents) (part : ActorPart) (result : Result Computed FwRefusal) → Rises contents (computed_move contents part result)
unfolding computed_move
computed_rises contents part (Ok made) guest = level _
computed_rises contents part (Err refusal) guest = level _

-- a commit to the context of a guest
put_rises : (owner : ℕ) (new : Context) (contexts : Contexts) → (contexts owner).iv ≤ new.iv → (guest : ℕ) → (contexts guest).iv ≤ (at_guest owner new contexts guest).iv
unfolding at_guest
put_rises owner new contexts rises guest =
    cond_both (owner == guest) _ _ (λ (context : Context). (contexts guest).iv ≤ context.iv) (λ own. subst (λ (g : ℕ). (contexts g).iv ≤ new.iv) (eqb-true owner guest own) rises) (λ apart. level _)

commit_rises : (contents : Contents) (part : ActorPart) (command : Command) → Rises contents (commit_move contents part command)
unfolding commit_move contexts_after context_committed context_after launched_into guest_of
commit_rises contents part (commands.GctxCreate owner frame) = put_rises owner _ contents.contexts (level _)
commit_rises contents part (commands.Activate owner asid) = put_rises owner _ contents.contexts (level _)
commit_rises contents part (commands.LaunchStart owner) = put_rises owner _ contents.contexts (level _)
commit_rises contents part (commands.LaunchUpdate owner frame page_type imi perms) = put_rises owner _ contents.contexts (level _)
commit_rises contents part (commands.LaunchFinish owner) = put_rises owner _ contents.contexts (level _)
commit_rises contents part (commands.MdInit frame) = λ guest. level _
commit_rises contents part (commands.PageMove owner source target) = put_rises owner _ contents.contexts (level _)
commit_rises contents part (commands.SwapOut owner source target metadata entry) = put_rises owner _ contents.contexts (one_up _ _ refl)
commit_rises contents part (commands.SwapIn owner source target metadata entry) = put_rises owner _ contents.contexts (level _)
commit_rises contents part (commands.Reclaim frame) = λ guest. level _
commit_rises contents part (commands.MdOut owner source target metadata entry) = put_rises owner _ contents.contexts (one_up _ _ refl)
commit_rises contents part (commands.MdIn owner source target metadata entry) = put_rises owner _ contents.contexts (level _)
commit_rises contents part (commands.MdRootOut owner source target) = put_rises owner _ contents.contexts (one_up _ _ refl)
commit_rises contents part (commands.MdRootIn owner source target) = put_rises owner _ contents.contexts (level _)

command_rises : (contents : Contents) (part : ActorPart) (command : Command) → OfCommand (Rises contents) contents part command
command_rises contents part command = record {
  takes = taken_rises contents part;
  locks = lock_rises contents part;
  computes = computed_rises contents part;
  commits = commit_rises contents part command;
  misplaced = λ guest. level _;
}

pub never_falls : (m : State) (actor guest : ℕ) → counter_of m guest ≤ counter_of (after m actor) guest
unfolding after
never_falls m actor =
    let part = part_of m actor in
    every_event (Rises m.contents) m.frames m.guests (view_of m) part part.role (line_at part.script part.item).item (λ plain. plain_rises m.contents part) (λ command is. command_rises m.contents part command)
