-- The open attempt of a command of the firmware: each event that leaves it open is the next of its locks, or its compute. So it has at most five deeds.
use Rattle.std.proofs.Common.{◌≡◌, inl, inr, ℕ, zero, suc, ◌+◌, ◌<◌, ◌≤◌, nat_le, List, [], ◌∷◌, ◌++◌, length, slice_get, Option, Some, None, Result, Ok, Err, refl, sym, ap, ◌∙◌, subst, ⊎_elim, arith, length-append}
use Rattle.std.specs.Prelude.{IsSome}
use Rattle.std.specs.Option.{option_map, option_or}
use Rattle.std.proofs.lemmas.Bool.{cond_both, true≢false}
use Rattle.std.proofs.lemmas.Bool.Decides.{nat_tests}
use Rattle.std.proofs.lemmas.List.{append-nil, append_assoc, map-append, length-map}
use Rattle.std.proofs.lemmas.Option.{slice_get_within}
use Rattle.snp_model.specs.declared.command.Command.{Command}
use Rattle.snp_model.specs.declared.command.Command.TheVariants as commands
use Rattle.snp_model.specs.declared.event.Deed.{Deed}
use Rattle.snp_model.specs.declared.event.Deed.TheVariants as deeds
use Rattle.snp_model.specs.declared.event.FwRefusal.{FwRefusal}
use Rattle.snp_model.specs.declared.event.Outcome.{Outcome}
use Rattle.snp_model.specs.declared.scenario.GuestSpec.{GuestSpec}
use Rattle.snp_model.specs.Firmware.{CommandPage, guest_of, pages_of}
use Rattle.snp_model.specs.FirmwareLocks.{frame_refusal}
use Rattle.snp_model.specs.FirmwareStep.{Phase, TakeContext, TakePage, Computing, Committing, pages_phase, context_phase, refused, context_taken, take_context, lock_refusal, take_page, computed_move, commit_deed, commit_move, phase_move, firmware_move}
use Rattle.snp_model.specs.Moves.{Move, lock_move}
use Rattle.snp_model.specs.Sealing.{Sealing, sealing_of, compute_of}
use Rattle.snp_model.specs.State.{PageLock, Computed, Contents, Standing, ActorPart, View, nothing_taken}
use Rattle.run_laws.specs.OpenAttempts.{IsLockOf, AreLocksOf, context_deeds, lock_deeds, compute_deeds, IsCommand, ReadsMemory}

-- after a move that leaves the attempt open it is as a command's is to be
record CommandStays (frames : ℕ) (command : Command) (part : ActorPart) (move : Move) : Type 0 where
  open_is : move.outcome ≡ None → IsCommand frames command move.standing (part.deeds ++ move.deed ∷ [])

-- the context is locked
context_done : (frames : ℕ) (command : Command) (part : ActorPart) (guest : ℕ) → Some guest ≡ guest_of command → part.standing ≡ nothing_taken → IsCommand frames command part.standing part.deeds
    → IsCommand frames command (record part.standing { context_lock = Some guest }) (part.deeds ++ deeds.LockContext guest ∷ [])
context_done frames command part guest owner none is =
    let locks = ap (λ (s : Standing). s.locks) none in
    let locked = ap (λ (s : Standing). s.context_lock) none in
    let computed = ap (λ (s : Standing). s.computed) none in
    record {
      context = inr owner;
      pages = is.pages;
      computed = is.computed;
      deeds = rw (is.deeds, locks, locked, computed) refl;
    }

taken_stays : (frames : ℕ) (command : Command) (contents : Contents) (part : ActorPart) (guest : ℕ) (refusal : Option FwRefusal) → Some guest ≡ guest_of command → part.standing ≡ nothing_taken → IsCommand frames command part.standing part.deeds
    → CommandStays frames command part (context_taken contents part guest refusal)
unfolding context_taken
taken_stays frames command contents part guest None owner none is = record { open_is = λ _. context_done frames command part guest owner none is }
taken_stays frames command contents part guest (Some refusal) owner none is = record { open_is = λ e. cc }

-- a frame outside memory is refused
frame_inside : (frames frame : ℕ) (rest : Option FwRefusal) → option_or (frame_refusal frames frame) rest ≡ None → frame < frames
unfolding frame_refusal
frame_inside frames frame rest =
    cond_both (nat_le frames frame) _ _ (λ (r : Option FwRefusal). option_or r rest ≡ None → frame < frames) (λ _ e. cc) (λ out e. grind (arith, nat_tests, out))

-- one lock more
locks_more : (frames : ℕ) (pages : List CommandPage) (locks : List PageLock) (page : CommandPage) (lock : PageLock) → AreLocksOf frames pages locks → slice_get pages (length locks) ≡ Some page → IsLockOf frames page lock
    → AreLocksOf frames pages (locks ++ lock ∷ [])
unfolding AreLocksOf
locks_more frames [] [] page lock are next is = cc
locks_more frames (first ∷ pages) [] page lock are next is = (subst (λ (p : CommandPage). IsLockOf frames p lock) (let e = next in cc) is, tt)
locks_more frames [] (other ∷ locks) page lock are next is = absurd are
locks_more frames (first ∷ pages) (other ∷ locks) page lock are next is = (are.0, locks_more frames pages locks page lock are.1 next is)

locks_few : (frames : ℕ) (pages : List CommandPage) (locks : List PageLock) → AreLocksOf frames pages locks → length locks ≤ length pages
unfolding AreLocksOf
locks_few frames pages [] are = omega arith
locks_few frames [] (lock ∷ locks) are = absurd are
locks_few frames (page ∷ pages) (lock ∷ locks) are = let rest = locks_few frames pages locks are.1 in omega arith

-- before a page is made, the deeds are those of the locks
before_made : (frames : ℕ) (command : Command) (part : ActorPart) → None ≡ part.standing.computed → IsCommand frames command part.standing part.deeds
    → part.deeds ≡ context_deeds part.standing.context_lock ++ lock_deeds part.standing.locks
before_made frames command part none is =
    is.deeds
    ∙ ap (λ (c : Option Computed). context_deeds part.standing.context_lock ++ lock_deeds part.standing.locks ++ compute_deeds c) (sym none)
    ∙ append-nil (context_deeds part.standing.context_lock ++ lock_deeds part.standing.locks)

-- a page is locked
page_done : (frames : ℕ) (command : Command) (part : ActorPart) (page : CommandPage) (lock : PageLock) → part.standing.context_lock ≡ guest_of command → slice_get (pages_of command) (length part.standing.locks) ≡ Some page
    → None ≡ part.standing.computed → IsLockOf frames page lock → IsCommand frames command part.standing part.deeds
    → IsCommand frames command (record part.standing { locks = part.standing.locks ++ lock ∷ [] }) (part.deeds ++ deeds.Lock lock.frame ∷ [])
page_done frames command part page lock owner next none lock_is is =
    record {
      context = inr owner;
      pages = locks_more frames (pages_of command) part.standing.locks page lock is.pages next lock_is;
      computed = λ some. absurd (true≢false (sym (subst IsSome (sym none) some)));
      deeds =
          ap (λ (ds : List Deed). ds ++ deeds.Lock lock.frame ∷ []) (before_made frames command part none is)
          ∙ append_assoc (context_deeds part.standing.context_lock) (lock_deeds part.standing.locks) (deeds.Lock lock.frame ∷ [])
          ∙ ap (λ (ds : List Deed). context_deeds part.standing.context_lock ++ ds) (sym (map-append (λ (l : PageLock). deeds.Lock l.frame) part.standing.locks (lock ∷ [])))
          ∙ sym (append-nil (context_deeds part.standing.context_lock ++ lock_deeds (part.standing.locks ++ lock ∷ [])))
          ∙ ap (λ (c : Option Computed). context_deeds part.standing.context_lock ++ lock_deeds (part.standing.locks ++ lock ∷ []) ++ compute_deeds c) none;
    }

lock_stays : (frames : ℕ) (command : Command) (contents : Contents) (part : ActorPart) (page : CommandPage) (lock : PageLock) (rest : Option FwRefusal) (refusal : Option FwRefusal) → refusal ≡ option_or (frame_refusal frames page.frame) rest
    → ((inside : page.frame < frames) → IsLockOf frames page lock)
    → part.standing.context_lock ≡ guest_of command → slice_get (pages_of command) (length part.standing.locks) ≡ Some page → None ≡ part.standing.computed → IsCommand frames command part.standing part.deeds
    → CommandStays frames command part (lock_move contents part lock (option_map refused refusal))
unfolding lock_move
lock_stays frames command contents part page lock rest None refusal_is lock_is owner next none is =
    record { open_is = λ _. page_done frames command part page lock owner next none (lock_is (frame_inside frames page.frame rest (sym refusal_is))) is }
lock_stays frames command contents part page lock rest (Some refusal) refusal_is lock_is owner next none is = record { open_is = λ e. cc }

page_stays : (frames : ℕ) (guests : List GuestSpec) (view : View) (command : Command) (part : ActorPart) (page : CommandPage)
    → part.standing.context_lock ≡ guest_of command → slice_get (pages_of command) (length part.standing.locks) ≡ Some page → None ≡ part.standing.computed → IsCommand frames command part.standing part.deeds
    → CommandStays frames command part (take_page frames guests view part command page)
unfolding take_page lock_refusal
page_stays frames guests view command part page owner next none is =
    lock_stays frames command view.contents part page _ _ _ refl (λ inside. record { size = _; covers = refl; inside = inside }) owner next none is

-- past the end of a list
past_all : {A : Type 0} (xs : List A) (k : ℕ) → slice_get xs k ≡ None → length xs ≤ k
past_all [] k none = omega arith
past_all (x ∷ xs) zero none = cc
past_all (x ∷ xs) (suc k) none = let rest = past_all xs k none in omega arith

-- a page is made
compute_done : (frames : ℕ) (command : Command) (part : ActorPart) (sealing : Sealing) (made : Computed) → part.standing.context_lock ≡ guest_of command → None ≡ slice_get (pages_of command) (length part.standing.locks)
    → Some sealing ≡ sealing_of command → None ≡ part.standing.computed → IsCommand frames command part.standing part.deeds
    → IsCommand frames command (record part.standing { computed = Some made }) (part.deeds ++ deeds.Compute ∷ [])
compute_done frames command part sealing made owner over seals none is =
    let few = locks_few frames (pages_of command) part.standing.locks is.pages in
    let all = past_all (pages_of command) (length part.standing.locks) (sym over) in
    record {
      context = inr owner;
      pages = is.pages;
      computed = λ _. (subst IsSome seals refl, omega arith);
      deeds = ap (λ (ds : List Deed). ds ++ deeds.Compute ∷ []) (before_made frames command part none is);
    }

compute_stays : (frames : ℕ) (command : Command) (contents : Contents) (part : ActorPart) (sealing : Sealing) (result : Result Computed FwRefusal) → part.standing.context_lock ≡ guest_of command
    → None ≡ slice_get (pages_of command) (length part.standing.locks) → Some sealing ≡ sealing_of command → None ≡ part.standing.computed → IsCommand frames command part.standing part.deeds
    → CommandStays frames command part (computed_move contents part result)
unfolding computed_move
compute_stays frames command contents part sealing (Ok made) owner over seals none is = record { open_is = λ _. compute_done frames command part sealing made owner over seals none is }
compute_stays frames command contents part sealing (Err refusal) owner over seals none is = record { open_is = λ e. cc }

commit_stays : (frames : ℕ) (command : Command) (contents : Contents) (part : ActorPart) → CommandStays frames command part (commit_move contents part command)
unfolding commit_move
commit_stays frames command contents part = record { open_is = λ e. cc }

-- nothing was made before all pages are locked
made_is_late : (frames : ℕ) (command : Command) (part : ActorPart) (page : CommandPage) (made : Computed) → Some made ≡ part.standing.computed → Some page ≡ slice_get (pages_of command) (length part.standing.locks)
    → IsCommand frames command part.standing part.deeds → ⊥
made_is_late frames command part page made some next is =
    let all = is.computed (subst IsSome some refl) in
    let count = all.1 in
    let within = slice_get_within (pages_of command) (length part.standing.locks) page (sym next) in
    omega arith

-- so each event of a command, by what it needs
pages_stay : (frames : ℕ) (guests : List GuestSpec) (view : View) (command : Command) (part : ActorPart) (page : Option CommandPage) (sealing : Option Sealing) (computed : Option Computed)
    → page ≡ slice_get (pages_of command) (length part.standing.locks) → sealing ≡ sealing_of command → computed ≡ part.standing.computed → part.standing.context_lock ≡ guest_of command → IsCommand frames command part.standing part.deeds
    → CommandStays frames command part (phase_move frames guests view part command (pages_phase page sealing computed))
unfolding pages_phase phase_move
pages_stay frames guests view command part (Some page) sealing None page_is seals none owner is = page_stays frames guests view command part page owner (sym page_is) none is
pages_stay frames guests view command part (Some page) sealing (Some made) page_is seals some owner is = absurd (made_is_late frames command part page made some page_is is)
pages_stay frames guests view command part None (Some sealing) None page_is seals none owner is = compute_stays frames command view.contents part sealing (compute_of view.contents sealing) owner page_is seals none is
pages_stay frames guests view command part None (Some sealing) (Some made) page_is seals some owner is = commit_stays frames command view.contents part
pages_stay frames guests view command part None None computed page_is seals some owner is = commit_stays frames command view.contents part

context_stays : (frames : ℕ) (guests : List GuestSpec) (view : View) (command : Command) (part : ActorPart) (owner locked : Option ℕ) (later : Phase)
    → owner ≡ guest_of command → locked ≡ part.standing.context_lock → IsCommand frames command part.standing part.deeds
    → (part.standing.context_lock ≡ guest_of command → CommandStays frames command part (phase_move frames guests view part command later))
    → CommandStays frames command part (phase_move frames guests view part command (context_phase owner locked later))
unfolding context_phase phase_move take_context
context_stays frames guests view command part (Some guest) None later owner_is locked_is is stays =
    taken_stays frames command view.contents part guest _ owner_is
    (⊎_elim (λ (none : part.standing ≡ nothing_taken). none) (λ (same : part.standing.context_lock ≡ guest_of command). cc) is.context) is
context_stays frames guests view command part (Some guest) (Some locked) later owner_is locked_is is stays =
    stays (⊎_elim (λ (none : part.standing ≡ nothing_taken). let open_lock = ap (λ (s : Standing). s.context_lock) none in cc) (λ (same : part.standing.context_lock ≡ guest_of command). same) is.context)
context_stays frames guests view command part None locked later owner_is locked_is is stays =
    stays (⊎_elim (λ (none : part.standing ≡ nothing_taken). ap (λ (s : Standing). s.context_lock) none ∙ owner_is) (λ (same : part.standing.context_lock ≡ guest_of command). same) is.context)

pub command_stays : (frames : ℕ) (guests : List GuestSpec) (view : View) (part : ActorPart) (command : Command) → IsCommand frames command part.standing part.deeds
    → (firmware_move frames guests view part command).outcome ≡ None
    → IsCommand frames command (firmware_move frames guests view part command).standing (part.deeds ++ (firmware_move frames guests view part command).deed ∷ [])
command_stays frames guests view part command is open_is =
    (context_stays frames guests view command part (guest_of command) part.standing.context_lock _ refl refl is
    (λ owner. pages_stay frames guests view command part (slice_get (pages_of command) (length part.standing.locks)) (sealing_of command) part.standing.computed refl refl refl owner is)).open_is open_is

-- one that has not begun
pub command_begins : (frames : ℕ) (command : Command) → IsCommand frames command nothing_taken []
unfolding AreLocksOf
command_begins frames command = record { context = inl refl; pages = tt; computed = λ some. absurd (true≢false (sym some)); deeds = refl }

-- a command has three pages at most
pages_few : (command : Command) → length (pages_of command) ≤ 3
unfolding pages_of
pages_few (commands.GctxCreate guest frame) = omega arith
pages_few (commands.Activate guest asid) = omega arith
pages_few (commands.LaunchStart guest) = omega arith
pages_few (commands.LaunchUpdate guest frame page_type imi perms) = omega arith
pages_few (commands.LaunchFinish guest) = omega arith
pages_few (commands.MdInit frame) = omega arith
pages_few (commands.PageMove guest source target) = omega arith
pages_few (commands.SwapOut guest source target metadata entry) = omega arith
pages_few (commands.SwapIn guest source target metadata entry) = omega arith
pages_few (commands.Reclaim frame) = omega arith
pages_few (commands.MdOut guest source target metadata entry) = omega arith
pages_few (commands.MdIn guest source target metadata entry) = omega arith
pages_few (commands.MdRootOut guest source target) = omega arith
pages_few (commands.MdRootIn guest source target) = omega arith

context_deeds_few : (locked : Option ℕ) → length (context_deeds locked) ≤ 1
context_deeds_few None = omega arith
context_deeds_few (Some guest) = omega arith

compute_deeds_few : (computed : Option Computed) → length (compute_deeds computed) ≤ 1
compute_deeds_few None = omega arith
compute_deeds_few (Some made) = omega arith

-- so its attempt has five deeds at most before its commit
pub command_few : (frames : ℕ) (command : Command) (standing : Standing) (made : List Deed) → IsCommand frames command standing made → length made ≤ 5
command_few frames command standing made is =
    let count = ap length is.deeds
    ∙ length-append (context_deeds standing.context_lock ++ lock_deeds standing.locks) (compute_deeds standing.computed)
    ∙ ap (λ (n : ℕ). n + length (compute_deeds standing.computed)) (length-append (context_deeds standing.context_lock) (lock_deeds standing.locks)) in
    let locks = length-map standing.locks (λ (l : PageLock). deeds.Lock l.frame) in
    let context = context_deeds_few standing.context_lock in
    let computed = compute_deeds_few standing.computed in
    let few = locks_few frames (pages_of command) standing.locks is.pages in
    let pages = pages_few command in
    omega arith

-- no event of a command reads a word of a table
context_reads : (contents : Contents) (part : ActorPart) (guest : ℕ) (refusal : Option FwRefusal) → ReadsMemory contents (context_taken contents part guest refusal).deed
unfolding context_taken
context_reads contents part guest None = tt
context_reads contents part guest (Some refusal) = tt

page_reads : (contents : Contents) (part : ActorPart) (lock : PageLock) (refusal : Option Outcome) → ReadsMemory contents (lock_move contents part lock refusal).deed
unfolding lock_move
page_reads contents part lock None = tt
page_reads contents part lock (Some outcome) = tt

compute_reads : (contents : Contents) (part : ActorPart) (result : Result Computed FwRefusal) → ReadsMemory contents (computed_move contents part result).deed
unfolding computed_move
compute_reads contents part (Ok made) = tt
compute_reads contents part (Err refusal) = tt

commit_reads : (contents : Contents) (part : ActorPart) (command : Command) → ReadsMemory contents (commit_move contents part command).deed
unfolding commit_move commit_deed
commit_reads contents part (commands.GctxCreate guest frame) = tt
commit_reads contents part (commands.Activate guest asid) = tt
commit_reads contents part (commands.LaunchStart guest) = tt
commit_reads contents part (commands.LaunchUpdate guest frame page_type imi perms) = tt
commit_reads contents part (commands.LaunchFinish guest) = tt
commit_reads contents part (commands.MdInit frame) = tt
commit_reads contents part (commands.PageMove guest source target) = tt
commit_reads contents part (commands.SwapOut guest source target metadata entry) = tt
commit_reads contents part (commands.SwapIn guest source target metadata entry) = tt
commit_reads contents part (commands.Reclaim frame) = tt
commit_reads contents part (commands.MdOut guest source target metadata entry) = tt
commit_reads contents part (commands.MdIn guest source target metadata entry) = tt
commit_reads contents part (commands.MdRootOut guest source target) = tt
commit_reads contents part (commands.MdRootIn guest source target) = tt

phase_reads : (frames : ℕ) (guests : List GuestSpec) (view : View) (part : ActorPart) (command : Command) (phase : Phase) → ReadsMemory view.contents (phase_move frames guests view part command phase).deed
unfolding phase_move take_context take_page
phase_reads frames guests view part command (TakeContext guest) = context_reads view.contents part guest _
phase_reads frames guests view part command (TakePage page) = page_reads view.contents part _ _
phase_reads frames guests view part command (Computing sealing) = compute_reads view.contents part _
phase_reads frames guests view part command Committing = commit_reads view.contents part command

pub command_reads : (frames : ℕ) (guests : List GuestSpec) (view : View) (part : ActorPart) (command : Command) → ReadsMemory view.contents (firmware_move frames guests view part command).deed
command_reads frames guests view part command = phase_reads frames guests view part command _
