-- What the events of a command of the firmware do to locks: its context's, its pages', its compute and its commit.
use Rattle.std.proofs.Common.{◌≡◌, ◌≢◌, ℕ, zero, suc, ◌+◌, Bool, true, false, cond, eqb, List, [], ◌∷◌, ◌++◌, length, Option, Some, None, slice_get, unwrap_or, is_some, Result, Ok, Err, refl, sym, ap, ◌∙◌, subst, inl, inr, arith}
use Rattle.std.proofs.lemmas.Bool.{cond_both, true≢false, eqb-true}
use Rattle.std.proofs.lemmas.Bool.Decides.{nat_tests}
use Rattle.std.proofs.lemmas.List.Folds.{list_any_at}
use Rattle.std.proofs.lemmas.Option.{slice_get_within, get_or_from_slice_get}
use Rattle.std.specs.List.{list_any}
use Rattle.std.specs.Option.{option_map, option_or}
use Rattle.snp_model.specs.declared.command.Command.{Command}
use Rattle.snp_model.specs.declared.command.Command.TheVariants as commands
use Rattle.snp_model.specs.declared.entry.PageSize.TheVariants.{Small}
use Rattle.snp_model.specs.declared.entry.RmpEntry.{RmpEntry}
use Rattle.snp_model.specs.declared.event.Deed.TheVariants as deeds
use Rattle.snp_model.specs.declared.event.FwRefusal.{FwRefusal}
use Rattle.snp_model.specs.declared.event.FwRefusal.TheVariants as refusals
use Rattle.snp_model.specs.declared.event.Outcome.{Outcome}
use Rattle.snp_model.specs.declared.firmware.MetaEntry.{MetaEntry}
use Rattle.snp_model.specs.declared.firmware.Part.{Part}
use Rattle.snp_model.specs.declared.firmware.Part.TheVariants.{Source, Target}
use Rattle.snp_model.specs.declared.firmware.PageState.{PageState}
use Rattle.snp_model.specs.declared.firmware.PageState.TheVariants as states
use Rattle.snp_model.specs.declared.item.Item.TheVariants as items
use Rattle.snp_model.specs.declared.scenario.Role.TheVariants.{Firmware}
use Rattle.snp_model.specs.declared.scenario.GuestSpec.{GuestSpec}
use Rattle.snp_model.specs.Firmware.{CommandPage, guest_of, pages_of, has_equal_frames, invalid_param}
use Rattle.snp_model.specs.FirmwareCommits.{at_frame, at_guest, context_facts, launched_facts, metadata_facts, taken_facts, reclaim_facts, restored_facts, metadata_out_facts, given_back_facts, reclaimed_as, reclaimed_page}
use Rattle.snp_model.specs.FirmwareLocks.{guest_refusal, frame_refusal, context_refusal, page_refusal, page_extra, unless_held, takes_large}
use Rattle.snp_model.specs.FirmwareStep.{Phase, context_phase, pages_phase, refused, context_taken, take_context, command_asid, lock_refusal, take_page, computed_move, nothing_made, first_lock, pages_moved, pages_after, contexts_after, commit_move, phase_move, firmware_move}
use Rattle.snp_model.specs.Locks.{over_lock, covers, locks_frame, locks_context, page_lock, context_holder_from, view_of}
use Rattle.snp_model.specs.PageStates.{state_of}
use Rattle.snp_model.specs.Sealing.{What, GuestPage, MetadataPage, Slot, OfEntry, OfRoot, Sealing, sealing_of, compute_of, given_up, brought_back, with_slot_entry, pages_out, pages_in}
use Rattle.snp_model.specs.State.{Page, Pages, PageLock, Context, Contexts, Computed, ActorPart, State}
use Rattle.run_laws.specs.HeldLocks.{IsCommandLock, AreCommandLocks, AreItemLocks}
use Rattle.run_laws.specs.KeptLocks.{actor_at}
use Rattle.run_laws.proofs.CommandTests.{same_some, page_tests, lock_page, has_lock}
use Rattle.run_laws.proofs.HeldLocksLaws.{lock_freed, guest_context_freed}
use Rattle.run_laws.proofs.LockLaws.{page_free, own_covered, not_true, context_idle, first_none, others_none}
use Rattle.run_laws.proofs.LockedMoves.{IsFirm, firm_itself, Stands, MoveLocks, ended_locks, lock_locks, same_whole}
use Rattle.run_laws.proofs.TestedLaws.{let_through}

-- a page that isn't one of a command's
abbrev pub IsBeside : ℕ → List CommandPage → Type 0
IsBeside f pages = (number : ℕ) (page : CommandPage) → slice_get pages number ≡ Some page → page.frame ≢ f

at_other : (frame : ℕ) (page : Page) (pages : Pages) (f : ℕ) → frame ≢ f → at_frame frame page pages f ≡ pages f
unfolding at_frame
at_other frame page pages f other = cond_both (eqb frame f) _ _ (λ (p : Page). p ≡ pages f) (λ e. absurd (other (eqb-true frame f e))) (λ _. refl)

-- an entry is set in a metadata page, or in no page
abbrev IsSlotBeside : ℕ → Slot → Type 0
IsSlotBeside f (OfEntry metadata number) = metadata ≢ f
IsSlotBeside f OfRoot = Unit {0}

slot_other : (slot : Slot) (entry : Option MetaEntry) (pages : Pages) (f : ℕ) → IsSlotBeside f slot → with_slot_entry slot entry pages f ≡ pages f
unfolding with_slot_entry
slot_other (OfEntry metadata number) entry pages f other = at_other metadata _ pages f other
slot_other OfRoot entry pages f other = refl

out_other : (what : What) (source target : ℕ) (slot : Slot) (made : Computed) (pages : Pages) (f : ℕ) → source ≢ f → target ≢ f → IsSlotBeside f slot → pages_out what source target slot made pages f ≡ pages f
unfolding pages_out
out_other what source target slot made pages f not_source not_target beside =
    slot_other slot made.entry _ f beside ∙ at_other target _ _ f not_target ∙ at_other source _ pages f not_source

in_other : (what : What) (target : ℕ) (slot : Slot) (made : Computed) (pages : Pages) (f : ℕ) → target ≢ f → IsSlotBeside f slot → pages_in what target slot made pages f ≡ pages f
unfolding pages_in
in_other what target slot made pages f not_target beside = slot_other slot None _ f beside ∙ at_other target _ pages f not_target

over_other : (lock : PageLock) (change : Page → Page) (pages : Pages) (f : ℕ) → covers f lock ≡ false → over_lock lock change pages f ≡ pages f
over_other lock change pages f beside = rw beside refl

-- a commit changes the command's pages alone, or all that is locked
commit_other : (command : Command) (locks : List PageLock) (made : Computed) (pages : Pages) (f : ℕ) → IsBeside f (pages_of command) → ((frame : ℕ) → command ≡ commands.Reclaim frame → covers f (first_lock locks frame) ≡ false)
    → pages_after command locks made pages f ≡ pages f
unfolding pages_after pages_of pages_moved
commit_other (commands.GctxCreate guest frame) locks made pages f beside reclaimed = at_other frame _ pages f (beside 0 _ refl)
commit_other (commands.Activate guest asid) locks made pages f beside reclaimed = refl
commit_other (commands.LaunchStart guest) locks made pages f beside reclaimed = refl
commit_other (commands.LaunchUpdate guest frame page_type imi perms) locks made pages f beside reclaimed = at_other frame _ pages f (beside 0 _ refl)
commit_other (commands.LaunchFinish guest) locks made pages f beside reclaimed = refl
commit_other (commands.MdInit frame) locks made pages f beside reclaimed = at_other frame _ pages f (beside 0 _ refl)
commit_other (commands.PageMove guest source target) locks made pages f beside reclaimed = at_other target _ _ f (beside 1 _ refl) ∙ at_other source _ pages f (beside 0 _ refl)
commit_other (commands.SwapOut guest source target metadata entry) locks made pages f beside reclaimed = out_other GuestPage source target (OfEntry metadata entry) made pages f (beside 0 _ refl) (beside 1 _ refl) (beside 2 _ refl)
commit_other (commands.SwapIn guest source target metadata entry) locks made pages f beside reclaimed = in_other GuestPage target (OfEntry metadata entry) made pages f (beside 1 _ refl) (beside 2 _ refl)
commit_other (commands.Reclaim frame) locks made pages f beside reclaimed = over_other (first_lock locks frame) reclaimed_page pages f (reclaimed frame refl)
commit_other (commands.MdOut guest source target metadata entry) locks made pages f beside reclaimed = out_other MetadataPage source target (OfEntry metadata entry) made pages f (beside 0 _ refl) (beside 1 _ refl) (beside 2 _ refl)
commit_other (commands.MdIn guest source target metadata entry) locks made pages f beside reclaimed = in_other MetadataPage target (OfEntry metadata entry) made pages f (beside 1 _ refl) (beside 2 _ refl)
commit_other (commands.MdRootOut guest source target) locks made pages f beside reclaimed = out_other MetadataPage source target OfRoot made pages f (beside 0 _ refl) (beside 1 _ refl) tt
commit_other (commands.MdRootIn guest source target) locks made pages f beside reclaimed = in_other MetadataPage target OfRoot made pages f (beside 1 _ refl) tt

-- and no size, but for a page that is moved

-- a page keeps its size
abbrev KeepsSizes : Pages → Pages → Type 0
KeepsSizes new old = (f : ℕ) → (new f).facts.size ≡ (old f).facts.size

at_sizes : (frame : ℕ) (page : Page) (new old : Pages) → page.facts.size ≡ (old frame).facts.size → KeepsSizes new old → KeepsSizes (at_frame frame page new) old
unfolding at_frame
at_sizes frame page new old same keeps f =
    cond_both (eqb frame f) _ _ (λ (p : Page). p.facts.size ≡ (old f).facts.size) (λ e. same ∙ ap (λ (k : ℕ). (old k).facts.size) (eqb-true frame f e)) (λ _. keeps f)

same_sizes : (pages : Pages) → KeepsSizes pages pages
same_sizes pages f = refl

slot_sizes : (slot : Slot) (entry : Option MetaEntry) (new old : Pages) → KeepsSizes new old → KeepsSizes (with_slot_entry slot entry new) old
unfolding with_slot_entry
slot_sizes (OfEntry metadata number) entry new old keeps = at_sizes metadata _ new old (keeps metadata) keeps
slot_sizes OfRoot entry new old keeps = keeps

given_up_size : (what : What) (page : Page) → (given_up what page).facts.size ≡ page.facts.size
unfolding reclaim_facts metadata_out_facts
given_up_size GuestPage page = refl
given_up_size MetadataPage page = refl

brought_back_size : (what : What) (entry : MetaEntry) (words : List ℕ) (page : Page) → (brought_back what entry words page).facts.size ≡ page.facts.size
unfolding restored_facts metadata_facts
brought_back_size GuestPage entry words page = refl
brought_back_size MetadataPage entry words page = refl

out_sizes : (what : What) (source target : ℕ) (slot : Slot) (made : Computed) (pages : Pages) → KeepsSizes (pages_out what source target slot made pages) pages
unfolding pages_out
out_sizes what source target slot made pages =
    slot_sizes slot made.entry _ pages (at_sizes target _ _ pages refl (at_sizes source _ pages pages (given_up_size what (pages source)) (same_sizes pages)))

in_sizes : (what : What) (target : ℕ) (slot : Slot) (made : Computed) (pages : Pages) → KeepsSizes (pages_in what target slot made pages) pages
unfolding pages_in
in_sizes what target slot made pages = slot_sizes slot None _ pages (at_sizes target _ pages pages (brought_back_size what _ made.words (pages target)) (same_sizes pages))

pub reclaimed_as_size : (state : PageState) (page : Page) → (reclaimed_as state page).facts.size ≡ page.facts.size
unfolding reclaim_facts given_back_facts
reclaimed_as_size states.Hypervisor page = refl
reclaimed_as_size states.PreGuest page = refl
reclaimed_as_size states.PreSwap page = refl
reclaimed_as_size states.GuestInvalid page = refl
reclaimed_as_size states.GuestValid page = refl
reclaimed_as_size states.Reclaim page = refl
reclaimed_as_size states.Firmware page = refl
reclaimed_as_size states.Context page = refl
reclaimed_as_size states.Metadata page = refl

reclaimed_sizes : (lock : PageLock) (pages : Pages) → KeepsSizes (over_lock lock reclaimed_page pages) pages
unfolding reclaimed_page
reclaimed_sizes lock pages f = cond_both (covers f lock) _ _ (λ (p : Page). p.facts.size ≡ (pages f).facts.size) (λ _. reclaimed_as_size (state_of (pages f).facts) (pages f)) (λ _. refl)

-- a moved page and its target are of one size
abbrev MovesWithin : Pages → Command → Type 0
MovesWithin pages command = (guest source target : ℕ) → command ≡ commands.PageMove guest source target → (pages source).facts.size ≡ (pages target).facts.size

commit_sizes : (command : Command) (locks : List PageLock) (made : Computed) (pages : Pages) → MovesWithin pages command → KeepsSizes (pages_after command locks made pages) pages
unfolding pages_after pages_moved context_facts launched_facts metadata_facts taken_facts
commit_sizes (commands.GctxCreate guest frame) locks made pages moves = at_sizes frame _ pages pages refl (same_sizes pages)
commit_sizes (commands.Activate guest asid) locks made pages moves = same_sizes pages
commit_sizes (commands.LaunchStart guest) locks made pages moves = same_sizes pages
commit_sizes (commands.LaunchUpdate guest frame page_type imi perms) locks made pages moves = at_sizes frame _ pages pages refl (same_sizes pages)
commit_sizes (commands.LaunchFinish guest) locks made pages moves = same_sizes pages
commit_sizes (commands.MdInit frame) locks made pages moves = at_sizes frame _ pages pages refl (same_sizes pages)
commit_sizes (commands.PageMove guest source target) locks made pages moves =
    at_sizes target _ _ pages (moves guest source target refl) (at_sizes source _ pages pages refl (same_sizes pages))
commit_sizes (commands.SwapOut guest source target metadata entry) locks made pages moves = out_sizes GuestPage source target (OfEntry metadata entry) made pages
commit_sizes (commands.SwapIn guest source target metadata entry) locks made pages moves = in_sizes GuestPage target (OfEntry metadata entry) made pages
commit_sizes (commands.Reclaim frame) locks made pages moves = reclaimed_sizes (first_lock locks frame) pages
commit_sizes (commands.MdOut guest source target metadata entry) locks made pages moves = out_sizes MetadataPage source target (OfEntry metadata entry) made pages
commit_sizes (commands.MdIn guest source target metadata entry) locks made pages moves = in_sizes MetadataPage target (OfEntry metadata entry) made pages
commit_sizes (commands.MdRootOut guest source target) locks made pages moves = out_sizes MetadataPage source target OfRoot made pages
commit_sizes (commands.MdRootIn guest source target) locks made pages moves = in_sizes MetadataPage target OfRoot made pages

-- what the tests of a lock find

held_none : (holder : Option ℕ) (later : Option FwRefusal) → unless_held holder later ≡ None → holder ≡ None
held_none (Some actor) later none = absurd cc
held_none None later none = refl

page_unheld : (command : Command) (part : Part) (facts : RmpEntry) (holder : Option ℕ) (asid : ℕ) → page_refusal command part facts holder asid ≡ None → holder ≡ None
unfolding page_refusal
page_unheld command part facts holder asid none = held_none holder _ none

lock_unheld : (frames asid : ℕ) (command : Command) (page : CommandPage) (found : Page) (holder : Option ℕ) → lock_refusal frames asid command page found holder ≡ None → holder ≡ None
unfolding lock_refusal
lock_unheld frames asid command page found holder none =
    page_unheld command page.part found.facts holder asid
    (first_none (page_refusal command page.part found.facts holder asid) (page_extra command page.part asid found.words)
    (others_none (frame_refusal frames page.frame) (option_or (page_refusal command page.part found.facts holder asid) (page_extra command page.part asid found.words)) none))

context_unheld : (guests : List GuestSpec) (command : Command) (guest : ℕ) (context : Context) (holder : Option ℕ) → option_or (guest_refusal guests guest) (context_refusal guests command context holder) ≡ None → holder ≡ None
unfolding context_refusal
context_unheld guests command guest context holder none =
    held_none holder _ (let_through (has_equal_frames command) (refusals.Status invalid_param) _ (others_none (guest_refusal guests guest) (context_refusal guests command context holder) none)).after_it

-- no refusal is no outcome
no_refusal : (refusal : Option FwRefusal) → option_map refused refusal ≡ None → refusal ≡ None
no_refusal (Some refusal) none = absurd cc
no_refusal None none = refl

-- a context that has no holder
pub none_locks : (first : ℕ) (actors : List ActorPart) (guest : ℕ) → context_holder_from first actors guest ≡ None → (k : ℕ) → locks_context guest (actor_at actors k) ≡ false
unfolding context_holder_from
none_locks first [] guest none k = context_idle guest
none_locks first (part ∷ parts) guest none zero =
    elim (locks_context guest part) as (λ (b : Bool). cond b (Some first) (context_holder_from (first + 1) parts guest) ≡ None → b ≡ false)
    [ true ↦ λ e. absurd cc | false ↦ λ e. refl ] none
none_locks first (part ∷ parts) guest none (suc k) =
    none_locks (first + 1) parts guest
    (elim (locks_context guest part) as (λ (b : Bool). cond b (Some first) (context_holder_from (first + 1) parts guest) ≡ None → context_holder_from (first + 1) parts guest ≡ None)
    [ true ↦ λ e. absurd cc | false ↦ λ e. e ] none) k

-- a frame that isn't locked is none of them
pub covers_at : (f : ℕ) (locks : List PageLock) (number : ℕ) (lock : PageLock) → slice_get locks number ≡ Some lock → covers f lock ≡ true → list_any (covers f) locks ≡ true
covers_at f locks number lock is inside =
    list_any_at (covers f) locks number lock (slice_get_within locks number lock is) (ap (covers f) (get_or_from_slice_get locks number lock lock is) ∙ inside)

beside_pages : (m : State) (part : ActorPart) (command : Command) (f : ℕ) → AreCommandLocks m.frames m.guests m.contents command part.standing
    → slice_get (pages_of command) (length part.standing.locks) ≡ None → locks_frame f part ≡ false → IsBeside f (pages_of command)
beside_pages m part command f tested all free number page is same =
    let has = has_lock m.frames m.guests m.contents command part.standing number page tested all is in
    let inside : covers page.frame has.lock ≡ true = subst (λ (l : PageLock). covers page.frame l ≡ true) (sym has.covers_page) (own_covered (m.contents.pages page.frame).facts.size page.frame) in
    true≢false (sym (subst (λ (k : ℕ). locks_frame k part ≡ true) same (covers_at page.frame part.standing.locks number has.lock has.lock_is inside)) ∙ free)

-- the commit

-- what is held of the context: that of the command's guest
abbrev ContextHeld : ActorPart → Command → Type 0
ContextHeld part command = (guest : ℕ) → guest_of command ≡ Some guest → part.standing.context_lock ≡ Some guest

same_number : (a b : ℕ) → a ≡ b → eqb a b ≡ true
same_number a b e = grind (arith, nat_tests)

locks_of : (locked : Option ℕ) (guest : ℕ) → locked ≡ Some guest → unwrap_or (option_map (λ (own : ℕ). eqb own guest) locked) (is_some locked) ≡ true
locks_of None guest is = absurd cc
locks_of (Some own) guest is = same_number own guest (same_some own guest is)

pub held_context : (part : ActorPart) (guest : ℕ) → part.standing.context_lock ≡ Some guest → locks_context guest part ≡ true
held_context part guest is = locks_of part.standing.context_lock guest is

contexts_same : (owner : Option ℕ) (command : Command) (made : Computed) (pages : Pages) (contexts : Contexts) (guest : ℕ) → (owner ≡ Some guest → ⊥) → contexts_after owner command made pages contexts guest ≡ contexts guest
unfolding contexts_after at_guest
contexts_same None command made pages contexts guest other = refl
contexts_same (Some own) command made pages contexts guest other =
    cond_both (eqb own guest) _ _ (λ (context : Context). context ≡ contexts guest) (λ e. absurd (other (ap (λ (g : ℕ). Some g) (eqb-true own guest e)))) (λ _. refl)

not_covered : (f : ℕ) (locks : List PageLock) (number : ℕ) (lock : PageLock) → slice_get locks number ≡ Some lock → list_any (covers f) locks ≡ false → covers f lock ≡ false
not_covered f locks number lock is free = not_true (covers f lock) (λ inside. true≢false (sym (covers_at f locks number lock is inside) ∙ free))

some_none : (outcome : Outcome) → Some outcome ≡ None → ⊥
some_none outcome e = cc

none_some : (g : ℕ) → None ≡ Some g → ⊥
none_some g e = cc

-- the one page that is taken back is locked
reclaim_lock : (m : State) (part : ActorPart) (command : Command) (f frame : ℕ) → AreCommandLocks m.frames m.guests m.contents command part.standing
    → slice_get (pages_of command) (length part.standing.locks) ≡ None → locks_frame f part ≡ false → command ≡ commands.Reclaim frame → covers f (first_lock part.standing.locks frame) ≡ false
unfolding pages_of
reclaim_lock m part command f frame tested all free is =
    let first : slice_get (pages_of command) 0 ≡ Some (record { part = Target; frame = frame }) = ap (λ (c : Command). slice_get (pages_of c) 0) is in
    let has = has_lock m.frames m.guests m.contents command part.standing 0 (record { part = Target; frame = frame }) tested all first in
    let lock_is : first_lock part.standing.locks frame ≡ has.lock = get_or_from_slice_get part.standing.locks 0 has.lock (page_lock Small frame) has.lock_is in
    ap (covers f) lock_is ∙ not_covered f part.standing.locks 0 has.lock has.lock_is free

commit_firm : (m : State) (part : ActorPart) (command : Command) (f : ℕ) → AreCommandLocks m.frames m.guests m.contents command part.standing
    → slice_get (pages_of command) (length part.standing.locks) ≡ None → (made : Computed) → locks_frame f part ≡ false
    → IsFirm (pages_after command part.standing.locks made m.contents.pages f) (m.contents.pages f)
commit_firm m part command f tested all made free =
    subst (λ (page : Page). IsFirm page (m.contents.pages f))
    (sym (commit_other command part.standing.locks made m.contents.pages f (beside_pages m part command f tested all free) (λ frame is. reclaim_lock m part command f frame tested all free is)))
    (firm_itself (m.contents.pages f))

moves_within : (m : State) (part : ActorPart) (command : Command) → AreCommandLocks m.frames m.guests m.contents command part.standing
    → slice_get (pages_of command) (length part.standing.locks) ≡ None → MovesWithin m.contents.pages command
unfolding pages_of
moves_within m part command tested all guest source target is =
    let asid = command_asid m.guests command in
    let small : takes_large command ≡ false = ap takes_large is in
    let one = has_lock m.frames m.guests m.contents command part.standing 0 (record { part = Source; frame = source }) tested all (ap (λ (c : Command). slice_get (pages_of c) 0) is) in
    let two = has_lock m.frames m.guests m.contents command part.standing 1 (record { part = Target; frame = target }) tested all (ap (λ (c : Command). slice_get (pages_of c) 1) is) in
    (page_tests command Source (m.contents.pages source).facts asid (lock_page m.frames asid command (record { part = Source; frame = source }) m.contents one.passes)).small small
    ∙ sym ((page_tests command Target (m.contents.pages target).facts asid (lock_page m.frames asid command (record { part = Target; frame = target }) m.contents two.passes)).small small)

commit_locks : (m : State) (part : ActorPart) (command : Command) → Stands m part Firmware (items.Firmware command) → AreCommandLocks m.frames m.guests m.contents command part.standing
    → slice_get (pages_of command) (length part.standing.locks) ≡ None → ContextHeld part command
    → MoveLocks m part Firmware (items.Firmware command) (commit_move m.contents part command)
unfolding commit_move
commit_locks m part command stands tested all held =
    let made = unwrap_or part.standing.computed nothing_made in
    let pages = pages_after command part.standing.locks made m.contents.pages in
    record {
      own = λ f free. commit_firm m part command f tested all made free;
      own_contexts = λ g free. contexts_same (guest_of command) command made pages m.contents.contexts g (λ is. true≢false (sym (held_context part g (held g is)) ∙ free));
      whole = same_whole m.contents.pages pages (commit_sizes command part.standing.locks made m.contents.pages (moves_within m part command tested all)) stands.whole;
      goes_on = λ e. absurd (some_none _ e);
    }

-- the compute changes nothing, and keeps what it has made
compute_locks : (m : State) (part : ActorPart) (command : Command) (made : Result Computed FwRefusal) → Stands m part Firmware (items.Firmware command)
    → MoveLocks m part Firmware (items.Firmware command) (computed_move m.contents part made)
unfolding computed_move AreItemLocks
compute_locks m part command (Ok made) stands = record {
  own = λ f _. firm_itself (m.contents.pages f);
  own_contexts = λ g _. refl;
  whole = stands.whole;
  goes_on = λ _. record {
    still = refl;
    frames = λ f locked. inl locked;
    contexts = λ g locked. inl locked;
    locks_whole = stands.locks_whole;
    tested = record { pages = stands.tested.pages; context = stands.tested.context };
  };
}
compute_locks m part command (Err refusal) stands = ended_locks m part Firmware (items.Firmware command) deeds.Compute (refused refusal) stands

-- the context is locked
context_locks : (m : State) (part : ActorPart) (command : Command) (guest : ℕ) (refusal : Option FwRefusal) → Stands m part Firmware (items.Firmware command) → guest_of command ≡ Some guest
    → (refusal ≡ None → (k : ℕ) → locks_context guest (actor_at m.actors k) ≡ false)
    → (refusal ≡ None → option_or (guest_refusal m.guests guest) (context_refusal m.guests command (m.contents.contexts guest) None) ≡ None)
    → MoveLocks m part Firmware (items.Firmware command) (context_taken m.contents part guest refusal)
unfolding context_taken AreItemLocks
context_locks m part command guest (Some refusal) stands is free passes = ended_locks m part Firmware (items.Firmware command) (deeds.LockContext guest) (refused refusal) stands
context_locks m part command guest None stands is free passes = record {
  own = λ f _. firm_itself (m.contents.pages f);
  own_contexts = λ g _. refl;
  whole = stands.whole;
  goes_on = λ _. record {
    still = refl;
    frames = λ f locked. inl locked;
    contexts = λ g locked. inr (λ k. subst (λ (x : ℕ). locks_context x (actor_at m.actors k) ≡ false) (eqb-true guest g locked) (free refl k));
    locks_whole = stands.locks_whole;
    tested = record {
      pages = stands.tested.pages;
      context = λ g locked. let same = same_some guest g locked in
          record {
            guest_is = is ∙ locked;
            passes = subst (λ (x : ℕ). option_or (guest_refusal m.guests x) (context_refusal m.guests command (m.contents.contexts x) None) ≡ None) same (passes refl);
          };
    };
  };
}

-- a lock of a list with one more
by_number : (locks : List PageLock) (lock : PageLock) (number : ℕ) (found : PageLock) (P : Type 0) → (slice_get locks number ≡ Some found → P) → (number ≡ length locks → lock ≡ found → P)
    → slice_get (locks ++ lock ∷ []) number ≡ Some found → P
by_number [] lock zero found P before last is = last refl (same_some lock found is)
by_number [] lock (suc number) found P before last is = absurd cc
by_number (first ∷ locks) lock zero found P before last is = before is
by_number (first ∷ locks) lock (suc number) found P before last is = by_number locks lock number found P before (λ same. last (ap suc same)) is

-- a page is locked
locks_more : (m : State) (part : ActorPart) (command : Command) (page : CommandPage) (lock : PageLock) → AreCommandLocks m.frames m.guests m.contents command part.standing
    → slice_get (pages_of command) (length part.standing.locks) ≡ Some page → lock ≡ page_lock (m.contents.pages page.frame).facts.size page.frame
    → lock_refusal m.frames (command_asid m.guests command) command page (m.contents.pages page.frame) None ≡ None
    → AreCommandLocks m.frames m.guests m.contents command (record part.standing { locks = part.standing.locks ++ lock ∷ [] })
locks_more m part command page lock tested next covers passes = record {
  pages = λ number found is. by_number part.standing.locks lock number found
      (IsCommandLock m.frames m.guests m.contents command number found)
      (λ before. tested.pages number found before)
      (λ last same. record {
        page = page;
        page_is = ap (slice_get (pages_of command)) last ∙ next;
        covers = sym same ∙ covers;
        passes = passes;
      }) is;
  context = tested.context;
}

page_locks : (m : State) (part : ActorPart) (command : Command) (page : CommandPage) → Stands m part Firmware (items.Firmware command) → slice_get (pages_of command) (length part.standing.locks) ≡ Some page
    → MoveLocks m part Firmware (items.Firmware command) (take_page m.frames m.guests (view_of m) part command page)
unfolding take_page AreItemLocks
page_locks m part command page stands next =
    let found = m.contents.pages page.frame in
    let asid = command_asid m.guests command in
    let holder = (view_of m).holder page.frame in
    let refusal = lock_refusal m.frames asid command page found holder in
    let lock = page_lock found.facts.size page.frame in
    lock_locks m part Firmware (items.Firmware command) lock (option_map refused refusal) stands
    (λ open_is. page_free m.contents.pages m.actors page.frame stands.whole stands.exclusive (lock_unheld m.frames asid command page found holder (no_refusal refusal open_is)))
    (λ open_is.
    let none = no_refusal refusal open_is in
    locks_more m part command page lock stands.tested next refl
    (lock_freed m.frames asid command page found holder none))

-- so each event of a command, by what its attempt needs
pages_phase_locks : (m : State) (part : ActorPart) (command : Command) (page : Option CommandPage) (sealing : Option Sealing) (computed : Option Computed)
    → slice_get (pages_of command) (length part.standing.locks) ≡ page → Stands m part Firmware (items.Firmware command) → AreCommandLocks m.frames m.guests m.contents command part.standing → ContextHeld part command
    → MoveLocks m part Firmware (items.Firmware command) (phase_move m.frames m.guests (view_of m) part command (pages_phase page sealing computed))
unfolding pages_phase phase_move
pages_phase_locks m part command (Some page) sealing computed is stands tested held = page_locks m part command page stands is
pages_phase_locks m part command None (Some sealing) None is stands tested held = compute_locks m part command (compute_of m.contents sealing) stands
pages_phase_locks m part command None (Some sealing) (Some made) is stands tested held = commit_locks m part command stands tested is held
pages_phase_locks m part command None None computed is stands tested held = commit_locks m part command stands tested is held

context_phase_locks : (m : State) (part : ActorPart) (command : Command) (owner locked : Option ℕ) (later : Phase) → guest_of command ≡ owner → part.standing.context_lock ≡ locked
    → Stands m part Firmware (items.Firmware command) → AreCommandLocks m.frames m.guests m.contents command part.standing
    → (ContextHeld part command → MoveLocks m part Firmware (items.Firmware command) (phase_move m.frames m.guests (view_of m) part command later))
    → MoveLocks m part Firmware (items.Firmware command) (phase_move m.frames m.guests (view_of m) part command (context_phase owner locked later))
unfolding context_phase phase_move take_context
context_phase_locks m part command (Some guest) None later owner_is locked_is stands tested then =
    let first = guest_refusal m.guests guest in
    let context = m.contents.contexts guest in
    let holder = (view_of m).context_holder guest in
    let refusal = option_or first (context_refusal m.guests command context holder) in
    context_locks m part command guest refusal stands owner_is
    (λ none. none_locks 1 m.actors guest (context_unheld m.guests command guest context holder none))
    (λ none. guest_context_freed m.guests command guest context holder none)
context_phase_locks m part command (Some guest) (Some own) later owner_is locked_is stands tested then =
    then (λ g is. locked_is ∙ sym (tested.context own locked_is).guest_is ∙ is)
context_phase_locks m part command None locked later owner_is locked_is stands tested then =
    then (λ g is. absurd (none_some g (sym owner_is ∙ is)))

firmware_from : (m : State) (part : ActorPart) (command : Command) → Stands m part Firmware (items.Firmware command) → AreCommandLocks m.frames m.guests m.contents command part.standing
    → MoveLocks m part Firmware (items.Firmware command) (firmware_move m.frames m.guests (view_of m) part command)
firmware_from m part command stands tested =
    context_phase_locks m part command (guest_of command) part.standing.context_lock _ refl refl stands tested
    (λ held. pages_phase_locks m part command (slice_get (pages_of command) (length part.standing.locks)) (sealing_of command) part.standing.computed refl stands tested held)

pub firmware_locks : (m : State) (part : ActorPart) (command : Command) → Stands m part Firmware (items.Firmware command)
    → MoveLocks m part Firmware (items.Firmware command) (firmware_move m.frames m.guests (view_of m) part command)
unfolding AreItemLocks
firmware_locks m part command stands = firmware_from m part command stands stands.tested
