-- What an event has locked before it and after it, it touches; so a lock changes its holder only where the event touches its page or context.
use Rattle.std.proofs.Common.{◌≡◌, ◌⊎◌, ℕ, zero, suc, ◌+◌, ◌-◌, ◌%◌, ◌<◌, ◌≤◌, Bool, true, false, not, ◌||◌, cond, eqb, nat_lt, List, [], ◌∷◌, ◌++◌, Option, Some, None, Result, Ok, Err, is_some, unwrap_or, inl, inr, refl, sym, ap, ◌∙◌, subst, ⊎_elim, arith}
use Rattle.std.proofs.lemmas.Bool.{cond_both, true≢false}
use Rattle.std.proofs.lemmas.Bool.Decides.{nat_tests}
use Rattle.std.proofs.lemmas.List.Folds.{list_any-append}
use Rattle.std.specs.List.{list_any, range_with_len}
use Rattle.std.specs.Option.{option_map}
use Rattle.snp_model.specs.declared.access.Verdict.{Verdict}
use Rattle.snp_model.specs.declared.access.Verdict.TheVariants.{Pass, Hidden, Fault}
use Rattle.snp_model.specs.declared.command.Command.{Command}
use Rattle.snp_model.specs.declared.entry.PageSize.{PageSize}
use Rattle.snp_model.specs.declared.entry.PageSize.TheVariants.{Large, Small}
use Rattle.snp_model.specs.declared.event.Deed.{Deed}
use Rattle.snp_model.specs.declared.event.Deed.TheVariants as deeds
use Rattle.snp_model.specs.declared.event.FwRefusal.{FwRefusal}
use Rattle.snp_model.specs.declared.event.Outcome.{Outcome}
use Rattle.snp_model.specs.declared.event.Outcome.TheVariants as outcomes
use Rattle.snp_model.specs.declared.item.Item.{Item}
use Rattle.snp_model.specs.declared.item.Item.TheVariants as items
use Rattle.snp_model.specs.declared.item.Op.{Op}
use Rattle.snp_model.specs.declared.item.Update.{Update}
use Rattle.snp_model.specs.declared.scenario.GuestSpec.{GuestSpec}
use Rattle.snp_model.specs.declared.scenario.Role.{Role}
use Rattle.snp_model.specs.declared.scenario.Role.TheVariants.{Cpu, Host, Firmware}
use Rattle.snp_model.specs.declared.scenario.Scenario.{Scenario}
use Rattle.snp_model.specs.declared.walk.Lookup.{Lookup}
use Rattle.snp_model.specs.declared.walk.Need.{Need}
use Rattle.snp_model.specs.declared.walk.Need.TheVariants as needs
use Rattle.snp_model.specs.Entries.{released}
use Rattle.snp_model.specs.FirmwareStep.{Phase, TakeContext, TakePage, Computing, Committing, context_phase, pages_phase, phase_of, phase_move, take_context, context_taken, take_page, computed_move, commit_move, refused, lock_refusal}
use Rattle.snp_model.specs.FirmwareLocks.{frame_refusal, guest_refusal}
use Rattle.snp_model.specs.Firmware.{CommandPage, guest_of}
use Rattle.snp_model.specs.GuestWalk.{is_canonical, levels_of}
use Rattle.run_laws.specs.HeldLocks.{AreItemLocks}
use Rattle.snp_model.specs.InstructionStep.{adjust_move, page_lookup, smash_move, update_move, validate_move}
use Rattle.run_laws.specs.KeptLocks.{KeepsLocks, is_locked, recontexted, relocked}
use Rattle.snp_model.specs.Locks.{context_holder_of, covers, holder_of, locks_context, locks_frame, page_lock, range_lock, view_of}
use Rattle.snp_model.specs.Moves.{Arrival, Move, begin_move, is_running, lock_move, memory_move, need_move, quiet_move, table_move, walked_move}
use Rattle.run_laws.specs.OpenAttempts.{IsAttempt, IsCommand, IsWalking}
use Rattle.snp_model.specs.RmpUpdate.{is_bad_smash, is_bad_update, update_lock}
use Rattle.snp_model.specs.Run.{IsDefined, state_after}
use Rattle.snp_model.specs.Sealing.{Sealing}
use Rattle.snp_model.specs.Sound.{IsSound}
use Rattle.snp_model.specs.State.{ActorPart, Computed, Context, Contents, PageLock, Pages, Standing, State, IsUnfinished, View, nothing_taken, part_of}
use Rattle.snp_model.specs.Step.{access_move, after, host_access, item_move, line_at, part_after}
use Rattle.snp_model.specs.Touches.{Touched, command_touches, context_touched, frame_touched, instruction_touches, item_touches, lock_regions, locks_regions, need_touches, nothing_touched, page_touches, phase_touches, region_of, touches_frame, walk_touches, with_locks}
use Rattle.snp_model.specs.Walking.{Processor, lookup_of, need_after}
use Rattle.run_laws.proofs.ContextLaws.{context_holders_after, owns_context}
use Rattle.run_laws.proofs.HolderLaws.{holders_after, owns_locks}
use Rattle.run_laws.proofs.LockedItems.{no_outcome}
use Rattle.run_laws.proofs.LockLaws.{first_none, not_true, page_region, small_covered}
use Rattle.run_laws.proofs.LockedRuns.{part_walking}
use Rattle.run_laws.proofs.MoveLocality.{Includes, includes_itself, own_frame}
use Rattle.run_laws.proofs.RunLaws.{after_part, unfinished_at}
use Rattle.run_laws.proofs.SealedRuns.{run_order}
use Rattle.run_laws.proofs.TestedLaws.{smash_passes, update_passes}
use Rattle.run_theorems.specs.TouchedLocks.{HoldersStay, LocksAreTouched, touched_by}

-- Locks and regions

range_first : (a n k : ℕ) (b : Bool) → eqb a k ≡ b → (eqb a k ≡ false → list_any (λ r. eqb r k) (range_with_len (a + 1) n) ≡ true) → list_any (λ r. eqb r k) (range_with_len a (suc n)) ≡ true
range_first a n k true is rest = ap (λ (b : Bool). b || list_any (λ r. eqb r k) (range_with_len (a + 1) n)) is
range_first a n k false is rest = ap (λ (b : Bool). b || list_any (λ r. eqb r k) (range_with_len (a + 1) n)) is ∙ rest is

in_range_any : (a n k : ℕ) → a ≤ k → k < a + n → list_any (λ r. eqb r k) (range_with_len a n) ≡ true
in_range_any a zero k low high = absurd (omega arith)
in_range_any a (suc n) k low high = range_first a n k (eqb a k) refl (λ is. in_range_any (a + 1) n k (grind (arith, nat_tests)) (omega arith))

or_left : (a b : Bool) → a ≡ true → (a || b) ≡ true
or_left true b is = refl
or_left false b is = absurd (true≢false (sym is))

or_right : (a b : Bool) → b ≡ true → (a || b) ≡ true
or_right true b is = refl
or_right false b is = is

either_true : (a b : Bool) → (a || b) ≡ true → (a ≡ true) ⊎ (b ≡ true)
either_true true b is = inl refl
either_true false b is = inr is

covered_region : (f : ℕ) (lock : PageLock) → covers f lock ≡ true → list_any (λ r. eqb r (region_of f)) (lock_regions lock) ≡ true
covered_region f lock inside =
    let low : lock.base ≤ f = grind (arith, nat_tests) in
    let high : f < lock.base + lock.count = grind (arith, nat_tests) in
    in_range_any (region_of lock.base) (region_of (lock.base + lock.count - 1) - region_of lock.base + 1) (region_of f) (omega arith) (omega arith)

locks_covered : (f : ℕ) (locks : List PageLock) → list_any (covers f) locks ≡ true → list_any (λ r. eqb r (region_of f)) (locks_regions locks) ≡ true
unfolding locks_regions
locks_covered f [] is = absurd (true≢false (sym is))
locks_covered f (lock ∷ locks) is =
    list_any-append (λ r. eqb r (region_of f)) (lock_regions lock) (locks_regions locks)
    ∙ ⊎_elim
    (λ (own : covers f lock ≡ true). or_left _ _ (covered_region f lock own))
    (λ (rest : list_any (covers f) locks ≡ true). or_right _ _ (locks_covered f locks rest))
    (either_true (covers f lock) (list_any (covers f) locks) is)

-- locks that are released are touched
own_locks : (f : ℕ) (locks : List PageLock) (touched : Touched) → list_any (covers f) locks ≡ true → touches_frame (with_locks locks touched) f ≡ true
own_locks f locks touched is = list_any-append (λ r. eqb r (region_of f)) touched.regions (locks_regions locks) ∙ or_right _ _ (locks_covered f locks is)

own_regions : (f : ℕ) (locks : List PageLock) (regions : List ℕ) → list_any (covers f) locks ≡ true → list_any (λ r. eqb r (region_of f)) (regions ++ locks_regions locks) ≡ true
own_regions f locks regions is = list_any-append (λ r. eqb r (region_of f)) regions (locks_regions locks) ∙ or_right _ _ (locks_covered f locks is)

also_touched : (f : ℕ) (locks : List PageLock) (touched : Touched) → touches_frame touched f ≡ true → touches_frame (with_locks locks touched) f ≡ true
also_touched f locks touched is = list_any-append (λ r. eqb r (region_of f)) touched.regions (locks_regions locks) ∙ or_left _ _ is

pub with_includes : (locks : List PageLock) (touched : Touched) → Includes (with_locks locks touched) touched
with_includes locks touched = record { frames = λ f is. also_touched f locks touched is; context = λ g is. is }

-- the page in which a touched frame stands is touched
same_region : (touched : Touched) (frame f : ℕ) → region_of frame ≡ region_of f → touches_frame touched frame ≡ true → touches_frame touched f ≡ true
same_region touched frame f same is = subst (λ (r : ℕ). list_any (λ region. eqb region r) touched.regions ≡ true) same is

page_touched : (touched : Touched) (size : PageSize) (frame f : ℕ) → covers f (page_lock size frame) ≡ true → touches_frame touched frame ≡ true → touches_frame touched f ≡ true
page_touched touched Small frame f inside is = same_region touched frame f (ap region_of (sym (small_covered frame f inside))) is
page_touched touched Large frame f inside is = same_region touched frame f (page_region frame f inside) is

-- What a move has locked: what was locked before it, or what it touches

-- a guest's context is the locked one
abbrev IsLocked : ℕ → Option ℕ → Type 0
IsLocked g locked = unwrap_or (option_map (λ l. eqb l g) locked) (is_some locked) ≡ true

record LocksInside (touched : Touched) (part : ActorPart) (move : Move) : Type 0 where
  frames : move.outcome ≡ None → (f : ℕ) → list_any (covers f) move.standing.locks ≡ true → (list_any (covers f) part.standing.locks ≡ true) ⊎ (touches_frame touched f ≡ true)
  contexts : move.outcome ≡ None → (g : ℕ) → IsLocked g move.standing.context_lock → IsLocked g part.standing.context_lock ⊎ (touched.context ≡ Some g)

quiet_inside : (touched : Touched) (part : ActorPart) (contents : Contents) (deed : Deed) (outcome : Option Outcome) → LocksInside touched part (quiet_move contents part deed outcome)
quiet_inside touched part contents deed outcome = record { frames = λ none f is. inl is; contexts = λ none g is. inl is }

memory_inside : (touched : Touched) (part : ActorPart) (contents : Contents) (deed : Deed) (outcome : Option Outcome) (pages : Pages) → LocksInside touched part (memory_move contents part deed outcome pages)
memory_inside touched part contents deed outcome pages = record { frames = λ none f is. inl is; contexts = λ none g is. inl is }

lock_inside : (touched : Touched) (part : ActorPart) (contents : Contents) (lock : PageLock) (refusal : Option Outcome) → (refusal ≡ None → (f : ℕ) → covers f lock ≡ true → touches_frame touched f ≡ true) → LocksInside touched part (lock_move contents part lock refusal)
unfolding lock_move
lock_inside touched part contents lock (Some outcome) inside = quiet_inside touched part contents (deeds.Lock lock.frame) (Some outcome)
lock_inside touched part contents lock None inside = record {
  frames = λ none f is.
      ⊎_elim (λ (old : list_any (covers f) part.standing.locks ≡ true). inl old)
      (λ (new : list_any (covers f) (lock ∷ []) ≡ true). inr (inside refl f (alone (covers f lock) new)))
      (either_true (list_any (covers f) part.standing.locks) (list_any (covers f) (lock ∷ [])) (sym (list_any-append (covers f) part.standing.locks (lock ∷ [])) ∙ is));
  contexts = λ none g is. inl is;
}
  where
    alone : (b : Bool) → (b || false) ≡ true → b ≡ true
    alone true is = refl
    alone false is = is

begin_inside : (touched : Touched) (part : ActorPart) (contents : Contents) (context : Context) (levels address : ℕ) (refusal : Option Outcome) → LocksInside touched part (begin_move contents part context levels address refusal)
unfolding begin_move
begin_inside touched part contents context levels address refusal =
    let quiet = λ (outcome : Option Outcome). quiet_inside touched part contents deeds.Begin outcome in
    cond_both (not (is_running context.state)) _ _ (LocksInside touched part) (λ _. quiet (Some outcomes.Offline))
    (λ _. cond_both (not (is_canonical levels address)) _ _ (LocksInside touched part) (λ _. quiet (Some outcomes.Gp)) (λ _. quiet refusal))

table_inside : (touched : Touched) (part : ActorPart) (frames : ℕ) (contents : Contents) (cpu : Processor) (lookup : Lookup) (verdict : Verdict) (gpn index frame : ℕ) → LocksInside touched part (table_move frames contents part cpu lookup verdict gpn index frame)
unfolding table_move
table_inside touched part frames contents cpu lookup Pass gpn index frame = quiet_inside touched part contents _ _
table_inside touched part frames contents cpu lookup Hidden gpn index frame = quiet_inside touched part contents _ _
table_inside touched part frames contents cpu lookup (Fault outcome) gpn index frame = quiet_inside touched part contents _ _

abbrev ArrivesInside : Touched → ActorPart → Arrival → Type 0
ArrivesInside touched part arrives = (gpn : ℕ) (private : Bool) (frame : ℕ) (size : PageSize) → touches_frame touched frame ≡ true → LocksInside touched part (arrives gpn private frame size)

need_inside : (touched : Touched) (frames : ℕ) (guests : List GuestSpec) (contents : Contents) (part : ActorPart) (cpu : Processor) (lookup : Lookup) (arrives : Arrival) (need : Need) → Includes touched (need_touches need) → ArrivesInside touched part arrives
    → LocksInside touched part (need_move frames guests contents part cpu lookup arrives need)
unfolding need_touches need_move
need_inside touched frames guests contents part cpu lookup arrives (needs.Nested frame index) includes inside = quiet_inside touched part contents _ _
need_inside touched frames guests contents part cpu lookup arrives (needs.Table gpn index frame size) includes inside = table_inside touched part frames contents cpu lookup _ gpn index frame
need_inside touched frames guests contents part cpu lookup arrives (needs.Data gpn private frame size) includes inside = inside gpn private frame size (includes.frames frame (own_frame frame))
need_inside touched frames guests contents part cpu lookup arrives (needs.Fault outcome) includes inside = quiet_inside touched part contents _ _

walked_inside : (touched : Touched) (frames : ℕ) (guests : List GuestSpec) (contents : Contents) (part : ActorPart) (cpu : Processor) (lookup : Lookup) (refusal : Option Outcome) (arrives : Arrival) (made : List Deed)
    → Includes touched (walk_touches frames cpu lookup made) → ArrivesInside touched part arrives → LocksInside touched part (walked_move frames guests contents part cpu lookup refusal arrives made)
unfolding walk_touches walked_move
walked_inside touched frames guests contents part cpu lookup refusal arrives [] includes inside = begin_inside touched part contents (contents.contexts cpu.guest) (levels_of cpu.paging) lookup.address refusal
walked_inside touched frames guests contents part cpu lookup refusal arrives (deed ∷ others) includes inside = need_inside touched frames guests contents part cpu lookup arrives (need_after frames cpu lookup (deed ∷ others)) includes inside

access_inside : (touched : Touched) (part : ActorPart) (contents : Contents) (deed : Deed) (verdict : Verdict) (op : Op) (frame index : ℕ) → LocksInside touched part (access_move contents part deed verdict op frame index)
unfolding access_move
access_inside touched part contents deed Pass op frame index = memory_inside touched part contents _ _ _
access_inside touched part contents deed Hidden op frame index = quiet_inside touched part contents _ _
access_inside touched part contents deed (Fault outcome) op frame index = quiet_inside touched part contents _ _

host_inside : (touched : Touched) (part : ActorPart) (contents : Contents) (address : ℕ) (op : Op) → LocksInside touched part (host_access contents part address op)
unfolding host_access
host_inside touched part contents address op = access_inside touched part contents _ _ op _ _

-- Instructions
range_touched : (touched : Touched) (size : PageSize) (frame f : ℕ) → (size ≡ Large → frame % 512 ≡ 0) → covers f (range_lock size frame) ≡ true → touches_frame touched frame ≡ true → touches_frame touched f ≡ true
range_touched touched Small frame f aligned inside is =
    let low : frame ≤ f = grind (arith, nat_tests) in
    let high : f < frame + 1 = grind (arith, nat_tests) in
    same_region touched frame f (omega arith) is
range_touched touched Large frame f aligned inside is =
    let low : frame ≤ f = grind (arith, nat_tests) in
    let high : f < frame + 512 = grind (arith, nat_tests) in
    let first = aligned refl in
    same_region touched frame f (omega arith) is

update_first : (frames : ℕ) (update : Update) → is_bad_update frames update ≡ false → update.size ≡ Large → update.frame % 512 ≡ 0
unfolding is_bad_update
update_first frames update fine large = grind (arith, nat_tests)

fine_touched : (refused : Bool) (frame : ℕ) → refused ≡ false → touches_frame (instruction_touches refused frame []) frame ≡ true
unfolding instruction_touches
fine_touched true frame fine = absurd (true≢false fine)
fine_touched false frame fine = own_frame frame

update_inside : (frames : ℕ) (view : View) (part : ActorPart) (update : Update) (locks : List PageLock) → LocksInside (instruction_touches (is_bad_update frames update) update.frame locks) part (update_move frames view part update locks)
unfolding update_move
update_inside frames view part update [] = lock_inside _ part view.contents (update_lock update) _ (λ none f inside.
    let fine = (update_passes frames update _ _ (no_outcome _ none)).fine in
    range_touched (instruction_touches (is_bad_update frames update) update.frame []) update.size update.frame f (update_first frames update fine) inside (fine_touched (is_bad_update frames update) update.frame fine))
update_inside frames view part update (lock ∷ others) = memory_inside _ part view.contents _ _ _

smash_inside : (frames : ℕ) (view : View) (part : ActorPart) (frame : ℕ) (locks : List PageLock) → LocksInside (instruction_touches (is_bad_smash frames frame) frame locks) part (smash_move frames view part frame locks)
unfolding smash_move
smash_inside frames view part frame [] = lock_inside _ part view.contents _ _ (λ none f inside.
    let fine = (smash_passes frames frame _ _ (no_outcome _ none)).fine in
    page_touched (instruction_touches (is_bad_smash frames frame) frame []) _ frame f inside (fine_touched (is_bad_smash frames frame) frame fine))
smash_inside frames view part frame (lock ∷ others) = memory_inside _ part view.contents _ _ _

validate_inside : (touched : Touched) (guests : List GuestSpec) (view : View) (part : ActorPart) (cpu : Processor) (size : PageSize) (validate : Bool) (locks : List PageLock) → ArrivesInside touched part (validate_move guests view part cpu size validate locks)
unfolding validate_move
validate_inside touched guests view part cpu size validate [] gpn private frame leaf is = lock_inside touched part view.contents _ _ (λ none f inside. page_touched touched _ frame f inside is)
validate_inside touched guests view part cpu size validate (lock ∷ others) gpn private frame leaf is = memory_inside touched part view.contents _ _ _

adjust_inside : (touched : Touched) (guests : List GuestSpec) (view : View) (part : ActorPart) (cpu : Processor) (size : PageSize) (target mask : ℕ) (vmsa : Bool) (locks : List PageLock) → ArrivesInside touched part (adjust_move guests view part cpu size target mask vmsa locks)
unfolding adjust_move
adjust_inside touched guests view part cpu size target mask vmsa [] gpn private frame leaf is = lock_inside touched part view.contents _ _ (λ none f inside. page_touched touched _ frame f inside is)
adjust_inside touched guests view part cpu size target mask vmsa (lock ∷ others) gpn private frame leaf is = memory_inside touched part view.contents _ _ _

-- Commands of the firmware
no_fw_refusal : (refusal : Option FwRefusal) → option_map refused refusal ≡ None → refusal ≡ None
no_fw_refusal None none = refl
no_fw_refusal (Some refusal) none = absurd (cc)

in_memory : (frames frame : ℕ) → frame_refusal frames frame ≡ None → frame < frames
unfolding frame_refusal
in_memory frames frame none = grind (arith, nat_tests)

frame_listed : (frames : ℕ) (standing : Standing) (page : CommandPage) → page.frame < frames → touches_frame (page_touches frames standing page) page.frame ≡ true
unfolding page_touches
frame_listed frames standing page below =
    let below_is : nat_lt page.frame frames ≡ true = grind (arith, nat_tests) in
    also_touched page.frame standing.locks (record { regions = cond (nat_lt page.frame frames) (region_of page.frame ∷ []) []; context = standing.context_lock })
    (subst (λ (b : Bool). list_any (λ r. eqb r (region_of page.frame)) (cond b (region_of page.frame ∷ []) []) ≡ true) (sym below_is) (own_frame page.frame))

page_inside : (frames : ℕ) (guests : List GuestSpec) (view : View) (part : ActorPart) (command : Command) (page : CommandPage) → LocksInside (page_touches frames part.standing page) part (take_page frames guests view part command page)
unfolding take_page lock_refusal
page_inside frames guests view part command page = lock_inside _ part view.contents _ _ (λ none f inside.
    page_touched (page_touches frames part.standing page) _ page.frame f inside (frame_listed frames part.standing page (in_memory frames page.frame (first_none (frame_refusal frames page.frame) _ (no_fw_refusal _ none)))))

same_guest : (l g : ℕ) → eqb l g ≡ true → Some l ≡ Some g
same_guest l g is = ap (λ (n : ℕ). Some n) (grind (arith, nat_tests))

taken_inside : (guests : List GuestSpec) (contents : Contents) (part : ActorPart) (guest : ℕ) (refusal : Option FwRefusal) (b : Bool) → (refusal ≡ None → b ≡ false) → LocksInside (cond b nothing_touched (context_touched guest)) part (context_taken contents part guest refusal)
unfolding context_taken
taken_inside guests contents part guest (Some refusal) b fine = quiet_inside _ part contents _ _
taken_inside guests contents part guest None true fine = absurd (true≢false (fine refl))
taken_inside guests contents part guest None false fine = record { frames = λ none f is. inl is; contexts = λ none g is. inr (same_guest guest g is) }

context_inside : (guests : List GuestSpec) (view : View) (part : ActorPart) (command : Command) (guest : ℕ) → LocksInside (cond (is_some (guest_refusal guests guest)) nothing_touched (context_touched guest)) part (take_context guests view part command guest)
unfolding take_context
context_inside guests view part command guest = taken_inside guests view.contents part guest _ (is_some (guest_refusal guests guest)) (λ none. ap is_some (first_none (guest_refusal guests guest) _ none))

made_inside : (touched : Touched) (part : ActorPart) (contents : Contents) (made : Result Computed FwRefusal) → LocksInside touched part (computed_move contents part made)
unfolding computed_move
made_inside touched part contents (Ok made) = record { frames = λ none f is. inl is; contexts = λ none g is. inl is }
made_inside touched part contents (Err refusal) = quiet_inside touched part contents _ _

commit_inside : (touched : Touched) (view : View) (part : ActorPart) (command : Command) → LocksInside touched part (commit_move view.contents part command)
unfolding commit_move
commit_inside touched view part command = record { frames = λ none f is. inl is; contexts = λ none g is. inl is }

phase_inside : (frames : ℕ) (guests : List GuestSpec) (view : View) (part : ActorPart) (command : Command) (phase : Phase) → LocksInside (phase_touches frames guests part.standing command phase) part (phase_move frames guests view part command phase)
unfolding phase_touches phase_move
phase_inside frames guests view part command (TakeContext guest) = context_inside guests view part command guest
phase_inside frames guests view part command (TakePage page) = page_inside frames guests view part command page
phase_inside frames guests view part command (Computing sealing) = made_inside _ part view.contents _
phase_inside frames guests view part command Committing = commit_inside _ view part command

-- Each item
item_inside : (frames : ℕ) (guests : List GuestSpec) (view : View) (part : ActorPart) (role : Role) (item : Item) → LocksInside (item_touches frames guests part role item) part (item_move frames guests view part role item)
unfolding item_touches item_move
item_inside frames guests view part (Cpu guest vmpl npt paging) (items.Access address op) =
    let cpu : Processor = record { guest = guest; vmpl = vmpl; npt = npt; paging = paging } in
    walked_inside _ frames guests view.contents part cpu (lookup_of address op) None _ part.deeds (includes_itself _) (λ gpn private frame size is. access_inside _ part view.contents _ _ op frame _)
item_inside frames guests view part (Cpu guest vmpl npt paging) (items.Pvalidate address size validate) =
    let cpu : Processor = record { guest = guest; vmpl = vmpl; npt = npt; paging = paging } in
    walked_inside _ frames guests view.contents part cpu (page_lookup address) _ _ part.deeds (with_includes part.standing.locks _) (validate_inside _ guests view part cpu size validate part.standing.locks)
item_inside frames guests view part (Cpu guest vmpl npt paging) (items.Rmpadjust address size target mask vmsa) =
    let cpu : Processor = record { guest = guest; vmpl = vmpl; npt = npt; paging = paging } in
    walked_inside _ frames guests view.contents part cpu (page_lookup address) _ _ part.deeds (with_includes part.standing.locks _) (adjust_inside _ guests view part cpu size target mask vmsa part.standing.locks)
item_inside frames guests view part (Cpu guest vmpl npt paging) (items.Rmpupdate update) = quiet_inside _ part view.contents _ _
item_inside frames guests view part (Cpu guest vmpl npt paging) (items.Psmash frame) = quiet_inside _ part view.contents _ _
item_inside frames guests view part (Cpu guest vmpl npt paging) (items.Firmware command) = quiet_inside _ part view.contents _ _
item_inside frames guests view part (Cpu guest vmpl npt paging) (items.Skip count test) = quiet_inside _ part view.contents _ _
item_inside frames guests view part Host (items.Access address op) = host_inside _ part view.contents address op
item_inside frames guests view part Host (items.Pvalidate address size validate) = quiet_inside _ part view.contents _ _
item_inside frames guests view part Host (items.Rmpadjust address size target mask vmsa) = quiet_inside _ part view.contents _ _
item_inside frames guests view part Host (items.Rmpupdate update) = update_inside frames view part update part.standing.locks
item_inside frames guests view part Host (items.Psmash frame) = smash_inside frames view part frame part.standing.locks
item_inside frames guests view part Host (items.Firmware command) = quiet_inside _ part view.contents _ _
item_inside frames guests view part Host (items.Skip count test) = quiet_inside _ part view.contents _ _
item_inside frames guests view part Firmware (items.Access address op) = quiet_inside _ part view.contents _ _
item_inside frames guests view part Firmware (items.Pvalidate address size validate) = quiet_inside _ part view.contents _ _
item_inside frames guests view part Firmware (items.Rmpadjust address size target mask vmsa) = quiet_inside _ part view.contents _ _
item_inside frames guests view part Firmware (items.Rmpupdate update) = quiet_inside _ part view.contents _ _
item_inside frames guests view part Firmware (items.Psmash frame) = quiet_inside _ part view.contents _ _
item_inside frames guests view part Firmware (items.Firmware command) = phase_inside frames guests view part command (phase_of command part.standing)
item_inside frames guests view part Firmware (items.Skip count test) = quiet_inside _ part view.contents _ _

-- What was locked before it

nothing_locked : (standing : Standing) (f : ℕ) → standing ≡ nothing_taken → list_any (covers f) standing.locks ≡ true → ⊥
nothing_locked standing f nothing is = true≢false (sym is ∙ ap (λ (s : Standing). list_any (covers f) s.locks) nothing)

nothing_context : (standing : Standing) (g : ℕ) → standing ≡ nothing_taken → IsLocked g standing.context_lock → ⊥
nothing_context standing g nothing is = true≢false (sym is ∙ ap (λ (s : Standing). unwrap_or (option_map (λ l. eqb l g) s.context_lock) (is_some s.context_lock)) nothing)

none_context : (locked : Option ℕ) (g : ℕ) → locked ≡ None → IsLocked g locked → ⊥
none_context locked g none is = true≢false (sym is ∙ ap (λ (l : Option ℕ). unwrap_or (option_map (λ k. eqb k g) l) (is_some l)) none)

locked_is : (locked : Option ℕ) (g : ℕ) → IsLocked g locked → locked ≡ Some g
locked_is None g is = absurd (true≢false (sym is))
locked_is (Some l) g is = same_guest l g is

instruction_before : (refused : Bool) (frame f : ℕ) (locks : List PageLock) → list_any (covers f) locks ≡ true → touches_frame (instruction_touches refused frame locks) f ≡ true
unfolding instruction_touches
instruction_before refused frame f [] is = absurd (true≢false (sym is))
instruction_before refused frame f (lock ∷ others) is = own_locks f (lock ∷ others) (frame_touched frame) is

record Before (touched : Touched) (standing : Standing) : Type 0 where
  frames : (f : ℕ) → list_any (covers f) standing.locks ≡ true → touches_frame touched f ≡ true
  contexts : (g : ℕ) → IsLocked g standing.context_lock → touched.context ≡ Some g

nothing_before : (touched : Touched) (standing : Standing) → standing ≡ nothing_taken → Before touched standing
nothing_before touched standing nothing = record { frames = λ f is. absurd (nothing_locked standing f nothing is); contexts = λ g is. absurd (nothing_context standing g nothing is) }

later_before : (frames : ℕ) (guests : List GuestSpec) (standing : Standing) (command : Command) (page : Option CommandPage) (sealing : Option Sealing) (computed : Option Computed) → (standing.context_lock ≡ guest_of command)
    → Before (phase_touches frames guests standing command (pages_phase page sealing computed)) standing
unfolding phase_touches pages_phase page_touches command_touches
later_before frames guests standing command (Some page) sealing computed same = record { frames = λ f is. own_regions f standing.locks _ is; contexts = λ g is. locked_is standing.context_lock g is }
later_before frames guests standing command None (Some sealing) None same = record { frames = λ f is. own_regions f standing.locks _ is; contexts = λ g is. sym same ∙ locked_is standing.context_lock g is }
later_before frames guests standing command None (Some sealing) (Some made) same = record { frames = λ f is. own_regions f standing.locks _ is; contexts = λ g is. sym same ∙ locked_is standing.context_lock g is }
later_before frames guests standing command None None None same = record { frames = λ f is. own_regions f standing.locks _ is; contexts = λ g is. sym same ∙ locked_is standing.context_lock g is }
later_before frames guests standing command None None (Some made) same = record { frames = λ f is. own_regions f standing.locks _ is; contexts = λ g is. sym same ∙ locked_is standing.context_lock g is }

context_before : (frames : ℕ) (guests : List GuestSpec) (standing : Standing) (command : Command) (guest locked : Option ℕ) (later : Phase) → locked ≡ guest → Before (phase_touches frames guests standing command later) standing
    → Before (phase_touches frames guests standing command (context_phase guest locked later)) standing
unfolding context_phase
context_before frames guests standing command (Some guest) None later same before = absurd (cc)
context_before frames guests standing command (Some guest) (Some locked) later same before = before
context_before frames guests standing command None locked later same before = before

firmware_before : (frames : ℕ) (guests : List GuestSpec) (standing : Standing) (command : Command) (made : List Deed) → IsCommand frames command standing made → Before (phase_touches frames guests standing command (phase_of command standing)) standing
firmware_before frames guests standing command made is =
    ⊎_elim
    (λ (nothing : standing ≡ nothing_taken). nothing_before _ standing nothing)
    (λ (same : standing.context_lock ≡ guest_of command). context_before frames guests standing command (guest_of command) standing.context_lock _ same (later_before frames guests standing command _ _ standing.computed same))
    is.context

item_before : (frames : ℕ) (guests : List GuestSpec) (contents : Contents) (part : ActorPart) (role : Role) (item : Item) → AreItemLocks frames guests contents role item part.deeds part.standing → IsAttempt frames role item part.standing part.deeds
    → Before (item_touches frames guests part role item) part.standing
unfolding item_touches AreItemLocks IsAttempt
item_before frames guests contents part (Cpu guest vmpl npt paging) (items.Access address op) tested attempt = nothing_before _ part.standing tested
item_before frames guests contents part (Cpu guest vmpl npt paging) (items.Pvalidate address size validate) tested attempt = record { frames = λ f is. own_regions f part.standing.locks _ is; contexts = λ g is. absurd (none_context part.standing.context_lock g tested.context is) }
item_before frames guests contents part (Cpu guest vmpl npt paging) (items.Rmpadjust address size target mask vmsa) tested attempt = record { frames = λ f is. own_regions f part.standing.locks _ is; contexts = λ g is. absurd (none_context part.standing.context_lock g tested.context is) }
item_before frames guests contents part (Cpu guest vmpl npt paging) (items.Rmpupdate update) tested attempt = nothing_before _ part.standing tested
item_before frames guests contents part (Cpu guest vmpl npt paging) (items.Psmash frame) tested attempt = nothing_before _ part.standing tested
item_before frames guests contents part (Cpu guest vmpl npt paging) (items.Firmware command) tested attempt = nothing_before _ part.standing tested
item_before frames guests contents part (Cpu guest vmpl npt paging) (items.Skip count test) tested attempt = nothing_before _ part.standing tested
item_before frames guests contents part Host (items.Access address op) tested attempt = nothing_before _ part.standing tested
item_before frames guests contents part Host (items.Pvalidate address size validate) tested attempt = nothing_before _ part.standing tested
item_before frames guests contents part Host (items.Rmpadjust address size target mask vmsa) tested attempt = nothing_before _ part.standing tested
item_before frames guests contents part Host (items.Rmpupdate update) tested attempt = record { frames = λ f is. instruction_before (is_bad_update frames update) update.frame f part.standing.locks is; contexts = λ g is. absurd (none_context part.standing.context_lock g tested.context is) }
item_before frames guests contents part Host (items.Psmash frame) tested attempt = record { frames = λ f is. instruction_before (is_bad_smash frames frame) frame f part.standing.locks is; contexts = λ g is. absurd (none_context part.standing.context_lock g tested.context is) }
item_before frames guests contents part Host (items.Firmware command) tested attempt = nothing_before _ part.standing tested
item_before frames guests contents part Host (items.Skip count test) tested attempt = nothing_before _ part.standing tested
item_before frames guests contents part Firmware (items.Access address op) tested attempt = nothing_before _ part.standing tested
item_before frames guests contents part Firmware (items.Pvalidate address size validate) tested attempt = nothing_before _ part.standing tested
item_before frames guests contents part Firmware (items.Rmpadjust address size target mask vmsa) tested attempt = nothing_before _ part.standing tested
item_before frames guests contents part Firmware (items.Rmpupdate update) tested attempt = nothing_before _ part.standing tested
item_before frames guests contents part Firmware (items.Psmash frame) tested attempt = nothing_before _ part.standing tested
item_before frames guests contents part Firmware (items.Firmware command) tested attempt = firmware_before frames guests part.standing command part.deeds attempt
item_before frames guests contents part Firmware (items.Skip count test) tested attempt = nothing_before _ part.standing tested

-- All of it

frames_then : (touched : Touched) (part : ActorPart) (move : Move) (outcome : Option Outcome) → move.outcome ≡ outcome → Before touched part.standing → LocksInside touched part move → (f : ℕ) → locks_frame f (part_after part move outcome) ≡ true → touches_frame touched f ≡ true
unfolding part_after
frames_then touched part move None is before inside f locked = ⊎_elim (λ old. before.frames f old) (λ new. new) (inside.frames is f locked)
frames_then touched part move (Some outcome) is before inside f locked = absurd (true≢false (sym locked))

contexts_then : (touched : Touched) (part : ActorPart) (move : Move) (outcome : Option Outcome) → move.outcome ≡ outcome → Before touched part.standing → LocksInside touched part move → (g : ℕ) → locks_context g (part_after part move outcome) ≡ true → touched.context ≡ Some g
unfolding part_after
contexts_then touched part move None is before inside g locked = ⊎_elim (λ old. before.contexts g old) (λ new. new) (inside.contexts is g locked)
contexts_then touched part move (Some outcome) is before inside g locked = absurd (true≢false (sym locked))

pub locks_touched : (m : State) (a : ℕ) → KeepsLocks m → IsWalking m.frames (part_of m a) → IsUnfinished m a → LocksAreTouched m a
locks_touched m a keeps walking unfinished =
    let part = part_of m a in
    let item = (line_at part.script part.item).item in
    let move = item_move m.frames m.guests (view_of m) part part.role item in
    let before = item_before m.frames m.guests m.contents part part.role item (keeps.tested (a - 1)) walking in
    let inside = item_inside m.frames m.guests (view_of m) part part.role item in
    let becomes = after_part m a (unfinished_at m a unfinished).within in
    record {
      frames_before = before.frames;
      frames_after = λ f locked. frames_then (touched_by m a) part move move.outcome refl before inside f (subst (λ (p : ActorPart). locks_frame f p ≡ true) becomes locked);
      contexts_before = before.contexts;
      contexts_after = λ g locked. contexts_then (touched_by m a) part move move.outcome refl before inside g (subst (λ (p : ActorPart). locks_context g p ≡ true) becomes locked);
    }

-- Who holds a lock

-- what an actor doesn't hold isn't released with its locks
released_stays : (actor : ℕ) (holder : Option ℕ) → (holder ≡ Some actor → ⊥) → released actor holder ≡ holder
released_stays actor None apart = refl
released_stays actor (Some holder) apart = let other : (holder ≡ actor → ⊥) = λ same. apart (ap (λ (n : ℕ). Some n) same) in grind (arith, nat_tests, other)

relocked_beside : (actor : ℕ) (locks : List PageLock) (holder : ℕ → Option ℕ) (frame : ℕ) → list_any (covers frame) locks ≡ false → (holder frame ≡ Some actor → ⊥) → relocked actor locks holder frame ≡ holder frame
relocked_beside actor locks holder frame none apart = ap (λ (b : Bool). cond b (Some actor) (released actor (holder frame))) none ∙ released_stays actor (holder frame) apart

recontexted_beside : (actor : ℕ) (locked : Option ℕ) (holder : ℕ → Option ℕ) (guest : ℕ) → is_locked guest locked ≡ false → (holder guest ≡ Some actor → ⊥) → recontexted actor locked holder guest ≡ holder guest
recontexted_beside actor locked holder guest none apart = ap (λ (b : Bool). cond b (Some actor) (released actor (holder guest))) none ∙ released_stays actor (holder guest) apart

-- beside what its event touches an actor has locked nothing before it and after it, so there each lock keeps its holder
pub holders_stay : (m : State) (a : ℕ) → KeepsLocks m → IsWalking m.frames (part_of m a) → IsUnfinished m a → HoldersStay m a
holders_stay m a keeps walking unfinished =
    let touched = locks_touched m a keeps walking unfinished in
    let then = (part_of (after m a) a).standing in
    record {
      frames = λ f beside.
          ap (λ (holder : ℕ → Option ℕ). holder f) (holders_after m a keeps walking unfinished.0)
          ∙ relocked_beside a then.locks (holder_of m) f (not_true (list_any (covers f) then.locks) (λ locked. true≢false (sym (touched.frames_after f locked) ∙ beside)))
          (λ own. true≢false (sym (touched.frames_before f ((owns_locks m a keeps unfinished.0).only f own)) ∙ beside));
      contexts = λ g beside.
          ap (λ (holder : ℕ → Option ℕ). holder g) (context_holders_after m a keeps walking unfinished.0)
          ∙ recontexted_beside a then.context_lock (context_holder_of m) g (not_true (is_locked g then.context_lock) (λ locked. beside (touched.contexts_after g locked)))
          (λ own. beside (touched.contexts_before g ((owns_context m a keeps unfinished.0).only g own)));
    }

-- So in every run

pub run_touches : (c : Scenario) (s : List ℕ) (a : ℕ) → IsSound c → IsDefined c s → IsUnfinished (state_after c s) a → LocksAreTouched (state_after c s) a
run_touches c s a sound defined unfinished =
    let order = run_order c s sound defined in
    locks_touched (state_after c s) a order.locks (part_walking (state_after c s) a order.walking unfinished) unfinished

pub run_holders_stay : (c : Scenario) (s : List ℕ) (a : ℕ) → IsSound c → IsDefined c s → IsUnfinished (state_after c s) a → HoldersStay (state_after c s) a
run_holders_stay c s a sound defined unfinished =
    let order = run_order c s sound defined in
    holders_stay (state_after c s) a order.locks (part_walking (state_after c s) a order.walking unfinished) unfinished
