-- The two events of PVALIDATE and of RMPADJUST at the page to which their walks have come: its lock and its commit in the bay of its region, over the flat memory.
use Rattle.std.proofs.Common.{◌≡◌, ◌≢◌, ℕ, ◌+◌, ◌/◌, ◌%◌, ◌≤◌, Bool, true, false, cond, List, [], ◌∷◌, Option, None, Some, refl, sym, ap, ◌∙◌, subst, arith}
use Rattle.std.proofs.lemmas.Bool.Decides.{nat_tests}
use Rattle.snp_model.specs.declared.entry.PageSize.{PageSize}
use Rattle.snp_model.specs.declared.entry.PageSize.TheVariants.{Small, Large}
use Rattle.snp_model.specs.declared.entry.RmpEntry.{RmpEntry}
use Rattle.snp_model.specs.declared.event.Deed.TheVariants as deeds
use Rattle.snp_model.specs.declared.event.Outcome.TheVariants.{Carry}
use Rattle.snp_model.specs.declared.event.Refusal.{Refusal}
use Rattle.snp_model.specs.declared.scenario.GuestSpec.{GuestSpec}
use Rattle.snp_model.specs.Entries.{facts_at, holder_at, with_lock, without_locks}
use Rattle.snp_model.specs.Facts.{frames_in, page_base}
use Rattle.snp_model.specs.InstructionStep.{instruction_lock}
use Rattle.snp_model.specs.Locks.{covers, in_range, over, over_lock, page_lock}
use Rattle.snp_model.specs.RegionWords.{page_at}
use Rattle.snp_model.specs.State.{ActorPart, Page, PageLock, nothing_taken}
use Rattle.snp_model.specs.Validation.{adjusted_facts, carry, pages_adjusted, pages_validated, validated_facts}
use Rattle.run_laws.specs.KeptLocks.{relocked}
use Rattle.machine_core.specs.declared.bay.Bay.{Bay}
use Rattle.machine_core.specs.declared.shown.Shown.{Shown}
use Rattle.machine_core.specs.declared.taken_lock.Taken.TheVariants.{OfPage}
use Rattle.machine_core.specs.declared.taken_lock.TakenLock.{TakenLock}
use Rattle.machine_core.specs.Bays.{Bays, Stock, holder_in, holders_of, page_in, pages_of, view_on}
use Rattle.machine_core.specs.Moves.{lock_shown, locks_by, move_by, standing_by}
use Rattle.machine_core.specs.Ranges.{HoldsLock, HoldsNone, page_refused}
use Rattle.machine_core.proofs.HeldLaws.{lock_shows, quiet_shows, shown_locked}
use Rattle.machine_core.proofs.RangeLaws.{IsPut, covered_region, holders_changed, holders_released, pages_changed, relocked_one}

-- the page in which a frame stands lies in the frame's region
slot_base : (size : PageSize) (frame : ℕ) → page_base size (frame % 512) ≡ page_base size frame % 512
slot_base Small frame = refl
slot_base Large frame = omega arith

pub base_fits : (size : PageSize) (frame : ℕ) → page_base size frame % 512 + frames_in size ≤ 512
base_fits Small frame = omega arith
base_fits Large frame = omega arith

pub base_region : (size : PageSize) (frame : ℕ) → page_base size frame / 512 ≡ frame / 512
base_region Small frame = refl
base_region Large frame = omega arith

-- the frame is in it
pub own_frame : (size : PageSize) (frame : ℕ) → covers frame (page_lock size frame) ≡ true
own_frame Small frame = grind (arith, nat_tests)
own_frame Large frame = grind (arith, nat_tests)

pub slot_lock : {A : Type 0} (size : PageSize) (frame : ℕ) (change : A → A) (kept : ℕ → A)
    → over_lock (page_lock size (frame % 512)) change kept ≡ over (page_base size frame % 512) (frames_in size) (λ place. change) kept
slot_lock size frame change kept = ap (λ (base : ℕ). over base (frames_in size) (λ place. change) kept) (slot_base size frame)

pub put_at_base : (stock new_stock : Stock) (size : PageSize) (frame : ℕ) (old new : Bay) → IsPut stock new_stock (frame / 512) old new → IsPut stock new_stock (page_base size frame / 512) old new
put_at_base stock new_stock size frame old new is = subst (λ (r : ℕ). IsPut stock new_stock r old new) (sym (base_region size frame)) is

-- the facts and the holder of the frame
pub own_facts : (bays : Bays) (bay : Bay) (frame : ℕ) → bays (frame / 512) ≡ Some bay → (pages_of bays frame).facts ≡ facts_at bay.rmp (frame % 512)
unfolding pages_of
own_facts bays bay frame there = ap (λ (o : Option Bay). (page_in o (frame % 512)).facts) there

pub own_holder : (bays : Bays) (bay : Bay) (frame : ℕ) → bays (frame / 512) ≡ Some bay → holders_of bays frame ≡ holder_at bay.rmp (frame % 512)
unfolding holders_of
own_holder bays bay frame there = ap (λ (o : Option Bay). holder_in o (frame % 512)) there

-- The lock

-- what is tested of the page is tested in its region as in memory
pub tested_there : (test : RmpEntry → Option ℕ → Option Refusal) (frame slot : ℕ) (stock : Stock) (bay : Bay) (refusal : Option Refusal) → stock.bays (frame / 512) ≡ Some bay → slot ≡ frame % 512
    → test (facts_at bay.rmp slot) (holder_at bay.rmp slot) ≡ refusal → page_refused test frame stock ≡ refusal
tested_there test frame slot stock bay refusal there slot_is is =
    (λ i. test (own_facts stock.bays bay frame there i) (own_holder stock.bays bay frame there i)) ∙ ap (λ (s : ℕ). test (facts_at bay.rmp s) (holder_at bay.rmp s)) (sym slot_is) ∙ is

-- an actor without a lock doesn't hold it
pub own_unheld : (actor frame slot : ℕ) (stock : Stock) (bay : Bay) → stock.bays (frame / 512) ≡ Some bay → slot ≡ frame % 512 → HoldsNone actor stock → holder_at bay.rmp slot ≢ Some actor
own_unheld actor frame slot stock bay there slot_is none held = none frame (own_holder stock.bays bay frame there ∙ ap (holder_at bay.rmp) (sym slot_is) ∙ held)

-- the size that its entry has
own_size : (frame slot : ℕ) (stock : Stock) (bay : Bay) (entry : RmpEntry) → stock.bays (frame / 512) ≡ Some bay → slot ≡ frame % 512 → entry ≡ facts_at bay.rmp slot → (pages_of stock.bays frame).facts.size ≡ entry.size
own_size frame slot stock bay entry there slot_is entry_is = ap (λ (e : RmpEntry). e.size) (own_facts stock.bays bay frame there ∙ ap (facts_at bay.rmp) (sym slot_is) ∙ sym entry_is)

-- the whole page is locked
pub page_locked : (stock new_stock : Stock) (actor frame slot : ℕ) (old new : Bay) (entry : RmpEntry) (taken : TakenLock) (shown : Shown) → IsPut stock new_stock (frame / 512) old new → slot ≡ frame % 512
    → holder_at new.rmp ≡ with_lock (page_lock (facts_at old.rmp slot).size slot) actor (holder_at old.rmp) → HoldsNone actor stock → entry ≡ facts_at old.rmp slot
    → taken ≡ record { frame = frame; base = page_base entry.size frame; count = frames_in entry.size } → shown ≡ record { deed = deeds.Lock taken.frame; outcome = None; lock = Some (OfPage taken) }
    → holders_of new_stock.bays ≡ relocked actor (locks_by shown nothing_taken) (holders_of stock.bays)
page_locked stock new_stock actor frame slot old new entry taken shown is slot_is locked none entry_is taken_is shown_is =
    let size = entry.size in
    let by_size : holder_at new.rmp ≡ with_lock (page_lock size (frame % 512)) actor (holder_at old.rmp) =
    locked
    ∙ ap (λ (s : PageSize). with_lock (page_lock s slot) actor (holder_at old.rmp)) (ap (λ (e : RmpEntry). e.size) (sym entry_is))
    ∙ ap (λ (n : ℕ). with_lock (page_lock size n) actor (holder_at old.rmp)) slot_is in
    holders_changed stock new_stock (page_base size frame) (frames_in size) old new (λ place held. Some actor) (base_fits size frame) (put_at_base stock new_stock size frame old new is)
    (by_size ∙ slot_lock size frame (λ held. Some actor) (holder_at old.rmp))
    ∙ relocked_one actor (page_lock size frame) (holders_of stock.bays) none
    ∙ ap (λ (t : TakenLock). relocked actor (record { frame = t.frame; base = t.base; count = t.count } ∷ []) (holders_of stock.bays)) (sym taken_is)
    ∙ ap (λ (s : Shown). relocked actor (locks_by s nothing_taken) (holders_of stock.bays)) (sym shown_is)

-- what is shown of it
pub page_shown : (stock : Stock) (frame slot : ℕ) (bay : Bay) (entry : RmpEntry) (taken : TakenLock) (refusal : Option Refusal) (shown : Shown) → stock.bays (frame / 512) ≡ Some bay → slot ≡ frame % 512 → entry ≡ facts_at bay.rmp slot
    → taken ≡ record { frame = frame; base = page_base entry.size frame; count = frames_in entry.size } → shown ≡ record { deed = deeds.Lock taken.frame; outcome = None; lock = Some (OfPage taken) } → refusal ≡ None
    → shown ≡ lock_shown (page_lock (pages_of stock.bays frame).facts.size frame) refusal
page_shown stock frame slot bay entry taken refusal shown there slot_is entry_is taken_is shown_is passed =
    shown_locked (page_lock entry.size frame) taken refusal shown shown_is taken_is passed
    ∙ ap (λ (size : PageSize). lock_shown (page_lock size frame) refusal) (sym (own_size frame slot stock bay entry there slot_is entry_is))

-- the move of the lock
pub lock_moves : (guests : List GuestSpec) (part : ActorPart) (old new : Stock) (lock : PageLock) (refusal : Option Refusal) (shown : Shown) → shown ≡ lock_shown lock refusal → pages_of new.bays ≡ pages_of old.bays → new.contexts ≡ old.contexts
    → instruction_lock (view_on old guests) part lock refusal ≡ move_by shown (view_on new guests) (standing_by shown part.standing)
lock_moves guests part old new lock refusal shown shown_is same contexts =
    lock_shows (view_on old guests) part lock refusal ∙ quiet_shows guests part old new (lock_shown lock refusal) shown shown_is same contexts

-- The commit

-- the actor holds the page in its region
pub own_held : (actor frame : ℕ) (stock : Stock) (bay : Bay) → stock.bays (frame / 512) ≡ Some bay → HoldsLock actor (page_lock (pages_of stock.bays frame).facts.size frame) stock → holder_at bay.rmp (frame % 512) ≡ Some actor
own_held actor frame stock bay there holds = sym (own_holder stock.bays bay frame there) ∙ holds.has frame (own_frame (pages_of stock.bays frame).facts.size frame)

-- a page whose facts have changed
abbrev pub with_facts : (RmpEntry → RmpEntry) → Page → Page
with_facts change page = record page { facts = change page.facts }

page_with : (change : RmpEntry → RmpEntry) (covered : Bool) (facts : RmpEntry) (words : List ℕ)
    → (let p : Page = record { facts = cond covered (change facts) facts; words = words } in p) ≡ cond covered (with_facts change (record { facts = facts; words = words })) (record { facts = facts; words = words })
page_with change true facts words = refl
page_with change false facts words = refl

region_with : (change : RmpEntry → RmpEntry) (base count : ℕ) (old new : Bay) → new.memory ≡ old.memory → facts_at new.rmp ≡ over base count (λ place. change) (facts_at old.rmp)
    → page_in (Some new) ≡ over base count (λ place. with_facts change) (page_in (Some old))
region_with change base count old new memory changed =
    (λ i slot. let p : Page = record { facts = changed i slot; words = page_at (memory i) slot } in p)
    ∙ (λ i slot. page_with change (in_range base count slot) (facts_at old.rmp slot) (page_at old.memory slot) i)

-- the facts of the whole page change, by those of the frame
pub page_changed : (stock new_stock : Stock) (frame : ℕ) (old new : Bay) (change : RmpEntry → RmpEntry → RmpEntry) → IsPut stock new_stock (frame / 512) old new → new.memory ≡ old.memory
    → (let own = facts_at old.rmp (frame % 512) in facts_at new.rmp ≡ over_lock (page_lock own.size (frame % 512)) (change own) (facts_at old.rmp))
    → (let own = (pages_of stock.bays frame).facts in pages_of new_stock.bays ≡ over_lock (page_lock own.size frame) (with_facts (change own)) (pages_of stock.bays))
page_changed stock new_stock frame old new change is memory changed =
    let own = facts_at old.rmp (frame % 512) in
    pages_changed stock new_stock (page_base own.size frame) (frames_in own.size) old new (λ place. with_facts (change own)) (base_fits own.size frame) (put_at_base stock new_stock own.size frame old new is)
    (region_with (change own) (page_base own.size frame % 512) (frames_in own.size) old new memory (changed ∙ slot_lock own.size frame (change own) (facts_at old.rmp)))
    ∙ ap (λ (facts : RmpEntry). over_lock (page_lock facts.size frame) (with_facts (change facts)) (pages_of stock.bays)) (sym (own_facts stock.bays old frame is.there))

-- so of PVALIDATE and RMPADJUST
pub validated : (stock new_stock : Stock) (frame : ℕ) (old new : Bay) (validate : Bool) → IsPut stock new_stock (frame / 512) old new → new.memory ≡ old.memory
    → (let own = facts_at old.rmp (frame % 512) in facts_at new.rmp ≡ over_lock (page_lock own.size (frame % 512)) (validated_facts validate own) (facts_at old.rmp))
    → (let own = (pages_of stock.bays frame).facts in pages_of new_stock.bays ≡ pages_validated validate own (page_lock own.size frame) (pages_of stock.bays))
unfolding pages_validated
validated stock new_stock frame old new validate is memory changed = page_changed stock new_stock frame old new (validated_facts validate) is memory changed

pub adjusted : (stock new_stock : Stock) (frame : ℕ) (old new : Bay) (vmpl target mask : ℕ) (vmsa : Bool) → IsPut stock new_stock (frame / 512) old new → new.memory ≡ old.memory
    → (let own = facts_at old.rmp (frame % 512) in facts_at new.rmp ≡ over_lock (page_lock own.size (frame % 512)) (adjusted_facts vmpl target mask vmsa) (facts_at old.rmp))
    → (let own = (pages_of stock.bays frame).facts in pages_of new_stock.bays ≡ pages_adjusted vmpl target mask vmsa (page_lock own.size frame) (pages_of stock.bays))
unfolding pages_adjusted
adjusted stock new_stock frame old new vmpl target mask vmsa is memory changed = page_changed stock new_stock frame old new (λ own. adjusted_facts vmpl target mask vmsa) is memory changed

-- the carry flag of PVALIDATE is told by the facts that the frame had
pub carry_shown : (stock : Stock) (frame gpn : ℕ) (size : PageSize) (validate carried : Bool) (bay : Bay) (shown : Shown) → stock.bays (frame / 512) ≡ Some bay → carried ≡ carry validate (facts_at bay.rmp (frame % 512))
    → shown ≡ record { deed = deeds.Commit frame gpn size; outcome = Some (Carry carried); lock = None }
    → shown ≡ record { deed = deeds.Commit frame gpn size; outcome = Some (Carry (carry validate (pages_of stock.bays frame).facts)); lock = None }
carry_shown stock frame gpn size validate carried bay shown there carried_is shown_is =
    shown_is
    ∙ ap (λ (b : Bool). let s : Shown = record { deed = deeds.Commit frame gpn size; outcome = Some (Carry b); lock = None } in s) (carried_is ∙ ap (carry validate) (sym (own_facts stock.bays bay frame there)))

-- and its locks are released
pub page_released : (stock new_stock : Stock) (actor frame : ℕ) (old new : Bay) → HoldsLock actor (page_lock (pages_of stock.bays frame).facts.size frame) stock → IsPut stock new_stock (frame / 512) old new
    → holder_at new.rmp ≡ without_locks actor (holder_at old.rmp) → holders_of new_stock.bays ≡ relocked actor [] (holders_of stock.bays)
page_released stock new_stock actor frame old new holds is left =
    let size = (pages_of stock.bays frame).facts.size in
    holders_released stock new_stock (frame / 512) actor old new is left
    (λ f held. covered_region (page_base size frame) (frames_in size) f (base_fits size frame) (holds.only f held) ∙ base_region size frame)
