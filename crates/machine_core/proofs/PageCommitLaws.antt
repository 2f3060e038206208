-- What the commits of the firmware's commands change in the bays of their pages, over the flat memory and its locks.
use Rattle.std.proofs.Common.{◌≡◌, ◌≢◌, ℕ, ◌/◌, ◌%◌, Bool, true, false, is_some, cond, List, [], IsSome, Option, None, Some, refl, sym, ap, ◌∙◌, subst, ◌⊎◌, ⊎_elim, arith}
use Rattle.std.proofs.lemmas.Bool.{cases_eq, cond-true, cond-false, eq-eqb, ne_eqb}
use Rattle.std.proofs.lemmas.Bool.Decides.{nat_tests}
use Rattle.std.specs.Prelude.{get_or, ◌==◌}
use Rattle.snp_model.specs.declared.entry.PageSize.{PageSize}
use Rattle.snp_model.specs.declared.entry.PageSize.TheVariants.{Small}
use Rattle.snp_model.specs.declared.entry.RmpEntry.{RmpEntry}
use Rattle.snp_model.specs.declared.event.Deed.TheVariants as deeds
use Rattle.snp_model.specs.declared.event.Outcome.TheVariants as outcomes
use Rattle.snp_model.specs.Entries.{Entries, facts_at, holder_at, region_pages, released, without_locks}
use Rattle.snp_model.specs.Facts.{frames_in, free_entry, page_base}
use Rattle.snp_model.specs.FirmwareCommits.{at_frame}
use Rattle.snp_model.specs.FirmwareStep.{page_shown}
use Rattle.snp_model.specs.Locks.{in_range, over, over_lock, page_lock}
use Rattle.snp_model.specs.RegionWords.{page_at}
use Rattle.snp_model.specs.State.{Page, Pages}
use Rattle.run_laws.specs.KeptLocks.{relocked}
use Rattle.machine_core.specs.declared.bay.Bay.{Bay}
use Rattle.machine_core.specs.declared.shown.Shown.{Shown}
use Rattle.machine_core.specs.Bays.{Bays, Stock, holder_in, holders_of, page_in, pages_of, put}
use Rattle.machine_core.specs.CommandPages.{IsTestedFrame, StillHas, released_in}
use Rattle.machine_core.specs.Ranges.{HoldsLock}
use Rattle.machine_core.proofs.BaysLaws.{page_there, put_at, put_off}
use Rattle.machine_core.proofs.PageLaws.{base_fits, own_facts, own_held, own_holder, page_released, put_at_base, slot_lock}
use Rattle.machine_core.proofs.RangeLaws.{IsPut, by_frame, holders_stay, pages_changed, read_beside, read_new, read_old, released_other}

-- A page of 4 KB

same_test : (frame f : ℕ) → (frame == f) ≡ in_range frame 1 f
same_test frame f = grind (arith, nat_tests)

-- one page is changed over its frame
frame_over : (frame : ℕ) (page : Page) (pages : Pages) → at_frame frame page pages ≡ over frame 1 (λ place old. page) pages
unfolding at_frame
frame_over frame page pages = λ i f. cond (same_test frame f i) page (pages f)

-- it is the page at its frame
pub frame_own : (frame : ℕ) (page : Page) (pages : Pages) → at_frame frame page pages frame ≡ page
unfolding at_frame
frame_own frame page pages = cond-true _ _ _ (eq-eqb frame frame refl)

-- in its region as in memory
pub frame_put : (stock new_stock : Stock) (frame : ℕ) (old new : Bay) (page : Page) → IsPut stock new_stock (frame / 512) old new
    → page_in (Some new) ≡ at_frame (frame % 512) page (page_in (Some old)) → pages_of new_stock.bays ≡ at_frame frame page (pages_of stock.bays)
frame_put stock new_stock frame old new page is changed =
    pages_changed stock new_stock frame 1 old new (λ place held. page) (omega arith) is (changed ∙ frame_over (frame % 512) page (page_in (Some old)))
    ∙ sym (frame_over frame page (pages_of stock.bays))

-- by what it was
pub frame_changed : (stock new_stock : Stock) (frame : ℕ) (old new : Bay) (change : Page → Page) → IsPut stock new_stock (frame / 512) old new
    → page_in (Some new) ≡ at_frame (frame % 512) (change (page_in (Some old) (frame % 512))) (page_in (Some old))
    → pages_of new_stock.bays ≡ at_frame frame (change (pages_of stock.bays frame)) (pages_of stock.bays)
frame_changed stock new_stock frame old new change is changed =
    frame_put stock new_stock frame old new (change (page_in (Some old) (frame % 512))) is changed
    ∙ ap (λ (page : Page). at_frame frame (change page) (pages_of stock.bays)) (sym (page_there stock.bays frame old is.there))

-- the words of its frame
pub own_words : (bays : Bays) (bay : Bay) (frame : ℕ) (words : List ℕ) → bays (frame / 512) ≡ Some bay → words ≡ (page_in (Some bay) (frame % 512)).words → words ≡ (pages_of bays frame).words
own_words bays bay frame words there is = is ∙ ap (λ (page : Page). page.words) (sym (page_there bays frame bay there))

pub own_entry : (bays : Bays) (bay : Bay) (frame : ℕ) (entry : RmpEntry) → bays (frame / 512) ≡ Some bay → entry ≡ facts_at bay.rmp (frame % 512) → entry ≡ (pages_of bays frame).facts
own_entry bays bay frame entry there is = is ∙ sym (own_facts bays bay frame there)

-- its size and its lock, in its region
pub own_small : (bays : Bays) (bay : Bay) (frame : ℕ) → bays (frame / 512) ≡ Some bay → (pages_of bays frame).facts.size ≡ Small → (facts_at bay.rmp (frame % 512)).size ≡ Small
own_small bays bay frame there small = ap (λ (facts : RmpEntry). facts.size) (sym (own_facts bays bay frame there)) ∙ small

pub own_locked : (bays : Bays) (bay : Bay) (frame : ℕ) → bays (frame / 512) ≡ Some bay → IsSome (holders_of bays frame) → IsSome (holder_at bay.rmp (frame % 512))
own_locked bays bay frame there locked = ap is_some (sym (own_holder bays bay frame there)) ∙ locked

-- A page of either size

-- a page is changed in its region as in memory
pub whole_changed : (stock new_stock : Stock) (frame : ℕ) (old new : Bay) (change : Page → Page) → IsPut stock new_stock (frame / 512) old new
    → page_in (Some new) ≡ over_lock (page_lock (facts_at old.rmp (frame % 512)).size (frame % 512)) change (page_in (Some old))
    → pages_of new_stock.bays ≡ over_lock (page_lock (pages_of stock.bays frame).facts.size frame) change (pages_of stock.bays)
whole_changed stock new_stock frame old new change is changed =
    let size = (facts_at old.rmp (frame % 512)).size in
    pages_changed stock new_stock (page_base size frame) (frames_in size) old new (λ place. change) (base_fits size frame) (put_at_base stock new_stock size frame old new is)
    (changed ∙ slot_lock size frame change (page_in (Some old)))
    ∙ ap (λ (facts : RmpEntry). over_lock (page_lock facts.size frame) change (pages_of stock.bays)) (sym (own_facts stock.bays old frame is.there))

-- what a commit shows of it
pub entry_shown : (bays : Bays) (bay : Bay) (frame : ℕ) (entry : RmpEntry) (shown : Shown) → bays (frame / 512) ≡ Some bay → entry ≡ facts_at bay.rmp (frame % 512)
    → shown ≡ record { deed = deeds.Commit frame entry.gpn entry.size; outcome = Some (outcomes.Firmware 0); lock = None }
    → shown ≡ record { deed = page_shown frame (pages_of bays frame); outcome = Some (outcomes.Firmware 0); lock = None }
entry_shown bays bay frame entry shown there entry_is is =
    is ∙ ap (λ (e : RmpEntry). let s : Shown = record { deed = deeds.Commit frame e.gpn e.size; outcome = Some (outcomes.Firmware 0); lock = None } in s) (own_entry bays bay frame entry there entry_is)

-- Locks that are released with it

-- pages stay where locks are released
pub pages_unlocked : (memory : List (List ℕ)) (mid new : Entries) (pages : Pages) → new.facts ≡ mid.facts → region_pages memory mid ≡ pages → region_pages memory new ≡ pages
pages_unlocked memory mid new pages same is =
    (λ i slot. let p : Page = record { facts = get_or (same i) slot free_entry; words = page_at memory slot } in p) ∙ is

-- and they are those that were there before
pub unlocked_after : (actor : ℕ) (old mid new : Entries) → mid.holders ≡ old.holders → holder_at new ≡ without_locks actor (holder_at mid) → holder_at new ≡ without_locks actor (holder_at old)
unlocked_after actor old mid new same left = left ∙ (λ i slot. released actor (get_or (same i) slot None))

-- a lock of a page of 4 KB is that of its frame's page
small_lock : (actor frame : ℕ) (stock : Stock) → IsTestedFrame frame stock → HoldsLock actor (page_lock Small frame) stock → HoldsLock actor (page_lock (pages_of stock.bays frame).facts.size frame) stock
small_lock actor frame stock tested holds = subst (λ (size : PageSize). HoldsLock actor (page_lock size frame) stock) (sym tested.small) holds

pub small_held : (actor frame : ℕ) (stock : Stock) (bay : Bay) → stock.bays (frame / 512) ≡ Some bay → IsTestedFrame frame stock → HoldsLock actor (page_lock Small frame) stock → holder_at bay.rmp (frame % 512) ≡ Some actor
small_held actor frame stock bay there tested holds = own_held actor frame stock bay there (small_lock actor frame stock tested holds)

pub small_released : (stock new_stock : Stock) (actor frame : ℕ) (old new : Bay) → IsTestedFrame frame stock → HoldsLock actor (page_lock Small frame) stock → IsPut stock new_stock (frame / 512) old new
    → holder_at new.rmp ≡ without_locks actor (holder_at old.rmp) → holders_of new_stock.bays ≡ relocked actor [] (holders_of stock.bays)
small_released stock new_stock actor frame old new tested holds is left = page_released stock new_stock actor frame old new (small_lock actor frame stock tested holds) is left

-- What stays

-- a bay that is written without its locks leaves all locks
pub holders_same : (stock new_stock : Stock) (region : ℕ) (old new : Bay) → IsPut stock new_stock region old new → new.rmp.holders ≡ old.rmp.holders → holders_of new_stock.bays ≡ holders_of stock.bays
holders_same stock new_stock region old new is same = holders_stay stock new_stock region old new is (λ i slot. get_or (same i) slot None)

still_there : (bays : Bays) (region : ℕ) (bay : Bay) (r : ℕ) → IsSome (bays r) → IsSome (put region bay bays r)
still_there bays region bay r some =
    ⊎_elim
    (λ (here : r ≡ region). ap is_some (put_at bays region bay r here))
    (λ (apart : r ≢ region). ap is_some (put_off bays region bay r apart) ∙ some)
    (cases_eq r region)

-- all that was there is there
pub still_has : (stock new_stock : Stock) (region : ℕ) (old new : Bay) → IsPut stock new_stock region old new → StillHas stock new_stock
still_has stock new_stock region old new is frame has =
    ap (λ (s : Stock). is_some (s.bays (frame / 512))) is.stock_is ∙ still_there stock.bays region new (frame / 512) has

-- Locks that are released

-- in one region
pub region_released : (stock new_stock : Stock) (region actor : ℕ) (old new : Bay) → IsPut stock new_stock region old new → holder_at new.rmp ≡ without_locks actor (holder_at old.rmp)
    → holders_of new_stock.bays ≡ released_in region actor (holders_of stock.bays)
unfolding holders_of
region_released stock new_stock region actor old new is left = λ i f. each f i
  where
    each : (f : ℕ) → by_frame holder_in new_stock.bays f ≡ cond (f / 512 == region) (released actor (by_frame holder_in stock.bays f)) (by_frame holder_in stock.bays f)
    each f =
        ⊎_elim
        (λ (here : f / 512 ≡ region).
        read_new holder_in stock new_stock region old new is f here ∙ (λ i. left i (f % 512)) ∙ ap (released actor) (sym (read_old holder_in stock new_stock region old new is f here))
        ∙ sym (cond-true _ _ _ (eq-eqb (f / 512) region here)))
        (λ (apart : f / 512 ≢ region).
        read_beside holder_in stock new_stock region old new is f apart ∙ sym (cond-false _ _ _ (ne_eqb (f / 512) region apart)))
        (cases_eq (f / 512) region)

-- none is left of those that were released
none_left : (actor : ℕ) (holder : Option ℕ) → released actor holder ≢ Some actor
none_left actor None held = absurd cc
none_left actor (Some holder) held =
    ⊎_elim
    (λ (same : holder ≡ actor). absurd (let e = sym (cond-true _ None (Some holder) (eq-eqb holder actor same)) ∙ held in cc))
    (λ (apart : holder ≢ actor). apart (let e = sym (cond-false _ None (Some holder) (ne_eqb holder actor apart)) ∙ held in cc))
    (cases_eq holder actor)

released_twice : (actor : ℕ) (holder : Option ℕ) → released actor (released actor holder) ≡ released actor holder
released_twice actor holder = released_other actor (released actor holder) (none_left actor holder)

within : (region actor : ℕ) (holder : ℕ → Option ℕ) (f : ℕ) → f / 512 ≡ region → released_in region actor holder f ≡ released actor (holder f)
within region actor holder f here = cond-true _ _ _ (eq-eqb (f / 512) region here)

unheld : (region actor : ℕ) (holder : ℕ → Option ℕ) (f : ℕ) → holder f ≢ Some actor → released_in region actor holder f ≡ holder f
unheld region actor holder f other = either_way (f / 512 == region)
  where
    either_way : (here : Bool) → cond here (released actor (holder f)) (holder f) ≡ holder f
    either_way true = released_other actor (holder f) other
    either_way false = refl

once_more : (region actor : ℕ) (holder : ℕ → Option ℕ) (f : ℕ) → released actor (released_in region actor holder f) ≡ released actor (holder f)
once_more region actor holder f = either_way (f / 512 == region)
  where
    either_way : (here : Bool) → released actor (cond here (released actor (holder f)) (holder f)) ≡ released actor (holder f)
    either_way true = released_twice actor (holder f)
    either_way false = refl

-- in two regions, where the actor has no other locks
pub two_released : (first second actor : ℕ) (holder : ℕ → Option ℕ) → ((f : ℕ) → holder f ≡ Some actor → (f / 512 ≡ first) ⊎ (f / 512 ≡ second))
    → released_in second actor (released_in first actor holder) ≡ relocked actor [] holder
two_released first second actor holder only = λ i f. each f i
  where
    left : (f : ℕ) → f / 512 ≢ second → released_in second actor (released_in first actor holder) f ≡ released actor (holder f)
    left f apart =
        ⊎_elim
        (λ (here : f / 512 ≡ first).
        let is = within first actor holder f here in
        unheld second actor (released_in first actor holder) f (λ held. none_left actor (holder f) (sym is ∙ held)) ∙ is)
        (λ (apart' : f / 512 ≢ first).
        let other : holder f ≢ Some actor = λ held. ⊎_elim apart' apart (only f held) in
        let is = unheld first actor holder f other in
        unheld second actor (released_in first actor holder) f (λ held. other (sym is ∙ held)) ∙ is ∙ sym (released_other actor (holder f) other))
        (cases_eq (f / 512) first)

    each : (f : ℕ) → released_in second actor (released_in first actor holder) f ≡ released actor (holder f)
    each f =
        ⊎_elim
        (λ (here : f / 512 ≡ second). within second actor (released_in first actor holder) f here ∙ once_more first actor holder f)
        (λ (apart : f / 512 ≢ second). left f apart)
        (cases_eq (f / 512) second)
