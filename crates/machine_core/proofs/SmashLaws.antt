-- The two events of PSMASH: its lock and its commit in the bay of its region, over the flat memory.
use Rattle.std.proofs.Common.{◌≡◌, ◌≢◌, ℕ, ◌*◌, ◌/◌, ◌%◌, ◌<◌, ◌^◌, Bool, true, false, cond, List, [], ◌∷◌, Option, None, Some, refl, sym, ap, ◌∙◌, subst, arith}
use Rattle.std.proofs.lemmas.Bool.{true≢false}
use Rattle.std.proofs.lemmas.Bool.Decides.{nat_tests}
use Rattle.snp_model.specs.declared.entry.PageSize.{PageSize}
use Rattle.snp_model.specs.declared.entry.PageSize.TheVariants.{Small, Large}
use Rattle.snp_model.specs.declared.entry.RmpEntry.{RmpEntry}
use Rattle.snp_model.specs.declared.event.Deed.TheVariants as deeds
use Rattle.snp_model.specs.declared.event.Outcome.TheVariants as outcomes
use Rattle.snp_model.specs.declared.event.Refusal.{Refusal}
use Rattle.snp_model.specs.declared.event.Refusal.TheVariants as refusals
use Rattle.snp_model.specs.declared.scenario.GuestSpec.{GuestSpec}
use Rattle.snp_model.specs.Entries.{facts_at, holder_at, with_lock, without_locks}
use Rattle.snp_model.specs.InstructionStep.{smash_move}
use Rattle.snp_model.specs.Locks.{in_range, over, over_lock, page_lock}
use Rattle.snp_model.specs.RegionWords.{page_at}
use Rattle.snp_model.specs.RmpUpdate.{is_bad_smash, pages_smashed, smash_page_refusal, smash_refusal, smashed_facts, smashed_page}
use Rattle.snp_model.specs.State.{ActorPart, Page, PageLock, Standing, nothing_taken}
use Rattle.snp_model.specs.Verdicts.{is_large}
use Rattle.run_laws.specs.HeldLocks.{IsSmashLock}
use Rattle.run_laws.specs.KeptLocks.{relocked}
use Rattle.run_laws.proofs.TestedLaws.{let_through, smash_passes}
use Rattle.machine_core.specs.declared.bay.Bay.{Bay}
use Rattle.machine_core.specs.declared.shown.Shown.{Shown}
use Rattle.machine_core.specs.declared.taken_lock.Taken.TheVariants.{OfPage}
use Rattle.machine_core.specs.declared.taken_lock.TakenLock.{TakenLock}
use Rattle.machine_core.specs.Bays.{Bays, Stock, contents_of, holder_in, holders_of, page_in, pages_of, view_on}
use Rattle.machine_core.specs.Moves.{lock_shown, locks_by, move_by, standing_by}
use Rattle.machine_core.specs.Ranges.{HoldsLock, HoldsNone, IsTestedPage, smash_refused}
use Rattle.machine_core.proofs.HeldLaws.{IsBad, IsFound, committed, lock_shows, quiet_shows, shown_locked}
use Rattle.machine_core.proofs.RangeLaws.{IsPut, covered_region, holders_changed, holders_released, holders_stay, pages_changed, relocked_none, relocked_one}

-- a page that isn't refused at once begins a region of memory
pub smash_first : (frames frame : ℕ) → is_bad_smash frames frame ≡ false → frame % 512 ≡ 0
unfolding is_bad_smash
smash_first frames frame fine = grind (arith, nat_tests)

pub smash_below : (frames frame : ℕ) → is_bad_smash frames frame ≡ false → frame < frames
unfolding is_bad_smash
smash_below frames frame fine = grind (arith, nat_tests)

-- the facts and the holder of its first frame
first_facts : (bays : Bays) (bay : Bay) (frame : ℕ) → frame % 512 ≡ 0 → bays (frame / 512) ≡ Some bay → (pages_of bays frame).facts ≡ facts_at bay.rmp 0
unfolding pages_of
first_facts bays bay frame first there = ap (λ (o : Option Bay). (page_in o (frame % 512)).facts) there ∙ ap (facts_at bay.rmp) first

first_holder : (bays : Bays) (bay : Bay) (frame : ℕ) → frame % 512 ≡ 0 → bays (frame / 512) ≡ Some bay → holders_of bays frame ≡ holder_at bay.rmp 0
unfolding holders_of
first_holder bays bay frame first there = ap (λ (o : Option Bay). holder_in o (frame % 512)) there ∙ ap (holder_at bay.rmp) first

-- The lock

input_refused : (frames frame : ℕ) (stock : Stock) (status : ℕ) → IsBad (is_bad_smash frames frame) status → smash_refused frames frame stock ≡ Some (refusals.Status status)
unfolding smash_refusal
input_refused frames frame stock status bad =
    ap (λ (b : Bool). cond b (Some (refusals.Status 1)) (smash_page_refusal (pages_of stock.bays frame).facts (holders_of stock.bays frame))) bad.bad_is
    ∙ ap (λ (s : ℕ). Some (refusals.Status s)) (sym bad.status_is)

pub input_shown : (frames frame : ℕ) (stock : Stock) (status : ℕ) (lock : PageLock) (shown : Shown) → IsBad (is_bad_smash frames frame) status → shown ≡ lock_shown lock (Some (refusals.Status status))
    → shown ≡ lock_shown lock (smash_refused frames frame stock)
input_shown frames frame stock status lock shown bad is = is ∙ ap (lock_shown lock) (sym (input_refused frames frame stock status bad))

-- the rows that look at the page see it in the region as in memory
pub rows_refused : (frames frame : ℕ) (stock : Stock) (region : ℕ) (bay : Bay) (refusal : Option Refusal) → IsFound (is_bad_smash frames frame) frame region → stock.bays region ≡ Some bay
    → smash_page_refusal (facts_at bay.rmp 0) (holder_at bay.rmp 0) ≡ refusal → smash_refused frames frame stock ≡ refusal
unfolding smash_refusal
rows_refused frames frame stock region bay refusal found there is =
    let first = smash_first frames frame found.fine in
    let here = ap stock.bays (sym found.region_is) ∙ there in
    ap (λ (b : Bool). cond b (Some (refusals.Status 1)) (smash_page_refusal (pages_of stock.bays frame).facts (holders_of stock.bays frame))) found.fine
    ∙ ap (λ (facts : RmpEntry). smash_page_refusal facts (holders_of stock.bays frame)) (first_facts stock.bays bay frame first here)
    ∙ ap (smash_page_refusal (facts_at bay.rmp 0)) (first_holder stock.bays bay frame first here)
    ∙ is

pub first_unheld : (frames frame actor : ℕ) (stock : Stock) (region : ℕ) (bay : Bay) → IsFound (is_bad_smash frames frame) frame region → stock.bays region ≡ Some bay → HoldsNone actor stock → holder_at bay.rmp 0 ≢ Some actor
first_unheld frames frame actor stock region bay found there none held =
    none frame (first_holder stock.bays bay frame (smash_first frames frame found.fine) (ap stock.bays (sym found.region_is) ∙ there) ∙ held)

-- a page that passes is of 2 MB, and its lock covers the region
pub is_large_size : (size : PageSize) → is_large size ≡ true → size ≡ Large
is_large_size Small large = absurd (true≢false (sym large))
is_large_size Large large = refl

in_memory : (facts : RmpEntry) (holder : Option ℕ) → smash_refusal 1 0 facts holder ≡ smash_page_refusal facts holder
unfolding smash_refusal is_bad_smash
in_memory facts holder = refl

large_passes : (facts : RmpEntry) (holder : Option ℕ) → smash_page_refusal facts holder ≡ None → facts.size ≡ Large
large_passes facts holder passes = is_large_size facts.size (smash_passes 1 0 facts holder (in_memory facts holder ∙ passes)).large

pub page_base : (frame : ℕ) → frame % 512 ≡ 0 → frame / 512 * 512 ≡ frame
page_base frame first = omega arith

pub page_shown : (frames frame : ℕ) (stock : Stock) (region : ℕ) (bay : Bay) (taken : TakenLock) (shown : Shown) → IsFound (is_bad_smash frames frame) frame region → stock.bays region ≡ Some bay
    → smash_page_refusal (facts_at bay.rmp 0) (holder_at bay.rmp 0) ≡ None → taken ≡ record { frame = frame; base = frame; count = 512 }
    → shown ≡ record { deed = deeds.Lock taken.frame; outcome = None; lock = Some (OfPage taken) } → shown ≡ lock_shown (page_lock (pages_of stock.bays frame).facts.size frame) (smash_refused frames frame stock)
page_shown frames frame stock region bay taken shown found there passes taken_is is =
    let first = smash_first frames frame found.fine in
    let large = ap (λ (facts : RmpEntry). facts.size) (first_facts stock.bays bay frame first (ap stock.bays (sym found.region_is) ∙ there)) ∙ large_passes (facts_at bay.rmp 0) (holder_at bay.rmp 0) passes in
    shown_locked (page_lock Large frame) taken (smash_refused frames frame stock) shown is (taken_is ∙ ap (λ (base : ℕ). let t : TakenLock = record { frame = frame; base = base; count = 512 } in t) (sym (page_base frame first)))
    (rows_refused frames frame stock region bay None found there passes)
    ∙ ap (λ (size : PageSize). lock_shown (page_lock size frame) (smash_refused frames frame stock)) (sym large)

region_lock : (actor : ℕ) (frame : ℕ) (size : PageSize) (old new : Bay) → frame % 512 ≡ 0 → size ≡ Large → holder_at new.rmp ≡ with_lock (page_lock size 0) actor (holder_at old.rmp)
    → holder_at new.rmp ≡ over (frame % 512) 512 (λ place held. Some actor) (holder_at old.rmp)
region_lock actor frame size old new first large locked =
    locked ∙ ap (λ (s : PageSize). with_lock (page_lock s 0) actor (holder_at old.rmp)) large ∙ ap (λ (n : ℕ). over n 512 (λ place held. Some actor) (holder_at old.rmp)) (sym first)

pub lock_taken : (stock new_stock : Stock) (frames actor frame region : ℕ) (old new : Bay) (taken : TakenLock) (shown : Shown) → IsFound (is_bad_smash frames frame) frame region → IsPut stock new_stock region old new
    → smash_page_refusal (facts_at old.rmp 0) (holder_at old.rmp 0) ≡ None → holder_at new.rmp ≡ with_lock (page_lock (facts_at old.rmp 0).size 0) actor (holder_at old.rmp) → HoldsNone actor stock
    → taken ≡ record { frame = frame; base = frame; count = 512 } → shown ≡ record { deed = deeds.Lock taken.frame; outcome = None; lock = Some (OfPage taken) }
    → holders_of new_stock.bays ≡ relocked actor (locks_by shown nothing_taken) (holders_of stock.bays)
lock_taken stock new_stock frames actor frame region old new taken shown found is passes locked none taken_is shown_is =
    let first = smash_first frames frame found.fine in
    holders_changed stock new_stock frame 512 old new (λ place held. Some actor) (omega (arith, first)) (subst (λ (r : ℕ). IsPut stock new_stock r old new) found.region_is is)
    (region_lock actor frame (facts_at old.rmp 0).size old new first (large_passes (facts_at old.rmp 0) (holder_at old.rmp 0) passes) locked)
    ∙ relocked_one actor (record { frame = frame; base = frame; count = 512 }) (holders_of stock.bays) none
    ∙ ap (λ (t : TakenLock). relocked actor (record { frame = t.frame; base = t.base; count = t.count } ∷ []) (holders_of stock.bays)) (sym taken_is)
    ∙ ap (λ (s : Shown). relocked actor (locks_by s nothing_taken) (holders_of stock.bays)) (sym shown_is)

-- a lock that is refused leaves all locks
pub lock_refused : (stock new_stock : Stock) (actor frame region : ℕ) (old new : Bay) (refusal : Refusal) (shown : Shown) → IsPut stock new_stock region old new → new.rmp ≡ old.rmp → HoldsNone actor stock
    → shown ≡ lock_shown (page_lock Large frame) (Some refusal) → holders_of new_stock.bays ≡ relocked actor (locks_by shown nothing_taken) (holders_of stock.bays)
lock_refused stock new_stock actor frame region old new refusal shown is same none shown_is =
    holders_stay stock new_stock region old new is (λ i. holder_at (same i))
    ∙ sym (relocked_none actor (holders_of stock.bays) none)
    ∙ ap (λ (s : Shown). relocked actor (locks_by s nothing_taken) (holders_of stock.bays)) (sym shown_is)

-- The commit

pub page_held : (actor frame : ℕ) (stock : Stock) (bay : Bay) → IsTestedPage frame stock → stock.bays (frame / 512) ≡ Some bay → HoldsLock actor (page_lock Large frame) stock → holder_at bay.rmp 0 ≡ Some actor
page_held actor frame stock bay tested there holds =
    sym (first_holder stock.bays bay frame tested.first there) ∙ holds.has frame (let base = page_base frame tested.first in grind (arith, nat_tests, base))

pub page_tested : (frame : ℕ) (stock : Stock) (bay : Bay) → IsTestedPage frame stock → stock.bays (frame / 512) ≡ Some bay → smash_page_refusal (facts_at bay.rmp 0) None ≡ None
page_tested frame stock bay tested there = ap (λ (facts : RmpEntry). smash_page_refusal facts None) (sym (first_facts stock.bays bay frame tested.first there)) ∙ tested.passes

-- it names the guest page number of the frame
pub commit_shown : (frame gpn : ℕ) (stock : Stock) (bay : Bay) (entry : RmpEntry) (shown : Shown) → IsTestedPage frame stock → stock.bays (frame / 512) ≡ Some bay → entry ≡ facts_at bay.rmp 0 → gpn ≡ entry.gpn
    → shown ≡ record { deed = deeds.Commit frame gpn Large; outcome = Some (outcomes.Status 0); lock = None }
    → shown ≡ record { deed = deeds.Commit frame (pages_of stock.bays frame).facts.gpn Large; outcome = Some (outcomes.Status 0); lock = None }
commit_shown frame gpn stock bay entry shown tested there entry_is gpn_is is =
    is ∙ ap (λ (n : ℕ). let s : Shown = record { deed = deeds.Commit frame n Large; outcome = Some (outcomes.Status 0); lock = None } in s)
    (gpn_is ∙ ap (λ (e : RmpEntry). e.gpn) (entry_is ∙ sym (first_facts stock.bays bay frame tested.first there)))

page_smashed : (covered : Bool) (facts : RmpEntry) (words : List ℕ) → (let p : Page = record { facts = cond covered (smashed_facts facts) facts; words = words } in p) ≡ cond covered (smashed_page (record { facts = facts; words = words })) (record { facts = facts; words = words })
page_smashed true facts words = refl
page_smashed false facts words = refl

region_smashed : (frame : ℕ) (old new : Bay) → frame % 512 ≡ 0 → (facts_at old.rmp 0).size ≡ Large → new.memory ≡ old.memory → facts_at new.rmp ≡ over_lock (page_lock (facts_at old.rmp 0).size 0) smashed_facts (facts_at old.rmp)
    → page_in (Some new) ≡ over (frame % 512) 512 (λ place. smashed_page) (page_in (Some old))
region_smashed frame old new first large memory smashed =
    let facts = smashed ∙ ap (λ (s : PageSize). over_lock (page_lock s 0) smashed_facts (facts_at old.rmp)) large in
    (λ i slot. let p : Page = record { facts = facts i slot; words = page_at (memory i) slot } in p)
    ∙ (λ i slot. page_smashed (in_range 0 512 slot) (facts_at old.rmp slot) (page_at old.memory slot) i)
    ∙ ap (λ (n : ℕ). over n 512 (λ place. smashed_page) (page_in (Some old))) (sym first)

pub commit_pages : (stock new_stock : Stock) (frame : ℕ) (old new : Bay) → IsTestedPage frame stock → IsPut stock new_stock (frame / 512) old new → new.memory ≡ old.memory
    → facts_at new.rmp ≡ over_lock (page_lock (facts_at old.rmp 0).size 0) smashed_facts (facts_at old.rmp)
    → pages_of new_stock.bays ≡ pages_smashed (page_lock Large frame) (pages_of stock.bays)
unfolding pages_smashed
commit_pages stock new_stock frame old new tested is memory smashed =
    let first = tested.first in
    pages_changed stock new_stock frame 512 old new (λ place. smashed_page) (omega (arith, first)) is
    (region_smashed frame old new first (large_passes (facts_at old.rmp 0) None (page_tested frame stock old tested is.there)) memory smashed)
    ∙ ap (λ (base : ℕ). over base 512 (λ place. smashed_page) (pages_of stock.bays)) (sym (page_base frame first))

pub commit_locks : (stock new_stock : Stock) (actor frame : ℕ) (old new : Bay) → IsTestedPage frame stock → HoldsLock actor (page_lock Large frame) stock → IsPut stock new_stock (frame / 512) old new
    → holder_at new.rmp ≡ without_locks actor (holder_at old.rmp) → holders_of new_stock.bays ≡ relocked actor [] (holders_of stock.bays)
commit_locks stock new_stock actor frame old new tested holds is left =
    let first = tested.first in
    let base = page_base frame first in
    holders_released stock new_stock (frame / 512) actor old new is left
    (λ f held. covered_region frame 512 f (omega (arith, first)) (subst (λ (b : ℕ). in_range b 512 f ≡ true) base (holds.only f held)))

-- An attempt

-- what its lock's tests asked still holds
pub smash_tested : (frames : ℕ) (guests : List GuestSpec) (frame : ℕ) (lock : PageLock) (stock : Stock) → frames < 2 ^ 32 → IsSmashLock frames (contents_of stock guests) frame lock → IsTestedPage frame stock
unfolding smash_refusal
smash_tested frames guests frame lock stock few tested =
    let input = let_through (is_bad_smash frames frame) (refusals.Status 1) (smash_page_refusal (pages_of stock.bays frame).facts None) tested.passes in
    let below = smash_below frames frame input.fails in
    record { first = smash_first frames frame input.fails; below = omega (arith, few, below); passes = input.after_it }

-- its lock is that of a page of 2 MB
pub smash_lock_is : (frames : ℕ) (guests : List GuestSpec) (frame : ℕ) (lock : PageLock) (stock : Stock) → IsSmashLock frames (contents_of stock guests) frame lock → lock ≡ page_lock Large frame
smash_lock_is frames guests frame lock stock tested =
    tested.covers ∙ ap (λ (size : PageSize). page_lock size frame) (is_large_size (pages_of stock.bays frame).facts.size (smash_passes frames frame (pages_of stock.bays frame).facts None tested.passes).large)

-- the move of its lock
pub lock_moves : (frames : ℕ) (guests : List GuestSpec) (frame : ℕ) (part : ActorPart) (old new : Stock) (shown : Shown) → part.standing ≡ nothing_taken
    → shown ≡ lock_shown (page_lock (pages_of old.bays frame).facts.size frame) (smash_refused frames frame old) → pages_of new.bays ≡ pages_of old.bays → new.contexts ≡ old.contexts
    → smash_move frames (view_on old guests) part frame part.standing.locks ≡ move_by shown (view_on new guests) (standing_by shown part.standing)
unfolding smash_move
lock_moves frames guests frame part old new shown none shown_is same contexts =
    let lock = page_lock (pages_of old.bays frame).facts.size frame in
    ap (λ (s : Standing). smash_move frames (view_on old guests) part frame s.locks) none
    ∙ lock_shows (view_on old guests) part lock (smash_refused frames frame old)
    ∙ quiet_shows guests part old new (lock_shown lock (smash_refused frames frame old)) shown shown_is same contexts

-- and of its commit
pub commit_moves : (frames : ℕ) (guests : List GuestSpec) (frame : ℕ) (part : ActorPart) (lock : PageLock) (old new : Stock) (shown : Shown) → part.standing.locks ≡ lock ∷ [] → lock ≡ page_lock Large frame
    → shown ≡ record { deed = deeds.Commit frame (pages_of old.bays frame).facts.gpn Large; outcome = Some (outcomes.Status 0); lock = None } → pages_of new.bays ≡ pages_smashed (page_lock Large frame) (pages_of old.bays) → new.contexts ≡ old.contexts
    → smash_move frames (view_on old guests) part frame part.standing.locks ≡ move_by shown (view_on new guests) (standing_by shown part.standing)
unfolding smash_move
commit_moves frames guests frame part lock old new shown are lock_is shown_is pages_are contexts =
    ap (smash_move frames (view_on old guests) part frame) (are ∙ ap (λ (l : PageLock). l ∷ []) lock_is)
    ∙ committed old part (deeds.Commit frame (pages_of old.bays frame).facts.gpn Large) (outcomes.Status 0) (pages_smashed (page_lock Large frame) (pages_of old.bays)) guests new shown shown_is pages_are contexts
