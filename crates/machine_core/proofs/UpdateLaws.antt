-- The two events of RMPUPDATE: its lock and its commit in the bay of its region, over the flat memory.
use Rattle.std.proofs.Common.{◌≡◌, ◌≢◌, ℕ, ◌+◌, ◌*◌, ◌/◌, ◌%◌, ◌<◌, ◌≤◌, ◌^◌, get_or, Bool, false, not, ◌&&◌, cond, eqb, List, [], ◌∷◌, Option, None, Some, refl, sym, ap, ◌∙◌, subst, arith}
use Rattle.std.proofs.lemmas.Bool.Decides.{nat_tests}
use Rattle.snp_model.specs.declared.entry.RmpEntry.{RmpEntry}
use Rattle.snp_model.specs.declared.event.Deed.TheVariants as deeds
use Rattle.snp_model.specs.declared.event.Outcome.TheVariants as outcomes
use Rattle.snp_model.specs.declared.event.Refusal.{Refusal}
use Rattle.snp_model.specs.declared.event.Refusal.TheVariants as refusals
use Rattle.snp_model.specs.declared.item.Update.{Update}
use Rattle.snp_model.specs.declared.scenario.GuestSpec.{GuestSpec}
use Rattle.snp_model.specs.Entries.{facts_at, holder_at, region_pages, with_lock, without_locks}
use Rattle.snp_model.specs.Facts.{frames_in, free_entry}
use Rattle.snp_model.specs.InstructionStep.{update_move}
use Rattle.snp_model.specs.Locks.{over, range_lock}
use Rattle.snp_model.specs.RegionWords.{page_at}
use Rattle.snp_model.specs.RmpUpdate.{is_bad_update, pages_updated, update_lock, update_range_refusal, update_refusal, updated_page}
use Rattle.snp_model.specs.State.{ActorPart, Page, PageLock, Standing, nothing_taken}
use Rattle.snp_model.specs.Verdicts.{is_large}
use Rattle.run_laws.specs.HeldLocks.{IsUpdateLock}
use Rattle.run_laws.specs.KeptLocks.{relocked}
use Rattle.run_laws.proofs.InstructionLocality.{update_range_same}
use Rattle.run_laws.proofs.TestedLaws.{let_through}
use Rattle.rmp_update.specs.Regions.{HoldsRange, IsTested, first_slot, region_refusal}
use Rattle.machine_core.specs.declared.bay.Bay.{Bay}
use Rattle.machine_core.specs.declared.shown.Shown.{Shown}
use Rattle.machine_core.specs.Bays.{Bays, Stock, contents_of, holder_in, holders_of, page_in, pages_of, view_on}
use Rattle.machine_core.specs.Moves.{lock_shown, locks_by, move_by, standing_by}
use Rattle.machine_core.specs.Ranges.{HoldsLock, HoldsNone, IsTestedRange, update_refused}
use Rattle.machine_core.proofs.HeldLaws.{IsBad, IsFound, committed, lock_shows, quiet_shows}
use Rattle.machine_core.proofs.RangeLaws.{IsPut, covered_region, fits_region, holders_changed, holders_released, pages_changed, pages_stay, read_in, relocked_one}

-- the range of an update that isn't refused at once lies in memory and in one region
update_aligned : (frames : ℕ) (update : Update) → is_bad_update frames update ≡ false → (is_large update.size && not (eqb (update.frame % 512) 0)) ≡ false
unfolding is_bad_update
update_aligned frames update fine = grind (arith, nat_tests)

pub update_fits : (frames : ℕ) (update : Update) → is_bad_update frames update ≡ false → update.frame % 512 + frames_in update.size ≤ 512
update_fits frames update fine = fits_region update.size update.frame (update_aligned frames update fine)

pub update_below : (frames : ℕ) (update : Update) → is_bad_update frames update ≡ false → update.frame < frames
unfolding is_bad_update
update_below frames update fine = grind (arith, nat_tests)

-- facts and holders of its frames, by their places in the region
facts_in : (bays : Bays) (bay : Bay) (base place : ℕ) → bays (base / 512) ≡ Some bay → base % 512 + place < 512 → (pages_of bays (base + place)).facts ≡ facts_at bay.rmp (base % 512 + place)
unfolding pages_of
facts_in bays bay base place there within = ap (λ (p : Page). p.facts) (read_in page_in bays bay base place there within)

held_in : (bays : Bays) (bay : Bay) (base place : ℕ) → bays (base / 512) ≡ Some bay → base % 512 + place < 512 → holders_of bays (base + place) ≡ holder_at bay.rmp (base % 512 + place)
unfolding holders_of
held_in bays bay base place there within = read_in holder_in bays bay base place there within

first_facts : (bays : Bays) (bay : Bay) (frame : ℕ) → bays (frame / 512) ≡ Some bay → (pages_of bays frame).facts ≡ facts_at bay.rmp (frame % 512)
unfolding pages_of
first_facts bays bay frame there = ap (λ (o : Option Bay). (page_in o (frame % 512)).facts) there

-- the rows that look at the range see it in the region as in memory
rows_same : (update : Update) (bays : Bays) (bay : Bay) → update.frame % 512 + frames_in update.size ≤ 512 → bays (update.frame / 512) ≡ Some bay
    → update_range_refusal update (λ place. (pages_of bays (update.frame + place)).facts) (λ place. holders_of bays (update.frame + place)) ≡ region_refusal update bay.rmp
rows_same update bays bay fits there =
    update_range_same update (λ place. (pages_of bays (update.frame + place)).facts) (λ place. facts_at bay.rmp (update.frame % 512 + place)) (λ place. holders_of bays (update.frame + place)) (λ place. holder_at bay.rmp (update.frame % 512 + place))
    (λ place inside. facts_in bays bay update.frame place there (omega (arith, fits, inside)))
    (λ place inside. held_in bays bay update.frame place there (omega (arith, fits, inside)))

-- The lock

-- what is refused before any entry is looked at
input_refused : (frames : ℕ) (update : Update) (stock : Stock) (status : ℕ) → IsBad (is_bad_update frames update) status → update_refused frames update stock ≡ Some (refusals.Status status)
unfolding update_refusal
input_refused frames update stock status bad =
    ap (λ (b : Bool). cond b (Some (refusals.Status 1)) (update_range_refusal update (λ place. (pages_of stock.bays (update.frame + place)).facts) (λ place. holders_of stock.bays (update.frame + place)))) bad.bad_is
    ∙ ap (λ (s : ℕ). Some (refusals.Status s)) (sym bad.status_is)

pub input_shown : (frames : ℕ) (update : Update) (stock : Stock) (status : ℕ) (shown : Shown) → IsBad (is_bad_update frames update) status → shown ≡ lock_shown (update_lock update) (Some (refusals.Status status))
    → shown ≡ lock_shown (update_lock update) (update_refused frames update stock)
input_shown frames update stock status shown bad is = is ∙ ap (lock_shown (update_lock update)) (sym (input_refused frames update stock status bad))

-- what is refused or not in its region
pub rows_refused : (frames : ℕ) (update : Update) (stock : Stock) (region : ℕ) (bay : Bay) (refusal : Option Refusal) → IsFound (is_bad_update frames update) update.frame region → stock.bays region ≡ Some bay
    → region_refusal update bay.rmp ≡ refusal → update_refused frames update stock ≡ refusal
unfolding update_refusal
rows_refused frames update stock region bay refusal found there is =
    ap (λ (b : Bool). cond b (Some (refusals.Status 1)) (update_range_refusal update (λ place. (pages_of stock.bays (update.frame + place)).facts) (λ place. holders_of stock.bays (update.frame + place)))) found.fine
    ∙ rows_same update stock.bays bay (update_fits frames update found.fine) (ap stock.bays (sym found.region_is) ∙ there) ∙ is

-- an actor without a lock has none in the region
pub none_in_region : (actor : ℕ) (frame region : ℕ) (stock : Stock) (bay : Bay) → region ≡ frame / 512 → stock.bays region ≡ Some bay → HoldsNone actor stock → (slot : ℕ) → slot < 512 → holder_at bay.rmp slot ≢ Some actor
none_in_region actor frame region stock bay region_is there none slot within held =
    let first : 512 * region / 512 ≡ region = omega arith in
    let start : 512 * region % 512 + slot ≡ slot = omega arith in
    none (512 * region + slot) (held_in stock.bays bay (512 * region) slot (ap stock.bays first ∙ there) (omega (arith, start, within)) ∙ ap (holder_at bay.rmp) start ∙ held)

-- pages stay
pub lock_pages : (stock new_stock : Stock) (region : ℕ) (old new : Bay) → IsPut stock new_stock region old new → new.memory ≡ old.memory → new.rmp.facts ≡ old.rmp.facts → pages_of new_stock.bays ≡ pages_of stock.bays
lock_pages stock new_stock region old new is memory facts =
    pages_stay stock new_stock region old new is (λ i slot. record { facts = get_or (facts i) slot free_entry; words = page_at (memory i) slot })

-- and the range is locked
pub lock_taken : (stock new_stock : Stock) (frames actor : ℕ) (update : Update) (region : ℕ) (old new : Bay) (shown : Shown) → IsFound (is_bad_update frames update) update.frame region → IsPut stock new_stock region old new
    → holder_at new.rmp ≡ with_lock (range_lock update.size (first_slot update)) actor (holder_at old.rmp) → HoldsNone actor stock → shown ≡ lock_shown (update_lock update) None
    → holders_of new_stock.bays ≡ relocked actor (locks_by shown nothing_taken) (holders_of stock.bays)
lock_taken stock new_stock frames actor update region old new shown found is locked none shown_is =
    holders_changed stock new_stock update.frame (frames_in update.size) old new (λ place held. Some actor) (update_fits frames update found.fine) (subst (λ (r : ℕ). IsPut stock new_stock r old new) found.region_is is) locked
    ∙ relocked_one actor (update_lock update) (holders_of stock.bays) none
    ∙ ap (λ (s : Shown). relocked actor (locks_by s nothing_taken) (holders_of stock.bays)) (sym shown_is)

-- The commit

-- it holds the range in its region
pub range_held : (actor : ℕ) (update : Update) (stock : Stock) (bay : Bay) → IsTestedRange update stock → stock.bays (update.frame / 512) ≡ Some bay → HoldsLock actor (update_lock update) stock → HoldsRange bay.rmp update actor
range_held actor update stock bay tested there holds place inside =
    let fits = update_fits tested.accepted.0 update tested.accepted.1 in
    sym (held_in stock.bays bay update.frame place there (omega (arith, fits, inside))) ∙ holds.has (update.frame + place) (grind (arith, nat_tests, inside))

-- what was tested holds there
pub range_tested : (update : Update) (stock : Stock) (bay : Bay) → IsTestedRange update stock → stock.bays (update.frame / 512) ≡ Some bay → IsTested bay.rmp update
range_tested update stock bay tested there =
    let fits = update_fits tested.accepted.0 update tested.accepted.1 in
    sym (update_range_same update (λ place. (pages_of stock.bays (update.frame + place)).facts) (λ place. facts_at bay.rmp (update.frame % 512 + place)) (λ _. None) (λ _. None)
    (λ place inside. facts_in stock.bays bay update.frame place there (omega (arith, fits, inside))) (λ place inside. refl))
    ∙ tested.passes

-- its pages are changed
pub commit_pages : (stock new_stock : Stock) (update : Update) (old new : Bay) → IsTestedRange update stock → IsPut stock new_stock (update.frame / 512) old new
    → region_pages new.memory new.rmp ≡ pages_updated update (range_lock update.size (first_slot update)) (region_pages old.memory old.rmp)
    → pages_of new_stock.bays ≡ pages_updated update (update_lock update) (pages_of stock.bays)
unfolding pages_updated
commit_pages stock new_stock update old new tested is changed =
    let fits = update_fits tested.accepted.0 update tested.accepted.1 in
    pages_changed stock new_stock update.frame (frames_in update.size) old new (updated_page update (facts_at old.rmp (update.frame % 512))) fits is changed
    ∙ ap (λ (facts : RmpEntry). over update.frame (frames_in update.size) (updated_page update facts) (pages_of stock.bays)) (sym (first_facts stock.bays old update.frame is.there))

-- and its locks are released
pub commit_locks : (stock new_stock : Stock) (actor : ℕ) (update : Update) (old new : Bay) → IsTestedRange update stock → HoldsLock actor (update_lock update) stock → IsPut stock new_stock (update.frame / 512) old new
    → holder_at new.rmp ≡ without_locks actor (holder_at old.rmp) → holders_of new_stock.bays ≡ relocked actor [] (holders_of stock.bays)
commit_locks stock new_stock actor update old new tested holds is left =
    let fits = update_fits tested.accepted.0 update tested.accepted.1 in
    holders_released stock new_stock (update.frame / 512) actor old new is left (λ f held. covered_region update.frame (frames_in update.size) f fits (holds.only f held))

-- An attempt

-- what its lock's tests asked still holds
pub update_tested : (frames : ℕ) (guests : List GuestSpec) (update : Update) (lock : PageLock) (stock : Stock) → frames < 2 ^ 32 → IsUpdateLock frames (contents_of stock guests) update lock → IsTestedRange update stock
unfolding update_refusal
update_tested frames guests update lock stock few tested =
    let input = let_through (is_bad_update frames update) (refusals.Status 1) (update_range_refusal update (λ place. (pages_of stock.bays (update.frame + place)).facts) (λ _. None)) tested.passes in
    let below = update_below frames update input.fails in
    record { accepted = (frames, input.fails); below = omega (arith, few, below); passes = input.after_it }

-- the move of its lock
pub lock_moves : (frames : ℕ) (guests : List GuestSpec) (update : Update) (part : ActorPart) (old new : Stock) (shown : Shown) → part.standing ≡ nothing_taken → shown ≡ lock_shown (update_lock update) (update_refused frames update old)
    → pages_of new.bays ≡ pages_of old.bays → new.contexts ≡ old.contexts
    → update_move frames (view_on old guests) part update part.standing.locks ≡ move_by shown (view_on new guests) (standing_by shown part.standing)
unfolding update_move
lock_moves frames guests update part old new shown none shown_is same contexts =
    ap (λ (s : Standing). update_move frames (view_on old guests) part update s.locks) none
    ∙ lock_shows (view_on old guests) part (update_lock update) (update_refused frames update old)
    ∙ quiet_shows guests part old new (lock_shown (update_lock update) (update_refused frames update old)) shown shown_is same contexts

-- and of its commit
pub commit_moves : (frames : ℕ) (guests : List GuestSpec) (update : Update) (part : ActorPart) (lock : PageLock) (old new : Stock) (shown : Shown) → part.standing.locks ≡ lock ∷ [] → lock ≡ update_lock update
    → shown ≡ record { deed = deeds.Commit update.frame update.gpn update.size; outcome = Some (outcomes.Status 0); lock = None } → pages_of new.bays ≡ pages_updated update (update_lock update) (pages_of old.bays) → new.contexts ≡ old.contexts
    → update_move frames (view_on old guests) part update part.standing.locks ≡ move_by shown (view_on new guests) (standing_by shown part.standing)
unfolding update_move
commit_moves frames guests update part lock old new shown are lock_is shown_is pages_are contexts =
    ap (update_move frames (view_on old guests) part update) (are ∙ ap (λ (l : PageLock). l ∷ []) lock_is)
    ∙ committed old part (deeds.Commit update.frame update.gpn update.size) (outcomes.Status 0) (pages_updated update (update_lock update) (pages_of old.bays)) guests new shown shown_is pages_are contexts
