-- What each item's event does to locks: the instructions and the accesses of processors.
use Rattle.std.proofs.Common.{◌≡◌, ℕ, ◌+◌, ◌-◌, ◌%◌, Bool, true, false, not, ◌&&◌, cond, eqb, List, [], ◌∷◌, ◌++◌, Option, Some, None, refl, sym, ap, ◌∙◌, subst, arith}
use Rattle.std.proofs.lemmas.Bool.{cond_both, true≢false}
use Rattle.std.proofs.lemmas.Bool.Decides.{nat_tests}
use Rattle.std.specs.List.{list_any}
use Rattle.std.specs.Option.{option_map}
use Rattle.snp_model.specs.declared.entry.PageSize.{PageSize}
use Rattle.snp_model.specs.declared.entry.PageSize.TheVariants.{Small, Large}
use Rattle.snp_model.specs.declared.entry.RmpEntry.{RmpEntry}
use Rattle.snp_model.specs.declared.event.Refusal.{Refusal}
use Rattle.snp_model.specs.declared.item.Item.TheVariants as items
use Rattle.snp_model.specs.declared.item.Update.{Update}
use Rattle.snp_model.specs.declared.scenario.Role.TheVariants.{Host}
use Rattle.snp_model.specs.Facts.{free_entry}
use Rattle.snp_model.specs.InstructionStep.{refused_outcome, facts_of, update_move, smash_move}
use Rattle.snp_model.specs.Locks.{over, covers, locks_frame, page_lock, range_lock, view_of}
use Rattle.snp_model.specs.RmpUpdate.{is_bad_update, overlaps, update_lock, update_refusal, makes_immutable, immutable_kind, assigned_facts, updated_facts, updated_page, pages_updated, smash_refusal, smashed_page, pages_smashed}
use Rattle.snp_model.specs.State.{Page, Pages, PageLock, ActorPart, State}
use Rattle.snp_model.specs.Verdicts.{is_large}
use Rattle.run_laws.specs.KeptLocks.{AreWholePages}
use Rattle.run_laws.specs.HeldLocks.{IsUpdateLock, IsSmashLock, IsOneLock, AreInstructionLocks, AreItemLocks}
use Rattle.run_laws.proofs.HeldLocksLaws.{update_freed, smash_freed}
use Rattle.run_laws.proofs.LockLaws.{page_free, range_free, small_range_covered, region_covered, page_region, region_page, small_not_large}
use Rattle.run_laws.proofs.LockedMoves.{IsFirm, Stands, MoveLocks, lock_locks, memory_locks, firm_itself}
use Rattle.run_laws.proofs.RangeLaws.{over_beside}
use Rattle.run_laws.proofs.TestedLaws.{update_passes, smash_passes, first_fails}

-- a change over a lock's range leaves the other frames
pub over_firm : (lock : PageLock) (change : ℕ → Page → Page) (pages : Pages) (f : ℕ) → covers f lock ≡ false → IsFirm (over lock.base lock.count change pages f) (pages f)
over_firm lock change pages f beside = subst (λ (page : Page). IsFirm page (pages f)) (over_beside lock.base lock.count change pages f beside) (firm_itself (pages f))

-- what an actor with this lock hasn't locked is beside it
pub beside_lock : (part : ActorPart) (lock : PageLock) (others : List PageLock) (f : ℕ) → part.standing.locks ≡ lock ∷ others → locks_frame f part ≡ false → covers f lock ≡ false
beside_lock part lock others f is free = first_fails (covers f lock) (list_any (covers f) others) (sym (ap (list_any (covers f)) is) ∙ free)

-- no refusal of an instruction is no outcome
pub no_outcome : (refusal : Option Refusal) → option_map refused_outcome refusal ≡ None → refusal ≡ None
no_outcome (Some refusal) none = absurd cc
no_outcome None none = refl

-- the one lock of an instruction
pub first_lock : (Holds : PageLock → Type 0) (part : ActorPart) (lock : PageLock) → part.standing.locks ≡ [] → AreInstructionLocks Holds part.standing → Holds lock
    → AreInstructionLocks Holds (record part.standing { locks = part.standing.locks ++ lock ∷ [] })
first_lock Holds part lock none before holds = record {
  lock = subst (λ (ls : List PageLock). IsOneLock Holds (ls ++ lock ∷ [])) (sym none) (holds, refl);
  context = before.context;
  computed = before.computed;
}

-- RMPUPDATE

-- the size of a frame after the commit
abbrev pub size_after : Update → RmpEntry → PageSize → PageSize
size_after update first size = cond (makes_immutable update first) size (cond (not update.assigned) Small update.size)

updated_size : (update : Update) (first : RmpEntry) (place : ℕ) (facts : RmpEntry) → (updated_facts update first place facts).size ≡ size_after update first facts.size
unfolding updated_facts free_entry assigned_facts
updated_size update first place facts =
    elim (makes_immutable update first) as (λ (b : Bool). (cond b (record facts { immutable = true; kind = immutable_kind update.asid facts.kind }) (cond (not update.assigned) free_entry (assigned_facts update place))).size ≡ cond b facts.size (cond (not update.assigned) Small update.size))
    [ true ↦ refl | false ↦ elim (not update.assigned) as (λ (b : Bool). (cond b free_entry (assigned_facts update place)).size ≡ cond b Small update.size) [ true ↦ refl | false ↦ refl ] ]

pub size_inside : (update : Update) (lock : PageLock) (pages : Pages) (f : ℕ) → covers f lock ≡ true
    → (pages_updated update lock pages f).facts.size ≡ size_after update (pages lock.base).facts (pages f).facts.size
unfolding pages_updated
size_inside update lock pages f inside =
    rw inside (updated_size update (pages lock.base).facts (f - lock.base) (pages f).facts)

size_beside : (update : Update) (lock : PageLock) (pages : Pages) (f : ℕ) → covers f lock ≡ false → (pages_updated update lock pages f).facts.size ≡ (pages f).facts.size
unfolding pages_updated
size_beside update lock pages f beside = rw beside refl

-- of 4 KB: it stays or becomes of 4 KB
pub small_after : (update : Update) (first : RmpEntry) (size : PageSize) → update.size ≡ Small → size ≡ Small → size_after update first size ≡ Small
small_after update first size asked is =
    cond_both (makes_immutable update first) _ _ (λ (s : PageSize). s ≡ Small) (λ _. is) (λ _. cond_both (not update.assigned) _ _ (λ (s : PageSize). s ≡ Small) (λ _. refl) (λ _. asked))

-- of 2 MB: what one frame becomes of 2 MB by, another does
large_after : (update : Update) (first : RmpEntry) (size other : PageSize) → (size ≡ Large → other ≡ Large) → size_after update first size ≡ Large → size_after update first other ≡ Large
large_after update first size other same =
    elim (makes_immutable update first) as (λ (b : Bool). cond b size (cond (not update.assigned) Small update.size) ≡ Large → cond b other (cond (not update.assigned) Small update.size) ≡ Large)
    [ true ↦ same | false ↦ λ e. e ]

-- whether a frame is in a range
pub by_range : (b : Bool) (P : Type 0) → (b ≡ true → P) → (b ≡ false → P) → P
by_range true P inside beside = inside refl
by_range false P inside beside = beside refl

small_updated_whole : (update : Update) (frame : ℕ) (pages : Pages) → update.size ≡ Small → (pages frame).facts.size ≡ Small → AreWholePages pages → AreWholePages (pages_updated update (range_lock Small frame) pages)
small_updated_whole update frame pages asked small whole = record {
  large = λ f g large region.
      let lock = range_lock Small frame in
      let at_f = λ (inside : covers f lock ≡ true).
      small_not_large _ (size_inside update lock pages f inside ∙ small_after update (pages frame).facts (pages f).facts.size asked (subst (λ (k : ℕ). (pages k).facts.size ≡ Small) (sym (small_range_covered frame f inside)) small)) large in
      let before = λ (beside : covers f lock ≡ false). whole.large f g (sym (size_beside update lock pages f beside) ∙ large) region in
      by_range (covers f lock) ((pages_updated update lock pages g).facts.size ≡ Large) (λ inside. absurd (at_f inside))
      (λ beside. by_range (covers g lock) ((pages_updated update lock pages g).facts.size ≡ Large)
      (λ inside. absurd (small_not_large (pages g).facts.size (subst (λ (k : ℕ). (pages k).facts.size ≡ Small) (sym (small_range_covered frame g inside)) small) (before beside)))
      (λ outside. size_beside update lock pages g outside ∙ before beside));
}

large_updated_whole : (update : Update) (frame : ℕ) (pages : Pages) → frame % 512 ≡ 0 → AreWholePages pages → AreWholePages (pages_updated update (range_lock Large frame) pages)
large_updated_whole update frame pages aligned whole = record {
  large = λ f g large region.
      let lock = range_lock Large frame in
      let first = (pages frame).facts in
      by_range (covers f lock) ((pages_updated update lock pages g).facts.size ≡ Large)
      (λ inside.
      let there = region_covered frame f g aligned inside region in
      size_inside update lock pages g there
      ∙ large_after update first (pages f).facts.size (pages g).facts.size (λ before. whole.large f g before region) (sym (size_inside update lock pages f inside) ∙ large))
      (λ beside. by_range (covers g lock) ((pages_updated update lock pages g).facts.size ≡ Large)
      (λ inside. absurd (true≢false (sym (region_covered frame g f aligned inside (sym region)) ∙ beside)))
      (λ outside. size_beside update lock pages g outside ∙ whole.large f g (sym (size_beside update lock pages f beside) ∙ large) region));
}

-- so for either size
updated_whole : (update : Update) (size : PageSize) (pages : Pages) → update.size ≡ size → (size ≡ Small → (pages update.frame).facts.size ≡ Small) → (size ≡ Large → update.frame % 512 ≡ 0)
    → AreWholePages pages → AreWholePages (pages_updated update (range_lock size update.frame) pages)
updated_whole update Small pages asked small aligned whole = small_updated_whole update update.frame pages asked (small refl) whole
updated_whole update Large pages asked small aligned whole = large_updated_whole update update.frame pages (aligned refl) whole

-- what its lock has tested of sizes
is_small : (size : PageSize) → is_large size ≡ false → size ≡ Small
is_small Small not_large = refl
is_small Large not_large = absurd (true≢false not_large)

fitting_small : (size : PageSize) (facts : ℕ → RmpEntry) → overlaps size facts ≡ false → size ≡ Small → (facts 0).size ≡ Small
unfolding overlaps
fitting_small Small facts fits small = is_small (facts 0).size fits
fitting_small Large facts fits small = absurd (small_not_large Large small refl)

-- the first frame of a range
no_place : (frame : ℕ) → frame + 0 ≡ frame
no_place frame = omega arith

pub first_small : (pages : Pages) (update : Update) → overlaps update.size (λ place. (pages (update.frame + place)).facts) ≡ false → update.size ≡ Small → (pages update.frame).facts.size ≡ Small
first_small pages update fits small =
    subst (λ (k : ℕ). (pages k).facts.size ≡ Small) (no_place update.frame) (fitting_small update.size (λ place. (pages (update.frame + place)).facts) fits small)

-- an operand of 2 MB is aligned
aligned_frame : (size : PageSize) (frame : ℕ) → size ≡ Large → (is_large size && not (eqb (frame % 512) 0)) ≡ false → frame % 512 ≡ 0
aligned_frame Small frame large aligned = absurd (small_not_large Small refl large)
aligned_frame Large frame large aligned = grind (arith, nat_tests)

pub bad_aligned : (frames : ℕ) (update : Update) → is_bad_update frames update ≡ false → update.size ≡ Large → update.frame % 512 ≡ 0
unfolding is_bad_update
bad_aligned frames update fine large = aligned_frame update.size update.frame large (grind (arith, nat_tests))

-- its commit changes nothing beside its lock
updated_firm : (update : Update) (lock : PageLock) (pages : Pages) (f : ℕ) → covers f lock ≡ false → IsFirm (pages_updated update lock pages f) (pages f)
unfolding pages_updated
updated_firm update lock pages f beside = over_firm lock (updated_page update (pages lock.base).facts) pages f beside

-- RMPUPDATE's lock, and its commit
pub update_locks : (m : State) (part : ActorPart) (update : Update) (locks : List PageLock) → part.standing.locks ≡ locks → Stands m part Host (items.Rmpupdate update)
    → MoveLocks m part Host (items.Rmpupdate update) (update_move m.frames (view_of m) part update locks)
unfolding update_move AreItemLocks
update_locks m part update [] is stands =
    let facts = λ (place : ℕ). facts_of m.contents (update.frame + place) in
    let holder = λ (place : ℕ). (view_of m).holder (update.frame + place) in
    let refusal = update_refusal m.frames update facts holder in
    let passed = λ (none : option_map refused_outcome refusal ≡ None). update_passes m.frames update facts holder (no_outcome refusal none) in
    lock_locks m part Host (items.Rmpupdate update) (update_lock update) (option_map refused_outcome refusal) stands
    (λ none. let passes = passed none in
    range_free m.contents.pages m.actors update.size update.frame (first_small m.contents.pages update passes.fits) (bad_aligned m.frames update passes.fine) passes.unheld)
    (λ none. first_lock (IsUpdateLock m.frames m.contents update) part (update_lock update) is stands.tested
    (record { covers = refl; passes = update_freed m.frames update facts holder (no_outcome refusal none) }))
update_locks m part update (lock ∷ others) is stands =
    let tested = subst (IsOneLock (IsUpdateLock m.frames m.contents update)) is stands.tested.lock in
    let facts = λ (place : ℕ). facts_of m.contents (update.frame + place) in
    let passes = update_passes m.frames update facts (λ place. None) tested.0.passes in
    memory_locks m part Host (items.Rmpupdate update) _ _ (pages_updated update lock m.contents.pages)
    (λ f free. updated_firm update lock m.contents.pages f (beside_lock part lock others f is free))
    (subst (λ (l : PageLock). AreWholePages (pages_updated update l m.contents.pages)) (sym tested.0.covers)
    (updated_whole update update.size m.contents.pages refl (first_small m.contents.pages update passes.fits) (bad_aligned m.frames update passes.fine) stands.whole))

-- PSMASH's commit changes nothing beside its lock, and makes a whole page of 2 MB one of 4 KB pages
smashed_firm : (lock : PageLock) (pages : Pages) (f : ℕ) → covers f lock ≡ false → IsFirm (pages_smashed lock pages f) (pages f)
unfolding pages_smashed
smashed_firm lock pages f beside = over_firm lock (λ place. smashed_page) pages f beside

smashed_inside : (lock : PageLock) (pages : Pages) (f : ℕ) → covers f lock ≡ true → (pages_smashed lock pages f).facts.size ≡ Small
unfolding pages_smashed
smashed_inside lock pages f inside = rw inside refl

smashed_beside : (lock : PageLock) (pages : Pages) (f : ℕ) → covers f lock ≡ false → (pages_smashed lock pages f).facts.size ≡ (pages f).facts.size
unfolding pages_smashed
smashed_beside lock pages f beside = rw beside refl

smashed_whole : (frame : ℕ) (pages : Pages) → AreWholePages pages → AreWholePages (pages_smashed (page_lock Large frame) pages)
smashed_whole frame pages whole = record {
  large = λ f g large region.
      let lock = page_lock Large frame in
      by_range (covers f lock) ((pages_smashed lock pages g).facts.size ≡ Large)
      (λ inside. absurd (small_not_large _ (smashed_inside lock pages f inside) large))
      (λ beside. by_range (covers g lock) ((pages_smashed lock pages g).facts.size ≡ Large)
      (λ inside. absurd (true≢false (sym (region_page frame f (page_region frame g inside ∙ sym region)) ∙ beside)))
      (λ outside. smashed_beside lock pages g outside ∙ whole.large f g (sym (smashed_beside lock pages f beside) ∙ large) region));
}

pub is_large_size : (size : PageSize) → is_large size ≡ true → size ≡ Large
is_large_size Small large = absurd (true≢false (sym large))
is_large_size Large large = refl

-- PSMASH's lock, and its commit
pub smash_locks : (m : State) (part : ActorPart) (frame : ℕ) (locks : List PageLock) → part.standing.locks ≡ locks → Stands m part Host (items.Psmash frame)
    → MoveLocks m part Host (items.Psmash frame) (smash_move m.frames (view_of m) part frame locks)
unfolding smash_move AreItemLocks
smash_locks m part frame [] is stands =
    let facts = facts_of m.contents frame in
    let holder = (view_of m).holder frame in
    let refusal = smash_refusal m.frames frame facts holder in
    let lock = page_lock facts.size frame in
    lock_locks m part Host (items.Psmash frame) lock (option_map refused_outcome refusal) stands
    (λ none. page_free m.contents.pages m.actors frame stands.whole stands.exclusive (smash_passes m.frames frame facts holder (no_outcome refusal none)).unheld)
    (λ none. first_lock (IsSmashLock m.frames m.contents frame) part lock is stands.tested
    (record { covers = refl; passes = smash_freed m.frames frame facts holder (no_outcome refusal none) }))
smash_locks m part frame (lock ∷ others) is stands =
    let tested = subst (IsOneLock (IsSmashLock m.frames m.contents frame)) is stands.tested.lock in
    let facts = facts_of m.contents frame in
    let large = is_large_size facts.size (smash_passes m.frames frame facts None tested.0.passes).large in
    memory_locks m part Host (items.Psmash frame) _ _ (pages_smashed lock m.contents.pages)
    (λ f free. smashed_firm lock m.contents.pages f (beside_lock part lock others f is free))
    (subst (λ (l : PageLock). AreWholePages (pages_smashed l m.contents.pages)) (sym (tested.0.covers ∙ ap (λ (size : PageSize). page_lock size frame) large))
    (smashed_whole frame m.contents.pages stands.whole))
