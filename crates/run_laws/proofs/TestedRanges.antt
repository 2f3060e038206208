-- What the lock of an RMPUPDATE has tested holds of each frame of its range at the commit, and the commits of RMPUPDATE and PSMASH leave pages of 2 MB whole.
use Rattle.std.proofs.Common.{◌≡◌, ℕ, ◌+◌, ◌-◌, ◌%◌, Bool, true, false, not, ◌&&◌, ◌||◌, eqb, None, refl, sym, ap, ◌∙◌, subst, arith}
use Rattle.std.proofs.lemmas.Bool.{true≢false}
use Rattle.std.proofs.lemmas.Bool.Decides.{nat_tests}
use Rattle.snp_model.specs.declared.entry.PageSize.{PageSize}
use Rattle.snp_model.specs.declared.entry.PageSize.TheVariants.{Small, Large}
use Rattle.snp_model.specs.declared.entry.RmpEntry.{RmpEntry}
use Rattle.snp_model.specs.declared.item.Update.{Update}
use Rattle.snp_model.specs.Facts.{frames_in, some_frame}
use Rattle.snp_model.specs.InstructionStep.{facts_of}
use Rattle.snp_model.specs.Locks.{covers, page_lock, range_lock}
use Rattle.snp_model.specs.RmpUpdate.{is_bad_update, makes_immutable, pages_updated, pages_smashed}
use Rattle.snp_model.specs.State.{Pages, PageLock, Contents}
use Rattle.snp_model.specs.Verdicts.{is_large, same_size}
use Rattle.run_laws.specs.HeldLocks.{IsUpdateLock, IsSmashLock}
use Rattle.run_laws.specs.KeptLocks.{AreOfOneRegion}
use Rattle.run_laws.proofs.LargePages.{AreLargeWhole, update_whole, smash_whole, low_of, high_of}
use Rattle.run_laws.proofs.LockLaws.{small_range_covered, small_not_large, range_place, range_frame}
use Rattle.run_laws.proofs.LockedItems.{first_small, bad_aligned, is_large_size}
use Rattle.run_laws.proofs.TestedLaws.{update_passes, smash_passes, no_frame}
use Rattle.run_laws.proofs.UpdateLaws.{AreUpdatable}

-- no frame of the range is immutable
mutable_at : (pages : Pages) (size : PageSize) (frame f : ℕ) → some_frame (λ place. (pages (frame + place)).facts.immutable) 0 (frames_in size) ≡ false → covers f (range_lock size frame) ≡ true
    → (pages f).facts.immutable ≡ false
mutable_at pages size frame f none inside =
    subst (λ (k : ℕ). (pages k).facts.immutable ≡ false) (range_frame size frame f inside)
    (no_frame (λ place. (pages (frame + place)).facts.immutable) 0 (frames_in size) none (f - frame) (range_place size frame f inside))

-- a page that only becomes immutable is assigned, and has the ASID and the size that are asked for
record IsAsAsked (update : Update) (first : RmpEntry) : Type 0 where
  assigned : first.assigned ≡ true
  asid_is : first.asid ≡ update.asid
  size_is : same_size first.size update.size ≡ true

as_asked : (update : Update) (first : RmpEntry) → makes_immutable update first ≡ true → IsAsAsked update first
unfolding makes_immutable
as_asked update first makes = record { assigned = grind (arith, nat_tests); asid_is = grind (arith, nat_tests); size_is = grind (arith, nat_tests) }

same_large : (size : PageSize) → same_size size Large ≡ true → size ≡ Large
same_large Small same = absurd (true≢false (sym same))
same_large Large same = refl

range_region : (frame f : ℕ) → frame % 512 ≡ 0 → covers f (range_lock Large frame) ≡ true → AreOfOneRegion frame f
range_region frame f aligned inside =
    let low = low_of frame f inside in
    let high = high_of frame f inside in
    omega arith

-- where the first frame of such a page is assigned, each frame of it is: one of 4 KB is the first, and one of 2 MB is whole
assigned_at : (pages : Pages) (size : PageSize) (frame f : ℕ) → AreLargeWhole pages → (size ≡ Large → frame % 512 ≡ 0) → covers f (range_lock size frame) ≡ true
    → (pages frame).facts.assigned ≡ true → same_size (pages frame).facts.size size ≡ true → (pages f).facts.assigned ≡ true
assigned_at pages Small frame f whole aligned inside assigned same = subst (λ (k : ℕ). (pages k).facts.assigned ≡ true) (sym (small_range_covered frame f inside)) assigned
assigned_at pages Large frame f whole aligned inside assigned same =
    let page = whole.together frame f (same_large (pages frame).facts.size same) (range_region frame f (aligned refl) inside) in
    ap (λ (facts : RmpEntry). facts.assigned) page.alike ∙ assigned

-- and each has the ASID of the first
owner_at : (pages : Pages) (size : PageSize) (frame f : ℕ) → AreLargeWhole pages → (size ≡ Large → frame % 512 ≡ 0) → covers f (range_lock size frame) ≡ true
    → same_size (pages frame).facts.size size ≡ true → (pages f).facts.asid ≡ (pages frame).facts.asid
owner_at pages Small frame f whole aligned inside same = ap (λ (k : ℕ). (pages k).facts.asid) (small_range_covered frame f inside)
owner_at pages Large frame f whole aligned inside same =
    let page = whole.together frame f (same_large (pages frame).facts.size same) (range_region frame f (aligned refl) inside) in
    ap (λ (facts : RmpEntry). facts.asid) page.alike

-- so of the whole range
pub are_updatable : (frames : ℕ) (contents : Contents) (update : Update) (lock : PageLock) → IsUpdateLock frames contents update lock → AreLargeWhole contents.pages → AreUpdatable update lock contents.pages
are_updatable frames contents update lock tested whole =
    let pages = contents.pages in
    let first = (pages update.frame).facts in
    let passes = update_passes frames update (λ place. facts_of contents (update.frame + place)) (λ place. None) tested.passes in
    subst (λ (l : PageLock). AreUpdatable update l pages) (sym tested.covers)
    (λ f inside. record {
      mutable = mutable_at pages update.size update.frame f passes.mutable inside;
      assigned = λ makes.
          let asked = as_asked update first makes in
          assigned_at pages update.size update.frame f whole (bad_aligned frames update passes.fine) inside asked.assigned asked.size_is;
      owner = λ makes.
          let asked = as_asked update first makes in
          owner_at pages update.size update.frame f whole (bad_aligned frames update passes.fine) inside asked.size_is ∙ asked.asid_is;
    })

-- the guest page number of a range of 2 MB is aligned: where nothing is assigned it is 0
aligned_gpn : (size : PageSize) (assigned immutable : Bool) (asid gpn : ℕ) → size ≡ Large → (is_large size && assigned && (not (eqb (gpn % 512) 0) || eqb asid 0)) ≡ false
    → (not assigned && (not (eqb asid 0) || not (eqb gpn 0) || immutable)) ≡ false → gpn % 512 ≡ 0
aligned_gpn Small assigned immutable asid gpn large aligned none = absurd (small_not_large Small refl large)
aligned_gpn Large true immutable asid gpn large aligned none = grind (arith, nat_tests)
aligned_gpn Large false immutable asid gpn large aligned none =
    let zero_gpn : gpn ≡ 0 = grind (arith, nat_tests) in
    omega arith

bad_gpn : (frames : ℕ) (update : Update) → is_bad_update frames update ≡ false → update.size ≡ Large → update.gpn % 512 ≡ 0
unfolding is_bad_update
bad_gpn frames update fine large = aligned_gpn update.size update.assigned update.immutable update.asid update.gpn large (grind (arith, nat_tests)) (grind (arith, nat_tests))

-- the commits leave pages of 2 MB whole
pub updated_large : (frames : ℕ) (contents : Contents) (update : Update) (lock : PageLock) → IsUpdateLock frames contents update lock → AreLargeWhole contents.pages → AreLargeWhole (pages_updated update lock contents.pages)
updated_large frames contents update lock tested whole =
    let pages = contents.pages in
    let passes = update_passes frames update (λ place. facts_of contents (update.frame + place)) (λ place. None) tested.passes in
    subst (λ (l : PageLock). AreLargeWhole (pages_updated update l pages)) (sym tested.covers)
    (update_whole update update.size pages refl (first_small pages update passes.fits) (bad_aligned frames update passes.fine) (bad_gpn frames update passes.fine) whole)

pub smashed_large : (frames : ℕ) (contents : Contents) (frame : ℕ) (lock : PageLock) → IsSmashLock frames contents frame lock → AreLargeWhole contents.pages → AreLargeWhole (pages_smashed lock contents.pages)
smashed_large frames contents frame lock tested whole =
    let facts = facts_of contents frame in
    let large = is_large_size facts.size (smash_passes frames frame facts None tested.passes).large in
    subst (λ (l : PageLock). AreLargeWhole (pages_smashed l contents.pages)) (sym (tested.covers ∙ ap (λ (size : PageSize). page_lock size frame) large)) (smash_whole frame contents.pages whole)
