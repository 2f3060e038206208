-- Pages of 2 MB stay whole, whatever changes: their frames have the same facts, with guest page numbers one after the other.
use Rattle.std.proofs.Common.{◌≡◌, ℕ, ◌+◌, ◌-◌, ◌/◌, ◌%◌, ◌<◌, ◌≤◌, Bool, true, false, not, cond, refl, sym, ap, ◌∙◌, subst, arith}
use Rattle.std.proofs.lemmas.Bool.{cond_both, true≢false}
use Rattle.std.proofs.lemmas.Bool.Decides.{nat_tests}
use Rattle.snp_model.specs.declared.entry.PageSize.{PageSize}
use Rattle.snp_model.specs.declared.entry.PageSize.TheVariants.{Small, Large}
use Rattle.snp_model.specs.declared.entry.RmpEntry.{RmpEntry}
use Rattle.snp_model.specs.declared.item.Update.{Update}
use Rattle.snp_model.specs.Facts.{free_entry, page_base}
use Rattle.snp_model.specs.Locks.{over_lock, covers, page_lock, range_lock}
use Rattle.snp_model.specs.RmpUpdate.{makes_immutable, immutable_kind, assigned_facts, updated_facts, pages_updated, pages_smashed}
use Rattle.snp_model.specs.State.{Pages, PageLock, State}
use Rattle.snp_model.specs.Validation.{carry, validated_facts, validated_page, pages_validated, adjusted_facts, adjusted_page, pages_adjusted}
use Rattle.run_laws.specs.KeptLocks.{AreOfOneRegion, AreWholePages}
use Rattle.run_laws.specs.Shapes.{AreOfOnePage, AreShaped, IsWholePage}
use Rattle.run_laws.proofs.LockLaws.{small_not_large, small_range_covered, region_covered, page_region, region_page}
use Rattle.run_laws.proofs.LockedItems.{size_inside, small_after, by_range}

-- every page of 2 MB is whole
pub record AreLargeWhole (pages : Pages) : Type 0 where
  pub together : (f g : ℕ) → (pages f).facts.size ≡ Large → AreOfOneRegion f g → AreOfOnePage pages f g
  pub aligned : (f : ℕ) → (pages f).facts.size ≡ Large → (pages (page_base Large f)).facts.gpn % 512 ≡ 0

-- so its frames are of one size
pub sizes_whole : (pages : Pages) → AreLargeWhole pages → AreWholePages pages
sizes_whole pages whole = record { large = λ f g large same. ap (λ (facts : RmpEntry). facts.size) (whole.together f g large same).alike ∙ large }

-- so where the frames of a state have their shapes
pub shaped_large : (m : State) → AreShaped m → AreLargeWhole m.contents.pages
shaped_large m shaped = record {
  together = λ f g large same. (shaped.whole f large).together g (sym same);
  aligned = λ f large. (shaped.whole f large).aligned;
}

-- in other words, page by page
pub whole_page : (pages : Pages) → AreLargeWhole pages → (frame : ℕ) → (pages frame).facts.size ≡ Large → IsWholePage pages frame
whole_page pages whole frame large = record { aligned = whole.aligned frame large; together = λ other same. whole.together frame other large (sym same) }

-- the first frame of a frame's page of 2 MB is in the same region
pub base_region : (f : ℕ) → AreOfOneRegion f (page_base Large f)
base_region f = omega arith

pub one_page_same : (old new : Pages) (f g : ℕ) → (new f).facts ≡ (old f).facts → (new g).facts ≡ (old g).facts → AreOfOnePage old f g → AreOfOnePage new f g
one_page_same old new f g at_f at_g page = record {
  follow = ap (λ (x : RmpEntry). x.gpn + f) at_g ∙ page.follow ∙ ap (λ (x : RmpEntry). x.gpn + g) (sym at_f);
  alike = at_g ∙ page.alike
      ∙ ap (λ (x : RmpEntry). record x { gpn = (old g).facts.gpn }) (sym at_f)
      ∙ ap (λ (q : ℕ). record (new f).facts { gpn = q }) (ap (λ (x : RmpEntry). x.gpn) (sym at_g));
}

-- where nothing changes but frames of 4 KB that stay so
pub record ChangesSmall (old new : Pages) (changed : ℕ → Bool) : Type 0 where
  pub same : (f : ℕ) → changed f ≡ false → (new f).facts ≡ (old f).facts
  pub was_small : (f : ℕ) → changed f ≡ true → (old f).facts.size ≡ Small
  pub is_small : (f : ℕ) → changed f ≡ true → (new f).facts.size ≡ Small

-- a frame of a page of 2 MB is then as it was
unchanged : (old new : Pages) (changed : ℕ → Bool) (f : ℕ) → ChangesSmall old new changed → (new f).facts.size ≡ Large → (new f).facts ≡ (old f).facts
unchanged old new changed f changes large = by_range (changed f) ((new f).facts ≡ (old f).facts) (λ is. absurd (small_not_large (new f).facts.size (changes.is_small f is) large)) (changes.same f)

was_large : (old new : Pages) (changed : ℕ → Bool) (f : ℕ) → ChangesSmall old new changed → (old f).facts.size ≡ Large → (new f).facts ≡ (old f).facts
was_large old new changed f changes large = by_range (changed f) ((new f).facts ≡ (old f).facts) (λ is. absurd (small_not_large (old f).facts.size (changes.was_small f is) large)) (changes.same f)

pub small_changes_whole : (old new : Pages) (changed : ℕ → Bool) → ChangesSmall old new changed → AreLargeWhole old → AreLargeWhole new
small_changes_whole old new changed changes whole =
    let before = λ (f : ℕ) (large : (new f).facts.size ≡ Large). sym (ap (λ (x : RmpEntry). x.size) (unchanged old new changed f changes large)) ∙ large in
    let other = λ (f g : ℕ) (large : (new f).facts.size ≡ Large) (same : AreOfOneRegion f g). was_large old new changed g changes ((sizes_whole old whole).large f g (before f large) same) in
    record {
      together = λ f g large same. one_page_same old new f g (unchanged old new changed f changes large) (other f g large same) (whole.together f g (before f large) same);
      aligned = λ f large. ap (λ (x : RmpEntry). x.gpn % 512) (other f (page_base Large f) large (base_region f)) ∙ whole.aligned f (before f large);
    }

-- where no facts change
pub same_facts_whole : (old new : Pages) → ((f : ℕ) → (new f).facts ≡ (old f).facts) → AreLargeWhole old → AreLargeWhole new
same_facts_whole old new same whole =
    small_changes_whole old new (λ _. false)
    (record { same = λ f _. same f; was_small = λ f is. absurd (true≢false (sym is)); is_small = λ f is. absurd (true≢false (sym is)) }) whole

-- where the facts of each frame of whole pages change in the same way, and their guest page numbers and sizes stay
pub record IsUniform (change : RmpEntry → RmpEntry) : Type 0 where
  pub gpn : (x : RmpEntry) → (change x).gpn ≡ x.gpn
  pub size : (x : RmpEntry) → (change x).size ≡ x.size
  pub alike : (x : RmpEntry) (q : ℕ) → change (record x { gpn = q }) ≡ record (change x) { gpn = q }

changed_page : (old new : Pages) (change : RmpEntry → RmpEntry) (f g : ℕ) → IsUniform change → (new f).facts ≡ change (old f).facts → (new g).facts ≡ change (old g).facts
    → AreOfOnePage old f g → AreOfOnePage new f g
changed_page old new change f g uniform at_f at_g page =
    let gpn_f : (new f).facts.gpn ≡ (old f).facts.gpn = ap (λ (x : RmpEntry). x.gpn) at_f ∙ uniform.gpn (old f).facts in
    let gpn_g : (new g).facts.gpn ≡ (old g).facts.gpn = ap (λ (x : RmpEntry). x.gpn) at_g ∙ uniform.gpn (old g).facts in
    record {
      follow = ap (λ (q : ℕ). q + f) gpn_g ∙ page.follow ∙ ap (λ (q : ℕ). q + g) (sym gpn_f);
      alike = at_g ∙ ap change page.alike ∙ uniform.alike (old f).facts (old g).facts.gpn
          ∙ ap (λ (x : RmpEntry). record x { gpn = (old g).facts.gpn }) (sym at_f)
          ∙ ap (λ (q : ℕ). record (new f).facts { gpn = q }) (sym gpn_g);
    }

-- a lock that covers whole pages of 2 MB
abbrev pub CoversWhole : Pages → PageLock → Type 0
CoversWhole pages lock = (f g : ℕ) → covers f lock ≡ true → (pages f).facts.size ≡ Large → AreOfOneRegion f g → covers g lock ≡ true

pub record ChangesUniformly (old new : Pages) (lock : PageLock) (change : RmpEntry → RmpEntry) : Type 0 where
  pub inside : (f : ℕ) → covers f lock ≡ true → (new f).facts ≡ change (old f).facts
  pub beside : (f : ℕ) → covers f lock ≡ false → (new f).facts ≡ (old f).facts

uniform_size : (old new : Pages) (lock : PageLock) (change : RmpEntry → RmpEntry) (f : ℕ) → IsUniform change → ChangesUniformly old new lock change → (new f).facts.size ≡ (old f).facts.size
uniform_size old new lock change f uniform changes =
    by_range (covers f lock) ((new f).facts.size ≡ (old f).facts.size)
    (λ is. ap (λ (x : RmpEntry). x.size) (changes.inside f is) ∙ uniform.size (old f).facts) (λ is. ap (λ (x : RmpEntry). x.size) (changes.beside f is))

uniform_gpn : (old new : Pages) (lock : PageLock) (change : RmpEntry → RmpEntry) (f : ℕ) → IsUniform change → ChangesUniformly old new lock change → (new f).facts.gpn ≡ (old f).facts.gpn
uniform_gpn old new lock change f uniform changes =
    by_range (covers f lock) ((new f).facts.gpn ≡ (old f).facts.gpn)
    (λ is. ap (λ (x : RmpEntry). x.gpn) (changes.inside f is) ∙ uniform.gpn (old f).facts) (λ is. ap (λ (x : RmpEntry). x.gpn) (changes.beside f is))

pub uniform_whole : (old new : Pages) (lock : PageLock) (change : RmpEntry → RmpEntry) → IsUniform change → CoversWhole old lock → ChangesUniformly old new lock change → AreLargeWhole old → AreLargeWhole new
uniform_whole old new lock change uniform covering changes whole =
    let before = λ (f : ℕ) (large : (new f).facts.size ≡ Large). sym (uniform_size old new lock change f uniform changes) ∙ large in
    record {
      together = λ f g large same.
          let page = whole.together f g (before f large) same in
          by_range (covers f lock) (AreOfOnePage new f g)
          (λ is. changed_page old new change f g uniform (changes.inside f is) (changes.inside g (covering f g is (before f large) same)) page)
          (λ is. one_page_same old new f g (changes.beside f is)
          (changes.beside g (by_range (covers g lock) (covers g lock ≡ false)
          (λ there. absurd (true≢false (sym (covering g f there ((sizes_whole old whole).large f g (before f large) same) (sym same)) ∙ is))) (λ out. out))) page);
      aligned = λ f large. ap (λ (q : ℕ). q % 512) (uniform_gpn old new lock change (page_base Large f) uniform changes) ∙ whole.aligned f (before f large);
    }

-- RMPUPDATE

facts_inside : (update : Update) (lock : PageLock) (pages : Pages) (f : ℕ) → covers f lock ≡ true
    → (pages_updated update lock pages f).facts ≡ updated_facts update (pages lock.base).facts (f - lock.base) (pages f).facts
unfolding pages_updated
facts_inside update lock pages f inside = rw inside refl

facts_beside : (update : Update) (lock : PageLock) (pages : Pages) (f : ℕ) → covers f lock ≡ false → (pages_updated update lock pages f).facts ≡ (pages f).facts
unfolding pages_updated
facts_beside update lock pages f beside = rw beside refl

-- of a frame of 4 KB
small_update_whole : (update : Update) (frame : ℕ) (pages : Pages) → update.size ≡ Small → (pages frame).facts.size ≡ Small → AreLargeWhole pages → AreLargeWhole (pages_updated update (range_lock Small frame) pages)
small_update_whole update frame pages asked small whole =
    let lock = range_lock Small frame in
    let small_at = λ (f : ℕ) (inside : covers f lock ≡ true). subst (λ (k : ℕ). (pages k).facts.size ≡ Small) (sym (small_range_covered frame f inside)) small in
    small_changes_whole pages (pages_updated update lock pages) (λ f. covers f lock)
    (record {
      same = facts_beside update lock pages;
      was_small = small_at;
      is_small = λ f inside. size_inside update lock pages f inside ∙ small_after update (pages frame).facts (pages f).facts.size asked (small_at f inside);
    }) whole

-- of a region: what each of its frames becomes
frozen : Update → RmpEntry → RmpEntry
frozen update facts = record facts { immutable = true; kind = immutable_kind update.asid facts.kind }

frozen_uniform : (update : Update) → IsUniform (frozen update)
unfolding frozen
frozen_uniform update = record { gpn = λ x. refl; size = λ x. refl; alike = λ x q. refl }

assigned_pair : (update : Update) (base f g : ℕ) (new : Pages) → base ≤ f → base ≤ g → (new f).facts ≡ assigned_facts update (f - base) → (new g).facts ≡ assigned_facts update (g - base) → AreOfOnePage new f g
unfolding assigned_facts
assigned_pair update base f g new low_f low_g at_f at_g =
    let gpn_f : (new f).facts.gpn ≡ update.gpn + (f - base) = ap (λ (x : RmpEntry). x.gpn) at_f in
    let gpn_g : (new g).facts.gpn ≡ update.gpn + (g - base) = ap (λ (x : RmpEntry). x.gpn) at_g in
    record {
      follow = omega arith;
      alike = at_g ∙ ap (λ (q : ℕ). record (assigned_facts update (f - base)) { gpn = q }) (sym gpn_g) ∙ ap (λ (x : RmpEntry). record x { gpn = (new g).facts.gpn }) (sym at_f);
    }

free_small : free_entry.size ≡ Small
unfolding free_entry
free_small = refl

-- what two frames of the region become goes by one test
region_pair : (update : Update) (frame : ℕ) (pages : Pages) (f g : ℕ) (makes assigns : Bool)
    → (new : Pages) → frame ≤ f → frame ≤ g
    → (new f).facts ≡ cond makes (frozen update (pages f).facts) (cond (not assigns) free_entry (assigned_facts update (f - frame)))
    → (new g).facts ≡ cond makes (frozen update (pages g).facts) (cond (not assigns) free_entry (assigned_facts update (g - frame)))
    → ((pages f).facts.size ≡ Large → AreOfOnePage pages f g) → (new f).facts.size ≡ Large → AreOfOnePage new f g
region_pair update frame pages f g true assigns new low_f low_g at_f at_g page large =
    changed_page pages new (frozen update) f g (frozen_uniform update) at_f at_g (page (sym ((frozen_uniform update).size (pages f).facts) ∙ ap (λ (x : RmpEntry). x.size) (sym at_f) ∙ large))
region_pair update frame pages f g false true new low_f low_g at_f at_g page large = assigned_pair update frame f g new low_f low_g at_f at_g
region_pair update frame pages f g false false new low_f low_g at_f at_g page large = absurd (small_not_large _ (ap (λ (x : RmpEntry). x.size) at_f ∙ free_small) large)

facts_by : (update : Update) (frame : ℕ) (pages : Pages) (f : ℕ) → covers f (range_lock Large frame) ≡ true
    → (pages_updated update (range_lock Large frame) pages f).facts ≡ cond (makes_immutable update (pages frame).facts) (frozen update (pages f).facts) (cond (not update.assigned) free_entry (assigned_facts update (f - frame)))
unfolding updated_facts frozen
facts_by update frame pages f inside = facts_inside update (range_lock Large frame) pages f inside

no_distance : (gpn b frame : ℕ) → b ≡ frame → gpn + (b - frame) ≡ gpn
no_distance gpn b frame is = omega arith

-- the first frame of the region keeps an aligned guest page number
first_aligned : (update : Update) (frame b : ℕ) (pages new : Pages) (makes assigns : Bool) → b ≡ frame → update.gpn % 512 ≡ 0
    → (new b).facts ≡ cond makes (frozen update (pages b).facts) (cond (not assigns) free_entry (assigned_facts update (b - frame)))
    → (new b).facts.size ≡ Large → ((pages b).facts.size ≡ Large → (pages b).facts.gpn % 512 ≡ 0) → (new b).facts.gpn % 512 ≡ 0
unfolding assigned_facts
first_aligned update frame b pages new true assigns is gpn at large page =
    ap (λ (x : RmpEntry). x.gpn % 512) at ∙ ap (λ (q : ℕ). q % 512) ((frozen_uniform update).gpn (pages b).facts) ∙ page (sym ((frozen_uniform update).size (pages b).facts) ∙ ap (λ (x : RmpEntry). x.size) (sym at) ∙ large)
first_aligned update frame b pages new false true is gpn at large page =
    let value : (new b).facts.gpn ≡ update.gpn + (b - frame) = ap (λ (x : RmpEntry). x.gpn) at in
    ap (λ (q : ℕ). q % 512) value ∙ ap (λ (q : ℕ). q % 512) (no_distance update.gpn b frame is) ∙ gpn
first_aligned update frame b pages new false false is gpn at large page = absurd (small_not_large _ (ap (λ (x : RmpEntry). x.size) at ∙ free_small) large)

pub low_of : (frame f : ℕ) → covers f (range_lock Large frame) ≡ true → frame ≤ f
low_of frame f inside = grind (arith, nat_tests)

pub high_of : (frame f : ℕ) → covers f (range_lock Large frame) ≡ true → f < frame + 512
high_of frame f inside = grind (arith, nat_tests)

base_is : (frame f : ℕ) → frame % 512 ≡ 0 → covers f (range_lock Large frame) ≡ true → page_base Large f ≡ frame
base_is frame f aligned inside =
    let low = low_of frame f inside in
    let high = high_of frame f inside in
    omega arith

beside_region : (frame f g : ℕ) → frame % 512 ≡ 0 → covers f (range_lock Large frame) ≡ false → AreOfOneRegion f g → covers g (range_lock Large frame) ≡ false
beside_region frame f g aligned beside same =
    by_range (covers g (range_lock Large frame)) (covers g (range_lock Large frame) ≡ false)
    (λ there. absurd (true≢false (sym (region_covered frame g f aligned there (sym same)) ∙ beside))) (λ out. out)

-- a frame of the region that becomes of 2 MB has its first frame do so
size_pair : (update : Update) (frame : ℕ) (pages : Pages) (f g : ℕ) (makes assigns : Bool) (new : Pages)
    → (new f).facts ≡ cond makes (frozen update (pages f).facts) (cond (not assigns) free_entry (assigned_facts update (f - frame)))
    → (new g).facts ≡ cond makes (frozen update (pages g).facts) (cond (not assigns) free_entry (assigned_facts update (g - frame)))
    → ((pages f).facts.size ≡ Large → (pages g).facts.size ≡ Large) → (new f).facts.size ≡ Large → (new g).facts.size ≡ Large
unfolding assigned_facts frozen
size_pair update frame pages f g true assigns new at_f at_g page large =
    ap (λ (x : RmpEntry). x.size) at_g ∙ page (ap (λ (x : RmpEntry). x.size) (sym at_f) ∙ large)
size_pair update frame pages f g false true new at_f at_g page large = ap (λ (x : RmpEntry). x.size) at_g ∙ ap (λ (x : RmpEntry). x.size) (sym at_f) ∙ large
size_pair update frame pages f g false false new at_f at_g page large = absurd (small_not_large _ (ap (λ (x : RmpEntry). x.size) at_f ∙ free_small) large)

base_again : (b frame : ℕ) → b ≡ frame → frame % 512 ≡ 0 → b ≡ page_base Large b
base_again b frame first aligned = omega arith

region_base : (update : Update) (frame : ℕ) (pages : Pages) (f b : ℕ) (new : Pages) → frame % 512 ≡ 0 → update.gpn % 512 ≡ 0 → covers f (range_lock Large frame) ≡ true → covers b (range_lock Large frame) ≡ true
    → b ≡ frame → AreLargeWhole pages → new ≡ pages_updated update (range_lock Large frame) pages → b ≡ page_base Large f → (new f).facts.size ≡ Large → (new b).facts.gpn % 512 ≡ 0
region_base update frame pages f b new aligned gpn is there first whole new_is base large =
    let at = λ (x : ℕ) (inside : covers x (range_lock Large frame) ≡ true). ap (λ (p : Pages). (p x).facts) new_is ∙ facts_by update frame pages x inside in
    let makes = makes_immutable update (pages frame).facts in
    let same : AreOfOneRegion f b = base_region f ∙ ap (λ (x : ℕ). x / 512) (sym base) in
    let base_large = size_pair update frame pages f b makes update.assigned new (at f is) (at b there) (λ before. (sizes_whole pages whole).large f b before same) large in
    first_aligned update frame b pages new makes update.assigned first gpn (at b there) base_large
    (λ before. subst (λ (x : ℕ). (pages x).facts.gpn % 512 ≡ 0) (sym (base_again b frame first aligned)) (whole.aligned b before))

large_update_whole : (update : Update) (frame : ℕ) (pages : Pages) → frame % 512 ≡ 0 → update.gpn % 512 ≡ 0 → AreLargeWhole pages → AreLargeWhole (pages_updated update (range_lock Large frame) pages)
large_update_whole update frame pages aligned gpn whole =
    let lock = range_lock Large frame in
    let new = pages_updated update lock pages in
    record {
      together = λ f g large same.
          by_range (covers f lock) (AreOfOnePage new f g)
          (λ is. let there = region_covered frame f g aligned is same in
          region_pair update frame pages f g (makes_immutable update (pages frame).facts) update.assigned new (low_of frame f is) (low_of frame g there) (facts_by update frame pages f is) (facts_by update frame pages g there)
          (λ before. whole.together f g before same) large)
          (λ is. let large_before = ap (λ (x : RmpEntry). x.size) (sym (facts_beside update lock pages f is)) ∙ large in
          one_page_same pages new f g (facts_beside update lock pages f is)
          (facts_beside update lock pages g (beside_region frame f g aligned is same)) (whole.together f g large_before same));
      aligned = λ f large.
          let b = page_base Large f in
          by_range (covers f lock) ((new b).facts.gpn % 512 ≡ 0)
          (λ is.
          let there = region_covered frame f b aligned is (base_region f) in
          let first : b ≡ frame = base_is frame f aligned is in
          region_base update frame pages f b new aligned gpn is there first whole refl refl large)
          (λ is. let large_before = ap (λ (x : RmpEntry). x.size) (sym (facts_beside update lock pages f is)) ∙ large in
          ap (λ (x : RmpEntry). x.gpn % 512) (facts_beside update lock pages b (beside_region frame f b aligned is (base_region f))) ∙ whole.aligned f large_before);
    }

-- so for either size
pub update_whole : (update : Update) (size : PageSize) (pages : Pages) → update.size ≡ size → (size ≡ Small → (pages update.frame).facts.size ≡ Small) → (size ≡ Large → update.frame % 512 ≡ 0) → (size ≡ Large → update.gpn % 512 ≡ 0)
    → AreLargeWhole pages → AreLargeWhole (pages_updated update (range_lock size update.frame) pages)
update_whole update Small pages asked small aligned gpn whole = small_update_whole update update.frame pages asked (small refl) whole
update_whole update Large pages asked small aligned gpn whole = large_update_whole update update.frame pages (aligned refl) (gpn refl) whole

-- PSMASH
smashed_facts_beside : (lock : PageLock) (pages : Pages) (f : ℕ) → covers f lock ≡ false → (pages_smashed lock pages f).facts ≡ (pages f).facts
unfolding pages_smashed
smashed_facts_beside lock pages f beside = rw beside refl

smashed_small : (lock : PageLock) (pages : Pages) (f : ℕ) → covers f lock ≡ true → (pages_smashed lock pages f).facts.size ≡ Small
unfolding pages_smashed
smashed_small lock pages f inside = rw inside refl

pub beside_page : (frame f g : ℕ) → covers f (page_lock Large frame) ≡ false → AreOfOneRegion f g → covers g (page_lock Large frame) ≡ false
beside_page frame f g beside same =
    by_range (covers g (page_lock Large frame)) (covers g (page_lock Large frame) ≡ false)
    (λ there. absurd (true≢false (sym (region_page frame f (page_region frame g there ∙ sym same)) ∙ beside))) (λ out. out)

pub smash_whole : (frame : ℕ) (pages : Pages) → AreLargeWhole pages → AreLargeWhole (pages_smashed (page_lock Large frame) pages)
smash_whole frame pages whole =
    let lock = page_lock Large frame in
    let new = pages_smashed lock pages in
    let out = λ (f : ℕ) (large : (new f).facts.size ≡ Large).
    by_range (covers f lock) (covers f lock ≡ false) (λ is. absurd (small_not_large (new f).facts.size (smashed_small lock pages f is) large)) (λ is. is) in
    let before = λ (f : ℕ) (large : (new f).facts.size ≡ Large). ap (λ (x : RmpEntry). x.size) (sym (smashed_facts_beside lock pages f (out f large))) ∙ large in
    record {
      together = λ f g large same. one_page_same pages new f g (smashed_facts_beside lock pages f (out f large)) (smashed_facts_beside lock pages g (beside_page frame f g (out f large) same)) (whole.together f g (before f large) same);
      aligned = λ f large. ap (λ (x : RmpEntry). x.gpn % 512) (smashed_facts_beside lock pages (page_base Large f) (beside_page frame f (page_base Large f) (out f large) (base_region f))) ∙ whole.aligned f (before f large);
    }

-- PVALIDATE and RMPADJUST
validated_uniform : (validate : Bool) (own : RmpEntry) → IsUniform (validated_facts validate own)
unfolding validated_facts
validated_uniform validate own = record {
  gpn = λ x. cond_both (carry validate own) _ _ (λ (y : RmpEntry). y.gpn ≡ x.gpn) (λ _. refl) (λ _. refl);
  size = λ x. cond_both (carry validate own) _ _ (λ (y : RmpEntry). y.size ≡ x.size) (λ _. refl) (λ _. refl);
  alike = λ x q. elim (carry validate own) as (λ (b : Bool). cond b (record x { gpn = q }) (record x { gpn = q; validated = validate }) ≡ record (cond b x (record x { validated = validate })) { gpn = q }) [ true ↦ refl | false ↦ refl ];
}

adjusted_uniform : (vmpl target mask : ℕ) (vmsa : Bool) → IsUniform (adjusted_facts vmpl target mask vmsa)
unfolding adjusted_facts
adjusted_uniform vmpl target mask vmsa = record { gpn = λ x. refl; size = λ x. refl; alike = λ x q. refl }

pub validate_whole : (validate : Bool) (own : RmpEntry) (lock : PageLock) (pages : Pages) → CoversWhole pages lock → AreLargeWhole pages → AreLargeWhole (pages_validated validate own lock pages)
unfolding pages_validated
validate_whole validate own lock pages covering whole =
    uniform_whole pages (over_lock lock (validated_page validate own) pages) lock (validated_facts validate own) (validated_uniform validate own) covering
    (record { inside = λ f is. rw is refl; beside = λ f is. rw is refl }) whole

pub adjust_whole : (vmpl target mask : ℕ) (vmsa : Bool) (lock : PageLock) (pages : Pages) → CoversWhole pages lock → AreLargeWhole pages → AreLargeWhole (pages_adjusted vmpl target mask vmsa lock pages)
unfolding pages_adjusted
adjust_whole vmpl target mask vmsa lock pages covering whole =
    uniform_whole pages (over_lock lock (adjusted_page vmpl target mask vmsa) pages) lock (adjusted_facts vmpl target mask vmsa) (adjusted_uniform vmpl target mask vmsa) covering
    (record { inside = λ f is. rw is refl; beside = λ f is. rw is refl }) whole
