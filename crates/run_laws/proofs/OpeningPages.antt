-- At the opening of a valid scenario each page of 2 MB is whole: its page line alone gives the facts of its 512 frames.
use Rattle.std.proofs.Common.{◌≡◌, ℕ, ◌+◌, ◌-◌, ◌%◌, ◌≤◌, ◌<◌, true, false, List, [], ◌∷◌, refl, sym, ap, ◌∙◌, subst, arith}
use Rattle.std.specs.List.{AllByRecursion}
use Rattle.std.proofs.lemmas.Bool.Decides.{nat_tests}
use Rattle.snp_model.specs.declared.entry.PageSize.{PageSize}
use Rattle.snp_model.specs.declared.entry.PageSize.TheVariants.{Small, Large}
use Rattle.snp_model.specs.declared.entry.RmpEntry.{RmpEntry}
use Rattle.snp_model.specs.declared.scenario.GuestSpec.{GuestSpec}
use Rattle.snp_model.specs.declared.scenario.PageSpec.{PageSpec}
use Rattle.snp_model.specs.Facts.{free_entry, frames_in, page_base}
use Rattle.snp_model.specs.Locks.{in_range}
use Rattle.snp_model.specs.Opening.{page_facts, with_page, facts_from}
use Rattle.snp_model.specs.Sound.{Pairwise, FramesDiffer, IsPage}
use Rattle.snp_model.specs.State.{Pages}
use Rattle.run_laws.specs.KeptLocks.{AreOfOneRegion}
use Rattle.run_laws.specs.Shapes.{AreOfOnePage}
use Rattle.run_laws.proofs.LargePages.{AreLargeWhole}
use Rattle.run_laws.proofs.LockLaws.{small_not_large, region_covered}
use Rattle.run_laws.proofs.LockedItems.{by_range}
use Rattle.run_laws.proofs.OpeningLaws.{pages_with}

-- the facts of a frame of the page, and of one beside it
page_inside : (guests : List GuestSpec) (page : PageSpec) (facts : ℕ → RmpEntry) (f : ℕ) → in_range page.frame (frames_in page.size) f ≡ true → with_page guests page facts f ≡ page_facts guests page (f - page.frame)
page_inside guests page facts f inside = rw inside refl

page_beside : (guests : List GuestSpec) (page : PageSpec) (facts : ℕ → RmpEntry) (f : ℕ) → in_range page.frame (frames_in page.size) f ≡ false → with_page guests page facts f ≡ facts f
page_beside guests page facts f beside = rw beside refl

size_is : (guests : List GuestSpec) (page : PageSpec) (place : ℕ) → (page_facts guests page place).size ≡ page.size
unfolding page_facts
size_is guests page place = refl

free_small : free_entry.size ≡ Small
unfolding free_entry
free_small = refl

-- the frames of a page line to come are of 4 KB before it
pub record IsSmallAt (facts : ℕ → RmpEntry) (page : PageSpec) : Type 0 where
  pub small : (f : ℕ) → in_range page.frame (frames_in page.size) f ≡ true → (facts f).size ≡ Small

all_small : (pages : List PageSpec) → AllByRecursion (IsSmallAt (λ _. free_entry)) pages
all_small [] = tt
all_small (page ∷ pages) = (record { small = λ f inside. free_small }, all_small pages)

-- they stay so under a page line that has none of them
stays_small : (guests : List GuestSpec) (page : PageSpec) (facts : ℕ → RmpEntry) (others : List PageSpec)
    → AllByRecursion (FramesDiffer page) others → AllByRecursion (IsSmallAt facts) others → AllByRecursion (IsSmallAt (with_page guests page facts)) others
stays_small guests page facts [] apart small = tt
stays_small guests page facts (other ∷ others) apart small = (
  record {
    small = λ f inside. by_range (in_range page.frame (frames_in page.size) f) ((with_page guests page facts f).size ≡ Small)
        (λ both. absurd (apart.0 f both inside))
        (λ beside. ap (λ (x : RmpEntry). x.size) (page_beside guests page facts f beside) ∙ small.0.small f inside);
  },
  stays_small guests page facts others apart.1 small.1,
)

-- a page line of 2 MB begins at a multiple of 512, and so do its guest page numbers
abbrev pub IsAligned : PageSpec → Type 0
IsAligned page = page.size ≡ Large → (page.frame % 512 ≡ 0) × (page.gpn % 512 ≡ 0)

-- a frame of a page of 2 MB, and the first frame of its region
low_of : (base count f : ℕ) → in_range base count f ≡ true → base ≤ f
low_of base count f inside = grind (arith, nat_tests)

as_large : (size : PageSize) (base f : ℕ) → size ≡ Large → in_range base (frames_in size) f ≡ true → in_range base 512 f ≡ true
as_large size base f large inside = subst (λ (s : PageSize). in_range base (frames_in s) f ≡ true) large inside

of_large : (size : PageSize) (base f : ℕ) → size ≡ Large → in_range base 512 f ≡ true → in_range base (frames_in size) f ≡ true
of_large size base f large inside = subst (λ (s : PageSize). in_range base (frames_in s) f ≡ true) (sym large) inside

base_is : (base f : ℕ) → base % 512 ≡ 0 → in_range base 512 f ≡ true → page_base Large f ≡ base
base_is base f aligned inside =
    let low : base ≤ f = grind (arith, nat_tests) in
    let high : f < base + 512 = grind (arith, nat_tests) in
    omega arith

base_region : (f : ℕ) → AreOfOneRegion f (page_base Large f)
base_region f = omega arith

-- a page of 2 MB has every frame of its region
region_inside : (page : PageSpec) (f g : ℕ) → page.size ≡ Large → page.frame % 512 ≡ 0 → in_range page.frame (frames_in page.size) f ≡ true → AreOfOneRegion f g
    → in_range page.frame (frames_in page.size) g ≡ true
region_inside page f g large aligned inside same = of_large page.size page.frame g large (region_covered page.frame f g aligned (as_large page.size page.frame f large inside) same)

-- two frames of one page line
page_pair : (guests : List GuestSpec) (page : PageSpec) (new : Pages) (f g : ℕ) → page.frame ≤ f → page.frame ≤ g
    → (new f).facts ≡ page_facts guests page (f - page.frame) → (new g).facts ≡ page_facts guests page (g - page.frame) → AreOfOnePage new f g
unfolding page_facts
page_pair guests page new f g low_f low_g at_f at_g =
    let gpn_f : (new f).facts.gpn ≡ page.gpn + (f - page.frame) = ap (λ (x : RmpEntry). x.gpn) at_f in
    let gpn_g : (new g).facts.gpn ≡ page.gpn + (g - page.frame) = ap (λ (x : RmpEntry). x.gpn) at_g in
    record {
      follow = omega arith;
      alike = at_g ∙ ap (λ (q : ℕ). record (page_facts guests page (f - page.frame)) { gpn = q }) (sym gpn_g) ∙ ap (λ (x : RmpEntry). record x { gpn = (new g).facts.gpn }) (sym at_f);
    }

-- the first frame of a page of 2 MB has the first guest page number of its line
first_gpn : (guests : List GuestSpec) (page : PageSpec) (b : ℕ) → b ≡ page.frame → (page_facts guests page (b - page.frame)).gpn ≡ page.gpn
unfolding page_facts
first_gpn guests page b is = omega arith

-- two frames that keep their facts
same_pair : (old new : Pages) (f g : ℕ) → (new f).facts ≡ (old f).facts → (new g).facts ≡ (old g).facts → AreOfOnePage old f g → AreOfOnePage new f g
same_pair old new f g at_f at_g pair = record {
  follow = ap (λ (x : RmpEntry). x.gpn + f) at_g ∙ pair.follow ∙ ap (λ (x : RmpEntry). x.gpn + g) (sym at_f);
  alike = at_g ∙ pair.alike
      ∙ ap (λ (x : RmpEntry). record x { gpn = (old g).facts.gpn }) (sym at_f)
      ∙ ap (λ (q : ℕ). record (new f).facts { gpn = q }) (ap (λ (x : RmpEntry). x.gpn) (sym at_g));
}

-- a frame that was of 2 MB before a page line keeps its facts
large_beside : (guests : List GuestSpec) (page : PageSpec) (facts : ℕ → RmpEntry) (f : ℕ) → IsSmallAt facts page → (facts f).size ≡ Large → with_page guests page facts f ≡ facts f
large_beside guests page facts f small large =
    by_range (in_range page.frame (frames_in page.size) f) (with_page guests page facts f ≡ facts f)
    (λ inside. absurd (small_not_large (facts f).size (small.small f inside) large)) (page_beside guests page facts f)

-- a frame of a page line that is of 2 MB after it
page_large : (guests : List GuestSpec) (page : PageSpec) (facts : ℕ → RmpEntry) (f : ℕ) → in_range page.frame (frames_in page.size) f ≡ true → (with_page guests page facts f).size ≡ Large → page.size ≡ Large
page_large guests page facts f inside large = sym (size_is guests page (f - page.frame)) ∙ ap (λ (x : RmpEntry). x.size) (sym (page_inside guests page facts f inside)) ∙ large

-- and one beside the page line was so before
was_large : (guests : List GuestSpec) (page : PageSpec) (facts : ℕ → RmpEntry) (f : ℕ) → in_range page.frame (frames_in page.size) f ≡ false → (with_page guests page facts f).size ≡ Large → (facts f).size ≡ Large
was_large guests page facts f beside large = ap (λ (x : RmpEntry). x.size) (sym (page_beside guests page facts f beside)) ∙ large

-- each page line keeps pages of 2 MB whole: their frames go together
line_together : (guests : List GuestSpec) (page : PageSpec) (facts : ℕ → RmpEntry) (words : ℕ → List ℕ) → IsAligned page → IsSmallAt facts page
    → AreLargeWhole (pages_with facts words) → (f g : ℕ) → (with_page guests page facts f).size ≡ Large → AreOfOneRegion f g → AreOfOnePage (pages_with (with_page guests page facts) words) f g
line_together guests page facts words aligned small whole f g large same =
    let old = pages_with facts words in
    let new = pages_with (with_page guests page facts) words in
    by_range (in_range page.frame (frames_in page.size) f) (AreOfOnePage new f g)
    (λ inside.
    let of_page = page_large guests page facts f inside large in
    let also = region_inside page f g of_page (aligned of_page).0 inside same in
    page_pair guests page new f g (low_of page.frame (frames_in page.size) f inside) (low_of page.frame (frames_in page.size) g also) (page_inside guests page facts f inside) (page_inside guests page facts g also))
    (λ beside.
    let before = was_large guests page facts f beside large in
    let pair = whole.together f g before same in
    same_pair old new f g (page_beside guests page facts f beside) (large_beside guests page facts g small (ap (λ (x : RmpEntry). x.size) pair.alike ∙ before)) pair)

-- and their guest page numbers begin at a multiple of 512
line_aligned : (guests : List GuestSpec) (page : PageSpec) (facts : ℕ → RmpEntry) (words : ℕ → List ℕ) → IsAligned page → IsSmallAt facts page
    → AreLargeWhole (pages_with facts words) → (f : ℕ) → (with_page guests page facts f).size ≡ Large → (with_page guests page facts (page_base Large f)).gpn % 512 ≡ 0
line_aligned guests page facts words aligned small whole f large =
    let base = page_base Large f in
    by_range (in_range page.frame (frames_in page.size) f) ((with_page guests page facts base).gpn % 512 ≡ 0)
    (λ inside.
    let of_page = page_large guests page facts f inside large in
    let first = base_is page.frame f (aligned of_page).0 (as_large page.size page.frame f of_page inside) in
    let also = region_inside page f base of_page (aligned of_page).0 inside (base_region f) in
    ap (λ (x : RmpEntry). x.gpn % 512) (page_inside guests page facts base also) ∙ ap (λ (q : ℕ). q % 512) (first_gpn guests page base first) ∙ (aligned of_page).1)
    (λ beside.
    let before = was_large guests page facts f beside large in
    let pair = whole.together f base before (base_region f) in
    ap (λ (x : RmpEntry). x.gpn % 512) (large_beside guests page facts base small (ap (λ (x : RmpEntry). x.size) pair.alike ∙ before)) ∙ whole.aligned f before)

-- so pages of 2 MB are whole after all page lines
facts_whole : (frames count : ℕ) (guests : List GuestSpec) (pages : List PageSpec) (facts : ℕ → RmpEntry) (words : ℕ → List ℕ) → AllByRecursion (IsPage frames count) pages
    → Pairwise FramesDiffer pages → AllByRecursion (IsSmallAt facts) pages → AreLargeWhole (pages_with facts words) → AreLargeWhole (pages_with (facts_from guests facts pages) words)
unfolding facts_from
facts_whole frames count guests [] facts words lines apart small whole = whole
facts_whole frames count guests (page ∷ pages) facts words lines apart small whole =
    facts_whole frames count guests pages (with_page guests page facts) words lines.1 apart.1 (stays_small guests page facts pages apart.0 small.1)
    (record { together = line_together guests page facts words lines.0.aligned small.0 whole; aligned = line_aligned guests page facts words lines.0.aligned small.0 whole })

-- before them there is none
free_whole : (words : ℕ → List ℕ) → AreLargeWhole (pages_with (λ _. free_entry) words)
free_whole words = record { together = λ f g large same. absurd (small_not_large free_entry.size free_small large); aligned = λ f large. absurd (small_not_large free_entry.size free_small large) }

pub opening_large : (frames count : ℕ) (guests : List GuestSpec) (pages : List PageSpec) (words : ℕ → List ℕ) → AllByRecursion (IsPage frames count) pages → Pairwise FramesDiffer pages
    → AreLargeWhole (pages_with (facts_from guests (λ _. free_entry) pages) words)
opening_large frames count guests pages words lines apart = facts_whole frames count guests pages (λ _. free_entry) words lines apart (all_small pages) (free_whole words)
