-- The opening, as the machine's functions build it.
use Rattle.std.proofs.Common.{◌≡◌, ℕ, ◌+◌, ◌-◌, ◌%◌, true, false, cond, List, [], ◌∷◌, length, refl, sym, ap, ◌∙◌, subst, arith}
use Rattle.std.proofs.Math.ListN.{get_or}
use Rattle.std.proofs.lemmas.Bool.Decides.{nat_tests}
use Rattle.std.specs.List.{AllByRecursion}
use Rattle.snp_model.specs.declared.scenario.GuestSpec.{GuestSpec}
use Rattle.snp_model.specs.declared.scenario.PageSpec.{PageSpec}
use Rattle.snp_model.specs.declared.entry.RmpEntry.{RmpEntry}
use Rattle.snp_model.specs.declared.entry.Kind.TheVariants.{Plain}
use Rattle.snp_model.specs.declared.entry.PageSize.{PageSize}
use Rattle.snp_model.specs.declared.entry.PageSize.TheVariants.{Small, Large}
use Rattle.snp_model.specs.Entries.{facts_within, with_entry}
use Rattle.snp_model.specs.Facts.{frames_in}
use Rattle.snp_model.specs.HeldContexts.{HeldContext}
use Rattle.snp_model.specs.Locks.{in_range}
use Rattle.snp_model.specs.Opening.{asid_of, facts_from, page_facts, with_page}
use Rattle.snp_model.specs.Sound.{FramesDiffer, IsPage}
use Rattle.run_laws.proofs.LockLaws.{not_true}
use Rattle.run_laws.proofs.RangeLaws.{over_beside}
use Rattle.machine_core.specs.declared.bay.Bay.{Bay}
use Rattle.machine_core.specs.Bays.{IsWholeRegion, locks_of, no_locks, own_stock}

three : (xs : List ℕ) → length xs ≡ 3 → get_or xs 0 0 ∷ get_or xs 1 0 ∷ get_or xs 2 0 ∷ [] ≡ xs
three [] long = absurd (omega arith)
three (a ∷ []) long = absurd (omega arith)
three (a ∷ b ∷ []) long = absurd (omega arith)
three (a ∷ b ∷ c ∷ []) long = refl
three (a ∷ b ∷ c ∷ d ∷ xs) long = absurd (omega arith)

-- the entry of a page, field by field
pub page_facts_is : (guests : List GuestSpec) (page : PageSpec) (asid : ℕ) → asid ≡ asid_of guests page.guest → length page.perms ≡ 3 → (place : ℕ)
    → let entry : RmpEntry = record { assigned = true; size = page.size; immutable = false; gpn = page.gpn; asid = asid; vmsa = false; validated = page.valid; perms = 15 ∷ get_or page.perms 0 0 ∷ get_or page.perms 1 0 ∷ get_or page.perms 2 0 ∷ []; kind = Plain } in
    page_facts guests page place ≡ facts_within entry place
unfolding page_facts
page_facts_is guests page asid asid_is long place =
    let same = sym asid_is in
    let permissions = sym (three page.perms long) in
    λ i. record { assigned = true; size = page.size; immutable = false; gpn = page.gpn + place; asid = same i; vmsa = false; validated = page.valid; perms = 15 ∷ permissions i; kind = Plain }

-- the entry of a page sets the facts of its frames
page_is_set : (guests : List GuestSpec) (page : PageSpec) (entry : RmpEntry) (facts : ℕ → RmpEntry) → entry.size ≡ page.size → ((place : ℕ) → page_facts guests page place ≡ facts_within entry place)
    → with_entry page.frame entry facts ≡ with_page guests page facts
page_is_set guests page entry facts size each =
    λ i f. cond (in_range page.frame (frames_in (size i)) f) (sym (each (f - page.frame)) i) (facts f)

-- so a page is set, before those that remain
pub set_next : (guests : List GuestSpec) (facts new : ℕ → RmpEntry) (page : PageSpec) (entry : RmpEntry) (pages : List PageSpec) → entry.size ≡ page.size
    → ((place : ℕ) → page_facts guests page place ≡ facts_within entry place) → new ≡ with_entry page.frame entry facts → facts_from guests new pages ≡ facts_from guests facts (page ∷ pages)
unfolding facts_from
set_next guests facts new page entry pages size each is = ap (λ (f : ℕ → RmpEntry). facts_from guests f pages) (is ∙ page_is_set guests page entry facts size each)

-- what a list of pages has past its end
abbrev pub no_page : PageSpec
no_page = record { frame = 0; guest = 0; gpn = 0; size = Small; valid = false; perms = [] }

-- the frames of a page are still of 4 KB
abbrev pub IsSmallPage : (ℕ → RmpEntry) → PageSpec → Type 0
IsSmallPage facts page = (f : ℕ) → in_range page.frame (frames_in page.size) f ≡ true → (facts f).size ≡ Small

pub all_small : (facts : ℕ → RmpEntry) (pages : List PageSpec) → ((f : ℕ) → (facts f).size ≡ Small) → AllByRecursion (IsSmallPage facts) pages
all_small facts [] small = tt
all_small facts (page ∷ pages) small = (λ f inside. small f, all_small facts pages small)

-- so are those of the other pages once the entry of one is written
others_small : (facts : ℕ → RmpEntry) (page : PageSpec) (entry : RmpEntry) (others : List PageSpec) → entry.size ≡ page.size → AllByRecursion (FramesDiffer page) others
    → AllByRecursion (IsSmallPage facts) others → AllByRecursion (IsSmallPage (with_entry page.frame entry facts)) others
others_small facts page entry [] size apart small = tt
others_small facts page entry (other ∷ others) size apart small = (stays, others_small facts page entry others size apart.1 small.1)
  where
    beside : (f : ℕ) → in_range other.frame (frames_in other.size) f ≡ true → in_range page.frame (frames_in entry.size) f ≡ false
    beside f inside = not_true (in_range page.frame (frames_in entry.size) f) (λ both. apart.0 f (subst (λ (s : PageSize). in_range page.frame (frames_in s) f ≡ true) size both) inside)

    stays : IsSmallPage (with_entry page.frame entry facts) other
    stays f inside = ap (λ (e : RmpEntry). e.size) (sym (over_beside page.frame (frames_in entry.size) (λ place old. facts_within entry place) facts f (beside f inside))) ∙ small.0 f inside

pub stay_small : (facts new : ℕ → RmpEntry) (page : PageSpec) (entry : RmpEntry) (others : List PageSpec) → entry.size ≡ page.size → new ≡ with_entry page.frame entry facts
    → AllByRecursion (FramesDiffer page) others → AllByRecursion (IsSmallPage facts) others → AllByRecursion (IsSmallPage new) others
stay_small facts new page entry others size is apart small = subst (λ (f : ℕ → RmpEntry). AllByRecursion (IsSmallPage f) others) (sym is) (others_small facts page entry others size apart small)

-- the first frame of a page is one of it
pub small_first : (facts : ℕ → RmpEntry) (page : PageSpec) → IsSmallPage facts page → (facts page.frame).size ≡ Small
small_first facts page small = small page.frame (first page.size)
  where
    first : (size : PageSize) → in_range page.frame (frames_in size) page.frame ≡ true
    first Small = grind (arith, nat_tests)
    first Large = grind (arith, nat_tests)

-- the entry of a page of 2 MB may be written where no lock is held
pub page_region : (bays : List Bay) (contexts : List HeldContext) (frames guests : ℕ) (page : PageSpec) (entry : RmpEntry) → locks_of (own_stock bays contexts) ≡ no_locks → IsPage frames guests page
    → entry.assigned ≡ true → entry.size ≡ page.size → entry.gpn ≡ page.gpn → entry.size ≡ Large → IsWholeRegion (own_stock bays contexts) page.frame entry
page_region bays contexts frames guests page entry unlocked is assigned size gpn large =
    let aligned = is.aligned (sym size ∙ large) in
    record {
      assigned = assigned;
      aligned = ap (λ (n : ℕ). n % 512) gpn ∙ aligned.1;
      first = aligned.0;
      one_holder = λ f here. (λ i. (unlocked i).holder f) ∙ sym (λ i. (unlocked i).holder page.frame);
    }
