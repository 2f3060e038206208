-- The frames and guest page numbers that pages have.
use Rattle.std.proofs.Common.{◌≡◌, ℕ, zero, suc, ◌+◌, ◌-◌, ◌<◌, ◌≤◌, ◌==◌, Bool, true, false, cond, ◌&&◌, ◌||◌, List, [], ◌∷◌, get_or, refl, ap, sym, ◌∙◌, arith}
use Rattle.std.specs.List.{list_any, range_with_len}
use Rattle.std.proofs.lemmas.Bool.Decides.{nat_tests}
use Rattle.std.proofs.lemmas.List.Folds.{list_any_at}
use Rattle.std.proofs.lemmas.List.FromFn.{length-range_with_len, get_or-range_with_len}
use Rattle.snp_model.specs.declared.entry.PageSize.{PageSize}
use Rattle.snp_model.specs.declared.entry.PageSize.TheVariants.{Small, Large}
use Rattle.snp_model.specs.declared.scenario.PageSpec.{PageSpec}
use Rattle.snp_model.specs.Facts.{frames_in}
use Rattle.snp_model.specs.Locks.{in_range}
use Rattle.snp_model.specs.ScenarioLines.{overlap, collide}
use Rattle.scenario_text.specs.declared.taken.Taken.{Taken}
use Rattle.scenario_text.specs.Pages.{same_gpn, has_frame, has_gpn, frame_taken, gpn_taken, Knows}

-- a number of a range passes a test
pub some_in : (test : ℕ → Bool) (base count n : ℕ) → base ≤ n → n < base + count → test n ≡ true → true ≡ list_any test (range_with_len base count)
some_in test base count n low high passes =
    let place : get_or (range_with_len base count) (n - base) 0 ≡ n = omega (arith, get_or-range_with_len base count (n - base) 0 (omega arith)) in
    sym (list_any_at test (range_with_len base count) (n - base) 0 (rw (length-range_with_len base count) (omega arith)) (ap test place ∙ passes))

-- none does
pub none_in : (test : ℕ → Bool) (base count : ℕ) → ((n : ℕ) → base ≤ n → n < base + count → test n ≡ false) → false ≡ list_any test (range_with_len base count)
none_in test base zero fails = refl
none_in test base (suc count) fails =
    rw (fails base (omega arith) (omega arith)) (none_in test (base + 1) count (λ n low high. fails n (omega arith) (omega arith)))

-- two ranges overlap exactly where a number of one is in the other
meets : (base count other more : ℕ) → 0 < count → 0 < more → list_any (in_range other more) (range_with_len base count) ≡ overlap base count other more
meets base zero other more some others = absurd (omega arith)
meets base (suc zero) other more some others = grind (arith, nat_tests)
meets base (suc (suc count)) other more some others =
    let next : Bool = in_range other more base || overlap (base + 1) (suc count) other more in
    let here : next ≡ overlap base (suc (suc count)) other more = grind (arith, nat_tests) in
    ap (λ (b : Bool). in_range other more base || b) (meets (base + 1) (suc count) other more (omega arith) others) ∙ here

some_frames : (size : PageSize) → 0 < frames_in size
some_frames Small = omega arith
some_frames Large = omega arith

or_or : (a b c d : Bool) → ((a || b) || (c || d)) ≡ ((a || c) || (b || d))
or_or true b true d = refl
or_or true b false d = refl
or_or false true c d = grind arith
or_or false false c d = refl

-- one passes one of two tests
any_or : {A : Type 0} (p q : A → Bool) (xs : List A) → list_any (λ x. p x || q x) xs ≡ (list_any p xs || list_any q xs)
any_or p q [] = refl
any_or p q (x ∷ xs) = ap (λ (b : Bool). (p x || q x) || b) (any_or p q xs) ∙ or_or (p x) (q x) _ _

no_any : {A : Type 0} (xs : List A) → list_any (λ x. false) xs ≡ false
no_any [] = refl
no_any (x ∷ xs) = no_any xs

-- a condition that doesn't depend on which one it is
any_and : {A : Type 0} (b : Bool) (p : A → Bool) (xs : List A) → list_any (λ x. b && p x) xs ≡ (b && list_any p xs)
any_and true p xs = refl
any_and false p xs = no_any xs

-- numbers and pages are looked at in either order
swapped : {A : Type 0} (has : ℕ → A → Bool) (test : A → Bool) (numbers : List ℕ) (xs : List A) → ((x : A) → list_any (λ n. has n x) numbers ≡ test x)
    → list_any (λ n. list_any (has n) xs) numbers ≡ list_any test xs
swapped has test numbers [] each = no_any numbers
swapped has test numbers (x ∷ xs) each =
    any_or (λ n. has n x) (λ n. list_any (has n) xs) numbers
    ∙ ap (λ (b : Bool). b || list_any (λ n. list_any (has n) xs) numbers) (each x)
    ∙ ap (λ (b : Bool). test x || b) (swapped has test numbers xs each)

-- the frames, and the guest page numbers, of a page
abbrev frames_overlap : PageSpec → PageSpec → Bool
frames_overlap page other = overlap page.frame (frames_in page.size) other.frame (frames_in other.size)

abbrev gpns_overlap : PageSpec → PageSpec → Bool
gpns_overlap page other = (page.guest == other.guest) && overlap page.gpn (frames_in page.size) other.gpn (frames_in other.size)

-- one of a page's frames is taken exactly where its frames overlap those of a page
frames_known : (taken : Taken) (page : PageSpec) (pages : List PageSpec) → Knows taken pages → list_any (frame_taken taken) (range_with_len page.frame (frames_in page.size)) ≡ list_any (frames_overlap page) pages
frames_known taken page pages known =
    let numbers = range_with_len page.frame (frames_in page.size) in
    ap (λ (test : ℕ → Bool). list_any test numbers) (λ i frame. known.frames frame i)
    ∙ swapped has_frame (frames_overlap page) numbers pages (λ other. meets page.frame (frames_in page.size) other.frame (frames_in other.size) (some_frames page.size) (some_frames other.size))

-- and so of its guest page numbers
gpns_known : (taken : Taken) (page : PageSpec) (pages : List PageSpec) → Knows taken pages → list_any (λ gpn. gpn_taken taken (page.guest, gpn)) (range_with_len page.gpn (frames_in page.size)) ≡ list_any (gpns_overlap page) pages
gpns_known taken page pages known =
    let numbers = range_with_len page.gpn (frames_in page.size) in
    ap (λ (test : ℕ → Bool). list_any test numbers) (λ i gpn. known.gpns (page.guest, gpn) i)
    ∙ swapped (λ gpn. has_gpn (page.guest, gpn)) (gpns_overlap page) numbers pages (λ other.
    any_and (page.guest == other.guest) (in_range other.gpn (frames_in other.size)) numbers
    ∙ ap (λ (b : Bool). (page.guest == other.guest) && b) (meets page.gpn (frames_in page.size) other.gpn (frames_in other.size) (some_frames page.size) (some_frames other.size)))

-- so a page collides with one of these exactly where one of its frames or guest page numbers is taken
collides : (taken : Taken) (page : PageSpec) (pages : List PageSpec) → Knows taken pages
    → list_any (collide page) pages ≡ (list_any (frame_taken taken) (range_with_len page.frame (frames_in page.size)) || list_any (λ gpn. gpn_taken taken (page.guest, gpn)) (range_with_len page.gpn (frames_in page.size)))
collides taken page pages known =
    any_or (frames_overlap page) (gpns_overlap page) pages ∙ rw (← frames_known taken page pages known, ← gpns_known taken page pages known) refl

pub by_frame : (taken : Taken) (page : PageSpec) (pages : List PageSpec) (count : ℕ) (has : Bool) → Knows taken pages → count ≡ frames_in page.size
    → has ≡ list_any (frame_taken taken) (range_with_len page.frame count) → has ≡ true → has ≡ list_any (collide page) pages
by_frame taken page pages count has known size is found =
    let first : list_any (frame_taken taken) (range_with_len page.frame (frames_in page.size)) ≡ true = rw (← size) (sym is ∙ found) in
    found ∙ sym (collides taken page pages known ∙ rw first refl)

pub by_gpn : (taken : Taken) (page : PageSpec) (pages : List PageSpec) (count : ℕ) (frames has : Bool) → Knows taken pages → count ≡ frames_in page.size
    → frames ≡ list_any (frame_taken taken) (range_with_len page.frame count) → frames ≡ false
    → has ≡ list_any (λ gpn. gpn_taken taken (page.guest, gpn)) (range_with_len page.gpn count) → has ≡ list_any (collide page) pages
by_gpn taken page pages count frames has known size is free gpns =
    let first : list_any (frame_taken taken) (range_with_len page.frame (frames_in page.size)) ≡ false = rw (← size) (sym is ∙ free) in
    let second : has ≡ list_any (λ gpn. gpn_taken taken (page.guest, gpn)) (range_with_len page.gpn (frames_in page.size)) = rw (← size) gpns in
    second ∙ sym (collides taken page pages known ∙ rw first refl)

-- one more guest page number is taken
pub one_more : (guest base gpn : ℕ) (q : ℕ × ℕ) (old new was : Bool) → base ≤ gpn → new ≡ cond (same_gpn (guest, gpn) q) true old
    → old ≡ (((q.0 == guest) && in_range base (gpn - base) q.1) || was) → new ≡ (((q.0 == guest) && in_range base (gpn + 1 - base) q.1) || was)
one_more guest base gpn q old new was low is so_far = rw (is, so_far) (grind (arith, nat_tests))
