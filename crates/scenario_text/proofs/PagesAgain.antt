-- The lines that are written of a scenario's pages are read again as these pages.
use Rattle.std.proofs.Common.{◌≡◌, ℕ, ◌%◌, ◌^◌, ◌<◌, ◌≤◌, Bool, true, false, List, [], ◌∷◌, ◌++◌, length, refl, sym, ◌∙◌, ap, subst, append_assoc, append-nil, arith}
use Rattle.std.specs.Prelude.{Ok, codes, decimal, nat_le, ◌==◌, ◌&&◌}
use Rattle.std.specs.List.{AllByRecursion, list_any}
use Rattle.std.proofs.lemmas.Bool.Decides.{nat_tests}
use Rattle.snp_model.specs.declared.entry.PageSize.{PageSize}
use Rattle.snp_model.specs.declared.entry.PageSize.TheVariants.{Small, Large}
use Rattle.snp_model.specs.declared.scenario.PageSpec.{PageSpec}
use Rattle.snp_model.specs.declared.scenario.Scenario.{Scenario}
use Rattle.snp_model.specs.EventText.{size_text}
use Rattle.snp_model.specs.Facts.{frames_in}
use Rattle.snp_model.specs.Lines.{fixed, multiple}
use Rattle.snp_model.specs.Locks.{in_range}
use Rattle.snp_model.specs.Reading.{Makes, add_page, add_words, fit, reading}
use Rattle.snp_model.specs.ScenarioLines.{apart, before_words, collide, frames_of, overlap, page_row, page_unit, validity}
use Rattle.snp_model.specs.ScenarioText.{page_line, page_lines, validity_text}
use Rattle.snp_model.specs.Sound.{FramesDiffer, GpnsDiffer, IsPage, Pairwise}
use Rattle.snp_model.proofs.PairLaws.{each_two}
use Rattle.script_text.proofs.AgainLaws.{size_again, size_spelled}
use Rattle.script_text.proofs.ItemAgain.{below_decimal, multiple_of}
use Rattle.snp_model.specs.Spelling.{joined}
use Rattle.script_text.proofs.SpellingLaws.{IsWord, decimal_word, number_decimal}
use Rattle.snp_model.specs.Spelled.{IsOfOpened}
use Rattle.scenario_text.proofs.EarlierLaws.{each_earlier, none_passes}
use Rattle.scenario_text.proofs.NamedLines.{named}
use Rattle.scenario_text.proofs.MakesAgain.{more_make, said_fits}

-- whether a page is validated
validity_again : (valid : Bool) → validity (validity_text valid) ≡ Ok valid
unfolding validity validity_text
validity_again true = refl
validity_again false = refl

validity_word : (valid : Bool) → IsWord (validity_text valid)
unfolding validity_text
validity_word true = refl
validity_word false = refl

-- a multiple of the unit of a page
unit_again : (size : PageSize) (n : ℕ) → (size ≡ Large → n % 512 ≡ 0) → multiple (page_unit (size_text size)) n ≡ Ok n
unfolding size_text
unit_again Small n aligned = multiple_of 1 n (omega arith)
unit_again Large n aligned = multiple_of 512 n (aligned refl)

-- two ranges that have no number in common don't overlap
no_overlap : (base count other more : ℕ) → 0 < count → 0 < more → ((n : ℕ) → in_range other more n ≡ true → in_range base count n ≡ true → ⊥) → overlap base count other more ≡ false
no_overlap base count other more some others none = by (overlap base count other more) refl
  where
    highest : (later : Bool) → nat_le base other ≡ later → overlap base count other more ≡ true → ⊥
    highest true is meet = none other (grind (arith, nat_tests, others)) (grind (arith, nat_tests, is, meet))
    highest false is meet = none base (grind (arith, nat_tests, is, meet)) (grind (arith, nat_tests, some))

    by : (meets : Bool) → overlap base count other more ≡ meets → overlap base count other more ≡ false
    by true is = absurd (highest (nat_le base other) refl is)
    by false is = is

frames_some : (size : PageSize) → 0 < frames_in size
frames_some Small = omega arith
frames_some Large = omega arith

-- a page doesn't collide with one from which its frames and guest page numbers differ
apart_again : (page other : PageSpec) → FramesDiffer other page → GpnsDiffer other page → collide page other ≡ false
apart_again page other frames gpns =
    let some = frames_some page.size in
    let others = frames_some other.size in
    rw (no_overlap page.frame (frames_in page.size) other.frame (frames_in other.size) some others frames) (by (page.guest == other.guest) refl)
  where
    by : (same : Bool) → (page.guest == other.guest) ≡ same → (same && overlap page.gpn (frames_in page.size) other.gpn (frames_in other.size)) ≡ false
    by true is =
        let same : other.guest ≡ page.guest = grind (arith, nat_tests, is) in
        no_overlap page.gpn (frames_in page.size) other.gpn (frames_in other.size) (frames_some page.size) (frames_some other.size) (gpns same)
    by false is = refl

none_collides : (page : PageSpec) (pages : List PageSpec) → AllByRecursion (λ (other : PageSpec). FramesDiffer other page) pages → AllByRecursion (λ (other : PageSpec). GpnsDiffer other page) pages
    → list_any (collide page) pages ≡ false
none_collides page pages frames gpns =
    let fails : PageSpec → Type 0 = λ other. collide page other ≡ false in
    none_passes (collide page) fails pages (λ other is. is)
    (each_two (λ (other : PageSpec). FramesDiffer other page) (λ (other : PageSpec). GpnsDiffer other page) fails pages (apart_again page) frames gpns)

-- a page with these permissions
abbrev with_perms : PageSpec → ℕ → ℕ → ℕ → PageSpec
with_perms page x y z = record page { perms = x ∷ y ∷ z ∷ [] }

-- the words of its line behind the first
abbrev page_words : PageSpec → ℕ → ℕ → ℕ → List (List ℕ)
page_words page x y z =
    decimal page.frame ∷ codes "of" ∷ decimal page.guest ∷ codes "at" ∷ decimal page.gpn ∷ size_text page.size ∷ validity_text page.valid ∷ decimal x ∷ decimal y ∷ decimal z ∷ []

-- they say the page
page_again : (c : Scenario) (page : PageSpec) (x y z : ℕ) → frames_of c ≤ 2 ^ 32 → length c.guests ≤ 8 → IsPage (frames_of c) (length c.guests) (with_perms page x y z) → IsOfOpened c.guests page
    → list_any (collide page) c.pages ≡ false → page_row c (codes "page" ∷ page_words page x y z) ≡ Ok (with_perms page x y z)
unfolding page_row fixed apart
page_again c page x y z small few is opened free =
    rw (
      below_decimal (frames_of c) page.frame is.frame (omega (arith, is.frame)),
      unit_again page.size page.frame (λ large. (is.aligned large).0),
      number_decimal page.guest (omega (arith, is.guest_most)),
      below_decimal (2 ^ 36) page.gpn is.gpn (omega (arith, is.gpn)),
      unit_again page.size page.gpn (λ large. (is.aligned large).1),
      size_again page.size,
      validity_again page.valid,
      below_decimal 16 x is.perms.0 (omega (arith, is.perms.0)),
      below_decimal 16 y is.perms.1.0 (omega (arith, is.perms.1.0)),
      below_decimal 16 z is.perms.1.1.0 (omega (arith, is.perms.1.1.0)),
      opened,
      free,
    ) refl

-- which row it is
page_taken : (c : Scenario) (page : PageSpec) (x y z : ℕ) → before_words c ≡ true → add_words c (codes "page" ∷ page_words page x y z) ≡ add_page c (codes "page" ∷ page_words page x y z)
unfolding add_words
page_taken c page x y z stands = rw stands refl

abbrev with_pages : Scenario → List PageSpec → Scenario
with_pages c pages = record c { pages = pages }

-- and add it
page_added : (c : Scenario) (ws : List (List ℕ)) (page : PageSpec) → page_row c ws ≡ Ok page → add_page c ws ≡ Ok (reading (with_pages c (c.pages ++ page ∷ [])))
unfolding add_page
page_added c ws page row = rw row refl

-- so the line fits
three_fit : (c : Scenario) (page : PageSpec) (x y z : ℕ) → before_words c ≡ true → frames_of c ≤ 2 ^ 32 → length c.guests ≤ 8 → IsPage (frames_of c) (length c.guests) (with_perms page x y z)
    → IsOfOpened c.guests page → list_any (collide page) c.pages ≡ false → fit (reading c) (page_line (with_perms page x y z)) ≡ Ok (reading (with_pages c (c.pages ++ with_perms page x y z ∷ [])))
unfolding page_line
three_fit c page x y z stands small few is opened free =
    said_fits c (codes "page") (page_words page x y z) (reading (with_pages c (c.pages ++ with_perms page x y z ∷ []))) refl (
      decimal_word page.frame (omega (arith, is.frame)),
      (
        refl,
        (
          decimal_word page.guest (omega (arith, is.guest_most)),
          (
            refl,
            (
              decimal_word page.gpn (omega (arith, is.gpn)),
              (
                size_spelled page.size,
                (
                  validity_word page.valid,
                  (decimal_word x (omega (arith, is.perms.0)), (decimal_word y (omega (arith, is.perms.1.0)), (decimal_word z (omega (arith, is.perms.1.1.0)), tt))),
                ),
              ),
            ),
          ),
        ),
      ),
    ) refl (named (joined (codes "page" ∷ page_words page x y z)) refl)
    (page_taken c page x y z stands ∙ page_added c (codes "page" ∷ page_words page x y z) (with_perms page x y z) (page_again c page x y z small few is opened free))

-- so does that of every page, which has three permissions
perms_fit : (c : Scenario) (page : PageSpec) (perms : List ℕ) → length perms ≡ 3 → before_words c ≡ true → frames_of c ≤ 2 ^ 32 → length c.guests ≤ 8
    → IsPage (frames_of c) (length c.guests) (record page { perms = perms }) → IsOfOpened c.guests page → list_any (collide page) c.pages ≡ false
    → fit (reading c) (page_line (record page { perms = perms })) ≡ Ok (reading (with_pages c (c.pages ++ record page { perms = perms } ∷ [])))
perms_fit c page [] three stands small few is opened free = absurd (omega arith)
perms_fit c page (x ∷ []) three stands small few is opened free = absurd (omega arith)
perms_fit c page (x ∷ y ∷ []) three stands small few is opened free = absurd (omega arith)
perms_fit c page (x ∷ y ∷ z ∷ []) three stands small few is opened free = three_fit c page x y z stands small few is opened free
perms_fit c page (x ∷ y ∷ z ∷ p ∷ perms) three stands small few is opened free = absurd (omega arith)

-- the pages behind those that are read already
pages_from : (c : Scenario) (pages all : List PageSpec) → c.pages ++ pages ≡ all → before_words c ≡ true → frames_of c ≤ 2 ^ 32 → length c.guests ≤ 8
    → AllByRecursion (IsPage (frames_of c) (length c.guests)) pages → AllByRecursion (IsOfOpened c.guests) pages → Pairwise FramesDiffer all → Pairwise GpnsDiffer all
    → Makes (reading c) (page_lines pages) (reading (with_pages c all))
unfolding Makes page_lines
pages_from c [] all whole stands small few are opened frames gpns = ap (λ (pages : List PageSpec). reading (with_pages c pages)) (sym (append-nil c.pages) ∙ whole)
pages_from c (page ∷ pages) all whole stands small few are opened frames gpns =
    let one : List PageSpec = page ∷ [] in
    let more : Scenario = with_pages c (c.pages ++ one) in
    let free = none_collides page c.pages (each_earlier FramesDiffer c.pages page pages (subst (Pairwise FramesDiffer) (sym whole) frames)) (each_earlier GpnsDiffer c.pages page pages (subst (Pairwise GpnsDiffer) (sym whole) gpns)) in
    let fits = perms_fit c page page.perms are.0.perms_three stands small few are.0 opened.0 free in
    more_make (reading c) (reading more) (reading (with_pages c all)) (page_line page) (page_lines pages) fits
    (pages_from more pages all (append_assoc c.pages one pages ∙ whole) stands small few are.1 opened.1 frames gpns)

-- the lines of pages, whose guests are few enough for their numbers to be words
pub pages_make : (c : Scenario) (pages : List PageSpec) → before_words c ≡ true → frames_of c ≤ 2 ^ 32 → length c.guests ≤ 8
    → AllByRecursion (IsPage (frames_of c) (length c.guests)) pages → AllByRecursion (IsOfOpened c.guests) pages → Pairwise FramesDiffer (c.pages ++ pages) → Pairwise GpnsDiffer (c.pages ++ pages)
    → Makes (reading c) (page_lines pages) (reading (record c { pages = c.pages ++ pages }))
pages_make c pages stands small few are opened frames gpns = pages_from c pages (c.pages ++ pages) refl stands small few are opened frames gpns
