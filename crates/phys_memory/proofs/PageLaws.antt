-- The pages of a region of which only the first are written out.
use Rattle.std.proofs.Common.{◌≡◌, ◌≢◌, ℕ, suc, ◌+◌, ◌-◌, ◌<◌, ◌≤◌, List, [], ◌∷◌, ◌++◌, length, get_or, set, replicate, refl, sym, subst, ap, ◌∙◌, inl, inr, ◌⊎◌, arith, append_assoc, length-append, length-set}
use Rattle.std.proofs.lemmas.List.{length-replicate, get_or_append_left, get_or-append_right, get_or-replicate, get_or-set_same, get_or-set_other, set-append_left}
use Rattle.std.proofs.lemmas.Bool.Decides.{eqb_tells}
use Rattle.snp_model.specs.RegionWords.{IsRegion, OthersStay, page_at, word_at, page_set, word_set}
use Rattle.phys_memory.specs.Pages.{all_pages, ArePages}

zero_page : List ℕ
zero_page = replicate 512 0

-- one zero page more
pub page_more : (pages : List (List ℕ)) (page : List ℕ) → page ≡ replicate 512 0 → length pages < 512 → all_pages (pages ++ page ∷ []) ≡ all_pages pages
page_more pages page z h =
    let l : length (pages ++ page ∷ []) ≡ length pages + 1 = length-append pages (page ∷ []) in
    let e : suc (512 - (length pages + 1)) ≡ 512 - length pages = omega arith in
    append_assoc pages (page ∷ []) _
    ∙ ap (λ (n : ℕ). pages ++ (page ∷ replicate (512 - n) (replicate 512 0))) l
    ∙ ap (λ (p : List ℕ). pages ++ (p ∷ replicate (512 - (length pages + 1)) (replicate 512 0))) z
    ∙ ap (λ (n : ℕ). pages ++ replicate n (replicate 512 0)) e

-- a page that is written out, and one that isn't
pub page_in : (pages : List (List ℕ)) (page : ℕ) → page < length pages → page_at (all_pages pages) page ≡ get_or pages page []
page_in pages page h = get_or_append_left pages _ [] page h

pub page_out : (pages : List (List ℕ)) (page : ℕ) → length pages ≤ page → page < 512 → page_at (all_pages pages) page ≡ replicate 512 0
page_out pages page h k =
    get_or-append_right pages _ (length pages) page [] refl h ∙ get_or-replicate (512 - length pages) (page - length pages) (replicate 512 0) [] (omega arith)

pub word_out : (pages : List (List ℕ)) (page index : ℕ) → length pages ≤ page → page < 512 → index < 512 → 0 ≡ word_at (all_pages pages) page index
word_out pages page index h k i =
    sym (ap (λ (p : List ℕ). get_or p index 0) (page_out pages page h k) ∙ get_or-replicate 512 index 0 0 i)

-- a page is changed
pub page_set_all : (pages : List (List ℕ)) (page : ℕ) (words : List ℕ) → page < length pages → all_pages (set pages page words) ≡ page_set (all_pages pages) page words
page_set_all pages page words h =
    ap (λ (n : ℕ). set pages page words ++ replicate (512 - n) (replicate 512 0)) (length-set pages page words) ∙ sym (set-append_left pages _ page words h)

pub word_set_all : (pages : List (List ℕ)) (page index value : ℕ) → page < length pages → all_pages (set pages page (set (get_or pages page []) index value)) ≡ word_set (all_pages pages) page index value
word_set_all pages page index value h =
    page_set_all pages page _ h ∙ ap (λ (p : List ℕ). page_set (all_pages pages) page (set p index value)) (sym (page_in pages page h))

-- and it stays a region
pub region_set : (pages : List (List ℕ)) (page : ℕ) (words : List ℕ) → IsRegion pages → length words ≡ 512 → IsRegion (page_set pages page words)
region_set pages page words is long = record {
  pages_count = length-set pages page words ∙ is.pages_count;
  words_count = λ p h. elim (eqb_tells p page) [
    | inl e ↦ ap length (ap (λ (n : ℕ). get_or (set pages page words) n []) e.1 ∙ get_or-set_same pages page words [] (omega (arith, is.pages_count))) ∙ long
    | inr n ↦ ap length (get_or-set_other pages page p words [] n.1) ∙ is.words_count p h
  ];
}

-- none is written out
pub none_written : IsRegion (all_pages [])
none_written = record {
  pages_count = length-replicate {A = List ℕ} 512 (replicate 512 0);
  words_count = λ p h. ap length (get_or-replicate 512 p (replicate 512 0) [] h) ∙ length-replicate {A = ℕ} 512 0;
}

pub none_are : (capacity : ℕ) → capacity ≡ 512 → ArePages [] capacity
none_are capacity e = record { few = omega arith; room = omega arith; region = none_written }

-- a change of a word, and of a page
pub word_written : (pages : List (List ℕ)) (capacity page index value : ℕ) (words : List ℕ) → ArePages pages capacity → page < length pages → words ≡ get_or pages page []
    → (all_pages (set pages page (set words index value)) ≡ word_set (all_pages pages) page index value) × ArePages (set pages page (set words index value)) capacity
word_written pages capacity page index value words are h w =
    let same : all_pages (set pages page (set words index value)) ≡ word_set (all_pages pages) page index value =
    ap (λ (p : List ℕ). all_pages (set pages page (set p index value))) w ∙ word_set_all pages page index value h in
    let long : length (set (page_at (all_pages pages) page) index value) ≡ 512 =
    length-set (page_at (all_pages pages) page) index value ∙ are.region.words_count page (omega (arith, are.few)) in
    let P : List (List ℕ) → Type 0 = λ ps. IsRegion ps in (
      same,
      record {
        few = omega (arith, are.few, length-set pages page (set words index value));
        room = are.room;
        region = subst P (sym same) (region_set (all_pages pages) page _ are.region long);
      },
    )

pub page_written : (pages : List (List ℕ)) (capacity page : ℕ) (words : List ℕ) → ArePages pages capacity → page < length pages → length words ≡ 512 → ArePages (set pages page words) capacity
page_written pages capacity page words are h long =
    let P : List (List ℕ) → Type 0 = λ ps. IsRegion ps in
    record {
      few = omega (arith, are.few, length-set pages page words);
      room = are.room;
      region = subst P (sym (page_set_all pages page words h)) (region_set (all_pages pages) page words are.region long);
    }

-- one more is written out
pub more_are : (pages : List (List ℕ)) (capacity : ℕ) (page : List ℕ) → ArePages pages capacity → length pages < 512 → page ≡ replicate 512 0 → ArePages (pages ++ page ∷ []) capacity
more_are pages capacity page are h z =
    let P : List (List ℕ) → Type 0 = λ ps. IsRegion ps in
    record {
      few = omega (arith, length-append pages (page ∷ []));
      room = are.room;
      region = subst P (sym (page_more pages page z h)) are.region;
    }
