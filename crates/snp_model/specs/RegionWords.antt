-- The words of a region of memory: 512 pages of 512 words of 64 bits (this project's own).
use Rattle.std.specs.Prelude.{◌≡◌, ◌≢◌, ℕ, ◌<◌, List, [], length, slice_index, slice_index_or, slice_set}

-- the words of a page
abbrev pub page_at : List (List ℕ) → ℕ → List ℕ
page_at pages page = slice_index_or pages page []

-- a word of a page
abbrev pub word_at : List (List ℕ) → ℕ → ℕ → ℕ
word_at pages page index = slice_index (page_at pages page) index

-- the pages with this one in place of one
abbrev pub page_set : List (List ℕ) → ℕ → List ℕ → List (List ℕ)
page_set pages page words = slice_set pages page words

-- the pages with this word in place of one
abbrev pub word_set : List (List ℕ) → ℕ → ℕ → ℕ → List (List ℕ)
word_set pages page index value = page_set pages page (slice_set (page_at pages page) index value)

-- there are 512 pages, of 512 words each
pub record IsRegion (pages : List (List ℕ)) : Type 0 where
  pub pages_count : length pages ≡ 512
  pub words_count : (page : ℕ) → page < 512 → length (page_at pages page) ≡ 512

-- every word but one stays
abbrev pub OthersStay : List (List ℕ) → List (List ℕ) → ℕ → ℕ → Type 0
OthersStay old new page index =
    (p i : ℕ) → (p ≡ page → i ≢ index) → word_at new p i ≡ word_at old p i
