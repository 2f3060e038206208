-- What a measure text says: which lines it may have, the pages that they make, and the first thing that is wrong. The text is this project's own.
use Rattle.std.specs.Prelude.{◌≡◌, ℕ, ◌+◌, ◌^◌, ◌≤◌, ◌==◌, Bool, true, false, ◌||◌, if◌then◌else◌, List, [], ◌∷◌, ◌++◌, length, replicate, slice_set, Option, Some, None, Result, Ok, Err, codes}
use Rattle.snp_model.specs.declared.reading.Reason.{Reason}
use Rattle.snp_model.specs.declared.reading.Reason.TheVariants.{Cut, Form, Range, End, After}
use Rattle.snp_model.specs.EventText.{hex_bytes}
use Rattle.snp_model.specs.ItemLines.{flag_word}
use Rattle.snp_model.specs.Lines.{◌>>=◌, ◌>>◌, parts_at, words_of, word, is_plain, is_row, fixed, number, below}
use Rattle.snp_model.specs.Measurement.{LaunchedPage, digest_after}
use Rattle.snp_model.specs.Reading.{is_passed_over, most_bytes}

-- the words of a page before its `word` lines
abbrev pub no_words : List ℕ
no_words = replicate 512 0

-- `snp-measure 1`
unfoldable pub title_row : List (List ℕ) → Result (Unit {0}) Reason
title_row ws = if is_row ws (codes "snp-measure") 2 then fixed (word ws 1) (codes "1") else Err Form

-- the type of a page that is launched
abbrev pub is_launched : ℕ → Bool
is_launched n = (n == 1) || ((n == 3) || (n == 4))

unfoldable pub launch_type : List ℕ → Result ℕ Reason
launch_type w = do
  n ← number w
  if is_launched n then Ok n else Err Range

-- `page T P I X Y Z`
unfoldable pub launch_row : List (List ℕ) → Result LaunchedPage Reason
launch_row ws = do
  page_type ← launch_type (word ws 1)
  gpn ← below (2 ^ 36) (word ws 2)
  imi ← flag_word (word ws 3)
  first ← below 16 (word ws 4)
  second ← below 16 (word ws 5)
  third ← below 16 (word ws 6)
  Ok (record { page_type = page_type; imi = imi; perms = first ∷ second ∷ third ∷ []; gpn = gpn; words = no_words })

-- a page with one more word; a ZERO page stays as it is
abbrev pub with_word : LaunchedPage → ℕ → ℕ → LaunchedPage
with_word page index value = if page.page_type == 3 then page else record page { words = slice_set page.words index value }

-- `word I V`
unfoldable pub content_row : LaunchedPage → List (List ℕ) → Result LaunchedPage Reason
content_row page ws = do
  index ← below 512 (word ws 1)
  value ← number (word ws 2)
  Ok (with_word page index value)

-- what is kept of the pages that are read, before the first and after each further one: their list, or their digest
pub record Keeper (K : Type 0) : Type 0 where
  pub none : K
  pub more : K → LaunchedPage → K

abbrev pub listing : Keeper (List LaunchedPage)
listing = record { none = []; more = λ pages page. pages ++ page ∷ [] }

abbrev pub hashing : Keeper (List ℕ)
hashing = record { none = replicate 48 0; more = digest_after }

-- what is made so far: nothing before the first line that isn't passed over, which says the version; then what is kept of all
-- pages but the last, and the last one with the words that it has so far; and what is kept of all pages behind the line `end`
pub data Measured (K : Type 0) : Type 0 where
  untitled : Measured K
  paged : K → Option LaunchedPage → Measured K
  ended : K → Measured K

-- what is kept of all pages
abbrev pub with_last : {K : Type 0} → Keeper K → K → Option LaunchedPage → K
with_last keeper kept None = kept
with_last keeper kept (Some page) = keeper.more kept page

-- what the words of a `page` line make: the last page is whole
abbrev pub add_launch : {K : Type 0} → Keeper K → K → Option LaunchedPage → List (List ℕ) → Result (Measured K) Reason
add_launch keeper kept last ws = do
  page ← launch_row ws
  Ok (paged (with_last keeper kept last) (Some page))

-- what those of a `word` line make, which needs a page
abbrev pub add_content : {K : Type 0} → K → Option LaunchedPage → List (List ℕ) → Result (Measured K) Reason
add_content kept None ws = Err Form
add_content kept (Some page) ws = do
  next ← content_row page ws
  Ok (paged kept (Some next))

-- which form a line has by its first word and its count of words
unfoldable pub add_measured : {K : Type 0} → Keeper K → K → Option LaunchedPage → List (List ℕ) → Result (Measured K) Reason
add_measured keeper kept last ws =
    if is_row ws (codes "page") 7 then add_launch keeper kept last ws
    else if is_row ws (codes "word") 3 then add_content kept last ws
    else if is_row ws (codes "end") 1 then Ok (ended (with_last keeper kept last))
    else Err Form

-- what the words of a line make of what is made so far
abbrev pub measure_words : {K : Type 0} → Keeper K → Measured K → List (List ℕ) → Result (Measured K) Reason
measure_words keeper untitled ws = do
  title_row ws
  Ok (paged keeper.none None)
measure_words keeper (paged kept last) ws = add_measured keeper kept last ws
measure_words keeper (ended kept) ws = Err After

-- whether the line `end` has come
abbrev pub is_ended : {K : Type 0} → Measured K → Bool
is_ended untitled = false
is_ended (paged kept last) = false
is_ended (ended kept) = true

-- what a line makes of what is made so far, or why it doesn't fit
unfoldable pub measure_line : {K : Type 0} → Keeper K → Measured K → List ℕ → Result (Measured K) Reason
measure_line keeper made line =
    if is_ended made then Err After
    else if is_passed_over line then Ok made
    else if is_plain line then measure_words keeper made (words_of line)
    else Err Form

-- a result, or a reason at line n
abbrev pub at_number : {A : Type 0} → ℕ → Result A Reason → Result A (ℕ × Reason)
at_number n (Ok x) = Ok x
at_number n (Err reason) = Err (n, reason)

-- the end of a text, whose line n would be what no line feed ends
unfoldable pub measure_end : {K : Type 0} → ℕ → Measured K → List ℕ → Result K (ℕ × Reason)
measure_end n made (byte ∷ bytes) = Err (n, Cut)
measure_end n (ended kept) [] = Ok kept
measure_end n untitled [] = Err (n, End)
measure_end n (paged kept last) [] = Err (n, End)

-- what parts of a text say from line n on, the last part being what no line feed ends; lines are counted from 1
unfoldable pub measure_parts : {K : Type 0} → Keeper K → ℕ → Measured K → List (List ℕ) → Result K (ℕ × Reason)
measure_parts keeper n made [] = measure_end n made []
measure_parts keeper n made (rest ∷ []) = measure_end n made rest
measure_parts keeper n made (line ∷ part ∷ parts) = do
  next ← at_number n (measure_line keeper made line)
  measure_parts keeper (n + 1) next (part ∷ parts)

-- what is kept of the pages of a text, or the first line that doesn't fit, with the first reason that applies
unfoldable pub kept_of : {K : Type 0} → Keeper K → List ℕ → Result K (ℕ × Reason)
kept_of keeper text = measure_parts keeper 1 untitled (parts_at 10 text)

-- a text that isn't too long says these pages
pub record SaysPages (text : List ℕ) (pages : List LaunchedPage) : Type 0 where
  pub short : length text ≤ most_bytes
  pub reads : kept_of listing text ≡ Ok pages

-- line n, counted from 1, is the first that is wrong, with the first reason that applies
pub record RefusesPages (text : List ℕ) (n : ℕ) (reason : Reason) : Type 0 where
  pub short : length text ≤ most_bytes
  pub refuses : kept_of listing text ≡ Err (n, reason)

-- the line that tells a digest
unfoldable pub digest_line : List ℕ → List ℕ
digest_line digest = codes "digest " ++ hex_bytes digest ++ codes "\n"
