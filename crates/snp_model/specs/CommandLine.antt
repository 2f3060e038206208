-- The words after the program's name (this project's own).
use Rattle.std.specs.Prelude.{ℕ, ◌==◌, Bool, ◌&&◌, ◌||◌, if◌then◌else◌, List, [], length, Option, None, is_some, slice_index_or, codes, bytes_eq}
use Rattle.snp_model.specs.Lines.{decimal_of}

-- whether they are one word, and it is this one
abbrev pub is_alone : List ℕ → List (List ℕ) → Bool
is_alone name words = (length words == 1) && bytes_eq (slice_index_or words 0 []) name

-- whether they are `replay` alone
abbrev pub is_replay : List (List ℕ) → Bool
is_replay words = is_alone (codes "replay") words

-- whether they are `measure` alone
abbrev pub is_measure : List (List ℕ) → Bool
is_measure words = is_alone (codes "measure") words

-- the number that follows this name, where they are the two words: in base 10 without leading zeros, and below 2^64
abbrev pub number_behind : List ℕ → List (List ℕ) → Option ℕ
number_behind name words =
    if (length words == 2) && bytes_eq (slice_index_or words 0 []) name then decimal_of (slice_index_or words 1 []) else None

-- whose scenario they ask for, `gen N`
abbrev pub gen_number : List (List ℕ) → Option ℕ
gen_number words = number_behind (codes "gen") words

-- whose drill they ask for, `drill N`
abbrev pub drill_number : List (List ℕ) → Option ℕ
drill_number words = number_behind (codes "drill") words

-- whether they are those of a command that needs no threads
abbrev pub are_words : List (List ℕ) → Bool
are_words words = is_replay words || is_measure words || is_some (gen_number words) || is_some (drill_number words)
