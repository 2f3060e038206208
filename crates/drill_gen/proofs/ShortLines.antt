-- Lines and their texts, by their lengths: a line of at most 12 words of at most 64 bytes has at most 780 bytes, and so many lines make
-- no longer text than so many times 781 bytes.
use Rattle.std.proofs.Common.{◌≡◌, ℕ, suc, ◌+◌, ◌*◌, ◌^◌, ◌<◌, ◌≤◌, List, [], ◌∷◌, ◌++◌, length, arith, length-append}
use Rattle.std.proofs.lemmas.Fmt.{length-decimal-le}
use Rattle.std.specs.List.{AllByRecursion}
use Rattle.std.specs.Prelude.{decimal}
use Rattle.snp_model.specs.ScenarioText.{text_of}
use Rattle.snp_model.specs.Spelling.{behind, joined}

-- a word of at most 64 bytes
abbrev pub IsShortWord : List ℕ → Type 0
IsShortWord word = length word ≤ 64

-- a line of at most 12 such words, each with a space
abbrev pub IsShortLine : List ℕ → Type 0
IsShortLine line = length line ≤ 780

-- lines whose text is no longer than that of so many such lines, each with its line feed
abbrev pub AreShort : List (List ℕ) → ℕ → Type 0
AreShort lines count = length (text_of lines) ≤ 781 * count

-- a number of 64 bits has at most 20 digits
pub number_short : (n : ℕ) → n < 2 ^ 64 → IsShortWord (decimal n)
number_short n below =
    let most = length-decimal-le 20 n (omega arith) (omega arith) below in
    omega arith

-- a number of 32 bits too
pub small_short : (n : ℕ) → n < 2 ^ 32 → IsShortWord (decimal n)
small_short n below = number_short n (omega arith)

-- so many words of a line, each behind a space
behind_short : (words : List (List ℕ)) → AllByRecursion IsShortWord words → length (behind words) ≤ 65 * length words
behind_short [] are = omega arith
behind_short (word ∷ words) are =
    let first = are.0 in
    let rest = behind_short words are.1 in
    let both = length-append word (behind words) in
    omega arith

-- the line of so many words
joined_short : (words : List (List ℕ)) → AllByRecursion IsShortWord words → length (joined words) ≤ 65 * length words
joined_short [] are = omega arith
joined_short (word ∷ words) are =
    let first = are.0 in
    let rest = behind_short words are.1 in
    let both = length-append word (behind words) in
    omega arith

-- short words make a short line
pub line_short : (words : List (List ℕ)) → AllByRecursion IsShortWord words → length words ≤ 12 → IsShortLine (joined words)
line_short words are few =
    let whole = joined_short words are in
    omega arith

-- no lines
pub none_short : AreShort [] 0
unfolding text_of
none_short = omega arith

-- a line before others
pub more_short : (line : List ℕ) (lines : List (List ℕ)) (count : ℕ) → IsShortLine line → AreShort lines count → AreShort (line ∷ lines) (suc count)
unfolding text_of
more_short line lines count first rest =
    let both = length-append line (10 ∷ text_of lines) in
    omega arith

-- texts behind each other are as long as both
texts_length : (front back : List (List ℕ)) → length (text_of (front ++ back)) ≡ length (text_of front) + length (text_of back)
unfolding text_of
texts_length [] back = omega arith
texts_length (line ∷ front) back =
    let rest = texts_length front back in
    let first = length-append line (10 ∷ text_of front) in
    let whole = length-append line (10 ∷ text_of (front ++ back)) in
    omega arith

-- lines behind others
pub both_short : (front back : List (List ℕ)) (m n : ℕ) → AreShort front m → AreShort back n → AreShort (front ++ back) (m + n)
both_short front back m n first rest =
    let whole = texts_length front back in
    omega arith
