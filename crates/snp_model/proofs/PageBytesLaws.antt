-- The words of a page and its bytes are each made from the other.
use Rattle.std.proofs.Common.{◌≡◌, ℕ, zero, suc, ◌+◌, ◌*◌, ◌/◌, ◌^◌, ◌<◌, ◌≤◌, List, [], ◌∷◌, ◌++◌, length, get_or, set, take, drop, replicate, refl, sym, ap, ◌∙◌, arith, add-one, drop-drop, length-append, length-drop}
use Rattle.std.specs.Int.{w16, w64, byte_at, bytes_low_first, to_le_bytes, from_le_bytes}
use Rattle.std.proofs.lemmas.Slice.{take-put_mid}
use borrow.Rule.Slice.PartMut.{put_mid}
use Rattle.std.proofs.lemmas.List.{take_all, take_more, take_more_set, take-append-drop, length-take, get_or-drop}
use Rattle.std.proofs.lemmas.Nat.{le_bytes_8, from_le_bytes-to_le_bytes_8, mod_below}
use Rattle.snp_model.specs.Measurement.{page_bytes}
use Rattle.snp_model.specs.Metadata.{AreBytes, first_words, words_of_bytes}

-- each of these numbers is a word
abbrev pub AreWords : List ℕ → Type 0
AreWords words = (i : ℕ) → get_or words i 0 < 2 ^ 64

-- bytes stay bytes behind others, and before others
pub are_from : (n : ℕ) (bytes : List ℕ) → AreBytes bytes → AreBytes (drop n bytes)
are_from n bytes are i = rw (get_or-drop n bytes i 0) (are (n + i))

pub are_until : (n : ℕ) (bytes : List ℕ) → AreBytes bytes → AreBytes (take n bytes)
are_until zero bytes are i = omega arith
are_until (suc n) [] are i = omega arith
are_until (suc n) (b ∷ bytes) are zero = are 0
are_until (suc n) (b ∷ bytes) are (suc i) = are_until n bytes (λ k. are (suc k)) i

-- bytes one after another
pub are_both : (xs ys : List ℕ) → AreBytes xs → AreBytes ys → AreBytes (xs ++ ys)
are_both [] ys x y i = y i
are_both (a ∷ xs) ys x y zero = x 0
are_both (a ∷ xs) ys x y (suc i) = are_both xs ys (λ k. x (suc k)) y i

-- zeros, and the bytes of a number
pub are_zeros : (n : ℕ) → AreBytes (replicate n 0)
are_zeros zero i = omega arith
are_zeros (suc n) zero = omega arith
are_zeros (suc n) (suc i) = are_zeros n i

byte_at-small : (k n : ℕ) → byte_at k n < 256
byte_at-small zero n = omega arith
byte_at-small (suc k) n = mod_below (n / 256 ^ suc k) 256 (omega arith)

bytes_from : (i k n : ℕ) → AreBytes (bytes_low_first i k n)
bytes_from i zero n j = omega arith
bytes_from i (suc k) n zero = byte_at-small i n
bytes_from i (suc k) n (suc j) = bytes_from (suc i) k n j

pub are_word : (n : ℕ) → AreBytes (to_le_bytes w64 n)
are_word n = bytes_from 0 8 n

pub are_short : (n : ℕ) → AreBytes (to_le_bytes w16 n)
are_short n = bytes_from 0 2 n

-- a page has eight bytes a word
pub length-page_bytes : (words : List ℕ) → length (page_bytes words) ≡ 8 * length words
unfolding page_bytes
length-page_bytes [] = refl
length-page_bytes (w ∷ words) = omega (arith, length-page_bytes words)

-- the bytes of words one after another
pub page_bytes-append : (xs ys : List ℕ) → page_bytes (xs ++ ys) ≡ page_bytes xs ++ page_bytes ys
unfolding page_bytes
page_bytes-append [] ys = refl
page_bytes-append (x ∷ xs) ys = ap (λ bytes. to_le_bytes w64 x ++ bytes) (page_bytes-append xs ys)

-- the words of a page's bytes are the page's
first_words-page_bytes : (words : List ℕ) → AreWords words → first_words (length words) (page_bytes words) ≡ words
unfolding page_bytes first_words
first_words-page_bytes [] are = refl
first_words-page_bytes (w ∷ words) are = λ i.
    from_le_bytes-to_le_bytes_8 w (are 0) i ∷ first_words-page_bytes words (λ k. are (suc k)) i

pub words_of_bytes-page_bytes : (words : List ℕ) → AreWords words → words_of_bytes (page_bytes words) ≡ words
unfolding words_of_bytes
words_of_bytes-page_bytes words are =
    let n : length (page_bytes words) / 8 ≡ length words = omega (arith, length-page_bytes words) in
    ap (λ (k : ℕ). first_words k (page_bytes words)) n ∙ first_words-page_bytes words are

length-first_words : (n : ℕ) (bytes : List ℕ) → length (first_words n bytes) ≡ n
unfolding first_words
length-first_words zero bytes = refl
length-first_words (suc n) bytes = ap suc (length-first_words n (drop 8 bytes))

pub length-words_of_bytes : (n : ℕ) (bytes : List ℕ) → length bytes ≡ 8 * n → length (words_of_bytes bytes) ≡ n
unfolding words_of_bytes
length-words_of_bytes n bytes long = length-first_words (length bytes / 8) bytes ∙ omega arith

-- all are
pub first_words_all : (words bytes : List ℕ) (n : ℕ) → length bytes ≡ 8 * n → length words ≡ n → take n words ≡ first_words n bytes → words ≡ words_of_bytes bytes
unfolding words_of_bytes
first_words_all words bytes n long count is =
    let whole : length bytes / 8 ≡ n = omega arith in
    sym (take_all n words (omega arith)) ∙ is ∙ sym (ap (λ (k : ℕ). first_words k bytes) whole)

-- the bytes of the words of bytes are these bytes
page_bytes-first_words : (n : ℕ) (bytes : List ℕ) → length bytes ≡ 8 * n → AreBytes bytes → page_bytes (first_words n bytes) ≡ bytes
unfolding page_bytes first_words
page_bytes-first_words zero [] long are = refl
page_bytes-first_words zero (b ∷ bytes) long are = absurd (omega arith)
page_bytes-first_words (suc n) bytes long are =
    let front : length (take 8 bytes) ≡ 8 = length-take 8 bytes ∙ omega arith in
    let back : length (drop 8 bytes) ≡ 8 * n = length-drop 8 bytes ∙ omega arith in
    ap (λ (front : List ℕ). front ++ page_bytes (first_words n (drop 8 bytes))) (le_bytes_8 (take 8 bytes) _ front (are_until 8 bytes are) refl)
    ∙ ap (λ (back : List ℕ). take 8 bytes ++ back) (page_bytes-first_words n (drop 8 bytes) back (are_from 8 bytes are))
    ∙ take-append-drop 8 bytes

pub page_bytes-words_of_bytes : (n : ℕ) (bytes : List ℕ) → length bytes ≡ 8 * n → AreBytes bytes → page_bytes (words_of_bytes bytes) ≡ bytes
unfolding words_of_bytes
page_bytes-words_of_bytes n bytes long are =
    let count : length bytes / 8 ≡ n = omega arith in
    ap (λ (k : ℕ). page_bytes (first_words k bytes)) count ∙ page_bytes-first_words n bytes long are

-- ---- loops over the words of a page

page_bytes-one : (word : ℕ) → page_bytes (word ∷ []) ≡ to_le_bytes w64 word
unfolding page_bytes
page_bytes-one word = refl

first_words_more : (i : ℕ) (bytes : List ℕ) → first_words (i + 1) bytes ≡ first_words i bytes ++ from_le_bytes w64 (take 8 (drop (8 * i) bytes)) ∷ []
unfolding first_words
first_words_more zero bytes = refl
first_words_more (suc i) bytes =
    let past : 8 + 8 * i ≡ 8 * suc i = omega arith in
    ap (λ (n : ℕ). first_words n bytes) (add-one (suc i))
    ∙ ap (λ (rest : List ℕ). from_le_bytes w64 (take 8 bytes) ∷ rest) (ap (λ (n : ℕ). first_words n (drop 8 bytes)) (sym (add-one i)) ∙ first_words_more i (drop 8 bytes))
    ∙ ap (λ (rest : List ℕ). (from_le_bytes w64 (take 8 bytes) ∷ first_words i (drop 8 bytes)) ++ from_le_bytes w64 (take 8 rest) ∷ []) (drop-drop (8 * i) 8 bytes ∙ ap (λ (n : ℕ). drop n bytes) past)

-- the bytes of one word more are written
pub bytes_more : (words bytes new : List ℕ) (i k : ℕ) → k ≡ 8 → take (8 * i) bytes ≡ page_bytes (take i words) → new ≡ to_le_bytes w64 (get_or words i 0) → i < length words → 8 * i + 8 ≤ length bytes
    → take (8 * (i + 1)) (put_mid (8 * i) k bytes new) ≡ page_bytes (take (i + 1) words)
bytes_more words bytes new i k eight before is below room =
    let long : length new ≡ 8 = ap length is in
    let far : 8 * (i + 1) ≡ 8 * i + length new = omega arith in
    take-put_mid (8 * i) k bytes new (8 * (i + 1)) far (omega arith)
    ∙ (λ z. before z ++ is z)
    ∙ sym (ap page_bytes (take_more words i 0 below) ∙ page_bytes-append (take i words) (get_or words i 0 ∷ []) ∙ ap (λ (rest : List ℕ). page_bytes (take i words) ++ rest) (page_bytes-one (get_or words i 0)))

pub bytes_room : (bytes new : List ℕ) (i k n : ℕ) → k ≡ 8 → length new ≡ 8 → 8 * i + 8 ≤ n → length bytes ≡ n → length (put_mid (8 * i) k bytes new) ≡ n
bytes_room bytes new i k n eight long room is =
    simp (length-append, length-take, length-drop, eight, long, is) (omega arith)

-- one word more is written
pub words_more : (words bytes : List ℕ) (i k value : ℕ) → k ≡ 8 → take i words ≡ first_words i bytes → value ≡ from_le_bytes w64 (take k (drop (8 * i) bytes)) → i < length words
    → take (i + 1) (set words i value) ≡ first_words (i + 1) bytes
words_more words bytes i k value eight before is below =
    take_more_set words i value below ∙ (λ z. before z ++ (is ∙ ap (λ (n : ℕ). from_le_bytes w64 (take n (drop (8 * i) bytes))) eight) z ∷ []) ∙ sym (first_words_more i bytes)
