-- The key schedule, a word at a time.
use Rattle.std.proofs.Common.{◌≡◌, ℕ, ◌+◌, ◌-◌, ◌*◌, ◌/◌, ◌%◌, ◌<◌, ◌≤◌, List, [], ◌∷◌, ◌++◌, length, take, set, slice_index, bit_xor, refl, sym, ap, ◌∙◌, arith, add-one}
use Rattle.std.proofs.lemmas.Bool.{lt-ltb, le-ltb}
use Rattle.std.proofs.lemmas.List.{get_or-map, get_or-take, length-take-le, map-append, take_more_set}
use Rattle.std.specs.Int.{w32, to_be_bytes}
use Rattle.snp_model.specs.AesField.{s_box}
use Rattle.snp_model.specs.Aes.{word, word_of, add_words, rot_word, sub_word, rcon, key_mask, next_word, first_words}
use Rattle.aes_block.specs.Columns.{words_of}
use Rattle.aes_block.proofs.Words.{sum_is}

mask_at_0 : (i : ℕ) (w : List ℕ) → i % 8 ≡ 0 → key_mask i w ≡ add_words (sub_word (rot_word w)) (rcon (i / 8))
unfolding key_mask
mask_at_0 i w e = rw e refl

mask_at_4 : (i : ℕ) (w : List ℕ) → i % 8 ≡ 4 → key_mask i w ≡ sub_word w
unfolding key_mask
mask_at_4 i w e = rw e refl

-- the mask of a word whose place is a multiple of 8
pub key_mask_at_0 : (i previous : ℕ) (f : List ℕ) (p q : ℕ) → i % 8 ≡ 0 → f ≡ to_be_bytes w32 previous
    → to_be_bytes w32 p ≡ s_box (slice_index f 1) ∷ s_box (slice_index f 2) ∷ s_box (slice_index f 3) ∷ s_box (slice_index f 0) ∷ []
    → to_be_bytes w32 q ≡ rcon (i / 8) → to_be_bytes w32 (bit_xor p q) ≡ key_mask i (to_be_bytes w32 previous)
key_mask_at_0 i previous f p q e ef ep eq =
    sum_is p q _ _ ep eq ∙ (λ k. add_words (sub_word (rot_word (ef k))) (rcon (i / 8))) ∙ sym (mask_at_0 i (to_be_bytes w32 previous) e)

-- the mask of a word whose place is 4 above a multiple of 8
pub key_mask_at_4 : (i previous : ℕ) (f : List ℕ) (p : ℕ) → i % 8 ≡ 4 → f ≡ to_be_bytes w32 previous
    → to_be_bytes w32 p ≡ s_box (slice_index f 0) ∷ s_box (slice_index f 1) ∷ s_box (slice_index f 2) ∷ s_box (slice_index f 3) ∷ []
    → to_be_bytes w32 p ≡ key_mask i (to_be_bytes w32 previous)
key_mask_at_4 i previous f p e ef ep = ep ∙ ap sub_word ef ∙ sym (mask_at_4 i (to_be_bytes w32 previous) e)

first_words_next : (key : List ℕ) (n : ℕ) → first_words key (n + 1) ≡ first_words key n ++ next_word key (first_words key n) n ∷ []
unfolding first_words
first_words_next key n = rw (add-one n) refl

-- the schedule as far as word i
abbrev pub IsSchedule : List ℕ → List ℕ → ℕ → Type 0
IsSchedule key xs i = (length xs ≡ 60) × (words_of (take i xs) ≡ first_words key i)

-- one more word
word_written : (key xs : List ℕ) (i v : ℕ) → i < length xs → words_of (take i xs) ≡ first_words key i
    → to_be_bytes w32 v ≡ next_word key (first_words key i) i → words_of (take (i + 1) (set xs i v)) ≡ first_words key (i + 1)
word_written key xs i v h is ev =
    ap words_of (take_more_set xs i v h) ∙ map-append (to_be_bytes w32) (take i xs) (v ∷ [])
    ∙ (λ k. is k ++ ev k ∷ []) ∙ sym (first_words_next key i)

-- one more word of the key
pub key_word_written : (key xs : List ℕ) (i v : ℕ) → i < 8 → i < length xs → words_of (take i xs) ≡ first_words key i
    → to_be_bytes w32 v ≡ slice_index key (4 * i) ∷ slice_index key (4 * i + 1) ∷ slice_index key (4 * i + 2) ∷ slice_index key (4 * i + 3) ∷ []
    → words_of (take (i + 1) (set xs i v)) ≡ first_words key (i + 1)
key_word_written key xs i v b h is ev =
    let w = first_words key i in
    let e : 4 * i ≡ 4 * i + 0 = omega arith in
    let next : next_word key w i ≡ word_of (λ k. slice_index key (4 * i + k)) = rw (lt-ltb i 8 b) refl in
    word_written key xs i v h is
    (ev ∙ (λ k. slice_index key (e k) ∷ slice_index key (4 * i + 1) ∷ slice_index key (4 * i + 2) ∷ slice_index key (4 * i + 3) ∷ []) ∙ sym next)

-- a word that is written already
earlier : (key xs : List ℕ) (i j : ℕ) → j < i → i ≤ length xs → words_of (take i xs) ≡ first_words key i
    → to_be_bytes w32 (slice_index xs j) ≡ word (first_words key i) j
earlier key xs i j b h is =
    let l : length (take i xs) ≡ i = length-take-le i xs h in
    ap (to_be_bytes w32) (sym (get_or-take i xs j 0 b)) ∙ sym (get_or-map (to_be_bytes w32) (take i xs) j 0 [] (omega arith))
    ∙ ap (λ (w : List (List ℕ)). word w j) is

-- one more word, from the two before it
pub next_word_written : (key xs : List ℕ) (i m : ℕ) → 8 ≤ i → i < length xs → words_of (take i xs) ≡ first_words key i
    → to_be_bytes w32 m ≡ key_mask i (to_be_bytes w32 (slice_index xs (i - 1)))
    → words_of (take (i + 1) (set xs i (bit_xor (slice_index xs (i - 8)) m))) ≡ first_words key (i + 1)
next_word_written key xs i m b h is em =
    let w = first_words key i in
    let next : next_word key w i ≡ add_words (word w (i - 8)) (key_mask i (word w (i - 1))) = rw (le-ltb i 8 b) refl in
    word_written key xs i _ h is
    (sum_is (slice_index xs (i - 8)) m _ _ (earlier key xs i (i - 8) (omega arith) (omega arith) is)
    (em ∙ ap (key_mask i) (earlier key xs i (i - 1) (omega arith) (omega arith) is)) ∙ sym next)
