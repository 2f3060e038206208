-- The rounds on columns are the rounds on the state.
use Rattle.std.proofs.Common.{◌≡◌, ℕ, suc, ◌+◌, ◌*◌, ◌<◌, List, [], ◌∷◌, length, slice_index, slice_index_or, bit_xor, refl, sym, ap, ◌∙◌, arith}
use Rattle.std.proofs.lemmas.List.{get_or-map}
use Rattle.std.specs.Int.{w32, to_be_bytes}
use Rattle.snp_model.specs.AesField.{s_box}
use Rattle.snp_model.specs.Aes.{state_of, word, add_words, mixed_column, sub_bytes, shift_rows, mix_columns, add_round_key, key_expansion, rounds, cipher}
use Rattle.aes_block.specs.Columns.{state_of_columns, words_of}
use Rattle.aes_block.proofs.Words.{sum_is}

-- the state of four columns
abbrev from_columns : List ℕ → List ℕ → List ℕ → List ℕ → List ℕ
from_columns a b c d = state_of (λ r k. slice_index (slice_index_or (a ∷ b ∷ c ∷ d ∷ []) k []) r)

columns_are : (x y z t : ℕ) (a b c d : List ℕ) → to_be_bytes w32 x ≡ a → to_be_bytes w32 y ≡ b → to_be_bytes w32 z ≡ c → to_be_bytes w32 t ≡ d
    → state_of_columns (x ∷ y ∷ z ∷ t ∷ []) ≡ from_columns a b c d
unfolding state_of_columns
columns_are x y z t a b c d ex ey ez et = λ i. from_columns (ex i) (ey i) (ez i) (et i)

word_at : (xs : List ℕ) (i j : ℕ) → i < length xs → i ≡ j → to_be_bytes w32 (slice_index xs i) ≡ word (words_of xs) j
word_at xs i j h e = sym (get_or-map (to_be_bytes w32) xs i 0 [] h) ∙ ap (λ (k : ℕ). word (words_of xs) k) e

-- the four bytes of a block from byte n on
abbrev four : List ℕ → ℕ → List ℕ
four block n = slice_index block n ∷ slice_index block (n + 1) ∷ slice_index block (n + 2) ∷ slice_index block (n + 3) ∷ []

pub first_state_is : (block xs : List ℕ) (p q r s : ℕ) → length xs ≡ 60
    → to_be_bytes w32 p ≡ four block 0 → to_be_bytes w32 q ≡ four block 4 → to_be_bytes w32 r ≡ four block 8 → to_be_bytes w32 s ≡ four block 12
    → state_of_columns (bit_xor p (slice_index xs 0) ∷ bit_xor q (slice_index xs 1) ∷ bit_xor r (slice_index xs 2) ∷ bit_xor s (slice_index xs 3) ∷ [])
    ≡ add_round_key block (words_of xs) 0
unfolding add_round_key
first_state_is block xs p q r s l ep eq er es = columns_are _ _ _ _ _ _ _ _
    (sum_is p (slice_index xs 0) _ _ ep (word_at xs 0 0 (omega arith) refl))
    (sum_is q (slice_index xs 1) _ _ eq (word_at xs 1 1 (omega arith) refl))
    (sum_is r (slice_index xs 2) _ _ er (word_at xs 2 2 (omega arith) refl))
    (sum_is s (slice_index xs 3) _ _ es (word_at xs 3 3 (omega arith) refl))

-- what MixColumns makes of the column that ShiftRows brings together from four columns
abbrev mixed_from : List ℕ → List ℕ → List ℕ → List ℕ → List ℕ
mixed_from f g h k = mixed_column (s_box (slice_index f 0)) (s_box (slice_index g 1)) (s_box (slice_index h 2)) (s_box (slice_index k 3))

abbrev mixed_state : List ℕ → List ℕ → List ℕ → List ℕ → (ℕ → List ℕ) → List ℕ
mixed_state f g h k key = from_columns (add_words (mixed_from f g h k) (key 0)) (add_words (mixed_from g h k f) (key 1))
    (add_words (mixed_from h k f g) (key 2)) (add_words (mixed_from k f g h) (key 3))

pub middle_round_is : (state xs : List ℕ) (n : ℕ) (f g h k : List ℕ) (x y z t : ℕ) → length xs ≡ 60 → n < 15
    → f ≡ to_be_bytes w32 (slice_index state 0) → g ≡ to_be_bytes w32 (slice_index state 1)
    → h ≡ to_be_bytes w32 (slice_index state 2) → k ≡ to_be_bytes w32 (slice_index state 3)
    → to_be_bytes w32 x ≡ add_words (mixed_from f g h k) (to_be_bytes w32 (slice_index xs (4 * n)))
    → to_be_bytes w32 y ≡ add_words (mixed_from g h k f) (to_be_bytes w32 (slice_index xs (4 * n + 1)))
    → to_be_bytes w32 z ≡ add_words (mixed_from h k f g) (to_be_bytes w32 (slice_index xs (4 * n + 2)))
    → to_be_bytes w32 t ≡ add_words (mixed_from k f g h) (to_be_bytes w32 (slice_index xs (4 * n + 3)))
    → state_of_columns (x ∷ y ∷ z ∷ t ∷ []) ≡ add_round_key (mix_columns (shift_rows (sub_bytes (state_of_columns state)))) (words_of xs) n
unfolding add_round_key mix_columns shift_rows sub_bytes state_of_columns
middle_round_is state xs n f g h k x y z t l b ef eg eh ek ex ey ez et =
    let w : ℕ → List ℕ = λ c. word (words_of xs) (4 * n + c) in
    columns_are x y z t _ _ _ _
    (ex ∙ ap (add_words (mixed_from f g h k)) (word_at xs (4 * n) (4 * n + 0) (omega arith) (omega arith)))
    (ey ∙ ap (add_words (mixed_from g h k f)) (word_at xs (4 * n + 1) (4 * n + 1) (omega arith) refl))
    (ez ∙ ap (add_words (mixed_from h k f g)) (word_at xs (4 * n + 2) (4 * n + 2) (omega arith) refl))
    (et ∙ ap (add_words (mixed_from k f g h)) (word_at xs (4 * n + 3) (4 * n + 3) (omega arith) refl))
    ∙ (λ i. mixed_state (ef i) (eg i) (eh i) (ek i) w)

-- the column that ShiftRows brings together from four columns, after SubBytes
abbrev moved_from : List ℕ → List ℕ → List ℕ → List ℕ → List ℕ
moved_from f g h k = s_box (slice_index f 0) ∷ s_box (slice_index g 1) ∷ s_box (slice_index h 2) ∷ s_box (slice_index k 3) ∷ []

abbrev moved_state : List ℕ → List ℕ → List ℕ → List ℕ → (ℕ → List ℕ) → List ℕ
moved_state f g h k key = from_columns (add_words (moved_from f g h k) (key 0)) (add_words (moved_from g h k f) (key 1))
    (add_words (moved_from h k f g) (key 2)) (add_words (moved_from k f g h) (key 3))

pub last_round_is : (state xs : List ℕ) (f g h k : List ℕ) (x y z t : ℕ) → length xs ≡ 60
    → f ≡ to_be_bytes w32 (slice_index state 0) → g ≡ to_be_bytes w32 (slice_index state 1)
    → h ≡ to_be_bytes w32 (slice_index state 2) → k ≡ to_be_bytes w32 (slice_index state 3)
    → to_be_bytes w32 x ≡ moved_from f g h k → to_be_bytes w32 y ≡ moved_from g h k f
    → to_be_bytes w32 z ≡ moved_from h k f g → to_be_bytes w32 t ≡ moved_from k f g h
    → state_of_columns (bit_xor x (slice_index xs 56) ∷ bit_xor y (slice_index xs 57) ∷ bit_xor z (slice_index xs 58) ∷ bit_xor t (slice_index xs 59) ∷ [])
    ≡ add_round_key (shift_rows (sub_bytes (state_of_columns state))) (words_of xs) 14
unfolding add_round_key shift_rows sub_bytes state_of_columns
last_round_is state xs f g h k x y z t l ef eg eh ek ex ey ez et =
    let w : ℕ → List ℕ = λ c. word (words_of xs) (56 + c) in
    columns_are _ _ _ _ _ _ _ _
    (sum_is x (slice_index xs 56) _ _ ex (word_at xs 56 56 (omega arith) refl))
    (sum_is y (slice_index xs 57) _ _ ey (word_at xs 57 57 (omega arith) refl))
    (sum_is z (slice_index xs 58) _ _ ez (word_at xs 58 58 (omega arith) refl))
    (sum_is t (slice_index xs 59) _ _ et (word_at xs 59 59 (omega arith) refl))
    ∙ (λ i. moved_state (ef i) (eg i) (eh i) (ek i) w)

pub block_is : (state f g h k : List ℕ)
    → f ≡ to_be_bytes w32 (slice_index state 0) → g ≡ to_be_bytes w32 (slice_index state 1)
    → h ≡ to_be_bytes w32 (slice_index state 2) → k ≡ to_be_bytes w32 (slice_index state 3)
    → from_columns f g h k ≡ state_of_columns state
unfolding state_of_columns
block_is state f g h k ef eg eh ek = λ i. from_columns (ef i) (eg i) (eh i) (ek i)

-- one more round, from the state before it
pub one_more_round : (w : List (List ℕ)) (block : List ℕ) (n : ℕ) (state next : List ℕ) → state ≡ rounds w block n
    → next ≡ add_round_key (mix_columns (shift_rows (sub_bytes state))) w (suc n) → next ≡ rounds w block (suc n)
unfolding rounds
one_more_round w block n state next is en =
    en ∙ ap (λ (s : List ℕ). add_round_key (mix_columns (shift_rows (sub_bytes s))) w (suc n)) is

pub no_round : (w : List (List ℕ)) (block : List ℕ) → rounds w block 0 ≡ add_round_key block w 0
unfolding rounds
no_round w block = refl

-- the 14 rounds under the key schedule are the cipher
pub cipher_is : (w : List (List ℕ)) (key block : List ℕ) → w ≡ key_expansion key
    → add_round_key (shift_rows (sub_bytes (rounds w block 13))) w 14 ≡ cipher key block
unfolding cipher
cipher_is w key block is = ap (λ (v : List (List ℕ)). add_round_key (shift_rows (sub_bytes (rounds v block 13))) v 14) is
