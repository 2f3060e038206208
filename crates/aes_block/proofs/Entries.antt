-- The tables of the code, entry by entry.
use Rattle.std.proofs.Common.{◌≡◌, ℕ, zero, suc, ◌+◌, ◌<◌, List, [], ◌∷◌, map, length, slice_index, get_or, bit_xor, refl, sym, ap, ◌∙◌, arith}
use Rattle.std.proofs.lemmas.List.{get_or-map}
use Rattle.std.specs.Int.{w32, to_be_bytes}
use Rattle.snp_model.specs.AesField.{◌•◌, times_low_bits, times_squares, inverse, s_box}
use Rattle.snp_model.specs.Aes.{add_words, mixed_column}
use Rattle.aes_block.proofs.Words.{sum_is}
use Rattle.aes_block.specs.declared.tables.TheConstants.{S_BOX, FIRST_ROW, SECOND_ROW, THIRD_ROW, FOURTH_ROW}

-- f at n numbers, from `start` on
unfoldable pub values : {A : Type 0} → (ℕ → A) → ℕ → ℕ → List A
values f start zero = []
values f start (suc n) = f start ∷ values f (start + 1) n

pub value_at : {A : Type 0} (f : ℕ → A) (start n k : ℕ) (d : A) → k < n → get_or (values f start n) k d ≡ f (start + k)
unfolding values
value_at f start zero k d h = absurd (omega arith)
value_at f start (suc n) zero d h = ap f (omega arith)
value_at f start (suc n) (suc k) d h = value_at f (start + 1) n k d (omega arith) ∙ ap f (omega arith)

-- an entry of a table of all bytes that lists f
entry : (f : ℕ → ℕ) (table : List ℕ) (x : ℕ) → table ≡ values f 0 256 → x < 256 → slice_index table x ≡ f x
entry f table x is h = ap (λ (t : List ℕ). slice_index t x) is ∙ value_at f 0 256 x 0 h ∙ ap f (omega arith)

s_box_table : S_BOX ≡ values s_box 0 256
unfolding values ◌•◌ times_low_bits times_squares inverse s_box
s_box_table = refl

-- the table is the S-box
pub s_box_at : (x : ℕ) → x < 256 → slice_index S_BOX x ≡ s_box x
s_box_at x h = entry s_box S_BOX x s_box_table h

-- what a byte of row 0, 1, 2 or 3 adds to its column
abbrev first_part : ℕ → List ℕ
first_part b = 2 • b ∷ b ∷ b ∷ 3 • b ∷ []

abbrev second_part : ℕ → List ℕ
second_part b = 3 • b ∷ 2 • b ∷ b ∷ b ∷ []

abbrev third_part : ℕ → List ℕ
third_part b = b ∷ 3 • b ∷ 2 • b ∷ b ∷ []

abbrev fourth_part : ℕ → List ℕ
fourth_part b = b ∷ b ∷ 3 • b ∷ 2 • b ∷ []

first_table : map (to_be_bytes w32) FIRST_ROW ≡ values (λ x. first_part (s_box x)) 0 256
unfolding values ◌•◌ times_low_bits times_squares inverse s_box
first_table = refl

second_table : map (to_be_bytes w32) SECOND_ROW ≡ values (λ x. second_part (s_box x)) 0 256
unfolding values ◌•◌ times_low_bits times_squares inverse s_box
second_table = refl

third_table : map (to_be_bytes w32) THIRD_ROW ≡ values (λ x. third_part (s_box x)) 0 256
unfolding values ◌•◌ times_low_bits times_squares inverse s_box
third_table = refl

fourth_table : map (to_be_bytes w32) FOURTH_ROW ≡ values (λ x. fourth_part (s_box x)) 0 256
unfolding values ◌•◌ times_low_bits times_squares inverse s_box
fourth_table = refl

-- the bytes of an entry of a table of words
word_entry : (f : ℕ → List ℕ) (table : List ℕ) (x : ℕ) → length table ≡ 256 → map (to_be_bytes w32) table ≡ values f 0 256 → x < 256 → to_be_bytes w32 (slice_index table x) ≡ f x
word_entry f table x l is h =
    sym (get_or-map (to_be_bytes w32) table x 0 [] (omega arith))
    ∙ ap (λ (t : List (List ℕ)). get_or t x []) is
    ∙ value_at f 0 256 x [] h ∙ ap f (omega arith)

-- the four tables give the column that MixColumns makes, and the round key's word is added
pub mixed_column_is : (a b c d key : ℕ) → a < 256 → b < 256 → c < 256 → d < 256
    → to_be_bytes w32 (bit_xor (bit_xor (bit_xor (bit_xor (slice_index FIRST_ROW a) (slice_index SECOND_ROW b)) (slice_index THIRD_ROW c)) (slice_index FOURTH_ROW d)) key)
    ≡ add_words (mixed_column (s_box a) (s_box b) (s_box c) (s_box d)) (to_be_bytes w32 key)
mixed_column_is a b c d key ha hb hc hd =
    let first : to_be_bytes w32 (slice_index FIRST_ROW a) ≡ first_part (s_box a) = word_entry (λ x. first_part (s_box x)) FIRST_ROW a refl first_table ha in
    let second : to_be_bytes w32 (slice_index SECOND_ROW b) ≡ second_part (s_box b) = word_entry (λ x. second_part (s_box x)) SECOND_ROW b refl second_table hb in
    let third : to_be_bytes w32 (slice_index THIRD_ROW c) ≡ third_part (s_box c) = word_entry (λ x. third_part (s_box x)) THIRD_ROW c refl third_table hc in
    let fourth : to_be_bytes w32 (slice_index FOURTH_ROW d) ≡ fourth_part (s_box d) = word_entry (λ x. fourth_part (s_box x)) FOURTH_ROW d refl fourth_table hd in
    sum_is _ key _ _ (sum_is _ (slice_index FOURTH_ROW d) _ _ (sum_is _ (slice_index THIRD_ROW c) _ _ (sum_is (slice_index FIRST_ROW a) (slice_index SECOND_ROW b) _ _ first second) third) fourth) refl
