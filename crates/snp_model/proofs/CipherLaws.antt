-- The cipher makes bytes, under a key of bytes.
use Rattle.std.proofs.Common.{ℕ, zero, suc, ◌+◌, ◌-◌, ◌*◌, ◌/◌, ◌%◌, ◌^◌, ◌<◌, List, [], ◌∷◌, ◌++◌, eqb, arith}
use Rattle.std.specs.Prelude.{slice_index, nat_lt}
use Rattle.std.specs.List.{AllByRecursion}
use Rattle.std.proofs.lemmas.Bool.{cond_both}
use Rattle.std.proofs.lemmas.Nat.{xor_lt, mod_below}
use Rattle.snp_model.specs.Aes.{at, state_of, sub_bytes, shift_rows, word, add_round_key, word_of, add_words, rot_word, sub_word, round_constants, rcon, key_mask, next_word, first_words, key_expansion, rounds, cipher}
use Rattle.snp_model.specs.AesField.{◌⊕◌, bit, affine_bit, affine, inverse, s_box}
use Rattle.snp_model.specs.Metadata.{AreBytes}

-- a byte before others
cons_bytes : (b : ℕ) (bytes : List ℕ) → b < 2 ^ 8 → AreBytes bytes → AreBytes (b ∷ bytes)
cons_bytes b bytes small are zero = small
cons_bytes b bytes small are (suc i) = are i

no_bytes : AreBytes []
no_bytes i = omega arith

all_bytes : (bytes : List ℕ) → AllByRecursion (λ (b : ℕ). b < 2 ^ 8) bytes → AreBytes bytes
all_bytes [] all = no_bytes
all_bytes (b ∷ bytes) all = cons_bytes b bytes all.0 (all_bytes bytes all.1)

sum_small : (a b : ℕ) → a < 2 ^ 8 → b < 2 ^ 8 → a ⊕ b < 2 ^ 8
sum_small a b small_a small_b = xor_lt 8 a b small_a small_b

-- the S-box
bit_small : (b i : ℕ) → bit b i < 2 ^ 1
bit_small b i = mod_below (b / 2 ^ i) 2 (omega arith)

affine_bit_small : (b i : ℕ) → affine_bit b i < 2 ^ 1
affine_bit_small b i =
    xor_lt 1 _ _ (xor_lt 1 _ _ (xor_lt 1 _ _ (xor_lt 1 _ _ (xor_lt 1 _ _ (bit_small b i) (bit_small b ((i + 4) % 8))) (bit_small b ((i + 5) % 8))) (bit_small b ((i + 6) % 8))) (bit_small b ((i + 7) % 8))) (bit_small 0x63 i)

eight_bits : (a b c d e f g h : ℕ) → a < 2 ^ 1 → b < 2 ^ 1 → c < 2 ^ 1 → d < 2 ^ 1 → e < 2 ^ 1 → f < 2 ^ 1 → g < 2 ^ 1 → h < 2 ^ 1
    → a + 2 * b + 4 * c + 8 * d + 16 * e + 32 * f + 64 * g + 128 * h < 2 ^ 8
eight_bits a b c d e f g h a1 b1 c1 d1 e1 f1 g1 h1 = omega arith

affine_small : (b : ℕ) → affine b < 2 ^ 8
affine_small b =
    eight_bits (affine_bit b 0) (affine_bit b 1) (affine_bit b 2) (affine_bit b 3) (affine_bit b 4) (affine_bit b 5) (affine_bit b 6) (affine_bit b 7)
    (affine_bit_small b 0) (affine_bit_small b 1) (affine_bit_small b 2) (affine_bit_small b 3) (affine_bit_small b 4) (affine_bit_small b 5) (affine_bit_small b 6) (affine_bit_small b 7)

s_box_small : (b : ℕ) → s_box b < 2 ^ 8
unfolding s_box
s_box_small b = affine_small (inverse b)

-- words and states of bytes
four_bytes : (f : ℕ → ℕ) → ((i : ℕ) → f i < 2 ^ 8) → AreBytes (word_of f)
four_bytes f small = all_bytes (word_of f) (small 0, (small 1, (small 2, (small 3, tt))))

state_bytes : (f : ℕ → ℕ → ℕ) → ((r c : ℕ) → f r c < 2 ^ 8) → AreBytes (state_of f)
state_bytes f small =
    all_bytes (state_of f)
    (small 0 0, (small 1 0, (small 2 0, (small 3 0, (small 0 1, (small 1 1, (small 2 1, (small 3 1, (small 0 2, (small 1 2, (small 2 2, (small 3 2, (small 0 3, (small 1 3, (small 2 3, (small 3 3, tt))))))))))))))))

add_words_bytes : (a b : List ℕ) → AreBytes a → AreBytes b → AreBytes (add_words a b)
add_words_bytes a b are_a are_b = four_bytes (λ i. slice_index a i ⊕ slice_index b i) (λ i. sum_small (slice_index a i) (slice_index b i) (are_a i) (are_b i))

sub_word_bytes : (a : List ℕ) → AreBytes (sub_word a)
sub_word_bytes a = four_bytes (λ i. s_box (slice_index a i)) (λ i. s_box_small (slice_index a i))

-- the key schedule
constants_bytes : AreBytes round_constants
constants_bytes =
    all_bytes round_constants
    (omega arith, (omega arith, (omega arith, (omega arith, (omega arith, (omega arith, (omega arith, (omega arith, (omega arith, (omega arith, tt))))))))))

rcon_bytes : (j : ℕ) → AreBytes (rcon j)
rcon_bytes j = all_bytes (rcon j) (constants_bytes (j - 1), (omega arith, (omega arith, (omega arith, tt))))

key_mask_bytes : (i : ℕ) (previous : List ℕ) → AreBytes previous → AreBytes (key_mask i previous)
unfolding key_mask
key_mask_bytes i previous are =
    cond_both (eqb (i % 8) 0) _ _ AreBytes (λ _. add_words_bytes (sub_word (rot_word previous)) (rcon (i / 8)) (sub_word_bytes (rot_word previous)) (rcon_bytes (i / 8)))
    (λ _. cond_both (eqb (i % 8) 4) _ _ AreBytes (λ _. sub_word_bytes previous) (λ _. are))

next_word_bytes : (key : List ℕ) (w : List (List ℕ)) (i : ℕ) → AreBytes key → ((k : ℕ) → AreBytes (word w k)) → AreBytes (next_word key w i)
next_word_bytes key w i are words =
    cond_both (nat_lt i 8) _ _ AreBytes (λ _. four_bytes (λ k. slice_index key (4 * i + k)) (λ k. are (4 * i + k)))
    (λ _. add_words_bytes (word w (i - 8)) (key_mask i (word w (i - 1))) (words (i - 8)) (key_mask_bytes i (word w (i - 1)) (words (i - 1))))

push_bytes : (w : List (List ℕ)) (x : List ℕ) → ((k : ℕ) → AreBytes (word w k)) → AreBytes x → (k : ℕ) → AreBytes (word (w ++ x ∷ []) k)
push_bytes [] x are one zero = one
push_bytes [] x are one (suc k) = no_bytes
push_bytes (y ∷ w) x are one zero = are zero
push_bytes (y ∷ w) x are one (suc k) = push_bytes w x (λ l. are (suc l)) one k

schedule_bytes : (key : List ℕ) (n : ℕ) → AreBytes key → (k : ℕ) → AreBytes (word (first_words key n) k)
unfolding first_words
schedule_bytes key zero are k = no_bytes
schedule_bytes key (suc n) are k =
    push_bytes (first_words key n) (next_word key (first_words key n) n) (schedule_bytes key n are) (next_word_bytes key (first_words key n) n are (schedule_bytes key n are)) k

-- the last round
sub_bytes_bytes : (s : List ℕ) → AreBytes (sub_bytes s)
unfolding sub_bytes
sub_bytes_bytes s = state_bytes (λ r c. s_box (at s r c)) (λ r c. s_box_small (at s r c))

shift_rows_bytes : (s : List ℕ) → AreBytes s → AreBytes (shift_rows s)
unfolding shift_rows
shift_rows_bytes s are = state_bytes (λ r c. at s r ((c + r) % 4)) (λ r c. are (r + 4 * ((c + r) % 4)))

add_round_key_bytes : (s : List ℕ) (w : List (List ℕ)) (round : ℕ) → AreBytes s → ((k : ℕ) → AreBytes (word w k)) → AreBytes (add_round_key s w round)
unfolding add_round_key
add_round_key_bytes s w round are words =
    state_bytes (λ r c. at s r c ⊕ slice_index (word w (4 * round + c)) r) (λ r c. sum_small (at s r c) (slice_index (word w (4 * round + c)) r) (are (r + 4 * c)) (words (4 * round + c) r))

pub cipher_bytes : (key block : List ℕ) → AreBytes key → AreBytes (cipher key block)
unfolding cipher key_expansion
cipher_bytes key block are =
    let w = first_words key 60 in
    let s = sub_bytes (rounds w block 13) in
    add_round_key_bytes (shift_rows s) w 14 (shift_rows_bytes s (sub_bytes_bytes (rounds w block 13))) (schedule_bytes key 60 are)
