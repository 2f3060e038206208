-- AES-256: the cipher of FIPS 197 for keys of 256 bits (Nk = 8, Nr = 14), with the standard's section numbers.
-- A byte is a number below 256, a word a list of 4 bytes, a block and the state a list of 16 bytes.
use Rattle.std.specs.Prelude.{ℕ, zero, suc, ◌+◌, ◌-◌, ◌*◌, ◌/◌, ◌%◌, ◌==◌, nat_lt, if◌then◌else◌, List, [], ◌∷◌, ◌++◌, slice_index, slice_index_or}
use Rattle.snp_model.specs.AesField.{◌⊕◌, ◌•◌, s_box}

-- the byte in row r, column c of the state: the block's bytes fill it column by column (3.4)
abbrev pub at : List ℕ → ℕ → ℕ → ℕ
at s r c = slice_index s (r + 4 * c)

-- the state whose byte in row r, column c is f r c (3.4)
abbrev pub state_of : (ℕ → ℕ → ℕ) → List ℕ
state_of f =
    f 0 0 ∷ f 1 0 ∷ f 2 0 ∷ f 3 0 ∷
    f 0 1 ∷ f 1 1 ∷ f 2 1 ∷ f 3 1 ∷
    f 0 2 ∷ f 1 2 ∷ f 2 2 ∷ f 3 2 ∷
    f 0 3 ∷ f 1 3 ∷ f 2 3 ∷ f 3 3 ∷ []

-- SubBytes (5.1.1)
unfoldable pub sub_bytes : List ℕ → List ℕ
sub_bytes s = state_of (λ r c. s_box (at s r c))

-- ShiftRows: row r moves r places to the left (5.1.2)
unfoldable pub shift_rows : List ℕ → List ℕ
shift_rows s = state_of (λ r c. at s r ((c + r) % 4))

-- the column that MixColumns makes of the column a, b, c, d (5.1.3)
abbrev pub mixed_column : ℕ → ℕ → ℕ → ℕ → List ℕ
mixed_column a b c d =
    (2 • a ⊕ 3 • b ⊕ c ⊕ d) ∷
    (a ⊕ 2 • b ⊕ 3 • c ⊕ d) ∷
    (a ⊕ b ⊕ 2 • c ⊕ 3 • d) ∷
    (3 • a ⊕ b ⊕ c ⊕ 2 • d) ∷ []

-- MixColumns (5.1.3)
unfoldable pub mix_columns : List ℕ → List ℕ
mix_columns s = state_of (λ r c. slice_index (mixed_column (at s 0 c) (at s 1 c) (at s 2 c) (at s 3 c)) r)

-- word i of a key schedule
abbrev pub word : List (List ℕ) → ℕ → List ℕ
word w i = slice_index_or w i []

-- AddRoundKey: the word 4 * round + c of the key schedule is added to column c (5.1.4)
unfoldable pub add_round_key : List ℕ → List (List ℕ) → ℕ → List ℕ
add_round_key s w round = state_of (λ r c. at s r c ⊕ slice_index (word w (4 * round + c)) r)

-- the word whose byte i is f i
abbrev pub word_of : (ℕ → ℕ) → List ℕ
word_of f = f 0 ∷ f 1 ∷ f 2 ∷ f 3 ∷ []

-- the sum of two words
abbrev pub add_words : List ℕ → List ℕ → List ℕ
add_words a b = word_of (λ i. slice_index a i ⊕ slice_index b i)

-- RotWord (5.2)
abbrev pub rot_word : List ℕ → List ℕ
rot_word a = word_of (λ i. slice_index a ((i + 1) % 4))

-- SubWord (5.2)
abbrev pub sub_word : List ℕ → List ℕ
sub_word a = word_of (λ i. s_box (slice_index a i))

-- the first bytes of the round constants 1 to 10 (5.2, table 5)
abbrev pub round_constants : List ℕ
round_constants = 0x01 ∷ 0x02 ∷ 0x04 ∷ 0x08 ∷ 0x10 ∷ 0x20 ∷ 0x40 ∷ 0x80 ∷ 0x1b ∷ 0x36 ∷ []

-- Rcon j (5.2)
abbrev pub rcon : ℕ → List ℕ
rcon j = slice_index round_constants (j - 1) ∷ 0 ∷ 0 ∷ 0 ∷ []

-- what is added to word i - 8 for word i, from word i - 1 (5.2)
unfoldable pub key_mask : ℕ → List ℕ → List ℕ
key_mask i previous =
    if i % 8 == 0 then add_words (sub_word (rot_word previous)) (rcon (i / 8))
    else if i % 8 == 4 then sub_word previous
    else previous

-- word i of the key schedule, from the words before it: the first 8 are the key (5.2)
abbrev pub next_word : List ℕ → List (List ℕ) → ℕ → List ℕ
next_word key w i =
    if nat_lt i 8 then word_of (λ k. slice_index key (4 * i + k))
    else add_words (word w (i - 8)) (key_mask i (word w (i - 1)))

-- the first n words of the key schedule (5.2)
unfoldable pub first_words : List ℕ → ℕ → List (List ℕ)
first_words key zero = []
first_words key (suc n) = let w = first_words key n in w ++ next_word key w n ∷ []

-- KeyExpansion: the 60 words of the key schedule (5.2)
unfoldable pub key_expansion : List ℕ → List (List ℕ)
key_expansion key = first_words key 60

-- the state after the first AddRoundKey and n of the rounds with MixColumns (5.1)
unfoldable pub rounds : List (List ℕ) → List ℕ → ℕ → List ℕ
rounds w block zero = add_round_key block w 0
rounds w block (suc n) = add_round_key (mix_columns (shift_rows (sub_bytes (rounds w block n)))) w (suc n)

-- Cipher: the block after the 14 rounds, the last of them without MixColumns (5.1)
unfoldable pub cipher : List ℕ → List ℕ → List ℕ
cipher key block =
    let w = key_expansion key in
    add_round_key (shift_rows (sub_bytes (rounds w block 13))) w 14
