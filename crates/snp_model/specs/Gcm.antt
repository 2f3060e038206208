-- AES-256-GCM with IVs of 96 bits and tags of 128 bits (NIST SP 800-38D). Strings are lists of whole bytes.
use Rattle.std.specs.Prelude.{ℕ, zero, suc, ◌+◌, ◌-◌, ◌*◌, ◌/◌, ◌%◌, ◌^◌, List, [], ◌∷◌, ◌++◌, length, map, take, drop, replicate, bit_xor}
use Rattle.std.specs.Int.{w32, w64, to_be_bytes, from_be_bytes}
use Rattle.snp_model.specs.Aes.{cipher}
use Rattle.snp_model.specs.Polynomials.{coefficients, bytes_of, plus, product, zero_polynomial}

-- the first n blocks of 16 bytes of a string
unfoldable pub first_blocks : ℕ → List ℕ → List (List ℕ)
first_blocks zero text = []
first_blocks (suc n) text = take 16 text ∷ first_blocks n (drop 16 text)

-- the blocks of a string, the last of which may be shorter (6.5, steps 3 and 4)
unfoldable pub blocks : List ℕ → List (List ℕ)
blocks text = first_blocks ((length text + 15) / 16) text

-- a block that is filled up with zero bits (7.1, steps 4 and 5)
unfoldable pub padded : List ℕ → List ℕ
padded block = block ++ replicate (16 - length block) 0

-- the xor of a block and as many of the leftmost bits of another (6.5, steps 6 and 7)
unfoldable pub xor_bytes : List ℕ → List ℕ → List ℕ
xor_bytes [] mask = []
xor_bytes (b ∷ block) [] = b ∷ block
xor_bytes (b ∷ block) (m ∷ mask) = bit_xor b m ∷ xor_bytes block mask

-- inc32: the last 32 bits of a block count up, modulo 2^32 (6.2)
unfoldable pub inc32 : List ℕ → List ℕ
inc32 block = take 12 block ++ to_be_bytes w32 ((from_be_bytes w32 (drop 12 block) + 1) % 2 ^ 32)

-- GHASH: Y := (Y + X) · H for each block X, as polynomials, from the polynomial Y on (6.4)
unfoldable pub ghash : List ℕ → List ℕ → List (List ℕ) → List ℕ
ghash h y [] = y
ghash h y (x ∷ rest) = ghash h (product (plus y (coefficients x)) h) rest

-- GCTR over blocks: each is added to the cipher of its counter block (6.5)
unfoldable pub gctr_blocks : List ℕ → List ℕ → List (List ℕ) → List ℕ
gctr_blocks key counter [] = []
gctr_blocks key counter (block ∷ rest) = xor_bytes block (cipher key counter) ++ gctr_blocks key (inc32 counter) rest

-- GCTR (6.5)
unfoldable pub gctr : List ℕ → List ℕ → List ℕ → List ℕ
gctr key counter text = gctr_blocks key counter (blocks text)

-- the hash subkey H (7.1, step 1)
unfoldable pub hash_subkey : List ℕ → List ℕ
hash_subkey key = coefficients (cipher key (replicate 16 0))

-- J0, the counter block before the first (7.1, step 2)
unfoldable pub before_first : List ℕ → List ℕ
before_first iv = iv ++ 0 ∷ 0 ∷ 0 ∷ 1 ∷ []

-- the block of the two lengths, in bits (7.1, step 5)
unfoldable pub lengths_block : List ℕ → List ℕ → List ℕ
lengths_block aad text = to_be_bytes w64 (8 * length aad) ++ to_be_bytes w64 (8 * length text)

-- the blocks that are hashed: the padded AAD, the padded ciphertext, and their lengths (7.1, steps 4 and 5)
unfoldable pub hashed : List ℕ → List ℕ → List (List ℕ)
hashed aad text = map padded (blocks aad) ++ (map padded (blocks text) ++ lengths_block aad text ∷ [])

-- the tag of AAD and a ciphertext (7.1, steps 5 and 6)
unfoldable pub tag : List ℕ → List ℕ → List ℕ → List ℕ → List ℕ
tag key iv aad text = gctr key (before_first iv) (bytes_of (ghash (hash_subkey key) zero_polynomial (hashed aad text)))

-- the ciphertext and the tag of AAD and a plaintext (7.1, steps 3 and 7)
unfoldable pub seal : List ℕ → List ℕ → List ℕ → List ℕ → (List ℕ × List ℕ)
seal key iv aad text = let sealed = gctr key (inc32 (before_first iv)) text in (sealed, tag key iv aad sealed)

-- the plaintext of a ciphertext (7.2, step 4)
unfoldable pub plain : List ℕ → List ℕ → List ℕ → List ℕ
plain key iv sealed = gctr key (inc32 (before_first iv)) sealed
