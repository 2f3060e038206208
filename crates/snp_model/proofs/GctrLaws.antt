-- GCTR, block by block: it undoes itself, keeps the length, and makes bytes of bytes.
use Rattle.std.proofs.Common.{◌≡◌, ℕ, ◌+◌, ◌*◌, ◌/◌, ◌<◌, ◌≤◌, suc, zero, List, [], ◌∷◌, ◌++◌, length, min, take, drop, refl, ap, sym, inl, inr, ◌∙◌, arith}
use Rattle.std.proofs.lemmas.Bool.{cases_lt}
use Rattle.std.proofs.lemmas.List.{append-nil, length-drop, nil_from_length, take-append-drop, length-append, take_all, drop_all, length-take, take_at, drop_at}
use Rattle.std.proofs.lemmas.Nat.{xor_lt}
use Rattle.std.specs.Int.Bits.{xor_assoc, xor_self, xor_zero_r}
use Rattle.snp_model.specs.Aes.{cipher}
use Rattle.snp_model.specs.Gcm.{blocks, first_blocks, gctr, gctr_blocks, inc32, xor_bytes}
use Rattle.snp_model.specs.Metadata.{AreBytes}
use Rattle.snp_model.proofs.CipherLaws.{cipher_bytes}
use Rattle.snp_model.proofs.PageBytesLaws.{are_from, are_until, are_both}

pub blocks-nil : (text : List ℕ) → length text ≡ 0 → blocks text ≡ []
unfolding blocks first_blocks
blocks-nil text none =
    let count : (length text + 15) / 16 ≡ 0 = omega arith in
    ap (λ n. first_blocks n text) count

pub blocks-more : (text : List ℕ) → 0 < length text → blocks text ≡ take 16 text ∷ blocks (drop 16 text)
unfolding blocks first_blocks
blocks-more text some =
    let count : (length text + 15) / 16 ≡ suc ((length (drop 16 text) + 15) / 16) = omega (arith, length-drop 16 text) in
    ap (λ n. first_blocks n text) count

pub length-xor_bytes : (block mask : List ℕ) → length (xor_bytes block mask) ≡ length block
unfolding xor_bytes
length-xor_bytes [] mask = refl
length-xor_bytes (b ∷ block) [] = refl
length-xor_bytes (b ∷ block) (m ∷ mask) = ap suc (length-xor_bytes block mask)

pub xor_twice : (block mask : List ℕ) → xor_bytes (xor_bytes block mask) mask ≡ block
unfolding xor_bytes
xor_twice [] mask = refl
xor_twice (b ∷ block) [] = refl
xor_twice (b ∷ block) (m ∷ mask) = rw (xor_assoc, xor_self, xor_zero_r, xor_twice block mask)

-- GCTR takes one block, or ends
pub gctr-nil : (key counter text : List ℕ) → length text ≡ 0 → gctr key counter text ≡ []
unfolding gctr gctr_blocks
gctr-nil key counter text none = ap (gctr_blocks key counter) (blocks-nil text none)

pub gctr-more : (key counter text : List ℕ) → 0 < length text → gctr key counter text ≡ xor_bytes (take 16 text) (cipher key counter) ++ gctr key (inc32 counter) (drop 16 text)
unfolding gctr gctr_blocks
gctr-more key counter text some = ap (gctr_blocks key counter) (blocks-more text some)

-- a block that is added, and the rest after it: where the block is short, nothing follows
first_added : (text x rest : List ℕ) → length x ≡ length (take 16 text) → (length text ≤ 16 → rest ≡ []) → (take 16 (x ++ rest) ≡ x) × (drop 16 (x ++ rest) ≡ rest)
first_added text x rest same none = elim (cases_lt (length text) 17) [
  | inl short ↦
      (let empty : rest ≡ [] = none (omega arith) in
      let len : length (x ++ []) ≤ 16 = omega (arith, length-append x [], length-take 16 text) in (
        ap (λ r. take 16 (x ++ r)) empty ∙ take_all 16 (x ++ []) len ∙ append-nil x,
        ap (λ r. drop 16 (x ++ r)) empty ∙ drop_all 16 (x ++ []) len ∙ sym empty,
      ))
  | inr long ↦
      (let len : length x ≡ 16 = omega (arith, length-take 16 text) in
      (take_at x rest 16 len, drop_at x rest 16 len))
]

gctr_twice_up_to : (n : ℕ) (key counter text : List ℕ) → length text ≤ n → gctr key counter (gctr key counter text) ≡ text
gctr_twice_up_to zero key counter text short =
    let none : length text ≡ 0 = omega arith in
    ap (gctr key counter) (gctr-nil key counter text none) ∙ gctr-nil key counter [] refl ∙ sym (nil_from_length text none)
gctr_twice_up_to (suc n) key counter text short = elim (cases_lt 0 (length text)) [
  | inl some ↦
      (let mask = cipher key counter in
      let x = xor_bytes (take 16 text) mask in
      let rest = gctr key (inc32 counter) (drop 16 text) in
      let parts = first_added text x rest (length-xor_bytes (take 16 text) mask) (λ (s : length text ≤ 16). gctr-nil key (inc32 counter) (drop 16 text) (omega (arith, length-drop 16 text))) in
      let len : 0 < length (x ++ rest) = omega (arith, length-append x rest, length-xor_bytes (take 16 text) mask, length-take 16 text) in
      let again : gctr key (inc32 counter) rest ≡ drop 16 text = gctr_twice_up_to n key (inc32 counter) (drop 16 text) (omega (arith, length-drop 16 text)) in
      ap (gctr key counter) (gctr-more key counter text some)
      ∙ gctr-more key counter (x ++ rest) len
      ∙ (λ i. xor_bytes (parts.0 i) mask ++ gctr key (inc32 counter) (parts.1 i))
      ∙ (λ i. xor_twice (take 16 text) mask i ++ again i)
      ∙ take-append-drop 16 text)
  | inr none ↦
      (let empty : length text ≡ 0 = omega arith in
      ap (gctr key counter) (gctr-nil key counter text empty) ∙ gctr-nil key counter [] refl ∙ sym (nil_from_length text empty))
]

-- GCTR undoes itself
pub gctr_twice : (key counter text : List ℕ) → gctr key counter (gctr key counter text) ≡ text
gctr_twice key counter text = gctr_twice_up_to (length text) key counter text (omega arith)

-- it keeps the length
gctr_blocks_length : (n : ℕ) (key counter text : List ℕ) → length (gctr_blocks key counter (first_blocks n text)) ≡ min (length text) (16 * n)
unfolding gctr_blocks first_blocks
gctr_blocks_length zero key counter text = omega arith
gctr_blocks_length (suc n) key counter text =
    let rest = gctr_blocks key (inc32 counter) (first_blocks n (drop 16 text)) in
    length-append (xor_bytes (take 16 text) (cipher key counter)) rest
    ∙ omega (arith, length-xor_bytes (take 16 text) (cipher key counter), length-take 16 text, length-drop 16 text, gctr_blocks_length n key (inc32 counter) (drop 16 text))

pub length-gctr : (key counter text : List ℕ) → length (gctr key counter text) ≡ length text
unfolding gctr blocks
length-gctr key counter text = gctr_blocks_length ((length text + 15) / 16) key counter text ∙ omega arith

-- and makes bytes
xor_bytes_bytes : (block mask : List ℕ) → AreBytes block → AreBytes mask → AreBytes (xor_bytes block mask)
unfolding xor_bytes
xor_bytes_bytes [] mask are masks i = are i
xor_bytes_bytes (b ∷ block) [] are masks i = are i
xor_bytes_bytes (b ∷ block) (m ∷ mask) are masks zero = xor_lt 8 b m (are 0) (masks 0)
xor_bytes_bytes (b ∷ block) (m ∷ mask) are masks (suc i) = xor_bytes_bytes block mask (λ k. are (suc k)) (λ k. masks (suc k)) i

gctr_blocks_bytes : (n : ℕ) (key counter text : List ℕ) → AreBytes key → AreBytes text → AreBytes (gctr_blocks key counter (first_blocks n text))
unfolding gctr_blocks first_blocks
gctr_blocks_bytes zero key counter text keys are = λ i. omega arith
gctr_blocks_bytes (suc n) key counter text keys are =
    are_both (xor_bytes (take 16 text) (cipher key counter)) (gctr_blocks key (inc32 counter) (first_blocks n (drop 16 text)))
    (xor_bytes_bytes (take 16 text) (cipher key counter) (are_until 16 text are) (cipher_bytes key counter keys))
    (gctr_blocks_bytes n key (inc32 counter) (drop 16 text) keys (are_from 16 text are))

pub gctr_bytes : (key counter text : List ℕ) → AreBytes key → AreBytes text → AreBytes (gctr key counter text)
unfolding gctr blocks
gctr_bytes key counter text keys are = gctr_blocks_bytes ((length text + 15) / 16) key counter text keys are
