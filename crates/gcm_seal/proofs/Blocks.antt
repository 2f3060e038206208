-- The blocks of a string, one at a time.
use Rattle.std.proofs.Common.{◌≡◌, ℕ, ◌+◌, ◌-◌, ◌%◌, ◌^◌, ◌<◌, ◌≤◌, List, [], ◌∷◌, ◌++◌, length, min, map, get_or, set, take, drop, refl, ap, sym, ◌∙◌, arith}
use Rattle.std.proofs.lemmas.List.{append-nil, length-drop, append_assoc, take_all, drop_all, length-take, take_min, drop_min, drop-drop, drop_more, drop-set-lt, take_more_set, take_at, drop_at}
use Rattle.std.proofs.lemmas.Nat.{from_be_bytes-to_be_bytes_4}
use Rattle.std.specs.Int.{w32, w128, to_be_bytes, from_be_bytes}
use Rattle.std.proofs.lemmas.Slice.{take-put_mid, drop-put_mid}
use borrow.Rule.Slice.PartMut.{put_mid}
use Rattle.std.specs.Int.Bits.{bit_xor}
use Rattle.snp_model.specs.Polynomials.{bytes_of, coefficients, plus, product, zero_polynomial}
use Rattle.snp_model.specs.Aes.{cipher}
use Rattle.gcm_seal.specs.Words.{word_coefficients, counter_block}
use Rattle.gcm_seal.proofs.Words.{word_coefficients-xor, word_coefficients-zero}
use Rattle.gcm_seal.proofs.Bytes.{bytes_from_word}
pub use Rattle.snp_model.proofs.GctrLaws.{blocks-nil, blocks-more, length-xor_bytes, gctr-nil, gctr-more}
use Rattle.snp_model.specs.Gcm.{before_first, blocks, hash_subkey, hashed, lengths_block, plain, tag, gctr, ghash, inc32, padded, xor_bytes}

-- the block at `at`, and what follows it
piece_is : (text : List ℕ) (at end : ℕ) → at < length text → end ≡ min (length text) (at + 16) → take (end - at) (drop at text) ≡ take 16 (drop at text)
piece_is text at end inside is_end =
    let width : end - at ≡ min 16 (length (drop at text)) = omega (arith, length-drop at text) in
    ap (λ n. take n (drop at text)) width ∙ take_min 16 (drop at text)

rest_is : (text : List ℕ) (at end : ℕ) → end ≡ min (length text) (at + 16) → drop end text ≡ drop 16 (drop at text)
rest_is text at end is_end = ap (λ n. drop n text) (is_end ∙ omega arith) ∙ drop_min (at + 16) text ∙ sym (drop-drop 16 at text)

-- GHASH takes one block, or ends
pub ghash-more : (h y text : List ℕ) → 0 < length text → ghash h y (map padded (blocks text)) ≡ ghash h (product (plus y (coefficients (padded (take 16 text)))) h) (map padded (blocks (drop 16 text)))
unfolding ghash
ghash-more h y text some = ap (λ bs. ghash h y (map padded bs)) (blocks-more text some)

pub ghash-none : (h y text : List ℕ) → length text ≡ 0 → ghash h y (map padded (blocks text)) ≡ y
unfolding ghash
ghash-none h y text none = ap (λ bs. ghash h y (map padded bs)) (blocks-nil text none)

pub ghash-append : (h y : List ℕ) (xs rest : List (List ℕ)) → ghash h y (xs ++ rest) ≡ ghash h (ghash h y xs) rest
unfolding ghash
ghash-append h y [] rest = refl
ghash-append h y (x ∷ xs) rest = ghash-append h (product (plus y (coefficients x)) h) xs rest

-- one step of the loop over the blocks: `now` is the state after the block at `at`
pub ghash_steps : (h whole text : List ℕ) (at end state block now : ℕ) → at < length text → end ≡ min (length text) (at + 16) → word_coefficients block ≡ coefficients (padded (take (end - at) (drop at text))) → word_coefficients now ≡ product (word_coefficients (bit_xor state block)) h → ghash h (word_coefficients state) (map padded (blocks (drop at text))) ≡ whole → ghash h (word_coefficients now) (map padded (blocks (drop end text))) ≡ whole
ghash_steps h whole text at end state block now inside is_end is_block is_now before =
    let some : 0 < length (drop at text) = omega (arith, length-drop at text) in
    let added : word_coefficients (bit_xor state block) ≡ plus (word_coefficients state) (coefficients (padded (take 16 (drop at text)))) = word_coefficients-xor state block ∙ ap (plus (word_coefficients state)) (is_block ∙ ap (λ p. coefficients (padded p)) (piece_is text at end inside is_end)) in
    ap (λ y. ghash h y (map padded (blocks (drop end text)))) (is_now ∙ ap (λ p. product p h) added)
    ∙ ap (λ t. ghash h (product (plus (word_coefficients state) (coefficients (padded (take 16 (drop at text))))) h) (map padded (blocks t))) (rest_is text at end is_end)
    ∙ sym (ghash-more h (word_coefficients state) (drop at text) some) ∙ before

-- the xor of a list and a mask, from index i on
pub xor_step : (block mask whole : List ℕ) (i x m : ℕ) → i < length block → i < length mask → get_or block i 0 ≡ x → get_or mask i 0 ≡ m → take i block ++ xor_bytes (drop i block) (drop i mask) ≡ whole → take (i + 1) (set block i (bit_xor x m)) ++ xor_bytes (drop (i + 1) (set block i (bit_xor x m))) (drop (i + 1) mask) ≡ whole
unfolding xor_bytes
xor_step block mask whole i x m inside in_mask is_x is_m before =
    let y = bit_xor x m in
    let front : take (i + 1) (set block i y) ≡ take i block ++ y ∷ [] = take_more_set block i y inside in
    let back : drop (i + 1) (set block i y) ≡ drop (i + 1) block = drop-set-lt (i + 1) block i y (omega arith) in
    let b : drop i block ≡ x ∷ drop (i + 1) block = drop_more block i 0 inside ∙ ap (λ v. v ∷ drop (i + 1) block) is_x in
    let k : drop i mask ≡ m ∷ drop (i + 1) mask = drop_more mask i 0 in_mask ∙ ap (λ v. v ∷ drop (i + 1) mask) is_m in
    let rest = xor_bytes (drop (i + 1) block) (drop (i + 1) mask) in
    rw (front, back, append_assoc) (rw (b, k) at before)

pub xor_nothing : (mask : List ℕ) → xor_bytes [] mask ≡ []
unfolding xor_bytes
xor_nothing mask = refl

-- the next counter block
pub inc32-count : (iv : List ℕ) (n : ℕ) → length iv ≡ 12 → n < 2 ^ 32 → inc32 (counter_block iv n) ≡ counter_block iv ((n + 1) % 2 ^ 32)
unfolding inc32 counter_block
inc32-count iv n len small =
    let count : from_be_bytes w32 (drop 12 (iv ++ to_be_bytes w32 n)) ≡ n = ap (from_be_bytes w32) (drop_at iv (to_be_bytes w32 n) 12 len) ∙ from_be_bytes-to_be_bytes_4 n small in
    ap (λ l. l ++ to_be_bytes w32 ((from_be_bytes w32 (drop 12 (iv ++ to_be_bytes w32 n)) + 1) % 2 ^ 32)) (take_at iv (to_be_bytes w32 n) 12 len)
    ∙ ap (λ k. iv ++ to_be_bytes w32 ((k + 1) % 2 ^ 32)) count

-- the IV and the count, written over sixteen zero bytes
pub counter_block_is : (iv front count : List ℕ) (n : ℕ) → length iv ≡ 12 → front ≡ iv → count ≡ to_be_bytes w32 n → put_mid 12 4 (front ++ 0 ∷ 0 ∷ 0 ∷ 0 ∷ []) count ≡ counter_block iv n
unfolding counter_block
counter_block_is iv front count n len is_front is_count =
    let zeros : List ℕ = 0 ∷ 0 ∷ 0 ∷ 0 ∷ [] in
    ap (λ f. put_mid 12 4 (f ++ zeros) count) is_front
    ∙ ap (λ f. f ++ (count ++ drop 4 (drop 12 (iv ++ zeros)))) (take_at iv zeros 12 len)
    ∙ ap (λ d. iv ++ (count ++ drop 4 d)) (drop_at iv zeros 12 len)
    ∙ ap (λ t. iv ++ t) (append-nil count ∙ is_count)

-- one step of the loop over the blocks: the block at `at` is added to the cipher of the counter block
pub gctr_steps : (key iv whole text : List ℕ) (at end count next : ℕ) (mask block : List ℕ) → length iv ≡ 12 → count < 2 ^ 32 → at < length text → end ≡ min (length text) (at + 16) → mask ≡ cipher key (counter_block iv count) → block ≡ xor_bytes (take (end - at) (drop at text)) mask → next ≡ (count + 1) % 2 ^ 32 → take at text ++ gctr key (counter_block iv count) (drop at text) ≡ whole
    → take end (put_mid at (end - at) text block) ++ gctr key (counter_block iv next) (drop end (put_mid at (end - at) text block)) ≡ whole
gctr_steps key iv whole text at end count next mask block len small inside is_end is_mask is_block is_next before =
    let some : 0 < length (drop at text) = omega (arith, length-drop at text) in
    let piece = take 16 (drop at text) in
    let is_piece : block ≡ xor_bytes piece (cipher key (counter_block iv count)) = is_block ∙ ap (λ p. xor_bytes p mask) (piece_is text at end inside is_end) ∙ ap (xor_bytes piece) is_mask in
    let width : length block ≡ end - at = ap length is_piece ∙ length-xor_bytes piece (cipher key (counter_block iv count)) ∙ omega (arith, length-take 16 (drop at text), length-drop at text) in
    let front : take end (put_mid at (end - at) text block) ≡ take at text ++ block = take-put_mid at (end - at) text block end (omega arith) (omega arith) in
    let back : drop end (put_mid at (end - at) text block) ≡ drop 16 (drop at text) = drop-put_mid at (end - at) text block end (omega arith) (omega arith) width ∙ rest_is text at end is_end in
    let counter : counter_block iv next ≡ inc32 (counter_block iv count) = ap (counter_block iv) is_next ∙ sym (inc32-count iv count len small) in
    let more = gctr-more key (counter_block iv count) (drop at text) some in
    rw (front, back, counter, is_piece, append_assoc, ← more) before

pub gctr_ends : (key counter whole text : List ℕ) (at : ℕ) → length text ≤ at → take at text ++ gctr key counter (drop at text) ≡ whole → text ≡ whole
gctr_ends key counter whole text at over before =
    let none : gctr key counter (drop at text) ≡ [] = gctr-nil key counter (drop at text) (omega (arith, length-drop at text)) in
    sym (append-nil text) ∙ ap (λ t. t ++ []) (sym (take_all at text over)) ∙ ap (λ r. take at text ++ r) (sym none) ∙ before

pub xor_ends : (block mask whole : List ℕ) (i : ℕ) → length block ≤ i → take i block ++ xor_bytes (drop i block) mask ≡ whole → block ≡ whole
xor_ends block mask whole i over before =
    sym (append-nil block) ∙ ap (λ t. t ++ []) (sym (take_all i block over)) ∙ ap (λ d. take i block ++ d) (sym (ap (λ d. xor_bytes d mask) (drop_all i block over) ∙ xor_nothing mask)) ∙ before

-- the whole hash: the AAD, the ciphertext and the lengths
pub hash_is : (h aad text : List ℕ) (after_aad after_text lengths hash : ℕ) → word_coefficients after_aad ≡ ghash h (word_coefficients 0) (map padded (blocks aad)) → word_coefficients after_text ≡ ghash h (word_coefficients after_aad) (map padded (blocks text)) → word_coefficients lengths ≡ coefficients (lengths_block aad text) → word_coefficients hash ≡ product (word_coefficients (bit_xor after_text lengths)) h → word_coefficients hash ≡ ghash h zero_polynomial (hashed aad text)
unfolding ghash hashed
hash_is h aad text after_aad after_text lengths hash is_aad is_text is_lengths is_hash =
    let end : List (List ℕ) = lengths_block aad text ∷ [] in
    let xs = map padded (blocks aad) in
    let ys = map padded (blocks text) in
    let first : word_coefficients after_aad ≡ ghash h zero_polynomial xs = is_aad ∙ ap (λ y. ghash h y xs) word_coefficients-zero in
    let second : word_coefficients after_text ≡ ghash h (ghash h zero_polynomial xs) ys = is_text ∙ ap (λ y. ghash h y ys) first in
    let sum : word_coefficients (bit_xor after_text lengths) ≡ plus (ghash h (ghash h zero_polynomial xs) ys) (coefficients (lengths_block aad text)) = word_coefficients-xor after_text lengths ∙ (λ i. plus (second i) (is_lengths i)) in
    is_hash ∙ ap (λ p. product p h) sum ∙ sym (ghash-append h zero_polynomial xs (ys ++ end) ∙ ghash-append h (ghash h zero_polynomial xs) ys end)

-- the counter blocks of the tag and of the text's first block
before_first_is : (iv : List ℕ) → before_first iv ≡ counter_block iv 1
unfolding before_first counter_block
before_first_is iv = refl

pub plain_is : (key iv text now : List ℕ) → length iv ≡ 12 → now ≡ gctr key (counter_block iv 2) text → now ≡ plain key iv text
unfolding plain
plain_is key iv text now len is =
    is ∙ ap (λ c. gctr key c text) (sym (ap inc32 (before_first_is iv) ∙ inc32-count iv 1 len (omega arith)))

pub tag_is : (key iv aad text now : List ℕ) (h hash : ℕ) → word_coefficients h ≡ hash_subkey key → word_coefficients hash ≡ ghash (word_coefficients h) zero_polynomial (hashed aad text) → now ≡ gctr key (counter_block iv 1) (to_be_bytes w128 hash) → now ≡ tag key iv aad text
unfolding tag
tag_is key iv aad text now h hash is_h is_hash is =
    is ∙ ap (gctr key (counter_block iv 1)) (sym (bytes_from_word hash) ∙ ap bytes_of (is_hash ∙ ap (λ k. ghash k zero_polynomial (hashed aad text)) is_h))
    ∙ ap (λ c. gctr key c (bytes_of (ghash (hash_subkey key) zero_polynomial (hashed aad text)))) (sym (before_first_is iv))
