-- A page of words that was sealed, and is opened with its entry under the same key, is the page.
use Rattle.std.proofs.Common.{◌≡◌, ℕ, zero, suc, ◌*◌, ◌/◌, ◌^◌, ◌<◌, List, [], ◌∷◌, length, take, drop, refl, sym, ap, ◌∙◌, subst, arith}
use Rattle.snp_model.specs.declared.firmware.MetaEntry.{MetaEntry}
use Rattle.snp_model.specs.Gcm.{seal, plain, gctr, inc32, before_first}
use Rattle.std.specs.Int.{w64, to_le_bytes, from_le_bytes}
use Rattle.snp_model.specs.Measurement.{page_bytes}
use Rattle.snp_model.specs.Metadata.{AreBytes, first_words, words_of_bytes, iv_of, sealed, opened_words}
use Rattle.snp_model.proofs.GctrLaws.{gctr_twice, length-gctr, gctr_bytes}
use Rattle.snp_model.proofs.PageBytesLaws.{AreWords, are_from, are_until, are_both, are_word, length-page_bytes, words_of_bytes-page_bytes, page_bytes-words_of_bytes, length-words_of_bytes}
use Rattle.run_laws.specs.Uniqueness.{IsFull}

-- the bytes of a page
pub are_page : (words : List ℕ) → AreBytes (page_bytes words)
unfolding page_bytes
are_page [] = λ i. omega arith
are_page (word ∷ words) = are_both (to_le_bytes w64 word) (page_bytes words) (are_word word) (are_page words)

-- the ciphertext of a page under a counter
abbrev cipher_of : List ℕ → MetaEntry → List ℕ → List ℕ
cipher_of key entry words = gctr key (inc32 (before_first (iv_of entry.iv))) (page_bytes words)

sealed_is : (key : List ℕ) (entry : MetaEntry) (words : List ℕ) → (sealed key entry words).words ≡ words_of_bytes (cipher_of key entry words)
unfolding sealed seal
sealed_is key entry words = refl

opened_is : (key : List ℕ) (entry : MetaEntry) (words : List ℕ) → opened_words key entry words ≡ words_of_bytes (gctr key (inc32 (before_first (iv_of entry.iv))) (page_bytes words))
unfolding opened_words plain
opened_is key entry words = refl

pub opened_sealed : (key : List ℕ) (entry : MetaEntry) (words : List ℕ) → AreBytes key → AreWords words → opened_words key entry (sealed key entry words).words ≡ words
opened_sealed key entry words keys are =
    let counter = inc32 (before_first (iv_of entry.iv)) in
    let text = page_bytes words in
    let long : length (gctr key counter text) ≡ 8 * length words = length-gctr key counter text ∙ length-page_bytes words in
    let back : page_bytes (words_of_bytes (gctr key counter text)) ≡ gctr key counter text =
    page_bytes-words_of_bytes (length words) (gctr key counter text) long (gctr_bytes key counter text keys (are_page words)) in
    ap (λ (ws : List ℕ). opened_words key entry ws) (sealed_is key entry words)
    ∙ opened_is key entry (words_of_bytes (gctr key counter text))
    ∙ ap (λ (bytes : List ℕ). words_of_bytes (gctr key counter bytes)) back
    ∙ ap words_of_bytes (gctr_twice key counter text)
    ∙ words_of_bytes-page_bytes words are

-- eight bytes make a word of 64 bits, so what is sealed and what is opened is full
pub eight_bytes_fit : (bytes : List ℕ) → AreBytes bytes → from_le_bytes w64 bytes < 2 ^ 64
eight_bytes_fit bytes are = omega (arith, are 0, are 1, are 2, are 3, are 4, are 5, are 6, are 7)

pub words_fit : (n : ℕ) (bytes : List ℕ) → AreBytes bytes → AreWords (first_words n bytes)
unfolding first_words
words_fit zero bytes are = λ i. omega arith
words_fit (suc n) bytes are = λ i. first_fits (take 8 bytes) (first_words n (drop 8 bytes)) (eight_bytes_fit (take 8 bytes) (are_until 8 bytes are)) (words_fit n (drop 8 bytes) (are_from 8 bytes are)) i
  where
    first_fits : (bytes words : List ℕ) → from_le_bytes w64 bytes < 2 ^ 64 → AreWords words → AreWords (from_le_bytes w64 bytes ∷ words)
    first_fits bytes words small are zero = small
    first_fits bytes words small are (suc i) = are i

full_words : (bytes : List ℕ) → length bytes ≡ 4096 → AreBytes bytes → IsFull (words_of_bytes bytes)
unfolding words_of_bytes
full_words bytes long are =
    record { whole = length-words_of_bytes 512 bytes (long ∙ omega arith); fits = words_fit (length bytes / 8) bytes are }

pub sealed_full : (key : List ℕ) (entry : MetaEntry) (words : List ℕ) → AreBytes key → IsFull words → IsFull (sealed key entry words).words
sealed_full key entry words keys full =
    let counter = inc32 (before_first (iv_of entry.iv)) in
    let text = page_bytes words in
    let long : length (gctr key counter text) ≡ 4096 = length-gctr key counter text ∙ length-page_bytes words ∙ ap (λ (n : ℕ). 8 * n) full.whole in
    subst IsFull (sym (sealed_is key entry words)) (full_words (gctr key counter text) long (gctr_bytes key counter text keys (are_page words)))

pub opened_full : (key : List ℕ) (entry : MetaEntry) (words : List ℕ) → AreBytes key → IsFull words → IsFull (opened_words key entry words)
opened_full key entry words keys full =
    let counter = inc32 (before_first (iv_of entry.iv)) in
    let text = page_bytes words in
    let long : length (gctr key counter text) ≡ 4096 = length-gctr key counter text ∙ length-page_bytes words ∙ ap (λ (n : ℕ). 8 * n) full.whole in
    subst IsFull (sym (opened_is key entry words)) (full_words (gctr key counter text) long (gctr_bytes key counter text keys (are_page words)))
