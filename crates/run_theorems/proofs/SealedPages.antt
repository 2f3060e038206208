-- A page that was sealed under a context is opened with its entry, and gives the words that it had.
use Rattle.std.proofs.Common.{◌≡◌, ℕ, List, length, Ok, refl, ap, ◌∙◌}
use Rattle.std.proofs.lemmas.Bool.{cond-true}
use Rattle.std.proofs.lemmas.Slice.Eq.{bytes_eq-Decides}
use Rattle.snp_model.specs.declared.firmware.MetaEntry.{MetaEntry}
use Rattle.snp_model.specs.Gcm.{seal, gctr, inc32, before_first, tag}
use Rattle.snp_model.specs.Measurement.{page_bytes}
use Rattle.snp_model.specs.Metadata.{AreBytes, aad_of, found_tag, iv_of, opened, opened_words, sealed, words_of_bytes}
use Rattle.snp_model.specs.State.{Context}
use Rattle.snp_model.proofs.GctrLaws.{length-gctr, gctr_bytes}
use Rattle.snp_model.proofs.PageBytesLaws.{AreWords, length-page_bytes, page_bytes-words_of_bytes}
use Rattle.run_laws.proofs.SealLaws.{are_page, opened_sealed}

-- the ciphertext of a page under a counter
abbrev cipher_of : List ℕ → MetaEntry → List ℕ → List ℕ
cipher_of key entry words = gctr key (inc32 (before_first (iv_of entry.iv))) (page_bytes words)

-- it is found again in the words that keep it
cipher_back : (key : List ℕ) (entry : MetaEntry) (words : List ℕ) → AreBytes key → page_bytes (words_of_bytes (cipher_of key entry words)) ≡ cipher_of key entry words
cipher_back key entry words keys =
    let counter = inc32 (before_first (iv_of entry.iv)) in
    let text = page_bytes words in
    page_bytes-words_of_bytes (length words) (gctr key counter text) (length-gctr key counter text ∙ length-page_bytes words) (gctr_bytes key counter text keys (are_page words))

-- so the tag that is found is the one that the entry keeps
tag_found : (key : List ℕ) (entry : MetaEntry) (words : List ℕ) → AreBytes key → found_tag key (sealed key entry words).entry (sealed key entry words).words ≡ (sealed key entry words).entry.tag
unfolding found_tag sealed seal aad_of
tag_found key entry words keys = ap (λ (bytes : List ℕ). tag key (iv_of entry.iv) (aad_of entry) bytes) (cipher_back key entry words keys)

-- and its words are the page's
words_found : (key : List ℕ) (entry : MetaEntry) (words : List ℕ) → opened_words key (sealed key entry words).entry (sealed key entry words).words ≡ opened_words key entry (sealed key entry words).words
unfolding sealed opened_words
words_found key entry words = refl

pub sealed_opens : (context : Context) (entry : MetaEntry) (words : List ℕ) → AreBytes context.key → AreWords words
    → opened context (sealed context.key entry words).entry (sealed context.key entry words).words ≡ Ok words
unfolding opened
sealed_opens context entry words keys are =
    let page = sealed context.key entry words in
    cond-true _ _ _ ((bytes_eq-Decides (found_tag context.key page.entry page.words) page.entry.tag).1 (tag_found context.key entry words keys))
    ∙ ap Ok (words_found context.key entry words ∙ opened_sealed context.key entry words keys are)
