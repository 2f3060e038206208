-- What the parts of sealing and opening make together.
use Rattle.std.proofs.Common.{◌≡◌, ◌≢◌, List, ℕ, Ok, Err, sym, ap, ◌∙◌}
use Rattle.std.proofs.lemmas.Bool.{cond-true, cond-false, false_from_ne_true}
use Rattle.std.proofs.lemmas.Slice.Eq.{bytes_eq-Decides}
use Rattle.snp_model.specs.declared.event.FwRefusal.TheVariants.{BadTag}
use Rattle.snp_model.specs.declared.firmware.MetaEntry.{MetaEntry}
use Rattle.snp_model.specs.Gcm.{plain, tag}
use Rattle.snp_model.specs.Measurement.{page_bytes}
use Rattle.snp_model.specs.Metadata.{aad_of, found_tag, iv_of, opened, opened_words, words_of_bytes}
use Rattle.snp_model.specs.State.{Context}

-- the tag that is found
pub found_by : (key iv aad bytes words own : List ℕ) (entry : MetaEntry) → own ≡ key → iv ≡ iv_of entry.iv → aad ≡ aad_of entry → bytes ≡ page_bytes words → tag own iv aad bytes ≡ found_tag key entry words
unfolding found_tag
found_by key iv aad bytes words own entry k v a b = λ i. tag (k i) (v i) (a i) (b i)

-- the words that are opened
pub opened_by : (key iv bytes new words text own : List ℕ) (entry : MetaEntry) → own ≡ key → iv ≡ iv_of entry.iv → bytes ≡ page_bytes words → text ≡ plain own iv bytes → new ≡ words_of_bytes text → new ≡ opened_words key entry words
unfolding opened_words
opened_by key iv bytes new words text own entry k v b p n = n ∙ ap words_of_bytes p ∙ (λ i. words_of_bytes (plain (k i) (v i) (b i)))

-- a page whose tag is the one that was kept is opened
pub opened_ok : (context : Context) (entry : MetaEntry) (words new : List ℕ) → found_tag context.key entry words ≡ entry.tag → new ≡ opened_words context.key entry words → opened context entry words ≡ Ok new
unfolding opened
opened_ok context entry words new same is = cond-true _ _ _ ((bytes_eq-Decides (found_tag context.key entry words) entry.tag).1 same) ∙ ap Ok (sym is)

-- and another isn't
pub opened_not : (context : Context) (entry : MetaEntry) (words : List ℕ) → found_tag context.key entry words ≢ entry.tag → opened context entry words ≡ Err (BadTag (found_tag context.key entry words) entry.tag)
unfolding opened
opened_not context entry words differ = cond-false _ _ _ (false_from_ne_true _ (λ e. differ ((bytes_eq-Decides (found_tag context.key entry words) entry.tag).0 e)))
