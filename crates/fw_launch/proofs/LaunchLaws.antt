-- A page that is launched: its entry and its words.
use Rattle.std.proofs.Common.{◌≡◌, ◌≢◌, ℕ, true, false, List, [], ◌∷◌, length, get_or, replicate, refl, sym, arith}
use Rattle.std.proofs.lemmas.Bool.{cond-true, cond-false, eq-eqb, ne_eqb}
use Rattle.snp_model.specs.declared.entry.RmpEntry.{RmpEntry}
use Rattle.snp_model.specs.FirmwareCommits.{launched_facts, launched_words}
use Rattle.snp_model.specs.State.{zero_words}

-- the three of an array
three : (perms : List ℕ) → length perms ≡ 3 → get_or perms 0 0 ∷ get_or perms 1 0 ∷ get_or perms 2 0 ∷ [] ≡ perms
three [] long = absurd (omega arith)
three (a ∷ []) long = absurd (omega arith)
three (a ∷ b ∷ []) long = absurd (omega arith)
three (a ∷ b ∷ c ∷ []) long = refl
three (a ∷ b ∷ c ∷ d ∷ perms) long = absurd (omega arith)

pub launched_entry : (entry facts : RmpEntry) (perms : List ℕ) → entry ≡ facts → length perms ≡ 3
    → record entry { validated = true; immutable = false; perms = 15 ∷ get_or perms 0 0 ∷ get_or perms 1 0 ∷ get_or perms 2 0 ∷ [] } ≡ launched_facts perms facts
unfolding launched_facts
launched_entry entry facts perms is long = λ i. record (is i) { validated = true; immutable = false; perms = 15 ∷ three perms long i }

-- the words of a page of type ZERO, and of another one
pub words_zeroed : (page_type : ℕ) (words : List ℕ) → page_type ≡ 3 → replicate 512 0 ≡ launched_words page_type words
unfolding launched_words zero_words
words_zeroed page_type words zero = sym (cond-true _ _ _ (eq-eqb page_type 3 zero))

pub words_kept : (page_type : ℕ) (words : List ℕ) → page_type ≢ 3 → words ≡ launched_words page_type words
unfolding launched_words
words_kept page_type words other = sym (cond-false _ _ _ (ne_eqb page_type 3 other))
