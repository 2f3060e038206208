-- Lines that fit in turn, and lines of words as they are written.
use Rattle.std.proofs.Common.{◌≡◌, ℕ, true, false, List, [], ◌∷◌, ◌++◌, length, refl, sym, subst}
use Rattle.std.specs.Prelude.{Ok, nat_le}
use Rattle.std.specs.List.{AllByRecursion}
use Rattle.snp_model.specs.declared.scenario.Scenario.{Scenario}
use Rattle.snp_model.specs.Reading.{Made, reading, Makes, add_words, fit, fit_line, is_passed_over}
use Rattle.snp_model.specs.Spelling.{joined}
use Rattle.script_text.proofs.SpellingLaws.{IsWord, line_plain, words_again}

-- lines that fit in turn, and others behind them
pub makes_append : (made middle next : Made) (lines more : List (List ℕ)) → Makes made lines middle → Makes middle more next → Makes made (lines ++ more) next
unfolding Makes
makes_append made middle next [] more is makes = subst (λ (m : Made). Makes m more next) (sym is) makes
makes_append made middle next (line ∷ lines) more is makes = (is.0, is.1, makes_append is.0 middle next lines more is.2 makes)

-- one line
pub one_makes : (made next : Made) (line : List ℕ) → fit made line ≡ Ok next → Makes made (line ∷ []) next
unfolding Makes
one_makes made next line fits = (next, fits, refl)

-- a line, and others behind it
pub more_make : (made middle next : Made) (line : List ℕ) (lines : List (List ℕ)) → fit made line ≡ Ok middle → Makes middle lines next → Makes made (line ∷ lines) next
unfolding Makes
more_make made middle next line lines fits makes = (middle, fits, makes)

-- a line of words fits as its words do
pub said_fits : (c : Scenario) (w : List ℕ) (ws : List (List ℕ)) (next : Made) → IsWord w → AllByRecursion IsWord ws → nat_le (length (w ∷ ws)) 17 ≡ true → is_passed_over (joined (w ∷ ws)) ≡ false
    → add_words c (w ∷ ws) ≡ Ok next → fit (reading c) (joined (w ∷ ws)) ≡ Ok next
unfolding fit fit_line
said_fits c w ws next is are few named fits = rw (named, line_plain w ws is are few, words_again w ws is are) fits
