-- The lines that are written of a scenario's words are read again as these words.
use Rattle.std.proofs.Common.{◌≡◌, ℕ, ◌^◌, ◌≤◌, true, List, [], ◌∷◌, ◌++◌, refl, sym, ap, subst, append_assoc, append-nil, arith}
use Rattle.std.specs.Prelude.{Ok, codes, decimal}
use Rattle.std.specs.List.{AllByRecursion}
use Rattle.snp_model.specs.declared.scenario.Scenario.{Scenario}
use Rattle.snp_model.specs.declared.scenario.WordSpec.{WordSpec}
use Rattle.snp_model.specs.Reading.{reading, Makes, add_word, add_words, fit}
use Rattle.snp_model.specs.ScenarioLines.{before_actors, frames_of, word_row}
use Rattle.snp_model.specs.ScenarioText.{word_line, word_lines}
use Rattle.snp_model.specs.Sound.{IsWord}
use Rattle.snp_model.specs.Spelling.{joined}
use Rattle.script_text.proofs.ItemAgain.{below_decimal}
use Rattle.script_text.proofs.SpellingLaws.{decimal_word, number_decimal}
use Rattle.scenario_text.proofs.MakesAgain.{more_make, said_fits}
use Rattle.scenario_text.proofs.NamedLines.{named}

-- the words of a word's line
abbrev said_word : WordSpec → List (List ℕ)
said_word made = codes "word" ∷ decimal made.frame ∷ decimal made.index ∷ decimal made.value ∷ []

-- a scenario with these words in place of its own
abbrev with_words : Scenario → List WordSpec → Scenario
with_words c words = record c { words = words }

-- a word is read again
word_again : (c : Scenario) (made : WordSpec) → frames_of c ≤ 2 ^ 32 → IsWord (frames_of c) made → word_row c (said_word made) ≡ Ok made
unfolding word_row
word_again c made small is =
    rw (below_decimal (frames_of c) made.frame is.frame (omega (arith, is.frame, small)), below_decimal 512 made.index is.index (omega (arith, is.index)), number_decimal made.value is.value) refl

-- and is added
word_added : (c : Scenario) (made : WordSpec) → before_actors c ≡ true → frames_of c ≤ 2 ^ 32 → IsWord (frames_of c) made → add_words c (said_word made) ≡ Ok (reading (with_words c (c.words ++ made ∷ [])))
unfolding add_words add_word
word_added c made stands small is = rw (stands, word_again c made small is) refl

word_fits : (c : Scenario) (made : WordSpec) → before_actors c ≡ true → frames_of c ≤ 2 ^ 32 → IsWord (frames_of c) made → fit (reading c) (word_line made) ≡ Ok (reading (with_words c (c.words ++ made ∷ [])))
unfolding word_line
word_fits c made stands small is =
    said_fits c (codes "word") (decimal made.frame ∷ decimal made.index ∷ decimal made.value ∷ []) (reading (with_words c (c.words ++ made ∷ []))) refl
    (decimal_word made.frame (omega (arith, is.frame, small)), (decimal_word made.index (omega (arith, is.index)), (decimal_word made.value is.value, tt))) refl (named (joined (said_word made)) refl)
    (word_added c made stands small is)

-- words behind those that are read
words_behind : (c : Scenario) (done words : List WordSpec) → before_actors c ≡ true → frames_of c ≤ 2 ^ 32 → AllByRecursion (IsWord (frames_of c)) words
    → Makes (reading (with_words c done)) (word_lines words) (reading (with_words c (done ++ words)))
unfolding Makes word_lines
words_behind c done [] stands small are = ap (λ (ws : List WordSpec). reading (with_words c ws)) (sym (append-nil done))
words_behind c done (made ∷ words) stands small are =
    let next : List WordSpec = done ++ made ∷ [] in
    more_make (reading (with_words c done)) (reading (with_words c next)) (reading (with_words c (done ++ made ∷ words))) (word_line made) (word_lines words)
    (word_fits (with_words c done) made stands small are.0)
    (subst (λ (ws : List WordSpec). Makes (reading (with_words c next)) (word_lines words) (reading (with_words c ws))) (append_assoc done (made ∷ []) words)
    (words_behind c next words stands small are.1))

-- the lines of words, behind a scenario without actors
pub words_make : (c : Scenario) (words : List WordSpec) → before_actors c ≡ true → frames_of c ≤ 2 ^ 32 → AllByRecursion (IsWord (frames_of c)) words
    → Makes (reading c) (word_lines words) (reading (record c { words = c.words ++ words }))
words_make c words stands small are = words_behind c c.words words stands small are
