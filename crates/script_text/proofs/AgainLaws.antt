-- The line of an item that is written is read again as the same item, with its retries.
use Rattle.std.proofs.Common.{◌≡◌, ◌⊎◌, ℕ, zero, suc, ◌^◌, ◌<◌, Bool, true, false, List, [], ◌∷◌, ◌++◌, length, refl, sym, ◌∙◌, ap, subst, arith, inl, inr}
use Rattle.std.specs.Prelude.{Ok, decimal, codes, nat_le, ◌==◌}
use Rattle.std.specs.List.{AllByRecursion}
use Rattle.std.proofs.lemmas.Bool.Decides.{nat_tests}
use Rattle.snp_model.specs.declared.entry.PageSize.{PageSize}
use Rattle.snp_model.specs.declared.entry.PageSize.TheVariants.{Small, Large}
use Rattle.snp_model.specs.declared.item.Item.{Item}
use Rattle.snp_model.specs.declared.item.Line.{Line}
use Rattle.snp_model.specs.declared.scenario.Role.{Role}
use Rattle.snp_model.specs.EventText.{size_text}
use Rattle.snp_model.specs.ItemLines.{once, size_word, flag_word, item_words, item_line}
use Rattle.snp_model.specs.Lines.{below, decimal_of, number, number_of, ranged}
use Rattle.snp_model.specs.Spelling.{behind, joined, flag_text, retry_words, item_text}
use Rattle.snp_model.proofs.PairLaws.{each_append}
use Rattle.script_text.proofs.SpellingLaws.{IsWord, decimal_word, joined_more, line_plain, words_again}

-- what is written of a line is read as it
abbrev pub Again : Role → ℕ → Line → Type 0
Again role frames line = item_line role frames (item_text line) ≡ Ok line

-- a line of words that say an item
pub line_again : (role : Role) (frames : ℕ) (w : List ℕ) (ws rs : List (List ℕ)) (line : Line) → IsWord w → AllByRecursion IsWord (ws ++ rs)
    → nat_le (length (w ∷ (ws ++ rs))) 17 ≡ true → item_words role frames (w ∷ (ws ++ rs)) ≡ Ok line → item_line role frames (joined (w ∷ ws) ++ behind rs) ≡ Ok line
unfolding item_line
line_again role frames w ws rs line is are few said =
    let whole : joined (w ∷ ws) ++ behind rs ≡ joined (w ∷ (ws ++ rs)) = joined_more w ws rs in
    rw (whole, line_plain w (ws ++ rs) is are few) (ap (item_words role frames) (words_again w (ws ++ rs) is are) ∙ said)

-- sizes and flags
pub size_again : (size : PageSize) → size_word (size_text size) ≡ Ok size
unfolding size_word size_text
size_again Small = refl
size_again Large = refl

pub size_spelled : (size : PageSize) → IsWord (size_text size)
unfolding size_text
size_spelled Small = refl
size_spelled Large = refl

pub flag_again : (flag : Bool) → flag_word (flag_text flag) ≡ Ok flag
unfolding flag_word flag_text below number number_of decimal_of
flag_again true = refl
flag_again false = refl

pub flag_spelled : (flag : Bool) → IsWord (flag_text flag)
unfolding flag_text
flag_spelled true = refl
flag_spelled false = refl

-- how often an item is tried again, as a line says it: never, or so many times
abbrev pub IsTried : ℕ → Type 0
IsTried n = (n ≡ 0) ⊎ ((ranged 1 255 (decimal n) ≡ Ok n) × (0 < n) × (n < 2 ^ 64))

pub retry_some : (n : ℕ) → 0 < n → retry_words n ≡ codes "retry" ∷ decimal n ∷ []
unfolding retry_words
retry_some zero some = absurd (omega arith)
retry_some (suc n) some = let e : (suc n == 0) ≡ false = grind (arith, nat_tests) in rw e refl

pub retry_none : retry_words 0 ≡ []
unfolding retry_words
retry_none = refl

-- a line whose item may be tried again: it is read with no retries, and with each number of them
pub retried_again : (role : Role) (frames : ℕ) (w : List ℕ) (ws : List (List ℕ)) (item : Item) (n : ℕ) → IsWord w → AllByRecursion IsWord ws
    → nat_le (length (w ∷ (ws ++ []))) 17 ≡ true → ((d : List ℕ) → nat_le (length (w ∷ (ws ++ codes "retry" ∷ d ∷ []))) 17 ≡ true)
    → item_words role frames (w ∷ (ws ++ [])) ≡ Ok (once item)
    → (ranged 1 255 (decimal n) ≡ Ok n → item_words role frames (w ∷ (ws ++ codes "retry" ∷ decimal n ∷ [])) ≡ Ok (let l : Line = record { item = item; retries = n } in l))
    → IsTried n → item_line role frames (joined (w ∷ ws) ++ behind (retry_words n)) ≡ Ok (let l : Line = record { item = item; retries = n } in l)
retried_again role frames w ws item n is are few few_more never some (inl none) =
    let P : ℕ → Type 0 = λ k. item_line role frames (joined (w ∷ ws) ++ behind (retry_words k)) ≡ Ok (let l : Line = record { item = item; retries = k } in l) in
    subst P (sym none) (subst (λ (rs : List (List ℕ)). item_line role frames (joined (w ∷ ws) ++ behind rs) ≡ Ok (once item)) (sym retry_none)
    (line_again role frames w ws [] (once item) is (each_append IsWord ws [] are tt) few never))
retried_again role frames w ws item n is are few few_more never some (inr times) =
    let made : Line = record { item = item; retries = n } in
    let rs : List (List ℕ) = codes "retry" ∷ decimal n ∷ [] in
    subst (λ (vs : List (List ℕ)). item_line role frames (joined (w ∷ ws) ++ behind vs) ≡ Ok made) (sym (retry_some n times.1))
    (line_again role frames w ws rs made is (each_append IsWord ws rs are (refl, (decimal_word n times.2, tt))) (few_more (decimal n)) (some times.0))
