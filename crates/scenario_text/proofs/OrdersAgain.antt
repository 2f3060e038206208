-- The first two lines of a scenario, its lines of orders and its last line are read again.
use Rattle.std.proofs.Common.{◌≡◌, ◌≢◌, ℕ, zero, suc, ◌-◌, ◌^◌, ◌<◌, ◌≤◌, Bool, true, false, List, [], ◌∷◌, ◌++◌, length, take, drop, refl, sym, ◌∙◌, ap, subst, append_assoc, append-nil, arith}
use Rattle.std.specs.Prelude.{Ok, codes, decimal, not, nat_le, nat_lt, ◌==◌, ◌&&◌, bytes_eq}
use Rattle.std.specs.List.{AllByRecursion}
use Rattle.std.proofs.Math.Nat.{min-le_left}
use Rattle.std.proofs.lemmas.Bool.Decides.{nat_tests}
use Rattle.std.proofs.lemmas.Fmt.{decimal_digit}
use Rattle.std.proofs.lemmas.List.{length-drop, length-take, take-append-drop}
use Rattle.std.proofs.lemmas.List.Folds.{list_all-append}
use Rattle.snp_model.specs.declared.reading.Quantity.TheVariants.{Regions}
use Rattle.snp_model.specs.declared.scenario.Scenario.{Scenario}
use Rattle.snp_model.specs.declared.scenario.Turn.{Turn}
use Rattle.snp_model.specs.Limits.{most}
use Rattle.snp_model.specs.Lines.{is_decimal_digit, is_row, word}
use Rattle.snp_model.specs.Reading.{Made, nothing, reading, closed, Makes, add_order, add_regions, add_words, fit, fit_line, fit_words, is_passed_over, turns_count}
use Rattle.snp_model.specs.ScenarioLines.{before_actors, before_orders, before_pages, before_words, first_scenario, is_order_row, order_row, regions_row, turn_from, turn_of, turns_after, version_of, version_row}
use Rattle.snp_model.specs.ScenarioText.{head_lines, order_lines, order_lines_of, turn_words}
use Rattle.snp_model.specs.Sound.{IsTurn}
use Rattle.snp_model.specs.Spelling.{joined}
use Rattle.snp_model.proofs.AttemptLaws.{turns_append}
use Rattle.snp_model.proofs.SoundLaws.{all_take}
use Rattle.script_text.proofs.ItemAgain.{ranged_decimal}
use Rattle.script_text.proofs.PartsLaws.{HasNo, all_apart, cut_again}
use Rattle.script_text.proofs.SpellingLaws.{IsWord, is_graphic, decimal_again, decimal_word, digits_only, line_plain, words_again}
use Rattle.scenario_text.proofs.MakesAgain.{more_make, one_makes, said_fits}
use Rattle.scenario_text.proofs.NamedLines.{named}

-- digits have no star
no_star : (n : ℕ) → n < 2 ^ 64 → HasNo 42 (decimal n)
no_star n h = all_apart is_decimal_digit 42 (λ b is. grind (arith, nat_tests, is)) (decimal n) (digits_only n h)

-- a run
turn_again : (turn : Turn) → IsTurn turn → turn_of (decimal turn.actor ++ 42 ∷ decimal turn.count) ≡ Ok turn
unfolding turn_of turn_from
turn_again turn is =
    let actor = is.actor in
    let least = is.count_some in
    let most = is.count_most in
    let within : (nat_lt turn.actor (2 ^ 32) && (nat_le 1 turn.count && nat_le turn.count 262144)) ≡ true = grind (arith, nat_tests, actor, least, most) in
    rw (cut_again 42 (decimal turn.actor) (decimal turn.count) (no_star turn.actor (omega (arith, actor))), decimal_again turn.actor (omega (arith, actor)), decimal_again turn.count (omega (arith, most)), within) refl

-- the runs of a line, behind those that were read before
turns_again : (before turns : List Turn) → AllByRecursion IsTurn turns → turns_after before (turn_words turns) ≡ Ok (before ++ turns)
unfolding turns_after turn_words
turns_again before [] are = ap (λ (ts : List Turn). Ok ts) (sym (append-nil before))
turns_again before (turn ∷ turns) are =
    rw (turn_again turn are.0) (turns_again (before ++ turn ∷ []) turns are.1 ∙ ap (λ (ts : List Turn). Ok ts) (append_assoc before (turn ∷ []) turns))

-- they are words, one for each run
turn_word : (turn : Turn) → IsTurn turn → IsWord (decimal turn.actor ++ 42 ∷ decimal turn.count)
turn_word turn is =
    let actor = is.actor in
    let most = is.count_most in
    list_all-append is_graphic (decimal turn.actor) (42 ∷ decimal turn.count) ∙ rw (decimal_word turn.actor (omega (arith, actor))) (decimal_word turn.count (omega (arith, most)))

turns_words : (turns : List Turn) → AllByRecursion IsTurn turns → AllByRecursion IsWord (turn_words turns)
unfolding turn_words
turns_words [] are = tt
turns_words (turn ∷ turns) are = (turn_word turn are.0, turns_words turns are.1)

length-turn_words : (turns : List Turn) → length (turn_words turns) ≡ length turns
unfolding turn_words
length-turn_words [] = refl
length-turn_words (turn ∷ turns) = ap suc (length-turn_words turns)

-- a row of another name
other_row : (ws : List (List ℕ)) (name : List ℕ) (count : ℕ) (place : Bool) → bytes_eq (word ws 0) name ≡ false → (is_row ws name count && place) ≡ false
other_row ws name count place other = grind (arith, nat_tests, other)

some_regions : (regions : ℕ) → regions ≢ 0 → not (regions == 0) ≡ true
some_regions zero some = absurd (some refl)
some_regions (suc n) some = grind (arith, nat_tests)

order_row_here : (c : Scenario) (w : List ℕ) (more : List (List ℕ)) → c.regions ≢ 0 → (is_order_row (codes "order" ∷ w ∷ more) && not (c.regions == 0)) ≡ true
order_row_here c w more some =
    let long : nat_le 2 (length (codes "order" ∷ w ∷ more)) ≡ true = grind (arith, nat_tests) in
    rw (long, some_regions c.regions some) refl

-- a line of orders is read as one
order_form : (c : Scenario) (w : List ℕ) (more : List (List ℕ)) → c.regions ≢ 0 → add_words c (codes "order" ∷ w ∷ more) ≡ add_order c (codes "order" ∷ w ∷ more)
unfolding add_words
order_form c w more some =
    let ws : List (List ℕ) = codes "order" ∷ w ∷ more in
    rw (
      other_row ws (codes "regions") 2 (c.regions == 0) refl,
      other_row ws (codes "guest") 9 (before_pages c) refl,
      other_row ws (codes "page") 11 (before_words c) refl,
      other_row ws (codes "word") 4 (before_actors c) refl,
      other_row ws (codes "actor") 9 (before_orders c) refl,
      other_row ws (codes "actor") 10 (before_orders c) refl,
      other_row ws (codes "actor") 3 (before_orders c) refl,
      order_row_here c w more some,
    ) refl

order_added : (c : Scenario) (turns : List Turn) → AllByRecursion IsTurn turns → turns_count (c.order ++ turns) ≤ 262144 → add_order c (codes "order" ∷ turn_words turns) ≡ Ok (reading (record c { order = c.order ++ turns }))
unfolding add_order order_row
order_added c turns are few =
    let within : nat_le (turns_count (c.order ++ turns)) 262144 ≡ true = grind (arith, nat_tests, few) in
    rw (turns_again [] turns are, within) refl

order_fits : (c : Scenario) (turn : Turn) (turns : List Turn) → length turns ≤ 15 → c.regions ≢ 0 → AllByRecursion IsTurn (turn ∷ turns) → turns_count (c.order ++ turn ∷ turns) ≤ 262144
    → fit (reading c) (joined (codes "order" ∷ turn_words (turn ∷ turns))) ≡ Ok (reading (record c { order = c.order ++ turn ∷ turns }))
unfolding turn_words
order_fits c turn turns short some are few =
    let many = length-turn_words turns in
    let fits : nat_le (length (codes "order" ∷ turn_words (turn ∷ turns))) 17 ≡ true = grind (arith, nat_tests, many, short) in
    said_fits c (codes "order") (turn_words (turn ∷ turns)) (reading (record c { order = c.order ++ turn ∷ turns })) refl (turns_words (turn ∷ turns) are) fits (named (joined (codes "order" ∷ turn_words (turn ∷ turns))) refl)
    (order_form c (decimal turn.actor ++ 42 ∷ decimal turn.count) (turn_words turns) some ∙ order_added c (turn ∷ turns) are few)

-- what all elements have, all behind a place have
all_drop : {X : Type 0} (P : X → Type 0) (k : ℕ) (xs : List X) → AllByRecursion P xs → AllByRecursion P (drop k xs)
all_drop P zero [] all = tt
all_drop P (suc k) [] all = tt
all_drop P zero (x ∷ xs) all = all
all_drop P (suc k) (x ∷ xs) all = all_drop P k xs all.1

-- the same scenario, as no turn is added
no_more : (c : Scenario) → reading c ≡ reading (record c { order = c.order ++ [] })
no_more c = ap (λ (ts : List Turn). reading (record c { order = ts })) (sym (append-nil c.order))

orders_from : (room : ℕ) (c : Scenario) (turns : List Turn) → length turns ≤ room → c.regions ≢ 0 → AllByRecursion IsTurn turns → turns_count (c.order ++ turns) ≤ 262144
    → Makes (reading c) (order_lines_of room turns) (reading (record c { order = c.order ++ turns }))
unfolding Makes order_lines_of
orders_from zero c [] short some are few = no_more c
orders_from zero c (turn ∷ turns) short some are few = absurd (omega arith)
orders_from (suc room) c [] short some are few = no_more c
orders_from (suc room) c (turn ∷ turns) short some are few =
    let line : List Turn = turn ∷ take 15 turns in
    let others : List Turn = drop 15 turns in
    let next : Scenario = record c { order = c.order ++ line } in
    let whole : next.order ++ others ≡ c.order ++ turn ∷ turns = append_assoc c.order line others ∙ ap (λ (ts : List Turn). c.order ++ turn ∷ ts) (take-append-drop 15 turns) in
    let all : turns_count (next.order ++ others) ≤ 262144 = omega (arith, few, ap turns_count whole) in
    let this : turns_count next.order ≤ 262144 = omega (arith, all, turns_append next.order others) in
    let short_line : length (take 15 turns) ≤ 15 = omega (arith, length-take 15 turns, min-le_left 15 (length turns)) in
    let behind = orders_from room next others (omega (arith, short, length-drop 15 turns)) some (all_drop IsTurn 15 turns are.1) all in
    (reading next, order_fits c turn (take 15 turns) short_line some (are.0, all_take IsTurn turns 15 are.1) this, subst (λ (ts : List Turn). Makes (reading next) (order_lines_of room others) (reading (record c { order = ts }))) whole behind)

-- the lines of orders
pub orders_make : (c : Scenario) (turns : List Turn) → c.regions ≢ 0 → c.order ≡ [] → AllByRecursion IsTurn turns → turns_count turns ≤ 262144
    → Makes (reading c) (order_lines turns) (reading (record c { order = turns }))
unfolding order_lines
orders_make c turns some none are few =
    let whole : c.order ++ turns ≡ turns = ap (λ (ts : List Turn). ts ++ turns) none in
    subst (λ (ts : List Turn). Makes (reading c) (order_lines_of (length turns) turns) (reading (record c { order = ts }))) whole
    (orders_from (length turns) c turns (omega arith) some are (omega (arith, few, ap turns_count whole)))

-- the first line
said_first : (w : List ℕ) (ws : List (List ℕ)) (next : Made) → IsWord w → AllByRecursion IsWord ws → nat_le (length (w ∷ ws)) 17 ≡ true → is_passed_over (joined (w ∷ ws)) ≡ false
    → fit_words nothing (w ∷ ws) ≡ Ok next → fit nothing (joined (w ∷ ws)) ≡ Ok next
unfolding fit fit_line
said_first w ws next is are few named fits = rw (named, line_plain w ws is are few, words_again w ws is are) fits

version_again : (version : ℕ) → 1 ≤ version → version ≤ 2 → version_row (codes "snp" ∷ decimal version ∷ []) ≡ Ok version
unfolding version_row version_of
version_again zero some few = absurd (omega arith)
version_again (suc zero) some few = rw (decimal_digit 1 (omega arith)) refl
version_again (suc (suc zero)) some few = rw (decimal_digit 2 (omega arith)) refl
version_again (suc (suc (suc n))) some few = absurd (omega arith)

version_fits : (version : ℕ) → 1 ≤ version → version ≤ 2 → fit nothing (joined (codes "snp" ∷ decimal version ∷ [])) ≡ Ok (reading (first_scenario version))
version_fits version some few =
    said_first (codes "snp") (decimal version ∷ []) (reading (first_scenario version)) refl (decimal_word version (omega (arith, few)), tt) refl (named (joined (codes "snp" ∷ decimal version ∷ [])) refl)
    (rw (version_again version some few) refl)

-- the second line
regions_fits : (version regions : ℕ) → 0 < regions → regions ≤ most Regions
    → fit (reading (first_scenario version)) (joined (codes "regions" ∷ decimal regions ∷ [])) ≡ Ok (reading (record (first_scenario version) { regions = regions }))
unfolding add_words add_regions regions_row
regions_fits version regions some few =
    let within : nat_le regions (most Regions) ≡ true = grind (arith, nat_tests, few) in
    said_fits (first_scenario version) (codes "regions") (decimal regions ∷ []) (reading (record (first_scenario version) { regions = regions })) refl (decimal_word regions (omega (arith, few)), tt) refl (named (joined (codes "regions" ∷ decimal regions ∷ [])) refl)
    (rw (ranged_decimal 1 (2 ^ 64 - 1) regions (omega (arith, some)) (omega (arith, few)) (omega (arith, few)), within) refl)

-- the first two lines
pub head_makes : (version regions : ℕ) → 1 ≤ version → version ≤ 2 → 0 < regions → regions ≤ most Regions
    → Makes nothing (head_lines version regions) (reading (record (first_scenario version) { regions = regions }))
unfolding head_lines
head_makes version regions some few some_memory few_regions =
    let first : Scenario = first_scenario version in
    let next : Scenario = record first { regions = regions } in
    let second : List ℕ = joined (codes "regions" ∷ decimal regions ∷ []) in
    more_make nothing (reading first) (reading next) (joined (codes "snp" ∷ decimal version ∷ [])) (second ∷ []) (version_fits version some few)
    (one_makes (reading first) (reading next) second (regions_fits version regions some_memory few_regions))

-- the last line
end_fits : (c : Scenario) → c.regions ≢ 0 → fit (reading c) (joined (codes "end" ∷ [])) ≡ Ok (closed c)
unfolding add_words
end_fits c some = said_fits c (codes "end") [] (closed c) refl tt refl refl (rw (some_regions c.regions some) refl)

pub end_makes : (c : Scenario) → c.regions ≢ 0 → Makes (reading c) (codes "end" ∷ []) (closed c)
end_makes c some = one_makes (reading c) (closed c) (codes "end") (end_fits c some)
