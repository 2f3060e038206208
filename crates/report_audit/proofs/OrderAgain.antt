-- Order lines as they are written are heard as an audit asks for them.
use Rattle.std.proofs.Common.{◌≡◌, ℕ, zero, suc, ◌+◌, ◌^◌, ◌<◌, ◌≤◌, Bool, true, false, cond, List, [], ◌∷◌, ◌++◌, length, take, drop, Ok, refl, sym, ap, ◌∙◌, subst, append_assoc, length-drop, arith}
use Rattle.std.specs.Prelude.{codes, decimal, ◌==◌}
use Rattle.std.specs.List.{AllByRecursion, list_all}
use Rattle.std.proofs.lemmas.Bool.Decides.{nat_tests}
use Rattle.std.proofs.lemmas.List.Folds.{list_all-append}
use Rattle.std.proofs.lemmas.Slice.Eq.{bytes_eq-Decides}
use Rattle.snp_model.specs.declared.scenario.Scenario.{Scenario}
use Rattle.snp_model.specs.Lines.{is_decimal_digit, is_printable}
use Rattle.snp_model.specs.Report.{line, order_lines, order_rest, run_text, runs_after, runs_of}
use Rattle.script_text.proofs.SpellingLaws.{all_pass, digits_only}
use Rattle.report_audit.specs.Audit.{ending, hear, hear_ending}
use Rattle.report_audit.specs.Ending.{order_line, runs_text}
use Rattle.report_audit.proofs.LinesAgain.{Goes, stays_there, goes_on, one_line}

-- the first order line, and those behind it
rest_is : (room : ℕ) (runs : List (ℕ × ℕ)) → order_rest room runs ≡ runs_text (take room runs) ++ (10 ∷ order_lines (drop room runs))
unfolding order_rest order_lines runs_text
rest_is zero [] = refl
rest_is (suc room) [] = refl
rest_is zero (run ∷ runs) = refl
rest_is (suc room) (run ∷ runs) =
    ap (λ (t : List ℕ). run_text run ++ t) (rest_is room runs) ∙ sym (append_assoc (run_text run) (runs_text (take room runs)) (10 ∷ order_lines (drop room runs)))

lines_room : (run : ℕ × ℕ) (runs : List (ℕ × ℕ)) → order_lines (run ∷ runs) ≡ codes "order" ++ (run_text run ++ order_rest 15 runs)
unfolding order_lines
lines_room run runs = refl

line_room : (run : ℕ × ℕ) (runs : List (ℕ × ℕ)) → order_line (run ∷ runs) ≡ codes "order" ++ (run_text run ++ runs_text (take 15 runs))
unfolding order_line runs_text
line_room run runs = refl

pub order_first : (run : ℕ × ℕ) (runs : List (ℕ × ℕ)) → order_lines (run ∷ runs) ≡ line (order_line (run ∷ runs)) ++ order_lines (drop 15 runs)
order_first run runs =
    let others = order_lines (drop 15 runs) in
    let words = runs_text (take 15 runs) in
    let front = codes "order" ++ (run_text run ++ words) in
    let told : codes "order" ++ (run_text run ++ (words ++ (10 ∷ others))) ≡ front ++ (10 ∷ others) =
    ap (λ (t : List ℕ). codes "order" ++ t) (sym (append_assoc (run_text run) words (10 ∷ others))) ∙ sym (append_assoc (codes "order") (run_text run ++ words) (10 ∷ others)) in
    lines_room run runs ∙ ap (λ (t : List ℕ). codes "order" ++ (run_text run ++ t)) (rest_is 15 runs) ∙ told
    ∙ sym (append_assoc front (10 ∷ []) others) ∙ ap (λ (t : List ℕ). line t ++ others) (sym (line_room run runs))

-- numbers of runs that are written with digits
abbrev pub IsRun : ℕ × ℕ → Type 0
IsRun run = (run.0 < 2 ^ 64) × (run.1 < 2 ^ 64)

all_take : (k : ℕ) (runs : List (ℕ × ℕ)) → AllByRecursion IsRun runs → AllByRecursion IsRun (take k runs)
all_take zero runs all = tt
all_take (suc k) [] all = tt
all_take (suc k) (run ∷ runs) all = (all.0, all_take k runs all.1)

all_drop : (k : ℕ) (runs : List (ℕ × ℕ)) → AllByRecursion IsRun runs → AllByRecursion IsRun (drop k runs)
all_drop zero runs all = all
all_drop (suc k) [] all = tt
all_drop (suc k) (run ∷ runs) all = all_drop k runs all.1

digits_plain : (n : ℕ) → n < 2 ^ 64 → list_all is_printable (decimal n) ≡ true
digits_plain n small = all_pass is_decimal_digit is_printable (λ d is. grind (arith, nat_tests, is)) (decimal n) (digits_only n small)

plain_more : (xs ys : List ℕ) → list_all is_printable xs ≡ true → list_all is_printable ys ≡ true → list_all is_printable (xs ++ ys) ≡ true
plain_more xs ys first second = list_all-append is_printable xs ys ∙ rw (first, second) refl

run_plain : (run : ℕ × ℕ) → IsRun run → list_all is_printable (run_text run) ≡ true
unfolding run_text
run_plain run is =
    let a : List ℕ = codes " " ++ decimal run.0 in
    let b : List ℕ = a ++ codes "*" in
    plain_more b (decimal run.1) (plain_more a (codes "*") (plain_more (codes " ") (decimal run.0) refl (digits_plain run.0 is.0)) refl) (digits_plain run.1 is.1)

runs_plain : (runs : List (ℕ × ℕ)) → AllByRecursion IsRun runs → list_all is_printable (runs_text runs) ≡ true
unfolding runs_text
runs_plain [] all = refl
runs_plain (run ∷ runs) all = list_all-append is_printable (run_text run) (runs_text runs) ∙ rw (run_plain run all.0) (runs_plain runs all.1)

pub order_plain : (runs : List (ℕ × ℕ)) → AllByRecursion IsRun runs → list_all is_printable (order_line runs) ≡ true
unfolding order_line
order_plain runs all = list_all-append is_printable (codes "order") (runs_text (take 16 runs)) ∙ runs_plain (take 16 runs) (all_take 16 runs all)

-- the first order line is heard
order_heard : (c : Scenario) (count told : ℕ) (run : ℕ × ℕ) (runs : List (ℕ × ℕ)) → hear c (ending count (run ∷ runs) told) (order_line (run ∷ runs)) ≡ Ok (ending count (drop 15 runs) told)
unfolding hear hear_ending
order_heard c count told run runs = rw ((bytes_eq-Decides (order_line (run ∷ runs)) (order_line (run ∷ runs))).1 refl) refl

none_lines : order_lines [] ≡ []
unfolding order_lines
none_lines = refl

-- and all behind it
pub orders_go : (c : Scenario) (count told most : ℕ) (runs : List (ℕ × ℕ)) (rest : List ℕ) → length runs ≤ most → AllByRecursion IsRun runs → Goes c (ending count runs told) (order_lines runs ++ rest) (ending count [] told) rest
orders_go c count told most [] rest few all = subst (λ (t : List ℕ). Goes c (ending count [] told) (t ++ rest) (ending count [] told) rest) (sym none_lines) (stays_there c (ending count [] told) rest)
orders_go c count told zero (run ∷ runs) rest few all = absurd (omega (arith, few))
orders_go c count told (suc most) (run ∷ runs) rest few all =
    let text = order_line (run ∷ runs) in
    let left = drop 15 runs in
    let others = order_lines left ++ rest in
    let first = one_line c (ending count (run ∷ runs) told) (ending count left told) text others (order_plain (run ∷ runs) all) (order_heard c count told run runs) in
    let more = orders_go c count told most left rest (omega (arith, few, length-drop 15 runs)) (all_drop 15 runs all.1) in
    let is : line text ++ others ≡ order_lines (run ∷ runs) ++ rest = sym (append_assoc (line text) (order_lines left) rest) ∙ ap (λ (t : List ℕ). t ++ rest) (sym (order_first run runs)) in
    subst (λ (t : List ℕ). Goes c (ending count (run ∷ runs) told) t (ending count [] told) rest) is
    (goes_on c (ending count (run ∷ runs) told) (ending count left told) (ending count [] told) (line text ++ others) others rest first more)

-- the runs of a list of actors have numbers that are written with digits
after_by : (actor count next : ℕ) (actors : List ℕ) (same : Bool) → AllByRecursion IsRun (runs_after actor (count + 1) actors) → IsRun (actor, count) → AllByRecursion IsRun (runs_after next 1 actors)
    → AllByRecursion IsRun (cond same (runs_after actor (count + 1) actors) ((actor, count) ∷ runs_after next 1 actors))
after_by actor count next actors true longer this others = longer
after_by actor count next actors false longer this others = (this, others)

after_small : (actor count : ℕ) (actors : List ℕ) → actor < 2 ^ 64 → count + length actors < 2 ^ 64 → AllByRecursion (λ a. a < 2 ^ 32) actors → AllByRecursion IsRun (runs_after actor count actors)
unfolding runs_after
after_small actor count [] a few all = ((a, omega (arith, few)), tt)
after_small actor count (next ∷ actors) a few all =
    let n = all.0 in
    after_by actor count next actors (next == actor) (after_small actor (count + 1) actors a (omega (arith, few)) all.1) (a, omega (arith, few)) (after_small next 1 actors (omega (arith, n)) (omega (arith, few)) all.1)

pub runs_small : (actors : List ℕ) → length actors < 2 ^ 32 → AllByRecursion (λ a. a < 2 ^ 32) actors → AllByRecursion IsRun (runs_of actors)
unfolding runs_of
runs_small [] few all = tt
runs_small (actor ∷ actors) few all = let a = all.0 in after_small actor 1 actors (omega (arith, a)) (omega (arith, few)) all.1
