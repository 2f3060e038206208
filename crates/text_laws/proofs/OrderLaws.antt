-- The order lines of a report are read as the turns of its schedule.
use Rattle.std.proofs.Common.{◌≡◌, ℕ, zero, suc, ◌+◌, ◌^◌, ◌<◌, ◌≤◌, List, [], ◌∷◌, ◌++◌, length, take, drop, replicate, refl, sym, ap, ◌∙◌, subst, append_assoc, length-append, arith}
use Rattle.std.specs.Prelude.{codes, decimal}
use Rattle.std.specs.List.{AllByRecursion}
use Rattle.snp_model.specs.declared.reading.Quantity.TheVariants.{Bytes}
use Rattle.snp_model.specs.declared.scenario.Scenario.{Scenario}
use Rattle.snp_model.specs.declared.scenario.Turn.{Turn}
use Rattle.snp_model.specs.Ending.{report_of}
use Rattle.snp_model.specs.Journal.{actors_of}
use Rattle.snp_model.specs.Lines.{parts_at}
use Rattle.snp_model.specs.Limits.{most}
use Rattle.snp_model.specs.Opening.{opening}
use Rattle.snp_model.specs.Reading.{nothing, reading, closed, Makes, Reads, order_of, turns_count, turns_spell}
use Rattle.snp_model.specs.Report.{actors_in, AreLongest, order_lines as printed_lines, order_rest, run_text, runs_of}
use Rattle.snp_model.specs.Run.{IsDefined, IsDefinedFrom, run_of}
use Rattle.snp_model.specs.ScenarioText.{order_lines, order_lines_of, text_of, turn_words}
use Rattle.snp_model.specs.Sound.{IsSound, IsTurn}
use Rattle.snp_model.specs.Spelling.{behind}
use Rattle.snp_model.specs.State.{State, IsUnfinished}
use Rattle.snp_model.specs.Step.{after}
use Rattle.snp_model.proofs.AttemptLaws.{length-turns_spell}
use Rattle.snp_model.proofs.PairLaws.{each_append, each_map}
use Rattle.run_laws.proofs.JournalsLaws.{state_at_none, unfinished_is_actor}
use Rattle.run_laws.proofs.RoomLaws.{run_length}
use Rattle.run_laws.proofs.RunLaws.{actors_of_run, was_unfinished}
use Rattle.report_text.proofs.Runs.{runs_longest, runs_spell}
use Rattle.scenario_text.proofs.MakesAgain.{makes_append}
use Rattle.scenario_text.proofs.OrdersAgain.{end_makes, orders_make}
use Rattle.scenario_text.proofs.TextAgain.{IsRead, plain_lines, text_is}
use Rattle.text_laws.specs.Orders.{Opens, ordered, turns_in, turns_of, with_order}
use Rattle.text_laws.proofs.CutLaws.{joined, heads, tails, never_empty}

-- a report has the order lines of its schedule
pub run_prints : (c : Scenario) (s : List ℕ) → runs_of (actors_of (run_of c s)) ≡ runs_of s
unfolding actors_of
run_prints c s = ap runs_of (actors_of_run (opening c) s)

-- a run as a word
abbrev word_of : ℕ × ℕ → List ℕ
word_of run = decimal run.0 ++ 42 ∷ decimal run.1

run_is : (run : ℕ × ℕ) → run_text run ≡ 32 ∷ word_of run
unfolding run_text
run_is run = append_assoc (32 ∷ decimal run.0) (42 ∷ []) (decimal run.1)

-- one more word of a line
one_more : (run : ℕ × ℕ) (rest : List ℕ) (words : List (List ℕ)) (others : List ℕ) → rest ≡ behind words ++ 10 ∷ others → run_text run ++ rest ≡ behind (word_of run ∷ words) ++ 10 ∷ others
one_more run rest words others is =
    ap (λ (bytes : List ℕ). run_text run ++ bytes) is
    ∙ ap (λ (bytes : List ℕ). bytes ++ (behind words ++ 10 ∷ others)) (run_is run)
    ∙ sym (append_assoc (32 ∷ word_of run) (behind words) (10 ∷ others))

-- the rest of a line that has room for k words, and the lines after it
rest_is : (k : ℕ) (runs : List (ℕ × ℕ)) (room : ℕ) → length runs ≤ room + k
    → order_rest k runs ≡ behind (turn_words (take k (turns_in runs))) ++ 10 ∷ text_of (order_lines_of room (drop k (turns_in runs)))
unfolding order_rest turns_in turn_words text_of order_lines_of
rest_is zero [] zero few = refl
rest_is zero [] (suc room) few = refl
rest_is (suc k) [] zero few = refl
rest_is (suc k) [] (suc room) few = refl
rest_is zero (run ∷ runs) zero few = absurd (omega (arith, few))
rest_is zero (run ∷ runs) (suc room) few =
    ap (λ (bytes : List ℕ). 10 ∷ (codes "order" ++ bytes))
    (one_more run (order_rest 15 runs) (turn_words (take 15 (turns_in runs))) (text_of (order_lines_of room (drop 15 (turns_in runs)))) (rest_is 15 runs room (omega (arith, few))))
rest_is (suc k) (run ∷ runs) room few =
    one_more run (order_rest k runs) (turn_words (take k (turns_in runs))) (text_of (order_lines_of room (drop k (turns_in runs)))) (rest_is k runs room (omega (arith, few)))

length-turns_in : (runs : List (ℕ × ℕ)) → length (turns_in runs) ≡ length runs
unfolding turns_in
length-turns_in [] = refl
length-turns_in (run ∷ runs) = ap suc (length-turns_in runs)

pub written_again : (runs : List (ℕ × ℕ)) → printed_lines runs ≡ text_of (order_lines (turns_in runs))
unfolding printed_lines turns_in turn_words text_of order_lines order_lines_of
written_again [] = refl
written_again (run ∷ runs) =
    let room : ℕ = length (turns_in runs) in
    ap (λ (bytes : List ℕ). codes "order" ++ bytes)
    (one_more run (order_rest 15 runs) (turn_words (take 15 (turns_in runs))) (text_of (order_lines_of room (drop 15 (turns_in runs)))) (rest_is 15 runs room (omega (arith, length-turns_in runs))))

-- the turns spell what the runs do
turns_spelled : (runs : List (ℕ × ℕ)) → turns_spell (turns_in runs) ≡ actors_in runs
unfolding turns_spell turns_in actors_in
turns_spelled [] = refl
turns_spelled (run ∷ runs) = ap (λ (actors : List ℕ). replicate run.1 run.0 ++ actors) (turns_spelled runs)

pub schedule_spelled : (s : List ℕ) → turns_spell (turns_of s) ≡ s
schedule_spelled s = turns_spelled (runs_of s) ∙ runs_spell s

-- what is said of each element of a list with so many times the same before others
behind_same : {X : Type 0} (P : X → Type 0) (count : ℕ) (x : X) (others : List X) → AllByRecursion P (replicate count x ++ others) → AllByRecursion P others
behind_same P zero x others all = all
behind_same P (suc count) x others all = behind_same P count x others all.1

of_same : {X : Type 0} (P : X → Type 0) (count : ℕ) (x : X) (others : List X) → 0 < count → AllByRecursion P (replicate count x ++ others) → P x
of_same P zero x others some all = absurd (omega (arith, some))
of_same P (suc count) x others some all = all.0

abbrev IsNumber : ℕ → Type 0
IsNumber actor = actor < 2 ^ 32

turns_are : (runs : List (ℕ × ℕ)) → turns_count (turns_in runs) ≤ 262144 → AreLongest runs → AllByRecursion IsNumber (actors_in runs) → AllByRecursion IsTurn (turns_in runs)
unfolding turns_count turns_in actors_in
turns_are [] few longest all = tt
turns_are (run ∷ runs) few longest all = (
  record { actor = of_same IsNumber run.1 run.0 (actors_in runs) longest.0 all; count_some = longest.0; count_most = omega (arith, few) },
  turns_are runs (omega (arith, few)) longest.2 (behind_same IsNumber run.1 run.0 (actors_in runs) all),
)

-- a schedule that makes a run names actors of the scenario alone
all_unfinished : (m : State) (s : List ℕ) → IsDefinedFrom m s → AllByRecursion (λ actor. IsUnfinished m actor) s
unfolding IsDefinedFrom
all_unfinished m [] defined = tt
all_unfinished m (actor ∷ s) defined =
    (defined.0, each_map (λ other. IsUnfinished (after m actor) other) (λ other. IsUnfinished m other) s (λ other u. was_unfinished m actor other u) (all_unfinished (after m actor) s defined.1))

is_number : (c : Scenario) (actor : ℕ) → IsSound c → IsUnfinished (opening c) actor → IsNumber actor
is_number c actor sound u =
    let actors = (unfinished_is_actor c [] actor (subst (λ (m : State). IsUnfinished m actor) (sym (state_at_none c)) u)).1 in
    let most = sound.actors_most in
    omega (arith, actors, most)

all_numbers : (c : Scenario) (s : List ℕ) → IsSound c → IsDefined c s → AllByRecursion IsNumber s
all_numbers c s sound defined = each_map (λ actor. IsUnfinished (opening c) actor) IsNumber s (λ actor u. is_number c actor sound u) (all_unfinished (opening c) s defined)

turns_few : (c : Scenario) (s : List ℕ) → IsSound c → IsDefined c s → turns_count (turns_of s) ≤ 262144
turns_few c s sound defined =
    let attempts = sound.attempts_most in
    omega (arith, length-turns_spell (turns_of s), ap length (schedule_spelled s), run_length c s defined, attempts)

schedule_turns : (c : Scenario) (s : List ℕ) → IsSound c → IsDefined c s → AllByRecursion IsTurn (turns_of s)
schedule_turns c s sound defined =
    turns_are (runs_of s) (turns_few c s sound defined) (runs_longest s) (subst (AllByRecursion IsNumber) (sym (runs_spell s)) (all_numbers c s sound defined))

-- no order line is passed over
orders_read : (room : ℕ) (turns : List Turn) → AllByRecursion IsRead (order_lines_of room turns)
unfolding order_lines_of
orders_read zero turns = tt
orders_read (suc room) [] = tt
orders_read (suc room) (turn ∷ turns) = (refl, orders_read room _)

-- lists that end alike
ends_alike : (xs ys : List (List ℕ)) (x y : List ℕ) → xs ++ x ∷ [] ≡ ys ++ y ∷ [] → (xs ≡ ys) × (x ≡ y)
ends_alike [] [] x y is = (refl, heads x y [] [] is)
ends_alike [] (w ∷ ys) x y is = absurd (never_empty ys y [] (sym (tails x w [] (ys ++ y ∷ []) is)))
ends_alike (v ∷ xs) [] x y is = absurd (never_empty xs x [] (tails v y (xs ++ x ∷ []) [] is))
ends_alike (v ∷ xs) (w ∷ ys) x y is =
    let behind = ends_alike xs ys x y (tails v w (xs ++ x ∷ []) (ys ++ y ∷ []) is) in
    (λ i. heads v w (xs ++ x ∷ []) (ys ++ y ∷ []) is i ∷ behind.0 i, behind.1)

-- behind whole lines the parts of a text are its own
parts_behind : (front rest : List ℕ) (lines : List (List ℕ)) → parts_at 10 front ≡ lines ++ [] ∷ [] → parts_at 10 (front ++ rest) ≡ lines ++ parts_at 10 rest
parts_behind front rest lines whole =
    let j = joined front rest in
    let same = ends_alike j.lines lines j.tail [] (sym j.of_front ∙ whole) in
    j.of_both ∙ (λ i. same.0 i ++ (same.1 i ++ j.next) ∷ j.others) ∙ ap (λ (parts : List (List ℕ)). lines ++ parts) (sym j.of_rest)

some_regions : (c : Scenario) → IsSound c → c.regions ≡ 0 → ⊥
some_regions c sound none = let some = sound.regions_some in absurd (omega (arith, some, none))

-- lines and others behind them
text_both : (lines others : List (List ℕ)) → text_of (lines ++ others) ≡ text_of lines ++ text_of others
unfolding text_of
text_both [] others = refl
text_both (line ∷ lines) others =
    ap (λ (text : List ℕ). line ++ 10 ∷ text) (text_both lines others) ∙ sym (append_assoc line (10 ∷ text_of lines) (text_of others))

end_text : text_of (codes "end" ∷ []) ≡ codes "end\n"
unfolding text_of
end_text = refl

orders_and_end : (turns : List Turn) → AllByRecursion IsRead (order_lines turns ++ codes "end" ∷ [])
unfolding order_lines
orders_and_end turns = each_append IsRead (order_lines_of (length turns) turns) (codes "end" ∷ []) (orders_read (length turns) turns) (refl, tt)

pub read_again : (front : List ℕ) (c : Scenario) (s : List ℕ) → Opens front c → c.order ≡ [] → IsSound c → IsDefined c s → length (with_order front s) ≤ most Bytes → Reads (with_order front s) (ordered c s)
read_again front c s opens none sound defined short =
    let turns : List Turn = turns_of s in
    let next : Scenario = ordered c s in
    let more : List (List ℕ) = order_lines turns ++ codes "end" ∷ [] in
    let tail : List ℕ = printed_lines (runs_of s) ++ codes "end\n" in
    let tail_is : tail ≡ text_of more = (λ i. written_again (runs_of s) i ++ sym end_text i) ∙ sym (text_both (order_lines turns) (codes "end" ∷ [])) in
    let makes : Makes (reading c) more (closed next) =
    makes_append (reading c) (reading next) (closed next) (order_lines turns) (codes "end" ∷ [])
    (orders_make c turns (some_regions c sound) none (schedule_turns c s sound defined) (turns_few c s sound defined)) (end_makes next (some_regions c sound)) in
    let tail_short : length (text_of more) ≤ most Bytes = omega (arith, short, length-append front tail, ap length tail_is) in
    let parts : parts_at 10 tail ≡ more ++ [] ∷ [] = ap (parts_at 10) tail_is ∙ (text_is more (plain_lines (reading c) more (closed next) (orders_and_end turns) makes) tail_short).parts in
    record {
      lines = opens.lines ++ more;
      whole = record {
        short = short;
        parts = parts_behind front tail opens.lines opens.whole ∙ ap (λ (ps : List (List ℕ)). opens.lines ++ ps) parts ∙ sym (append_assoc opens.lines more ([] ∷ []));
      };
      makes = makes_append nothing (reading c) (closed next) opens.lines more opens.makes makes;
    }

-- another order changes no run
pub replayed_again : (c : Scenario) (s : List ℕ) → IsDefined c s → IsDefined (ordered c s) (order_of (ordered c s))
unfolding opening order_of
replayed_again c s defined = subst (λ (schedule : List ℕ). IsDefined (ordered c s) schedule) (sym (schedule_spelled s)) defined

same_report : (c : Scenario) (s schedule : List ℕ) → report_of (ordered c s) schedule ≡ report_of c schedule
unfolding opening report_of
same_report c s schedule = refl

pub reported_again : (c : Scenario) (s : List ℕ) → report_of (ordered c s) (order_of (ordered c s)) ≡ report_of c s
unfolding order_of
reported_again c s = ap (report_of (ordered c s)) (schedule_spelled s) ∙ same_report c s s
