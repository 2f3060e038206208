-- Words are those of one command.
use Rattle.std.proofs.Common.{◌≡◌, ℕ, ◌⊎◌, ◌||◌, ◌&&◌, ◌==◌, Bool, true, false, List, [], length, Option, None, Some, is_some, if◌then◌else◌, refl, sym, ap, ◌∙◌, subst, arith, inl, inr}
use Rattle.std.proofs.lemmas.Bool.{and_parts, eqb-true, false≢true, or_left, or_right}
use Rattle.std.proofs.lemmas.Slice.Eq.{bytes_eq-Decides}
use Rattle.std.specs.Prelude.{bytes_eq, codes, option_map, slice_index_or}
use Rattle.snp_model.specs.CommandLine.{are_words, drill_number, gen_number, is_measure, is_replay, number_behind}
use Rattle.snp_model.specs.Lines.{decimal_of}
use Rattle.snp_top.specs.Runs.{are_commands, is_run, reads_scenario, reads_text}
use Rattle.snp_top.specs.declared.words.Asked.{Asked}
use Rattle.snp_top.specs.declared.words.Asked.TheVariants as asks
use Rattle.snp_top.specs.declared.words.Drawn.{Drawn}
use Rattle.snp_top.specs.declared.words.Drawn.TheVariants as draws
use Rattle.snp_top.specs.Words.{AsksFor, asks_run, asks_scenario, asks_text, command_of, first_of, fits, forms, takes_text, without_threads}

-- two names that differ aren't both the word
apart : (w name other : List ℕ) → bytes_eq name other ≡ false → bytes_eq w name ≡ true → bytes_eq w other ≡ true → ⊥
apart w name other differ one two =
    false≢true (sym differ ∙ (bytes_eq-Decides name other).1 (sym ((bytes_eq-Decides w name).0 one) ∙ (bytes_eq-Decides w other).0 two))

forms_apart : (name other : List ℕ) (count more : ℕ) (words : List (List ℕ)) → bytes_eq name other ≡ false → fits name count words ≡ true → fits other more words ≡ true → ⊥
forms_apart name other count more words differ one two =
    apart (slice_index_or words 0 []) name other differ (and_parts (length words == count) (bytes_eq (slice_index_or words 0 []) name) one).1 (and_parts (length words == more) (bytes_eq (slice_index_or words 0 []) other) two).1

counts_apart : (name other : List ℕ) (words : List (List ℕ)) → fits name 1 words ≡ true → fits other 2 words ≡ true → ⊥
counts_apart name other words alone is =
    let one = eqb-true (length words) 1 (and_parts (length words == 1) (bytes_eq (slice_index_or words 0 []) name) alone).0 in
    let two = eqb-true (length words) 2 (and_parts (length words == 2) (bytes_eq (slice_index_or words 0 []) other) is).0 in
    absurd (omega (arith, one, two))

-- what is known of a name and a number
named : (name : List ℕ) (words : List (List ℕ)) (number : ℕ) → number_behind name words ≡ Some number → fits name 2 words ≡ true
named name words number is = go ((length words == 2) && bytes_eq (slice_index_or words 0 []) name) is
  where
    go : (test : Bool) → (if test then decimal_of (slice_index_or words 1 []) else None) ≡ Some number → test ≡ true
    go true e = refl
    go false e = absurd (cc)

or_false : (b : Bool) → (b ≡ true → ⊥) → b ≡ false
or_false true none = absurd (none refl)
or_false false none = refl

or_true : (b : Bool) → (b ≡ false → ⊥) → b ≡ true
or_true true none = refl
or_true false none = absurd (none refl)

-- the words are those of this command, or of none
abbrev IsAsked : List (List ℕ) → Option Asked → Type 0
IsAsked words None = are_commands words ≡ false
IsAsked words (Some asks.Replay) = is_replay words ≡ true
IsAsked words (Some asks.Run) = is_run words ≡ true
IsAsked words (Some asks.Measure) = is_measure words ≡ true
IsAsked words (Some (asks.Drawn number draws.Gen)) = gen_number words ≡ Some number
IsAsked words (Some (asks.Drawn number draws.Drill)) = drill_number words ≡ Some number

-- a row of the table
row : (P : Option Asked → Type 0) (test : Bool) (here below : Option Asked) → (test ≡ true → P here) → (test ≡ false → P below) → P (if test then here else below)
row P true here below fit other = fit refl
row P false here below fit other = other refl

with_number : (P : Option Asked → Type 0) (what : Drawn) (o : Option ℕ) → ((number : ℕ) → o ≡ Some number → P (Some (asks.Drawn number what))) → (o ≡ None → P None) → P (option_map (λ number. asks.Drawn number what) o)
with_number P what None some none = none refl
with_number P what (Some number) some none = some number refl

behind : (name : List ℕ) (words : List (List ℕ)) (o : Option ℕ) → fits name 2 words ≡ true → decimal_of (slice_index_or words 1 []) ≡ o → number_behind name words ≡ o
behind name words o fit is = ap (λ (b : Bool). if b then decimal_of (slice_index_or words 1 []) else None) fit ∙ is

not_behind : (name : List ℕ) (words : List (List ℕ)) → fits name 2 words ≡ false → number_behind name words ≡ None
not_behind name words other = ap (λ (b : Bool). if b then decimal_of (slice_index_or words 1 []) else None) other

none_asked : (words : List (List ℕ)) → is_replay words ≡ false → is_run words ≡ false → is_measure words ≡ false → gen_number words ≡ None → drill_number words ≡ None → are_commands words ≡ false
none_asked words replay run measure gen drill = λ i. run i || (((replay i || measure i) || is_some (gen i)) || is_some (drill i))

-- what the words ask for is what they are
pub asked_is : (words : List (List ℕ)) → IsAsked words (command_of words)
unfolding forms first_of
asked_is words =
    row (IsAsked words) (is_replay words) _ _ (λ fit. fit) (λ no_replay.
    row (IsAsked words) (is_run words) _ _ (λ fit. fit) (λ no_run.
    row (IsAsked words) (is_measure words) _ _ (λ fit. fit) (λ no_measure.
    row (IsAsked words) (fits (codes "gen") 2 words) _ _
    (λ fit. with_number (IsAsked words) draws.Gen (decimal_of (slice_index_or words 1 [])) (λ number is. behind (codes "gen") words (Some number) fit is)
    (λ is. none_asked words no_replay no_run no_measure (behind (codes "gen") words None fit is)
    (not_behind (codes "drill") words (or_false (fits (codes "drill") 2 words) (λ drill. forms_apart (codes "gen") (codes "drill") 2 2 words refl fit drill)))))
    (λ no_gen.
    row (IsAsked words) (fits (codes "drill") 2 words) _ _
    (λ fit. with_number (IsAsked words) draws.Drill (decimal_of (slice_index_or words 1 [])) (λ number is. behind (codes "drill") words (Some number) fit is)
    (λ is. none_asked words no_replay no_run no_measure (not_behind (codes "gen") words no_gen) (behind (codes "drill") words None fit is)))
    (λ no_drill. none_asked words no_replay no_run no_measure (not_behind (codes "gen") words no_gen) (not_behind (codes "drill") words no_drill))))))

-- words that are those of a command ask for no other, and not for nothing
some_number : {o : Option ℕ} {number : ℕ} → o ≡ Some number → is_some o ≡ true
some_number is = ap (λ (o : Option ℕ). is_some o) is

or_none : {b : Bool} → b ≡ false → b ≡ true → ⊥
or_none none some = false≢true (sym none ∙ some)

run_some : (words : List (List ℕ)) → is_run words ≡ true → are_commands words ≡ true
run_some words is = or_left (is_run words) (are_words words) is

some_replay : (words : List (List ℕ)) → is_replay words ≡ true → are_words words ≡ true
some_replay words asked = or_left _ (is_some (drill_number words)) (or_left _ (is_some (gen_number words)) (or_left (is_replay words) (is_measure words) asked))

some_measure : (words : List (List ℕ)) → is_measure words ≡ true → are_words words ≡ true
some_measure words asked = or_left _ (is_some (drill_number words)) (or_left _ (is_some (gen_number words)) (or_right (is_replay words) (is_measure words) asked))

some_gen : (words : List (List ℕ)) (number : ℕ) → gen_number words ≡ Some number → are_words words ≡ true
some_gen words number asked = or_left _ (is_some (drill_number words)) (or_right (is_replay words || is_measure words) (is_some (gen_number words)) (some_number asked))

some_drill : (words : List (List ℕ)) (number : ℕ) → drill_number words ≡ Some number → are_words words ≡ true
some_drill words number asked = or_right (is_replay words || is_measure words || is_some (gen_number words)) (is_some (drill_number words)) (some_number asked)

or_run : (words : List (List ℕ)) → are_words words ≡ true → are_commands words ≡ true
or_run words some = or_right (is_run words) (are_words words) some

pub replay_asked : (words : List (List ℕ)) → is_replay words ≡ true → command_of words ≡ Some asks.Replay
replay_asked words is = go (command_of words) (asked_is words)
  where
    go : (o : Option Asked) → IsAsked words o → o ≡ Some asks.Replay
    go None asked = absurd (or_none asked (or_run words (some_replay words is)))
    go (Some asks.Replay) asked = refl
    go (Some asks.Run) asked = absurd (forms_apart (codes "replay") (codes "run") 1 1 words refl is asked)
    go (Some asks.Measure) asked = absurd (forms_apart (codes "replay") (codes "measure") 1 1 words refl is asked)
    go (Some (asks.Drawn number draws.Gen)) asked = absurd (counts_apart (codes "replay") (codes "gen") words is (named (codes "gen") words number asked))
    go (Some (asks.Drawn number draws.Drill)) asked = absurd (counts_apart (codes "replay") (codes "drill") words is (named (codes "drill") words number asked))

pub run_asked : (words : List (List ℕ)) → is_run words ≡ true → command_of words ≡ Some asks.Run
run_asked words is = go (command_of words) (asked_is words)
  where
    go : (o : Option Asked) → IsAsked words o → o ≡ Some asks.Run
    go None asked = absurd (or_none asked (run_some words is))
    go (Some asks.Replay) asked = absurd (forms_apart (codes "run") (codes "replay") 1 1 words refl is asked)
    go (Some asks.Run) asked = refl
    go (Some asks.Measure) asked = absurd (forms_apart (codes "run") (codes "measure") 1 1 words refl is asked)
    go (Some (asks.Drawn number draws.Gen)) asked = absurd (counts_apart (codes "run") (codes "gen") words is (named (codes "gen") words number asked))
    go (Some (asks.Drawn number draws.Drill)) asked = absurd (counts_apart (codes "run") (codes "drill") words is (named (codes "drill") words number asked))

pub measure_asked : (words : List (List ℕ)) → is_measure words ≡ true → command_of words ≡ Some asks.Measure
measure_asked words is = go (command_of words) (asked_is words)
  where
    go : (o : Option Asked) → IsAsked words o → o ≡ Some asks.Measure
    go None asked = absurd (or_none asked (or_run words (some_measure words is)))
    go (Some asks.Replay) asked = absurd (forms_apart (codes "measure") (codes "replay") 1 1 words refl is asked)
    go (Some asks.Run) asked = absurd (forms_apart (codes "measure") (codes "run") 1 1 words refl is asked)
    go (Some asks.Measure) asked = refl
    go (Some (asks.Drawn number draws.Gen)) asked = absurd (counts_apart (codes "measure") (codes "gen") words is (named (codes "gen") words number asked))
    go (Some (asks.Drawn number draws.Drill)) asked = absurd (counts_apart (codes "measure") (codes "drill") words is (named (codes "drill") words number asked))

pub gen_asked : (words : List (List ℕ)) (number : ℕ) → gen_number words ≡ Some number → command_of words ≡ Some (asks.Drawn number draws.Gen)
gen_asked words number is = go (command_of words) (asked_is words)
  where
    go : (o : Option Asked) → IsAsked words o → o ≡ Some (asks.Drawn number draws.Gen)
    go None asked = absurd (or_none asked (or_run words (some_gen words number is)))
    go (Some asks.Replay) asked = absurd (counts_apart (codes "replay") (codes "gen") words asked (named (codes "gen") words number is))
    go (Some asks.Run) asked = absurd (counts_apart (codes "run") (codes "gen") words asked (named (codes "gen") words number is))
    go (Some asks.Measure) asked = absurd (counts_apart (codes "measure") (codes "gen") words asked (named (codes "gen") words number is))
    go (Some (asks.Drawn other draws.Gen)) asked = let same = sym asked ∙ is in cc
    go (Some (asks.Drawn other draws.Drill)) asked = absurd (forms_apart (codes "gen") (codes "drill") 2 2 words refl (named (codes "gen") words number is) (named (codes "drill") words other asked))

pub drill_asked : (words : List (List ℕ)) (number : ℕ) → drill_number words ≡ Some number → command_of words ≡ Some (asks.Drawn number draws.Drill)
drill_asked words number is = go (command_of words) (asked_is words)
  where
    go : (o : Option Asked) → IsAsked words o → o ≡ Some (asks.Drawn number draws.Drill)
    go None asked = absurd (or_none asked (or_run words (some_drill words number is)))
    go (Some asks.Replay) asked = absurd (counts_apart (codes "replay") (codes "drill") words asked (named (codes "drill") words number is))
    go (Some asks.Run) asked = absurd (counts_apart (codes "run") (codes "drill") words asked (named (codes "drill") words number is))
    go (Some asks.Measure) asked = absurd (counts_apart (codes "measure") (codes "drill") words asked (named (codes "drill") words number is))
    go (Some (asks.Drawn other draws.Gen)) asked = absurd (forms_apart (codes "drill") (codes "gen") 2 2 words refl (named (codes "drill") words number is) (named (codes "gen") words other asked))
    go (Some (asks.Drawn other draws.Drill)) asked = let same = sym asked ∙ is in cc

pub drawn_asked : (words : List (List ℕ)) (number : ℕ) → AsksFor number words → (what : Drawn) × (command_of words ≡ Some (asks.Drawn number what))
drawn_asked words number (inl gen) = (draws.Gen, gen_asked words number gen)
drawn_asked words number (inr drill) = (draws.Drill, drill_asked words number drill)

-- where a command is asked for that takes no threads, it is the same
pub batch_asked : (words : List (List ℕ)) {asked : Asked} → command_of words ≡ Some asked → without_threads (command_of words) ≡ without_threads (Some asked)
batch_asked words is = ap without_threads is

-- whether the words are `run` alone, and whether a text or a scenario is read
pub run_is : (words : List (List ℕ)) → is_run words ≡ asks_run (command_of words)
run_is words = go (command_of words) (asked_is words) (or_false (is_run words))
  where
    go : (o : Option Asked) → IsAsked words o → ((is_run words ≡ true → ⊥) → is_run words ≡ false) → is_run words ≡ asks_run o
    go None asked not_run = not_run (λ is. or_none asked (run_some words is))
    go (Some asks.Replay) asked not_run = not_run (λ is. forms_apart (codes "run") (codes "replay") 1 1 words refl is asked)
    go (Some asks.Run) asked not_run = asked
    go (Some asks.Measure) asked not_run = not_run (λ is. forms_apart (codes "run") (codes "measure") 1 1 words refl is asked)
    go (Some (asks.Drawn number draws.Gen)) asked not_run = not_run (λ is. counts_apart (codes "run") (codes "gen") words is (named (codes "gen") words number asked))
    go (Some (asks.Drawn number draws.Drill)) asked not_run = not_run (λ is. counts_apart (codes "run") (codes "drill") words is (named (codes "drill") words number asked))

either : (a b : Bool) → (a || b) ≡ true → (a ≡ true) ⊎ (b ≡ true)
either true b some = inl refl
either false b some = inr some

pub takes_asked : (words : List (List ℕ)) → takes_text words ≡ true → asks_text (without_threads (command_of words)) ≡ true
takes_asked words takes = go (either (is_replay words) (is_measure words) takes)
  where
    go : (is_replay words ≡ true) ⊎ (is_measure words ≡ true) → asks_text (without_threads (command_of words)) ≡ true
    go (inl is) = ap (λ (o : Option Asked). asks_text (without_threads o)) (replay_asked words is)
    go (inr is) = ap (λ (o : Option Asked). asks_text (without_threads o)) (measure_asked words is)

pub takes_not : (words : List (List ℕ)) → takes_text words ≡ false → asks_text (without_threads (command_of words)) ≡ false
takes_not words none = go (command_of words) (asked_is words)
  where
    go : (o : Option Asked) → IsAsked words o → asks_text (without_threads o) ≡ false
    go None asked = refl
    go (Some asks.Replay) asked = absurd (or_none none (or_left (is_replay words) (is_measure words) asked))
    go (Some asks.Run) asked = refl
    go (Some asks.Measure) asked = absurd (or_none none (or_right (is_replay words) (is_measure words) asked))
    go (Some (asks.Drawn number what)) asked = refl

pub reads_scenario_asked : (words : List (List ℕ)) → reads_scenario words ≡ true → asks_scenario (command_of words) ≡ true
reads_scenario_asked words reads = go (either (is_run words) (is_replay words) reads)
  where
    go : (is_run words ≡ true) ⊎ (is_replay words ≡ true) → asks_scenario (command_of words) ≡ true
    go (inl is) = ap asks_scenario (run_asked words is)
    go (inr is) = ap asks_scenario (replay_asked words is)

pub reads_text_asked : (words : List (List ℕ)) → reads_text words ≡ true → asks_text (command_of words) ≡ true
reads_text_asked words reads = go (either (is_run words) (takes_text words) reads)
  where
    more : (is_replay words ≡ true) ⊎ (is_measure words ≡ true) → asks_text (command_of words) ≡ true
    more (inl is) = ap asks_text (replay_asked words is)
    more (inr is) = ap asks_text (measure_asked words is)

    go : (is_run words ≡ true) ⊎ (takes_text words ≡ true) → asks_text (command_of words) ≡ true
    go (inl is) = ap asks_text (run_asked words is)
    go (inr takes) = more (either (is_replay words) (is_measure words) takes)

pub reads_not : (words : List (List ℕ)) → reads_text words ≡ false → asks_text (command_of words) ≡ false
reads_not words none = go (command_of words) (asked_is words)
  where
    go : (o : Option Asked) → IsAsked words o → asks_text o ≡ false
    go None asked = refl
    go (Some asks.Replay) asked = absurd (or_none none (or_right (is_run words) (takes_text words) (or_left (is_replay words) (is_measure words) asked)))
    go (Some asks.Run) asked = absurd (or_none none (or_left (is_run words) (takes_text words) asked))
    go (Some asks.Measure) asked = absurd (or_none none (or_right (is_run words) (takes_text words) (or_right (is_replay words) (is_measure words) asked)))
    go (Some (asks.Drawn number what)) asked = refl

-- words of no command
pub none_is : (words : List (List ℕ)) → command_of words ≡ None → are_commands words ≡ false
none_is words is = subst (IsAsked words) is (asked_is words)

pub none_asks : (words : List (List ℕ)) → are_commands words ≡ false → command_of words ≡ None
none_asks words none = go (command_of words) (asked_is words)
  where
    go : (o : Option Asked) → IsAsked words o → o ≡ None
    go None asked = refl
    go (Some asks.Replay) asked = absurd (or_none none (or_run words (some_replay words asked)))
    go (Some asks.Run) asked = absurd (or_none none (run_some words asked))
    go (Some asks.Measure) asked = absurd (or_none none (or_run words (some_measure words asked)))
    go (Some (asks.Drawn number draws.Gen)) asked = absurd (or_none none (or_run words (some_gen words number asked)))
    go (Some (asks.Drawn number draws.Drill)) asked = absurd (or_none none (or_run words (some_drill words number asked)))

-- no words are both `replay` and `measure`
pub not_measure : (words : List (List ℕ)) → command_of words ≡ Some asks.Replay → is_measure words ≡ false
not_measure words is =
    let replays : is_replay words ≡ true = subst (IsAsked words) is (asked_is words) in
    or_false (is_measure words) (λ measures. forms_apart (codes "replay") (codes "measure") 1 1 words refl replays measures)

-- `run`, and what isn't
pub run_alone : (asked : Option Asked) → asks_run asked ≡ true → asked ≡ Some asks.Run
run_alone None is = absurd (false≢true is)
run_alone (Some asks.Replay) is = absurd (false≢true is)
run_alone (Some asks.Run) is = refl
run_alone (Some asks.Measure) is = absurd (false≢true is)
run_alone (Some (asks.Drawn number what)) is = absurd (false≢true is)

pub run_not : (asked : Option Asked) → asks_run asked ≡ false → without_threads asked ≡ asked
run_not None is = refl
run_not (Some asks.Replay) is = refl
run_not (Some asks.Run) is = absurd (false≢true (sym is))
run_not (Some asks.Measure) is = refl
run_not (Some (asks.Drawn number what)) is = refl

-- what is asked for is what the words are
pub asked_replay : (words : List (List ℕ)) → command_of words ≡ Some asks.Replay → is_replay words ≡ true
asked_replay words is = subst (IsAsked words) is (asked_is words)

pub asked_run : (words : List (List ℕ)) → command_of words ≡ Some asks.Run → is_run words ≡ true
asked_run words is = subst (IsAsked words) is (asked_is words)

pub asked_measure : (words : List (List ℕ)) → command_of words ≡ Some asks.Measure → is_measure words ≡ true
asked_measure words is = subst (IsAsked words) is (asked_is words)

pub asked_gen : (words : List (List ℕ)) (number : ℕ) → command_of words ≡ Some (asks.Drawn number draws.Gen) → gen_number words ≡ Some number
asked_gen words number is = subst (IsAsked words) is (asked_is words)

pub asked_drill : (words : List (List ℕ)) (number : ℕ) → command_of words ≡ Some (asks.Drawn number draws.Drill) → drill_number words ≡ Some number
asked_drill words number is = subst (IsAsked words) is (asked_is words)

pub no_threads_run : (words : List (List ℕ)) → is_run words ≡ true → without_threads (command_of words) ≡ None
no_threads_run words is = batch_asked words (run_asked words is)

pub threads_not : (words : List (List ℕ)) → is_run words ≡ false → without_threads (command_of words) ≡ command_of words
threads_not words is = run_not (command_of words) (sym (run_is words) ∙ is)

-- words that ask for no text are those of no command that reads one
reads_none : (words : List (List ℕ)) → asks_text (command_of words) ≡ false → reads_text words ≡ false
reads_none words none = or_false (reads_text words) (λ reads. false≢true (sym none ∙ reads_text_asked words reads))

takes_none : (words : List (List ℕ)) → asks_text (without_threads (command_of words)) ≡ false → takes_text words ≡ false
takes_none words none = or_false (takes_text words) (λ takes. false≢true (sym none ∙ takes_asked words takes))

pub drawn_unread : (words : List (List ℕ)) (number : ℕ) → AsksFor number words → (reads_text words ≡ false) × (takes_text words ≡ false)
drawn_unread words number asked =
    let drawn = drawn_asked words number asked in
    (reads_none words (ap asks_text drawn.1), takes_none words (ap (λ (o : Option Asked). asks_text (without_threads o)) drawn.1))

pub none_unread : (words : List (List ℕ)) → are_commands words ≡ false → reads_text words ≡ false
none_unread words none = reads_none words (ap asks_text (none_asks words none))

pub batch_unread : (words : List (List ℕ)) → without_threads (command_of words) ≡ None → takes_text words ≡ false
batch_unread words none = takes_none words (ap asks_text none)
