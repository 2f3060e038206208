-- What running the drill of a number makes, and what is told of it.
use Rattle.std.proofs.Common.{◌≡◌, ℕ, zero, suc, ◌+◌, ◌≤◌, Bool, true, false, List, [], ◌∷◌, length, drop, Option, Some, refl, sym, ap, ◌∙◌, subst, arith}
use Rattle.std.proofs.lemmas.Bool.{cond-true, cond-false}
use Rattle.std.proofs.lemmas.List.{length-map}
use Rattle.std.specs.Prelude.{slice_get}
use Rattle.rand_pcg.specs.Lcg.{Lcg}
use Rattle.snp_model.specs.declared.event.Event.{Event}
use Rattle.snp_model.specs.declared.event.Outcome.{Outcome}
use Rattle.snp_model.specs.declared.scenario.Scenario.{Scenario}
use Rattle.run_journal.specs.Outcomes.{outcomes_of}
use Rattle.snp_model.specs.Drill.{IsPickedFrom, count_where, drill_lines, is_some_where}
use Rattle.snp_model.specs.Ending.{lines_of, report_of}
use Rattle.snp_model.specs.Generated.{drawn_scenario, generated, generator_of}
use Rattle.snp_model.specs.Journal.{JournalImage}
use Rattle.snp_model.specs.Opening.{opening, opening_part}
use Rattle.snp_model.specs.Reading.{Valid}
use Rattle.snp_model.specs.Report.{report_text}
use Rattle.snp_model.specs.Run.{IsDefinedFrom, run_from, state_from}
use Rattle.snp_model.specs.State.{State}
use Rattle.snp_model.proofs.SoundLaws.{valid_is_sound}
use Rattle.run_laws.proofs.RoomLaws.{run_length}
use Rattle.run_laws.proofs.RunLaws.{length_run}
use Rattle.drill_gen.proofs.DrawnValid.{drawn_valid}
use Rattle.snp_top.specs.declared.replay.Played.{Played}
use Rattle.snp_top.specs.declared.words.Drawn.TheVariants as draws
use Rattle.snp_top.specs.Drills.{IsDrilled, PlaysPicks, SaysDrawn}
use Rattle.snp_top.proofs.ReplayLaws.{state_guests}

-- the scenario that a drill drew first
pub drawn_is : (number : ℕ) (c : Scenario) (g left : Lcg) → g ≡ generator_of number → (c, left) ≡ drawn_scenario g → c ≡ generated number
drawn_is number c g left starts drawn = ap (λ (p : Scenario × Lcg). p.0) drawn ∙ ap (λ (l : Lcg). (drawn_scenario l).0) starts

-- the generator that it leaves
left_is : (number : ℕ) (c : Scenario) (g left : Lcg) → g ≡ generator_of number → (c, left) ≡ drawn_scenario g → left ≡ (drawn_scenario (generator_of number)).1
left_is number c g left starts drawn = ap (λ (p : Scenario × Lcg). p.1) drawn ∙ ap (λ (l : Lcg). (drawn_scenario l).1) starts

-- it is valid
pub drawn_is_valid : (number : ℕ) (c : Scenario) (g left : Lcg) → g ≡ generator_of number → (c, left) ≡ drawn_scenario g → Valid c
drawn_is_valid number c g left starts drawn = subst Valid (sym (drawn_is number c g left starts drawn)) (drawn_valid number)

-- the actors of a machine that was just built
pub actors_built : (c : Scenario) (m : State) → m ≡ opening c → length m.actors ≡ length c.actors
unfolding opening
actors_built c m opens = ap (λ (k : State). length k.actors) opens ∙ length-map c.actors opening_part

-- a run has the guests of its opening
pub guests_kept : (m n : State) (g : Lcg) (journal : JournalImage) → PlaysPicks m g journal n → length n.guests ≡ length m.guests
guests_kept m n g journal plays = ap (λ (k : State). length k.guests) plays.plays.state ∙ ap length (state_guests m plays.schedule)

-- a drill has few events
pub drill_short : (c : Scenario) (m n : State) (g : Lcg) (journal : JournalImage) → Valid c → m ≡ opening c → PlaysPicks m g journal n → length journal.list ≤ 262144
drill_short c m n g journal valid opens plays =
    let lengths : length journal.list ≡ length plays.schedule = ap length plays.plays.events ∙ length_run m plays.schedule in
    let most = run_length c plays.schedule (subst (λ (k : State). IsDefinedFrom k plays.schedule) opens plays.plays.defined) in
    let attempts = (valid_is_sound c valid).attempts_most in
    omega arith

-- what was run is the drill of the number
pub drill_played : (number : ℕ) (c : Scenario) (g left : Lcg) (m n : State) (journal : JournalImage) (played : Played) → g ≡ generator_of number → (c, left) ≡ drawn_scenario g → m ≡ opening c
    → PlaysPicks m left journal n → played.version ≡ c.version → played.journal.list ≡ journal.list → played.guests.items ≡ lines_of n → IsDrilled number played
drill_played number c g left m n journal played starts drawn opens plays version list guests =
    let s = plays.schedule in
    let same : c ≡ generated number = drawn_is number c g left starts drawn in
    let begins : m ≡ opening (generated number) = opens ∙ ap opening same in
    let goes_on : left ≡ (drawn_scenario (generator_of number)).1 = left_is number c g left starts drawn in
    record {
      schedule = s;
      picked = subst (λ (l : Lcg). IsPickedFrom (opening (generated number)) l s) goes_on (subst (λ (k : State). IsPickedFrom k left s) begins plays.picked);
      version = version ∙ ap (λ (d : Scenario). d.version) same;
      events = list ∙ plays.plays.events ∙ ap (λ (k : State). run_from k s) begins;
      guests = guests ∙ ap lines_of (plays.plays.state ∙ ap (λ (k : State). state_from k s) begins);
    }

-- what is told of it
pub drill_told : (number : ℕ) (played : Played) (text : List ℕ) (Is : List ℕ → Type 0) → IsDrilled number played
    → text ≡ drill_lines number played.journal.list (report_text played.version played.journal.list played.guests.items) → Is text → SaysDrawn draws.Drill number Is
unfolding report_of
drill_told number played text Is drilled told holds =
    (drilled.schedule, drilled.picked, subst Is (told ∙ (λ i. drill_lines number (drilled.events i) (report_text (drilled.version i) (drilled.events i) (drilled.guests i)))) holds)

-- one more event that is counted
pub count_here : (test : Outcome → Bool) (list : List (ℕ × Event)) (k : ℕ) (outcome : Option Outcome) → slice_get (outcomes_of list) k ≡ Some outcome → is_some_where test outcome ≡ true
    → count_where test (drop k list) ≡ count_where test (drop (k + 1) list) + 1
unfolding outcomes_of count_where
count_here test [] k outcome at counts = absurd (cc)
count_here test (e ∷ es) zero outcome at counts =
    let same : e.1.outcome ≡ outcome = cc in
    cond-true (is_some_where test e.1.outcome) _ _ (ap (is_some_where test) same ∙ counts)
count_here test (e ∷ es) (suc k) outcome at counts =
    let step : suc k + 1 ≡ suc (k + 1) = omega arith in
    count_here test es k outcome at counts ∙ ap (λ (n : ℕ). count_where test (drop n (e ∷ es)) + 1) (sym step)

-- one that isn't
pub count_passed : (test : Outcome → Bool) (list : List (ℕ × Event)) (k : ℕ) (outcome : Option Outcome) → slice_get (outcomes_of list) k ≡ Some outcome → is_some_where test outcome ≡ false
    → count_where test (drop k list) ≡ count_where test (drop (k + 1) list)
unfolding outcomes_of count_where
count_passed test [] k outcome at passes = absurd (cc)
count_passed test (e ∷ es) zero outcome at passes =
    let same : e.1.outcome ≡ outcome = cc in
    cond-false (is_some_where test e.1.outcome) _ _ (ap (is_some_where test) same ∙ passes)
count_passed test (e ∷ es) (suc k) outcome at passes =
    let step : suc k + 1 ≡ suc (k + 1) = omega arith in
    count_passed test es k outcome at passes ∙ ap (λ (n : ℕ). count_where test (drop n (e ∷ es))) (sym step)

-- none is left at the end
pub count_done : (test : Outcome → Bool) (list : List (ℕ × Event)) (n : ℕ) → n ≡ length list → count_where test (drop n list) ≡ 0
unfolding count_where
count_done test [] zero is = refl
count_done test [] (suc n) is = refl
count_done test (e ∷ es) zero is = absurd (omega (arith, is))
count_done test (e ∷ es) (suc n) is = count_done test es n (omega (arith, is))
