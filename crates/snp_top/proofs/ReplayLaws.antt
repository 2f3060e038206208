-- What running a scenario makes of its machine, its journal and its guests.
use Rattle.std.proofs.Common.{◌≡◌, ℕ, zero, suc, ◌+◌, ◌*◌, ◌<◌, ◌≤◌, List, [], ◌∷◌, ◌++◌, length, drop, refl, sym, ap, ◌∙◌, arith, append_assoc}
use Rattle.snp_model.specs.declared.report.GuestLine.{GuestLine}
use Rattle.snp_model.specs.declared.scenario.GuestSpec.{GuestSpec}
use Rattle.snp_model.specs.declared.scenario.Scenario.{Scenario}
use Rattle.snp_model.specs.declared.scenario.Turn.{Turn}
use Rattle.snp_model.specs.Attempts.{attempts_of}
use Rattle.snp_model.specs.Ending.{guest_line, lines_from}
use Rattle.snp_model.specs.Journal.{JournalImage}
use Rattle.snp_model.specs.Opening.{opening}
use Rattle.snp_model.specs.Reading.{Valid, turns_spell, order_of}
use Rattle.snp_model.specs.Run.{state_from}
use Rattle.snp_model.specs.State.{Contexts, State}
use Rattle.snp_model.specs.Step.{after}
use Rattle.snp_model.proofs.SoundLaws.{valid_is_sound}
use Rattle.run_laws.proofs.RunLaws.{after_guests, length_run}
use Rattle.snp_top.specs.Schedule.{AtOpening, Plays}

-- one more guest
pub lines_more : (contexts : Contexts) (guests : List GuestSpec) (k first : ℕ) → k < length guests → lines_from contexts first (drop k guests) ≡ guest_line first (contexts first) ∷ lines_from contexts (first + 1) (drop (k + 1) guests)
unfolding lines_from
lines_more contexts [] k first within = absurd (omega arith)
lines_more contexts (guest ∷ guests) zero first within = refl
lines_more contexts (guest ∷ guests) (suc k) first within =
    let step : suc k + 1 ≡ suc (k + 1) = omega arith in
    lines_more contexts guests k first (omega arith) ∙ ap (λ (n : ℕ). guest_line first (contexts first) ∷ lines_from contexts (first + 1) (drop n (guest ∷ guests))) (sym step)

pub lines_pushed : (contexts : Contexts) (guests : List GuestSpec) (k : ℕ) (before now whole : List GuestLine) (line : GuestLine) → k < length guests
    → before ++ lines_from contexts (k + 1) (drop k guests) ≡ whole → line ≡ guest_line (k + 1) (contexts (k + 1)) → now ≡ before ++ line ∷ []
    → now ++ lines_from contexts (k + 1 + 1) (drop (k + 1) guests) ≡ whole
lines_pushed contexts guests k before now whole line within so_far is adds =
    ap (λ (l : List GuestLine). l ++ lines_from contexts (k + 1 + 1) (drop (k + 1) guests)) (adds ∙ ap (λ (g : GuestLine). before ++ g ∷ []) is)
    ∙ append_assoc before (guest_line (k + 1) (contexts (k + 1)) ∷ []) (lines_from contexts (k + 1 + 1) (drop (k + 1) guests))
    ∙ ap (λ (l : List GuestLine). before ++ l) (sym (lines_more contexts guests k (k + 1) within))
    ∙ so_far

pub state_guests : (m : State) (s : List ℕ) → (state_from m s).guests ≡ m.guests
unfolding state_from
state_guests m [] = refl
state_guests m (actor ∷ actors) = state_guests (after m actor) actors ∙ after_guests m actor

-- a machine that was just built, and its journal
pub just_built : (c : Scenario) (m : State) (journal : JournalImage) → Valid c → m ≡ opening c → journal ≡ (let j : JournalImage = record { list = []; room = 32 * attempts_of c } in j) → AtOpening m journal
just_built c m journal valid opens empty = record { scenario = c; valid = valid; opens = opens; empty = ap (λ (j : JournalImage). j.list) empty; room = ap (λ (j : JournalImage). j.room) empty }

-- the run of a whole schedule is short
pub run_short : (c : Scenario) (m : State) (turns : List Turn) (journal : JournalImage) (new : State) → Valid c → m ≡ opening c → turns ≡ c.order → Plays m (turns_spell turns) journal new → length journal.list ≤ 262144
unfolding order_of
run_short c m turns journal new valid opens order plays =
    let lengths : length journal.list ≡ length (turns_spell c.order) = ap length plays.events ∙ length_run m (turns_spell turns) ∙ ap (λ (ts : List Turn). length (turns_spell ts)) order in
    let most = (valid_is_sound c valid).order_most in
    omega arith
