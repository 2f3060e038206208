-- That a board keeps what its type says, as it is built and by each event, and that its journal goes on.
use Rattle.std.proofs.Common.{◌≡◌, ℕ, ◌==◌, ◌-◌, ◌*◌, ◌^◌, ◌<◌, ◌≤◌, Bool, true, false, ◌++◌, List, [], ◌∷◌, length, get_or, Some, refl, sym, ap, ◌∙◌, subst, append_assoc}
use Rattle.std.proofs.lemmas.List.{append-nil}
use Rattle.std.proofs.lemmas.Option.{slice_get-get_or, slice_get_past}
use Rattle.std.specs.Bool.{OnFalse}
use Rattle.snp_model.specs.declared.event.Event.{Event}
use Rattle.snp_model.specs.declared.scenario.Actor.{Actor}
use Rattle.snp_model.specs.declared.scenario.Scenario.{Scenario}
use Rattle.snp_model.specs.Attempts.{attempts_of}
use Rattle.snp_model.specs.Journal.{JournalImage}
use Rattle.snp_model.specs.Journals.{IsRun, items_of, state_at}
use Rattle.snp_model.specs.Opening.{opening}
use Rattle.snp_model.specs.Reading.{Valid}
use Rattle.snp_model.specs.State.{State, IsUnfinished}
use Rattle.snp_model.specs.Step.{event_of, after}
use Rattle.run_laws.proofs.JournalsLaws.{script_few, is_run_none, is_run_push, is_run_room, state_at_none, state_at_push}
use Rattle.machine_board.specs.Boards.{GoesOn, IsBoard}

-- at the opening
pub board_opens : (c : Scenario) (m : State) (attempts : ℕ) → Valid c → m ≡ opening c → attempts ≡ attempts_of c → IsBoard c m (record { list = []; room = 32 * attempts })
board_opens c m attempts valid opens counted =
    record { valid = valid; run = is_run_none c; machine = opens ∙ sym (state_at_none c); room = ap (λ (n : ℕ). 32 * n) counted }

-- after an event
pub board_steps : (c : Scenario) (m new : State) (journal now : JournalImage) (actor : ℕ) (event : Event) → IsBoard c m journal → IsUnfinished m actor
    → event ≡ event_of m actor → new ≡ after m actor → now.list ≡ journal.list ++ (actor, event) ∷ [] → now.room ≡ journal.room → IsBoard c new now
board_steps c m new journal now actor event board unfinished makes becomes adds same =
    let state = board.machine in
    let run = is_run_push c journal.list actor event board.run (subst (λ (k : State). IsUnfinished k actor) state unfinished) (makes ∙ ap (λ (k : State). event_of k actor) state) in
    record {
      valid = board.valid;
      run = subst (λ (l : List (ℕ × Event)). IsRun c l) (sym adds) run;
      machine = becomes ∙ ap (λ (k : State). after k actor) state ∙ sym (state_at_push c journal.list actor event) ∙ ap (λ (l : List (ℕ × Event)). state_at c l) (sym adds);
      room = same ∙ board.room;
    }

-- where an actor is unfinished, there is room for its event
pub board_has_room : (c : Scenario) (m : State) (journal : JournalImage) (actor : ℕ) → IsBoard c m journal → IsUnfinished m actor → length journal.list < 32 * attempts_of c
board_has_room c m journal actor board unfinished =
    is_run_room c journal.list actor board.run (subst (λ (k : State). IsUnfinished k actor) board.machine unfinished)

-- so where a test says that an actor isn't finished
pub room_unfinished : (c : Scenario) (m : State) (journal : JournalImage) (actor : ℕ) (finished : Bool) → IsBoard c m journal → OnFalse finished (IsUnfinished m actor) → OnFalse finished (length journal.list < 32 * attempts_of c)
room_unfinished c m journal actor true board unfinished = tt
room_unfinished c m journal actor false board unfinished = board_has_room c m journal actor board unfinished

-- the items of an actor that exists, and of one that doesn't
pub items_there : (c : Scenario) (actor : ℕ) (there : Actor) → (actor == 0) ≡ false → actor - 1 < length c.actors → there ≡ get_or c.actors (actor - 1) there → length there.script ≡ items_of c actor
items_there c actor there some within is = rw (some, slice_get-get_or c.actors (actor - 1) there within, ← is) refl

pub items_none : (c : Scenario) (actor : ℕ) → (actor == 0) ≡ false → length c.actors ≤ actor - 1 → 0 ≡ items_of c actor
items_none c actor some past = rw (some, slice_get_past c.actors (actor - 1) past) refl

pub items_few : (c : Scenario) (actor : ℕ) (there : Actor) → Valid c → actor - 1 < length c.actors → there ≡ get_or c.actors (actor - 1) there → length there.script < 2 ^ 32
items_few c actor there valid within is = script_few c (actor - 1) there valid (slice_get-get_or c.actors (actor - 1) there within ∙ ap Some (sym is))

-- a journal goes on by no event, by one more, and by those of two runs
pub goes_on_none : (entries : List (ℕ × Event)) → GoesOn entries entries
unfolding GoesOn
goes_on_none entries = ([], sym (append-nil entries))

pub goes_on_push : (first now new : List (ℕ × Event)) (entry : ℕ × Event) → GoesOn first now → new ≡ now ++ entry ∷ [] → GoesOn first new
unfolding GoesOn
goes_on_push first now new entry on adds = (on.0 ++ entry ∷ [], adds ∙ ap (λ (l : List (ℕ × Event)). l ++ entry ∷ []) on.1 ∙ append_assoc first on.0 (entry ∷ []))

pub goes_on_both : (first now new : List (ℕ × Event)) → GoesOn first now → GoesOn now new → GoesOn first new
unfolding GoesOn
goes_on_both first now new one two = (one.0 ++ two.0, two.1 ∙ ap (λ (l : List (ℕ × Event)). l ++ two.0) one.1 ∙ append_assoc first one.0 two.0)
