-- Schedules that are played event by event and turn by turn.
use Rattle.std.proofs.Common.{◌≡◌, ℕ, zero, suc, ◌+◌, ◌<◌, ◌≤◌, List, [], ◌∷◌, ◌++◌, length, take, drop, replicate, Some, refl, sym, ap, ◌∙◌, subst, arith, append_assoc, zero-add}
use Rattle.std.proofs.Math.ListN.{get_or}
use Rattle.std.proofs.lemmas.List.{append-nil}
use Rattle.std.specs.Prelude.{slice_get}
use Rattle.snp_model.specs.declared.event.Event.{Event}
use Rattle.snp_model.specs.declared.scenario.Scenario.{Scenario}
use Rattle.snp_model.specs.declared.scenario.Turn.{Turn}
use Rattle.snp_model.specs.Attempts.{actors_attempts, attempts_of}
use Rattle.snp_model.specs.Journal.{JournalImage}
use Rattle.snp_model.specs.Opening.{opening}
use Rattle.snp_model.specs.Reading.{Valid, turns_spell}
use Rattle.snp_model.specs.Run.{IsDefinedFrom, run_from, state_from}
use Rattle.snp_model.specs.State.{State, IsUnfinished}
use Rattle.snp_model.specs.Step.{event_of, after}
use Rattle.snp_model.proofs.SoundLaws.{valid_is_sound}
use Rattle.run_laws.proofs.RoomLaws.{run_has_room, run_length}
use Rattle.run_laws.proofs.RunLaws.{length_run, run_append, state_append, defined_append, run_none, state_none, defined_none, run_push, state_push, defined_push}
use Rattle.snp_top.specs.Schedule.{AtOpening, IsFirstBad, IsUnderWay, Plays, PlaysOn}

-- a valid scenario has few attempts
pub attempts_few : (c : Scenario) → Valid c → actors_attempts c.actors ≤ 8192
unfolding attempts_of
attempts_few c valid = (valid_is_sound c valid).attempts_most

-- a machine that was just built is under way
pub opening_under_way : (m : State) (journal : JournalImage) → AtOpening m journal → IsUnderWay m journal
opening_under_way m journal at = record {
  scenario = at.scenario;
  valid = at.valid;
  schedule = [];
  defined = defined_none (opening at.scenario);
  events = at.empty ∙ sym (run_none (opening at.scenario));
  state = at.opens ∙ sym (state_none (opening at.scenario));
  room = at.room;
}

-- one that plays on stays under way
pub goes_on : (m n : State) (s : List ℕ) (journal now : JournalImage) → IsUnderWay m journal → PlaysOn m s journal now n → IsUnderWay n now
goes_on m n s journal now under plays =
    let first : State = opening under.scenario in
    record {
      scenario = under.scenario;
      valid = under.valid;
      schedule = under.schedule ++ s;
      defined = defined_append first under.schedule s under.defined (subst (λ (k : State). IsDefinedFrom k s) under.state plays.defined);
      events = plays.events ∙ ap (λ (l : List (ℕ × Event)). l ++ run_from m s) under.events ∙ ap (λ (k : State). run_from first under.schedule ++ run_from k s) under.state ∙ sym (run_append first under.schedule s);
      state = plays.state ∙ ap (λ (k : State). state_from k s) under.state ∙ sym (state_append first under.schedule s);
      room = plays.room ∙ under.room;
    }

-- an unfinished actor's event has room
pub room_left : (m : State) (journal : JournalImage) (actor : ℕ) → IsUnderWay m journal → IsUnfinished m actor → length journal.list < journal.room
room_left m journal actor under unfinished =
    let room = run_has_room under.scenario under.schedule actor under.defined (subst (λ (k : State). IsUnfinished k actor) under.state unfinished) in
    let events : length journal.list ≡ length under.schedule = ap length under.events ∙ length_run (opening under.scenario) under.schedule in
    let whole = under.room in
    omega arith

-- the entries that make a run are few
pub entries_few : (m : State) (s : List ℕ) (journal now : JournalImage) (n : State) → AtOpening m journal → PlaysOn m s journal now n → length s ≤ 262144
entries_few m s journal now n at plays =
    let most = run_length at.scenario s (subst (λ (k : State). IsDefinedFrom k s) at.opens plays.defined) in
    let attempts = (valid_is_sound at.scenario at.valid).attempts_most in
    omega arith

-- what is played on from an empty journal
pub plays_whole : (m : State) (s : List ℕ) (journal now : JournalImage) (n : State) → AtOpening m journal → PlaysOn m s journal now n → Plays m s now n
plays_whole m s journal now n at plays =
    record { defined = plays.defined; events = plays.events ∙ ap (λ (l : List (ℕ × Event)). l ++ run_from m s) at.empty; state = plays.state }

pub plays_none : (m : State) (journal : JournalImage) → PlaysOn m [] journal journal m
plays_none m journal =
    record { defined = defined_none m; events = sym (append-nil journal.list) ∙ ap (λ (events : List (ℕ × Event)). journal.list ++ events) (sym (run_none m)); room = refl; state = sym (state_none m) }

pub plays_more : (m n new : State) (s : List ℕ) (before journal now : JournalImage) (actor : ℕ) (event : Event) → PlaysOn m s before journal n → IsUnfinished n actor
    → event ≡ event_of n actor → now.list ≡ journal.list ++ (actor, event) ∷ [] → now.room ≡ journal.room → new ≡ after n actor → PlaysOn m (s ++ actor ∷ []) before now new
plays_more m n new s before journal now actor event plays unfinished makes adds same becomes =
    let made : (actor, event) ∷ [] ≡ (actor, event_of (state_from m s) actor) ∷ [] = ap (λ (e : Event). (actor, e) ∷ []) (makes ∙ ap (λ (k : State). event_of k actor) plays.state) in
    record {
      defined = defined_push m s actor plays.defined (subst (λ (k : State). IsUnfinished k actor) plays.state unfinished);
      events = adds ∙ ap (λ (l : List (ℕ × Event)). l ++ (actor, event) ∷ []) plays.events ∙ append_assoc before.list (run_from m s) ((actor, event) ∷ []) ∙ ap (λ (l : List (ℕ × Event)). before.list ++ (run_from m s ++ l)) made ∙ ap (λ (l : List (ℕ × Event)). before.list ++ l) (sym (run_push m s actor));
      room = same ∙ plays.room;
      state = becomes ∙ ap (λ (k : State). after k actor) plays.state ∙ sym (state_push m s actor);
    }

pub plays_append : (m n new : State) (s t : List ℕ) (before journal now : JournalImage) → PlaysOn m s before journal n → PlaysOn n t journal now new → PlaysOn m (s ++ t) before now new
plays_append m n new s t before journal now first second =
    record {
      defined = defined_append m s t first.defined (subst (λ (k : State). IsDefinedFrom k t) first.state second.defined);
      events = second.events ∙ ap (λ (l : List (ℕ × Event)). l ++ run_from n t) first.events ∙ append_assoc before.list (run_from m s) (run_from n t) ∙ ap (λ (k : State). before.list ++ (run_from m s ++ run_from k t)) first.state ∙ ap (λ (l : List (ℕ × Event)). before.list ++ l) (sym (run_append m s t));
      room = second.room ∙ first.room;
      state = second.state ∙ ap (λ (k : State). state_from k t) first.state ∙ sym (state_append m s t);
    }

pub replicate_push : (n a : ℕ) → replicate n a ++ a ∷ [] ≡ replicate (suc n) a
replicate_push zero a = refl
replicate_push (suc n) a = ap (λ (l : List ℕ). a ∷ l) (replicate_push n a)

-- one more turn
pub spell_more : (turns : List Turn) (k : ℕ) (d : Turn) → k < length turns → turns_spell (take (k + 1) turns) ≡ turns_spell (take k turns) ++ replicate (get_or turns k d).count (get_or turns k d).actor
unfolding turns_spell
spell_more [] k d within = absurd (omega arith)
spell_more (t ∷ ts) zero d within = append-nil (replicate t.count t.actor)
spell_more (t ∷ ts) (suc k) d within =
    let one : suc k + 1 ≡ suc (k + 1) = omega arith in
    ap (λ (n : ℕ). turns_spell (take n (t ∷ ts))) one
    ∙ ap (λ (l : List ℕ). replicate t.count t.actor ++ l) (spell_more ts k d (omega arith))
    ∙ sym (append_assoc (replicate t.count t.actor) (turns_spell (take k ts)) (replicate (get_or ts k d).count (get_or ts k d).actor))

-- the turns so far, and those that are left
pub spell_split : (turns : List Turn) (k : ℕ) → turns_spell turns ≡ turns_spell (take k turns) ++ turns_spell (drop k turns)
unfolding turns_spell
spell_split [] zero = refl
spell_split [] (suc k) = refl
spell_split (t ∷ ts) zero = refl
spell_split (t ∷ ts) (suc k) = ap (λ (l : List ℕ). replicate t.count t.actor ++ l) (spell_split ts k) ∙ sym (append_assoc (replicate t.count t.actor) (turns_spell (take k ts)) (turns_spell (drop k ts)))

-- one turn among the others
pub spell_at : (turns : List Turn) (k : ℕ) (d : Turn) → k < length turns → turns_spell turns ≡ turns_spell (take k turns) ++ (replicate (get_or turns k d).count (get_or turns k d).actor ++ turns_spell (drop (k + 1) turns))
spell_at turns k d within =
    spell_split turns (k + 1) ∙ ap (λ (l : List ℕ). l ++ turns_spell (drop (k + 1) turns)) (spell_more turns k d within)
    ∙ append_assoc (turns_spell (take k turns)) (replicate (get_or turns k d).count (get_or turns k d).actor) (turns_spell (drop (k + 1) turns))

get_behind : (front back : List ℕ) (k : ℕ) → slice_get (front ++ back) (length front + k) ≡ slice_get back k
get_behind [] back k = ap (slice_get back) (zero-add k)
get_behind (x ∷ front) back k =
    let step : suc (length front) + k ≡ suc (length front + k) = omega arith in
    ap (slice_get (x ∷ (front ++ back))) step ∙ get_behind front back k

take_behind : (front back : List ℕ) (k : ℕ) → take (length front + k) (front ++ back) ≡ front ++ take k back
take_behind [] back k = ap (λ (n : ℕ). take n back) (zero-add k)
take_behind (x ∷ front) back k =
    let step : suc (length front) + k ≡ suc (length front + k) = omega arith in
    ap (λ (n : ℕ). take n (x ∷ (front ++ back))) step ∙ ap (λ (l : List ℕ). x ∷ l) (take_behind front back k)

get_copy : (count made a : ℕ) (rest : List ℕ) → made < count → slice_get (replicate count a ++ rest) made ≡ Some a
get_copy zero made a rest within = absurd (omega arith)
get_copy (suc count) zero a rest within = refl
get_copy (suc count) (suc made) a rest within = get_copy count made a rest (omega arith)

take_copies : (count made a : ℕ) (rest : List ℕ) → made < count → take made (replicate count a ++ rest) ≡ replicate made a
take_copies zero made a rest within = absurd (omega arith)
take_copies (suc count) zero a rest within = refl
take_copies (suc count) (suc made) a rest within = ap (λ (l : List ℕ). a ∷ l) (take_copies count made a rest (omega arith))

-- the entries before the one at which a turn stops
pub stops_behind : (s front rest : List ℕ) (count made actor entry : ℕ) → s ≡ front ++ (replicate count actor ++ rest) → made < count → entry ≡ length front
    → take (entry + made) s ≡ front ++ replicate made actor
stops_behind s front rest count made actor entry whole few place =
    let spot : entry + made ≡ length front + made = ap (λ (k : ℕ). k + made) place in
    (λ i. take (spot i) (whole i)) ∙ take_behind front (replicate count actor ++ rest) made ∙ ap (λ (l : List ℕ). front ++ l) (take_copies count made actor rest few)

-- the entry at which a turn stops
pub first_bad : (m n : State) (s front rest : List ℕ) (count made actor entry : ℕ) (before now : JournalImage)
    → s ≡ front ++ (replicate count actor ++ rest) → made < count → entry ≡ length front → PlaysOn m (front ++ replicate made actor) before now n → (IsUnfinished n actor → ⊥)
    → IsFirstBad m s (entry + made) actor
first_bad m n s front rest count made actor entry before now whole few place plays bad =
    let spot : entry + made ≡ length front + made = ap (λ (k : ℕ). k + made) place in
    let front_is = stops_behind s front rest count made actor entry whole few place in
    record {
      named = (λ i. slice_get (whole i) (spot i)) ∙ get_behind front (replicate count actor ++ rest) made ∙ get_copy count made actor rest few;
      defined = subst (λ (l : List ℕ). IsDefinedFrom m l) (sym front_is) plays.defined;
      bad = λ unfinished. bad (subst (λ (k : State). IsUnfinished k actor) (ap (λ (l : List ℕ). state_from m l) front_is ∙ sym plays.state) unfinished);
    }
