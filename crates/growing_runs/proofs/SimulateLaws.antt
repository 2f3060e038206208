-- A driven run whose answers stand for those of another who answers is driven by that one.
use Rattle.std.proofs.Common.{◌≡◌, ◌⊎◌, ℕ, Bool, List, [], ◌∷◌, length, Some, slice_get, sym, ap, ◌∙◌, subst, ⊎_elim, inl, inr}
use Rattle.std.specs.List.{FoldsTo}
use Rattle.growing_runs.specs.Drives.{Answered, Driven, Places, Rules, Simulates, Turned, Unasked, World, live, live_from, seen_as, world_state}

answered_as : {A B : Type 0} (rules : Rules A) (others : Rules B) (P : A → Type 0) (f : A → B) → Simulates rules others P f → (w : World A) (actor : ℕ) (v : World A) → P w.asker
    → Answered rules w actor v ⊎ Unasked w actor v → P v.asker × (Answered others (seen_as f w) actor (seen_as f v) ⊎ Unasked (seen_as f w) actor (seen_as f v))
answered_as rules others P f sim w actor v is asked =
    ⊎_elim
    (λ (one : Answered rules w actor v).
    let more = sim.gives w.asker actor one.item one.asker is one.gives in (
      subst (λ (u : World _). P u.asker) (sym one.becomes) more.0,
      inl (record { finished = one.finished; item = one.item; asker = f one.asker; gives = more.1; becomes = ap (seen_as f) one.becomes }),
    ))
    (λ (none : Unasked w actor v).
    (subst (λ (u : World _). P u.asker) (sym none.becomes) is, inr (record { unfinished = none.unfinished; becomes = ap (seen_as f) none.becomes })))
    asked

turned_as : {A B : Type 0} (rules : Rules A) (others : Rules B) (places : Places) (P : A → Type 0) (f : A → B) → Simulates rules others P f → (w : World A) (actor : ℕ) (v : World A) → P w.asker
    → Turned rules places w actor v → P v.asker × Turned others places (seen_as f w) actor (seen_as f v)
turned_as rules others places P f sim w actor v is turn =
    let same : rules.asks w.asker ≡ others.asks (f w.asker) = sim.asks w.asker is in
    let lives : live rules.asks w ≡ live others.asks (seen_as f w) = ap (λ (asks : ℕ → Bool). live_from asks 1 (world_state w).actors) same in
    let next = places.later w.turns (length (live rules.asks w)) in
    let middle = answered_as rules others P f sim (record w { turns = next }) actor turn.middle is turn.asked in
    let acted = turn.acted in
    let after = sim.sees turn.middle.asker actor _ acted.event acted.asker middle.0 acted.sees in (
      subst (λ (u : World _). P u.asker) (sym acted.becomes) after.0,
      record {
        picked = subst (λ (l : List ℕ). slice_get l (places.place w.turns (length l)) ≡ Some actor) lives turn.picked;
        middle = seen_as f turn.middle;
        asked = subst (λ (l : List ℕ). Answered others (record (seen_as f w) { turns = places.later w.turns (length l) }) actor (seen_as f turn.middle) ⊎ Unasked (record (seen_as f w) { turns = places.later w.turns (length l) }) actor (seen_as f turn.middle)) lives middle.1;
        acted = record { event = acted.event; asker = f acted.asker; is = acted.is; sees = after.1; becomes = ap (seen_as f) acted.becomes };
      },
    )

turns_as : {A B : Type 0} (rules : Rules A) (others : Rules B) (places : Places) (P : A → Type 0) (f : A → B) → Simulates rules others P f → (w : World A) (actors : List ℕ) (v : World A) → P w.asker
    → FoldsTo (Turned rules places) w actors v → P v.asker × FoldsTo (Turned others places) (seen_as f w) actors (seen_as f v)
turns_as rules others places P f sim w [] v is same = (subst (λ (u : World _). P u.asker) same is, ap (seen_as f) same)
turns_as rules others places P f sim w (actor ∷ actors) v is turns =
    let first = turned_as rules others places P f sim w actor turns.0 is turns.1 in
    let rest = turns_as rules others places P f sim turns.0 actors v first.0 turns.2 in
    (rest.0, (seen_as f turns.0, first.1, rest.1))

pub driven_as : {A B : Type 0} (rules : Rules A) (others : Rules B) (places : Places) (P : A → Type 0) (f : A → B) → Simulates rules others P f → (w v : World A) → P w.asker
    → Driven rules places w v → Driven others places (seen_as f w) (seen_as f v)
driven_as rules others places P f sim w v is driven =
    let turns = turns_as rules others places P f sim w driven.actors v is driven.turns in
    record {
      actors = driven.actors;
      turns = turns.1;
      ends = sym (ap (λ (asks : ℕ → Bool). live_from asks 1 (world_state v).actors) (sim.asks v.asker turns.0)) ∙ driven.ends;
    }
