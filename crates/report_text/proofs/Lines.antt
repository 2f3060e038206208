-- The lines of a report, one after another.
use Rattle.std.proofs.Common.{◌≡◌, ◌≢◌, ℕ, zero, suc, ◌+◌, ◌-◌, ◌<◌, ◌≤◌, cond, eqb, List, [], ◌∷◌, ◌++◌, length, get_or, drop, slice_get, Option, Some, IfSome, refl, subst, ap, sym, ◌∙◌, arith, append_assoc, append-nil, codes, true, false}
use Rattle.std.proofs.lemmas.Bool.Decides.{nat_tests}
use Rattle.std.proofs.lemmas.List.{at_drop_more, drop_all}
use Rattle.snp_model.specs.declared.event.Event.{Event}
use Rattle.snp_model.specs.declared.report.GuestLine.{GuestLine}
use Rattle.snp_model.specs.EventText.{event_text}
use Rattle.snp_model.specs.Journal.{actors_of}
use Rattle.snp_model.specs.Report.{line, event_lines, runs_after, runs_of, run_text, order_rest, order_lines, guest_text, guest_lines, end_text, head_text, report_text}

-- an entry, and those after it
pub entry_at : {X : Type 0} (xs : List X) (k : ℕ) (x : X) → slice_get xs k ≡ Some x → drop k xs ≡ x ∷ drop (k + 1) xs
entry_at [] k x e = absurd (cc)
entry_at (y ∷ xs) zero x e = cc
entry_at (y ∷ xs) (suc k) x e =
    let f : suc k + 1 ≡ suc (k + 1) = omega arith in
    rw f (entry_at xs k x e)

pub length-actors : (entries : List (ℕ × Event)) → length (actors_of entries) ≡ length entries
unfolding actors_of
length-actors [] = refl
length-actors (e ∷ entries) = ap suc (length-actors entries)

-- the line of an event, and those after it
pub event_at : (entries : List (ℕ × Event)) (k : ℕ) (e : ℕ × Event) → slice_get entries k ≡ Some e → event_lines k (drop k entries) ≡ line (event_text k e.0 e.1) ++ event_lines (k + 1) (drop (k + 1) entries)
unfolding event_lines
event_at entries k e h = rw (entry_at entries k e h) refl

-- the line of an event behind others, and those after it
pub event_behind : (front done : List ℕ) (entries : List (ℕ × Event)) (k : ℕ) (e : ℕ × Event) → slice_get entries k ≡ Some e → done ≡ front ++ line (event_text k e.0 e.1) → front ++ event_lines k (drop k entries) ≡ done ++ event_lines (k + 1) (drop (k + 1) entries)
event_behind front done entries k e h d =
    let more = event_lines (k + 1) (drop (k + 1) entries) in
    ap (λ (t : List ℕ). front ++ t) (event_at entries k e h)
    ∙ sym (append_assoc front (line (event_text k e.0 e.1)) more)
    ∙ ap (λ (t : List ℕ). t ++ more) (sym d)

-- what holds of the entry at a place of a list within which it is
pub entry_there : {X : Type 0} (P : X → Type 0) (xs : List X) (k : ℕ) → k < length xs → IfSome (slice_get xs k) P → (x : X) × (slice_get xs k ≡ Some x) × P x
entry_there P [] k within holds = absurd (omega arith)
entry_there P (x ∷ xs) zero within holds = (x, refl, holds)
entry_there P (x ∷ xs) (suc k) within holds = entry_there P xs k (omega arith) holds

-- the line of the event at a place behind others, and those after it
pub line_behind : (front done : List ℕ) (entries : List (ℕ × Event)) (k : ℕ) → k < length entries → IfSome (slice_get entries k) (λ e. done ≡ front ++ line (event_text k e.0 e.1)) → front ++ event_lines k (drop k entries) ≡ done ++ event_lines (k + 1) (drop (k + 1) entries)
line_behind front done entries k within is =
    let found = entry_there (λ (e : ℕ × Event). done ≡ front ++ line (event_text k e.0 e.1)) entries k within is in
    event_behind front done entries k found.0 found.1 found.2

-- what is said of an entry at a place holds of all that can stand there
pub said_of_entry : {X : Type 0} (P : X → Type 0) (found : Option X) (x : X) → found ≡ Some x → P x → IfSome found P
said_of_entry {X = X} P found x is holds = subst (λ (o : Option X). IfSome o P) (sym is) holds

-- a run begins
pub run_begins : (actor : ℕ) (actors : List ℕ) → runs_of (actor ∷ actors) ≡ runs_after actor 1 actors
unfolding runs_of
run_begins actor actors = refl

goes_on : (actor count next : ℕ) (more : List ℕ) → next ≡ actor → runs_after actor count (next ∷ more) ≡ runs_after actor (count + 1) more
unfolding runs_after
goes_on actor count next more same = grind (arith, nat_tests)

-- a run goes on
pub run_goes_on : (actor count next : ℕ) (rest more : List ℕ) → rest ≡ next ∷ more → next ≡ actor → runs_after actor count rest ≡ runs_after actor (count + 1) more
run_goes_on actor count next rest more e same = ap (λ (r : List ℕ). runs_after actor count r) e ∙ goes_on actor count next more same

-- a run ends before another actor, and at the end
ends : (actor count next : ℕ) (more : List ℕ) → next ≢ actor → runs_after actor count (next ∷ more) ≡ (actor, count) ∷ runs_of (next ∷ more)
unfolding runs_after runs_of
ends actor count next more other = grind (arith, nat_tests)

pub run_ends : (actor count next : ℕ) (rest more : List ℕ) → rest ≡ next ∷ more → next ≢ actor → runs_after actor count rest ≡ (actor, count) ∷ runs_of rest
run_ends actor count next rest more e other =
    ap (λ (r : List ℕ). runs_after actor count r) e ∙ ends actor count next more other ∙ ap (λ (r : List ℕ). (actor, count) ∷ runs_of r) (sym e)

pub run_ends_all : (actor count : ℕ) (rest : List ℕ) → rest ≡ [] → runs_after actor count rest ≡ (actor, count) ∷ runs_of rest
unfolding runs_after runs_of
run_ends_all actor count rest e = rw e refl

-- an order line begins
begins_after : (actor count : ℕ) (actors : List ℕ) → order_lines (runs_after actor count actors) ≡ codes "order" ++ order_rest 16 (runs_after actor count actors)
unfolding runs_after order_lines order_rest
begins_after actor count [] = refl
begins_after actor count (next ∷ actors) =
    elim (eqb next actor) as (λ b. order_lines (cond b (runs_after actor (count + 1) actors) ((actor, count) ∷ runs_after next 1 actors)) ≡ codes "order" ++ order_rest 16 (cond b (runs_after actor (count + 1) actors) ((actor, count) ∷ runs_after next 1 actors))) [
      | true ↦ begins_after actor (count + 1) actors
      | false ↦ refl
    ]

pub order_begins : (actors : List ℕ) → 0 < length actors → order_lines (runs_of actors) ≡ codes "order" ++ order_rest 16 (runs_of actors)
unfolding runs_of
order_begins [] h = absurd (omega arith)
order_begins (actor ∷ actors) h = begins_after actor 1 actors

-- it goes on with a run
rest_goes_on : (room : ℕ) (run : ℕ × ℕ) (runs : List (ℕ × ℕ)) → 0 < room → order_rest room (run ∷ runs) ≡ run_text run ++ order_rest (room - 1) runs
unfolding order_rest
rest_goes_on zero run runs h = absurd (omega arith)
rest_goes_on (suc room) run runs h =
    let e : suc room - 1 ≡ room = omega arith in
    ap (λ (k : ℕ). run_text run ++ order_rest k runs) (sym e)

pub order_goes_on : (whole front done : List ℕ) (room : ℕ) (runs : List (ℕ × ℕ)) (run : ℕ × ℕ) (more : List (ℕ × ℕ)) → 0 < room → runs ≡ run ∷ more → whole ≡ front ++ order_rest room runs → done ≡ front ++ run_text run → whole ≡ done ++ order_rest (room - 1) more
order_goes_on whole front done room runs run more some e w d =
    w ∙ ap (λ (rs : List (ℕ × ℕ)). front ++ order_rest room rs) e
    ∙ ap (λ (t : List ℕ). front ++ t) (rest_goes_on room run more some)
    ∙ sym (append_assoc front (run_text run) (order_rest (room - 1) more))
    ∙ ap (λ (t : List ℕ). t ++ order_rest (room - 1) more) (sym d)

-- it ends where it is full, and after the last run
full : (runs : List (ℕ × ℕ)) → order_rest 0 runs ≡ 10 ∷ order_lines runs
unfolding order_rest order_lines
full [] = refl
full (run ∷ runs) = refl

pub order_full : (room : ℕ) (runs : List (ℕ × ℕ)) → room ≡ 0 → order_rest room runs ≡ 10 ∷ order_lines runs
order_full room runs none = ap (λ (k : ℕ). order_rest k runs) none ∙ full runs

pub order_last : (room : ℕ) (rest : List ℕ) → rest ≡ [] → order_rest room (runs_of rest) ≡ 10 ∷ order_lines (runs_of rest)
unfolding order_rest order_lines runs_of
order_last room rest e = rw e refl

pub order_ends : (whole front done : List ℕ) (room : ℕ) (runs : List (ℕ × ℕ)) → order_rest room runs ≡ 10 ∷ order_lines runs → whole ≡ front ++ order_rest room runs → done ≡ front ++ 10 ∷ [] → whole ≡ done ++ order_lines runs
order_ends whole front done room runs e w d =
    w ∙ ap (λ (t : List ℕ). front ++ t) e
    ∙ sym (append_assoc front (10 ∷ []) (order_lines runs))
    ∙ ap (λ (t : List ℕ). t ++ order_lines runs) (sym d)

-- the line of a guest, and those after it
pub guest_at : (guests seen : List GuestLine) (i : ℕ) (d : GuestLine) → seen ≡ guests → i < length seen → guest_lines (drop i guests) ≡ line (guest_text (get_or seen i d)) ++ guest_lines (drop (i + 1) guests)
unfolding guest_lines
guest_at guests seen i d e h =
    ap (λ (gs : List GuestLine). guest_lines (drop i gs)) (sym e)
    ∙ at_drop_more guest_lines seen i d h
    ∙ ap (λ (gs : List GuestLine). line (guest_text (get_or seen i d)) ++ guest_lines (drop (i + 1) gs)) e

-- the parts of a report
pub report_is : (version : ℕ) (entries : List (ℕ × Event)) (guests : List GuestLine) → report_text version entries guests ≡ line (head_text version) ++ (event_lines 0 entries ++ (order_lines (runs_of (actors_of entries)) ++ (guest_lines guests ++ line (end_text (length entries)))))
unfolding report_text
report_is version entries guests = refl

pub no_runs : order_lines (runs_of []) ≡ []
unfolding order_lines runs_of
no_runs = refl

pub no_guests : guest_lines [] ≡ []
unfolding guest_lines
no_guests = refl

no_events : (k : ℕ) → event_lines k [] ≡ []
unfolding event_lines
no_events k = refl

-- no line is left behind others after the last event
pub events_end : (front : List ℕ) (entries : List (ℕ × Event)) (k : ℕ) → length entries ≤ k → front ++ event_lines k (drop k entries) ≡ front
events_end front entries k h =
    ap (λ (rest : List (ℕ × Event)). front ++ event_lines k rest) (drop_all k entries h)
    ∙ ap (λ (t : List ℕ). front ++ t) (no_events k)
    ∙ append-nil front
