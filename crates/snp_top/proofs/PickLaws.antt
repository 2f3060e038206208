-- Schedules that a generator picks.
use Rattle.std.proofs.Common.{◌≡◌, ℕ, zero, suc, ◌+◌, ◌-◌, ◌*◌, ◌<◌, ◌≤◌, Bool, true, false, nat_lt, List, [], ◌∷◌, ◌++◌, length, drop, Option, Some, IsSomeAnd, refl, sym, ap, ◌∙◌, subst, arith, append_assoc, if◌then◌else◌}
use Rattle.std.proofs.lemmas.Bool.{cond-true, cond-false, lt-ltb, ltb-true}
use Rattle.std.proofs.Math.ListN.{get_or}
use Rattle.std.proofs.lemmas.List.{append-nil, length-append}
use Rattle.std.proofs.lemmas.Nat.{mod_below}
use Rattle.std.proofs.lemmas.Option.{slice_get-get_or}
use Rattle.std.specs.Prelude.{slice_get, slice_set}
use Rattle.rand_pcg.specs.Lcg.{Lcg}
use Rattle.rand_pcg.specs.Pcg.{pcg32}
use Rattle.snp_model.specs.declared.event.Event.{Event}
use Rattle.snp_model.specs.declared.scenario.Scenario.{Scenario}
use Rattle.snp_model.specs.Attempts.{attempts_of}
use Rattle.snp_model.specs.Drill.{IsPicked, IsPickedFrom, unfinished, unfinished_from}
use Rattle.snp_model.specs.Generated.{draw, drawn_scenario, generated, generator_of}
use Rattle.snp_model.specs.Journal.{JournalImage}
use Rattle.snp_model.specs.Opening.{opening}
use Rattle.snp_model.specs.Run.{IsDefined, state_after}
use Rattle.snp_model.specs.State.{ActorPart, State, IsUnfinished}
use Rattle.snp_model.specs.Step.{after, event_of}
use Rattle.run_laws.proofs.RoomLaws.{run_has_room}
use Rattle.run_laws.proofs.RunLaws.{defined_none, defined_push, state_none, state_push}
use Rattle.snp_top.specs.Drills.{PicksOn, PlaysPicks}
use Rattle.snp_top.specs.Schedule.{AtOpening}
use Rattle.snp_top.proofs.ScheduleLaws.{plays_more, plays_none, plays_whole}

-- whether a part is unfinished
abbrev has_line : ActorPart → Type 0
has_line part = part.item < length part.script

-- a part of a list that isn't finished
part_here : (first : ℕ) (parts : List ActorPart) (k : ℕ) → IsSomeAnd (slice_get parts k) has_line
    → unfinished_from first (drop k parts) ≡ first ∷ unfinished_from (first + 1) (drop (k + 1) parts)
unfolding unfinished_from
part_here first [] k some = absurd some
part_here first (part ∷ parts) zero some = cond-true (nat_lt part.item (length part.script)) _ _ (lt-ltb part.item (length part.script) some)
part_here first (part ∷ parts) (suc k) some =
    let step : suc k + 1 ≡ suc (k + 1) = omega arith in
    part_here first parts k some ∙ ap (λ (n : ℕ). first ∷ unfinished_from (first + 1) (drop n (part ∷ parts))) (sym step)

not_true : (b : Bool) → (b ≡ true → ⊥) → b ≡ false
not_true true none = absurd (none refl)
not_true false none = refl

-- a part of a list that is finished
part_passed : (first : ℕ) (parts : List ActorPart) (k : ℕ) → k < length parts → (IsSomeAnd (slice_get parts k) has_line → ⊥)
    → unfinished_from first (drop k parts) ≡ unfinished_from (first + 1) (drop (k + 1) parts)
unfolding unfinished_from
part_passed first [] k within none = absurd (omega arith)
part_passed first (part ∷ parts) zero within none = cond-false (nat_lt part.item (length part.script)) _ _ (not_true (nat_lt part.item (length part.script)) (λ test. none (ltb-true part.item (length part.script) test)))
part_passed first (part ∷ parts) (suc k) within none =
    let step : suc k + 1 ≡ suc (k + 1) = omega arith in
    part_passed first parts k (omega arith) none ∙ ap (λ (n : ℕ). unfinished_from (first + 1) (drop n (part ∷ parts))) (sym step)

-- an actor that isn't finished is the first of those from its place on
pub actor_here : (m : State) (k : ℕ) → IsUnfinished m (k + 1) → unfinished_from (k + 1) (drop k m.actors) ≡ (k + 1) ∷ unfinished_from (k + 1 + 1) (drop (k + 1) m.actors)
actor_here m k is =
    let place : k + 1 - 1 ≡ k = omega arith in
    part_here (k + 1) m.actors k (subst (λ (n : ℕ). IsSomeAnd (slice_get m.actors n) has_line) place is.1)

-- one that is finished isn't among them
pub actor_passed : (m : State) (k : ℕ) → k < length m.actors → (IsUnfinished m (k + 1) → ⊥) → unfinished_from (k + 1) (drop k m.actors) ≡ unfinished_from (k + 1 + 1) (drop (k + 1) m.actors)
actor_passed m k within finished =
    let place : k + 1 - 1 ≡ k = omega arith in
    part_passed (k + 1) m.actors k within (λ some. finished (omega arith, subst (λ (n : ℕ). IsSomeAnd (slice_get m.actors n) has_line) (sym place) some))

-- a part that isn't finished goes on
part_goes_on : (first : ℕ) (parts : List ActorPart) (k : ℕ) (part : ActorPart) → IsSomeAnd (slice_get parts k) has_line → IsSomeAnd (slice_get (slice_set parts k part) k) has_line
    → unfinished_from first (slice_set parts k part) ≡ unfinished_from first parts
unfolding unfinished_from
part_goes_on first [] k part was is = absurd was
part_goes_on first (old ∷ parts) zero part was is =
    cond-true (nat_lt part.item (length part.script)) _ _ (lt-ltb part.item (length part.script) is)
    ∙ sym (cond-true (nat_lt old.item (length old.script)) _ _ (lt-ltb old.item (length old.script) was))
part_goes_on first (old ∷ parts) (suc k) part was is =
    ap (λ (rest : List ℕ). if nat_lt old.item (length old.script) then first ∷ rest else rest) (part_goes_on (first + 1) parts k part was is)

-- one that was its last isn't among them any more
part_ends : (first : ℕ) (parts : List ActorPart) (k : ℕ) (part : ActorPart) → IsSomeAnd (slice_get parts k) has_line → (IsSomeAnd (slice_get (slice_set parts k part) k) has_line → ⊥)
    → length (unfinished_from first parts) ≡ length (unfinished_from first (slice_set parts k part)) + 1
unfolding unfinished_from
part_ends first [] k part was is = absurd was
part_ends first (old ∷ parts) zero part was is =
    let rest = unfinished_from (first + 1) parts in
    let before : length (unfinished_from first (old ∷ parts)) ≡ length rest + 1 =
    ap length (cond-true (nat_lt old.item (length old.script)) (first ∷ rest) rest (lt-ltb old.item (length old.script) was)) ∙ omega arith in
    let now : length (unfinished_from first (part ∷ parts)) ≡ length rest =
    ap length (cond-false (nat_lt part.item (length part.script)) (first ∷ rest) rest (not_true (nat_lt part.item (length part.script)) (λ test. is (ltb-true part.item (length part.script) test)))) in
    before ∙ ap (λ (n : ℕ). n + 1) (sym now)
part_ends first (old ∷ parts) (suc k) part was is =
    both (nat_lt old.item (length old.script)) first (unfinished_from (first + 1) parts) (unfinished_from (first + 1) (slice_set parts k part)) (part_ends (first + 1) parts k part was is)
  where
    both : (test : Bool) (first : ℕ) (xs ys : List ℕ) → length xs ≡ length ys + 1 → length (if test then first ∷ xs else xs) ≡ length (if test then first ∷ ys else ys) + 1
    both true first xs ys e = omega arith
    both false first xs ys e = e

-- an actor's step that doesn't finish it leaves the same ones unfinished
pub actor_goes_on : (m new : State) (actor : ℕ) → IsUnfinished m actor → new ≡ after m actor → IsUnfinished new actor → length (unfinished m) ≡ length (unfinished new)
unfolding after
actor_goes_on m new actor was becomes is =
    let now : IsUnfinished (after m actor) actor = subst (λ (k : State). IsUnfinished k actor) becomes is in
    sym (ap (λ (k : State). length (unfinished k)) becomes ∙ ap length (part_goes_on 1 m.actors (actor - 1) _ was.1 now.1))

-- one that finishes it leaves one fewer
pub actor_ends : (m new : State) (actor : ℕ) → IsUnfinished m actor → new ≡ after m actor → (IsUnfinished new actor → ⊥) → length (unfinished m) ≡ length (unfinished new) + 1
unfolding after
actor_ends m new actor was becomes ended =
    part_ends 1 m.actors (actor - 1) _ was.1 (λ some. ended (subst (λ (k : State). IsUnfinished k actor) (sym becomes) (was.0, some))) ∙ ap (λ (k : State). length (unfinished k) + 1) (sym becomes)

-- no actor is left at the end
pub none_behind : (m : State) (first n : ℕ) → n ≡ length m.actors → unfinished_from first (drop n m.actors) ≡ []
unfolding unfinished_from
none_behind m first n whole = go first n m.actors whole
  where
    go : (first n : ℕ) (parts : List ActorPart) → n ≡ length parts → unfinished_from first (drop n parts) ≡ []
    go first zero [] is = refl
    go first zero (part ∷ parts) is = absurd (omega arith)
    go first (suc n) [] is = absurd (omega arith)
    go first (suc n) (part ∷ parts) is = go first n parts (omega arith)

-- a place behind the first of them, and a place where the first isn't among them
pub behind_first : (xs ys : List ℕ) (x k j : ℕ) (named : Option ℕ) → xs ≡ x ∷ ys → (k ≡ 0 → ⊥) → j ≡ k - 1 → slice_get xs k ≡ named → k < length xs → (slice_get ys j ≡ named) × (j < length ys)
behind_first xs ys x zero j named is some less at within = absurd (some refl)
behind_first xs ys x (suc n) j named is some less at within =
    let same : j ≡ n = omega (arith, less) in
    let lengths : length xs ≡ suc (length ys) = ap length is in
    (ap (slice_get ys) same ∙ ap (λ (l : List ℕ). slice_get l (suc n)) (sym is) ∙ at, omega (arith, same, lengths, within))

pub behind_same : (xs ys : List ℕ) (k j : ℕ) (named : Option ℕ) → xs ≡ ys → j ≡ k → slice_get xs k ≡ named → k < length xs → (slice_get ys j ≡ named) × (j < length ys)
behind_same xs ys k j named is same at within =
    let lengths : length xs ≡ length ys = ap length is in
    (ap (slice_get ys) same ∙ ap (λ (l : List ℕ). slice_get l k) (sym is) ∙ at, omega (arith, same, lengths, within))

-- nothing is picked yet
pub picks_none : (m : State) (g : Lcg) (journal : JournalImage) → PicksOn m g journal journal m g
picks_none m g journal = record { schedule = []; plays = plays_none m journal; picks = λ rest picked. picked }

-- one more event, of the actor at the drawn place
pub picks_more : (m n new : State) (g h k : Lcg) (before journal now : JournalImage) (place actor : ℕ) (event : Event)
    → PicksOn m g before journal n h → (place, k) ≡ draw (length (unfinished n)) h → slice_get (unfinished n) place ≡ Some actor → IsUnfinished n actor
    → event ≡ event_of n actor → now.list ≡ journal.list ++ (actor, event) ∷ [] → now.room ≡ journal.room → new ≡ after n actor → PicksOn m g before now new k
unfolding IsPickedFrom
picks_more m n new g h k before journal now place actor event so_far drawn named unfinished_is makes adds same becomes =
    let s = so_far.schedule in
    record {
      schedule = s ++ actor ∷ [];
      plays = plays_more m n new s before journal now actor event so_far.plays unfinished_is makes adds same becomes;
      picks = λ rest picked.
          let next : IsPickedFrom n h (actor ∷ rest) = picked_more n new h k place actor rest drawn named becomes picked in
          subst (λ (l : List ℕ). IsPickedFrom m g l) (sym (append_assoc s (actor ∷ []) rest)) (so_far.picks (actor ∷ rest) next);
    }
  where
    picked_more : (n new : State) (h k : Lcg) (place actor : ℕ) (rest : List ℕ) → (place, k) ≡ draw (length (unfinished n)) h → slice_get (unfinished n) place ≡ Some actor → new ≡ after n actor
        → IsPickedFrom new k rest → IsPickedFrom n h (actor ∷ rest)
    picked_more n new h k place actor rest drawn named becomes picked =
        let at : place ≡ (draw (length (unfinished n)) h).0 = ap (λ (p : ℕ × Lcg). p.0) drawn in
        let left : k ≡ (draw (length (unfinished n)) h).1 = ap (λ (p : ℕ × Lcg). p.1) drawn in
        (subst (λ (p : ℕ). slice_get (unfinished n) p ≡ Some actor) at named, subst (λ (s : State). IsPickedFrom s (draw (length (unfinished n)) h).1 rest) becomes (subst (λ (l : Lcg). IsPickedFrom new l rest) left picked))

-- nobody is left to be picked
pub picks_whole : (m n : State) (g h : Lcg) (before now : JournalImage) → AtOpening m before → PicksOn m g before now n h → length (unfinished n) ≡ 0 → PlaysPicks m g now n
unfolding IsPickedFrom
picks_whole m n g h before now at so_far none =
    let s = so_far.schedule in
    record {
      schedule = s;
      picked = subst (λ (l : List ℕ). IsPickedFrom m g l) (append-nil s) (so_far.picks [] (ended none));
      plays = plays_whole m s before now n at so_far.plays;
    }
  where
    empty : (xs : List ℕ) → length xs ≡ 0 → xs ≡ []
    empty [] e = refl
    empty (x ∷ xs) e = absurd (omega arith)

    ended : length (unfinished n) ≡ 0 → IsPickedFrom n h []
    ended e = empty (unfinished n) e

-- what is named among some
none_named : (xs : List ℕ) (k a : ℕ) → xs ≡ [] → slice_get xs k ≡ Some a → ⊥
none_named [] k a empty named = absurd (cc)
none_named (x ∷ xs) k a empty named = absurd (cc)

same_named : {a b : ℕ} → (let x : Option ℕ = Some a in x) ≡ Some b → a ≡ b
same_named e = cc

-- a number has one schedule
pub one_picked : (m : State) (g : Lcg) (s t : List ℕ) → IsPickedFrom m g s → IsPickedFrom m g t → s ≡ t
unfolding IsPickedFrom
one_picked m g [] [] one other = refl
one_picked m g [] (a ∷ t) one other = absurd (none_named (unfinished m) (draw (length (unfinished m)) g).0 a one other.0)
one_picked m g (a ∷ s) [] one other = absurd (none_named (unfinished m) (draw (length (unfinished m)) g).0 a other one.0)
one_picked m g (a ∷ s) (b ∷ t) one other =
    let same : a ≡ b = same_named (sym one.0 ∙ other.0) in
    let left = (draw (length (unfinished m)) g).1 in
    let rest : s ≡ t = one_picked (after m b) left s t (subst (λ (x : ℕ). IsPickedFrom (after m x) left s) same one.1) other.1 in
    λ i. same i ∷ rest i

-- an actor among those that aren't finished isn't
named_later : (first a : ℕ) (part : ActorPart) (parts : List ActorPart) → (first + 1 ≤ a) × IsSomeAnd (slice_get parts (a - (first + 1))) has_line → (first ≤ a) × IsSomeAnd (slice_get (part ∷ parts) (a - first)) has_line
named_later first a part parts rest =
    let place : a - first ≡ suc (a - (first + 1)) = omega (arith, rest.0) in
    (omega (arith, rest.0), subst (λ (n : ℕ). IsSomeAnd (slice_get (part ∷ parts) n) has_line) (sym place) rest.1)

named_here : (first a : ℕ) (part : ActorPart) (parts : List ActorPart) → ((j : ℕ) → slice_get (unfinished_from (first + 1) parts) j ≡ Some a → (first + 1 ≤ a) × IsSomeAnd (slice_get parts (a - (first + 1))) has_line)
    → (test : Bool) → nat_lt part.item (length part.script) ≡ test → (k : ℕ) → slice_get (if test then first ∷ unfinished_from (first + 1) parts else unfinished_from (first + 1) parts) k ≡ Some a
    → (first ≤ a) × IsSomeAnd (slice_get (part ∷ parts) (a - first)) has_line
named_here first a part parts behind true is zero named =
    let same : first ≡ a = cc in
    let place : a - first ≡ 0 = omega (arith, same) in
    (omega (arith, same), subst (λ (n : ℕ). IsSomeAnd (slice_get (part ∷ parts) n) has_line) (sym place) (ltb-true part.item (length part.script) is))
named_here first a part parts behind true is (suc j) named = named_later first a part parts (behind j named)
named_here first a part parts behind false is k named = named_later first a part parts (behind k named)

named_from : (first : ℕ) (parts : List ActorPart) (k a : ℕ) → slice_get (unfinished_from first parts) k ≡ Some a → (first ≤ a) × IsSomeAnd (slice_get parts (a - first)) has_line
unfolding unfinished_from
named_from first [] k a named = absurd (cc)
named_from first (part ∷ parts) k a named =
    named_here first a part parts (λ j later. named_from (first + 1) parts j a later) (nat_lt part.item (length part.script)) refl k named

pub named_unfinished : (m : State) (k a : ℕ) → slice_get (unfinished m) k ≡ Some a → IsUnfinished m a
named_unfinished m k a named = let at = named_from 1 m.actors k a named in (omega (arith, at.0), at.1)

-- a draw is below its count
draw_below : (count : ℕ) (g : Lcg) → 0 < count → (draw count g).0 < count
unfolding draw
draw_below count g some = mod_below (pcg32 g).0 count some

-- one more actor is picked, if any is left
picked_by : (m : State) (g : Lcg) (left : List ℕ) → unfinished m ≡ left → ((actor : ℕ) → IsUnfinished m actor → (h : Lcg) → (t : List ℕ) × IsPickedFrom (after m actor) h t) → (t : List ℕ) × IsPickedFrom m g t
unfolding IsPickedFrom
picked_by m g [] none next = ([], none)
picked_by m g (x ∷ xs) some next =
    let count = length (unfinished m) in
    let few : 0 < count = let lengths = ap length some in omega arith in
    let k = (draw count g).0 in
    let actor = get_or (unfinished m) k 0 in
    let named = slice_get-get_or (unfinished m) k 0 (draw_below count g few) in
    let rest = next actor (named_unfinished m k actor named) (draw count g).1 in
    (actor ∷ rest.0, (named, rest.1))

-- from every state of a run some schedule is picked: each event uses up room
picked_from : (room : ℕ) (c : Scenario) (s : List ℕ) (g : Lcg) → IsDefined c s → 32 * attempts_of c ≤ room + length s → (t : List ℕ) × IsPickedFrom (state_after c s) g t
picked_from zero c s g defined enough =
    picked_by (state_after c s) g (unfinished (state_after c s)) refl (λ actor is left. let room = run_has_room c s actor defined is in absurd (omega arith))
picked_from (suc room) c s g defined enough =
    picked_by (state_after c s) g (unfinished (state_after c s)) refl (λ actor is left.
    let rest = picked_from room c (s ++ actor ∷ []) left (defined_push (opening c) s actor defined is) (omega (arith, length-append s (actor ∷ []))) in
    (rest.0, subst (λ (k : State). IsPickedFrom k left rest.0) (state_push (opening c) s actor) rest.1))

-- each number has a schedule
pub some_picked : (number : ℕ) → (schedule : List ℕ) × IsPicked number schedule
some_picked number =
    let c = generated number in
    let left = (drawn_scenario (generator_of number)).1 in
    let picked = picked_from (32 * attempts_of c) c [] left (defined_none (opening c)) (omega arith) in
    (picked.0, subst (λ (k : State). IsPickedFrom k left picked.0) (state_none (opening c)) picked.1)

-- and that one alone
pub one_schedule : (number : ℕ) (s t : List ℕ) → IsPicked number s → IsPicked number t → s ≡ t
one_schedule number s t one other = one_picked (opening (generated number)) (drawn_scenario (generator_of number)).1 s t one other
