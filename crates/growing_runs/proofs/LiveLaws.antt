-- The live actors of a state.
use Rattle.std.proofs.Common.{◌≡◌, ℕ, zero, suc, ◌+◌, ◌-◌, ◌<◌, ◌≤◌, Bool, true, false, not, ◌||◌, nat_lt, List, [], ◌∷◌, length, drop, get_or, Option, Some, slice_get, refl, sym, ap, ◌∙◌, subst, arith, if◌then◌else◌}
use Rattle.std.proofs.lemmas.Bool.{cond-true, cond-false, lt-ltb, ltb-true, true≢false}
use Rattle.std.specs.Bool.{OnTrue, OnFalse}
use Rattle.snp_model.specs.State.{ActorPart, State, idle_part, part_of, IsUnfinished}
use Rattle.run_laws.proofs.RunLaws.{unfinished_at, unfinished_from}
use Rattle.growing_runs.specs.Drives.{is_live, live_from}

-- a test of an actor that exists, from an answer whether it is finished
pub test_of : (m : State) (actor : ℕ) (finished asks result : Bool) → 0 < actor → actor ≤ length m.actors → OnTrue finished (IsUnfinished m actor → ⊥) → OnFalse finished (IsUnfinished m actor)
    → not finished ≡ nat_lt (part_of m actor).item (length (part_of m actor).script)
test_of m actor true asks result some there yes_ no_ = none (nat_lt (part_of m actor).item (length (part_of m actor).script)) refl
  where
    none : (test : Bool) → nat_lt (part_of m actor).item (length (part_of m actor).script) ≡ test → false ≡ test
    none true is = absurd (yes_ (unfinished_from m actor (record { numbered = some; within = omega arith; has_line = ltb-true _ _ is })))
    none false is = refl
test_of m actor false asks result some there yes_ no_ = sym (lt-ltb _ _ (unfinished_at m actor no_).has_line)

-- the live ones from a place on
pub live_split : (asks : ℕ → Bool) (first : ℕ) (parts : List ActorPart) (k : ℕ) → k < length parts
    → live_from asks first (drop k parts) ≡ (if is_live asks first (get_or parts k idle_part) then first ∷ live_from asks (first + 1) (drop (k + 1) parts) else live_from asks (first + 1) (drop (k + 1) parts))
unfolding live_from
live_split asks first [] k within = absurd (omega arith)
live_split asks first (part ∷ parts) zero within = refl
live_split asks first (part ∷ parts) (suc k) within =
    let step : suc k + 1 ≡ suc (k + 1) = omega arith in
    live_split asks first parts k (omega arith)
    ∙ ap (λ (n : ℕ). if is_live asks first (get_or parts k idle_part) then first ∷ live_from asks (first + 1) (drop n (part ∷ parts)) else live_from asks (first + 1) (drop n (part ∷ parts))) (sym step)

pub live_end : (asks : ℕ → Bool) (first k : ℕ) (parts : List ActorPart) → k ≡ length parts → live_from asks first (drop k parts) ≡ []
unfolding live_from
live_end asks first zero [] is = refl
live_end asks first zero (part ∷ parts) is = absurd (omega arith)
live_end asks first (suc k) [] is = absurd (omega arith)
live_end asks first (suc k) (part ∷ parts) is = live_end asks first k parts (omega arith)

-- so by a test that was made
pub live_here : (asks : ℕ → Bool) (m : State) (k : ℕ) → k < length m.actors → true ≡ is_live asks (k + 1) (part_of m (k + 1))
    → live_from asks (k + 1) (drop k m.actors) ≡ (k + 1) ∷ live_from asks (k + 1 + 1) (drop (k + 1) m.actors)
live_here asks m k within test =
    let place : k + 1 - 1 ≡ k = omega arith in
    live_split asks (k + 1) m.actors k within
    ∙ cond-true (is_live asks (k + 1) (get_or m.actors k idle_part)) _ _ (sym (test ∙ ap (λ (n : ℕ). is_live asks (k + 1) (get_or m.actors n idle_part)) place))

pub live_passed : (asks : ℕ → Bool) (m : State) (k : ℕ) → k < length m.actors → false ≡ is_live asks (k + 1) (part_of m (k + 1))
    → live_from asks (k + 1) (drop k m.actors) ≡ live_from asks (k + 1 + 1) (drop (k + 1) m.actors)
live_passed asks m k within test =
    let place : k + 1 - 1 ≡ k = omega arith in
    live_split asks (k + 1) m.actors k within
    ∙ cond-false (is_live asks (k + 1) (get_or m.actors k idle_part)) _ _ (sym (test ∙ ap (λ (n : ℕ). is_live asks (k + 1) (get_or m.actors n idle_part)) place))

-- one that is named among them
pub record IsLiveAt (asks : ℕ → Bool) (first a : ℕ) (parts : List ActorPart) : Type 0 where
  pub low : first ≤ a
  pub within : a - first < length parts
  pub test : is_live asks a (get_or parts (a - first) idle_part) ≡ true

live_later : (asks : ℕ → Bool) (first a : ℕ) (part : ActorPart) (parts : List ActorPart) → IsLiveAt asks (first + 1) a parts → IsLiveAt asks first a (part ∷ parts)
live_later asks first a part parts rest =
    let low = rest.low in
    let within = rest.within in
    let place : a - first ≡ suc (a - (first + 1)) = omega arith in
    record { low = omega arith; within = omega arith; test = subst (λ (n : ℕ). is_live asks a (get_or (part ∷ parts) n idle_part) ≡ true) (sym place) rest.test }

named_by : (asks : ℕ → Bool) (first a : ℕ) (part : ActorPart) (parts : List ActorPart) → ((j : ℕ) → slice_get (live_from asks (first + 1) parts) j ≡ Some a → IsLiveAt asks (first + 1) a parts)
    → (test : Bool) → is_live asks first part ≡ test → (k : ℕ) → slice_get (if test then first ∷ live_from asks (first + 1) parts else live_from asks (first + 1) parts) k ≡ Some a → IsLiveAt asks first a (part ∷ parts)
named_by asks first a part parts behind true is zero named =
    let same : first ≡ a = cc in
    let place : a - first ≡ 0 = omega (arith, same) in
    record {
      low = omega (arith, same);
      within = omega arith;
      test = subst (λ (n : ℕ). is_live asks a (get_or (part ∷ parts) n idle_part) ≡ true) (sym place) (ap (λ (n : ℕ). is_live asks n part) (sym same) ∙ is);
    }
named_by asks first a part parts behind true is (suc j) named = live_later asks first a part parts (behind j named)
named_by asks first a part parts behind false is k named = live_later asks first a part parts (behind k named)

pub named_live : (asks : ℕ → Bool) (first : ℕ) (parts : List ActorPart) (k a : ℕ) → slice_get (live_from asks first parts) k ≡ Some a → IsLiveAt asks first a parts
unfolding live_from
named_live asks first [] k a named = absurd (cc)
named_live asks first (part ∷ parts) k a named = named_by asks first a part parts (λ j later. named_live asks (first + 1) parts j a later) (is_live asks first part) refl k named

-- a live one that is finished gets an answer
or_second : (a b : Bool) → a ≡ false → (a || b) ≡ true → b ≡ true
or_second true b is or = absurd cc
or_second false b is or = or

not_true : (b : Bool) → (b ≡ true → ⊥) → b ≡ false
not_true true none = absurd (none refl)
not_true false none = refl

pub live_asks : (asks : ℕ → Bool) (m : State) (k a : ℕ) → slice_get (live_from asks 1 m.actors) k ≡ Some a → (IsUnfinished m a → ⊥) → asks a ≡ true
live_asks asks m k a named finished =
    let at = named_live asks 1 m.actors k a named in
    let part = part_of m a in
    let low = at.low in
    or_second (nat_lt part.item (length part.script)) (asks a)
    (not_true _ (λ is. finished (unfinished_from m a (record { numbered = omega arith; within = at.within; has_line = ltb-true part.item (length part.script) is })))) at.test

-- where none is live, all are finished
empty_at : (xs : List ℕ) → length xs ≡ 0 → xs ≡ []
empty_at [] e = refl
empty_at (x ∷ xs) e = absurd (omega arith)

pub none_live : (asks : ℕ → Bool) (m : State) → length (live_from asks 1 m.actors) ≡ 0 → live_from asks 1 m.actors ≡ []
none_live asks m e = empty_at (live_from asks 1 m.actors) e

some_by : (asks : ℕ → Bool) (first : ℕ) (part : ActorPart) (parts : List ActorPart) → ((k : ℕ) → k < length parts → is_live asks (first + 1 + k) (get_or parts k idle_part) ≡ true → live_from asks (first + 1) parts ≡ [] → ⊥)
    → (b : Bool) → is_live asks first part ≡ b → (if b then first ∷ live_from asks (first + 1) parts else live_from asks (first + 1) parts) ≡ []
    → (k : ℕ) → k < length (part ∷ parts) → is_live asks (first + k) (get_or (part ∷ parts) k idle_part) ≡ true → ⊥
some_by asks first part parts behind true is none k within test = let lengths = ap length none in omega arith
some_by asks first part parts behind false is none zero within test =
    let same : first + 0 ≡ first = omega arith in
    let both : true ≡ false = sym test ∙ ap (λ (n : ℕ). is_live asks n part) same ∙ is in
    true≢false both
some_by asks first part parts behind false is none (suc k) within test =
    let same : first + suc k ≡ first + 1 + k = omega arith in
    behind k (omega arith) (subst (λ (n : ℕ). is_live asks n (get_or parts k idle_part) ≡ true) same test) none

some_live : (asks : ℕ → Bool) (first : ℕ) (parts : List ActorPart) (k : ℕ) → k < length parts → is_live asks (first + k) (get_or parts k idle_part) ≡ true → live_from asks first parts ≡ [] → ⊥
unfolding live_from
some_live asks first [] k within test none = omega arith
some_live asks first (part ∷ parts) k within test none =
    some_by asks first part parts (λ j less holds empty. some_live asks (first + 1) parts j less holds empty) (is_live asks first part) refl none k within test

or_first : (a b : Bool) → a ≡ true → (a || b) ≡ true
or_first true b is = refl
or_first false b is = absurd cc

pub none_unfinished : (asks : ℕ → Bool) (m : State) (actor : ℕ) → live_from asks 1 m.actors ≡ [] → IsUnfinished m actor → ⊥
none_unfinished asks m actor none is =
    let u = unfinished_at m actor is in
    let numbered = u.numbered in
    let same : 1 + (actor - 1) ≡ actor = omega arith in
    some_live asks 1 m.actors (actor - 1) u.within
    (or_first (nat_lt (part_of m actor).item (length (part_of m actor).script)) (asks (1 + (actor - 1))) (lt-ltb _ _ u.has_line)) none

-- a place behind the first of them, and a place where the first isn't among them
pub behind_first : (xs ys : List ℕ) (x k j : ℕ) (named : Option ℕ) → xs ≡ x ∷ ys → (k ≡ 0 → ⊥) → j ≡ k - 1 → slice_get xs k ≡ named → k < length xs → (slice_get ys j ≡ named) × (j < length ys)
behind_first xs ys x zero j named is some less at within = absurd (some refl)
behind_first xs ys x (suc n) j named is some less at within =
    let same : j ≡ n = omega (arith, less) in
    let lengths : length xs ≡ suc (length ys) = ap length is in
    (ap (slice_get ys) same ∙ ap (λ (l : List ℕ). slice_get l (suc n)) (sym is) ∙ at, omega (arith, same, lengths, within))

pub behind_same : (xs ys : List ℕ) (k j : ℕ) (named : Option ℕ) → xs ≡ ys → j ≡ k → slice_get xs k ≡ named → k < length xs → (slice_get ys j ≡ named) × (j < length ys)
behind_same xs ys k j named is same at within =
    let lengths : length xs ≡ length ys = ap length is in
    (ap (slice_get ys) same ∙ ap (λ (l : List ℕ). slice_get l k) (sym is) ∙ at, omega (arith, same, lengths, within))
