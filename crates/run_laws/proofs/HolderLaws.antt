-- Who holds the lock of a frame, by the locks that the open attempts have taken: before an event of an actor and after it.
use Rattle.std.proofs.Common.{◌≡◌, ◌≢◌, ℕ, zero, suc, ◌+◌, ◌-◌, ◌<◌, Bool, true, false, cond, List, [], ◌∷◌, Option, Some, None, refl, sym, ap, ◌∙◌, subst, ⊎_elim, arith}
use Rattle.std.proofs.lemmas.Bool.{cases_eq, cases_Bool, true≢false}
use Rattle.std.proofs.lemmas.Bool.Decides.{nat_tests}
use Rattle.std.proofs.lemmas.List.{get_or-set_other}
use Rattle.snp_model.specs.Entries.{released}
use Rattle.snp_model.specs.Locks.{locks_frame, holder_from, holder_of}
use Rattle.snp_model.specs.State.{ActorPart, State, part_of, idle_part}
use Rattle.snp_model.specs.Step.{after}
use Rattle.run_laws.specs.KeptLocks.{actor_at, KeepsLocks, OwnsLocks, relocked}
use Rattle.run_laws.specs.OpenAttempts.{IsWalking}
use Rattle.run_laws.proofs.LockLaws.{IsUnlocked, none_locked, not_true}
use Rattle.run_laws.proofs.LockedLaws.{step_keeps_locks}

-- a frame is locked by no two actors of a list
abbrev IsByOne : List ActorPart → ℕ → Type 0
IsByOne actors frame = (j k : ℕ) → locks_frame frame (actor_at actors j) ≡ true → locks_frame frame (actor_at actors k) ≡ true → j ≡ k

-- the holder of a frame, whose list begins at a number, is the actor at a place that has locked it
record IsHolder (first : ℕ) (actors : List ActorPart) (frame actor : ℕ) : Type 0 where
  place : ℕ
  number : actor ≡ first + place
  locks : locks_frame frame (actor_at actors place) ≡ true

idle_locks_none : (frame : ℕ) → locks_frame frame idle_part ≡ false
unfolding idle_part
idle_locks_none frame = refl

none_or_some : (holder : Option ℕ) (actor : ℕ) → holder ≡ None → holder ≡ Some actor → ⊥
none_or_some holder actor none some = cc

holder_found : (first : ℕ) (actors : List ActorPart) (frame actor : ℕ) → holder_from first actors frame ≡ Some actor → IsHolder first actors frame actor
unfolding holder_from
holder_found first [] frame actor is = absurd (none_or_some None actor refl is)
holder_found first (part ∷ actors) frame actor is =
    ⊎_elim
    (λ (own : locks_frame frame part ≡ true).
    record { place = 0; number = own_number (subst (λ (b : Bool). cond b (Some first) (holder_from (first + 1) actors frame) ≡ Some actor) own is); locks = own })
    (λ (other : locks_frame frame part ≡ false).
    let later = holder_found (first + 1) actors frame actor (subst (λ (b : Bool). cond b (Some first) (holder_from (first + 1) actors frame) ≡ Some actor) other is) in
    record { place = suc later.place; number = let n = later.number in omega arith; locks = later.locks })
    (cases_Bool (locks_frame frame part))
  where
    own_number : Some first ≡ Some actor → actor ≡ first + 0
    own_number e = let same : first ≡ actor = cc in omega arith

-- where a frame is locked by one actor alone, that is its holder
holder_is : (first : ℕ) (actors : List ActorPart) (frame place : ℕ) → IsByOne actors frame → locks_frame frame (actor_at actors place) ≡ true → holder_from first actors frame ≡ Some (first + place)
unfolding holder_from
holder_is first [] frame place one locks = absurd (true≢false (sym locks ∙ idle_locks_none frame))
holder_is first (part ∷ actors) frame zero one locks =
    subst (λ (b : Bool). cond b (Some first) (holder_from (first + 1) actors frame) ≡ Some (first + 0)) (sym locks) (ap (λ (n : ℕ). Some n) (omega arith))
holder_is first (part ∷ actors) frame (suc place) one locks =
    let other : locks_frame frame part ≡ false = not_true (locks_frame frame part) (λ own. let same = one 0 (suc place) own locks in omega arith) in
    subst (λ (b : Bool). cond b (Some first) (holder_from (first + 1) actors frame) ≡ Some (first + suc place)) (sym other)
    (holder_is (first + 1) actors frame place (λ j k a b. let same = one (suc j) (suc k) a b in omega arith) locks ∙ ap (λ (n : ℕ). Some n) (omega arith))

-- a frame that no actor has locked has no holder
holder_none : (first : ℕ) (actors : List ActorPart) (frame : ℕ) → IsUnlocked actors frame → holder_from first actors frame ≡ None
unfolding holder_from
holder_none first [] frame unlocked = refl
holder_none first (part ∷ actors) frame unlocked =
    subst (λ (b : Bool). cond b (Some first) (holder_from (first + 1) actors frame) ≡ None) (sym (unlocked 0)) (holder_none (first + 1) actors frame (λ k. unlocked (suc k)))

-- the locks of an actor are those that its open attempt has taken
pub owns_locks : (m : State) (actor : ℕ) → KeepsLocks m → 0 < actor → OwnsLocks actor (part_of m actor) (holder_of m)
owns_locks m actor keeps some = record {
  has = λ frame locks. holder_is 1 m.actors frame (actor - 1) (λ j k a b. keeps.one.pages_by_one j k frame a b) locks ∙ ap (λ (n : ℕ). Some n) (omega arith);
  only = λ frame is. let found = holder_found 1 m.actors frame actor is in
      subst (λ (k : ℕ). locks_frame frame (actor_at m.actors k) ≡ true) (let n = found.number in omega arith) found.locks;
}

-- another actor's part stays, by its place
other_stays : (m : State) (actor place : ℕ) → place ≢ actor - 1 → actor_at (after m actor).actors place ≡ actor_at m.actors place
unfolding after
other_stays m actor place apart = get_or-set_other m.actors (actor - 1) place _ idle_part apart

-- who holds a frame that the actor hasn't locked after its event
none_after : (m : State) (actor frame : ℕ) → locks_frame frame (part_of (after m actor) actor) ≡ false → ((place : ℕ) → place ≢ actor - 1 → locks_frame frame (actor_at m.actors place) ≡ false) → IsUnlocked (after m actor).actors frame
none_after m actor frame own others place =
    ⊎_elim
    (λ (same : place ≡ actor - 1). subst (λ (k : ℕ). locks_frame frame (actor_at (after m actor).actors k) ≡ false) (sym same) own)
    (λ (apart : place ≢ actor - 1). subst (λ (part : ActorPart). locks_frame frame part ≡ false) (sym (other_stays m actor place apart)) (others place apart))
    (cases_eq place (actor - 1))

released_own : (actor : ℕ) → released actor (Some actor) ≡ None
released_own actor = grind (arith, nat_tests)

released_other : (actor holder : ℕ) → holder ≢ actor → released actor (Some holder) ≡ Some holder
released_other actor holder apart = grind (arith, nat_tests)

let_go : (m : State) (actor frame : ℕ) (holder : Option ℕ) → KeepsLocks m → KeepsLocks (after m actor) → 0 < actor → locks_frame frame (part_of (after m actor) actor) ≡ false → holder_of m frame ≡ holder
    → holder_of (after m actor) frame ≡ released actor holder
let_go m actor frame None keeps keeps' some own is =
    holder_none 1 (after m actor).actors frame (none_after m actor frame own (λ place apart. none_locked 1 m.actors frame is place))
let_go m actor frame (Some holder) keeps keeps' some own is =
    let found = holder_found 1 m.actors frame holder is in
    ⊎_elim
    (λ (same : holder ≡ actor).
    holder_none 1 (after m actor).actors frame (none_after m actor frame own
    (λ place apart. not_true (locks_frame frame (actor_at m.actors place)) (λ locks. apart (let one = keeps.one.pages_by_one place found.place frame locks found.locks in let n = found.number in omega arith))))
    ∙ sym (released_own actor) ∙ ap (λ (n : ℕ). released actor (Some n)) (sym same))
    (λ (apart : holder ≢ actor).
    let elsewhere : found.place ≢ actor - 1 = λ e. apart (let n = found.number in omega arith) in
    holder_is 1 (after m actor).actors frame found.place (λ j k a b. keeps'.one.pages_by_one j k frame a b) (subst (λ (part : ActorPart). locks_frame frame part ≡ true) (sym (other_stays m actor found.place elsewhere)) found.locks)
    ∙ ap (λ (n : ℕ). Some n) (sym found.number) ∙ sym (released_other actor holder apart))
    (cases_eq holder actor)

-- after an event of an actor it holds what it then has locked, and all else stays with its holders
pub holders_after : (m : State) (actor : ℕ) → KeepsLocks m → IsWalking m.frames (part_of m actor) → 0 < actor → holder_of (after m actor) ≡ relocked actor (part_of (after m actor) actor).standing.locks (holder_of m)
holders_after m actor keeps walking some =
    let keeps' = step_keeps_locks m actor keeps walking in
    let part = part_of (after m actor) actor in
    λ i frame. (by_own (locks_frame frame part) frame keeps' refl) i
  where
    by_own : (own : Bool) (frame : ℕ) → KeepsLocks (after m actor) → locks_frame frame (part_of (after m actor) actor) ≡ own
        → holder_of (after m actor) frame ≡ relocked actor (part_of (after m actor) actor).standing.locks (holder_of m) frame
    by_own true frame keeps' own = (owns_locks (after m actor) actor keeps' some).has frame own ∙ sym (rw own refl)
    by_own false frame keeps' own = let_go m actor frame (holder_of m frame) keeps keeps' some own refl ∙ sym (rw own refl)
