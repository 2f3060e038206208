-- Who holds the lock of a guest's context, by the locks that the open attempts have taken: before an event of an actor and after it.
use Rattle.std.proofs.Common.{◌≡◌, ◌≢◌, ℕ, zero, suc, ◌+◌, ◌-◌, ◌<◌, Bool, true, false, cond, List, [], ◌∷◌, Option, Some, None, refl, sym, ap, ◌∙◌, subst, ⊎_elim, arith}
use Rattle.std.proofs.lemmas.Bool.{cases_eq, cases_Bool, true≢false}
use Rattle.std.proofs.lemmas.Bool.Decides.{nat_tests}
use Rattle.std.proofs.lemmas.List.{get_or-set_other}
use Rattle.snp_model.specs.Entries.{released}
use Rattle.snp_model.specs.Locks.{locks_context, context_holder_from, context_holder_of}
use Rattle.snp_model.specs.State.{ActorPart, State, part_of, idle_part}
use Rattle.snp_model.specs.Step.{after}
use Rattle.run_laws.specs.KeptLocks.{actor_at, KeepsLocks, OwnsContext, recontexted}
use Rattle.run_laws.specs.OpenAttempts.{IsWalking}
use Rattle.run_laws.proofs.FirmwareLocked.{none_locks}
use Rattle.run_laws.proofs.LockLaws.{not_true}
use Rattle.run_laws.proofs.LockedLaws.{step_keeps_locks}

-- a context is locked by no two actors of a list
abbrev IsByOne : List ActorPart → ℕ → Type 0
IsByOne actors guest = (j k : ℕ) → locks_context guest (actor_at actors j) ≡ true → locks_context guest (actor_at actors k) ≡ true → j ≡ k

-- the holder of a context, whose list begins at a number, is the actor at a place that has locked it
record IsHolder (first : ℕ) (actors : List ActorPart) (guest actor : ℕ) : Type 0 where
  place : ℕ
  number : actor ≡ first + place
  locks : locks_context guest (actor_at actors place) ≡ true

-- no actor of a list has locked a context
abbrev IsUnlocked : List ActorPart → ℕ → Type 0
IsUnlocked actors guest = (place : ℕ) → locks_context guest (actor_at actors place) ≡ false

idle_locks_none : (guest : ℕ) → locks_context guest idle_part ≡ false
unfolding idle_part
idle_locks_none guest = refl

none_or_some : (holder : Option ℕ) (actor : ℕ) → holder ≡ None → holder ≡ Some actor → ⊥
none_or_some holder actor none some = cc

holder_found : (first : ℕ) (actors : List ActorPart) (guest actor : ℕ) → context_holder_from first actors guest ≡ Some actor → IsHolder first actors guest actor
unfolding context_holder_from
holder_found first [] guest actor is = absurd (none_or_some None actor refl is)
holder_found first (part ∷ actors) guest actor is =
    ⊎_elim
    (λ (own : locks_context guest part ≡ true).
    record { place = 0; number = own_number (subst (λ (b : Bool). cond b (Some first) (context_holder_from (first + 1) actors guest) ≡ Some actor) own is); locks = own })
    (λ (other : locks_context guest part ≡ false).
    let later = holder_found (first + 1) actors guest actor (subst (λ (b : Bool). cond b (Some first) (context_holder_from (first + 1) actors guest) ≡ Some actor) other is) in
    record { place = suc later.place; number = let n = later.number in omega arith; locks = later.locks })
    (cases_Bool (locks_context guest part))
  where
    own_number : Some first ≡ Some actor → actor ≡ first + 0
    own_number e = let same : first ≡ actor = cc in omega arith

-- where a context is locked by one actor alone, that is its holder
holder_is : (first : ℕ) (actors : List ActorPart) (guest place : ℕ) → IsByOne actors guest → locks_context guest (actor_at actors place) ≡ true → context_holder_from first actors guest ≡ Some (first + place)
unfolding context_holder_from
holder_is first [] guest place one locks = absurd (true≢false (sym locks ∙ idle_locks_none guest))
holder_is first (part ∷ actors) guest zero one locks =
    subst (λ (b : Bool). cond b (Some first) (context_holder_from (first + 1) actors guest) ≡ Some (first + 0)) (sym locks) (ap (λ (n : ℕ). Some n) (omega arith))
holder_is first (part ∷ actors) guest (suc place) one locks =
    let other : locks_context guest part ≡ false = not_true (locks_context guest part) (λ own. let same = one 0 (suc place) own locks in omega arith) in
    subst (λ (b : Bool). cond b (Some first) (context_holder_from (first + 1) actors guest) ≡ Some (first + suc place)) (sym other)
    (holder_is (first + 1) actors guest place (λ j k a b. let same = one (suc j) (suc k) a b in omega arith) locks ∙ ap (λ (n : ℕ). Some n) (omega arith))

-- a context that no actor has locked has no holder
holder_none : (first : ℕ) (actors : List ActorPart) (guest : ℕ) → IsUnlocked actors guest → context_holder_from first actors guest ≡ None
unfolding context_holder_from
holder_none first [] guest unlocked = refl
holder_none first (part ∷ actors) guest unlocked =
    subst (λ (b : Bool). cond b (Some first) (context_holder_from (first + 1) actors guest) ≡ None) (sym (unlocked 0)) (holder_none (first + 1) actors guest (λ k. unlocked (suc k)))

-- the context that an actor has locked is the one that its open attempt has taken
pub owns_context : (m : State) (actor : ℕ) → KeepsLocks m → 0 < actor → OwnsContext actor (part_of m actor) (context_holder_of m)
owns_context m actor keeps some = record {
  has = λ guest locks. holder_is 1 m.actors guest (actor - 1) (λ j k a b. keeps.one.contexts_by_one j k guest a b) locks ∙ ap (λ (n : ℕ). Some n) (omega arith);
  only = λ guest is. let found = holder_found 1 m.actors guest actor is in
      subst (λ (k : ℕ). locks_context guest (actor_at m.actors k) ≡ true) (let n = found.number in omega arith) found.locks;
}

-- another actor's part stays, by its place
other_stays : (m : State) (actor place : ℕ) → place ≢ actor - 1 → actor_at (after m actor).actors place ≡ actor_at m.actors place
unfolding after
other_stays m actor place apart = get_or-set_other m.actors (actor - 1) place _ idle_part apart

-- who holds a context that the actor hasn't locked after its event
none_after : (m : State) (actor guest : ℕ) → locks_context guest (part_of (after m actor) actor) ≡ false → ((place : ℕ) → place ≢ actor - 1 → locks_context guest (actor_at m.actors place) ≡ false) → IsUnlocked (after m actor).actors guest
none_after m actor guest own others place =
    ⊎_elim
    (λ (same : place ≡ actor - 1). subst (λ (k : ℕ). locks_context guest (actor_at (after m actor).actors k) ≡ false) (sym same) own)
    (λ (apart : place ≢ actor - 1). subst (λ (part : ActorPart). locks_context guest part ≡ false) (sym (other_stays m actor place apart)) (others place apart))
    (cases_eq place (actor - 1))

released_own : (actor : ℕ) → released actor (Some actor) ≡ None
released_own actor = grind (arith, nat_tests)

released_other : (actor holder : ℕ) → holder ≢ actor → released actor (Some holder) ≡ Some holder
released_other actor holder apart = grind (arith, nat_tests)

let_go : (m : State) (actor guest : ℕ) (holder : Option ℕ) → KeepsLocks m → KeepsLocks (after m actor) → 0 < actor → locks_context guest (part_of (after m actor) actor) ≡ false → context_holder_of m guest ≡ holder
    → context_holder_of (after m actor) guest ≡ released actor holder
let_go m actor guest None keeps keeps' some own is =
    holder_none 1 (after m actor).actors guest (none_after m actor guest own (λ place apart. none_locks 1 m.actors guest is place))
let_go m actor guest (Some holder) keeps keeps' some own is =
    let found = holder_found 1 m.actors guest holder is in
    ⊎_elim
    (λ (same : holder ≡ actor).
    holder_none 1 (after m actor).actors guest (none_after m actor guest own
    (λ place apart. not_true (locks_context guest (actor_at m.actors place)) (λ locks. apart (let one = keeps.one.contexts_by_one place found.place guest locks found.locks in let n = found.number in omega arith))))
    ∙ sym (released_own actor) ∙ ap (λ (n : ℕ). released actor (Some n)) (sym same))
    (λ (apart : holder ≢ actor).
    let elsewhere : found.place ≢ actor - 1 = λ e. apart (let n = found.number in omega arith) in
    holder_is 1 (after m actor).actors guest found.place (λ j k a b. keeps'.one.contexts_by_one j k guest a b) (subst (λ (part : ActorPart). locks_context guest part ≡ true) (sym (other_stays m actor found.place elsewhere)) found.locks)
    ∙ ap (λ (n : ℕ). Some n) (sym found.number) ∙ sym (released_other actor holder apart))
    (cases_eq holder actor)

-- after an event of an actor it holds the context that it then has locked, and all others stay with their holders
pub context_holders_after : (m : State) (actor : ℕ) → KeepsLocks m → IsWalking m.frames (part_of m actor) → 0 < actor → context_holder_of (after m actor) ≡ recontexted actor (part_of (after m actor) actor).standing.context_lock (context_holder_of m)
context_holders_after m actor keeps walking some =
    let keeps' = step_keeps_locks m actor keeps walking in
    let part = part_of (after m actor) actor in
    λ i guest. (by_own (locks_context guest part) guest keeps' refl) i
  where
    by_own : (own : Bool) (guest : ℕ) → KeepsLocks (after m actor) → locks_context guest (part_of (after m actor) actor) ≡ own
        → context_holder_of (after m actor) guest ≡ recontexted actor (part_of (after m actor) actor).standing.context_lock (context_holder_of m) guest
    by_own true guest keeps' own = (owns_context (after m actor) actor keeps' some).has guest own ∙ sym (rw own refl)
    by_own false guest keeps' own = let_go m actor guest (context_holder_of m guest) keeps keeps' some own refl ∙ sym (rw own refl)
