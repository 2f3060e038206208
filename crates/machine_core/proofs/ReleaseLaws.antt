-- What is left of locks once an actor has released its own, region by region.
use Rattle.std.proofs.Common.{◌≡◌, ◌≢◌, ℕ, zero, suc, ◌+◌, ◌/◌, ◌<◌, ◌≤◌, Bool, true, false, ◌||◌, cond, eqb, get_or, IsSome, List, [], ◌∷◌, length, drop, map, Option, Some, None, refl, sym, ap, ◌∙◌, subst, ⊎_elim, arith}
use Rattle.std.proofs.lemmas.Bool.{cases_eq, true≢false}
use Rattle.std.proofs.lemmas.Bool.Decides.{nat_tests}
use Rattle.std.proofs.lemmas.List.{drop_more}
use Rattle.std.specs.List.{list_any}
use Rattle.snp_model.specs.Entries.{released}
use Rattle.snp_model.specs.Locks.{covers}
use Rattle.snp_model.specs.State.{PageLock}
use Rattle.snp_model.specs.Touches.{region_of}
use Rattle.run_laws.specs.KeptLocks.{relocked}
use Rattle.machine_core.specs.declared.taken_lock.TakenLock.{TakenLock}
use Rattle.machine_core.specs.Actors.{page_lock_of}
use Rattle.machine_core.specs.Bays.{HasTouched, Stock}
use Rattle.machine_core.specs.CommandPages.{released_in}
use Rattle.machine_core.specs.Commands.{AreInOneRegion, frames_touched, let_go_in}
use Rattle.machine_core.proofs.RangeLaws.{released_other}

-- the frame that a lock names is among what its release touches
lock_touched : (locks : List TakenLock) (place : ℕ) (lock : TakenLock) → place < length locks → list_any (λ region. eqb region (region_of (get_or locks place lock).frame)) (map (λ (l : PageLock). region_of l.frame) (map page_lock_of locks)) ≡ true
lock_touched [] place lock within = absurd (omega arith)
lock_touched (own ∷ locks) zero lock within = grind (arith, nat_tests)
lock_touched (own ∷ locks) (suc place) lock within =
    let later = lock_touched locks place lock (omega arith) in
    by_first (eqb (region_of own.frame) (region_of (get_or locks place lock).frame)) _ later
  where
    by_first : (first later : Bool) → later ≡ true → (first || later) ≡ true
    by_first true later is = refl
    by_first false later is = is

pub lock_frame_has : (locks : List TakenLock) (place : ℕ) (lock : TakenLock) (stock : Stock) → place < length locks → HasTouched (frames_touched (record { locks = map page_lock_of locks; context_lock = None; computed = None })) stock
    → IsSome (stock.bays ((get_or locks place lock).frame / 512))
lock_frame_has locks place lock stock within has = has.bays (get_or locks place lock).frame (lock_touched locks place lock within)

-- what is released stays so
let_go_kept : (actor frame : ℕ) (locks : List PageLock) (holder : ℕ → Option ℕ) → holder frame ≢ Some actor → let_go_in actor locks holder frame ≡ holder frame
unfolding let_go_in
let_go_kept actor frame [] holder other = refl
let_go_kept actor frame (lock ∷ locks) holder other =
    let now = λ (f : ℕ). cond (eqb (f / 512) (lock.frame / 512)) (released actor (holder f)) (holder f) in
    let same : now frame ≡ holder frame = by_region (eqb (frame / 512) (lock.frame / 512)) in
    let_go_kept actor frame locks now (λ held. other (sym same ∙ held)) ∙ same
  where
    by_region : (own : Bool) → cond own (released actor (holder frame)) (holder frame) ≡ holder frame
    by_region true = released_other actor (holder frame) other
    by_region false = refl

none_held : (actor : ℕ) → None ≢ Some actor
none_held actor is = cc

released_own : (actor : ℕ) → released actor (Some actor) ≡ None
released_own actor = grind (arith, nat_tests)

-- a lock that the actor has is released in the region of one of its locks that covers the frame
let_go_own : (actor frame : ℕ) (locks : List PageLock) (holder : ℕ → Option ℕ) → AreInOneRegion locks → holder frame ≡ Some actor → list_any (covers frame) locks ≡ true → let_go_in actor locks holder frame ≡ None
unfolding let_go_in
let_go_own actor frame [] holder regions held covered = absurd (true≢false (sym covered))
let_go_own actor frame (lock ∷ locks) holder regions held covered = by_region (eqb (frame / 512) (lock.frame / 512)) refl (λ now still others. let_go_own actor frame locks now regions.1 still others)
  where
    by_cover : (own : Bool) → covers frame lock ≡ own → eqb (frame / 512) (lock.frame / 512) ≡ false → list_any (covers frame) locks ≡ true
    by_cover true own apart = absurd (let same = regions.0 frame own in true≢false (grind (arith, nat_tests)))
    by_cover false own apart = subst (λ (b : Bool). (b || list_any (covers frame) locks) ≡ true) own covered

    by_region : (own : Bool) → eqb (frame / 512) (lock.frame / 512) ≡ own → ((now : ℕ → Option ℕ) → now frame ≡ Some actor → list_any (covers frame) locks ≡ true → let_go_in actor locks now frame ≡ None)
        → let_go_in actor locks (λ f. cond (eqb (f / 512) (lock.frame / 512)) (released actor (holder f)) (holder f)) frame ≡ None
    by_region true own next =
        let now = λ (f : ℕ). cond (eqb (f / 512) (lock.frame / 512)) (released actor (holder f)) (holder f) in
        let free : now frame ≡ None = ap (λ (b : Bool). cond b (released actor (holder frame)) (holder frame)) own ∙ ap (released actor) held ∙ released_own actor in
        let_go_kept actor frame locks now (λ is. none_held actor (sym free ∙ is)) ∙ free
    by_region false own next =
        let now = λ (f : ℕ). cond (eqb (f / 512) (lock.frame / 512)) (released actor (holder f)) (holder f) in
        let still : now frame ≡ Some actor = ap (λ (b : Bool). cond b (released actor (holder frame)) (holder frame)) own ∙ held in
        next now still (by_cover (covers frame lock) refl own)

-- an actor that holds nothing but what these locks cover has released it all
pub all_let_go : (actor : ℕ) (locks : List PageLock) (holder : ℕ → Option ℕ) → AreInOneRegion locks → ((frame : ℕ) → holder frame ≡ Some actor → list_any (covers frame) locks ≡ true) → let_go_in actor locks holder ≡ relocked actor [] holder
all_let_go actor locks holder regions only = λ i frame. each frame (holder frame) refl i
  where
    each : (frame : ℕ) (held : Option ℕ) → holder frame ≡ held → let_go_in actor locks holder frame ≡ released actor (holder frame)
    each frame None held = let_go_kept actor frame locks holder (λ is. none_held actor (sym held ∙ is)) ∙ held ∙ sym (ap (released actor) held)
    each frame (Some other) held =
        ⊎_elim
        (λ (own : other ≡ actor).
        let is : holder frame ≡ Some actor = held ∙ ap (λ (n : ℕ). Some n) own in
        let_go_own actor frame locks holder regions is (only frame is) ∙ sym (ap (released actor) is ∙ released_own actor))
        (λ (apart : other ≢ actor).
        let not_own : holder frame ≢ Some actor = λ is. apart (let e = sym held ∙ is in cc) in
        let_go_kept actor frame locks holder not_own ∙ sym (released_other actor (holder frame) not_own))
        (cases_eq other actor)

-- one region more
pub let_go_next : (actor : ℕ) (locks : List TakenLock) (place : ℕ) (lock : TakenLock) (old new : ℕ → Option ℕ) → place < length locks
    → new ≡ released_in ((get_or locks place lock).frame / 512) actor old
    → let_go_in actor (map page_lock_of (drop (place + 1) locks)) new ≡ let_go_in actor (map page_lock_of (drop place locks)) old
unfolding let_go_in
let_go_next actor locks place lock old new within is =
    ap (let_go_in actor (map page_lock_of (drop (place + 1) locks))) is ∙ ap (λ (ls : List TakenLock). let_go_in actor (map page_lock_of ls) old) (sym (drop_more locks place lock within))

none_left : (locks : List TakenLock) (place : ℕ) → length locks ≤ place → drop place locks ≡ []
none_left [] zero past = refl
none_left [] (suc place) past = refl
none_left (lock ∷ locks) zero past = absurd (omega arith)
none_left (lock ∷ locks) (suc place) past = none_left locks place (omega arith)

pub let_go_all : (actor : ℕ) (locks : List TakenLock) (place : ℕ) (now first : ℕ → Option ℕ) → length locks ≤ place
    → let_go_in actor (map page_lock_of (drop place locks)) now ≡ let_go_in actor (map page_lock_of locks) first → now ≡ let_go_in actor (map page_lock_of locks) first
unfolding let_go_in
let_go_all actor locks place now first past is = ap (λ (ls : List TakenLock). let_go_in actor (map page_lock_of ls) now) (sym (none_left locks place past)) ∙ is
