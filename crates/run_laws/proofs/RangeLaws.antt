-- Ranges of frames: what is changed over one, what is found in one, and the regions that a lock's range has.
use Rattle.std.proofs.Common.{◌≡◌, ℕ, zero, suc, ◌+◌, ◌-◌, ◌<◌, ◌≤◌, Bool, true, false, cond, ◌||◌, eqb, List, ◌∷◌, ◌++◌, Option, refl, sym, ap, ◌∙◌, arith}
use Rattle.std.proofs.Math.Bool.{or-true}
use Rattle.std.proofs.lemmas.Bool.{true≢false}
use Rattle.std.proofs.lemmas.Bool.Decides.{nat_tests}
use Rattle.std.proofs.lemmas.List.Folds.{list_any_at, list_any-append}
use Rattle.std.proofs.lemmas.List.FromFn.{length-range_with_len, get_or-range_with_len}
use Rattle.std.specs.List.{list_any, range_with_len}
use Rattle.std.specs.Option.{option_or}
use Rattle.snp_model.specs.Facts.{some_frame}
use Rattle.snp_model.specs.Locks.{in_range, over, range_holder}
use Rattle.snp_model.specs.State.{PageLock}
use Rattle.snp_model.specs.Touches.{Touched, region_of, touches_frame, lock_regions, locks_regions, with_locks}

-- a change over a range, of what is the same there before it
pub over_same : {A : Type 0} (base count : ℕ) (change change' : ℕ → A → A) (kept kept' : ℕ → A) (frame : ℕ)
    → (in_range base count frame ≡ true → (place : ℕ) (x : A) → change place x ≡ change' place x) → kept frame ≡ kept' frame
    → over base count change kept frame ≡ over base count change' kept' frame
over_same base count change change' kept kept' frame alike same =
    elim (in_range base count frame) as (λ (inside : Bool). (inside ≡ true → (place : ℕ) (x : _) → change place x ≡ change' place x) → cond inside (change (frame - base) (kept frame)) (kept frame) ≡ cond inside (change' (frame - base) (kept' frame)) (kept' frame))
    [ true ↦ λ is. is refl (frame - base) (kept frame) ∙ ap (change' (frame - base)) same | false ↦ λ is. same ] alike

-- a frame outside the range stays
pub over_beside : {A : Type 0} (base count : ℕ) (change : ℕ → A → A) (kept : ℕ → A) (frame : ℕ) → in_range base count frame ≡ false → kept frame ≡ over base count change kept frame
over_beside base count change kept frame outside = rw outside refl

-- the first frame of a range that has any
pub range_first : (base count frame : ℕ) → in_range base count frame ≡ true → in_range base count base ≡ true
range_first base count frame inside = grind (arith, nat_tests)

-- a test that says the same of each frame of the range
pub some_frame_same : (test test' : ℕ → Bool) (base count : ℕ) → ((frame : ℕ) → in_range base count frame ≡ true → test frame ≡ test' frame) → some_frame test base count ≡ some_frame test' base count
unfolding some_frame
some_frame_same test test' base zero same = refl
some_frame_same test test' base (suc count) same =
    let first = same base (grind (arith, nat_tests)) in
    let others = some_frame_same test test' (base + 1) count (λ frame inside. same frame (grind (arith, nat_tests))) in
    ap (λ (b : Bool). b || list_any test (range_with_len (base + 1) count)) first ∙ ap (λ (b : Bool). test' base || b) others

-- holders that are the same in the range
pub range_holder_same : (holder holder' : ℕ → Option ℕ) (base count : ℕ) → ((frame : ℕ) → in_range base count frame ≡ true → holder frame ≡ holder' frame)
    → range_holder holder base count ≡ range_holder holder' base count
unfolding range_holder
range_holder_same holder holder' base zero same = refl
range_holder_same holder holder' base (suc count) same =
    let first = same base (grind (arith, nat_tests)) in
    let others = range_holder_same holder holder' (base + 1) count (λ frame inside. same frame (grind (arith, nat_tests))) in
    ap (λ (o : Option ℕ). option_or o (range_holder holder (base + 1) count)) first ∙ ap (option_or (holder' base)) others

-- a number is among those from another on
among : (x first count : ℕ) → first ≤ x → x < first + count → list_any (λ region. eqb region x) (range_with_len first count) ≡ true
among x first count low high =
    list_any_at (λ region. eqb region x) (range_with_len first count) (x - first) 0 (rw (length-range_with_len first count) (omega arith))
    (rw (get_or-range_with_len first count (x - first) 0 (omega arith)) (grind (arith, nat_tests)))

-- a frame that a lock covers is in one of its regions
pub lock_region : (lock : PageLock) (frame : ℕ) → in_range lock.base lock.count frame ≡ true → list_any (λ region. eqb region (region_of frame)) (lock_regions lock) ≡ true
lock_region lock frame inside =
    let low : lock.base ≤ frame = grind (arith, nat_tests) in
    let high : frame < lock.base + lock.count = grind (arith, nat_tests) in
    among (region_of frame) (region_of lock.base) _ (omega arith) (omega arith)

-- so it is touched where the locks may be released, the first one's here
pub covered_touched : (lock : PageLock) (locks : List PageLock) (touched : Touched) (frame : ℕ) → in_range lock.base lock.count frame ≡ true → touches_frame (with_locks (lock ∷ locks) touched) frame ≡ true
unfolding locks_regions
covered_touched lock locks touched frame inside =
    let test = λ (region : ℕ). eqb region (region_of frame) in
    rw (list_any-append test touched.regions (lock_regions lock ++ locks_regions locks), list_any-append test (lock_regions lock) (locks_regions locks), lock_region lock frame inside)
    (or-true (list_any test touched.regions))

-- and so is all that is touched anyway
pub also_touched : (locks : List PageLock) (touched : Touched) (frame : ℕ) → touches_frame touched frame ≡ true → touches_frame (with_locks locks touched) frame ≡ true
also_touched locks touched frame is_touched = rw (list_any-append (λ region. eqb region (region_of frame)) touched.regions (locks_regions locks)) (rw is_touched refl)

-- a frame that isn't touched is covered by none of the locks that may be released
pub beside_covered : (lock : PageLock) (locks : List PageLock) (touched : Touched) (frame : ℕ) → touches_frame (with_locks (lock ∷ locks) touched) frame ≡ false → in_range lock.base lock.count frame ≡ false
beside_covered lock locks touched frame apart =
    elim (in_range lock.base lock.count frame) as (λ (inside : Bool). (inside ≡ true → touches_frame (with_locks (lock ∷ locks) touched) frame ≡ true) → inside ≡ false)
    [ true ↦ λ is. absurd (true≢false (sym (is refl) ∙ apart)) | false ↦ λ is. refl ] (covered_touched lock locks touched frame)
