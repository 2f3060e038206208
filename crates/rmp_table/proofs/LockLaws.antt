-- What is known of the locks that a region keeps.
use Rattle.std.proofs.Common.{◌≡◌, ◌≢◌, ℕ, zero, suc, ◌+◌, ◌<◌, ◌≤◌, Bool, true, false, not, eqb, List, [], ◌∷◌, ◌++◌, length, get_or, set, map, replicate, Option, Some, None, refl, sym, subst, ap, ◌∙◌, inl, inr, arith, length-set, length-append}
use Rattle.std.specs.List.{All, AllByRecursion, Contains, IsDistinct, filter, list_any, range_with_len}
use Rattle.std.specs.Cmp.{IsEquivalence}
use Rattle.std.proofs.lemmas.Bool.{cases_eq, cases_Bool, cond-true, cond-false, eq-eqb, ne_eqb, eqb-true, false≢true}
use Rattle.std.proofs.lemmas.Bool.Decides.{eqb_tells, nat_tests}
use Rattle.std.proofs.lemmas.List.{get_or-set_same, get_or-set_other, map_push, same_lists, length-map}
use Rattle.std.proofs.lemmas.List.Elements.{All-contains, All-filter, All-nil, All-push, recursion_from_All}
use Rattle.std.proofs.lemmas.List.FromFn.{length-map-range_with_len, get_or-map-range_with_len}
use Rattle.std.proofs.lemmas.Map.Keys.{IsDistinct-from_apart, IsDistinct-push, IsDistinct-head, IsDistinct-tail, IsDistinct-cons}
use Rattle.std.proofs.lemmas.Map.Steps.{length-le_from_distinct_below}
use Rattle.std.specs.Option.{option_or}
use Rattle.snp_model.specs.Entries.{released}
use Rattle.snp_model.specs.Locks.{range_holder}
use Rattle.rmp_table.specs.declared.locks.FrameLock.{FrameLock}
use Rattle.rmp_table.specs.Locks.{AreLocks, holder_among, holder_by, holders_by, slots_of}

-- ---- lists by slot

-- a list of which one place is changed
set_over : {X : Type 0} (f g : ℕ → X) (n slot : ℕ) (x : X) → slot < n → g slot ≡ x → ((k : ℕ) → k ≢ slot → g k ≡ f k)
    → map g (range_with_len 0 n) ≡ set (map f (range_with_len 0 n)) slot x
set_over f g n slot x h here others =
    let fs = length-map-range_with_len f 0 n in
    let gs = length-map-range_with_len g 0 n in
    let ss = length-set (map f (range_with_len 0 n)) slot x in
    same_lists _ _ (gs ∙ sym (ss ∙ fs)) (λ k d l. elim (cases_eq k slot) [
      | inl e ↦
          get_or-map-range_with_len g 0 n k k d (omega (arith, gs)) (omega arith)
          ∙ ap g e ∙ here
          ∙ sym (ap (λ (i : ℕ). get_or (set (map f (range_with_len 0 n)) slot x) i d) e ∙ get_or-set_same _ slot x d (omega (arith, fs)))
      | inr o ↦
          get_or-map-range_with_len g 0 n k k d (omega (arith, gs)) (omega arith)
          ∙ others k o
          ∙ sym (get_or-set_other (map f (range_with_len 0 n)) slot k x d o ∙ get_or-map-range_with_len f 0 n k k d (omega (arith, gs)) (omega arith))
    ])

-- a list with one value throughout
all_over : {X : Type 0} (f : ℕ → X) (x : X) → ((k : ℕ) → f k ≡ x) → (a n : ℕ) → map f (range_with_len a n) ≡ replicate n x
all_over f x same a zero = refl
all_over f x same a (suc n) = λ i. same a i ∷ all_over f x same (a + 1) n i

-- a change of each value
map_over : {X Y : Type 0} (f : ℕ → X) (g : ℕ → Y) (h : X → Y) → ((k : ℕ) → g k ≡ h (f k)) → (xs : List ℕ) → map g xs ≡ map h (map f xs)
map_over f g h same [] = refl
map_over f g h same (x ∷ xs) = λ i. same x i ∷ map_over f g h same xs i

-- the lowest holder of a range
pub range_none : (f : ℕ → Option ℕ) (a n : ℕ) → ((k : ℕ) → a ≤ k → k < a + n → f k ≡ None) → range_holder f a n ≡ None
unfolding range_holder
range_none f a zero none = refl
range_none f a (suc n) none =
    ap (λ (o : Option ℕ). option_or o (range_holder f (a + 1) n)) (none a (omega arith) (omega arith)) ∙ range_none f (a + 1) n (λ k low high. none k (omega arith) (omega arith))

pub range_at : (f : ℕ → Option ℕ) (slot holder : ℕ) → f slot ≡ Some holder → (a n : ℕ) → ((k : ℕ) → a ≤ k → k < slot → f k ≡ None) → a ≤ slot → slot < a + n → range_holder f a n ≡ Some holder
unfolding range_holder
range_at f slot holder here a zero none low high = absurd (omega arith)
range_at f slot holder here a (suc n) none low high = elim (cases_eq slot a) [
  | inl e ↦ ap (λ (o : Option ℕ). option_or o (range_holder f (a + 1) n)) (ap f (sym e) ∙ here)
  | inr o ↦
      ap (λ (o : Option ℕ). option_or o (range_holder f (a + 1) n)) (none a (omega arith) (omega (arith, o)))
      ∙ range_at f slot holder here (a + 1) n (λ k p q. none k (omega arith) q) (omega (arith, o)) (omega arith)
]

pub range_same : (f g : ℕ → Option ℕ) (a n : ℕ) → ((k : ℕ) → a ≤ k → k < a + n → f k ≡ g k) → range_holder f a n ≡ range_holder g a n
unfolding range_holder
range_same f g a zero same = refl
range_same f g a (suc n) same =
    ap (λ (o : Option ℕ). option_or o (range_holder f (a + 1) n)) (same a (omega arith) (omega arith))
    ∙ ap (option_or (g a)) (range_same f g (a + 1) n (λ k low high. same k (omega arith) (omega arith)))

-- ---- locks of single frames

among_here : (lock : FrameLock) (locks : List FrameLock) (slot : ℕ) → lock.slot ≡ slot → holder_among (lock ∷ locks) slot ≡ Some lock.holder
unfolding holder_among
among_here lock locks slot e = cond-true _ _ _ (eq-eqb _ _ e)

among_other : (lock : FrameLock) (locks : List FrameLock) (slot : ℕ) → lock.slot ≢ slot → holder_among (lock ∷ locks) slot ≡ holder_among locks slot
unfolding holder_among
among_other lock locks slot o = cond-false _ _ _ (ne_eqb _ _ o)

among_none : (slot : ℕ) → holder_among [] slot ≡ None
unfolding holder_among
among_none slot = refl

-- one more
among_push : (locks : List FrameLock) (lock : FrameLock) (slot : ℕ) → lock.slot ≢ slot → holder_among (locks ++ lock ∷ []) slot ≡ holder_among locks slot
among_push [] lock slot o = among_other lock [] slot o
among_push (first ∷ locks) lock slot o = elim (cases_eq first.slot slot) [
  | inl e ↦ among_here first (locks ++ lock ∷ []) slot e ∙ sym (among_here first locks slot e)
  | inr n ↦ among_other first (locks ++ lock ∷ []) slot n ∙ among_push locks lock slot o ∙ sym (among_other first locks slot n)
]

none≢some : {X : Type 0} (x : X) → Some x ≡ None → ⊥
none≢some x e = cc

among_pushed : (locks : List FrameLock) (lock : FrameLock) → holder_among locks lock.slot ≡ None → holder_among (locks ++ lock ∷ []) lock.slot ≡ Some lock.holder
among_pushed [] lock none = among_here lock [] lock.slot refl
among_pushed (first ∷ locks) lock none = elim (cases_eq first.slot lock.slot) [
  | inl e ↦ absurd (none≢some first.holder (sym (among_here first locks lock.slot e) ∙ none))
  | inr n ↦ among_other first (locks ++ lock ∷ []) lock.slot n ∙ among_pushed locks lock (sym (among_other first locks lock.slot n) ∙ none)
]

-- a frame that isn't locked is none of those of the locks
not_any : (locks : List FrameLock) (slot : ℕ) → holder_among locks slot ≡ None → list_any (eqb slot) (slots_of locks) ≡ false
not_any [] slot none = refl
not_any (first ∷ locks) slot none = elim (cases_eq first.slot slot) [
  | inl e ↦ absurd (none≢some first.holder (sym (among_here first locks slot e) ∙ none))
  | inr n ↦
      let rest : list_any (eqb slot) (slots_of locks) ≡ false = not_any locks slot (sym (among_other first locks slot n) ∙ none) in
      let apart : eqb slot first.slot ≡ false = ne_eqb _ _ (λ e. n (sym e)) in
      grind arith
]

any_below : (locks : List FrameLock) (n slot : ℕ) → AllByRecursion (λ (lock : FrameLock). lock.slot < n) locks → list_any (eqb slot) (slots_of locks) ≡ true → slot < n
any_below [] n slot all found = absurd (false≢true found)
any_below (first ∷ locks) n slot all found = elim (eqb_tells slot first.slot) [
  | inl e ↦ let low : first.slot < n = all.0 in omega (arith, e.1)
  | inr o ↦ any_below locks n slot all.1 (let apart = o.0 in grind arith)
]

eqb_equivalence : IsEquivalence eqb
eqb_equivalence = record {
  refl = λ x. eq-eqb x x refl;
  symm = λ x y. grind (arith, nat_tests);
  congr = λ x y z e. let same : x ≡ y = eqb-true x y e in ap (λ (k : ℕ). eqb k z) same;
}

once_more : (locks : List FrameLock) (lock : FrameLock) → IsDistinct eqb (slots_of locks) → holder_among locks lock.slot ≡ None → IsDistinct eqb (slots_of (locks ++ lock ∷ []))
once_more locks lock once none =
    subst (λ (xs : List ℕ). IsDistinct eqb xs) (sym (map_push (λ (l : FrameLock). l.slot) locks lock)) (IsDistinct-push eqb_equivalence (slots_of locks) lock.slot once (not_any locks lock.slot none))

-- there is room for one more lock of a frame that isn't locked
pub has_room : (every : Option ℕ) (locks : List FrameLock) (capacity : ℕ) (lock : FrameLock) → AreLocks every locks capacity → lock.slot < 512 → holder_among locks lock.slot ≡ None → length locks < capacity
has_room every locks capacity lock are low none =
    let more = locks ++ lock ∷ [] in
    let below : AllByRecursion (λ (l : FrameLock). l.slot < 512) more = recursion_from_All (λ (l : FrameLock). l.slot < 512) more (All-push (λ (l : FrameLock). l.slot < 512) locks lock are.below low) in
    let most : length (slots_of more) ≤ 512 = length-le_from_distinct_below (slots_of more) 512 (once_more locks lock are.once none) (λ q found. any_below more 512 q below found) in
    omega (arith, most, are.room, length-map more (λ (l : FrameLock). l.slot), length-append locks (lock ∷ []))

pub lock_kept : (locks : List FrameLock) (capacity : ℕ) (lock : FrameLock) → AreLocks None locks capacity → lock.slot < 512 → holder_among locks lock.slot ≡ None → AreLocks None (locks ++ lock ∷ []) capacity
lock_kept locks capacity lock are low none = record {
  alone = λ holder e. absurd (none≢some holder (sym e));
  once = once_more locks lock are.once none;
  below = All-push (λ (l : FrameLock). l.slot < 512) locks lock are.below low;
  room = are.room;
}

-- ---- locks are released

-- an actor doesn't hold a lock
abbrev pub is_others : ℕ → FrameLock → Bool
is_others actor lock = not (eqb lock.holder actor)

not_among : (locks : List FrameLock) (slot : ℕ) → AllByRecursion (λ (s : ℕ). eqb slot s ≡ false) (slots_of locks) → holder_among locks slot ≡ None
not_among [] slot all = among_none slot
not_among (first ∷ locks) slot all =
    among_other first locks slot (λ e. false≢true (sym all.0 ∙ eq-eqb _ _ (sym e))) ∙ not_among locks slot all.1

filter_yes : (p : FrameLock → Bool) (lock : FrameLock) (locks : List FrameLock) → p lock ≡ true → filter p (lock ∷ locks) ≡ lock ∷ filter p locks
filter_yes p lock locks e = cond-true _ _ _ e

filter_no : (p : FrameLock → Bool) (lock : FrameLock) (locks : List FrameLock) → p lock ≡ false → filter p (lock ∷ locks) ≡ filter p locks
filter_no p lock locks e = cond-false _ _ _ e

among_released : (locks : List FrameLock) (actor slot : ℕ) → IsDistinct eqb (slots_of locks) → holder_among (filter (is_others actor) locks) slot ≡ released actor (holder_among locks slot)
among_released [] actor slot once = among_none slot ∙ sym (ap (released actor) (among_none slot))
among_released (first ∷ locks) actor slot once =
    let p = is_others actor in
    let rest = among_released locks actor slot (IsDistinct-tail eqb first.slot (slots_of locks) once) in
    elim (eqb_tells first.holder actor) [
      | inl mine ↦
          let gone : p first ≡ false = ap not mine.0 in
          ap (λ (ls : List FrameLock). holder_among ls slot) (filter_no p first locks gone)
          ∙ rest
          ∙ elim (cases_eq first.slot slot) [
            | inl e ↦
                ap (released actor) (ap (holder_among locks) (sym e) ∙ not_among locks first.slot (IsDistinct-head eqb first.slot (slots_of locks) once))
                ∙ sym (ap (released actor) (among_here first locks slot e) ∙ cond-true _ _ _ mine.0)
            | inr n ↦ sym (ap (released actor) (among_other first locks slot n))
          ]
      | inr other ↦
          let stays : p first ≡ true = ap not other.0 in
          ap (λ (ls : List FrameLock). holder_among ls slot) (filter_yes p first locks stays)
          ∙ elim (cases_eq first.slot slot) [
            | inl e ↦ among_here first (filter p locks) slot e ∙ sym (ap (released actor) (among_here first locks slot e) ∙ cond-false _ _ _ other.0)
            | inr n ↦ among_other first (filter p locks) slot n ∙ rest ∙ sym (ap (released actor) (among_other first locks slot n))
          ]
    ]

slots_kept : (P : ℕ → Type 0) (p : FrameLock → Bool) (locks : List FrameLock) → AllByRecursion P (slots_of locks) → AllByRecursion P (slots_of (filter p locks))
slots_kept P p [] all = tt
slots_kept P p (first ∷ locks) all = elim (cases_Bool (p first)) [
  | inl e ↦ subst (λ (ls : List FrameLock). AllByRecursion P (slots_of ls)) (sym (filter_yes p first locks e)) (all.0, slots_kept P p locks all.1)
  | inr e ↦ subst (λ (ls : List FrameLock). AllByRecursion P (slots_of ls)) (sym (filter_no p first locks e)) (slots_kept P p locks all.1)
]

once_kept : (p : FrameLock → Bool) (locks : List FrameLock) → IsDistinct eqb (slots_of locks) → IsDistinct eqb (slots_of (filter p locks))
once_kept p [] once = once
once_kept p (first ∷ locks) once =
    let rest = once_kept p locks (IsDistinct-tail eqb first.slot (slots_of locks) once) in
    elim (cases_Bool (p first)) [
      | inl e ↦
          subst (λ (ls : List FrameLock). IsDistinct eqb (slots_of ls)) (sym (filter_yes p first locks e))
          (IsDistinct-cons eqb first.slot (slots_of (filter p locks)) (slots_kept (λ (s : ℕ). eqb first.slot s ≡ false) p locks (IsDistinct-head eqb first.slot (slots_of locks) once)) rest)
      | inr e ↦ subst (λ (ls : List FrameLock). IsDistinct eqb (slots_of ls)) (sym (filter_no p first locks e)) rest
    ]

pub unlock_kept : (locks : List FrameLock) (capacity actor : ℕ) → AreLocks None locks capacity → AreLocks None (filter (is_others actor) locks) capacity
unlock_kept locks capacity actor are = record {
  alone = λ holder e. absurd (none≢some holder (sym e));
  once = once_kept (is_others actor) locks are.once;
  below = All-filter (is_others actor) (λ (lock : FrameLock). lock.slot < 512) locks are.below;
  room = are.room;
}

-- ---- the holders of all frames

pub holders_count : (every : Option ℕ) (locks : List FrameLock) → length (holders_by every locks) ≡ 512
unfolding holders_by
holders_count every locks = length-map-range_with_len (holder_by every locks) 0 512

pub holders_at : (every : Option ℕ) (locks : List FrameLock) (slot : ℕ) → slot < 512 → get_or (holders_by every locks) slot None ≡ holder_by every locks slot
unfolding holders_by
holders_at every locks slot low = get_or-map-range_with_len (holder_by every locks) 0 512 slot slot None low (omega arith)

pub holders_none : holders_by None [] ≡ replicate 512 None
unfolding holders_by
holders_none = all_over (holder_by None []) None among_none 0 512

pub holders_every : (actor : ℕ) (locks : List FrameLock) → holders_by (Some actor) locks ≡ replicate 512 (Some actor)
unfolding holders_by
holders_every actor locks = all_over (holder_by (Some actor) locks) (Some actor) (λ k. refl) 0 512

pub holders_pushed : (locks : List FrameLock) (lock : FrameLock) → lock.slot < 512 → holder_among locks lock.slot ≡ None → holders_by None (locks ++ lock ∷ []) ≡ set (holders_by None locks) lock.slot (Some lock.holder)
unfolding holders_by
holders_pushed locks lock low none =
    set_over (holder_by None locks) (holder_by None (locks ++ lock ∷ [])) 512 lock.slot (Some lock.holder) low (among_pushed locks lock none) (λ k o. among_push locks lock k (λ e. o (sym e)))

pub holders_released : (locks : List FrameLock) (actor : ℕ) → IsDistinct eqb (slots_of locks) → holders_by None (filter (is_others actor) locks) ≡ map (released actor) (holders_by None locks)
unfolding holders_by
holders_released locks actor once =
    map_over (holder_by None locks) (holder_by None (filter (is_others actor) locks)) (released actor) (λ k. among_released locks actor k once) (range_with_len 0 512)

pub every_released : (holder actor : ℕ) (locks : List FrameLock) (every : Option ℕ) → every ≡ released actor (Some holder) → locks ≡ [] → holders_by every locks ≡ map (released actor) (holders_by (Some holder) locks)
unfolding holders_by
every_released holder actor locks every e none =
    map_over (holder_by (Some holder) locks) (holder_by every locks) (released actor)
    (λ k. elim (eqb_tells holder actor) [
      | inl mine ↦
          let gone : every ≡ None = e ∙ cond-true _ _ _ mine.0 in
          ap (λ (o : Option ℕ). holder_by o locks k) gone ∙ ap (λ (ls : List FrameLock). holder_among ls k) none ∙ among_none k ∙ sym (cond-true _ _ _ mine.0)
      | inr other ↦
          let stays : every ≡ Some holder = e ∙ cond-false _ _ _ other.0 in
          ap (λ (o : Option ℕ). holder_by o locks k) stays ∙ sym (cond-false _ _ _ other.0)
    ])
    (range_with_len 0 512)

-- where no frame is locked, the list is empty
pub none_listed : (locks : List FrameLock) → AllByRecursion (λ (lock : FrameLock). lock.slot < 512) locks → ((slot : ℕ) → slot < 512 → holder_among locks slot ≡ None) → locks ≡ []
none_listed [] below none = refl
none_listed (first ∷ locks) below none = absurd (none≢some first.holder (sym (among_here first locks first.slot refl) ∙ none first.slot below.0))

-- none is locked at first
pub none_are : (capacity : ℕ) → capacity ≡ 512 → AreLocks None [] capacity
none_are capacity e = record { alone = λ holder h. refl; once = IsDistinct-from_apart eqb [] (λ i j d h k. absurd (omega arith)); below = All-nil (λ (lock : FrameLock). lock.slot < 512); room = omega arith }

-- ---- what a change of the lists does

-- a frame that isn't locked is locked
pub record IsLocked (every : Option ℕ) (locks : List FrameLock) (capacity : ℕ) (lock : FrameLock) (value : List (Option ℕ)) : Type 0 where
  pub room : length locks < capacity
  pub are : AreLocks every (locks ++ lock ∷ []) capacity
  pub value_is : holders_by every (locks ++ lock ∷ []) ≡ set value lock.slot (Some lock.holder)

pub is_locked : (every : Option ℕ) (locks : List FrameLock) (capacity : ℕ) (lock : FrameLock) (value : List (Option ℕ)) → AreLocks every locks capacity → holders_by every locks ≡ value → lock.slot < 512 → get_or value lock.slot None ≡ None
    → IsLocked every locks capacity lock value
is_locked None locks capacity lock value are is low free =
    let none : holder_among locks lock.slot ≡ None = sym (holders_at None locks lock.slot low) ∙ ap (λ (hs : List (Option ℕ)). get_or hs lock.slot None) is ∙ free in
    record {
      room = has_room None locks capacity lock are low none;
      are = lock_kept locks capacity lock are low none;
      value_is = holders_pushed locks lock low none ∙ ap (λ (hs : List (Option ℕ)). set hs lock.slot (Some lock.holder)) is;
    }
is_locked (Some holder) locks capacity lock value are is low free =
    absurd (none≢some holder (sym (holders_at (Some holder) locks lock.slot low) ∙ ap (λ (hs : List (Option ℕ)). get_or hs lock.slot None) is ∙ free))

-- all frames are locked, where none was
pub all_are_locked : (every : Option ℕ) (locks : List FrameLock) (capacity actor : ℕ) (value : List (Option ℕ)) → AreLocks every locks capacity → holders_by every locks ≡ value → ((slot : ℕ) → slot < 512 → get_or value slot None ≡ None) → AreLocks (Some actor) locks capacity
all_are_locked None locks capacity actor value are is free =
    let none : locks ≡ [] = none_listed locks (recursion_from_All (λ (lock : FrameLock). lock.slot < 512) locks are.below) (λ slot low. sym (holders_at None locks slot low) ∙ ap (λ (hs : List (Option ℕ)). get_or hs slot None) is ∙ free slot low) in
    record { alone = λ holder e. none; once = are.once; below = are.below; room = are.room }
all_are_locked (Some holder) locks capacity actor value are is free = record { alone = λ other e. are.alone holder refl; once = are.once; below = are.below; room = are.room }

-- the lock of all frames is released
pub none_are_locked : (every : Option ℕ) (locks : List FrameLock) (capacity : ℕ) → AreLocks every locks capacity → AreLocks None locks capacity
none_are_locked every locks capacity are = record { alone = λ holder e. absurd (none≢some holder (sym e)); once = are.once; below = are.below; room = are.room }

-- the lowest holder, where one holds all
pub lowest_every : (actor : ℕ) (locks : List FrameLock) (every : Option ℕ) (value : List (Option ℕ)) → every ≡ Some actor → holders_by every locks ≡ value → Some actor ≡ range_holder (λ (slot : ℕ). get_or value slot None) 0 512
lowest_every actor locks every value all is =
    sym (range_at (λ (slot : ℕ). get_or value slot None) 0 actor
    (ap (λ (hs : List (Option ℕ)). get_or hs 0 None) (sym is) ∙ holders_at every locks 0 (omega arith) ∙ ap (λ (o : Option ℕ). holder_by o locks 0) all)
    0 512 (λ k h l. absurd (omega arith)) (omega arith) (omega arith))

-- and where only single frames are locked
pub lowest_single : (locks : List FrameLock) (every : Option ℕ) (value : List (Option ℕ)) → every ≡ None → holders_by every locks ≡ value → range_holder (holder_among locks) 0 512 ≡ range_holder (λ (slot : ℕ). get_or value slot None) 0 512
lowest_single locks every value none is =
    range_same (holder_among locks) (λ (slot : ℕ). get_or value slot None) 0 512
    (λ k h l. ap (λ (o : Option ℕ). holder_by o locks k) (sym none) ∙ sym (holders_at every locks k (omega arith)) ∙ ap (λ (hs : List (Option ℕ)). get_or hs k None) is)

-- an actor's locks of single frames are released
pub record IsUnlocked (every : Option ℕ) (kept : List FrameLock) (capacity actor : ℕ) (value : List (Option ℕ)) : Type 0 where
  pub are : AreLocks every kept capacity
  pub value_is : holders_by every kept ≡ map (released actor) value

pub is_unlocked : (every : Option ℕ) (locks kept : List FrameLock) (capacity actor : ℕ) (value : List (Option ℕ)) → every ≡ None → AreLocks every locks capacity → holders_by every locks ≡ value → kept ≡ filter (is_others actor) locks
    → IsUnlocked every kept capacity actor value
is_unlocked None locks kept capacity actor value none are is filtered = record {
  are = subst (λ (ls : List FrameLock). AreLocks None ls capacity) (sym filtered) (unlock_kept locks capacity actor are);
  value_is = ap (holders_by None) filtered ∙ holders_released locks actor are.once ∙ ap (map (released actor)) is;
}
is_unlocked (Some holder) locks kept capacity actor value none are is filtered = absurd (none≢some holder none)

among_place : (locks : List FrameLock) (k : ℕ) (lock : FrameLock) → IsDistinct eqb (slots_of locks) → k < length locks → get_or locks k lock ≡ lock → holder_among locks lock.slot ≡ Some lock.holder
among_place [] k lock once low here = absurd (omega arith)
among_place (first ∷ locks) zero lock once low here =
    among_here first locks lock.slot (ap (λ (l : FrameLock). l.slot) here) ∙ ap (λ (l : FrameLock). let o : Option ℕ = Some l.holder in o) here
among_place (first ∷ locks) (suc k) lock once low here =
    let rest : holder_among locks lock.slot ≡ Some lock.holder = among_place locks k lock (IsDistinct-tail eqb first.slot (slots_of locks) once) (omega arith) here in
    let none : holder_among locks first.slot ≡ None = not_among locks first.slot (IsDistinct-head eqb first.slot (slots_of locks) once) in
    among_other first locks lock.slot (λ e. none≢some lock.holder (sym rest ∙ ap (holder_among locks) (sym e) ∙ none)) ∙ rest

among_low : (locks : List FrameLock) (slot : ℕ) → AllByRecursion (λ (lock : FrameLock). slot < lock.slot) locks → holder_among locks slot ≡ None
among_low [] slot all = among_none slot
among_low (first ∷ locks) slot all = let above : slot < first.slot = all.0 in among_other first locks slot (λ e. omega (arith, e)) ∙ among_low locks slot all.1

pub lowest_listed : (locks : List FrameLock) (lock : FrameLock) → IsDistinct eqb (slots_of locks) → All (λ (l : FrameLock). l.slot < 512) locks → Contains locks lock → All (λ (other : FrameLock). lock.slot ≤ other.slot) locks
    → Some lock.holder ≡ range_holder (holder_among locks) 0 512
lowest_listed locks lock once below among lowest =
    let P : FrameLock → Type 0 = λ l. l.slot < 512 in
    let low : lock.slot < 512 = All-contains P locks lock below among in
    sym (range_at (holder_among locks) lock.slot lock.holder (among_place locks among.0 lock once among.1 among.2) 0 512
    (λ k h l. among_low locks k (recursion_from_All (λ (o : FrameLock). k < o.slot) locks (λ i d h. let above = lowest i d h in omega arith)))
    (omega arith) (omega arith))

pub lowest_of_none : (locks : List FrameLock) → length locks ≡ 0 → None ≡ range_holder (holder_among locks) 0 512
lowest_of_none [] empty = sym (range_none (holder_among []) 0 512 (λ k low high. among_none k))
lowest_of_none (first ∷ locks) empty = absurd (omega arith)
