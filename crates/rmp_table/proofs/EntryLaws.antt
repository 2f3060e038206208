-- What is known of the entries that a region keeps.
use Rattle.std.proofs.Common.{◌≡◌, ℕ, zero, suc, ◌+◌, ◌-◌, ◌*◌, ◌/◌, ◌%◌, ◌<◌, ◌≤◌, true, List, [], ◌∷◌, length, get_or, set, map, replicate, Option, Some, None, Result, Err, refl, sym, subst, ap, ◌∙◌, inl, inr, ◌⊎◌, IfSome, arith, length-set}
use Rattle.std.specs.List.{range_with_len}
use Rattle.std.specs.Option.{option_or}
use Rattle.std.proofs.lemmas.Bool.{cases_eq, cases_lt}
use Rattle.std.proofs.lemmas.List.{get_or-set_same, get_or-set_other, length-replicate, get_or-replicate, get_or_past, length-map, get_or-map}
use Rattle.std.proofs.lemmas.List.FromFn.{length-map-range_with_len, get_or-map-range_with_len}
use Rattle.snp_model.specs.declared.entry.RmpEntry.{RmpEntry}
use Rattle.snp_model.specs.declared.entry.PageSize.{PageSize}
use Rattle.snp_model.specs.declared.entry.PageSize.TheVariants.{Small, Large}
use Rattle.snp_model.specs.declared.event.InUse.{InUse}
use Rattle.snp_model.specs.Facts.{free_entry, frames_in, page_base}
use Rattle.snp_model.specs.Entries.{Entries, IsOnePage, IsRegionEntry, IsTable, facts_at, facts_within, holder_at, released, with_entry, with_lock, without_locks}
use Rattle.snp_model.specs.Locks.{over, page_lock, range_holder, range_lock}
use Rattle.snp_model.specs.RmpUpdate.{smashed_facts}
use Rattle.snp_model.proofs.EntriesLaws.{over_is, within_first}
use Rattle.rmp_table.specs.Stored.{AreStored, FitSize, IsHead, facts_by, head_of}

-- ---- the facts of each frame

pub small_at : (entries : List RmpEntry) (slot : ℕ) → get_or (facts_by Small entries) slot free_entry ≡ get_or entries slot free_entry
unfolding facts_by
small_at entries slot = refl

pub large_at : (entries : List RmpEntry) (slot : ℕ) → slot < 512 → get_or (facts_by Large entries) slot free_entry ≡ facts_within (head_of entries) slot
unfolding facts_by
large_at entries slot low = get_or-map-range_with_len (facts_within (head_of entries)) 0 512 slot slot free_entry low (omega arith)

pub large_head : (entries : List RmpEntry) → get_or (facts_by Large entries) 0 free_entry ≡ head_of entries
large_head entries = large_at entries 0 (omega arith) ∙ within_first (head_of entries)

facts_count : (size : PageSize) (entries : List RmpEntry) → length entries ≡ 512 → length (facts_by size entries) ≡ 512
unfolding facts_by
facts_count Small entries count = count
facts_count Large entries count = length-map-range_with_len (facts_within (head_of entries)) 0 512

small≢large : Small ≡ Large → ⊥
small≢large e = cc

some≢none : (holder : ℕ) → Some holder ≡ None → ⊥
some≢none holder e = cc

-- ---- what callers see

pub table_is : (size : PageSize) (entries : List RmpEntry) (holders : List (Option ℕ)) → AreStored size entries holders → IsTable (record { facts = facts_by size entries; holders = holders })
unfolding FitSize
table_is Small entries holders are = record {
  facts_count = facts_count Small entries are.entries_count;
  holders_count = are.holders_count;
  one_page = λ slot low large. absurd (small≢large (sym (ap (λ (e : RmpEntry). e.size) (small_at entries slot) ∙ are.fit slot low) ∙ large));
}
table_is Large entries holders are =
    let head = large_head entries in
    record {
      facts_count = facts_count Large entries are.entries_count;
      holders_count = are.holders_count;
      one_page = λ slot low large. record {
        large = ap (λ (e : RmpEntry). e.size) head ∙ are.fit.large;
        assigned = ap (λ (e : RmpEntry). e.assigned) head ∙ are.fit.assigned;
        aligned = ap (λ (e : RmpEntry). e.gpn % 512) head ∙ are.fit.aligned;
        follow = λ s h. large_at entries s h ∙ ap (λ (e : RmpEntry). facts_within e s) (sym head);
        one_holder = are.fit.one_holder;
      };
    }

-- what a region with these fields is seen as
abbrev pub kept : PageSize → List RmpEntry → List (Option ℕ) → Entries
kept size entries holders = record { facts = facts_by size entries; holders = holders }

pub is_head : (size : PageSize) (entries : List RmpEntry) (holders : List (Option ℕ)) → size ≡ Large → AreStored size entries holders → IsHead entries holders
unfolding FitSize
is_head Small entries holders large are = absurd (small≢large large)
is_head Large entries holders large are = are.fit

pub are_small : (size : PageSize) (entries : List RmpEntry) (holders : List (Option ℕ)) → size ≡ Small → AreStored size entries holders → (slot : ℕ) → slot < 512 → (get_or entries slot free_entry).size ≡ Small
unfolding FitSize
are_small Small entries holders small are = are.fit
are_small Large entries holders small are = absurd (small≢large (sym small))

pub facts_small : (size : PageSize) (entries : List RmpEntry) (holders : List (Option ℕ)) (value : Entries) (slot : ℕ) → size ≡ Small → kept size entries holders ≡ value → get_or entries slot free_entry ≡ facts_at value slot
facts_small size entries holders value slot small is =
    sym (small_at entries slot)
    ∙ ap (λ (s : PageSize). get_or (facts_by s entries) slot free_entry) (sym small)
    ∙ ap (λ (v : Entries). facts_at v slot) is

pub facts_large : (size : PageSize) (entries : List RmpEntry) (holders : List (Option ℕ)) (value : Entries) (slot : ℕ) → size ≡ Large → slot < 512 → kept size entries holders ≡ value → facts_within (head_of entries) slot ≡ facts_at value slot
facts_large size entries holders value slot large low is =
    sym (large_at entries slot low)
    ∙ ap (λ (s : PageSize). get_or (facts_by s entries) slot free_entry) (sym large)
    ∙ ap (λ (v : Entries). facts_at v slot) is

-- ---- every frame is free

all_free : (entries : List RmpEntry) → entries ≡ replicate 512 free_entry → (slot : ℕ) → slot < 512 → (get_or entries slot free_entry).size ≡ Small
unfolding free_entry
all_free entries is slot low = ap (λ (es : List RmpEntry). (get_or es slot free_entry).size) is ∙ ap (λ (e : RmpEntry). e.size) (get_or-replicate 512 slot free_entry free_entry low)

pub free_stored : (entries : List RmpEntry) (holders : List (Option ℕ)) → length holders ≡ 512 → entries ≡ replicate 512 free_entry → AreStored Small entries holders
unfolding FitSize
free_stored entries holders count is = record {
  entries_count = ap length is ∙ length-replicate 512 free_entry;
  holders_count = count;
  fit = all_free entries is;
}

pub free_kept : (entries : List RmpEntry) → entries ≡ replicate 512 free_entry → facts_by Small entries ≡ replicate 512 free_entry
unfolding facts_by
free_kept entries is = is

pub free_at : (entries : List RmpEntry) → entries ≡ replicate 512 free_entry → (slot : ℕ) → get_or (facts_by Small entries) slot free_entry ≡ free_entry
free_at entries is slot =
    small_at entries slot
    ∙ ap (λ (es : List RmpEntry). get_or es slot free_entry) is
    ∙ elim (cases_lt slot 512) [
      | inl low ↦ get_or-replicate 512 slot free_entry free_entry low
      | inr past ↦ get_or_past (replicate 512 free_entry) slot free_entry (omega (arith, past, length-replicate 512 free_entry))
    ]

-- ---- locks are taken and released

pub locked_small : (size : PageSize) (entries : List RmpEntry) (holders new : List (Option ℕ)) (slot : ℕ) (holder : Option ℕ) → size ≡ Small → AreStored size entries holders → new ≡ set holders slot holder → AreStored size entries new
unfolding FitSize
locked_small Small entries holders new slot holder small are is = record { entries_count = are.entries_count; holders_count = ap length is ∙ length-set holders slot holder ∙ are.holders_count; fit = are.fit }
locked_small Large entries holders new slot holder small are is = absurd (small≢large (sym small))

pub all_same : (new : List (Option ℕ)) (holder : Option ℕ) → new ≡ replicate 512 holder → (slot : ℕ) → slot < 512 → get_or new slot None ≡ get_or new 0 None
all_same new holder is slot low =
    ap (λ (hs : List (Option ℕ)). get_or hs slot None) is
    ∙ get_or-replicate 512 slot holder None low
    ∙ sym (ap (λ (hs : List (Option ℕ)). get_or hs 0 None) is ∙ get_or-replicate 512 0 holder None (omega arith))

pub locked_all : (size : PageSize) (entries : List RmpEntry) (holders new : List (Option ℕ)) (holder : Option ℕ) → AreStored size entries holders → new ≡ replicate 512 holder → AreStored size entries new
unfolding FitSize
locked_all Small entries holders new holder are is = record { entries_count = are.entries_count; holders_count = ap length is ∙ length-replicate 512 holder; fit = are.fit }
locked_all Large entries holders new holder are is = record {
  entries_count = are.entries_count;
  holders_count = ap length is ∙ length-replicate 512 holder;
  fit = record { large = are.fit.large; assigned = are.fit.assigned; aligned = are.fit.aligned; one_holder = all_same new holder is };
}

all_released : (holders : List (Option ℕ)) (actor : ℕ) → length holders ≡ 512 → ((slot : ℕ) → slot < 512 → get_or holders slot None ≡ get_or holders 0 None) → (slot : ℕ) → slot < 512
    → get_or (map (released actor) holders) slot None ≡ get_or (map (released actor) holders) 0 None
all_released holders actor count same slot low =
    get_or-map (released actor) holders slot None None (omega (arith, count))
    ∙ ap (released actor) (same slot low)
    ∙ sym (get_or-map (released actor) holders 0 None None (omega (arith, count)))

unlocked_map : (size : PageSize) (entries : List RmpEntry) (holders : List (Option ℕ)) (actor : ℕ) → AreStored size entries holders → AreStored size entries (map (released actor) holders)
unfolding FitSize
unlocked_map Small entries holders actor are = record { entries_count = are.entries_count; holders_count = length-map holders (released actor) ∙ are.holders_count; fit = are.fit }
unlocked_map Large entries holders actor are = record {
  entries_count = are.entries_count;
  holders_count = length-map holders (released actor) ∙ are.holders_count;
  fit = record { large = are.fit.large; assigned = are.fit.assigned; aligned = are.fit.aligned; one_holder = all_released holders actor are.holders_count are.fit.one_holder };
}

pub unlocked : (size : PageSize) (entries : List RmpEntry) (holders new : List (Option ℕ)) (actor : ℕ) → AreStored size entries holders → new ≡ map (released actor) holders → AreStored size entries new
unlocked size entries holders new actor are is =
    subst (λ (hs : List (Option ℕ)). AreStored size entries hs) (sym is) (unlocked_map size entries holders actor are)

-- ---- what is kept by frame

-- one frame of a list is set
set_is : {X : Type 0} (xs new : List X) (slot : ℕ) (x d : X) → slot < length xs → new ≡ set xs slot x → (λ (k : ℕ). get_or new k d) ≡ over slot 1 (λ _ _. x) (λ (k : ℕ). get_or xs k d)
set_is xs new slot x d low is =
    over_is (λ k. get_or new k d) (λ k. get_or xs k d) slot 1 (λ _ _. x)
    (λ k h l. let e : k ≡ slot = omega arith in ap (λ ys. get_or ys k d) is ∙ ap (λ (j : ℕ). get_or (set xs slot x) j d) e ∙ get_or-set_same xs slot x d low)
    (λ k out. ap (λ ys. get_or ys k d) is ∙ get_or-set_other xs slot k x d (λ e. out (omega (arith, e)) (omega (arith, e))))

beyond : (k : ℕ) → (0 ≤ k → k < 0 + 512 → ⊥) → 512 ≤ k
beyond k out = elim (cases_lt k 512) [ inl low ↦ absurd (out (omega arith) (omega arith)) | inr high ↦ high ]

-- all are
all_is : {X : Type 0} (xs new : List X) (x d : X) → length xs ≡ 512 → new ≡ replicate 512 x → (λ (k : ℕ). get_or new k d) ≡ over 0 512 (λ _ _. x) (λ (k : ℕ). get_or xs k d)
all_is xs new x d count is =
    over_is (λ k. get_or new k d) (λ k. get_or xs k d) 0 512 (λ _ _. x)
    (λ k h l. ap (λ ys. get_or ys k d) is ∙ get_or-replicate 512 k x d (omega arith))
    (λ k out. let past : 512 ≤ k = beyond k out in
    get_or_past new k d (omega (arith, past, ap length is, length-replicate 512 x)) ∙ sym (get_or_past xs k d (omega (arith, past, count))))

pub with_lock_small : (size : PageSize) (entries : List RmpEntry) (holders new : List (Option ℕ)) (value : Entries) (slot actor : ℕ) → size ≡ Small → AreStored size entries holders → kept size entries holders ≡ value → slot < 512
    → new ≡ set holders slot (Some actor) → (λ (k : ℕ). get_or new k None) ≡ with_lock (page_lock (facts_at value slot).size slot) actor (holder_at value)
with_lock_small size entries holders new value slot actor small are is low new_is =
    let at : (facts_at value slot).size ≡ Small = ap (λ (e : RmpEntry). e.size) (sym (facts_small size entries holders value slot small is)) ∙ are_small size entries holders small are slot low in
    set_is holders new slot (Some actor) None (omega (arith, are.holders_count)) new_is
    ∙ ap (λ (v : Entries). with_lock (page_lock Small slot) actor (holder_at v)) is
    ∙ ap (λ (s : PageSize). with_lock (page_lock s slot) actor (holder_at value)) (sym at)

-- the region's page is locked from its first frame on
base_is : (slot : ℕ) → slot < 512 → slot / 512 * 512 ≡ 0
base_is slot low = omega arith

pub with_lock_large : (size : PageSize) (entries : List RmpEntry) (holders new : List (Option ℕ)) (value : Entries) (slot actor : ℕ) → size ≡ Large → AreStored size entries holders → kept size entries holders ≡ value → slot < 512
    → new ≡ replicate 512 (Some actor) → (λ (k : ℕ). get_or new k None) ≡ with_lock (page_lock (facts_at value slot).size slot) actor (holder_at value)
with_lock_large size entries holders new value slot actor large are is low new_is =
    let at : (facts_at value slot).size ≡ Large = ap (λ (e : RmpEntry). e.size) (sym (facts_large size entries holders value slot large low is)) ∙ (is_head size entries holders large are).large in
    all_is holders new (Some actor) None are.holders_count new_is
    ∙ ap (λ (v : Entries). over 0 512 (λ _ _. Some actor) (holder_at v)) is
    ∙ ap (λ (b : ℕ). over b 512 (λ _ _. Some actor) (holder_at value)) (sym (base_is slot low))
    ∙ ap (λ (s : PageSize). with_lock (page_lock s slot) actor (holder_at value)) (sym at)

pub with_all_locks : (size : PageSize) (entries : List RmpEntry) (holders new : List (Option ℕ)) (value : Entries) (actor : ℕ) → AreStored size entries holders → kept size entries holders ≡ value → new ≡ replicate 512 (Some actor)
    → (λ (k : ℕ). get_or new k None) ≡ with_lock (range_lock Large 0) actor (holder_at value)
with_all_locks size entries holders new value actor are is new_is =
    all_is holders new (Some actor) None are.holders_count new_is ∙ ap (λ (v : Entries). over 0 512 (λ _ _. Some actor) (holder_at v)) is

-- an actor's locks are released
released_at : (holders new : List (Option ℕ)) (actor : ℕ) → new ≡ map (released actor) holders → (k : ℕ) → get_or new k None ≡ released actor (get_or holders k None)
released_at holders new actor is k =
    ap (λ (hs : List (Option ℕ)). get_or hs k None) is
    ∙ elim (cases_lt k (length holders)) [
      | inl low ↦ get_or-map (released actor) holders k None None low
      | inr past ↦ get_or_past (map (released actor) holders) k None (omega (arith, past, length-map holders (released actor))) ∙ sym (ap (released actor) (get_or_past holders k None past))
    ]

pub without_locks_is : (size : PageSize) (entries : List RmpEntry) (holders new : List (Option ℕ)) (value : Entries) (actor : ℕ) → kept size entries holders ≡ value → new ≡ map (released actor) holders
    → (λ (k : ℕ). get_or new k None) ≡ without_locks actor (holder_at value)
without_locks_is size entries holders new value actor is new_is =
    λ i k. (released_at holders new actor new_is k ∙ ap (λ (v : Entries). released actor (holder_at v k)) is) i

-- ---- the lowest holder

first_none : (x y : Option ℕ) → option_or x y ≡ None → x ≡ None
first_none None y none = refl
first_none (Some x) y none = none

others_none : (x y : Option ℕ) → option_or x y ≡ None → y ≡ None
others_none None y none = none
others_none (Some x) y none = absurd (some≢none x none)

pub lowest_of_none : (f : ℕ → Option ℕ) (a n : ℕ) → range_holder f a n ≡ None → (k : ℕ) → a ≤ k → k < a + n → f k ≡ None
unfolding range_holder
lowest_of_none f a zero none k low high = absurd (omega arith)
lowest_of_none f a (suc n) none k low high =
    let first = first_none (f a) (range_holder f (a + 1) n) none in
    elim (cases_eq k a) [
      | inl e ↦ ap f e ∙ first
      | inr o ↦ lowest_of_none f (a + 1) n (others_none (f a) (range_holder f (a + 1) n) none) k (omega (arith, o)) (omega arith)
    ]

first_or_rest : (x y : Option ℕ) (holder : ℕ) → option_or x y ≡ Some holder → (x ≡ Some holder) ⊎ (y ≡ Some holder)
first_or_rest None y holder is = inr is
first_or_rest (Some x) y holder is = inl is

-- a lowest holder holds a lock
pub record IsAt (f : ℕ → Option ℕ) (a n holder : ℕ) : Type 0 where
  pub slot : ℕ
  pub low : a ≤ slot
  pub high : slot < a + n
  pub here : f slot ≡ Some holder

pub lowest_is_at : (f : ℕ → Option ℕ) (a n holder : ℕ) → range_holder f a n ≡ Some holder → IsAt f a n holder
unfolding range_holder
lowest_is_at f a zero holder is = absurd (some≢none holder (sym is))
lowest_is_at f a (suc n) holder is =
    let here = first_or_rest (f a) (range_holder f (a + 1) n) holder is in
    elim here [
      | inl first ↦ record { slot = a; low = omega arith; high = omega arith; here = first }
      | inr rest ↦ let at = lowest_is_at f (a + 1) n holder rest in record { slot = at.slot; low = let low = at.low in omega arith; high = let high = at.high in omega arith; here = at.here }
    ]

-- the lowest holder holds a lock
pub lowest_held : (f : ℕ → Option ℕ) (found : Option ℕ) → found ≡ range_holder f 0 512 → IfSome found (λ holder. (slot : ℕ) × (slot < 512) × (f slot ≡ Some holder))
lowest_held f None is = tt
lowest_held f (Some holder) is = let at = lowest_is_at f 0 512 holder (sym is) in (at.slot, (let high = at.high in omega arith), at.here)

-- ---- an entry is written

pub is_small_at : (size : PageSize) (entries : List RmpEntry) (holders : List (Option ℕ)) (value : Entries) (slot : ℕ) → AreStored size entries holders → kept size entries holders ≡ value → slot < 512 → (facts_at value slot).size ≡ Small → size ≡ Small
is_small_at Small entries holders value slot are is low small = refl
is_small_at Large entries holders value slot are is low small =
    absurd (small≢large (sym small ∙ ap (λ (e : RmpEntry). e.size) (sym (facts_large Large entries holders value slot refl low is)) ∙ (is_head Large entries holders refl are).large))

set_small : (entries : List RmpEntry) (slot : ℕ) (entry : RmpEntry) → length entries ≡ 512 → slot < 512 → entry.size ≡ Small → ((s : ℕ) → s < 512 → (get_or entries s free_entry).size ≡ Small)
    → (s : ℕ) → s < 512 → (get_or (set entries slot entry) s free_entry).size ≡ Small
set_small entries slot entry count low small all s h = elim (cases_eq s slot) [
  | inl e ↦ ap (λ (k : ℕ). (get_or (set entries slot entry) k free_entry).size) e ∙ ap (λ (f : RmpEntry). f.size) (get_or-set_same entries slot entry free_entry (omega (arith, count))) ∙ small
  | inr o ↦ ap (λ (f : RmpEntry). f.size) (get_or-set_other entries slot s entry free_entry o) ∙ all s h
]

-- an entry of this size may be written
pub record MayWrite (size written : PageSize) (entries : List RmpEntry) (holders : List (Option ℕ)) (value : Entries) (slot : ℕ) (entry : RmpEntry) : Type 0 where
  pub are : AreStored size entries holders
  pub is : kept size entries holders ≡ value
  pub low : slot < 512
  pub size_is : entry.size ≡ written
  pub small : entry.size ≡ Small → (facts_at value slot).size ≡ Small
  pub large : entry.size ≡ Large → IsRegionEntry value slot entry

head_set : (entries : List RmpEntry) (slot : ℕ) (entry : RmpEntry) → length entries ≡ 512 → slot ≡ 0 → head_of (set entries slot entry) ≡ entry
head_set entries slot entry count first = ap (λ (k : ℕ). head_of (set entries k entry)) first ∙ get_or-set_same entries 0 entry free_entry (omega (arith, count))

pub write_stored : (size written : PageSize) (entries : List RmpEntry) (holders : List (Option ℕ)) (value : Entries) (slot : ℕ) (entry : RmpEntry) → MayWrite size written entries holders value slot entry → AreStored written (set entries slot entry) holders
unfolding FitSize
write_stored size Small entries holders value slot entry may =
    let small = is_small_at size entries holders value slot may.are may.is may.low (may.small may.size_is) in
    record {
      entries_count = length-set entries slot entry ∙ may.are.entries_count;
      holders_count = may.are.holders_count;
      fit = set_small entries slot entry may.are.entries_count may.low may.size_is (are_small size entries holders small may.are);
    }
write_stored size Large entries holders value slot entry may =
    let fits = may.large may.size_is in
    let head = head_set entries slot entry may.are.entries_count fits.first in
    record {
      entries_count = length-set entries slot entry ∙ may.are.entries_count;
      holders_count = may.are.holders_count;
      fit = record {
        large = ap (λ (e : RmpEntry). e.size) head ∙ may.size_is;
        assigned = ap (λ (e : RmpEntry). e.assigned) head ∙ fits.assigned;
        aligned = ap (λ (e : RmpEntry). e.gpn % 512) head ∙ fits.aligned;
        one_holder = λ s h. ap (λ (v : Entries). holder_at v s) may.is ∙ fits.one_holder s h ∙ ap (λ (v : Entries). holder_at v 0) (sym may.is);
      };
    }

facts_of_small : (size : PageSize) (entries : List RmpEntry) → size ≡ Small → facts_by size entries ≡ entries
unfolding facts_by
facts_of_small Small entries small = refl
facts_of_small Large entries small = absurd (small≢large (sym small))

write_small : (entries : List RmpEntry) (value : Entries) (slot : ℕ) (entry : RmpEntry) → length entries ≡ 512 → slot < 512 → facts_by Small entries ≡ value.facts
    → (λ (k : ℕ). get_or (facts_by Small (set entries slot entry)) k free_entry) ≡ over slot 1 (λ place old. facts_within entry place) (facts_at value)
write_small entries value slot entry count low is =
    over_is (λ k. get_or (facts_by Small (set entries slot entry)) k free_entry) (facts_at value) slot 1 (λ place old. facts_within entry place)
    (λ k h l. let e : k ≡ slot = omega arith in let none : k - slot ≡ 0 = omega arith in
    small_at (set entries slot entry) k
    ∙ ap (λ (j : ℕ). get_or (set entries slot entry) j free_entry) e
    ∙ get_or-set_same entries slot entry free_entry (omega (arith, count))
    ∙ sym (ap (facts_within entry) none ∙ within_first entry))
    (λ k out.
    small_at (set entries slot entry) k
    ∙ get_or-set_other entries slot k entry free_entry (λ e. out (omega (arith, e)) (omega (arith, e)))
    ∙ sym (small_at entries k)
    ∙ ap (λ (fs : List RmpEntry). get_or fs k free_entry) is)

large_count : (entries : List RmpEntry) → length (facts_by Large entries) ≡ 512
unfolding facts_by
large_count entries = length-map-range_with_len (facts_within (head_of entries)) 0 512

write_large : (entries : List RmpEntry) (value : Entries) (slot : ℕ) (entry : RmpEntry) → length value.facts ≡ 512 → slot ≡ 0 → head_of entries ≡ entry
    → (λ (k : ℕ). get_or (facts_by Large entries) k free_entry) ≡ over slot 512 (λ place old. facts_within entry place) (facts_at value)
write_large entries value slot entry count first head =
    over_is (λ k. get_or (facts_by Large entries) k free_entry) (facts_at value) slot 512 (λ place old. facts_within entry place)
    (λ k h l. let same : k - slot ≡ k = omega arith in
    large_at entries k (omega arith) ∙ ap (λ (e : RmpEntry). facts_within e k) head ∙ ap (facts_within entry) (sym same))
    (λ k out. let past : 512 ≤ k = beyond k (λ h l. out (omega arith) (omega arith)) in
    get_or_past (facts_by Large entries) k free_entry (omega (arith, past, large_count entries)) ∙ sym (get_or_past value.facts k free_entry (omega (arith, past, count))))

pub write_facts : (size written : PageSize) (entries : List RmpEntry) (holders : List (Option ℕ)) (value : Entries) (slot : ℕ) (entry : RmpEntry) → MayWrite size written entries holders value slot entry
    → (λ (k : ℕ). get_or (facts_by written (set entries slot entry)) k free_entry) ≡ with_entry slot entry (facts_at value)
write_facts size Small entries holders value slot entry may =
    let small = is_small_at size entries holders value slot may.are may.is may.low (may.small may.size_is) in
    write_small entries value slot entry may.are.entries_count may.low (ap (λ (s : PageSize). facts_by s entries) (sym small) ∙ ap (λ (v : Entries). v.facts) may.is)
    ∙ ap (λ (s : PageSize). over slot (frames_in s) (λ place old. facts_within entry place) (facts_at value)) (sym may.size_is)
write_facts size Large entries holders value slot entry may =
    let fits = may.large may.size_is in
    write_large (set entries slot entry) value slot entry (sym (ap (λ (v : Entries). length v.facts) may.is) ∙ facts_count size entries may.are.entries_count) fits.first (head_set entries slot entry may.are.entries_count fits.first)
    ∙ ap (λ (s : PageSize). over slot (frames_in s) (λ place old. facts_within entry place) (facts_at value)) (sym may.size_is)

pub write_others : (size written : PageSize) (entries : List RmpEntry) (holders : List (Option ℕ)) (value : Entries) (slot : ℕ) (entry : RmpEntry) → MayWrite size written entries holders value slot entry → written ≡ Small → facts_by written (set entries slot entry) ≡ set value.facts slot entry
unfolding facts_by
write_others size Small entries holders value slot entry may small =
    ap (λ (fs : List RmpEntry). set fs slot entry) (sym (facts_of_small size entries (is_small_at size entries holders value slot may.are may.is may.low (may.small may.size_is))) ∙ ap (λ (v : Entries). v.facts) may.is)
write_others size Large entries holders value slot entry may small = absurd (small≢large (sym small))

-- ---- a page of 2 MB becomes pages of 4 KB

small_within : (head small : RmpEntry) → small ≡ record head { size = Small } → (slots : List ℕ) → map (facts_within small) slots ≡ map smashed_facts (map (facts_within head) slots)
small_within head small is [] = refl
small_within head small is (slot ∷ slots) = λ i. facts_within (is i) slot ∷ small_within head small is slots i

-- the entries of a page of 2 MB are spread over its frames
pub record IsSpread (size : PageSize) (entries new : List RmpEntry) (holders : List (Option ℕ)) (value : Entries) (small : RmpEntry) : Type 0 where
  pub are : AreStored size entries holders
  pub is : kept size entries holders ≡ value
  pub large : size ≡ Large
  pub small_is : small ≡ record (head_of entries) { size = Small }
  pub new_is : new ≡ map (facts_within small) (range_with_len 0 512)

pub spread_stored : (size : PageSize) (entries new : List RmpEntry) (holders : List (Option ℕ)) (value : Entries) (small : RmpEntry) → IsSpread size entries new holders value small → AreStored Small new holders
unfolding FitSize
spread_stored size entries new holders value small spread = record {
  entries_count = ap length spread.new_is ∙ length-map-range_with_len (facts_within small) 0 512;
  holders_count = spread.are.holders_count;
  fit = λ slot low.
      ap (λ (es : List RmpEntry). (get_or es slot free_entry).size) spread.new_is
      ∙ ap (λ (e : RmpEntry). e.size) (get_or-map-range_with_len (facts_within small) 0 512 slot slot free_entry low (omega arith))
      ∙ ap (λ (e : RmpEntry). e.size) spread.small_is;
}

spread_facts : (size : PageSize) (entries new : List RmpEntry) (small : RmpEntry) → size ≡ Large → small ≡ record (head_of entries) { size = Small } → new ≡ map (facts_within small) (range_with_len 0 512) → facts_by Small new ≡ map smashed_facts (facts_by size entries)
unfolding facts_by
spread_facts Small entries new small large small_is new_is = absurd (small≢large large)
spread_facts Large entries new small large small_is new_is = new_is ∙ small_within (head_of entries) small small_is (range_with_len 0 512)

smashed_free : free_entry ≡ smashed_facts free_entry
unfolding free_entry
smashed_free = refl

smashed_at : (facts : List RmpEntry) (slot : ℕ) → get_or (map smashed_facts facts) slot free_entry ≡ smashed_facts (get_or facts slot free_entry)
smashed_at facts slot = elim (cases_lt slot (length facts)) [
  | inl low ↦ get_or-map smashed_facts facts slot free_entry free_entry low
  | inr past ↦
      get_or_past (map smashed_facts facts) slot free_entry (omega (arith, past, length-map facts smashed_facts))
      ∙ smashed_free
      ∙ sym (ap smashed_facts (get_or_past facts slot free_entry past))
]

pub spread_at : (size : PageSize) (entries new : List RmpEntry) (holders : List (Option ℕ)) (value : Entries) (small : RmpEntry) → IsSpread size entries new holders value small → (slot : ℕ) → get_or (facts_by Small new) slot free_entry ≡ smashed_facts (facts_at value slot)
spread_at size entries new holders value small spread slot =
    ap (λ (fs : List RmpEntry). get_or fs slot free_entry) (spread_facts size entries new small spread.large spread.small_is spread.new_is)
    ∙ smashed_at (facts_by size entries) slot
    ∙ ap (λ (v : Entries). smashed_facts (facts_at v slot)) spread.is

pub is_large_at : (size : PageSize) (entries : List RmpEntry) (holders : List (Option ℕ)) (value : Entries) → AreStored size entries holders → kept size entries holders ≡ value → (facts_at value 0).size ≡ Large → size ≡ Large
is_large_at Small entries holders value are is large =
    absurd (small≢large (sym (ap (λ (e : RmpEntry). e.size) (sym (facts_small Small entries holders value 0 refl is)) ∙ are_small Small entries holders refl are 0 (omega arith)) ∙ large))
is_large_at Large entries holders value are is large = refl

-- ---- who holds a lock is another

same_error : (x y : InUse) → ◌≡◌ {A = Result (Unit {0}) InUse} (Err x) (Err y) → x ≡ y
same_error x y same = cc

pub same_holder : (x y : InUse) → ◌≡◌ {A = Result (Unit {0}) InUse} (Err x) (Err y) → x.holder ≡ y.holder
same_holder x y same = ap (λ (u : InUse). u.holder) (same_error x y same)

pub not_own : (holders : List (Option ℕ)) (holder actor : ℕ) → range_holder (λ (k : ℕ). get_or holders k None) 0 512 ≡ Some holder → ((slot : ℕ) → slot < 512 → get_or holders slot None ≡ Some actor → ⊥) → holder ≡ actor → ⊥
not_own holders holder actor is none own =
    let at = lowest_is_at (λ (k : ℕ). get_or holders k None) 0 512 holder is in
    none at.slot (let high = at.high in omega arith) (at.here ∙ ap (λ (h : ℕ). let o : Option ℕ = Some h in o) own)

pub freed : (new : List RmpEntry) (count : ℕ) (value : RmpEntry) → new ≡ replicate count value → value ≡ free_entry → count ≡ 512 → new ≡ replicate 512 free_entry
freed new count value is free all = is ∙ ap (λ (n : ℕ). replicate n value) all ∙ ap (replicate 512) free

-- ---- the entry of a frame's page

pub record IsPageEntry (value : Entries) (slot : ℕ) (entry : RmpEntry) : Type 0 where
  pub entry_is : entry ≡ facts_at value (page_base (facts_at value slot).size slot)
  pub size_is : entry.size ≡ (facts_at value slot).size
  pub large : entry.size ≡ Large → IsOnePage value × (entry ≡ facts_at value 0)

pub page_small : (size : PageSize) (entries : List RmpEntry) (holders : List (Option ℕ)) (value : Entries) (slot : ℕ) (entry : RmpEntry) → size ≡ Small → AreStored size entries holders → kept size entries holders ≡ value → slot < 512 → entry ≡ facts_at value slot
    → IsPageEntry value slot entry
page_small size entries holders value slot entry small are is low same =
    let at : (facts_at value slot).size ≡ Small = ap (λ (e : RmpEntry). e.size) (sym (facts_small size entries holders value slot small is)) ∙ are_small size entries holders small are slot low in
    record {
      entry_is = same ∙ ap (λ (s : PageSize). facts_at value (page_base s slot)) (sym at);
      size_is = ap (λ (e : RmpEntry). e.size) same;
      large = λ large. absurd (small≢large (sym (ap (λ (e : RmpEntry). e.size) same ∙ at) ∙ large));
    }

pub page_large : (size : PageSize) (entries : List RmpEntry) (holders : List (Option ℕ)) (value : Entries) (slot : ℕ) (entry : RmpEntry) → size ≡ Large → AreStored size entries holders → kept size entries holders ≡ value → slot < 512 → entry ≡ facts_at value 0
    → IsPageEntry value slot entry
page_large size entries holders value slot entry large are is low same =
    let at : (facts_at value slot).size ≡ Large = ap (λ (e : RmpEntry). e.size) (sym (facts_large size entries holders value slot large low is)) ∙ (is_head size entries holders large are).large in
    let table : IsTable value = subst (λ (v : Entries). IsTable v) is (table_is size entries holders are) in
    let page = table.one_page slot low at in
    record {
      entry_is = same ∙ ap (facts_at value) (sym (base_is slot low)) ∙ ap (λ (s : PageSize). facts_at value (page_base s slot)) (sym at);
      size_is = ap (λ (e : RmpEntry). e.size) same ∙ page.large ∙ sym at;
      large = λ _. (page, same);
    }

-- such an entry may be written
pub page_may : (value : Entries) (slot : ℕ) (entry : RmpEntry) → IsTable value → slot < 512 → entry.size ≡ (facts_at value slot).size → (entry.size ≡ Large → entry.assigned ≡ true) → (entry.size ≡ Large → entry.gpn % 512 ≡ 0) → entry.size ≡ Large → IsRegionEntry value 0 entry
page_may value slot entry table low size assigned aligned large =
    let page = table.one_page slot low (sym size ∙ large) in
    record { assigned = assigned large; first = refl; aligned = aligned large; one_holder = page.one_holder }

pub written_at_base : (value : Entries) (slot : ℕ) (entry : RmpEntry) → slot < 512 → entry.size ≡ Large → with_entry 0 entry (facts_at value) ≡ with_entry (page_base entry.size slot) entry (facts_at value)
written_at_base value slot entry low large =
    ap (λ (b : ℕ). with_entry b entry (facts_at value)) (sym (base_is slot low) ∙ ap (λ (s : PageSize). page_base s slot) (sym large))

pub written_at_slot : (value : Entries) (slot : ℕ) (entry : RmpEntry) → entry.size ≡ Small → with_entry slot entry (facts_at value) ≡ with_entry (page_base entry.size slot) entry (facts_at value)
written_at_slot value slot entry small = ap (λ (s : PageSize). with_entry (page_base s slot) entry (facts_at value)) (sym small)
