-- Locks of open attempts: which are free, what a new one covers, and what stays locked.
use Rattle.std.proofs.Common.{◌≡◌, ◌≢◌, ◌⊎◌, ℕ, zero, suc, ◌+◌, ◌-◌, ◌/◌, ◌*◌, ◌%◌, ◌<◌, ◌≤◌, Bool, true, false, cond, List, [], ◌∷◌, length, set, Option, Some, None, refl, sym, ◌∙◌, subst, ⊎_elim, arith}
use Rattle.std.proofs.lemmas.Bool.{cases_eq, cases_lt, true≢false}
use Rattle.std.proofs.lemmas.Bool.Decides.{nat_tests}
use Rattle.std.proofs.lemmas.List.{get_or-set_same, get_or-set_other, set_past}
use Rattle.std.specs.Option.{option_or}
use Rattle.snp_model.specs.declared.entry.PageSize.{PageSize}
use Rattle.snp_model.specs.declared.entry.PageSize.TheVariants.{Small, Large}
use Rattle.snp_model.specs.Facts.{frames_in}
use Rattle.snp_model.specs.Locks.{in_range, covers, locks_frame, locks_context, page_lock, range_lock, holder_from, range_holder}
use Rattle.snp_model.specs.State.{Pages, PageLock, ActorPart, idle_part}
use Rattle.run_laws.specs.KeptLocks.{actor_at, AreOfOneRegion, AreWholePages, HaveOneHolder}

pub not_true : (b : Bool) → (b ≡ true → ⊥) → b ≡ false
not_true true none = absurd (none refl)
not_true false none = refl

-- no actor has locked a frame
abbrev pub IsUnlocked : List ActorPart → ℕ → Type 0
IsUnlocked actors frame = (k : ℕ) → locks_frame frame (actor_at actors k) ≡ false

idle_unlocked : (frame : ℕ) → locks_frame frame idle_part ≡ false
unfolding idle_part
idle_unlocked frame = refl

-- a frame that has no holder
pub none_locked : (first : ℕ) (actors : List ActorPart) (frame : ℕ) → holder_from first actors frame ≡ None → IsUnlocked actors frame
unfolding holder_from
none_locked first [] frame none k = idle_unlocked frame
none_locked first (part ∷ parts) frame none zero =
    elim (locks_frame frame part) as (λ (b : Bool). cond b (Some first) (holder_from (first + 1) parts frame) ≡ None → b ≡ false)
    [ true ↦ λ e. absurd cc | false ↦ λ e. refl ] none
none_locked first (part ∷ parts) frame none (suc k) =
    none_locked (first + 1) parts frame
    (elim (locks_frame frame part) as (λ (b : Bool). cond b (Some first) (holder_from (first + 1) parts frame) ≡ None → holder_from (first + 1) parts frame ≡ None)
    [ true ↦ λ e. absurd cc | false ↦ λ e. e ] none) k

-- a range that has no holder
pub first_none : {A : Type 0} (one other : Option A) → option_or one other ≡ None → one ≡ None
first_none (Some x) other none = absurd cc
first_none None other none = refl

pub others_none : {A : Type 0} (one other : Option A) → option_or one other ≡ None → other ≡ None
others_none (Some x) other none = absurd cc
others_none None other none = none

pub range_unlocked : (holder : ℕ → Option ℕ) (base count : ℕ) → range_holder holder base count ≡ None → (frame : ℕ) → in_range base count frame ≡ true → holder frame ≡ None
unfolding range_holder
range_unlocked holder base zero none frame inside = absurd (grind (arith, nat_tests))
range_unlocked holder base (suc count) none frame inside =
    ⊎_elim
    (λ (same : frame ≡ base). subst (λ (f : ℕ). holder f ≡ None) (sym same) (first_none (holder base) (range_holder holder (base + 1) count) none))
    (λ (other : frame ≡ base → ⊥). range_unlocked holder (base + 1) count (others_none (holder base) (range_holder holder (base + 1) count) none) frame (grind (arith, nat_tests)))
    (cases_eq frame base)

-- the page of 2 MB in which a frame stands is its region
pub page_region : (frame g : ℕ) → covers g (page_lock Large frame) ≡ true → AreOfOneRegion frame g
page_region frame g inside =
    let low : frame / 512 * 512 ≤ g = grind (arith, nat_tests) in
    let high : g < frame / 512 * 512 + 512 = grind (arith, nat_tests) in
    omega arith

pub region_page : (frame g : ℕ) → AreOfOneRegion frame g → covers g (page_lock Large frame) ≡ true
region_page frame g same =
    let low : frame / 512 * 512 ≤ g = omega arith in
    let high : g < frame / 512 * 512 + 512 = omega arith in
    grind (arith, nat_tests)

-- the page in which a frame stands is covered by its lock
pub own_covered : (size : PageSize) (frame : ℕ) → covers frame (page_lock size frame) ≡ true
own_covered Small frame = grind (arith, nat_tests)
own_covered Large frame = region_page frame frame refl

pub small_covered : (frame g : ℕ) → covers g (page_lock Small frame) ≡ true → g ≡ frame
small_covered frame g inside = grind (arith, nat_tests)

-- where a frame isn't locked, no frame of its page is
page_unlocked_by : (pages : Pages) (actors : List ActorPart) (frame g k : ℕ) (size : PageSize) → AreWholePages pages → HaveOneHolder pages actors → (pages frame).facts.size ≡ size
    → locks_frame frame (actor_at actors k) ≡ false → covers g (page_lock size frame) ≡ true → locks_frame g (actor_at actors k) ≡ false
page_unlocked_by pages actors frame g k Small whole exclusive size_is free inside = subst (λ (f : ℕ). locks_frame f (actor_at actors k) ≡ false) (sym (small_covered frame g inside)) free
page_unlocked_by pages actors frame g k Large whole exclusive size_is free inside =
    let region = page_region frame g inside in
    not_true (locks_frame g (actor_at actors k)) (λ locked.
    true≢false (sym (exclusive.whole k g frame locked (whole.large frame g size_is region) (sym region)) ∙ free))

pub page_unlocked : (pages : Pages) (actors : List ActorPart) (frame g : ℕ) → AreWholePages pages → HaveOneHolder pages actors
    → holder_from 1 actors frame ≡ None → covers g (page_lock (pages frame).facts.size frame) ≡ true → IsUnlocked actors g
page_unlocked pages actors frame g whole exclusive none inside k =
    page_unlocked_by pages actors frame g k (pages frame).facts.size whole exclusive refl (none_locked 1 actors frame none k) inside

-- a lock that is free to take, and covers pages of 2 MB as a whole
pub record IsFree (pages : Pages) (actors : List ActorPart) (lock : PageLock) : Type 0 where
  pub free : (g : ℕ) → covers g lock ≡ true → IsUnlocked actors g
  pub whole : (f g : ℕ) → covers f lock ≡ true → (pages f).facts.size ≡ Large → AreOfOneRegion f g → covers g lock ≡ true

pub small_not_large : (size : PageSize) → size ≡ Small → size ≡ Large → ⊥
small_not_large size a b = cc

pub page_whole : (pages : Pages) (frame : ℕ) (size : PageSize) → (pages frame).facts.size ≡ size
    → (f g : ℕ) → covers f (page_lock size frame) ≡ true → (pages f).facts.size ≡ Large → AreOfOneRegion f g → covers g (page_lock size frame) ≡ true
page_whole pages frame Small size_is f g inside large same =
    absurd (small_not_large (pages f).facts.size (subst (λ (k : ℕ). (pages k).facts.size ≡ Small) (sym (small_covered frame f inside)) size_is) large)
page_whole pages frame Large size_is f g inside large same = region_page frame g (page_region frame f inside ∙ same)

-- the lock of a frame's page, where nobody has locked the frame
pub page_free : (pages : Pages) (actors : List ActorPart) (frame : ℕ) → AreWholePages pages → HaveOneHolder pages actors
    → holder_from 1 actors frame ≡ None → IsFree pages actors (page_lock (pages frame).facts.size frame)
page_free pages actors frame whole exclusive none = record {
  free = λ g inside. page_unlocked pages actors frame g whole exclusive none inside;
  whole = page_whole pages frame (pages frame).facts.size refl;
}

-- the lock of a range, which is that of one frame of 4 KB, or of a region
pub small_range_covered : (frame g : ℕ) → covers g (range_lock Small frame) ≡ true → g ≡ frame
small_range_covered frame g inside = grind (arith, nat_tests)

pub region_covered : (frame f g : ℕ) → frame % 512 ≡ 0 → covers f (range_lock Large frame) ≡ true → AreOfOneRegion f g → covers g (range_lock Large frame) ≡ true
region_covered frame f g aligned inside same =
    let low : frame ≤ f = grind (arith, nat_tests) in
    let high : f < frame + 512 = grind (arith, nat_tests) in
    let low' : frame ≤ g = omega arith in
    let high' : g < frame + 512 = omega arith in
    grind (arith, nat_tests)

range_whole : (pages : Pages) (size : PageSize) (frame : ℕ) → (size ≡ Small → (pages frame).facts.size ≡ Small) → (size ≡ Large → frame % 512 ≡ 0)
    → (f g : ℕ) → covers f (range_lock size frame) ≡ true → (pages f).facts.size ≡ Large → AreOfOneRegion f g → covers g (range_lock size frame) ≡ true
range_whole pages Small frame small aligned f g inside large same =
    absurd (small_not_large (pages f).facts.size (subst (λ (k : ℕ). (pages k).facts.size ≡ Small) (sym (small_range_covered frame f inside)) (small refl)) large)
range_whole pages Large frame small aligned f g inside large same = region_covered frame f g (aligned refl) inside same

-- it is free where none of its frames has a holder
pub range_place : (size : PageSize) (frame g : ℕ) → covers g (range_lock size frame) ≡ true → in_range 0 (frames_in size) (g - frame) ≡ true
range_place size frame g inside = grind (arith, nat_tests)

pub range_frame : (size : PageSize) (frame g : ℕ) → covers g (range_lock size frame) ≡ true → frame + (g - frame) ≡ g
range_frame size frame g inside =
    let low : frame ≤ g = grind (arith, nat_tests) in omega arith

pub range_free : (pages : Pages) (actors : List ActorPart) (size : PageSize) (frame : ℕ) → (size ≡ Small → (pages frame).facts.size ≡ Small) → (size ≡ Large → frame % 512 ≡ 0)
    → range_holder (λ place. holder_from 1 actors (frame + place)) 0 (frames_in size) ≡ None → IsFree pages actors (range_lock size frame)
range_free pages actors size frame small aligned none = record {
  free = λ g inside.
      let holder = range_unlocked (λ place. holder_from 1 actors (frame + place)) 0 (frames_in size) none (g - frame) (range_place size frame g inside) in
      none_locked 1 actors g (subst (λ (f : ℕ). holder_from 1 actors f ≡ None) (range_frame size frame g inside) holder);
  whole = range_whole pages size frame small aligned;
}

past_test : (test : ActorPart → Bool) (actors : List ActorPart) (k : ℕ) → test idle_part ≡ false → length actors ≤ k → test (actor_at actors k) ≡ false
past_test test [] k idle past = idle
past_test test (part ∷ parts) zero idle past = absurd (omega arith)
past_test test (part ∷ parts) (suc k) idle past = past_test test parts k idle (omega arith)

-- what is locked after one actor's part has changed: it has locked nothing past the end of the list
pub at_changed : (test : ActorPart → Bool) (actors : List ActorPart) (a : ℕ) (part : ActorPart) → test idle_part ≡ false → test (actor_at (set actors a part) a) ≡ true → actor_at (set actors a part) a ≡ part
at_changed test actors a part idle locked =
    ⊎_elim
    (λ (within : a < length actors). get_or-set_same actors a part idle_part within)
    (λ (past : length actors ≤ a). absurd (true≢false (sym (subst (λ (xs : List ActorPart). test (actor_at xs a) ≡ true) (set_past actors a part past) locked) ∙ past_test test actors a idle past)))
    (cases_lt a (length actors))

pub record IsLockedBy (test : ActorPart → Bool) (actors : List ActorPart) (a : ℕ) (part : ActorPart) (j : ℕ) : Type 0 where
  pub own : j ≡ a → test part ≡ true
  pub others : j ≢ a → test (actor_at actors j) ≡ true

pub locked_after : (test : ActorPart → Bool) (actors : List ActorPart) (a : ℕ) (part : ActorPart) (j : ℕ) → test idle_part ≡ false
    → test (actor_at (set actors a part) j) ≡ true → IsLockedBy test actors a part j
locked_after test actors a part j idle locked = record {
  own = λ same.
      let here = subst (λ (k : ℕ). test (actor_at (set actors a part) k) ≡ true) same locked in
      subst (λ (p : ActorPart). test p ≡ true) (at_changed test actors a part idle here) here;
  others = λ other. subst (λ (p : ActorPart). test p ≡ true) (get_or-set_other actors a j part idle_part other) locked;
}

alone : (test : ActorPart → Bool) (actors : List ActorPart) (a : ℕ) (part : ActorPart) (k : ℕ)
    → ((j k : ℕ) → test (actor_at actors j) ≡ true → test (actor_at actors k) ≡ true → j ≡ k)
    → (test part ≡ true → (test (actor_at actors a) ≡ true) ⊎ ((k : ℕ) → test (actor_at actors k) ≡ false))
    → test part ≡ true → test (actor_at actors k) ≡ true → k ≡ a
alone test actors a part k one grown own at_k =
    ⊎_elim
    (λ (before : test (actor_at actors a) ≡ true). one k a at_k before)
    (λ (free : (k : ℕ) → test (actor_at actors k) ≡ false). absurd (true≢false (sym at_k ∙ free k)))
    (grown own)

-- one holder stays one, where the part has locked what it had locked before, or what nobody had
one_after : (test : ActorPart → Bool) (actors : List ActorPart) (a : ℕ) (part : ActorPart) (j k : ℕ) → test idle_part ≡ false
    → ((j k : ℕ) → test (actor_at actors j) ≡ true → test (actor_at actors k) ≡ true → j ≡ k)
    → (test part ≡ true → (test (actor_at actors a) ≡ true) ⊎ ((k : ℕ) → test (actor_at actors k) ≡ false))
    → test (actor_at (set actors a part) j) ≡ true → test (actor_at (set actors a part) k) ≡ true → j ≡ k
one_after test actors a part j k idle one grown at_j at_k =
    let by_j = locked_after test actors a part j idle at_j in
    let by_k = locked_after test actors a part k idle at_k in
    ⊎_elim
    (λ (j_is : j ≡ a). ⊎_elim
    (λ (k_is : k ≡ a). j_is ∙ sym k_is)
    (λ (k_not : k ≡ a → ⊥). absurd (k_not (alone test actors a part k one grown (by_j.own j_is) (by_k.others k_not))))
    (cases_eq k a))
    (λ (j_not : j ≡ a → ⊥). ⊎_elim
    (λ (k_is : k ≡ a). absurd (j_not (alone test actors a part j one grown (by_k.own k_is) (by_j.others j_not))))
    (λ (k_not : k ≡ a → ⊥). one j k (by_j.others j_not) (by_k.others k_not))
    (cases_eq k a))
    (cases_eq j a)

-- what an actor's part has locked after an event
pub record Grows (pages new : Pages) (actors : List ActorPart) (a : ℕ) (part : ActorPart) : Type 0 where
  pub frames : (f : ℕ) → locks_frame f part ≡ true → (locks_frame f (actor_at actors a) ≡ true) ⊎ IsUnlocked actors f
  pub contexts : (g : ℕ) → locks_context g part ≡ true → (locks_context g (actor_at actors a) ≡ true) ⊎ ((k : ℕ) → locks_context g (actor_at actors k) ≡ false)
  pub whole : (f g : ℕ) → locks_frame f part ≡ true → (new f).facts.size ≡ Large → AreOfOneRegion f g → locks_frame g part ≡ true
  pub sizes : (f : ℕ) → locks_frame f (actor_at actors a) ≡ false → (new f).facts.size ≡ (pages f).facts.size

pub context_idle : (g : ℕ) → locks_context g idle_part ≡ false
unfolding idle_part
context_idle g = refl

whole_after : (pages new : Pages) (actors : List ActorPart) (a : ℕ) (part : ActorPart) → HaveOneHolder pages actors → Grows pages new actors a part
    → (k f g : ℕ) → locks_frame f (actor_at (set actors a part) k) ≡ true → (new f).facts.size ≡ Large → AreOfOneRegion f g → locks_frame g (actor_at (set actors a part) k) ≡ true
whole_after pages new actors a part exclusive grows k f g locked large same =
    let by = locked_after (locks_frame f) actors a part k (idle_unlocked f) locked in
    ⊎_elim
    (λ (is : k ≡ a).
    let here = subst (λ (x : ℕ). locks_frame f (actor_at (set actors a part) x) ≡ true) is locked in
    let there = subst (λ (p : ActorPart). locks_frame g p ≡ true) (sym (at_changed (locks_frame f) actors a part (idle_unlocked f) here)) (grows.whole f g (by.own is) large same) in
    subst (λ (x : ℕ). locks_frame g (actor_at (set actors a part) x) ≡ true) (sym is) there)
    (λ (other : k ≡ a → ⊥).
    let before = by.others other in
    let beside : locks_frame f (actor_at actors a) ≡ false = not_true (locks_frame f (actor_at actors a)) (λ own. other (exclusive.pages_by_one k a f before own)) in
    subst (λ (p : ActorPart). locks_frame g p ≡ true) (sym (get_or-set_other actors a k part idle_part other))
    (exclusive.whole k f g before (sym (grows.sizes f beside) ∙ large) same))
    (cases_eq k a)

pub exclusive_after : (pages new : Pages) (actors : List ActorPart) (a : ℕ) (part : ActorPart) → HaveOneHolder pages actors → Grows pages new actors a part → HaveOneHolder new (set actors a part)
exclusive_after pages new actors a part exclusive grows = record {
  pages_by_one = λ j k frame. one_after (locks_frame frame) actors a part j k (idle_unlocked frame) (λ x y. exclusive.pages_by_one x y frame) (grows.frames frame);
  contexts_by_one = λ j k guest. one_after (locks_context guest) actors a part j k (context_idle guest) (λ x y. exclusive.contexts_by_one x y guest) (grows.contexts guest);
  whole = whole_after pages new actors a part exclusive grows;
}
