-- What a change of a range in the bay of its region leaves of the flat memory and of its locks.
use Rattle.std.proofs.Common.{◌≡◌, ◌≢◌, ℕ, ◌+◌, ◌-◌, ◌/◌, ◌%◌, ◌<◌, ◌≤◌, Bool, true, false, not, ◌&&◌, ◌||◌, IsSome, is_some, cond, eqb, [], ◌∷◌, Option, None, Some, refl, sym, ap, ◌∙◌, ⊎_elim, arith}
use Rattle.std.proofs.lemmas.Bool.{cases_eq, true≢false}
use Rattle.std.proofs.lemmas.Bool.Decides.{nat_tests}
use Rattle.snp_model.specs.declared.entry.PageSize.{PageSize}
use Rattle.snp_model.specs.declared.entry.PageSize.TheVariants.{Small, Large}
use Rattle.snp_model.specs.Entries.{released}
use Rattle.snp_model.specs.Facts.{frames_in}
use Rattle.snp_model.specs.Locks.{covers, in_range, over}
use Rattle.snp_model.specs.State.{Page, PageLock}
use Rattle.snp_model.specs.Verdicts.{is_large}
use Rattle.run_laws.specs.KeptLocks.{relocked}
use Rattle.machine_core.specs.declared.bay.Bay.{Bay}
use Rattle.machine_core.specs.Bays.{Bays, Stock, holder_in, holders_of, page_in, pages_of, stock_with}
use Rattle.machine_core.proofs.BaysLaws.{put_at, put_off, range_beside, same_range}

-- what is read of a bay by slot, read by frame
abbrev pub by_frame : {A : Type 0} → (Option Bay → ℕ → A) → Bays → ℕ → A
by_frame read bays f = read (bays (f / 512)) (f % 512)

-- a bay was put where another was
pub record IsPut (stock new_stock : Stock) (region : ℕ) (old new : Bay) : Type 0 where
  pub there : stock.bays region ≡ Some old
  pub stock_is : new_stock ≡ stock_with region new stock

pub read_old : {A : Type 0} (read : Option Bay → ℕ → A) (stock new_stock : Stock) (region : ℕ) (old new : Bay) → IsPut stock new_stock region old new
    → (f : ℕ) → f / 512 ≡ region → by_frame read stock.bays f ≡ read (Some old) (f % 512)
read_old read stock new_stock region old new is f here = ap (λ (o : Option Bay). read o (f % 512)) (ap stock.bays here ∙ is.there)

pub read_new : {A : Type 0} (read : Option Bay → ℕ → A) (stock new_stock : Stock) (region : ℕ) (old new : Bay) → IsPut stock new_stock region old new
    → (f : ℕ) → f / 512 ≡ region → by_frame read new_stock.bays f ≡ read (Some new) (f % 512)
read_new read stock new_stock region old new is f here =
    ap (λ (s : Stock). by_frame read s.bays f) is.stock_is ∙ ap (λ (o : Option Bay). read o (f % 512)) (put_at stock.bays region new (f / 512) here)

pub read_beside : {A : Type 0} (read : Option Bay → ℕ → A) (stock new_stock : Stock) (region : ℕ) (old new : Bay) → IsPut stock new_stock region old new
    → (f : ℕ) → f / 512 ≢ region → by_frame read new_stock.bays f ≡ by_frame read stock.bays f
read_beside read stock new_stock region old new is f apart =
    ap (λ (s : Stock). by_frame read s.bays f) is.stock_is ∙ ap (λ (o : Option Bay). read o (f % 512)) (put_off stock.bays region new (f / 512) apart)

-- what is read at a place of a range whose bay is there
pub read_in : {A : Type 0} (read : Option Bay → ℕ → A) (bays : Bays) (bay : Bay) (base place : ℕ) → bays (base / 512) ≡ Some bay → base % 512 + place < 512
    → by_frame read bays (base + place) ≡ read (Some bay) (base % 512 + place)
read_in read bays bay base place there within =
    let region : (base + place) / 512 ≡ base / 512 = omega arith in
    let slot : (base + place) % 512 ≡ base % 512 + place = omega arith in
    (λ i. read (bays (region i)) (slot i)) ∙ ap (λ (o : Option Bay). read o (base % 512 + place)) there

-- the bay that is there is one
pub some_there : (bays : Bays) (region : ℕ) (bay : Bay) → bays region ≡ Some bay → IsSome (bays region)
some_there bays region bay there = ap is_some there

-- a place of a range that lies in one region, by frame and by slot
place_here : (base count f : ℕ) → f / 512 ≡ base / 512 → in_range base count f ≡ true → f % 512 - base % 512 ≡ f - base
place_here base count f here inside = grind (arith, nat_tests)

place_moved : {A : Type 0} (base count : ℕ) (change : ℕ → A → A) (kept : A) (f : ℕ) (inside : Bool) → f / 512 ≡ base / 512 → in_range base count f ≡ inside
    → cond inside (change (f % 512 - base % 512) kept) kept ≡ cond inside (change (f - base) kept) kept
place_moved base count change kept f true here is = ap (λ (place : ℕ). change place kept) (place_here base count f here is)
place_moved base count change kept f false here is = refl

over_here : {A : Type 0} (base count : ℕ) (change : ℕ → A → A) (kept : A) (f : ℕ) → f / 512 ≡ base / 512
    → cond (in_range (base % 512) count (f % 512)) (change (f % 512 - base % 512) kept) kept ≡ cond (in_range base count f) (change (f - base) kept) kept
over_here base count change kept f here =
    ap (λ (b : Bool). cond b (change (f % 512 - base % 512) kept) kept) (same_range base count f here)
    ∙ place_moved base count change kept f (in_range base count f) here refl

over_apart : {A : Type 0} (base count : ℕ) (change : ℕ → A → A) (kept : ℕ → A) (f : ℕ) → base % 512 + count ≤ 512 → f / 512 ≢ base / 512 → over base count change kept f ≡ kept f
over_apart base count change kept f fits apart = ap (λ (b : Bool). cond b (change (f - base) (kept f)) (kept f)) (range_beside base count f fits apart)

-- what is read of a bay was changed over a range
range_each : {A : Type 0} (read : Option Bay → ℕ → A) (stock new_stock : Stock) (base count : ℕ) (old new : Bay) (change : ℕ → A → A) → base % 512 + count ≤ 512 → IsPut stock new_stock (base / 512) old new
    → read (Some new) ≡ over (base % 512) count change (read (Some old)) → (f : ℕ) → by_frame read new_stock.bays f ≡ over base count change (by_frame read stock.bays) f
range_each read stock new_stock base count old new change fits is changed f =
    ⊎_elim
    (λ (here : f / 512 ≡ base / 512).
    read_new read stock new_stock (base / 512) old new is f here
    ∙ (λ i. changed i (f % 512))
    ∙ over_here base count change (read (Some old) (f % 512)) f here
    ∙ (λ i. cond (in_range base count f) (change (f - base) (sym (read_old read stock new_stock (base / 512) old new is f here) i)) (sym (read_old read stock new_stock (base / 512) old new is f here) i)))
    (λ (apart : f / 512 ≢ base / 512).
    read_beside read stock new_stock (base / 512) old new is f apart ∙ sym (over_apart base count change (by_frame read stock.bays) f fits apart))
    (cases_eq (f / 512) (base / 512))

-- or it stayed
stays_each : {A : Type 0} (read : Option Bay → ℕ → A) (stock new_stock : Stock) (region : ℕ) (old new : Bay) → IsPut stock new_stock region old new
    → read (Some new) ≡ read (Some old) → (f : ℕ) → by_frame read new_stock.bays f ≡ by_frame read stock.bays f
stays_each read stock new_stock region old new is same f =
    ⊎_elim
    (λ (here : f / 512 ≡ region).
    read_new read stock new_stock region old new is f here ∙ (λ i. same i (f % 512)) ∙ sym (read_old read stock new_stock region old new is f here))
    (λ (apart : f / 512 ≢ region). read_beside read stock new_stock region old new is f apart)
    (cases_eq (f / 512) region)

-- so of pages
pub pages_changed : (stock new_stock : Stock) (base count : ℕ) (old new : Bay) (change : ℕ → Page → Page) → base % 512 + count ≤ 512 → IsPut stock new_stock (base / 512) old new
    → page_in (Some new) ≡ over (base % 512) count change (page_in (Some old)) → pages_of new_stock.bays ≡ over base count change (pages_of stock.bays)
unfolding pages_of
pages_changed stock new_stock base count old new change fits is changed = λ i f. range_each page_in stock new_stock base count old new change fits is changed f i

pub pages_stay : (stock new_stock : Stock) (region : ℕ) (old new : Bay) → IsPut stock new_stock region old new → page_in (Some new) ≡ page_in (Some old) → pages_of new_stock.bays ≡ pages_of stock.bays
unfolding pages_of
pages_stay stock new_stock region old new is same = λ i f. stays_each page_in stock new_stock region old new is same f i

-- and of the holders of locks
pub holders_changed : (stock new_stock : Stock) (base count : ℕ) (old new : Bay) (change : ℕ → Option ℕ → Option ℕ) → base % 512 + count ≤ 512 → IsPut stock new_stock (base / 512) old new
    → holder_in (Some new) ≡ over (base % 512) count change (holder_in (Some old)) → holders_of new_stock.bays ≡ over base count change (holders_of stock.bays)
unfolding holders_of
holders_changed stock new_stock base count old new change fits is changed = λ i f. range_each holder_in stock new_stock base count old new change fits is changed f i

pub holders_stay : (stock new_stock : Stock) (region : ℕ) (old new : Bay) → IsPut stock new_stock region old new → holder_in (Some new) ≡ holder_in (Some old) → holders_of new_stock.bays ≡ holders_of stock.bays
unfolding holders_of
holders_stay stock new_stock region old new is same = λ i f. stays_each holder_in stock new_stock region old new is same f i

-- a lock that another has stays as an actor's are released
pub released_other : (actor : ℕ) (holder : Option ℕ) → holder ≢ Some actor → released actor holder ≡ holder
released_other actor None other = refl
released_other actor (Some holder) other =
    ⊎_elim
    (λ (same : holder ≡ actor). absurd (other (ap (λ (n : ℕ). Some n) same)))
    (λ (apart : holder ≢ actor). grind (arith, nat_tests))
    (cases_eq holder actor)

-- an actor whose locks are all in one region has released them
pub holders_released : (stock new_stock : Stock) (region actor : ℕ) (old new : Bay) → IsPut stock new_stock region old new → holder_in (Some new) ≡ (λ (slot : ℕ). released actor (holder_in (Some old) slot))
    → ((f : ℕ) → holders_of stock.bays f ≡ Some actor → f / 512 ≡ region) → holders_of new_stock.bays ≡ relocked actor [] (holders_of stock.bays)
unfolding holders_of
holders_released stock new_stock region actor old new is left within = λ i f. each f i
  where
    each : (f : ℕ) → by_frame holder_in new_stock.bays f ≡ released actor (by_frame holder_in stock.bays f)
    each f =
        ⊎_elim
        (λ (here : f / 512 ≡ region).
        read_new holder_in stock new_stock region old new is f here ∙ (λ i. left i (f % 512)) ∙ ap (released actor) (sym (read_old holder_in stock new_stock region old new is f here)))
        (λ (apart : f / 512 ≢ region).
        read_beside holder_in stock new_stock region old new is f apart ∙ sym (released_other actor (by_frame holder_in stock.bays f) (λ held. apart (within f held))))
        (cases_eq (f / 512) region)

-- an actor without a lock has none to release
pub relocked_none : (actor : ℕ) (holder : ℕ → Option ℕ) → ((f : ℕ) → holder f ≢ Some actor) → relocked actor [] holder ≡ holder
relocked_none actor holder none = λ i f. released_other actor (holder f) (none f) i

-- and may take one
pub relocked_one : (actor : ℕ) (lock : PageLock) (holder : ℕ → Option ℕ) → ((f : ℕ) → holder f ≢ Some actor) → over lock.base lock.count (λ place old. Some actor) holder ≡ relocked actor (lock ∷ []) holder
relocked_one actor lock holder none = λ i f. by_cover (covers f lock) (holder f) (none f) i
  where
    by_cover : (covered : Bool) (held : Option ℕ) → held ≢ Some actor → cond covered (Some actor) held ≡ cond (covered || false) (Some actor) (released actor held)
    by_cover true held other = refl
    by_cover false held other = sym (released_other actor held other)

-- a range that begins at a multiple of its size lies in one region
pub fits_region : (size : PageSize) (frame : ℕ) → (is_large size && not (eqb (frame % 512) 0)) ≡ false → frame % 512 + frames_in size ≤ 512
fits_region Small frame aligned = omega arith
fits_region Large frame aligned = let first : frame % 512 ≡ 0 = grind (arith, nat_tests) in omega arith

-- the frames of its lock are of that region
pub covered_region : (base count f : ℕ) → base % 512 + count ≤ 512 → in_range base count f ≡ true → f / 512 ≡ base / 512
covered_region base count f fits inside =
    ⊎_elim
    (λ (here : f / 512 ≡ base / 512). here)
    (λ (apart : f / 512 ≢ base / 512). absurd (true≢false (sym inside ∙ range_beside base count f fits apart)))
    (cases_eq (f / 512) (base / 512))
