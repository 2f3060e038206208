-- The laws of parts that own their bays and contexts (this project's own).
use Rattle.std.specs.Prelude.{◌≡◌, ℕ, ◌-◌, ◌≤◌, length, slice_get, None, IsSome, is_some}
use Rattle.std.proofs.Common.{zero, suc, ◌<◌, List, [], ◌∷◌, set, refl, sym, ap, ◌∙◌, ⊎_elim, arith}
use Rattle.std.proofs.lemmas.Bool.{cases_lt, true≢false}
use Rattle.std.specs.Vec.{with_item}
use Rattle.std.proofs.Math.ListN.{length-set}
use Rattle.std.proofs.lemmas.Bool.Decides.{nat_tests}
use Rattle.snp_model.specs.HeldContexts.{HeldContext}
use Rattle.snp_model.specs.Touches.{Touched, region_of}
use Rattle.machine_core.specs.Bays.{HasTouched, Stock, own_contexts, own_stock, put, put_context, stock_with, stock_with_context}
use Rattle.machine_core.specs.declared.bay.Bay.{Bay}
use Rattle.machine_core.specs.declared.parts.OwnParts.{OwnParts}

-- all that such parts can lend
abbrev stock_of : OwnParts → Stock
stock_of parts = own_stock parts.bays.items parts.contexts.items

abbrev with_own : OwnParts → ℕ → Bay → OwnParts
with_own parts region bay = record parts { bays = with_item parts.bays region bay }

abbrev with_own_context : OwnParts → ℕ → HeldContext → OwnParts
with_own_context parts guest held = record parts { contexts = with_item parts.contexts (guest - 1) held }

-- there are as many bays and contexts as before
pub record SameLengths (first second : OwnParts) : Type 0 where
  pub bays : length second.bays.items ≡ length first.bays.items
  pub contexts : length second.contexts.items ≡ length first.contexts.items

pub some_within : {X : Type 0} (items : List X) (place : ℕ) → IsSome (slice_get items place) → place < length items
some_within [] place some = cc
some_within (item ∷ items) zero some = omega arith
some_within (item ∷ items) (suc place) some = let h = some_within items place some in omega arith

pub within_some : {X : Type 0} (items : List X) (place : ℕ) → place < length items → IsSome (slice_get items place)
within_some [] place within = absurd (omega arith)
within_some (item ∷ items) zero within = refl
within_some (item ∷ items) (suc place) within = within_some items place (omega arith)

slice_get_set : (bays : List Bay) (region : ℕ) (bay : Bay) (r : ℕ) → region < length bays → slice_get (set bays region bay) r ≡ put region bay (slice_get bays) r
slice_get_set [] region bay r within = absurd (omega arith)
slice_get_set (b ∷ bays) zero bay zero within = grind (arith, nat_tests)
slice_get_set (b ∷ bays) zero bay (suc r) within = grind (arith, nat_tests)
slice_get_set (b ∷ bays) (suc region) bay zero within = grind (arith, nat_tests)
slice_get_set (b ∷ bays) (suc region) bay (suc r) within = let h = slice_get_set bays region bay r (omega arith) in grind (arith, nat_tests)

-- a written bay is that of its region, and all else stays
pub bay_put : (parts : OwnParts) (region : ℕ) (bay : Bay) → IsSome ((stock_of parts).bays region) → stock_of (with_own parts region bay) ≡ stock_with region bay (stock_of parts)
bay_put parts region bay some =
    λ i. record { bays = λ r. slice_get_set parts.bays.items region bay r (some_within parts.bays.items region some) i; contexts = own_contexts parts.contexts.items }

pub bay_alone : (parts : OwnParts) (region : ℕ) (bay : Bay) → IsSome ((stock_of parts).bays region) → (stock_of (with_own parts region bay)).contexts ≡ (stock_of parts).contexts
bay_alone parts region bay some = refl

-- the context of a guest from 1 on is one of the list, and guest 0 has none
pub own_at : (contexts : List HeldContext) (guest : ℕ) → 0 < guest → own_contexts contexts guest ≡ slice_get contexts (guest - 1)
own_at contexts guest some = grind (arith, nat_tests)

pub own_none : (contexts : List HeldContext) (guest : ℕ) → guest ≤ 0 → own_contexts contexts guest ≡ None
own_none contexts guest none = grind (arith, nat_tests)

guest_some : (contexts : List HeldContext) (guest : ℕ) → IsSome (own_contexts contexts guest) → 0 < guest
guest_some contexts guest some =
    ⊎_elim
    (λ (positive : 0 < guest). positive)
    (λ (zero : guest ≤ 0). absurd (true≢false (sym some ∙ ap is_some (own_none contexts guest zero))))
    (cases_lt 0 guest)

pub guest_within : (contexts : List HeldContext) (guest : ℕ) → IsSome (own_contexts contexts guest) → (0 < guest) × (guest - 1 < length contexts)
guest_within contexts guest some =
    let positive = guest_some contexts guest some in
    (positive, some_within contexts (guest - 1) (sym (ap is_some (own_at contexts guest positive)) ∙ some))

pub within_guest : (contexts : List HeldContext) (guest : ℕ) → 0 < guest → guest - 1 < length contexts → IsSome (own_contexts contexts guest)
within_guest contexts guest some within = ap is_some (own_at contexts guest some) ∙ within_some contexts (guest - 1) within

context_get_set : (contexts : List HeldContext) (place : ℕ) (held : HeldContext) (p : ℕ) → place < length contexts → slice_get (set contexts place held) p ≡ put_context place held (slice_get contexts) p
context_get_set [] place held p within = absurd (omega arith)
context_get_set (c ∷ contexts) zero held zero within = grind (arith, nat_tests)
context_get_set (c ∷ contexts) zero held (suc p) within = grind (arith, nat_tests)
context_get_set (c ∷ contexts) (suc place) held zero within = grind (arith, nat_tests)
context_get_set (c ∷ contexts) (suc place) held (suc p) within = let h = context_get_set contexts place held p (omega arith) in grind (arith, nat_tests)

context_put_at : (contexts : List HeldContext) (guest : ℕ) (held : HeldContext) (g : ℕ) → IsSome (own_contexts contexts guest) → own_contexts (set contexts (guest - 1) held) g ≡ put_context guest held (own_contexts contexts) g
context_put_at contexts guest held g some =
    let within = guest_within contexts guest some in
    let positive : 0 < guest = within.0 in
    ⊎_elim
    (λ (after : 0 < g).
    let h = context_get_set contexts (guest - 1) held (g - 1) within.1 in
    own_at (set contexts (guest - 1) held) g after ∙ h ∙ (let e = own_at contexts g after in grind (arith, nat_tests)))
    (λ (zero : g ≤ 0). own_none (set contexts (guest - 1) held) g zero ∙ (let e = own_none contexts g zero in grind (arith, nat_tests)))
    (cases_lt 0 g)

-- a written context is that of its guest, and all else stays
pub context_put : (parts : OwnParts) (guest : ℕ) (held : HeldContext) → IsSome ((stock_of parts).contexts guest) → stock_of (with_own_context parts guest held) ≡ stock_with_context guest held (stock_of parts)
context_put parts guest held some = λ i. record { bays = slice_get parts.bays.items; contexts = λ g. context_put_at parts.contexts.items guest held g some i }

pub context_alone : (parts : OwnParts) (guest : ℕ) (held : HeldContext) → IsSome ((stock_of parts).contexts guest) → (stock_of (with_own_context parts guest held)).bays ≡ (stock_of parts).bays
context_alone parts guest held some = refl

-- lengths stay
pub lengths_same : (parts : OwnParts) → SameLengths parts parts
lengths_same parts = record { bays = refl; contexts = refl }

pub lengths_twice : (first second third : OwnParts) → SameLengths first second → SameLengths second third → SameLengths first third
lengths_twice first second third h k = record { bays = k.bays ∙ h.bays; contexts = k.contexts ∙ h.contexts }

pub bay_lengths : (parts : OwnParts) (region : ℕ) (bay : Bay) → IsSome ((stock_of parts).bays region) → SameLengths parts (with_own parts region bay)
bay_lengths parts region bay some = record { bays = length-set parts.bays.items region bay; contexts = refl }

pub context_lengths : (parts : OwnParts) (guest : ℕ) (held : HeldContext) → IsSome ((stock_of parts).contexts guest) → SameLengths parts (with_own_context parts guest held)
context_lengths parts guest held some = record { bays = refl; contexts = length-set parts.contexts.items (guest - 1) held }

-- so all that was there is there
pub lengths_has : (first second : OwnParts) → SameLengths first second → (touched : Touched) → HasTouched touched (stock_of first) → HasTouched touched (stock_of second)
lengths_has first second same touched has = record {
  bays = λ frame is_touched.
      let within = some_within first.bays.items (region_of frame) (has.bays frame is_touched) in
      let count = same.bays in
      within_some second.bays.items (region_of frame) (omega arith);
  contexts = λ guest is_touched.
      let within = guest_within first.contexts.items guest (has.contexts guest is_touched) in
      let count = same.contexts in
      let below = within.1 in
      within_guest second.contexts.items guest within.0 (omega arith);
}
