-- A page is opened that an entry kept: which entries are live then, where each page is held, and that counters and seals are kept.
use Rattle.std.proofs.Common.{◌≡◌, ◌≢◌, ℕ, Bool, true, false, cond, eqb, ◌&&◌, List, [], Option, Some, refl, sym, ap, ◌∙◌, subst, ◌⊎◌, ⊎_elim, arith}
use Rattle.std.specs.Prelude.{unwrap_or}
use Rattle.std.specs.Option.{option_map}
use Rattle.std.proofs.lemmas.Bool.Decides.{nat_tests}
use Rattle.snp_model.specs.declared.firmware.MetaEntry.{MetaEntry}
use Rattle.snp_model.specs.GuestMemory.{Memory}
use Rattle.snp_model.specs.Holders.{Holder, InFrame, Sealed, IsHeldAs, IsSealedAs, Holds, Core}
use Rattle.snp_model.specs.Live.{Archived, Archive, Vault, Spot, InEntry, InRoot, Under, IsUnder, IsLive, archived_words}
use Rattle.snp_model.specs.Metadata.{entry_at}
use Rattle.run_laws.specs.Uniqueness.{IsSealOf, IsEntryOf, Seals}
use Rattle.run_laws.proofs.CoreLaws.{core_moves}
use Rattle.run_laws.proofs.SpotLaws.{live_low, live_entry, entry_of, earlier_under}

-- the words of what may be archived
abbrev kept_words : Option Archived → List ℕ
kept_words archived = unwrap_or (option_map (λ (one : Archived). one.words) archived) []

-- whether a spot is a given one in a metadata page or the root
pub same_spot : Spot → Spot → Bool
same_spot (Under s e) slot = false
same_spot (InEntry f e) (InEntry g k) = eqb f g && eqb e k
same_spot (InEntry f e) slot = false
same_spot InRoot InRoot = true
same_spot InRoot slot = false

pub spot_frame : (f e g k : ℕ) → f ≢ g → same_spot (InEntry f e) (InEntry g k) ≡ false
unfolding same_spot
spot_frame f e g k other = grind (arith, nat_tests)

pub spot_entry : (f e g k : ℕ) → e ≢ k → same_spot (InEntry f e) (InEntry g k) ≡ false
unfolding same_spot
spot_entry f e g k other = grind (arith, nat_tests)

pub spot_root : (f e : ℕ) → same_spot (InEntry f e) InRoot ≡ false
unfolding same_spot
spot_root f e = refl

pub root_spot : (f e : ℕ) → same_spot InRoot (InEntry f e) ≡ false
unfolding same_spot
root_spot f e = refl

pub spot_self : (f e : ℕ) → same_spot (InEntry f e) (InEntry f e) ≡ true
unfolding same_spot
spot_self f e = grind (arith, nat_tests)

pub root_self : same_spot InRoot InRoot ≡ true
unfolding same_spot
root_self = refl

-- where an entry goes when the page that the entry at `slot` keeps is opened to a frame
pub forth_in : ℕ → Spot → Spot → Spot
forth_in dst slot (InEntry f e) = InEntry f e
forth_in dst slot InRoot = InRoot
forth_in dst slot (Under s e) = cond (same_spot s slot) (InEntry dst e) (Under (forth_in dst slot s) e)

forth_at : (dst : ℕ) (slot : Spot) (e : ℕ) → same_spot slot slot ≡ true → InEntry dst e ≡ forth_in dst slot (Under slot e)
unfolding forth_in
forth_at dst slot e top = ap (λ (b : Bool). cond b (InEntry dst e) (Under (forth_in dst slot slot) e)) (sym top)

forth_entry : (dst : ℕ) (slot : Spot) (f e : ℕ) → InEntry f e ≡ forth_in dst slot (InEntry f e)
unfolding forth_in
forth_entry dst slot f e = refl

forth_root : (dst : ℕ) (slot : Spot) → InRoot ≡ forth_in dst slot InRoot
unfolding forth_in
forth_root dst slot = refl

forth_under : (dst : ℕ) (slot s t : Spot) (e : ℕ) → same_spot t slot ≡ false → s ≡ forth_in dst slot t → Under s e ≡ forth_in dst slot (Under t e)
unfolding forth_in
forth_under dst slot s t e other is =
    ap (λ (above : Spot). Under above e) is ∙ ap (λ (b : Bool). cond b (InEntry dst e) (Under (forth_in dst slot t) e)) (sym other)

under_other : (s slot : Spot) (e : ℕ) → same_spot (Under s e) slot ≡ false
unfolding same_spot
under_other s slot e = refl

-- an entry of the page that an entry keeps
pub record Inner (archive : Archive) (taken : MetaEntry) (e : ℕ) (x : MetaEntry) : Type 0 where
  pub kind_is : taken.kind ≡ 2
  pub archived : Archived
  pub kept : archive taken.iv ≡ Some archived
  pub is : entry_at archived.words e ≡ Some x

-- a page is opened, and its entry is cleared
pub record In (asid : ℕ) (old new : Vault) (dst : ℕ) (slot : Spot) (taken : MetaEntry) : Type 0 where
  pub top : same_spot slot slot ≡ true
  pub live : IsLive asid old slot taken
  pub counter_after : new.context.iv ≡ old.context.iv
  pub key : new.context.key ≡ old.context.key
  pub pages : (f e : ℕ) (x : MetaEntry) → IsEntryOf asid (new.pages f) e x
      → ((f ≡ dst) × Inner old.archive taken e x) ⊎ ((same_spot (InEntry f e) slot ≡ false) × IsEntryOf asid (old.pages f) e x)
  pub root : (x : MetaEntry) → new.context.root ≡ Some x → (same_spot InRoot slot ≡ false) × (old.context.root ≡ Some x)
  pub archive : (k : ℕ) → new.archive k ≡ old.archive k
  pub frames : (f gpn : ℕ) → IsHeldAs (new.pages f).facts asid gpn
      → ((f ≡ dst) × IsSealedAs taken gpn × ((new.pages f).words ≡ archived_words old.archive taken.iv)) ⊎ (IsHeldAs (old.pages f).facts asid gpn × ((new.pages f).words ≡ (old.pages f).words))

abbrev pub CameIn : ℕ → Vault → ℕ → Spot → Spot → MetaEntry → Type 0
CameIn asid old dst slot s x = (t : Spot) × (s ≡ forth_in dst slot t) × (same_spot t slot ≡ false) × IsLive asid old t x

inner_under : (asid : ℕ) (old : Vault) (slot : Spot) (taken : MetaEntry) (e : ℕ) (x : MetaEntry) → Seals asid old → IsLive asid old slot taken
    → Inner old.archive taken e x → IsUnder old.archive asid taken e x
inner_under asid old slot taken e x seals live inner =
    let below = seals.inner slot taken inner.archived e x live inner.kind_is inner.kept inner.is in
    record { kind_is = inner.kind_is; archived = inner.archived; kept = inner.kept; own = record { is = inner.is; asid_is = below.asid_is; low = below.low } }

pub in_live : (asid : ℕ) (old new : Vault) (dst : ℕ) (slot : Spot) (taken : MetaEntry) → Seals asid old → In asid old new dst slot taken
    → (s : Spot) (x : MetaEntry) → IsLive asid new s x → CameIn asid old dst slot s x
in_live asid old new dst slot taken seals opens (InEntry f e) x live =
    ⊎_elim
    (λ (now : (f ≡ dst) × Inner old.archive taken e x). (
      Under slot e,
      ap (λ (g : ℕ). InEntry g e) now.0 ∙ forth_at dst slot e opens.top,
      under_other slot slot e,
      (taken, opens.live, inner_under asid old slot taken e x seals opens.live now.1),
    ))
    (λ (was : (same_spot (InEntry f e) slot ≡ false) × IsEntryOf asid (old.pages f) e x).
    (InEntry f e, forth_entry dst slot f e, was.0, live_entry asid old seals f e x was.1))
    (opens.pages f e x (entry_of asid _ (new.pages f) e x live))
in_live asid old new dst slot taken seals opens InRoot x live =
    let was = opens.root x live in
    (InRoot, forth_root dst slot, was.0, was.1)
in_live asid old new dst slot taken seals opens (Under s e) x live =
    let came = in_live asid old new dst slot taken seals opens s live.0 live.1 in (
      Under came.0 e,
      forth_under dst slot s came.0 e came.2 came.1,
      under_other came.0 slot e,
      (live.0, came.3, earlier_under asid old new live.0 e x (opens.archive live.0.iv) live.2),
    )

-- so the holders
pub forth_holder_in : ℕ → Spot → Holder → Holder
forth_holder_in dst slot (InFrame f) = InFrame f
forth_holder_in dst slot (Sealed s) = cond (same_spot s slot) (InFrame dst) (Sealed (forth_in dst slot s))

holder_frame : (dst : ℕ) (slot : Spot) (f : ℕ) → InFrame f ≡ forth_holder_in dst slot (InFrame f)
unfolding forth_holder_in
holder_frame dst slot f = refl

holder_at : (dst : ℕ) (slot : Spot) → same_spot slot slot ≡ true → InFrame dst ≡ forth_holder_in dst slot (Sealed slot)
unfolding forth_holder_in
holder_at dst slot top = ap (λ (b : Bool). cond b (InFrame dst) (Sealed (forth_in dst slot slot))) (sym top)

holder_sealed : (dst : ℕ) (slot s t : Spot) → same_spot t slot ≡ false → s ≡ forth_in dst slot t → Sealed s ≡ forth_holder_in dst slot (Sealed t)
unfolding forth_holder_in
holder_sealed dst slot s t other is = ap (λ (spot : Spot). Sealed spot) is ∙ ap (λ (b : Bool). cond b (InFrame dst) (Sealed (forth_in dst slot t))) (sym other)

in_back : (asid : ℕ) (old new : Vault) (dst : ℕ) (slot : Spot) (taken : MetaEntry) → Seals asid old → In asid old new dst slot taken
    → (gpn : ℕ) (x : Holder) (u : List ℕ) → Holds asid new gpn x u → (y : Holder) × (x ≡ forth_holder_in dst slot y) × Holds asid old gpn y u
in_back asid old new dst slot taken seals opens gpn (InFrame f) u holds =
    ⊎_elim
    (λ (now : (f ≡ dst) × IsSealedAs taken gpn × ((new.pages f).words ≡ archived_words old.archive taken.iv)).
    (Sealed slot, ap (λ (g : ℕ). InFrame g) now.0 ∙ holder_at dst slot opens.top, (taken, opens.live, now.1, holds.1 ∙ now.2)))
    (λ (was : IsHeldAs (old.pages f).facts asid gpn × ((new.pages f).words ≡ (old.pages f).words)).
    (InFrame f, holder_frame dst slot f, (was.0, holds.1 ∙ was.1)))
    (opens.frames f gpn holds.0)
in_back asid old new dst slot taken seals opens gpn (Sealed s) u holds =
    let came = in_live asid old new dst slot taken seals opens s holds.0 holds.1 in
    (Sealed came.0, holder_sealed dst slot s came.0 came.2 came.1, (holds.0, came.3, holds.2, holds.3 ∙ ap kept_words (opens.archive holds.0.iv)))

pub in_core : (asid : ℕ) (old new : Vault) (memory : Memory) (dst : ℕ) (slot : Spot) (taken : MetaEntry) → Seals asid old
    → In asid old new dst slot taken → Core asid old memory → Core asid new memory
in_core asid old new memory dst slot taken seals opens =
    core_moves asid old new memory (forth_holder_in dst slot) (record { back = in_back asid old new dst slot taken seals opens })

pub in_seals : (asid : ℕ) (old new : Vault) (dst : ℕ) (slot : Spot) (taken : MetaEntry) → Seals asid old → In asid old new dst slot taken → Seals asid new
in_seals asid old new dst slot taken seals opens =
    let of = in_live asid old new dst slot taken seals opens in
    let counter_after = opens.counter_after in
    record {
      counters = λ s t x y lx ly same.
          let cx = of s x lx in
          let cy = of t y ly in
          cx.1 ∙ ap (forth_in dst slot) (seals.counters cx.0 cy.0 x y cx.3 cy.3 same) ∙ sym cy.1;
      sealed = λ s x live.
          let came = of s x live in
          let was = seals.sealed came.0 x came.3 in
          record { archived = was.archived; kept = opens.archive x.iv ∙ was.kept; seals = subst (λ (k : List ℕ). IsSealOf k was.archived x) (sym opens.key) was.seals };
      inner = λ s x z e y live kind kept found.
          let came = of s x live in
          seals.inner came.0 x z e y came.3 kind (sym (opens.archive x.iv) ∙ kept) found;
      low = λ f e x is.
          ⊎_elim
          (λ (now : (f ≡ dst) × Inner old.archive taken e x).
          let inner = now.1 in
          let below = (seals.inner slot taken inner.archived e x opens.live inner.kind_is inner.kept inner.is).low in
          let low = live_low asid old seals slot taken opens.live in
          omega arith)
          (λ (was : (same_spot (InEntry f e) slot ≡ false) × IsEntryOf asid (old.pages f) e x). let low = seals.low f e x was.1 in omega arith)
          (opens.pages f e x is);
      root = λ x is.
          let root = seals.root x (opens.root x is).1 in
          record { kind_is = root.kind_is; asid_is = root.asid_is; low = omega arith };
    }
