-- Which entries are live, and that a change which takes entries and holders away, if it does anything, keeps what ties a guest's pages to their holders.
use Rattle.std.proofs.Common.{◌≡◌, ℕ, ◌<◌, List, [], Option, Some, refl, sym, ap, ◌∙◌, subst, arith}
use Rattle.std.specs.Prelude.{unwrap_or}
use Rattle.std.specs.Option.{option_map}
use Rattle.snp_model.specs.declared.firmware.MetaEntry.{MetaEntry}
use Rattle.snp_model.specs.GuestMemory.{Memory}
use Rattle.snp_model.specs.Holders.{Holder, InFrame, Sealed, IsHeldAs, Holds, Core}
use Rattle.snp_model.specs.Live.{Archived, Vault, Spot, InEntry, InRoot, Under, IsInPage, IsUnder, IsLive}
use Rattle.snp_model.specs.State.{Page}
use Rattle.run_laws.specs.Uniqueness.{IsSealOf, IsEntryOf, Seals}
use Rattle.run_laws.proofs.CoreLaws.{core_moves}

-- the words of what may be archived
abbrev kept_words : Option Archived → List ℕ
kept_words archived = unwrap_or (option_map (λ (one : Archived). one.words) archived) []

-- every live counter is below the context's, and every live entry has the guest's ASID
pub live_low : (asid : ℕ) (vault : Vault) → Seals asid vault → (s : Spot) (x : MetaEntry) → IsLive asid vault s x → x.iv < vault.context.iv
live_low asid vault seals (InEntry f e) x live = live.own.low
live_low asid vault seals InRoot x live = (seals.root x live).low
live_low asid vault seals (Under s e) x live =
    let above = live_low asid vault seals s live.0 live.1 in
    let own = live.2.own.low in
    omega arith

pub live_asid : (asid : ℕ) (vault : Vault) → Seals asid vault → (s : Spot) (x : MetaEntry) → IsLive asid vault s x → x.asid ≡ asid
live_asid asid vault seals (InEntry f e) x live = live.own.asid_is
live_asid asid vault seals InRoot x live = (seals.root x live).asid_is
live_asid asid vault seals (Under s e) x live = live.2.own.asid_is

pub entry_of : (asid bound : ℕ) (page : Page) (e : ℕ) (x : MetaEntry) → IsInPage asid bound page e x → IsEntryOf asid page e x
entry_of asid bound page e x live = record { metadata = live.metadata; is = live.own.is; asid_is = live.own.asid_is }

pub live_entry : (asid : ℕ) (vault : Vault) → Seals asid vault → (f e : ℕ) (x : MetaEntry) → IsEntryOf asid (vault.pages f) e x → IsLive asid vault (InEntry f e) x
live_entry asid vault seals f e x is =
    record { metadata = is.metadata; own = record { is = is.is; asid_is = is.asid_is; low = seals.low f e x is } }

pub some_same : {A : Type 0} (x y : A) → Some x ≡ Some y → x ≡ y
some_same x y e = cc

-- an entry in a page that is kept under an older counter
pub earlier_under : (asid : ℕ) (one other : Vault) → (y : MetaEntry) (e : ℕ) (x : MetaEntry) → other.archive y.iv ≡ one.archive y.iv
    → IsUnder other.archive asid y e x → IsUnder one.archive asid y e x
earlier_under asid one other y e x same under =
    record { kind_is = under.kind_is; archived = under.archived; kept = sym same ∙ under.kept; own = under.own }

-- a change that takes entries and holders away, if it does anything
pub record Fewer (asid : ℕ) (old new : Vault) : Type 0 where
  pub counter_after : new.context.iv ≡ old.context.iv
  pub key : new.context.key ≡ old.context.key
  pub pages : (f e : ℕ) (x : MetaEntry) → IsEntryOf asid (new.pages f) e x → IsEntryOf asid (old.pages f) e x
  pub root : (x : MetaEntry) → new.context.root ≡ Some x → old.context.root ≡ Some x
  pub archive : (k : ℕ) → new.archive k ≡ old.archive k
  pub frames : (f gpn : ℕ) → IsHeldAs (new.pages f).facts asid gpn → IsHeldAs (old.pages f).facts asid gpn × ((new.pages f).words ≡ (old.pages f).words)

pub record FewerLive (asid : ℕ) (old new : Vault) : Type 0 where
  pub counter_after : new.context.iv ≡ old.context.iv
  pub key : new.context.key ≡ old.context.key
  pub pages : (f e : ℕ) (x : MetaEntry) → IsEntryOf asid (new.pages f) e x → IsEntryOf asid (old.pages f) e x
  pub root : (x : MetaEntry) → new.context.root ≡ Some x → old.context.root ≡ Some x
  pub archive : (k : ℕ) → new.archive k ≡ old.archive k

pub fewer_live : (asid : ℕ) (old new : Vault) → Seals asid old → FewerLive asid old new
    → (s : Spot) (x : MetaEntry) → IsLive asid new s x → IsLive asid old s x
fewer_live asid old new seals fewer (InEntry f e) x live = live_entry asid old seals f e x (fewer.pages f e x (entry_of asid _ (new.pages f) e x live))
fewer_live asid old new seals fewer InRoot x live = fewer.root x live
fewer_live asid old new seals fewer (Under s e) x live =
    (live.0, fewer_live asid old new seals fewer s live.0 live.1, earlier_under asid old new live.0 e x (fewer.archive live.0.iv) live.2)

pub live_of : (asid : ℕ) (old new : Vault) → Fewer asid old new → FewerLive asid old new
live_of asid old new fewer = record { counter_after = fewer.counter_after; key = fewer.key; pages = fewer.pages; root = fewer.root; archive = fewer.archive }

fewer_back : (asid : ℕ) (old new : Vault) → Seals asid old → Fewer asid old new
    → (gpn : ℕ) (x : Holder) (u : List ℕ) → Holds asid new gpn x u → (y : Holder) × (x ≡ y) × Holds asid old gpn y u
fewer_back asid old new seals fewer gpn (InFrame f) u holds =
    let was = fewer.frames f gpn holds.0 in
    (InFrame f, refl, (was.0, holds.1 ∙ was.1))
fewer_back asid old new seals fewer gpn (Sealed s) u holds =
    (Sealed s, refl, (holds.0, fewer_live asid old new seals (live_of asid old new fewer) s holds.0 holds.1, holds.2, holds.3 ∙ ap kept_words (fewer.archive holds.0.iv)))

pub fewer_core : (asid : ℕ) (old new : Vault) (memory : Memory) → Seals asid old → Fewer asid old new → Core asid old memory → Core asid new memory
fewer_core asid old new memory seals fewer =
    core_moves asid old new memory (λ x. x) (record { back = fewer_back asid old new seals fewer })

pub fewer_seals : (asid : ℕ) (old new : Vault) → Seals asid old → FewerLive asid old new → Seals asid new
fewer_seals asid old new seals fewer =
    let of = fewer_live asid old new seals fewer in
    let counter_after = fewer.counter_after in
    record {
      counters = λ s t x y lx ly same. seals.counters s t x y (of s x lx) (of t y ly) same;
      sealed = λ s x live.
          let was = seals.sealed s x (of s x live) in
          record { archived = was.archived; kept = fewer.archive x.iv ∙ was.kept; seals = subst (λ (k : List ℕ). IsSealOf k was.archived x) (sym fewer.key) was.seals };
      inner = λ s x z e y live kind kept found. seals.inner s x z e y (of s x live) kind (sym (fewer.archive x.iv) ∙ kept) found;
      low = λ f e x is. let low = seals.low f e x (fewer.pages f e x is) in omega arith;
      root = λ x is. let root = seals.root x (fewer.root x is) in record { kind_is = root.kind_is; asid_is = root.asid_is; low = omega arith };
    }
