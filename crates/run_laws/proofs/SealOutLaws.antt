-- A page is sealed under a new entry: which entries are live then, where each page is held, and that counters and seals are kept.
use Rattle.std.proofs.Common.{◌≡◌, ◌≢◌, ℕ, ◌<◌, ◌+◌, cond, eqb, List, [], Option, Some, refl, sym, ap, ◌∙◌, subst, ◌⊎◌, inl, inr, ⊎_elim, arith}
use Rattle.std.specs.Prelude.{unwrap_or}
use Rattle.std.specs.Option.{option_map}
use Rattle.std.proofs.lemmas.Bool.Decides.{nat_tests}
use Rattle.snp_model.specs.declared.firmware.MetaEntry.{MetaEntry}
use Rattle.snp_model.specs.GuestMemory.{Memory}
use Rattle.snp_model.specs.Holders.{Holder, InFrame, Sealed, IsHeldAs, IsSealedAs, Holds, Core}
use Rattle.snp_model.specs.Live.{Archived, Vault, Spot, InEntry, InRoot, Under, IsLive}
use Rattle.snp_model.specs.Metadata.{entry_at}
use Rattle.run_laws.specs.Uniqueness.{IsSealOf, IsEntryOf, Seals}
use Rattle.run_laws.proofs.CoreLaws.{core_moves}
use Rattle.run_laws.proofs.SpotLaws.{live_low, live_entry, entry_of, some_same, earlier_under}

-- the words of what may be archived
abbrev kept_words : Option Archived → List ℕ
kept_words archived = unwrap_or (option_map (λ (one : Archived). one.words) archived) []

-- where an entry goes whose page is sealed under the entry at `slot`
pub forth_out : ℕ → Spot → Spot → Spot
forth_out src slot (InEntry f e) = cond (eqb f src) (Under slot e) (InEntry f e)
forth_out src slot InRoot = InRoot
forth_out src slot (Under s e) = Under (forth_out src slot s) e

forth_at : (src : ℕ) (slot : Spot) (e : ℕ) → Under slot e ≡ forth_out src slot (InEntry src e)
unfolding forth_out
forth_at src slot e = grind (arith, nat_tests)

forth_off : (src : ℕ) (slot : Spot) (f e : ℕ) → f ≢ src → InEntry f e ≡ forth_out src slot (InEntry f e)
unfolding forth_out
forth_off src slot f e other = grind (arith, nat_tests)

forth_root : (src : ℕ) (slot : Spot) → InRoot ≡ forth_out src slot InRoot
unfolding forth_out
forth_root src slot = refl

forth_under : (src : ℕ) (slot s t : Spot) (e : ℕ) → s ≡ forth_out src slot t → Under s e ≡ forth_out src slot (Under t e)
unfolding forth_out
forth_under src slot s t e is = ap (λ (above : Spot). Under above e) is

abbrev pub Fresh : Spot → MetaEntry → Spot → MetaEntry → Type 0
Fresh slot fresh s x = (s ≡ slot) × (x ≡ fresh)

-- a page is sealed under a new entry
pub record Out (asid : ℕ) (old new : Vault) (src : ℕ) (slot : Spot) (fresh : MetaEntry) (archived : Archived) : Type 0 where
  pub counter : fresh.iv ≡ old.context.iv
  pub counter_after : new.context.iv ≡ old.context.iv + 1
  pub key : new.context.key ≡ old.context.key
  pub pages : (f e : ℕ) (x : MetaEntry) → IsEntryOf asid (new.pages f) e x → Fresh slot fresh (InEntry f e) x ⊎ ((f ≢ src) × IsEntryOf asid (old.pages f) e x)
  pub root : (x : MetaEntry) → new.context.root ≡ Some x → (Fresh slot fresh InRoot x × (x.kind ≡ 2) × (x.asid ≡ asid)) ⊎ (old.context.root ≡ Some x)
  pub earlier : (k : ℕ) → k < old.context.iv → new.archive k ≡ old.archive k
  pub kept : new.archive old.context.iv ≡ Some archived
  pub seals : IsSealOf old.context.key archived fresh
  pub inner : fresh.kind ≡ 2 → (e : ℕ) (x : MetaEntry) → entry_at archived.words e ≡ Some x → IsEntryOf asid (old.pages src) e x
  pub frames : (f gpn : ℕ) → IsHeldAs (new.pages f).facts asid gpn → (f ≢ src) × IsHeldAs (old.pages f).facts asid gpn × ((new.pages f).words ≡ (old.pages f).words)
  pub page : (gpn : ℕ) → IsSealedAs fresh gpn → IsHeldAs (old.pages src).facts asid gpn × (archived.words ≡ (old.pages src).words)

abbrev pub Came : ℕ → Vault → (Spot → Spot) → Spot → MetaEntry → Type 0
Came asid old forth s x = (t : Spot) × (s ≡ forth t) × IsLive asid old t x

-- what stands under the new entry
fresh_kept : (asid : ℕ) (old new : Vault) (src : ℕ) (slot : Spot) (fresh : MetaEntry) (archived : Archived) → Out asid old new src slot fresh archived
    → (x : MetaEntry) → x ≡ fresh → new.archive x.iv ≡ Some archived
fresh_kept asid old new src slot fresh archived out x is = ap new.archive (ap (λ (y : MetaEntry). y.iv) is ∙ out.counter) ∙ out.kept

pub out_live : (asid : ℕ) (old new : Vault) (src : ℕ) (slot : Spot) (fresh : MetaEntry) (archived : Archived) → Seals asid old
    → Out asid old new src slot fresh archived
    → (s : Spot) (x : MetaEntry) → IsLive asid new s x → Fresh slot fresh s x ⊎ Came asid old (forth_out src slot) s x
out_live asid old new src slot fresh archived seals out (InEntry f e) x live =
    ⊎_elim
    (λ (is : Fresh slot fresh (InEntry f e) x). inl is)
    (λ (was : (f ≢ src) × IsEntryOf asid (old.pages f) e x). inr (InEntry f e, forth_off src slot f e was.0, live_entry asid old seals f e x was.1))
    (out.pages f e x (entry_of asid _ (new.pages f) e x live))
out_live asid old new src slot fresh archived seals out InRoot x live =
    ⊎_elim
    (λ (is : Fresh slot fresh InRoot x × (x.kind ≡ 2) × (x.asid ≡ asid)). inl is.0)
    (λ (was : old.context.root ≡ Some x). inr (InRoot, forth_root src slot, was))
    (out.root x live)
out_live asid old new src slot fresh archived seals out (Under s e) x live =
    ⊎_elim
    (λ (is : Fresh slot fresh s live.0).
    let under = live.2 in
    let same : archived ≡ under.archived = some_same archived under.archived (sym (fresh_kept asid old new src slot fresh archived out live.0 is.1) ∙ under.kept) in
    let found : entry_at archived.words e ≡ Some x = ap (λ (z : Archived). entry_at z.words e) same ∙ under.own.is in
    let inner = out.inner (sym (ap (λ (y : MetaEntry). y.kind) is.1) ∙ under.kind_is) e x found in
    inr (InEntry src e, ap (λ (t : Spot). Under t e) is.0 ∙ forth_at src slot e, live_entry asid old seals src e x inner))
    (λ (came : Came asid old (forth_out src slot) s live.0).
    let low = live_low asid old seals came.0 live.0 came.2 in
    inr (Under came.0 e, forth_under src slot s came.0 e came.1, (live.0, came.2, earlier_under asid old new live.0 e x (out.earlier live.0.iv low) live.2)))
    (out_live asid old new src slot fresh archived seals out s live.0 live.1)

-- so the holders
pub forth_holder_out : ℕ → Spot → Holder → Holder
forth_holder_out src slot (InFrame f) = cond (eqb f src) (Sealed slot) (InFrame f)
forth_holder_out src slot (Sealed s) = Sealed (forth_out src slot s)

holder_at : (src : ℕ) (slot : Spot) → Sealed slot ≡ forth_holder_out src slot (InFrame src)
unfolding forth_holder_out
holder_at src slot = grind (arith, nat_tests)

holder_off : (src : ℕ) (slot : Spot) (f : ℕ) → f ≢ src → InFrame f ≡ forth_holder_out src slot (InFrame f)
unfolding forth_holder_out
holder_off src slot f other = grind (arith, nat_tests)

holder_sealed : (src : ℕ) (slot s t : Spot) → s ≡ forth_out src slot t → Sealed s ≡ forth_holder_out src slot (Sealed t)
unfolding forth_holder_out
holder_sealed src slot s t is = ap (λ (spot : Spot). Sealed spot) is

out_back : (asid : ℕ) (old new : Vault) (src : ℕ) (slot : Spot) (fresh : MetaEntry) (archived : Archived) → Seals asid old
    → Out asid old new src slot fresh archived
    → (gpn : ℕ) (x : Holder) (u : List ℕ) → Holds asid new gpn x u → (y : Holder) × (x ≡ forth_holder_out src slot y) × Holds asid old gpn y u
out_back asid old new src slot fresh archived seals out gpn (InFrame f) u holds =
    let was = out.frames f gpn holds.0 in
    (InFrame f, holder_off src slot f was.0, (was.1, holds.1 ∙ was.2))
out_back asid old new src slot fresh archived seals out gpn (Sealed s) u holds =
    ⊎_elim
    (λ (is : Fresh slot fresh s holds.0).
    let page = out.page gpn (subst (λ (y : MetaEntry). IsSealedAs y gpn) is.1 holds.2) in
    let words : u ≡ archived.words = holds.3 ∙ ap kept_words (fresh_kept asid old new src slot fresh archived out holds.0 is.1) in
    (InFrame src, ap (λ (spot : Spot). Sealed spot) is.0 ∙ holder_at src slot, (page.0, words ∙ page.1)))
    (λ (came : Came asid old (forth_out src slot) s holds.0).
    let low = live_low asid old seals came.0 holds.0 came.2 in
    let words = holds.3 ∙ ap kept_words (out.earlier holds.0.iv low) in
    (Sealed came.0, holder_sealed src slot s came.0 came.1, (holds.0, came.2, holds.2, words)))
    (out_live asid old new src slot fresh archived seals out s holds.0 holds.1)

pub out_core : (asid : ℕ) (old new : Vault) (memory : Memory) (src : ℕ) (slot : Spot) (fresh : MetaEntry) (archived : Archived) → Seals asid old
    → Out asid old new src slot fresh archived → Core asid old memory → Core asid new memory
out_core asid old new memory src slot fresh archived seals out =
    core_moves asid old new memory (forth_holder_out src slot) (record { back = out_back asid old new src slot fresh archived seals out })

-- and the seals
out_counters : (asid : ℕ) (old new : Vault) (src : ℕ) (slot : Spot) (fresh : MetaEntry) (archived : Archived) → Seals asid old
    → Out asid old new src slot fresh archived
    → (s t : Spot) (x y : MetaEntry) → IsLive asid new s x → IsLive asid new t y → x.iv ≡ y.iv → s ≡ t
out_counters asid old new src slot fresh archived seals out s t x y lx ly same =
    let came_low = λ (z : Spot) (w : MetaEntry) (came : Came asid old (forth_out src slot) z w). live_low asid old seals came.0 w came.2 in
    let counter = out.counter in
    let of = out_live asid old new src slot fresh archived seals out in
    ⊎_elim
    (λ (ix : Fresh slot fresh s x).
    let ex = ap (λ (z : MetaEntry). z.iv) ix.1 in
    ⊎_elim
    (λ (iy : Fresh slot fresh t y). ix.0 ∙ sym iy.0)
    (λ (cy : Came asid old (forth_out src slot) t y). let low = came_low t y cy in absurd (omega arith))
    (of t y ly))
    (λ (cx : Came asid old (forth_out src slot) s x).
    let low = came_low s x cx in
    ⊎_elim
    (λ (iy : Fresh slot fresh t y). let ey = ap (λ (z : MetaEntry). z.iv) iy.1 in absurd (omega arith))
    (λ (cy : Came asid old (forth_out src slot) t y). cx.1 ∙ ap (forth_out src slot) (seals.counters cx.0 cy.0 x y cx.2 cy.2 same) ∙ sym cy.1)
    (of t y ly))
    (of s x lx)

pub out_seals : (asid : ℕ) (old new : Vault) (src : ℕ) (slot : Spot) (fresh : MetaEntry) (archived : Archived) → Seals asid old
    → Out asid old new src slot fresh archived → Seals asid new
out_seals asid old new src slot fresh archived seals out =
    let counter = out.counter in
    let counter_after = out.counter_after in
    record {
      counters = out_counters asid old new src slot fresh archived seals out;
      sealed = λ s x live.
          ⊎_elim
          (λ (is : Fresh slot fresh s x). record {
            archived = archived;
            kept = fresh_kept asid old new src slot fresh archived out x is.1;
            seals = subst (λ (k : List ℕ). IsSealOf k archived x) (sym out.key) (subst (IsSealOf old.context.key archived) (sym is.1) out.seals);
          })
          (λ (came : Came asid old (forth_out src slot) s x).
          let was = seals.sealed came.0 x came.2 in
          record {
            archived = was.archived;
            kept = out.earlier x.iv (live_low asid old seals came.0 x came.2) ∙ was.kept;
            seals = subst (λ (k : List ℕ). IsSealOf k was.archived x) (sym out.key) was.seals;
          })
          (out_live asid old new src slot fresh archived seals out s x live);
      inner = λ s x z e y live kind kept found.
          ⊎_elim
          (λ (is : Fresh slot fresh s x).
          let same : archived ≡ z = some_same archived z (sym (fresh_kept asid old new src slot fresh archived out x is.1) ∙ kept) in
          let inner = out.inner (sym (ap (λ (w : MetaEntry). w.kind) is.1) ∙ kind) e y (ap (λ (w : Archived). entry_at w.words e) same ∙ found) in
          let low = seals.low src e y inner in
          let ix = ap (λ (w : MetaEntry). w.iv) is.1 in
          record { asid_is = inner.asid_is; low = omega arith })
          (λ (came : Came asid old (forth_out src slot) s x).
          seals.inner came.0 x z e y came.2 kind (sym (out.earlier x.iv (live_low asid old seals came.0 x came.2)) ∙ kept) found)
          (out_live asid old new src slot fresh archived seals out s x live);
      low = λ f e x is.
          ⊎_elim
          (λ (fr : Fresh slot fresh (InEntry f e) x). let ix = ap (λ (w : MetaEntry). w.iv) fr.1 in omega arith)
          (λ (was : (f ≢ src) × IsEntryOf asid (old.pages f) e x). let low = seals.low f e x was.1 in omega arith)
          (out.pages f e x is);
      root = λ x is.
          ⊎_elim
          (λ (fr : Fresh slot fresh InRoot x × (x.kind ≡ 2) × (x.asid ≡ asid)). let ix = ap (λ (w : MetaEntry). w.iv) fr.0.1 in record { kind_is = fr.1; asid_is = fr.2; low = omega arith })
          (λ (was : old.context.root ≡ Some x). let root = seals.root x was in record { kind_is = root.kind_is; asid_is = root.asid_is; low = omega arith })
          (out.root x is);
    }
