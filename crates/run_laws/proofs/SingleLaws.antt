-- The lists say it: each page has at most one holder, and no two live entries have one counter. The depth of the lists is enough.
use Rattle.std.proofs.Common.{◌≡◌, ◌≢◌, ℕ, zero, suc, ◌+◌, ◌<◌, ◌≤◌, Bool, true, false, cond, eqb, ltb, ◌&&◌, List, [], ◌∷◌, ◌++◌, Option, Some, None, lt_irrefl, refl, sym, ap, ◌∙◌, subst, arith}
use Rattle.std.proofs.lemmas.Bool.{cond_both}
use Rattle.std.proofs.lemmas.Bool.Decides.{nat_tests}
use Rattle.std.specs.List.{AllByRecursion}
use Rattle.snp_model.specs.declared.entry.RmpEntry.{RmpEntry}
use Rattle.snp_model.specs.declared.firmware.MetaEntry.{MetaEntry}
use Rattle.snp_model.specs.GuestMemory.{Memory}
use Rattle.snp_model.specs.Holders.{Holder, InFrame, Sealed, IsHeldAs, IsSealedAs, Holds, Core, frame_holder, sealed_holders, holders}
use Rattle.snp_model.specs.Live.{Archived, Archive, Vault, Spot, Under, Live, Lister, rows, listed_in, listed_entry, below_depth, live, archived_words}
use Rattle.snp_model.specs.Metadata.{entry_at}
use Rattle.snp_model.specs.Sound.{Pairwise}
use Rattle.snp_model.proofs.PairLaws.{each_append, each_rows, each_map, pair_append, pair_rows, at_most_one}
use Rattle.run_laws.specs.Uniqueness.{Seals, IsSingle}
use Rattle.run_laws.proofs.ListedLaws.{IsLiveAt, SpotsDiffer, lives, live_apart, counters_differ}

held_as : (facts : RmpEntry) (asid gpn : ℕ) → (facts.assigned && facts.validated && eqb facts.asid asid && eqb facts.gpn gpn) ≡ true → IsHeldAs facts asid gpn
held_as facts asid gpn e = record { assigned = grind (arith, nat_tests); validated = grind (arith, nat_tests); asid_is = grind (arith, nat_tests); gpn_is = grind (arith, nat_tests) }

sealed_as : (x : MetaEntry) (gpn : ℕ) → (eqb x.kind 1 && x.validated && eqb x.gpn gpn) ≡ true → IsSealedAs x gpn
sealed_as x gpn e = record { kind_is = grind (arith, nat_tests); validated = grind (arith, nat_tests); gpn_is = grind (arith, nat_tests) }

spot_is : (s t : Spot) → Sealed s ≡ Sealed t → s ≡ t
spot_is s t e = cc

frame_number : (f g : ℕ) → InFrame f ≡ InFrame g → f ≡ g
frame_number f g e = cc

frame_sealed : (f : ℕ) (s : Spot) → InFrame f ≡ Sealed s → ⊥
frame_sealed f s e = cc

-- the holders of a page
abbrev HoldsIt : ℕ → Vault → ℕ → Holder → Type 0
HoldsIt asid vault gpn x = (u : List ℕ) × Holds asid vault gpn x u

abbrev Differ : Holder → Holder → Type 0
Differ x y = x ≢ y

abbrev IsFrame : ℕ → Holder → Type 0
IsFrame f x = x ≡ InFrame f

record FrameFits (asid : ℕ) (vault : Vault) (gpn f : ℕ) (listed : List Holder) : Type 0 where
  holds : AllByRecursion (HoldsIt asid vault gpn) listed
  is : AllByRecursion (IsFrame f) listed
  apart : Pairwise Differ listed

frame_fits : (asid : ℕ) (vault : Vault) (gpn f : ℕ) → FrameFits asid vault gpn f (frame_holder asid vault gpn f)
unfolding frame_holder
frame_fits asid vault gpn f =
    let facts = (vault.pages f).facts in
    cond_both (facts.assigned && facts.validated && eqb facts.asid asid && eqb facts.gpn gpn) _ _ (FrameFits asid vault gpn f)
    (λ held. record { holds = (((vault.pages f).words, (held_as facts asid gpn held, refl)), tt); is = (refl, tt); apart = (tt, tt) })
    (λ _. record { holds = tt; is = tt; apart = tt })

abbrev IsSealedOne : Holder → Type 0
IsSealedOne x = (s : Spot) × (x ≡ Sealed s)

sealed_hold : (asid : ℕ) (vault : Vault) (gpn : ℕ) (listed : List Live) → AllByRecursion (IsLiveAt asid vault) listed → AllByRecursion (HoldsIt asid vault gpn) (sealed_holders gpn listed)
unfolding sealed_holders
sealed_hold asid vault gpn [] all = tt
sealed_hold asid vault gpn (one ∷ others) all =
    let x = one.entry in
    let rest = sealed_hold asid vault gpn others all.1 in
    cond_both (eqb x.kind 1 && x.validated && eqb x.gpn gpn) _ _ (AllByRecursion (HoldsIt asid vault gpn))
    (λ is. ((archived_words vault.archive x.iv, (x, all.0, sealed_as x gpn is, refl)), rest)) (λ _. rest)

sealed_are : (gpn : ℕ) (listed : List Live) → AllByRecursion IsSealedOne (sealed_holders gpn listed)
unfolding sealed_holders
sealed_are gpn [] = tt
sealed_are gpn (one ∷ others) = cond_both (eqb one.entry.kind 1 && one.entry.validated && eqb one.entry.gpn gpn) _ _ (AllByRecursion IsSealedOne) (λ _. ((one.spot, refl), sealed_are gpn others)) (λ _. sealed_are gpn others)

sealed_off : (gpn : ℕ) (spot : Spot) (listed : List Live) → AllByRecursion (λ one. spot ≢ one.spot) listed → AllByRecursion (Differ (Sealed spot)) (sealed_holders gpn listed)
unfolding sealed_holders
sealed_off gpn spot [] all = tt
sealed_off gpn spot (one ∷ others) all =
    cond_both (eqb one.entry.kind 1 && one.entry.validated && eqb one.entry.gpn gpn) _ _ (AllByRecursion (Differ (Sealed spot))) (λ _. ((λ same. all.0 (spot_is spot one.spot same)), sealed_off gpn spot others all.1))
    (λ _. sealed_off gpn spot others all.1)

sealed_apart : (gpn : ℕ) (listed : List Live) → Pairwise SpotsDiffer listed → Pairwise Differ (sealed_holders gpn listed)
unfolding sealed_holders
sealed_apart gpn [] all = tt
sealed_apart gpn (one ∷ others) all =
    cond_both (eqb one.entry.kind 1 && one.entry.validated && eqb one.entry.gpn gpn) _ _ (Pairwise Differ) (λ _. (sealed_off gpn one.spot others all.0, sealed_apart gpn others all.1)) (λ _. sealed_apart gpn others all.1)

holders_hold : (asid : ℕ) (vault : Vault) (frames gpn : ℕ) → Seals asid vault → AllByRecursion (HoldsIt asid vault gpn) (holders asid vault frames gpn)
unfolding holders
holders_hold asid vault frames gpn seals =
    each_append (HoldsIt asid vault gpn) (rows (frame_holder asid vault gpn) 0 frames) (sealed_holders gpn (live asid vault frames))
    (each_rows (HoldsIt asid vault gpn) (frame_holder asid vault gpn) 0 frames (λ f. (frame_fits asid vault gpn f).holds))
    (sealed_hold asid vault gpn (live asid vault frames) (lives asid vault frames seals))

holders_apart : (asid : ℕ) (vault : Vault) (frames gpn : ℕ) → Pairwise Differ (holders asid vault frames gpn)
unfolding holders
holders_apart asid vault frames gpn =
    let fits = frame_fits asid vault gpn in
    let sealed = sealed_holders gpn (live asid vault frames) in
    pair_append Differ (rows (frame_holder asid vault gpn) 0 frames) sealed
    (pair_rows Differ IsFrame (frame_holder asid vault gpn) 0 frames (λ f. (fits f).is) (λ f. (fits f).apart)
    (λ j k x y low xj yk same. lt_irrefl j (subst (λ (n : ℕ). j < n) (frame_number k j (sym yk ∙ sym same ∙ xj)) low)))
    (sealed_apart gpn (live asid vault frames) (live_apart asid vault frames))
    (each_rows (λ x. AllByRecursion (Differ x) sealed) (frame_holder asid vault gpn) 0 frames
    (λ f. each_map (IsFrame f) (λ x. AllByRecursion (Differ x) sealed) (frame_holder asid vault gpn f)
    (λ x is. each_map IsSealedOne (Differ x) sealed (λ y s same. frame_sealed f s.0 (sym is ∙ same ∙ s.1)) (sealed_are gpn (live asid vault frames))) (fits f).is))

pub lists_single : (asid : ℕ) (vault : Vault) (memory : Memory) (frames : ℕ) → Core asid vault memory → Seals asid vault → IsSingle asid vault frames
lists_single asid vault memory frames core seals = record {
  one_holder = λ gpn.
      at_most_one (HoldsIt asid vault gpn) (holders asid vault frames gpn) (λ x y hx hy. core.unique gpn x y hx.0 hy.0 hx.1 hy.1) (holders_hold asid vault frames gpn seals) (holders_apart asid vault frames gpn);
  counters_differ = counters_differ asid vault frames seals;
}

under_test : {X : Type 0} (b : Bool) (x y z : X) → (b ≡ true → x ≡ y) → cond b x z ≡ cond b y z
under_test true x y z h = h refl
under_test false x y z h = refl

rows_none : {X : Type 0} (of : ℕ → List X) (first count : ℕ) → ((k : ℕ) → of k ≡ []) → rows of first count ≡ []
unfolding rows
rows_none of first zero none = refl
rows_none of first (suc count) none = ap (λ (row : List _). row ++ rows of (first + 1) count) (none first) ∙ rows_none of (first + 1) count none

listed_none : (inner : Lister) (archive : Archive) (asid bound : ℕ) (spot : Spot) (entry : Option MetaEntry) → bound ≡ 0 → listed_entry inner archive asid bound spot entry ≡ []
unfolding listed_entry
listed_none inner archive asid bound spot None is = refl
listed_none inner archive asid bound spot (Some x) is =
    cond_both (eqb x.asid asid && ltb x.iv bound) _ _ (λ (r : List Live). r ≡ []) (λ own. let low : x.iv < bound = grind (arith, nat_tests) in absurd (omega arith)) (λ _. refl)

-- a depth above the bound makes no difference, so the lists are what their own recursion says
rows_same : {X : Type 0} (one other : ℕ → List X) (first count : ℕ) → ((k : ℕ) → one k ≡ other k) → rows one first count ≡ rows other first count
rows_same one other first count same = ap (λ (of : ℕ → List _). rows of first count) (λ i k. same k i)

listed_in_same : (one other : Lister) (spot : Spot) (counter : ℕ) (archived : Option Archived) → ((at : ℕ → Spot) (words : List ℕ) → one at counter words ≡ other at counter words)
    → listed_in one spot counter archived ≡ listed_in other spot counter archived
unfolding listed_in
listed_in_same one other spot counter None same = refl
listed_in_same one other spot counter (Some archived) same = same (Under spot) archived.words

listed_entry_same : (one other : Lister) (archive : Archive) (asid bound : ℕ) (spot : Spot) (entry : Option MetaEntry)
    → ((at : ℕ → Spot) (counter : ℕ) (words : List ℕ) → counter < bound → one at counter words ≡ other at counter words)
    → listed_entry one archive asid bound spot entry ≡ listed_entry other archive asid bound spot entry
unfolding listed_entry
listed_entry_same one other archive asid bound spot None same = refl
listed_entry_same one other archive asid bound spot (Some x) same =
    under_test (eqb x.asid asid && ltb x.iv bound) _ _ []
    (λ own.
    let low : x.iv < bound = grind (arith, nat_tests) in
    ap (λ (rest : List Live). record { spot = spot; entry = x } ∷ cond (eqb x.kind 2) rest []) (listed_in_same one other spot x.iv (archive x.iv) (λ at words. same at x.iv words low)))

pub below_same : (archive : Archive) (asid depth : ℕ) (at : ℕ → Spot) (bound : ℕ) (words : List ℕ) → bound ≤ depth
    → (deep : ℕ) → bound ≤ deep → below_depth archive asid depth at bound words ≡ below_depth archive asid deep at bound words
unfolding below_depth
below_same archive asid zero at bound words low zero high = refl
below_same archive asid zero at bound words low (suc deep) high =
    sym (rows_none _ 0 64 (λ e. listed_none (below_depth archive asid deep) archive asid bound (at e) (entry_at words e) (omega arith)))
below_same archive asid (suc depth) at bound words low zero high =
    rows_none _ 0 64 (λ e. listed_none (below_depth archive asid depth) archive asid bound (at e) (entry_at words e) (omega arith))
below_same archive asid (suc depth) at bound words low (suc deep) high =
    rows_same _ _ 0 64
    (λ e. listed_entry_same (below_depth archive asid depth) (below_depth archive asid deep) archive asid bound (at e) (entry_at words e)
    (λ at2 counter words2 less. below_same archive asid depth at2 counter words2 (omega arith) deep (omega arith)))
