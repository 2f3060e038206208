-- The list of a guest's live entries: each one stands at its place, no place stands there twice, and no counter.
use Rattle.std.proofs.Common.{◌≡◌, ◌≢◌, ℕ, zero, suc, ◌<◌, ◌≤◌, true, cond, eqb, ltb, ◌&&◌, List, [], ◌∷◌, Option, Some, None, lt_irrefl, refl, sym, ◌∙◌, subst, ◌⊎◌, inl, inr, ⊎_elim, arith}
use Rattle.std.proofs.lemmas.Bool.{cond_both, eqb-true, and_parts}
use Rattle.std.proofs.lemmas.Bool.Decides.{nat_tests}
use Rattle.std.specs.List.{AllByRecursion}
use Rattle.snp_model.specs.declared.entry.Kind.{Kind}
use Rattle.snp_model.specs.declared.entry.Kind.TheVariants as kinds
use Rattle.snp_model.specs.declared.firmware.MetaEntry.{MetaEntry}
use Rattle.snp_model.specs.Live.{Archived, Archive, Vault, Spot, InEntry, InRoot, Under, IsOwn, IsLive, Live, Lister, rows, listed_in, listed_entry, below_depth, below, is_metadata_kind, page_live, root_live, live}
use Rattle.snp_model.specs.Metadata.{entry_at}
use Rattle.snp_model.specs.Sound.{Pairwise}
use Rattle.snp_model.proofs.PairLaws.{each_append, each_rows, each_map, pair_append, pair_rows, pair_map}
use Rattle.run_laws.specs.Uniqueness.{Seals, CountersDiffer}

-- a page whose kind is tested
pub kind_metadata : (kind : Kind) → is_metadata_kind kind ≡ true → kind ≡ kinds.Metadata
kind_metadata kinds.Plain is = absurd (cc)
kind_metadata kinds.Firmware is = absurd (cc)
kind_metadata kinds.Context is = absurd (cc)
kind_metadata kinds.Metadata is = refl

-- a spot stands at another, or below it
Within : Spot → Spot → Type 0
Within base (InEntry f e) = InEntry f e ≡ base
Within base InRoot = InRoot ≡ base
Within base (Under s e) = (Under s e ≡ base) ⊎ Within base s

depth : Spot → ℕ
depth (InEntry f e) = 0
depth InRoot = 0
depth (Under s e) = suc (depth s)

within_self : (s : Spot) → Within s s
unfolding Within
within_self (InEntry f e) = refl
within_self InRoot = refl
within_self (Under s e) = inl refl

within_depth : (base s : Spot) → Within base s → depth base ≤ depth s
unfolding Within depth
within_depth base (InEntry f e) w = subst (λ (b : Spot). depth b ≤ 0) w (omega arith)
within_depth base InRoot w = subst (λ (b : Spot). depth b ≤ 0) w (omega arith)
within_depth base (Under s e) w =
    ⊎_elim (λ (same : Under s e ≡ base). subst (λ (b : Spot). depth b ≤ suc (depth s)) same (omega arith))
    (λ (up : Within base s). let low = within_depth base s up in omega arith) w

under_above : (s t : Spot) (e k : ℕ) → Under s e ≡ Under t k → s ≡ t
under_above s t e k is = cc

under_entry : (s t : Spot) (e k : ℕ) → Under s e ≡ Under t k → e ≡ k
under_entry s t e k is = cc

within_up : (base s : Spot) (e : ℕ) → Within (Under base e) s → Within base s
unfolding Within
within_up base (InEntry f k) e w = absurd cc
within_up base InRoot e w = absurd cc
within_up base (Under s k) e w =
    ⊎_elim (λ (same : Under s k ≡ Under base e). inr (subst (Within base) (sym (under_above s base k e same)) (within_self base)))
    (λ (up : Within (Under base e) s). inr (within_up base s e up)) w

-- two entries of one page have nothing in common
Branches : (ℕ → Spot) → Type 0
Branches at = (e k : ℕ) (s : Spot) → e ≢ k → Within (at e) s → Within (at k) s → ⊥

too_deep : (base : Spot) (e : ℕ) → Within (Under base e) base → ⊥
unfolding depth
too_deep base e w = let low = within_depth (Under base e) base w in omega arith

under_branches : (base : Spot) (e k : ℕ) (s : Spot) → e ≢ k → Within (Under base e) s → Within (Under base k) s → ⊥
unfolding Within
under_branches base e k (InEntry f i) apart a b = cc
under_branches base e k InRoot apart a b = cc
under_branches base e k (Under s i) apart a b =
    ⊎_elim
    (λ (at_e : Under s i ≡ Under base e).
    ⊎_elim
    (λ (at_k : Under s i ≡ Under base k). apart (sym (under_entry s base i e at_e) ∙ under_entry s base i k at_k))
    (λ (up_k : Within (Under base k) s). too_deep base k (subst (Within (Under base k)) (under_above s base i e at_e) up_k))
    b)
    (λ (up_e : Within (Under base e) s).
    ⊎_elim
    (λ (at_k : Under s i ≡ Under base k). too_deep base e (subst (Within (Under base e)) (under_above s base i k at_k) up_e))
    (λ (up_k : Within (Under base k) s). under_branches base e k s apart up_e up_k)
    b)
    a

-- two entries of metadata pages
entry_same : (f e g k : ℕ) (s : Spot) → Within (InEntry f e) s → Within (InEntry g k) s → InEntry f e ≡ InEntry g k
unfolding Within
entry_same f e g k (InEntry h i) a b = sym a ∙ b
entry_same f e g k InRoot a b = absurd cc
entry_same f e g k (Under s i) a b =
    ⊎_elim (λ (at : Under s i ≡ InEntry f e). absurd cc)
    (λ (up : Within (InEntry f e) s). ⊎_elim (λ (at : Under s i ≡ InEntry g k). absurd cc) (λ (other : Within (InEntry g k) s). entry_same f e g k s up other) b) a

entry_root : (f e : ℕ) (s : Spot) → Within (InEntry f e) s → Within InRoot s → ⊥
unfolding Within
entry_root f e (InEntry h i) a b = cc
entry_root f e InRoot a b = cc
entry_root f e (Under s i) a b =
    ⊎_elim (λ (at : Under s i ≡ InEntry f e). cc)
    (λ (up : Within (InEntry f e) s). ⊎_elim (λ (at : Under s i ≡ InRoot). cc) (λ (other : Within InRoot s). entry_root f e s up other) b) a

frame_is : (f e g k : ℕ) → InEntry f e ≡ InEntry g k → f ≡ g
frame_is f e g k is = cc

entry_is : (f e g k : ℕ) → InEntry f e ≡ InEntry g k → e ≡ k
entry_is f e g k is = cc

entry_branches : (f : ℕ) → Branches (InEntry f)
unfolding Branches
entry_branches f e k s apart a b = apart (entry_is f e f k (entry_same f e f k s a b))

-- each listed entry is live at its spot
abbrev pub IsLiveAt : ℕ → Vault → Live → Type 0
IsLiveAt asid vault one = IsLive asid vault one.spot one.entry

-- what tells the entries of a page whose entries stand at these spots
abbrev Home : ℕ → Vault → (ℕ → Spot) → ℕ → List ℕ → Type 0
Home asid vault at bound words = (e : ℕ) (x : MetaEntry) → IsOwn asid bound words e x → IsLive asid vault (at e) x

under_home : (asid : ℕ) (vault : Vault) (spot : Spot) (x : MetaEntry) (archived : Archived) → IsLive asid vault spot x → x.kind ≡ 2 → vault.archive x.iv ≡ Some archived
    → Home asid vault (Under spot) x.iv archived.words
under_home asid vault spot x archived live kind kept e y own = (x, live, record { kind_is = kind; archived = archived; kept = kept; own = own })

listed_in_live : (asid : ℕ) (vault : Vault) (inner : Lister)
    → ((at : ℕ → Spot) (bound : ℕ) (words : List ℕ) → Home asid vault at bound words → AllByRecursion (IsLiveAt asid vault) (inner at bound words))
    → (spot : Spot) (x : MetaEntry) (archived : Option Archived) → vault.archive x.iv ≡ archived → IsLive asid vault spot x → x.kind ≡ 2 → AllByRecursion (IsLiveAt asid vault) (listed_in inner spot x.iv archived)
unfolding listed_in
listed_in_live asid vault inner each spot x None is live kind = tt
listed_in_live asid vault inner each spot x (Some archived) is live kind = each (Under spot) x.iv archived.words (under_home asid vault spot x archived live kind is)

listed_entry_live : (asid : ℕ) (vault : Vault) (inner : Lister)
    → ((at : ℕ → Spot) (bound : ℕ) (words : List ℕ) → Home asid vault at bound words → AllByRecursion (IsLiveAt asid vault) (inner at bound words))
    → (at : ℕ → Spot) (bound : ℕ) (words : List ℕ) → Home asid vault at bound words → (e : ℕ) (entry : Option MetaEntry) → entry_at words e ≡ entry
    → AllByRecursion (IsLiveAt asid vault) (listed_entry inner vault.archive asid bound (at e) entry)
unfolding listed_entry
listed_entry_live asid vault inner each at bound words home e None is = tt
listed_entry_live asid vault inner each at bound words home e (Some x) is =
    cond_both (eqb x.asid asid && ltb x.iv bound) _ _ (AllByRecursion (IsLiveAt asid vault))
    (λ own.
    let parts = and_parts (eqb x.asid asid) (ltb x.iv bound) own in
    let low : x.iv < bound = grind (arith, nat_tests) in
    let live : IsLive asid vault (at e) x = home e x (record { is = is; asid_is = eqb-true x.asid asid parts.0; low = low }) in
    (live, cond_both (eqb x.kind 2) _ _ (AllByRecursion (IsLiveAt asid vault)) (λ kind. listed_in_live asid vault inner each (at e) x (vault.archive x.iv) refl live (eqb-true x.kind 2 kind)) (λ _. tt)))
    (λ _. tt)

below_live : (asid : ℕ) (vault : Vault) (depth : ℕ) (at : ℕ → Spot) (bound : ℕ) (words : List ℕ) → Home asid vault at bound words
    → AllByRecursion (IsLiveAt asid vault) (below_depth vault.archive asid depth at bound words)
unfolding below_depth
below_live asid vault zero at bound words home = tt
below_live asid vault (suc depth) at bound words home =
    each_rows (IsLiveAt asid vault) _ 0 64
    (λ e. listed_entry_live asid vault (below_depth vault.archive asid depth) (λ at2 bound2 words2 home2. below_live asid vault depth at2 bound2 words2 home2) at bound words home e (entry_at words e) refl)

page_lives : (asid : ℕ) (vault : Vault) (f : ℕ) → AllByRecursion (IsLiveAt asid vault) (page_live asid vault f)
unfolding page_live
page_lives asid vault f =
    cond_both (is_metadata_kind (vault.pages f).facts.kind) _ _ (AllByRecursion (IsLiveAt asid vault))
    (λ metadata. below_live asid vault vault.context.iv (InEntry f) vault.context.iv (vault.pages f).words (λ e x own. record { metadata = kind_metadata (vault.pages f).facts.kind metadata; own = own }))
    (λ _. tt)

root_lives : (asid : ℕ) (vault : Vault) → Seals asid vault → (root : Option MetaEntry) → vault.context.root ≡ root → AllByRecursion (IsLiveAt asid vault) (root_live asid vault.archive root)
unfolding root_live
root_lives asid vault seals None is = tt
root_lives asid vault seals (Some x) is =
    (is, listed_in_live asid vault (below vault.archive asid) (λ at bound words home. below_live asid vault bound at bound words home) InRoot x (vault.archive x.iv) refl is (seals.root x is).kind_is)

pub lives : (asid : ℕ) (vault : Vault) (frames : ℕ) → Seals asid vault → AllByRecursion (IsLiveAt asid vault) (live asid vault frames)
unfolding live
lives asid vault frames seals =
    each_append (IsLiveAt asid vault) (rows (page_live asid vault) 0 frames) (root_live asid vault.archive vault.context.root)
    (each_rows (IsLiveAt asid vault) (page_live asid vault) 0 frames (page_lives asid vault)) (root_lives asid vault seals vault.context.root refl)

-- all spots of a row stand within its own
abbrev StandsIn : Spot → Live → Type 0
StandsIn base one = Within base one.spot

abbrev StandsBelow : (ℕ → Spot) → Live → Type 0
StandsBelow at one = (e : ℕ) × Within (at e) one.spot

abbrev pub SpotsDiffer : Live → Live → Type 0
SpotsDiffer one other = one.spot ≢ other.spot

-- a list of entries below some spots: where they stand, and that no two stand at one spot
record IsNeat (at : ℕ → Spot) (listed : List Live) : Type 0 where
  within : AllByRecursion (StandsBelow at) listed
  apart : Pairwise SpotsDiffer listed

record IsNeatAt (base : Spot) (listed : List Live) : Type 0 where
  within : AllByRecursion (StandsIn base) listed
  apart : Pairwise SpotsDiffer listed

neat_none : (base : Spot) → IsNeatAt base []
neat_none base = record { within = tt; apart = tt }

abbrev NeatLister : Lister → Type 0
NeatLister inner = (at : ℕ → Spot) (bound : ℕ) (words : List ℕ) → Branches at → IsNeat at (inner at bound words)

abbrev StrictlyIn : Spot → Live → Type 0
StrictlyIn base one = (e : ℕ) × Within (Under base e) one.spot

record IsNeatUnder (base : Spot) (listed : List Live) : Type 0 where
  within : AllByRecursion (StrictlyIn base) listed
  apart : Pairwise SpotsDiffer listed

listed_in_neat : (inner : Lister) → NeatLister inner → (spot : Spot) (counter : ℕ) (archived : Option Archived) → IsNeatUnder spot (listed_in inner spot counter archived)
unfolding listed_in Branches
listed_in_neat inner neat spot counter None = record { within = tt; apart = tt }
listed_in_neat inner neat spot counter (Some archived) =
    let is = neat (Under spot) counter archived.words (under_branches spot) in
    record { within = is.within; apart = is.apart }

under_neat : (base : Spot) (listed : List Live) → IsNeatUnder base listed → (x : MetaEntry) → IsNeatAt base (record { spot = base; entry = x } ∷ listed)
under_neat base listed neat x = record {
  within = (within_self base, each_map (StrictlyIn base) (StandsIn base) listed (λ one in_it. within_up base one.spot in_it.0 in_it.1) neat.within);
  apart = (each_map (StrictlyIn base) (SpotsDiffer (record { spot = base; entry = x })) listed (λ one in_it same. too_deep base in_it.0 (subst (Within (Under base in_it.0)) (sym same) in_it.1)) neat.within, neat.apart);
}

empty_under : (base : Spot) → IsNeatUnder base []
empty_under base = record { within = tt; apart = tt }

listed_entry_neat : (inner : Lister) → NeatLister inner → (archive : Archive) (asid bound : ℕ) (spot : Spot) (entry : Option MetaEntry) → IsNeatAt spot (listed_entry inner archive asid bound spot entry)
unfolding listed_entry
listed_entry_neat inner neat archive asid bound spot None = neat_none spot
listed_entry_neat inner neat archive asid bound spot (Some x) =
    cond_both (eqb x.asid asid && ltb x.iv bound) _ _ (IsNeatAt spot)
    (λ _. under_neat spot (cond (eqb x.kind 2) (listed_in inner spot x.iv (archive x.iv)) [])
    (cond_both (eqb x.kind 2) _ _ (IsNeatUnder spot) (λ _. listed_in_neat inner neat spot x.iv (archive x.iv)) (λ _. empty_under spot)) x)
    (λ _. neat_none spot)

rows_neat : (at : ℕ → Spot) (of : ℕ → List Live) (first count : ℕ) → Branches at → ((k : ℕ) → IsNeatAt (at k) (of k)) → IsNeat at (rows of first count)
unfolding Branches
rows_neat at of first count branches neat = record {
  within = each_rows (StandsBelow at) of first count (λ k. each_map (StandsIn (at k)) (StandsBelow at) (of k) (λ one w. (k, w)) (neat k).within);
  apart = pair_rows SpotsDiffer (λ k. StandsIn (at k)) of first count (λ k. (neat k).within) (λ k. (neat k).apart)
      (λ j k x y low wj wk same. branches j k x.spot (λ e. lt_irrefl j (subst (λ (n : ℕ). j < n) (sym e) low)) wj (subst (Within (at k)) (sym same) wk));
}

below_neat : (archive : Archive) (asid depth : ℕ) → NeatLister (below_depth archive asid depth)
unfolding below_depth
below_neat archive asid zero at bound words branches = record { within = tt; apart = tt }
below_neat archive asid (suc depth) at bound words branches =
    rows_neat at _ 0 64 branches (λ e. listed_entry_neat (below_depth archive asid depth) (below_neat archive asid depth) archive asid bound (at e) (entry_at words e))

-- pages of memory
abbrev StandsOn : ℕ → Live → Type 0
StandsOn f one = (e : ℕ) × Within (InEntry f e) one.spot

record IsNeatOn (f : ℕ) (listed : List Live) : Type 0 where
  within : AllByRecursion (StandsOn f) listed
  apart : Pairwise SpotsDiffer listed

page_neat : (asid : ℕ) (vault : Vault) (f : ℕ) → IsNeatOn f (page_live asid vault f)
unfolding page_live
page_neat asid vault f =
    let neat = below_neat vault.archive asid vault.context.iv (InEntry f) vault.context.iv (vault.pages f).words (entry_branches f) in
    cond_both (is_metadata_kind (vault.pages f).facts.kind) _ _ (IsNeatOn f) (λ _. record { within = neat.within; apart = neat.apart }) (λ _. record { within = tt; apart = tt })

root_neat : (asid : ℕ) (archive : Archive) (root : Option MetaEntry) → IsNeatAt InRoot (root_live asid archive root)
unfolding root_live
root_neat asid archive None = neat_none InRoot
root_neat asid archive (Some x) =
    under_neat InRoot (listed_in (below archive asid) InRoot x.iv (archive x.iv)) (listed_in_neat (below archive asid) (λ at bound. below_neat archive asid bound at bound) InRoot x.iv (archive x.iv)) x

pub live_apart : (asid : ℕ) (vault : Vault) (frames : ℕ) → Pairwise SpotsDiffer (live asid vault frames)
unfolding live
live_apart asid vault frames =
    let pages = page_live asid vault in
    let root = root_neat asid vault.archive vault.context.root in
    let of_pages : AllByRecursion (λ one. (f : ℕ) × StandsOn f one) (rows pages 0 frames) =
    each_rows (λ one. (f : ℕ) × StandsOn f one) pages 0 frames (λ f. each_map (StandsOn f) (λ one. (g : ℕ) × StandsOn g one) (pages f) (λ one w. (f, w)) (page_neat asid vault f).within) in
    pair_append SpotsDiffer (rows pages 0 frames) (root_live asid vault.archive vault.context.root)
    (pair_rows SpotsDiffer StandsOn pages 0 frames (λ f. (page_neat asid vault f).within) (λ f. (page_neat asid vault f).apart)
    (λ j k x y low wj wk same. lt_irrefl j (subst (λ (n : ℕ). j < n) (frame_is k wk.0 j wj.0 (entry_same k wk.0 j wj.0 x.spot (subst (Within (InEntry k wk.0)) (sym same) wk.1) wj.1)) low)))
    root.apart
    (each_map (λ one. (f : ℕ) × StandsOn f one) (λ one. AllByRecursion (SpotsDiffer one) (root_live asid vault.archive vault.context.root)) (rows pages 0 frames)
    (λ one w. each_map (StandsIn InRoot) (SpotsDiffer one) (root_live asid vault.archive vault.context.root)
    (λ other r same. entry_root w.0 w.1.0 one.spot w.1.1 (subst (Within InRoot) (sym same) r)) root.within) of_pages)

-- so no two of one counter
pub counters_differ : (asid : ℕ) (vault : Vault) (frames : ℕ) → Seals asid vault → Pairwise CountersDiffer (live asid vault frames)
counters_differ asid vault frames seals =
    pair_map (IsLiveAt asid vault) SpotsDiffer CountersDiffer (live asid vault frames)
    (λ a b la lb apart same. apart (seals.counters a.spot b.spot a.entry b.entry la lb same)) (lives asid vault frames seals) (live_apart asid vault frames)
