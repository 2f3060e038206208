-- Each live entry of a page in memory, and of the pages that live entries keep, stands in the list of live entries.
use Rattle.std.proofs.Common.{◌≡◌, ℕ, zero, suc, ◌+◌, ◌<◌, ◌≤◌, Bool, true, false, cond, eqb, ◌&&◌, nat_lt, List, [], ◌∷◌, ◌++◌, Option, Some, None, refl, sym, ap, ◌∙◌, subst, ◌⊎◌, inl, inr, ⊎_elim, arith}
use Rattle.std.proofs.lemmas.Bool.{cond_both, cases_eq, cases_lt, true≢false}
use Rattle.std.proofs.lemmas.Bool.Decides.{nat_tests}
use Rattle.std.proofs.lemmas.Option.{none-some}
use Rattle.snp_model.specs.declared.entry.Kind.{Kind}
use Rattle.snp_model.specs.declared.entry.Kind.TheVariants as kinds
use Rattle.snp_model.specs.declared.firmware.MetaEntry.{MetaEntry}
use Rattle.snp_model.specs.Live.{Archived, Archive, Vault, Spot, InEntry, InRoot, Under, IsOwn, IsInPage, IsUnder, Live, IsLive, rows, Lister, listed_in, listed_entry, below_depth, below, is_metadata_kind, page_live, root_live, live}
use Rattle.snp_model.specs.Metadata.{entry_at}
use Rattle.run_laws.specs.Uniqueness.{IsFull, Seals}
use Rattle.run_laws.specs.UniqueRuns.{IsListed, IsInMemory}
use Rattle.run_laws.proofs.TableLaws.{entry_past}

stands_left : (one : Live) (xs ys : List Live) → IsListed one xs → IsListed one (xs ++ ys)
unfolding IsListed
stands_left one [] ys h = absurd h
stands_left one (x ∷ xs) ys h = ⊎_elim (λ (e : one ≡ x). inl e) (λ (r : IsListed one xs). inr (stands_left one xs ys r)) h

stands_right : (one : Live) (xs ys : List Live) → IsListed one ys → IsListed one (xs ++ ys)
unfolding IsListed
stands_right one [] ys h = h
stands_right one (x ∷ xs) ys h = inr (stands_right one xs ys h)

stands_parts : (one : Live) (xs ys : List Live) → IsListed one (xs ++ ys) → IsListed one xs ⊎ IsListed one ys
unfolding IsListed
stands_parts one [] ys h = inr h
stands_parts one (x ∷ xs) ys h =
    ⊎_elim (λ (e : one ≡ x). inl (inl e)) (λ (r : IsListed one (xs ++ ys)). ⊎_elim (λ (a : IsListed one xs). inl (inr a)) (λ (b : IsListed one ys). inr b) (stands_parts one xs ys r)) h

stands_rows : (one : Live) (of : ℕ → List Live) (first count k : ℕ) → first ≤ k → k < first + count → IsListed one (of k) → IsListed one (rows of first count)
unfolding rows
stands_rows one of first zero k low high h = absurd (omega arith)
stands_rows one of first (suc count) k low high h =
    ⊎_elim
    (λ (same : first ≡ k). stands_left one (of first) (rows of (first + 1) count) (subst (λ (j : ℕ). IsListed one (of j)) (sym same) h))
    (λ (other : first ≡ k → ⊥). stands_right one (of first) (rows of (first + 1) count) (stands_rows one of (first + 1) count k (omega arith) (omega arith) h))
    (cases_eq first k)

-- the row where it stands
record IsListedAt (one : Live) (of : ℕ → List Live) (first count : ℕ) : Type 0 where
  k : ℕ
  low : first ≤ k
  high : k < first + count
  here : IsListed one (of k)

row_of : (one : Live) (of : ℕ → List Live) (first count : ℕ) → IsListed one (rows of first count) → IsListedAt one of first count
unfolding rows IsListed
row_of one of first zero h = absurd h
row_of one of first (suc count) h =
    ⊎_elim
    (λ (a : IsListed one (of first)). record { k = first; low = omega arith; high = omega arith; here = a })
    (λ (b : IsListed one (rows of (first + 1) count)).
    let rest = row_of one of (first + 1) count b in
    let low = rest.low in
    let high = rest.high in
    record { k = rest.k; low = omega arith; high = omega arith; here = rest.here })
    (stands_parts one (of first) (rows of (first + 1) count) h)

both_tests : (a b i n : ℕ) → a ≡ b → i < n → (eqb a b && nat_lt i n) ≡ true
both_tests a b i n same low = grind (arith, nat_tests)

lower : (a b i n : ℕ) → (eqb a b && nat_lt i n) ≡ true → i < n
lower a b i n e = grind (arith, nat_tests)

two_test : (k : ℕ) → k ≡ 2 → eqb k 2 ≡ true
two_test k e = grind (arith, nat_tests)

in_branch : (one : Live) (b : Bool) (xs : List Live) → b ≡ true → IsListed one xs → IsListed one (cond b xs [])
in_branch one true xs e h = h
in_branch one false xs e h = absurd (true≢false (sym e))

same_archived : (a b : Archived) → Some a ≡ Some b → a ≡ b
same_archived a b e = cc

-- an entry of a page stands in the page's list
entry_head : (inner : Lister) (archive : Archive) (asid bound : ℕ) (spot : Spot) (x : MetaEntry) → x.asid ≡ asid → x.iv < bound → IsListed (record { spot = spot; entry = x }) (listed_entry inner archive asid bound spot (Some x))
unfolding listed_entry IsListed
entry_head inner archive asid bound spot x own low =
    cond_both (eqb x.asid asid && nat_lt x.iv bound) _ _ (λ (l : List Live). IsListed (record { spot = spot; entry = x }) l) (λ _. inl refl) (λ no_test. absurd (true≢false (sym (both_tests x.asid asid x.iv bound own low) ∙ no_test)))

stands_below : (archive : Archive) (asid depth : ℕ) (at : ℕ → Spot) (bound : ℕ) (words : List ℕ) → bound ≤ depth → (e : ℕ) (x : MetaEntry) → e < 64 → IsOwn asid bound words e x
    → IsListed (record { spot = at e; entry = x }) (below_depth archive asid depth at bound words)
unfolding below_depth
stands_below archive asid zero at bound words low e x in_page own = let less = own.low in absurd (omega arith)
stands_below archive asid (suc depth) at bound words low e x in_page own =
    stands_rows (record { spot = at e; entry = x }) _ 0 64 e (omega arith) (omega arith)
    (subst (λ (entry : Option MetaEntry). IsListed (record { spot = at e; entry = x }) (listed_entry (below_depth archive asid depth) archive asid bound (at e) entry)) (sym own.is)
    (entry_head (below_depth archive asid depth) archive asid bound (at e) x own.asid_is own.low))

-- and with an entry of kind 2 what stands below it
record Child (archive : Archive) (asid : ℕ) (s : Spot) (y : MetaEntry) (e : ℕ) (x : MetaEntry) : Type 0 where
  under : IsUnder archive asid y e x
  in_page : e < 64

abbrev above_of : Spot → MetaEntry → Live
above_of s y = record { spot = s; entry = y }

abbrev child_of : Spot → ℕ → MetaEntry → Live
child_of s e x = record { spot = Under s e; entry = x }

child_in : (archive : Archive) (asid depth : ℕ) (s : Spot) (y : MetaEntry) (e : ℕ) (x : MetaEntry) (found : Option Archived) → Child archive asid s y e x → y.iv ≤ depth → archive y.iv ≡ found
    → IsListed (child_of s e x) (listed_in (below_depth archive asid depth) s y.iv found)
unfolding listed_in
child_in archive asid depth s y e x None child low is = absurd (none-some child.under.archived (sym is ∙ child.under.kept))
child_in archive asid depth s y e x (Some archived) child low is =
    let same = same_archived archived child.under.archived (sym is ∙ child.under.kept) in
    stands_below archive asid depth (Under s) y.iv archived.words low e x child.in_page (subst (λ (z : Archived). IsOwn asid y.iv z.words e x) (sym same) child.under.own)

close_in : (archive : Archive) (asid depth : ℕ) (s : Spot) (y : MetaEntry) (e : ℕ) (x : MetaEntry)
    → ((at : ℕ → Spot) (bound : ℕ) (words : List ℕ) → bound ≤ depth → IsListed (above_of s y) (below_depth archive asid depth at bound words) → IsListed (child_of s e x) (below_depth archive asid depth at bound words))
    → (spot : Spot) (counter : ℕ) (found : Option Archived) → counter ≤ depth → IsListed (above_of s y) (listed_in (below_depth archive asid depth) spot counter found)
    → IsListed (child_of s e x) (listed_in (below_depth archive asid depth) spot counter found)
unfolding listed_in IsListed
close_in archive asid depth s y e x close spot counter None low h = absurd h
close_in archive asid depth s y e x close spot counter (Some archived) low h = close (Under spot) counter archived.words low h

close_entry : (archive : Archive) (asid depth : ℕ) (s : Spot) (y : MetaEntry) (e : ℕ) (x : MetaEntry) → Child archive asid s y e x
    → ((at : ℕ → Spot) (bound : ℕ) (words : List ℕ) → bound ≤ depth → IsListed (above_of s y) (below_depth archive asid depth at bound words) → IsListed (child_of s e x) (below_depth archive asid depth at bound words))
    → (bound : ℕ) (spot : Spot) (entry : Option MetaEntry) → bound ≤ suc depth → IsListed (above_of s y) (listed_entry (below_depth archive asid depth) archive asid bound spot entry)
    → IsListed (child_of s e x) (listed_entry (below_depth archive asid depth) archive asid bound spot entry)
unfolding listed_entry IsListed
close_entry archive asid depth s y e x child close bound spot None low = λ h. absurd h
close_entry archive asid depth s y e x child close bound spot (Some w) low =
    let inner = below_depth archive asid depth in
    let kept = listed_in inner spot w.iv (archive w.iv) in
    cond_both (eqb w.asid asid && nat_lt w.iv bound) (above_of spot w ∷ cond (eqb w.kind 2) kept []) [] (λ (l : List Live). IsListed (above_of s y) l → IsListed (child_of s e x) l)
    (λ test h.
    let less : w.iv < bound = lower w.asid asid w.iv bound test in
    ⊎_elim
    (λ (same : above_of s y ≡ above_of spot w).
    let spot_is = ap (λ (one : Live). one.spot) same in
    let entry_is = ap (λ (one : Live). one.entry) same in
    let two : w.kind ≡ 2 = ap (λ (m : MetaEntry). m.kind) (sym entry_is) ∙ child.under.kind_is in
    let here : IsListed (child_of s e x) kept =
    subst (λ (t : Spot). IsListed (child_of s e x) (listed_in inner t w.iv (archive w.iv))) spot_is
    (subst (λ (m : MetaEntry). IsListed (child_of s e x) (listed_in inner s m.iv (archive m.iv))) entry_is
    (child_in archive asid depth s y e x (archive y.iv) child (subst (λ (m : MetaEntry). m.iv ≤ depth) (sym entry_is) (omega arith)) refl)) in
    inr (in_branch (child_of s e x) (eqb w.kind 2) kept (two_test w.kind two) here))
    (λ (rest : IsListed (above_of s y) (cond (eqb w.kind 2) kept [])).
    inr (cond_both (eqb w.kind 2) kept [] (λ (l : List Live). IsListed (above_of s y) l → IsListed (child_of s e x) l)
    (λ _ r. close_in archive asid depth s y e x close spot w.iv (archive w.iv) (omega arith) r) (λ _ r. absurd r) rest))
    h)
    (λ _ h. absurd h)

close_below : (archive : Archive) (asid : ℕ) (s : Spot) (y : MetaEntry) (e : ℕ) (x : MetaEntry) → Child archive asid s y e x → (depth : ℕ) (at : ℕ → Spot) (bound : ℕ) (words : List ℕ) → bound ≤ depth
    → IsListed (above_of s y) (below_depth archive asid depth at bound words) → IsListed (child_of s e x) (below_depth archive asid depth at bound words)
unfolding below_depth IsListed
close_below archive asid s y e x child zero at bound words low h = absurd h
close_below archive asid s y e x child (suc depth) at bound words low h =
    let row = row_of (above_of s y) _ 0 64 h in
    stands_rows (child_of s e x) _ 0 64 row.k row.low row.high
    (close_entry archive asid depth s y e x child (λ at2 bound2 words2 low2 h2. close_below archive asid s y e x child depth at2 bound2 words2 low2 h2) bound (at row.k) (entry_at words row.k) low row.here)

close_page : (asid : ℕ) (vault : Vault) (s : Spot) (y : MetaEntry) (e : ℕ) (x : MetaEntry) → Child vault.archive asid s y e x → (f : ℕ) → IsListed (above_of s y) (page_live asid vault f)
    → IsListed (child_of s e x) (page_live asid vault f)
unfolding page_live IsListed
close_page asid vault s y e x child f =
    cond_both (is_metadata_kind (vault.pages f).facts.kind) _ [] (λ (l : List Live). IsListed (above_of s y) l → IsListed (child_of s e x) l)
    (λ _ h. close_below vault.archive asid s y e x child vault.context.iv (InEntry f) vault.context.iv (vault.pages f).words (omega arith) h) (λ _ h. absurd h)

root_child : (archive : Archive) (asid : ℕ) (s : Spot) (y : MetaEntry) (e : ℕ) (x : MetaEntry) → Child archive asid s y e x → (found : Option Archived) → archive y.iv ≡ found
    → IsListed (child_of s e x) (listed_in (below archive asid) s y.iv found)
unfolding listed_in
root_child archive asid s y e x child None is = absurd (none-some child.under.archived (sym is ∙ child.under.kept))
root_child archive asid s y e x child (Some archived) is =
    let same = same_archived archived child.under.archived (sym is ∙ child.under.kept) in
    stands_below archive asid y.iv (Under s) y.iv archived.words (omega arith) e x child.in_page (subst (λ (z : Archived). IsOwn asid y.iv z.words e x) (sym same) child.under.own)

root_rest : (archive : Archive) (asid : ℕ) (s : Spot) (y : MetaEntry) (e : ℕ) (x : MetaEntry) → Child archive asid s y e x → (counter : ℕ) (found : Option Archived)
    → IsListed (above_of s y) (listed_in (below archive asid) InRoot counter found) → IsListed (child_of s e x) (listed_in (below archive asid) InRoot counter found)
unfolding listed_in IsListed
root_rest archive asid s y e x child counter None h = absurd h
root_rest archive asid s y e x child counter (Some archived) h = close_below archive asid s y e x child counter (Under InRoot) counter archived.words (omega arith) h

close_root : (asid : ℕ) (archive : Archive) (s : Spot) (y : MetaEntry) (e : ℕ) (x : MetaEntry) → Child archive asid s y e x → (root : Option MetaEntry) → IsListed (above_of s y) (root_live asid archive root)
    → IsListed (child_of s e x) (root_live asid archive root)
unfolding root_live IsListed
close_root asid archive s y e x child None h = absurd h
close_root asid archive s y e x child (Some w) h =
    ⊎_elim
    (λ (same : above_of s y ≡ above_of InRoot w).
    let spot_is = ap (λ (one : Live). one.spot) same in
    let entry_is = ap (λ (one : Live). one.entry) same in
    inr (subst (λ (t : Spot). IsListed (child_of s e x) (listed_in (below archive asid) t w.iv (archive w.iv))) spot_is
    (subst (λ (m : MetaEntry). IsListed (child_of s e x) (listed_in (below archive asid) s m.iv (archive m.iv))) entry_is (root_child archive asid s y e x child (archive y.iv) refl))))
    (λ (rest : IsListed (above_of s y) (listed_in (below archive asid) InRoot w.iv (archive w.iv))). inr (root_rest archive asid s y e x child w.iv (archive w.iv) rest))
    h

close_live : (asid : ℕ) (vault : Vault) (frames : ℕ) (s : Spot) (y : MetaEntry) (e : ℕ) (x : MetaEntry) → Child vault.archive asid s y e x → IsListed (above_of s y) (live asid vault frames)
    → IsListed (child_of s e x) (live asid vault frames)
unfolding live
close_live asid vault frames s y e x child h =
    let pages = page_live asid vault in
    let roots = root_live asid vault.archive vault.context.root in
    ⊎_elim
    (λ (a : IsListed (above_of s y) (rows pages 0 frames)).
    let row = row_of (above_of s y) pages 0 frames a in
    stands_left (child_of s e x) (rows pages 0 frames) roots (stands_rows (child_of s e x) pages 0 frames row.k row.low row.high (close_page asid vault s y e x child row.k row.here)))
    (λ (b : IsListed (above_of s y) roots). stands_right (child_of s e x) (rows pages 0 frames) roots (close_root asid vault.archive s y e x child vault.context.root b))
    (stands_parts (above_of s y) (rows pages 0 frames) roots h)

-- so each of them
low_entry : (words : List ℕ) (e : ℕ) (x : MetaEntry) → IsFull words → entry_at words e ≡ Some x → e < 64
low_entry words e x full is = ⊎_elim (λ (low : e < 64). low) (λ (past : 64 ≤ e). absurd (none-some x (sym (entry_past words e full.whole past) ∙ is))) (cases_lt e 64)

metadata_test : (kind : Kind) → kind ≡ kinds.Metadata → is_metadata_kind kind ≡ true
metadata_test kind is = ap is_metadata_kind is

page_stands : (asid : ℕ) (vault : Vault) (f e : ℕ) (x : MetaEntry) → e < 64 → IsInPage asid vault.context.iv (vault.pages f) e x → IsListed (above_of (InEntry f e) x) (page_live asid vault f)
unfolding page_live
page_stands asid vault f e x low is =
    in_branch (above_of (InEntry f e) x) (is_metadata_kind (vault.pages f).facts.kind) _ (metadata_test (vault.pages f).facts.kind is.metadata)
    (stands_below vault.archive asid vault.context.iv (InEntry f) vault.context.iv (vault.pages f).words (omega arith) e x low is.own)

same_entry : (a b : MetaEntry) → Some a ≡ Some b → a ≡ b
same_entry a b e = cc

root_stands : (asid : ℕ) (archive : Archive) (root : Option MetaEntry) (x : MetaEntry) → root ≡ Some x → IsListed (above_of InRoot x) (root_live asid archive root)
unfolding root_live IsListed
root_stands asid archive None x is = absurd (none-some x is)
root_stands asid archive (Some w) x is = inl (ap (λ (m : MetaEntry). above_of InRoot m) (sym (same_entry w x is)))

pub all_listed : (asid : ℕ) (vault : Vault) (frames : ℕ) → Seals asid vault → ((f : ℕ) → IsFull (vault.pages f).words)
    → (s : Spot) (x : MetaEntry) → IsInMemory frames s → IsLive asid vault s x → IsListed (above_of s x) (live asid vault frames)
unfolding live IsInMemory
all_listed asid vault frames seals full (InEntry f e) x inside is =
    stands_left (above_of (InEntry f e) x) (rows (page_live asid vault) 0 frames) _
    (stands_rows (above_of (InEntry f e) x) (page_live asid vault) 0 frames f (omega arith) (omega arith)
    (page_stands asid vault f e x (low_entry (vault.pages f).words e x (full f) is.own.is) is))
all_listed asid vault frames seals full InRoot x inside is =
    stands_right (above_of InRoot x) (rows (page_live asid vault) 0 frames) _ (root_stands asid vault.archive vault.context.root x is)
all_listed asid vault frames seals full (Under s e) x inside is =
    let y = is.0 in
    let has = seals.sealed s y is.1 in
    let same = same_archived has.archived is.2.archived (sym has.kept ∙ is.2.kept) in
    let page_full = subst (λ (z : Archived). IsFull z.words) same has.seals.full in
    close_live asid vault frames s y e x (record { under = is.2; in_page = low_entry is.2.archived.words e x page_full is.2.own.is }) (all_listed asid vault frames seals full s y inside is.1)
