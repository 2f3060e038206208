-- What a guest's memory holds and knows after a change.
use Rattle.std.proofs.Common.{◌≡◌, ◌≢◌, ◌⊎◌, ℕ, zero, suc, ◌+◌, ◌-◌, ◌<◌, ◌≤◌, Bool, true, false, cond, eqb, List, [], ◌∷◌, length, map, get_or, set, Option, Some, None, option_map, unwrap_or, nat_cmp, is_eq, refl, sym, ap, ◌∙◌, ⊎_elim, inl, inr, arith}
use Rattle.std.specs.FinMap.{empty, get, insert, remove, get-insert, get-remove, get-empty}
use Rattle.std.specs.Cmp.{nat_cmp_total}
use Rattle.std.proofs.lemmas.Bool.{cond_both, cases_eq, cases_lt, eqb-true, eq-eqb, ne_eqb, cond-true, cond-false}
use Rattle.std.proofs.lemmas.Option.{none-some}
use Rattle.std.proofs.lemmas.Bool.Decides.{nat_tests}
use Rattle.std.proofs.lemmas.List.{get_or-set_same, get_or-set_other, set_past, get_or_past}
use Rattle.snp_model.specs.Locks.{in_range}
use Rattle.snp_model.specs.GuestMemory.{Places, Memory, IsHeld, known, with_known, with_pages, without_pages, with_frames}

-- a page set, by look-ups
same_test : (q k : ℕ) → is_eq (nat_cmp q k) ≡ eqb q k
same_test q k = grind (arith, nat_tests)

get_inserted : (memory : Memory) (k : ℕ) (v : Places) (q : ℕ) → get (insert memory k v) q ≡ cond (eqb q k) (Some v) (get memory q)
get_inserted memory k v q = get-insert nat_cmp_total memory k v q ∙ ap (λ (b : Bool). cond b (Some v) (get memory q)) (same_test q k)

-- a place of a page that may be there
abbrev pub place_in : Option Places → ℕ → Option ℕ
place_in page index = unwrap_or (option_map (λ (places : Places). get_or places index None) page) None

abbrev set_in : ℕ → ℕ → Option Places → Option Places
set_in index value page = option_map (λ (places : Places). set places index (Some value)) page

abbrev inserted_in : Memory → ℕ → ℕ → ℕ → Option Places → Memory
inserted_in memory gpn index value page = unwrap_or (option_map (λ (places : Places). insert memory gpn (set places index (Some value))) page) memory

get_inserted_in : (memory : Memory) (gpn index value q : ℕ) (page : Option Places) → get memory gpn ≡ page
    → get (inserted_in memory gpn index value page) q ≡ cond (eqb q gpn) (set_in index value page) (get memory q)
get_inserted_in memory gpn index value q None e =
    cond_both (eqb q gpn) None (get memory q) (λ (r : Option Places). get memory q ≡ r) (λ same. ap (get memory) (eqb-true q gpn same) ∙ e) (λ _. refl)
get_inserted_in memory gpn index value q (Some places) e = get_inserted memory gpn (set places index (Some value)) q

get_with_known : (gpn index value : ℕ) (memory : Memory) (q : ℕ) → get (with_known gpn index value memory) q ≡ cond (eqb q gpn) (set_in index value (get memory gpn)) (get memory q)
unfolding with_known
get_with_known gpn index value memory q = get_inserted_in memory gpn index value q (get memory gpn) refl

get_at_known : (gpn index value : ℕ) (memory : Memory) (q : ℕ) → q ≡ gpn → get (with_known gpn index value memory) q ≡ set_in index value (get memory gpn)
get_at_known gpn index value memory q same = get_with_known gpn index value memory q ∙ ap (λ (b : Bool). cond b (set_in index value (get memory gpn)) (get memory q)) (eq-eqb q gpn same)

get_off_known : (gpn index value : ℕ) (memory : Memory) (q : ℕ) → q ≢ gpn → get (with_known gpn index value memory) q ≡ get memory q
get_off_known gpn index value memory q other = get_with_known gpn index value memory q ∙ ap (λ (b : Bool). cond b (set_in index value (get memory gpn)) (get memory q)) (ne_eqb q gpn other)

set_in_none : (index value : ℕ) (page : Option Places) → set_in index value page ≡ None → page ≡ None
set_in_none index value None e = refl
set_in_none index value (Some places) e = cc

-- the pages held stay held, and no other is held
pub with_known_held : (gpn index value : ℕ) (memory : Memory) (q : ℕ) → IsHeld memory q → IsHeld (with_known gpn index value memory) q
with_known_held gpn index value memory q held none =
    ⊎_elim
    (λ (same : q ≡ gpn). held (ap (get memory) same ∙ set_in_none index value (get memory gpn) (sym (get_at_known gpn index value memory q same) ∙ none)))
    (λ (other : q ≡ gpn → ⊥). held (sym (get_off_known gpn index value memory q other) ∙ none))
    (cases_eq q gpn)

-- what is known after a word is known: that word, and else what was known before
pub record IsSamePlace (gpn index q j : ℕ) : Type 0 where
  pub page : q ≡ gpn
  pub place : j ≡ index

abbrev pub KnownSince : Memory → ℕ → ℕ → ℕ → ℕ → ℕ → ℕ → Type 0
KnownSince memory gpn index value q j word =
    (IsSamePlace gpn index q j × (word ≡ value)) ⊎ ((IsSamePlace gpn index q j → ⊥) × (known memory q j ≡ Some word))

set_known : (page : Option Places) (index value j word : ℕ) → place_in (set_in index value page) j ≡ Some word
    → ((j ≡ index) × (word ≡ value)) ⊎ ((j ≡ index → ⊥) × (place_in page j ≡ Some word))
set_known None index value j word e = absurd cc
set_known (Some places) index value j word e =
    ⊎_elim
    (λ (same : j ≡ index).
    ⊎_elim
    (λ (within : index < length places).
    let here = get_or-set_same places index (Some value) None within in
    let there = ap (λ (k : ℕ). get_or (set places index (Some value)) k None) same in
    let is : Some value ≡ Some word = sym here ∙ sym there ∙ e in
    inl (same, cc))
    (λ (past : length places ≤ index).
    let whole = ap (λ (ps : Places). get_or ps j None) (set_past places index (Some value) past) in
    let none = get_or_past places j None (omega arith) in
    let is : None ≡ Some word = sym none ∙ sym whole ∙ e in
    absurd cc)
    (cases_lt index (length places)))
    (λ (other : j ≡ index → ⊥). inr (other, sym (get_or-set_other places index j (Some value) None other) ∙ e))
    (cases_eq j index)

pub with_known_known : (gpn index value : ℕ) (memory : Memory) (q j word : ℕ) → known (with_known gpn index value memory) q j ≡ Some word → KnownSince memory gpn index value q j word
with_known_known gpn index value memory q j word e =
    ⊎_elim
    (λ (same : q ≡ gpn).
    ⊎_elim
    (λ (h : (j ≡ index) × (word ≡ value)). inl (record { page = same; place = h.0 }, h.1))
    (λ (h : (j ≡ index → ⊥) × (place_in (get memory gpn) j ≡ Some word)).
    inr ((λ (s : IsSamePlace gpn index q j). h.0 s.place), ap (λ (p : ℕ). known memory p j) same ∙ h.1))
    (set_known (get memory gpn) index value j word (sym (ap (λ (page : Option Places). place_in page j) (get_at_known gpn index value memory q same)) ∙ e)))
    (λ (other : q ≡ gpn → ⊥).
    inr ((λ (s : IsSamePlace gpn index q j). other s.page), sym (ap (λ (page : Option Places). place_in page j) (get_off_known gpn index value memory q other)) ∙ e))
    (cases_eq q gpn)

-- further pages, by look-ups
cond_under : {X : Type 0} (b : Bool) (x y z : X) → (b ≡ true → x ≡ y) → cond b x z ≡ cond b y z
cond_under true x y z h = h refl
cond_under false x y z h = refl

range_next : (gpn n q : ℕ) → q ≢ gpn → in_range (gpn + 1) n q ≡ in_range gpn (suc n) q
range_next gpn n q other = grind (arith, nat_tests)

range_place : (frame gpn n q : ℕ) → in_range (gpn + 1) n q ≡ true → frame + 1 + (q - (gpn + 1)) ≡ frame + (q - gpn)
range_place frame gpn n q inside = grind (arith, nat_tests)

get_with_frames : (words : ℕ → List ℕ) (n frame gpn : ℕ) (memory : Memory) (q : ℕ)
    → get (with_frames words frame gpn n memory) q ≡ cond (in_range gpn n q) (Some (map Some (words (frame + (q - gpn))))) (get memory q)
unfolding with_frames
get_with_frames words zero frame gpn memory q = grind (arith, nat_tests)
get_with_frames words (suc n) frame gpn memory q =
    let rest = get_with_frames words n (frame + 1) (gpn + 1) memory q in
    let first = get_inserted (with_frames words (frame + 1) (gpn + 1) n memory) gpn (map Some (words frame)) q in
    ⊎_elim
    (λ (same : q ≡ gpn).
    let none : frame + (q - gpn) ≡ frame = omega arith in
    let place = ap (λ (f : ℕ). Some (map {B = Option ℕ} Some (words f))) none in
    grind (arith, nat_tests))
    (λ (other : q ≡ gpn → ⊥).
    let off = first ∙ ap (λ (b : Bool). cond b (Some (map {B = Option ℕ} Some (words frame))) (get (with_frames words (frame + 1) (gpn + 1) n memory) q)) (ne_eqb q gpn other) ∙ rest in
    let page = λ (k : ℕ). Some (map {B = Option ℕ} Some (words k)) in
    let place = λ (inside : in_range (gpn + 1) n q ≡ true). ap page (range_place frame gpn n q inside) in
    off ∙ cond_under (in_range (gpn + 1) n q) _ _ (get memory q) place ∙ ap (λ (b : Bool). cond b (page (frame + (q - gpn))) (get memory q)) (range_next gpn n q other))
    (cases_eq q gpn)

-- these pages are held, and each other page is as before
pub with_frames_holds : (words : ℕ → List ℕ) (n frame gpn : ℕ) (memory : Memory) (q : ℕ) → in_range gpn n q ≡ true → IsHeld (with_frames words frame gpn n memory) q
with_frames_holds words n frame gpn memory q inside none =
    none-some _ (sym none ∙ get_with_frames words n frame gpn memory q ∙ cond-true (in_range gpn n q) _ _ inside)

pub with_frames_keeps : (words : ℕ → List ℕ) (n frame gpn : ℕ) (memory : Memory) (q : ℕ) → in_range gpn n q ≡ false → get (with_frames words frame gpn n memory) q ≡ get memory q
with_frames_keeps words n frame gpn memory q outside =
    get_with_frames words n frame gpn memory q ∙ cond-false (in_range gpn n q) _ _ outside

-- and all its words are known
pub map_some_at : (ws : List ℕ) (j word : ℕ) → get_or (map Some ws) j None ≡ Some word → get_or ws j 0 ≡ word
map_some_at [] j word e = absurd cc
map_some_at (w ∷ ws) zero word e = cc
map_some_at (w ∷ ws) (suc j) word e = map_some_at ws j word e

pub with_frames_known : (words : ℕ → List ℕ) (n frame gpn : ℕ) (memory : Memory) (q j word : ℕ) → in_range gpn n q ≡ true
    → known (with_frames words frame gpn n memory) q j ≡ Some word → get_or (words (frame + (q - gpn))) j 0 ≡ word
with_frames_known words n frame gpn memory q j word inside e =
    let is = get_with_frames words n frame gpn memory q ∙ cond-true (in_range gpn n q) _ _ inside in
    map_some_at (words (frame + (q - gpn))) j word (sym (ap (λ (page : Option Places). place_in page j) is) ∙ e)

pub empty_known : (q : ℕ) → get (empty {X = Places} {R = nat_cmp}) q ≡ None
empty_known q = get-empty nat_cmp q

pub known_before : (words : ℕ → List ℕ) (n frame gpn : ℕ) (memory : Memory) (q j word : ℕ) → in_range gpn n q ≡ false
    → known (with_frames words frame gpn n memory) q j ≡ Some word → known memory q j ≡ Some word
known_before words n frame gpn memory q j word outside e =
    sym (ap (λ (page : Option Places). place_in page j) (with_frames_keeps words n frame gpn memory q outside)) ∙ e

get_removed : (memory : Memory) (k q : ℕ) → get (remove memory k) q ≡ cond (eqb q k) None (get memory q)
get_removed memory k q = get-remove nat_cmp_total memory k q ∙ ap (λ (b : Bool). cond b None (get memory q)) (same_test q k)

-- one page more at the front of a range
range_first : {A : Type 0} (base count q : ℕ) (inside kept : A) → cond (in_range (base + 1) count q) inside (cond (eqb q base) inside kept) ≡ cond (in_range base (suc count) q) inside kept
range_first base count q inside kept = grind (arith, nat_tests)

-- what is held after a range of pages is set, page by page
pub get_with_pages : (gpn count : ℕ) (places : Places) (memory : Memory) (q : ℕ) → get (with_pages gpn count places memory) q ≡ cond (in_range gpn count q) (Some places) (get memory q)
unfolding with_pages
get_with_pages gpn zero places memory q = grind (arith, nat_tests)
get_with_pages gpn (suc count) places memory q =
    get_with_pages (gpn + 1) count places (insert memory gpn places) q
    ∙ ap (cond (in_range (gpn + 1) count q) (Some places)) (get_inserted memory gpn places q)
    ∙ range_first gpn count q (Some places) (get memory q)

-- and after a range of pages is removed
pub get_without_pages : (gpn count : ℕ) (memory : Memory) (q : ℕ) → get (without_pages gpn count memory) q ≡ cond (in_range gpn count q) None (get memory q)
unfolding without_pages
get_without_pages gpn zero memory q = grind (arith, nat_tests)
get_without_pages gpn (suc count) memory q =
    get_without_pages (gpn + 1) count (remove memory gpn) q
    ∙ ap (cond (in_range (gpn + 1) count q) None) (get_removed memory gpn q)
    ∙ range_first gpn count q None (get memory q)
