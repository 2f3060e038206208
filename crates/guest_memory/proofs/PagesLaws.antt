-- What entries hold after a change.
use Rattle.std.proofs.Common.{◌≡◌, ℕ, zero, suc, ◌+◌, ◌-◌, ◌<◌, Bool, true, false, cond, eqb, List, [], ◌∷◌, length, map, replicate, take, get_or, set, Option, Some, None, IsSome, is_some, option_map, unwrap_or, nat_cmp, is_eq, refl, sym, ap, ◌∙◌, subst, ⊎_elim, arith}
use Rattle.std.specs.FinMap.{get, insert, remove, get-insert, get-remove, get-empty, same_map, nat_cmp-IsAntisymmetric}
use Rattle.std.specs.Map.{lookup}
use Rattle.std.specs.BTreeMap.{is_at}
use Rattle.std.specs.Cmp.{nat_cmp_total}
use Rattle.std.proofs.lemmas.Bool.{cond_both, cases_eq, eqb-true}
use Rattle.std.proofs.lemmas.List.{length-replicate}
use Rattle.std.proofs.lemmas.Bool.Decides.{nat_tests}
use Rattle.snp_model.specs.Locks.{in_range}
use Rattle.snp_model.specs.GuestMemory.{Places, Memory, known, with_known, with_pages, without_pages}
use Rattle.run_laws.proofs.MemoryLaws.{get_with_pages, get_without_pages}
use Rattle.guest_memory.specs.Pages.{memory_of, with_entry, HasRoom}

-- two memories are the same where each page is
pub same_memory : (m n : Memory) → ((q : ℕ) → get m q ≡ get n q) → m ≡ n
same_memory m n same = same_map nat_cmp_total nat_cmp-IsAntisymmetric m n same

-- tests of keys
left_test : (q k : ℕ) → is_eq (nat_cmp q k) ≡ eqb q k
left_test q k = grind (arith, nat_tests)

right_test : (k q : ℕ) → is_eq (nat_cmp k q) ≡ eqb q k
right_test k q = grind (arith, nat_tests)

pub get_inserted : (memory : Memory) (k : ℕ) (v : Places) (q : ℕ) → get (insert memory k v) q ≡ cond (eqb q k) (Some v) (get memory q)
get_inserted memory k v q = get-insert nat_cmp_total memory k v q ∙ ap (λ (b : Bool). cond b (Some v) (get memory q)) (left_test q k)

get_removed : (memory : Memory) (k q : ℕ) → get (remove memory k) q ≡ cond (eqb q k) None (get memory q)
get_removed memory k q = get-remove nat_cmp_total memory k q ∙ ap (λ (b : Bool). cond b None (get memory q)) (left_test q k)

-- a page at its number
get_with_entry : (k : ℕ) (page : Option Places) (memory : Memory) (q : ℕ) → get (with_entry k page memory) q ≡ cond (eqb q k) page (get memory q)
get_with_entry k None memory q = get_removed memory k q
get_with_entry k (Some places) memory q = get_inserted memory k places q

-- the page of an entry that may be there
abbrev pub page_of : Option (Option Places) → Option Places
page_of None = None
page_of (Some page) = page

abbrev find : List (ℕ × Option Places) → ℕ → Option (Option Places)
find entries q = lookup (is_at (nat_cmp q)) entries

page_of-cond : (b : Bool) (x y : Option (Option Places)) → page_of (cond b x y) ≡ cond b (page_of x) (page_of y)
page_of-cond true x y = refl
page_of-cond false x y = refl

-- what is held is what the entries have
pub get_memory_of : (entries : List (ℕ × Option Places)) (q : ℕ) → get (memory_of entries) q ≡ page_of (find entries q)
unfolding memory_of
get_memory_of [] q = get-empty nat_cmp q
get_memory_of (entry ∷ entries) q =
    get_with_entry entry.0 entry.1 (memory_of entries) q
    ∙ ap (λ (rest : Option Places). cond (eqb q entry.0) entry.1 rest) (get_memory_of entries q)
    ∙ sym (page_of-cond (is_eq (nat_cmp q entry.0)) (Some entry.1) (find entries q) ∙ ap (λ (b : Bool). cond b entry.1 (page_of (find entries q))) (left_test q entry.0))

-- entries after one of them is set
abbrev pub IsSet : List (ℕ × Option Places) → ℕ → Option (Option Places) → List (ℕ × Option Places) → Type 0
IsSet old k entry new = (q : ℕ) → find new q ≡ cond (is_eq (nat_cmp k q)) entry (find old q)

pub memory_set : (old : List (ℕ × Option Places)) (k : ℕ) (entry : Option (Option Places)) (new : List (ℕ × Option Places)) → IsSet old k entry new
    → memory_of new ≡ with_entry k (page_of entry) (memory_of old)
memory_set old k entry new is =
    same_memory _ _ (λ q.
    get_memory_of new q
    ∙ ap page_of (is q)
    ∙ page_of-cond (is_eq (nat_cmp k q)) entry (find old q)
    ∙ ap (λ (b : Bool). cond b (page_of entry) (page_of (find old q))) (right_test k q)
    ∙ ap (cond (eqb q k) (page_of entry)) (sym (get_memory_of old q))
    ∙ sym (get_with_entry k (page_of entry) (memory_of old) q))

-- nothing changes where a page is set as it is
with_entry_same : (k : ℕ) (page : Option Places) (memory : Memory) → get memory k ≡ page → with_entry k page memory ≡ memory
with_entry_same k page memory is =
    same_memory _ _ (λ q.
    get_with_entry k page memory q
    ∙ cond_both (eqb q k) page (get memory q) (λ (r : Option Places). r ≡ get memory q) (λ same. sym is ∙ ap (get memory) (sym (eqb-true q k same))) (λ _. refl))

-- room changes nothing
pub no_page : (entry : Option (Option Places)) → is_some entry ≡ false → page_of entry ≡ None
no_page None none = refl
no_page (Some page) none = absurd cc

pub memory_room : (old : List (ℕ × Option Places)) (k : ℕ) (new : List (ℕ × Option Places)) → IsSet old k (Some None) new → page_of (find old k) ≡ None → memory_of new ≡ memory_of old
memory_room old k new is none = memory_set old k (Some None) new is ∙ with_entry_same k None (memory_of old) (get_memory_of old k ∙ none)

-- a word that is known, at a page that may be there
abbrev pub word_set : ℕ → ℕ → Option (Option Places) → Option (Option Places)
word_set index value entry = option_map (λ (page : Option Places). option_map (λ (places : Places). set places index (Some value)) page) entry

abbrev known_in : Memory → ℕ → ℕ → ℕ → Option Places → Memory
known_in memory gpn index value page = unwrap_or (option_map (λ (places : Places). insert memory gpn (set places index (Some value))) page) memory

known_as_entry : (memory : Memory) (gpn index value : ℕ) (entry : Option (Option Places)) → get memory gpn ≡ page_of entry
    → with_entry gpn (page_of (word_set index value entry)) memory ≡ known_in memory gpn index value (page_of entry)
known_as_entry memory gpn index value None is = with_entry_same gpn None memory is
known_as_entry memory gpn index value (Some None) is = with_entry_same gpn None memory is
known_as_entry memory gpn index value (Some (Some places)) is = refl

-- so after an entry that was found is written with that word known
pub memory_known : (old : List (ℕ × Option Places)) (gpn index value : ℕ) (entry written : Option (Option Places)) (new : List (ℕ × Option Places)) → find old gpn ≡ entry
    → written ≡ word_set index value entry → IsSet old gpn written new → memory_of new ≡ with_known gpn index value (memory_of old)
unfolding with_known
memory_known old gpn index value entry written new found as_written is =
    memory_set old gpn written new is
    ∙ ap (λ (w : Option (Option Places)). with_entry gpn (page_of w) (memory_of old)) as_written
    ∙ known_as_entry (memory_of old) gpn index value entry (get_memory_of old gpn ∙ ap page_of found)
    ∙ ap (known_in (memory_of old) gpn index value) (sym (get_memory_of old gpn ∙ ap page_of found))

-- and where none was found
pub memory_unheld : (entries : List (ℕ × Option Places)) (gpn index value : ℕ) → find entries gpn ≡ None → memory_of entries ≡ with_known gpn index value (memory_of entries)
unfolding with_known
memory_unheld entries gpn index value none = ap (known_in (memory_of entries) gpn index value) (sym (get_memory_of entries gpn ∙ ap page_of none))

-- one page more at the end of a range
range_last : {A : Type 0} (base count q : ℕ) (inside kept : A) → cond (eqb q (base + count)) inside (cond (in_range base count q) inside kept) ≡ cond (in_range base (suc count) q) inside kept
range_last base count q inside kept = grind (arith, nat_tests)

next : (count : ℕ) → suc count ≡ count + 1
next count = omega arith

with_pages_next : (gpn count : ℕ) (places : Places) (memory : Memory) → insert (with_pages gpn count places memory) (gpn + count) places ≡ with_pages gpn (suc count) places memory
with_pages_next gpn count places memory =
    same_memory _ _ (λ q.
    get_inserted (with_pages gpn count places memory) (gpn + count) places q
    ∙ ap (cond (eqb q (gpn + count)) (Some places)) (get_with_pages gpn count places memory q)
    ∙ range_last gpn count q (Some places) (get memory q)
    ∙ sym (get_with_pages gpn (suc count) places memory q))

pub with_pages_more : (gpn count : ℕ) (places : Places) (memory : Memory) → insert (with_pages gpn count places memory) (gpn + count) places ≡ with_pages gpn (count + 1) places memory
with_pages_more gpn count places memory = with_pages_next gpn count places memory ∙ ap (λ (n : ℕ). with_pages gpn n places memory) (next count)

without_pages_next : (gpn count : ℕ) (memory : Memory) → remove (without_pages gpn count memory) (gpn + count) ≡ without_pages gpn (suc count) memory
without_pages_next gpn count memory =
    same_memory _ _ (λ q.
    get_removed (without_pages gpn count memory) (gpn + count) q
    ∙ ap (cond (eqb q (gpn + count)) None) (get_without_pages gpn count memory q)
    ∙ range_last gpn count q None (get memory q)
    ∙ sym (get_without_pages gpn (suc count) memory q))

pub without_pages_more : (gpn count : ℕ) (memory : Memory) → remove (without_pages gpn count memory) (gpn + count) ≡ without_pages gpn (count + 1) memory
without_pages_more gpn count memory = without_pages_next gpn count memory ∙ ap (λ (n : ℕ). without_pages gpn n memory) (next count)

-- room for one page more
some_in : (entries : List (ℕ × Option Places)) (q k : ℕ) → q ≡ k → IsSome (find entries k) → IsSome (find entries q)
some_in entries q k same some = subst (λ (n : ℕ). IsSome (find entries n)) (sym same) some

pub room_more : (entries : List (ℕ × Option Places)) (gpn count : ℕ) → HasRoom entries gpn count → IsSome (find entries (gpn + count)) → HasRoom entries gpn (count + 1)
room_more entries gpn count room last q inside =
    ⊎_elim
    (λ (same : q ≡ gpn + count). some_in entries q (gpn + count) same last)
    (λ (other : q ≡ gpn + count → ⊥). room q (grind (arith, nat_tests)))
    (cases_eq q (gpn + count))

-- and after an entry is set
some_set : (b : Bool) (page : Option Places) (entry : Option (Option Places)) → IsSome entry → IsSome (cond b (Some page) entry)
some_set true page entry some = refl
some_set false page entry some = some

pub room_set : (old : List (ℕ × Option Places)) (k : ℕ) (page : Option Places) (new : List (ℕ × Option Places)) (gpn count : ℕ) → IsSet old k (Some page) new → HasRoom old gpn count → HasRoom new gpn count
room_set old k page new gpn count is room q inside = subst IsSome (sym (is q)) (some_set (is_eq (nat_cmp k q)) page (find old q) (room q inside))

-- a page whose words are all known
pub all_known : (known : List (Option ℕ)) (words : List ℕ) → length known ≡ length words → ((k : ℕ) → k < length words → get_or known k None ≡ Some (get_or words k 0)) → known ≡ map Some words
all_known [] [] same at = refl
all_known [] (word ∷ words) same at = absurd (omega arith)
all_known (place ∷ known) [] same at = absurd (omega arith)
all_known (place ∷ known) (word ∷ words) same at = λ i. at 0 (omega arith) i ∷ all_known known words (omega arith) (λ k below. at (suc k) (omega arith)) i

-- the last of some pages that are all alike, and the others
last_of : (n : ℕ) (x d : Places) → get_or (replicate (suc n) x) n d ≡ x
last_of zero x d = refl
last_of (suc n) x d = last_of n x d

rest_of : (n : ℕ) (x : Places) → take n (replicate (suc n) x) ≡ replicate n x
rest_of zero x = refl
rest_of (suc n) x = ap (λ (xs : List Places). x ∷ xs) (rest_of n x)

pub record IsLastOf (n : ℕ) (x : Places) (last : Option Places) (rest : List Places) : Type 0 where
  pub last_is : last ≡ Some x
  pub rest_are : rest ≡ replicate n x

pub popped : (n : ℕ) (x : Places) (items rest : List Places) (last : Option Places) (len : ℕ) → length items ≡ len → items ≡ replicate (suc n) x
    → ((d : Places) → 0 < len → last ≡ Some (get_or items (len - 1) d)) → rest ≡ take (len - 1) items → IsLastOf n x last rest
popped n x items rest last len whole are is left =
    let full : length items ≡ suc n = ap (λ (xs : List Places). length xs) are ∙ length-replicate (suc n) x in
    let one : len - 1 ≡ n = omega arith in
    record {
      last_is = is x (omega arith) ∙ ap (λ (k : ℕ). Some (get_or items k x)) one ∙ ap (λ (xs : List Places). Some (get_or xs n x)) are ∙ ap (λ (p : Places). Some p) (last_of n x x);
      rest_are = left ∙ ap (λ (k : ℕ). take k items) one ∙ ap (λ (xs : List Places). take n xs) are ∙ rest_of n x;
    }

pub same_page : (last : Option Places) (p q : Places) → last ≡ Some p → last ≡ Some q → p ≡ q
same_page last p q a b = let e : Some p ≡ Some q = sym a ∙ b in cc

pub some_page : (last : Option Places) (p : Places) → last ≡ None → last ≡ Some p → ⊥
some_page last p a b = let e : None ≡ Some p = sym a ∙ b in cc
