-- Lists of which all elements, or each two elements, have a property: joined, and row by row.
use Rattle.std.proofs.Common.{◌≡◌, ◌≢◌, ℕ, zero, suc, ◌+◌, ◌<◌, ◌≤◌, List, [], ◌∷◌, ◌++◌, length, arith}
use Rattle.std.specs.List.{AllByRecursion}
use Rattle.snp_model.specs.Live.{rows}
use Rattle.snp_model.specs.Sound.{Pairwise}

pub each_append : {X : Type 0} (P : X → Type 0) (xs ys : List X) → AllByRecursion P xs → AllByRecursion P ys → AllByRecursion P (xs ++ ys)
each_append P [] ys a b = b
each_append P (x ∷ xs) ys a b = (a.0, each_append P xs ys a.1 b)

pub each_rows : {X : Type 0} (P : X → Type 0) (of : ℕ → List X) (first count : ℕ) → ((k : ℕ) → AllByRecursion P (of k)) → AllByRecursion P (rows of first count)
unfolding rows
each_rows P of first zero all = tt
each_rows P of first (suc count) all = each_append P (of first) (rows of (first + 1) count) (all first) (each_rows P of (first + 1) count all)

pub each_map : {X : Type 0} (P Q : X → Type 0) (xs : List X) → ((x : X) → P x → Q x) → AllByRecursion P xs → AllByRecursion Q xs
each_map P Q [] f a = tt
each_map P Q (x ∷ xs) f a = (f x a.0, each_map P Q xs f a.1)

pub each_every : {X : Type 0} (P : X → Type 0) (xs : List X) → ((x : X) → P x) → AllByRecursion P xs
each_every P [] f = tt
each_every P (x ∷ xs) f = (f x, each_every P xs f)

pub pair_append : {X : Type 0} (R : X → X → Type 0) (xs ys : List X) → Pairwise R xs → Pairwise R ys → AllByRecursion (λ x. AllByRecursion (R x) ys) xs → Pairwise R (xs ++ ys)
pair_append R [] ys a b c = b
pair_append R (x ∷ xs) ys a b c = (each_append (R x) xs ys a.0 c.0, pair_append R xs ys a.1 b c.1)

-- rows whose elements tell their row
pub later_rows : {X : Type 0} (Q : ℕ → X → Type 0) (of : ℕ → List X) (first count j : ℕ) → j < first → ((k : ℕ) → AllByRecursion (Q k) (of k)) → AllByRecursion (λ y. (k : ℕ) × (j < k) × Q k y) (rows of first count)
unfolding rows
later_rows Q of first zero j low all = tt
later_rows Q of first (suc count) j low all =
    each_append (λ y. (k : ℕ) × (j < k) × Q k y) (of first) (rows of (first + 1) count)
    (each_map (Q first) (λ y. (k : ℕ) × (j < k) × Q k y) (of first) (λ y q. (first, low, q)) (all first)) (later_rows Q of (first + 1) count j (omega arith) all)

pub pair_rows : {X : Type 0} (R : X → X → Type 0) (Q : ℕ → X → Type 0) (of : ℕ → List X) (first count : ℕ) → ((k : ℕ) → AllByRecursion (Q k) (of k)) → ((k : ℕ) → Pairwise R (of k))
    → ((j k : ℕ) (x y : X) → j < k → Q j x → Q k y → R x y) → Pairwise R (rows of first count)
unfolding rows
pair_rows R Q of first zero all each apart = tt
pair_rows R Q of first (suc count) all each apart =
    let later = later_rows Q of (first + 1) count first (omega arith) all in
    pair_append R (of first) (rows of (first + 1) count) (each first) (pair_rows R Q of (first + 1) count all each apart)
    (each_map (Q first) (λ x. AllByRecursion (R x) (rows of (first + 1) count)) (of first)
    (λ x q. each_map (λ y. (k : ℕ) × (first < k) × Q k y) (R x) (rows of (first + 1) count) (λ y w. apart first w.0 x y w.1 q w.2) later) (all first))

pub each_two : {X : Type 0} (P Q S : X → Type 0) (xs : List X) → ((x : X) → P x → Q x → S x) → AllByRecursion P xs → AllByRecursion Q xs → AllByRecursion S xs
each_two P Q S [] f a b = tt
each_two P Q S (x ∷ xs) f a b = (f x a.0 b.0, each_two P Q S xs f a.1 b.1)

pub pair_map : {X : Type 0} (P : X → Type 0) (R S : X → X → Type 0) (xs : List X) → ((x y : X) → P x → P y → R x y → S x y) → AllByRecursion P xs → Pairwise R xs → Pairwise S xs
pair_map P R S [] f a r = tt
pair_map P R S (x ∷ xs) f a r = (each_two P (R x) (S x) xs (λ y p q. f x y a.0 p q) a.1 r.0, pair_map P R S xs f a.1 r.1)

pub at_most_one : {X : Type 0} (P : X → Type 0) (xs : List X) → ((x y : X) → P x → P y → x ≡ y) → AllByRecursion P xs → Pairwise (λ x y. x ≢ y) xs → length xs ≤ 1
at_most_one P [] same a r = omega arith
at_most_one P (x ∷ []) same a r = omega arith
at_most_one P (x ∷ y ∷ xs) same a r = absurd (r.0.0 (same x y a.0 a.1.0))
