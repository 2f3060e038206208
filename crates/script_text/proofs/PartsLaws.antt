-- The parts of bytes, by where the first separator stands, and bytes among which it doesn't.
use Rattle.std.proofs.Common.{◌≡◌, ℕ, ◌+◌, ◌<◌, ◌≤◌, cond, nat_lt, ◌==◌, Bool, true, false, List, [], ◌∷◌, ◌++◌, length, length-append, take, drop, position, Some, None, refl, arith}
use Rattle.std.specs.List.{All, list_all, position_or_len}
use Rattle.std.proofs.Math.Seq.{take-append_seam, drop-append-add}
use Rattle.std.proofs.lemmas.Bool.{and_parts}
use Rattle.std.proofs.lemmas.Bool.Decides.{nat_tests}
use Rattle.std.proofs.lemmas.List.Elements.{All-nil, All-cons, All-head, All-tail}
use Rattle.std.proofs.lemmas.List.Splits.{slice_split_none, slice_split_first}
use Rattle.std.proofs.lemmas.List.Sums.{fails_before_first}
use Rattle.snp_model.specs.Lines.{cut_at, parts_at}

none_far : (n m : ℕ) → cond (nat_lt n m) (Some n) None ≡ None → m ≤ n
none_far n m h = grind (arith, nat_tests)

some_near : (n m at : ℕ) → cond (nat_lt n m) (Some n) None ≡ Some at → n < m
some_near n m at h = grind (arith, nat_tests)

some_at : (n m at : ℕ) → cond (nat_lt n m) (Some n) None ≡ Some at → n ≡ at
some_at n m at h = grind (arith, nat_tests)

-- bytes without a separator are one part
pub parts_none : (c : ℕ) (bs : List ℕ) → position (λ b. b == c) bs ≡ None → parts_at c bs ≡ bs ∷ []
parts_none c bs h =
    let p : ℕ → Bool = λ b. b == c in
    let far : length bs ≤ position_or_len p bs = none_far (position_or_len p bs) (length bs) h in
    slice_split_none p bs (λ k d below. fails_before_first p bs k d (omega arith))

-- else the first part ends at the first separator
pub parts_some : (c : ℕ) (bs : List ℕ) (at : ℕ) → position (λ b. b == c) bs ≡ Some at → parts_at c bs ≡ take at bs ∷ parts_at c (drop (at + 1) bs)
parts_some c bs at h =
    let p : ℕ → Bool = λ b. b == c in
    let near : position_or_len p bs < length bs = some_near (position_or_len p bs) (length bs) at h in
    let here : position_or_len p bs ≡ at = some_at (position_or_len p bs) (length bs) at h in
    rw (← here) (slice_split_first p bs 0 near)

-- none of these bytes is the separator
abbrev pub HasNo : ℕ → List ℕ → Type 0
HasNo separator bytes = All (λ b. (b == separator) ≡ false) bytes

-- bytes that all pass a test which the separator fails
pub all_apart : (test : ℕ → Bool) (separator : ℕ) → ((b : ℕ) → test b ≡ true → (b == separator) ≡ false) → (bytes : List ℕ) → list_all test bytes ≡ true → HasNo separator bytes
all_apart test separator apart [] all = All-nil (λ b. (b == separator) ≡ false)
all_apart test separator apart (b ∷ bytes) all =
    let are = and_parts (test b) (list_all test bytes) all in
    All-cons (λ d. (d == separator) ≡ false) b bytes (apart b are.0) (all_apart test separator apart bytes are.1)

-- a byte is itself
same : (n : ℕ) → (n == n) ≡ true
same n = grind (arith, nat_tests)

-- the first separator stands behind bytes that have none
first_at : (c : ℕ) (before after : List ℕ) → HasNo c before → position_or_len (λ b. b == c) (before ++ c ∷ after) ≡ length before
first_at c [] after none = rw (same c) refl
first_at c (b ∷ before) after none =
    rw (All-head (λ d. (d == c) ≡ false) b before none) (omega (arith, first_at c before after (All-tail (λ d. (d == c) ≡ false) b before none)))

-- so they are cut there
pub cut_again : (c : ℕ) (before after : List ℕ) → HasNo c before → cut_at c (before ++ c ∷ after) ≡ Some (before, after)
cut_again c before after none =
    let long = length-append before (c ∷ after) in
    let near : nat_lt (length before) (length (before ++ c ∷ after)) ≡ true = grind (arith, nat_tests, long) in
    rw (first_at c before after none, near) (rw (take-append_seam before (c ∷ after), drop-append-add before (c ∷ after) 1) refl)
