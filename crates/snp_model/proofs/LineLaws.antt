-- What the steps of a line and the words in it give: each word keeps the bounds of its form.
use Rattle.std.proofs.Common.{◌≡◌, ℕ, ◌%◌, ◌^◌, ◌<◌, ◌≤◌, ◌⊎◌, Bool, true, false, cond, List, Result, Ok, Err, Option, Some, None, refl, sym, ap, ◌∙◌, subst, arith, inl, inr}
use Rattle.std.proofs.lemmas.Bool.{cond_both}
use Rattle.std.proofs.lemmas.Bool.Decides.{nat_tests}
use Rattle.std.specs.Prelude.{drop, ◌==◌, ◌&&◌, nat_le, nat_lt}
use Rattle.snp_model.specs.declared.reading.Reason.{Reason}
use Rattle.snp_model.specs.Lines.{◌>>=◌, ◌>>◌, below, decimal_of, hex_of, in_word, is_decimal, is_hex, is_prefixed, multiple, number, number_of, or_reason, ranged, require, value_after}

-- steps that gave a value
pub bind_ok : {A B E : Type 0} (r : Result A E) (f : A → Result B E) (y : B) → (r >>= f) ≡ Ok y → (x : A) × (r ≡ Ok x) × (f x ≡ Ok y)
bind_ok (Ok x) f y h = (x, refl, h)
bind_ok (Err e) f y h = absurd (cc)

pub then_ok : {A B E : Type 0} (r : Result A E) (s : Result B E) (y : B) → (r >> s) ≡ Ok y → (x : A) × (r ≡ Ok x) × (s ≡ Ok y)
then_ok (Ok x) s y h = (x, refl, h)
then_ok (Err e) s y h = absurd (cc)

pub chosen : {A : Type 0} (b : Bool) (x y z : A) → cond b x y ≡ z → ((b ≡ true) × (x ≡ z)) ⊎ ((b ≡ false) × (y ≡ z))
chosen true x y z h = inl (refl, h)
chosen false x y z h = inr (refl, h)

pub guard_ok : {A E : Type 0} (b : Bool) (x y : A) (e : E) → cond b (Ok x) (Err e) ≡ Ok y → (b ≡ true) × (x ≡ y)
guard_ok true x y e h = (refl, cc)
guard_ok false x y e h = absurd (cc)

-- of two results by a test, the one that gave a value
pub select : {A E : Type 0} (b : Bool) (x y : Result A E) (z : A) (P : Type 0) → (b ≡ true → x ≡ Ok z → P) → (b ≡ false → y ≡ Ok z → P) → cond b x y ≡ Ok z → P
select true x y z P first second h = first refl h
select false x y z P first second h = second refl h

pub require_ok : (b : Bool) (reason : Reason) (u : Unit {0}) → require b reason ≡ Ok u → b ≡ true
require_ok true reason u h = refl
require_ok false reason u h = absurd (cc)

pub below_ok : (end : ℕ) (w : List ℕ) (n : ℕ) → below end w ≡ Ok n → n < end
unfolding below
below_ok end w n h =
    let step = bind_ok (number w) (λ (k : ℕ). cond (nat_lt k end) (Ok k) (Err _)) n h in
    let one = guard_ok (nat_lt step.0 end) step.0 n _ step.2 in
    grind (arith, nat_tests, one.0, one.1)

-- a number is below 2^64
guarded : (b : Bool) (o : Option ℕ) (n : ℕ) → cond b o None ≡ Some n → o ≡ Some n
guarded true o n h = h
guarded false o n h = absurd (cc)

in_word_ok : (k n : ℕ) → in_word k ≡ Some n → n < 2 ^ 64
in_word_ok k n h =
    cond_both (nat_lt k (2 ^ 64)) _ _ (λ (o : Option ℕ). o ≡ Some n → n < 2 ^ 64)
    (λ small is. let same : k ≡ n = cc in grind (arith, nat_tests, small, same)) (λ large is. absurd (cc)) h

decimal_ok : (digits : List ℕ) (n : ℕ) → decimal_of digits ≡ Some n → n < 2 ^ 64
unfolding decimal_of
decimal_ok digits n h = in_word_ok (value_after 10 0 digits) n (guarded (is_decimal digits) (in_word (value_after 10 0 digits)) n h)

hex_ok : (digits : List ℕ) (n : ℕ) → hex_of digits ≡ Some n → n < 2 ^ 64
unfolding hex_of
hex_ok digits n h = in_word_ok (value_after 16 0 digits) n (guarded (is_hex digits) (in_word (value_after 16 0 digits)) n h)

number_of_ok : (w : List ℕ) (n : ℕ) → number_of w ≡ Some n → n < 2 ^ 64
unfolding number_of
number_of_ok w n h =
    cond_both (is_prefixed w) _ _ (λ (o : Option ℕ). o ≡ Some n → n < 2 ^ 64) (λ _. hex_ok (drop 2 w) n) (λ _. decimal_ok w n) h

reason_ok : (o : Option ℕ) (reason : Reason) (n : ℕ) → or_reason o reason ≡ Ok n → o ≡ Some n
reason_ok (Some k) reason n h = cc
reason_ok None reason n h = absurd (cc)

pub number_ok : (w : List ℕ) (n : ℕ) → number w ≡ Ok n → n < 2 ^ 64
unfolding number
number_ok w n h = number_of_ok w n (reason_ok (number_of w) _ n h)

pub ranged_ok : (low high : ℕ) (w : List ℕ) (n : ℕ) → ranged low high w ≡ Ok n → (low ≤ n) × (n ≤ high)
unfolding ranged
ranged_ok low high w n h =
    let step = bind_ok (number w) (λ (k : ℕ). cond (nat_le low k && nat_le k high) (Ok k) (Err _)) n h in
    let one = guard_ok (nat_le low step.0 && nat_le step.0 high) step.0 n _ step.2 in
    (grind (arith, nat_tests, one.0, one.1), grind (arith, nat_tests, one.0, one.1))

pub multiple_ok : (unit n m : ℕ) → multiple unit n ≡ Ok m → (m ≡ n) × (n % unit ≡ 0)
unfolding multiple
multiple_ok unit n m h =
    let one = guard_ok (n % unit == 0) n m _ h in
    (sym one.1, grind (arith, nat_tests, one.0))

-- a number below an end that is a multiple of a unit
pub below_multiple_ok : (end unit : ℕ) (w : List ℕ) (n : ℕ) → (below end w >>= multiple unit) ≡ Ok n → (n < end) × (n % unit ≡ 0)
below_multiple_ok end unit w n h =
    let place = bind_ok (below end w) (multiple unit) n h in
    let aligned = multiple_ok unit place.0 n place.2 in
    (subst (λ (k : ℕ). k < end) (sym aligned.0) (below_ok end w place.0 place.1), ap (λ (k : ℕ). k % unit) aligned.0 ∙ aligned.1)
