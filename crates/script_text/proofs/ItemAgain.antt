-- What is written of a line that the formats allow is read again as that line.
use Rattle.std.proofs.Common.{◌≡◌, ℕ, ◌*◌, ◌%◌, ◌^◌, ◌<◌, ◌≤◌, true, [], ◌∷◌, refl, sym, subst, arith, inl, inr, eq-zero-or-pos}
use Rattle.std.specs.Prelude.{Ok, decimal, codes, nat_le, nat_lt, ◌&&◌}
use Rattle.std.proofs.lemmas.Bool.Decides.{nat_tests}
use Rattle.snp_model.specs.declared.item.Item.{Item}
use Rattle.snp_model.specs.declared.item.Item.TheVariants.{Access, Psmash, Pvalidate, Rmpadjust, Rmpupdate, Skip}
use Rattle.snp_model.specs.declared.item.Item.TheVariants as items
use Rattle.snp_model.specs.declared.item.Line.{Line}
use Rattle.snp_model.specs.declared.item.Op.{Op}
use Rattle.snp_model.specs.declared.item.Op.TheVariants.{Load, Store, Swap, Compare, Xor}
use Rattle.snp_model.specs.declared.item.SkipTest.{SkipTest}
use Rattle.snp_model.specs.declared.item.SkipTest.TheVariants.{Good, Bad, Value}
use Rattle.snp_model.specs.declared.scenario.Paging.{Paging}
use Rattle.snp_model.specs.declared.scenario.Role.{Role}
use Rattle.snp_model.specs.declared.scenario.Role.TheVariants.{Cpu, Host, Firmware}
use Rattle.snp_model.specs.Bounds.{AreOperationWords, IsCpuItem, IsHostItem, IsItemOf, IsSkip}
use Rattle.snp_model.specs.EventText.{size_text}
use Rattle.snp_model.specs.ItemLines.{once, address_word, load_row, store_row, swap_row, cas_row, xor_row, skip_test, skip_row, skip_value_row, skip_item, access_item, retries_word, validate_row, smash_row, update_operands, update_row, adjust_operands, adjust_row, cpu_item, host_item, sealing_item, firmware_item}
use Rattle.snp_model.specs.Lines.{below, fixed, multiple, ranged}
use Rattle.snp_model.specs.Spelling.{flag_text, access_words, skip_words, update_words, item_said, retry_words, item_text}
use Rattle.snp_model.specs.Spelled.{IsTriedBy, IsWide, IsWideTest}
use Rattle.script_text.proofs.AgainLaws.{Again, IsTried, flag_again, flag_spelled, line_again, retried_again, size_again, size_spelled}
use Rattle.script_text.proofs.SpellingLaws.{decimal_word, number_decimal}

-- numbers within bounds
pub below_decimal : (end n : ℕ) → n < end → n < 2 ^ 64 → below end (decimal n) ≡ Ok n
unfolding below
below_decimal end n less small = let b : nat_lt n end ≡ true = grind (arith, nat_tests, less) in rw (number_decimal n small, b) refl

pub ranged_decimal : (low high n : ℕ) → low ≤ n → n ≤ high → n < 2 ^ 64 → ranged low high (decimal n) ≡ Ok n
unfolding ranged
ranged_decimal low high n least most small = let b : (nat_le low n && nat_le n high) ≡ true = grind (arith, nat_tests, least, most) in rw (number_decimal n small, b) refl

pub multiple_of : (unit n : ℕ) → n % unit ≡ 0 → multiple unit n ≡ Ok n
unfolding multiple
multiple_of unit n is = rw is refl

-- addresses
address_read : (role : Role) (frames a : ℕ) (op : Op) → IsItemOf frames role (Access a op) → a < 2 ^ 64 → address_word role frames (decimal a) ≡ Ok a
unfolding address_word
address_read (Cpu guest vmpl npt paging) frames a op is small = rw (number_decimal a small) (multiple_of 8 a is.0)
address_read Host frames a op is small = rw (below_decimal (4096 * frames) a is.0 small) (multiple_of 8 a is.1)
address_read Firmware frames a op is small = absurd is

-- how often an item is tried again
pub tried_below : (n : ℕ) → n < 256 → IsTried n
tried_below n few =
    elim (eq-zero-or-pos n) [
      | inl none ↦ inl none
      | inr some ↦ inr (ranged_decimal 1 255 n (omega arith) (omega arith) (omega arith), some, omega arith)
    ]

-- accesses of a guest processor
cpu_access : (guest vmpl npt : ℕ) (paging : Paging) (frames a : ℕ) (op : Op) → IsCpuItem (Access a op) → a < 2 ^ 64 → AreOperationWords op → Again (Cpu guest vmpl npt paging) frames (once (Access a op))
unfolding cpu_item access_item load_row store_row swap_row cas_row xor_row item_text item_said access_words retry_words
cpu_access guest vmpl npt paging frames a Load is small wide =
    line_again (Cpu guest vmpl npt paging) frames (codes "load") (decimal a ∷ []) [] (once (Access a (Load))) refl (decimal_word a small, tt) refl
    (rw (address_read (Cpu guest vmpl npt paging) frames a (Load) is small) refl)
cpu_access guest vmpl npt paging frames a (Store value) is small wide =
    line_again (Cpu guest vmpl npt paging) frames (codes "store") (decimal a ∷ decimal value ∷ []) [] (once (Access a (Store value))) refl (decimal_word a small, (decimal_word value wide, tt)) refl
    (rw (address_read (Cpu guest vmpl npt paging) frames a (Store value) is small, number_decimal value wide) refl)
cpu_access guest vmpl npt paging frames a (Swap value) is small wide =
    line_again (Cpu guest vmpl npt paging) frames (codes "swap") (decimal a ∷ decimal value ∷ []) [] (once (Access a (Swap value))) refl (decimal_word a small, (decimal_word value wide, tt)) refl
    (rw (address_read (Cpu guest vmpl npt paging) frames a (Swap value) is small, number_decimal value wide) refl)
cpu_access guest vmpl npt paging frames a (Compare expected next) is small wide =
    line_again (Cpu guest vmpl npt paging) frames (codes "cas") (decimal a ∷ decimal expected ∷ decimal next ∷ []) [] (once (Access a (Compare expected next))) refl (decimal_word a small, (decimal_word expected wide.0, (decimal_word next wide.1, tt))) refl
    (rw (address_read (Cpu guest vmpl npt paging) frames a (Compare expected next) is small, number_decimal expected wide.0, number_decimal next wide.1) refl)
cpu_access guest vmpl npt paging frames a (Xor value) is small wide =
    line_again (Cpu guest vmpl npt paging) frames (codes "xor") (decimal a ∷ decimal value ∷ []) [] (once (Access a (Xor value))) refl (decimal_word a small, (decimal_word value wide, tt)) refl
    (rw (address_read (Cpu guest vmpl npt paging) frames a (Xor value) is small, number_decimal value wide) refl)

-- accesses of a hypervisor processor
host_access : (frames a : ℕ) (op : Op) → IsHostItem frames (Access a op) → a < 2 ^ 64 → AreOperationWords op → Again Host frames (once (Access a op))
unfolding host_item access_item load_row store_row swap_row cas_row xor_row item_text item_said access_words retry_words
host_access frames a Load is small wide =
    line_again Host frames (codes "load") (decimal a ∷ []) [] (once (Access a (Load))) refl (decimal_word a small, tt) refl
    (rw (address_read Host frames a (Load) is small) refl)
host_access frames a (Store value) is small wide =
    line_again Host frames (codes "store") (decimal a ∷ decimal value ∷ []) [] (once (Access a (Store value))) refl (decimal_word a small, (decimal_word value wide, tt)) refl
    (rw (address_read Host frames a (Store value) is small, number_decimal value wide) refl)
host_access frames a (Swap value) is small wide =
    line_again Host frames (codes "swap") (decimal a ∷ decimal value ∷ []) [] (once (Access a (Swap value))) refl (decimal_word a small, (decimal_word value wide, tt)) refl
    (rw (address_read Host frames a (Swap value) is small, number_decimal value wide) refl)
host_access frames a (Compare expected next) is small wide =
    line_again Host frames (codes "cas") (decimal a ∷ decimal expected ∷ decimal next ∷ []) [] (once (Access a (Compare expected next))) refl (decimal_word a small, (decimal_word expected wide.0, (decimal_word next wide.1, tt))) refl
    (rw (address_read Host frames a (Compare expected next) is small, number_decimal expected wide.0, number_decimal next wide.1) refl)
host_access frames a (Xor value) is small wide =
    line_again Host frames (codes "xor") (decimal a ∷ decimal value ∷ []) [] (once (Access a (Xor value))) refl (decimal_word a small, (decimal_word value wide, tt)) refl
    (rw (address_read Host frames a (Xor value) is small, number_decimal value wide) refl)

-- skips of a guest processor
cpu_skip : (guest vmpl npt : ℕ) (paging : Paging) (frames n : ℕ) (test : SkipTest) → IsSkip n → IsWideTest test → Again (Cpu guest vmpl npt paging) frames (once (Skip n test))
unfolding cpu_item access_item skip_item skip_row skip_value_row skip_test fixed item_text item_said skip_words retry_words
cpu_skip guest vmpl npt paging frames n Good is wide =
    line_again (Cpu guest vmpl npt paging) frames (codes "skip") (decimal n ∷ codes "if" ∷ codes "ok" ∷ []) [] (once (Skip n Good)) refl (decimal_word n (omega (arith, is.1)), (refl, (refl, tt))) refl
    (rw (ranged_decimal 1 8192 n is.0 is.1 (omega (arith, is.1))) refl)
cpu_skip guest vmpl npt paging frames n Bad is wide =
    line_again (Cpu guest vmpl npt paging) frames (codes "skip") (decimal n ∷ codes "if" ∷ codes "bad" ∷ []) [] (once (Skip n Bad)) refl (decimal_word n (omega (arith, is.1)), (refl, (refl, tt))) refl
    (rw (ranged_decimal 1 8192 n is.0 is.1 (omega (arith, is.1))) refl)
cpu_skip guest vmpl npt paging frames n (Value value) is wide =
    line_again (Cpu guest vmpl npt paging) frames (codes "skip") (decimal n ∷ codes "if" ∷ codes "value" ∷ decimal value ∷ []) [] (once (Skip n (Value value))) refl
    (decimal_word n (omega (arith, is.1)), (refl, (refl, (decimal_word value wide, tt)))) refl (rw (ranged_decimal 1 8192 n is.0 is.1 (omega (arith, is.1)), number_decimal value wide) refl)

-- skips of a hypervisor processor
host_skip : (frames n : ℕ) (test : SkipTest) → IsSkip n → IsWideTest test → Again Host frames (once (Skip n test))
unfolding host_item access_item skip_item skip_row skip_value_row skip_test fixed item_text item_said skip_words retry_words
host_skip frames n Good is wide =
    line_again Host frames (codes "skip") (decimal n ∷ codes "if" ∷ codes "ok" ∷ []) [] (once (Skip n Good)) refl (decimal_word n (omega (arith, is.1)), (refl, (refl, tt))) refl
    (rw (ranged_decimal 1 8192 n is.0 is.1 (omega (arith, is.1))) refl)
host_skip frames n Bad is wide =
    line_again Host frames (codes "skip") (decimal n ∷ codes "if" ∷ codes "bad" ∷ []) [] (once (Skip n Bad)) refl (decimal_word n (omega (arith, is.1)), (refl, (refl, tt))) refl
    (rw (ranged_decimal 1 8192 n is.0 is.1 (omega (arith, is.1))) refl)
host_skip frames n (Value value) is wide =
    line_again Host frames (codes "skip") (decimal n ∷ codes "if" ∷ codes "value" ∷ decimal value ∷ []) [] (once (Skip n (Value value))) refl
    (decimal_word n (omega (arith, is.1)), (refl, (refl, (decimal_word value wide, tt)))) refl (rw (ranged_decimal 1 8192 n is.0 is.1 (omega (arith, is.1)), number_decimal value wide) refl)

-- skips of a firmware actor
pub firmware_skip : (frames n : ℕ) (test : SkipTest) → IsSkip n → IsWideTest test → Again Firmware frames (once (Skip n test))
unfolding sealing_item firmware_item skip_item skip_row skip_value_row skip_test fixed item_text item_said skip_words retry_words
firmware_skip frames n Good is wide =
    line_again Firmware frames (codes "skip") (decimal n ∷ codes "if" ∷ codes "ok" ∷ []) [] (once (Skip n Good)) refl (decimal_word n (omega (arith, is.1)), (refl, (refl, tt))) refl
    (rw (ranged_decimal 1 8192 n is.0 is.1 (omega (arith, is.1))) refl)
firmware_skip frames n Bad is wide =
    line_again Firmware frames (codes "skip") (decimal n ∷ codes "if" ∷ codes "bad" ∷ []) [] (once (Skip n Bad)) refl (decimal_word n (omega (arith, is.1)), (refl, (refl, tt))) refl
    (rw (ranged_decimal 1 8192 n is.0 is.1 (omega (arith, is.1))) refl)
firmware_skip frames n (Value value) is wide =
    line_again Firmware frames (codes "skip") (decimal n ∷ codes "if" ∷ codes "value" ∷ decimal value ∷ []) [] (once (Skip n (Value value))) refl
    (decimal_word n (omega (arith, is.1)), (refl, (refl, (decimal_word value wide, tt)))) refl (rw (ranged_decimal 1 8192 n is.0 is.1 (omega (arith, is.1)), number_decimal value wide) refl)

-- a line as it is made of its item and its retries
abbrev pub made : Item → ℕ → Line
made item retries = record { item = item; retries = retries }

-- the items of a guest processor
pub cpu_again : (guest vmpl npt : ℕ) (paging : Paging) (frames : ℕ) (item : Item) (n : ℕ) → IsCpuItem item → n < 256 → IsTriedBy n item → IsWide item → Again (Cpu guest vmpl npt paging) frames (made item n)
unfolding validate_row adjust_row adjust_operands cpu_item retries_word fixed item_text item_said
cpu_again guest vmpl npt paging frames (Access address op) n is few tried wide =
    subst (λ (k : ℕ). Again (Cpu guest vmpl npt paging) frames (made (Access address op) k)) (sym tried) (cpu_access guest vmpl npt paging frames address op is wide is.1)
cpu_again guest vmpl npt paging frames (Pvalidate address size validate) n is few tried wide =
    let role = Cpu guest vmpl npt paging in
    let a = number_decimal address wide in
    let s = size_again size in
    let b = flag_again validate in
    retried_again role frames (codes "pvalidate") (decimal address ∷ size_text size ∷ flag_text validate ∷ []) (Pvalidate address size validate) n refl
    (decimal_word address wide, (size_spelled size, (flag_spelled validate, tt))) refl (λ d. refl) (rw (a, s, b) refl) (λ r. rw (a, s, b, r) refl) (tried_below n few)
cpu_again guest vmpl npt paging frames (Rmpadjust address size target mask vmsa) n is few tried wide =
    let role = Cpu guest vmpl npt paging in
    let a = number_decimal address wide in
    let s = size_again size in
    let t = below_decimal 256 target is.0 (omega (arith, is.0)) in
    let m = below_decimal 256 mask is.1 (omega (arith, is.1)) in
    let v = flag_again vmsa in
    retried_again role frames (codes "rmpadjust") (decimal address ∷ size_text size ∷ decimal target ∷ decimal mask ∷ flag_text vmsa ∷ []) (Rmpadjust address size target mask vmsa) n refl
    (decimal_word address wide, (size_spelled size, (decimal_word target (omega (arith, is.0)), (decimal_word mask (omega (arith, is.1)), (flag_spelled vmsa, tt))))) refl (λ d. refl)
    (rw (a, s, t, m, v) refl) (λ r. rw (a, s, t, m, v, r) refl) (tried_below n few)
cpu_again guest vmpl npt paging frames (Rmpupdate update) n is few tried wide = absurd is
cpu_again guest vmpl npt paging frames (Psmash frame) n is few tried wide = absurd is
cpu_again guest vmpl npt paging frames (items.Firmware command) n is few tried wide = absurd is
cpu_again guest vmpl npt paging frames (Skip count test) n is few tried wide =
    subst (λ (k : ℕ). Again (Cpu guest vmpl npt paging) frames (made (Skip count test) k)) (sym tried) (cpu_skip guest vmpl npt paging frames count test is wide)

-- the items of a hypervisor processor
pub host_again : (frames : ℕ) (item : Item) (n : ℕ) → IsHostItem frames item → n < 256 → IsTriedBy n item → IsWide item → Again Host frames (made item n)
unfolding update_row update_operands smash_row host_item retries_word fixed item_text item_said update_words
host_again frames (Access address op) n is few tried wide =
    subst (λ (k : ℕ). Again Host frames (made (Access address op) k)) (sym tried) (host_access frames address op is wide is.2)
host_again frames (Pvalidate address size validate) n is few tried wide = absurd is
host_again frames (Rmpadjust address size target mask vmsa) n is few tried wide = absurd is
host_again frames (Rmpupdate update) n is few tried wide =
    let f = number_decimal update.frame wide in
    let s = size_again update.size in
    let b = flag_again update.assigned in
    let a = below_decimal 1024 update.asid is.0 (omega (arith, is.0)) in
    let p = below_decimal (2 ^ 36) update.gpn is.1 (omega (arith, is.1)) in
    let i = flag_again update.immutable in
    retried_again Host frames (codes "rmpupdate")
    (decimal update.frame ∷ size_text update.size ∷ flag_text update.assigned ∷ decimal update.asid ∷ decimal update.gpn ∷ flag_text update.immutable ∷ []) (Rmpupdate update) n refl
    (decimal_word update.frame wide, (size_spelled update.size, (flag_spelled update.assigned, (decimal_word update.asid (omega (arith, is.0)), (decimal_word update.gpn (omega (arith, is.1)), (flag_spelled update.immutable, tt))))))
    refl (λ d. refl) (rw (f, s, b, a, p, i) refl) (λ r. rw (f, s, b, a, p, i, r) refl) (tried_below n few)
host_again frames (Psmash frame) n is few tried wide =
    let f = number_decimal frame wide in
    retried_again Host frames (codes "psmash") (decimal frame ∷ []) (Psmash frame) n refl (decimal_word frame wide, tt) refl (λ d. refl) (rw f refl) (λ r. rw (f, r) refl) (tried_below n few)
host_again frames (items.Firmware command) n is few tried wide = absurd is
host_again frames (Skip count test) n is few tried wide =
    subst (λ (k : ℕ). Again Host frames (made (Skip count test) k)) (sym tried) (host_skip frames count test is wide)
