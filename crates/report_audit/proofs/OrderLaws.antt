-- The order lines of an ending.
use Rattle.std.proofs.Common.{◌≡◌, ℕ, zero, suc, ◌+◌, ◌<◌, true, List, [], ◌∷◌, length, ◌++◌, drop, length-drop, append_assoc, Ok, bytes_eq, refl, sym, ap, ◌∙◌, arith}
use Rattle.snp_model.specs.declared.scenario.Scenario.{Scenario}
use Rattle.snp_model.specs.declared.scenario.GuestSpec.{GuestSpec}
use Rattle.snp_model.specs.GuestMemory.{Memory, opening_memory}
use Rattle.report_audit.specs.Audit.{ending, hear_ending, memories_from}
use Rattle.report_audit.specs.Ending.{order_line}
use Rattle.report_audit.specs.Hearing.{heard_at, heard_of}
use Rattle.report_audit.specs.declared.hearing.Hearing.{Hearing}
use Rattle.report_audit.specs.declared.hearing.Stage.{Stage}
use Rattle.report_audit.specs.declared.hearing.Stage.TheVariants.{Ending}

told_first : (c : Scenario) (count told : ℕ) (runs : List (ℕ × ℕ)) (line : List ℕ) → 0 < length runs → bytes_eq line (order_line runs) ≡ true → hear_ending c count runs told line ≡ Ok (ending count (drop 16 runs) told)
unfolding hear_ending
told_first c count told [] line some is = absurd (omega (arith, some))
told_first c count told (run ∷ runs) line some is = rw is refl

drop_nil : {X : Type 0} (k : ℕ) → drop {A = X} k [] ≡ []
drop_nil zero = refl
drop_nil (suc k) = refl

drop_twice : {X : Type 0} (n m : ℕ) (xs : List X) → drop n (drop m xs) ≡ drop (m + n) xs
drop_twice n zero xs = ap (λ (j : ℕ). drop j xs) (omega arith)
drop_twice n (suc m) [] = drop_nil n ∙ sym (drop_nil (suc m + n))
drop_twice n (suc m) (x ∷ xs) = let more : suc (m + n) ≡ suc m + n = omega arith in drop_twice n m xs ∙ ap (λ (j : ℕ). drop j (x ∷ xs)) more

pub order_told : (c : Scenario) (count told at : ℕ) (runs : List (ℕ × ℕ)) (line : List ℕ) → at < length runs → bytes_eq line (order_line (drop at runs)) ≡ true
    → hear_ending c count (drop at runs) told line ≡ Ok (ending count (drop (at + 16) runs) told)
order_told c count told at runs line within is =
    told_first c count told (drop at runs) line (omega (arith, length-drop at runs, within)) is ∙ ap (λ (rest : List (ℕ × ℕ)). Ok (ending count rest told)) (drop_twice 16 at runs)

pub order_stands : (c : Scenario) (h : Hearing) (line : List ℕ) → h.stage ≡ Ending → h.at < length h.ledger.runs.items → bytes_eq line (order_line (drop h.at h.ledger.runs.items)) ≡ true
    → hear_ending c h.ledger.count (drop h.at h.ledger.runs.items) h.told line ≡ Ok (heard_of (record h { at = h.at + 16 }))
order_stands c h line stands within is =
    order_told c h.ledger.count h.told h.at h.ledger.runs.items line within is ∙ ap (λ (s : Stage). Ok (heard_at s (record h { at = h.at + 16 }))) (sym stands)

-- the memories of guests at the opening, one by one
from_drop : (c : Scenario) (number : ℕ) (guests : List GuestSpec) (k : ℕ) → k < length guests → memories_from c number (drop k guests) ≡ opening_memory c number ∷ memories_from c (number + 1) (drop (k + 1) guests)
unfolding memories_from
from_drop c number [] k within = absurd (omega (arith, within))
from_drop c number (guest ∷ guests) zero within = refl
from_drop c number (guest ∷ guests) (suc k) within =
    let more : suc (k + 1) ≡ suc k + 1 = omega arith in
    from_drop c number guests k (omega (arith, within)) ∙ ap (λ (j : ℕ). opening_memory c number ∷ memories_from c (number + 1) (drop j (guest ∷ guests))) more

pub memories_more : (c : Scenario) (number : ℕ) (guests : List GuestSpec) (k : ℕ) (items : List Memory) (memory : Memory) (new whole : List Memory) → k < length guests → new ≡ items ++ memory ∷ [] → memory ≡ opening_memory c number
    → items ++ memories_from c number (drop k guests) ≡ whole → new ++ memories_from c (number + 1) (drop (k + 1) guests) ≡ whole
memories_more c number guests k items memory new whole within is opens all =
    let rest = memories_from c (number + 1) (drop (k + 1) guests) in
    ap (λ (ms : List Memory). ms ++ rest) is ∙ append_assoc items (memory ∷ []) rest ∙ ap (λ (m : Memory). items ++ (m ∷ rest)) opens
    ∙ ap (λ (ms : List Memory). items ++ ms) (sym (from_drop c number guests k within)) ∙ all
