use Rattle.std.proofs.Common.{◌∙◌, ℕ, ◌==◌, Bool, not, ◌||◌, get_or, ◌∷◌, [], refl, sym, ap}
use Rattle.std.specs.Int.{w16, from_le_bytes}
use Rattle.std.proofs.lemmas.Bool.{eq-eqb, ne_eqb}
use Rattle.snp_model.proofs.MetadataLaws.{owned_by_first}
use Rattle.fw_swap.proofs.ownership.is_owned.Goals as goal

pub returns-then-in_use-ne-IN_USE : goal.returns-then-in_use-ne-IN_USE
returns-then-in_use-ne-IN_USE c = λ rest.
    let other = ne_eqb (get_or c.to_le_bytes.result 0 0) 1 c.if-in_use-ne-IN_USE.true in
    ap not other ∙ ap (λ (b : Bool). not b || (own c == c.args.asid)) (sym other)
    ∙ owned_by_first c.args.asid c.args.first (own c) rest c.to_le_bytes.result c.to_le_bytes.ensures refl
  where
    own : goal.Then-in_use-ne-IN_USE → ℕ
    own c = from_le_bytes w16 (get_or c.to_le_bytes.result 4 0 ∷ get_or c.to_le_bytes.result 5 0 ∷ [])

pub returns-else-in_use-ne-IN_USE : goal.returns-else-in_use-ne-IN_USE
returns-else-in_use-ne-IN_USE c = λ rest.
    ap (λ (b : Bool). not b || (c.from_le_bytes.result == c.args.asid)) (sym (eq-eqb (get_or c.to_le_bytes.result 0 0) 1 c.if-in_use-ne-IN_USE.false))
    ∙ owned_by_first c.args.asid c.args.first c.from_le_bytes.result rest c.to_le_bytes.result c.to_le_bytes.ensures c.from_le_bytes.ensures
