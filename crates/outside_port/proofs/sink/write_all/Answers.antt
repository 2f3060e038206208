use Rattle.std.proofs.Common.{List, ℕ, ◌++◌, take, sym, ap, ◌∙◌, arith, take-append-drop}
use Rattle.snp_model.proofs.Adding.{left_after}
use Rattle.outside_port.proofs.HoldingLaws.{holds_after}
use Rattle.outside_port.proofs.sink.write_all.Goals as goal

pub pieces-preserved : goal.pieces-preserved
pieces-preserved g c =
    let n = c.in-Ok.count in
    let rest = c.pieces.rest.now in
    let parts = sym (take-append-drop n rest) ∙ ap (λ (r : List ℕ). take n rest ++ r) (sym c.split_at.ensures.back) in
    record {
      later = omega arith;
      left = left_after _ _ _ _ _ _ _ c.pieces.invariant.left c.in-Ok.ensures.adds parts;
      held = holds_after _ _ _ _ _ _ _ c.pieces.invariant.held c.in-Ok.ensures.held parts;
    }
