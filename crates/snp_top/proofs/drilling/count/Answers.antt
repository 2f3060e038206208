use Rattle.std.proofs.Common.{◌≡◌, length, sym, ◌∙◌, arith}
use Rattle.snp_top.specs.Drills.{is_of}
use Rattle.snp_top.proofs.DrillLaws.{count_done, count_here, count_passed}
use Rattle.snp_top.proofs.drilling.count.Goals.{then-has, else-has}
use Rattle.snp_top.proofs.drilling.count.Goals as goal

pub events-preserved : goal.events-preserved
events-preserved c =
    let list = c.args.journal.now.list in
    let counted = c.events.invariant.counted in
    let few = c.events.invariant.few in
    elim c.if-has.branch [
      | then-has w ↦
          let here = count_here (is_of c.args.sort) list c.events.k c.outcome.result c.outcome.ensures (sym c.has.ensures ∙ w.if-has.true) in
          let count = w.count-is in
          record { counted = omega arith; few = omega arith }
      | else-has w ↦
          let passed = count_passed (is_of c.args.sort) list c.events.k c.outcome.result c.outcome.ensures (sym c.has.ensures ∙ w.if-has.false) in
          let count = w.count-is in
          record { counted = omega arith; few = omega arith }
    ]

pub returns : goal.returns
returns c =
    let list = c.args.journal.now.list in
    let end = c.events.auto.k-end in
    let test = c.events-test.false in
    let len = c.len-k-end.ensures in
    let whole : c.events.k ≡ length list = omega arith in
    let done = count_done (is_of c.args.sort) list c.events.k whole in
    let counted = c.events.invariant.counted in
    omega arith
