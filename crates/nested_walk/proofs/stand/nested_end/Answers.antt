use Rattle.std.proofs.Common.{ℕ, ◌<◌, ap, ◌∙◌, arith}
use Rattle.snp_model.specs.declared.walk.NestedEnd.TheVariants.{Read}
use Rattle.nested_walk.proofs.EndLaws.{stand_more, stand_leaf, stand_fault, stand_last, not_last}
use Rattle.nested_walk.proofs.stand.nested_end.Goals as goal

pub returns-in-Leaf-clause-stands : goal.returns-in-Leaf-clause-stands
returns-in-Leaf-clause-stands c = stand_leaf _ _ _ _ c.words.word-index _ _ c.args.words.now _ c.words-test.true c.words.invariant.stands c.in-Leaf.ensures.value

pub returns-in-Fault-clause-stands : goal.returns-in-Fault-clause-stands
returns-in-Fault-clause-stands c = stand_fault _ _ _ _ c.words.word-index _ c.args.words.now _ c.words-test.true c.words.invariant.stands c.in-Fault.ensures.value

pub words-preserved : goal.words-preserved
words-preserved c =
    let more : 1 < c.words.level = not_last c.args.path.now c.words.level _ _ _ c.in-Read.ensures.value c.words.invariant.low in
    record {
      low = omega arith;
      high = omega (arith, c.words.invariant.high);
      inside = c.in-Read.ensures.inside.0;
      stands = stand_more c.args.path.now _ _ _ c.words.word-index _ _ c.args.words.now _ c.words-test.true c.words.invariant.stands c.in-Read.ensures.value;
    }

pub returns-clause-stands : goal.returns-clause-stands
returns-clause-stands c =
    ap (λ (i : ℕ). Read c.words.table i) c.nested_index.ensures.value
    ∙ stand_last c.args.path.now c.words.level _ _ c.words.word-index c.args.words.now _ c.words-test.false c.words.invariant.stands
