use Rattle.std.proofs.Common.{ℕ, List, ◌∷◌, take, sym, ap, ◌∙◌}
use Rattle.snp_model.specs.Lines.{parts_at}
use Rattle.script_text.proofs.PartsLaws.{parts_none, parts_some}
use Rattle.script_text.proofs.words.cut.Goals as goal

pub returns-in-Some-clause-parts : goal.returns-in-Some-clause-parts
returns-in-Some-clause-parts c =
    parts_some c.args.separator c.args.bytes.now c.in-Some.at (sym c.in-Some.ensures.place)
    ∙ ap (λ (rest : List ℕ). take c.in-Some.at c.args.bytes.now ∷ parts_at c.args.separator rest) (sym c.behind.ensures)

pub returns-in-None-clause-parts : goal.returns-in-None-clause-parts
returns-in-None-clause-parts c = parts_none c.args.separator c.args.bytes.now (sym c.in-None.ensures.place)
