use Rattle.std.proofs.Common.{ℕ, List, ◌++◌, take, decimal, sym, ap, ◌∙◌, append-nil}
use Rattle.std.specs.Prelude.{codes}
use Rattle.snp_model.specs.Spelling.{command_words}
use Rattle.script_text.proofs.writing.put_start.Goals as goal

pub returns-clause-text : goal.returns-clause-text
unfolding command_words
returns-clause-text c =
    c.put_named.ensures.text ∙ ap (λ (n : ℕ). take c.args.at c.args.out.now ++ (codes "launch_start " ++ decimal n)) c.from.ensures
    ∙ ap (λ (rest : List ℕ). take c.args.at c.args.out.now ++ (codes "launch_start " ++ rest)) (sym (append-nil (decimal c.args.guest)))
