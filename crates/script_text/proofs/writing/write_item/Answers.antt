use Rattle.script_text.proofs.WrittenLaws.{written_again}
use Rattle.script_text.proofs.writing.write_item.Goals as goal

pub returns-clause-again : goal.returns-clause-again
returns-clause-again c =
    λ frames is tried. rw c.put_line.ensures.text (written_again frames c.args.role.now c.args.line.now is tried c.put_line.ensures.wide)
