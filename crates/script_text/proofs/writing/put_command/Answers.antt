use Rattle.std.proofs.Common.{◌++◌, take, sym, ap, ◌∙◌}
use Rattle.snp_model.specs.declared.command.Command.{Command}
use Rattle.snp_model.specs.Spelling.{command_words, joined}
use Rattle.script_text.proofs.writing.put_command.Goals as goal

pub returns-in-MdRootOut-clause-text : goal.returns-in-MdRootOut-clause-text
unfolding command_words
returns-in-MdRootOut-clause-text c =
    c.put_move-in-MdRootOut.ensures.text ∙ ap (λ (command : Command). take c.args.at c.args.out.now ++ joined (command_words command)) (sym c.in-MdRootOut.is)

pub returns-in-MdRootIn-clause-text : goal.returns-in-MdRootIn-clause-text
unfolding command_words
returns-in-MdRootIn-clause-text c =
    c.put_move-in-MdRootIn.ensures.text ∙ ap (λ (command : Command). take c.args.at c.args.out.now ++ joined (command_words command)) (sym c.in-MdRootIn.is)
