use Rattle.std.proofs.Common.{rules}
use Rattle.meta_page.proofs.FieldLaws.{two_words}
use Rattle.meta_page.proofs.fields.tag_from.Goals as goal

pub returns : goal.returns
returns c =
    two_words c.args.low c.args.high _ _ (search rules) (search rules)
