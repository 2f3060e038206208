use Rattle.std.proofs.Common.{rules}
use Rattle.meta_page.proofs.FieldLaws.{in_use}
use Rattle.meta_page.proofs.fields.entry_from.Goals as goal

pub returns-clause-entry : goal.returns-clause-entry
returns-clause-entry c =
    in_use c.args.words.now c.to_le_bytes.result c.to_le_bytes-2.result c.tag_from.result c.from_le_bytes.result (search rules) (λ i. search rules) c.to_le_bytes.ensures c.to_le_bytes-2.ensures c.from_le_bytes.ensures c.tag_from.ensures c.if-in_use-ne-IN_USE.false
