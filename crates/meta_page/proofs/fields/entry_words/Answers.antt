use Rattle.std.proofs.Common.{rules}
use Rattle.meta_page.proofs.FieldLaws.{words_are}
use Rattle.meta_page.proofs.fields.entry_words.Goals as goal

pub returns-clause-words : goal.returns-clause-words
returns-clause-words c =
    let entry = c.args.entry.now in
    words_are entry.kind entry.asid entry.gpn entry.iv c.from.result c.from-2.result _ _ _ _ entry.vmsa entry.validated entry.perms entry.tag c.to_le_bytes.result
    (search rules) (search rules) (search rules) (search rules) c.to_le_bytes.ensures (search rules) (search rules) c.from_le_bytes.ensures c.from_le_bytes-2.ensures (search rules) (search rules)

pub returns-clause-fits : goal.returns-clause-fits
returns-clause-fits c = record {
  kind = search rules;
  asid = search rules;
  gpn = search rules;
  perms_count = search rules;
  perms = λ i. search rules;
  iv = search rules;
  tag_count = search rules;
  tag = λ i. search rules;
}
