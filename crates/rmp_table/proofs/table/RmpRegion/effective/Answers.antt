use Rattle.std.proofs.Common.{◌%◌, ap, ◌∙◌, arith}
use Rattle.std.proofs.lemmas.List.{get_or_read}
use Rattle.snp_model.specs.declared.entry.RmpEntry.{RmpEntry}
use Rattle.snp_model.specs.Facts.{free_entry}
use Rattle.snp_model.specs.Entries.{facts_within}
use Rattle.rmp_table.proofs.EntryLaws.{facts_large, facts_small, is_head}
use Rattle.rmp_table.proofs.table.RmpRegion.effective.Goals as goal

pub within-requires-clause-aligned : goal.within-requires-clause-aligned
within-requires-clause-aligned c =
    ap (λ (e : RmpEntry). e.gpn % 512) (get_or_read c.self.inside.entries.items 0 _ (omega (arith, c.self.invariant.entries_count)) c.index-in-Large.ensures free_entry)
    ∙ (is_head _ _ _ c.in-Large.is c.self.invariant).aligned

pub returns-in-Small : goal.returns-in-Small
returns-in-Small c =
    c.by_fields.ensures
    ∙ get_or_read c.self.inside.entries.items c.args.slot _ (omega (arith, c.requires, c.self.invariant.entries_count)) c.index.ensures free_entry
    ∙ facts_small _ _ _ _ c.args.slot c.in-Small.is c.self.view_is

pub returns-in-Large : goal.returns-in-Large
returns-in-Large c =
    c.within.ensures
    ∙ ap (λ (e : RmpEntry). facts_within e c.args.slot) (get_or_read c.self.inside.entries.items 0 _ (omega (arith, c.self.invariant.entries_count)) c.index-in-Large.ensures free_entry)
    ∙ facts_large _ _ _ _ c.args.slot c.in-Large.is c.requires c.self.view_is
