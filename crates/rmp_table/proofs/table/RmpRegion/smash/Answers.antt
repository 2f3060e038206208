use Rattle.std.proofs.Common.{◌%◌, ap, ◌∙◌, arith}
use Rattle.std.proofs.lemmas.List.{get_or_read}
use Rattle.snp_model.specs.declared.entry.RmpEntry.{RmpEntry}
use Rattle.snp_model.specs.Facts.{free_entry}
use Rattle.snp_model.specs.declared.entry.PageSize.TheVariants.{Small}
use Rattle.rmp_table.proofs.EntryLaws.{is_head, is_large_at, spread_at, spread_stored}
use Rattle.rmp_table.proofs.table.RmpRegion.smash.Goals as goal

pub spread-requires-clause-aligned : goal.spread-requires-clause-aligned
spread-requires-clause-aligned c =
    let head = get_or_read c.self.inside.entries.items 0 _ (omega (arith, c.self.invariant.entries_count)) c.index.ensures free_entry in
    ap (λ (e : RmpEntry). e.gpn % 512) head ∙ (is_head _ _ _ (is_large_at _ _ _ _ c.self.invariant c.self.view_is c.requires) c.self.invariant).aligned

pub invariant_of-self : goal.invariant_of-self
invariant_of-self c =
    let head = get_or_read c.self.inside.entries.items 0 _ (omega (arith, c.self.invariant.entries_count)) c.index.ensures free_entry in
    let small : RmpEntry = record c.index.result.now { size = Small } in
    spread_stored _ c.self.inside.entries.items _ c.self.inside.locks c.args.self.now small
    (record {
      are = c.self.invariant;
      is = c.self.view_is;
      large = is_large_at _ _ _ _ c.self.invariant c.self.view_is c.requires;
      small_is = ap (λ (e : RmpEntry). let s : RmpEntry = record e { size = Small } in s) head;
      new_is = c.spread.ensures;
    })

pub returns-clause-facts : goal.returns-clause-facts
returns-clause-facts c =
    let head = get_or_read c.self.inside.entries.items 0 _ (omega (arith, c.self.invariant.entries_count)) c.index.ensures free_entry in
    let small : RmpEntry = record c.index.result.now { size = Small } in
    spread_at _ c.self.inside.entries.items _ c.self.inside.locks c.args.self.now small
    (record {
      are = c.self.invariant;
      is = c.self.view_is;
      large = is_large_at _ _ _ _ c.self.invariant c.self.view_is c.requires;
      small_is = ap (λ (e : RmpEntry). let s : RmpEntry = record e { size = Small } in s) head;
      new_is = c.spread.ensures;
    })
