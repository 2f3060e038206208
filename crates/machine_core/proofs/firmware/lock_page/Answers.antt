use Rattle.std.proofs.Common.{◌%◌, get_or, None, refl, sym, ap, ◌∙◌, arith}
use Rattle.snp_model.specs.declared.entry.RmpEntry.{RmpEntry}
use Rattle.snp_model.specs.Facts.{free_entry}
use Rattle.snp_model.specs.Locks.{page_lock}
use Rattle.snp_model.specs.RegionWords.{page_at}
use Rattle.snp_model.specs.State.{Page}
use Rattle.machine_core.specs.Actors.{page_lock_of}
use Rattle.machine_core.proofs.ContextsLaws.{answer_none, answer_some}
use Rattle.machine_core.proofs.NamedLaws.{named_locked, named_there, outside_refused}
use Rattle.machine_core.proofs.PageLaws.{own_facts, own_holder}
use Rattle.machine_core.proofs.RangeLaws.{holders_stay, pages_stay}
use Rattle.machine_core.proofs.firmware.lock_page.Goals as goal

pub returns-then-from-named-clause-refusal : goal.returns-then-from-named-clause-refusal
returns-then-from-named-clause-refusal g c =
    sym (outside_refused c.args.frames c.args.asid c.args.command.now c.args.named (g.P.Parts.stock c.args.parts.now) (omega (arith, c.if-from-named.true, c.from.ensures)))

pub lock_slot-requires-clause-not_held : goal.lock_slot-requires-clause-not_held
lock_slot-requires-clause-not_held g c =
    λ held. c.requires.not_held (own_holder (g.P.Parts.stock c.args.parts.now).bays c.bay_mut-bay.result.now c.args.named.frame c.bay_mut-bay.ensures.value ∙ held)

pub returns-in-Ok-clause-refusal : goal.returns-in-Ok-clause-refusal
returns-in-Ok-clause-refusal g c =
    sym (named_there c.args.frames c.args.asid c.args.command.now c.args.named (g.P.Parts.stock c.args.parts.now) c.bay_mut-bay.result.now c.bay_mut-bay.ensures.value (omega (arith, c.if-from-named.false, c.from.ensures))
    ∙ answer_none _ _ _ c.in-Ok.is c.lock_slot.ensures.answer)

pub returns-in-Err-clause-refusal : goal.returns-in-Err-clause-refusal
returns-in-Err-clause-refusal g c =
    sym (named_there c.args.frames c.args.asid c.args.command.now c.args.named (g.P.Parts.stock c.args.parts.now) c.bay_mut-bay.result.now c.bay_mut-bay.ensures.value (omega (arith, c.if-from-named.false, c.from.ensures))
    ∙ answer_some _ _ _ c.in-Err.is c.lock_slot.ensures.answer)

pub returns-in-Ok-clause-taken : goal.returns-in-Ok-clause-taken
returns-in-Ok-clause-taken g c =
    let frame = c.args.named.frame in
    ap page_lock_of c.page_taken.ensures
    ∙ ap (λ (e : RmpEntry). page_lock e.size frame)
    (c.effective.ensures ∙ (λ i. get_or (c.lock_slot.ensures.facts i) (frame % 512) free_entry) ∙ sym (own_facts (g.P.Parts.stock c.args.parts.now).bays c.bay_mut-bay.result.now frame c.bay_mut-bay.ensures.value))

pub returns-in-Ok-clause-pages : goal.returns-in-Ok-clause-pages
returns-in-Ok-clause-pages g c =
    pages_stay _ _ _ c.bay_mut-bay.result.now _ (record { there = c.bay_mut-bay.ensures.value; stock_is = g.met.P.Parts.bay_written _ _ _ (c.requires.has (omega (arith, c.if-from-named.false, c.from.ensures))) })
    (λ i slot. let p : Page = record { facts = get_or (c.lock_slot.ensures.facts i) slot free_entry; words = page_at (c.lock_slot.ensures.memory i) slot } in p)

pub returns-in-Ok-clause-locked : goal.returns-in-Ok-clause-locked
returns-in-Ok-clause-locked g c =
    named_locked _ _ c.args.number c.args.named.frame c.bay_mut-bay.result.now _ (page_lock_of c.page_taken.result)
    (record { there = c.bay_mut-bay.ensures.value; stock_is = g.met.P.Parts.bay_written _ _ _ (c.requires.has (omega (arith, c.if-from-named.false, c.from.ensures))) })
    (c.lock_slot.ensures.locked (rw c.in-Ok.is refl)) (returns-in-Ok-clause-taken g c)

pub returns-in-Err-clause-refused : goal.returns-in-Err-clause-refused
returns-in-Err-clause-refused g c = λ e.
    holders_stay _ _ _ c.bay_mut-bay.result.now _ (record { there = c.bay_mut-bay.ensures.value; stock_is = g.met.P.Parts.bay_written _ _ _ (c.requires.has (omega (arith, c.if-from-named.false, c.from.ensures))) })
    (λ i slot. get_or (c.lock_slot.ensures.refused (rw c.in-Err.is refl) i).holders slot None)

pub returns-in-Err-clause-pages : goal.returns-in-Err-clause-pages
returns-in-Err-clause-pages g c =
    pages_stay _ _ _ c.bay_mut-bay.result.now _ (record { there = c.bay_mut-bay.ensures.value; stock_is = g.met.P.Parts.bay_written _ _ _ (c.requires.has (omega (arith, c.if-from-named.false, c.from.ensures))) })
    (λ i slot. let p : Page = record { facts = get_or (c.lock_slot.ensures.facts i) slot free_entry; words = page_at (c.lock_slot.ensures.memory i) slot } in p)
