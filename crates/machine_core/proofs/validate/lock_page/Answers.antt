use Rattle.std.proofs.Common.{None, refl, ◌/◌}
use Rattle.snp_model.specs.Locks.{page_lock}
use Rattle.snp_model.specs.Validation.{validate_refusal}
use Rattle.machine_core.specs.Bays.{pages_of}
use Rattle.machine_core.specs.Ranges.{page_refused}
use Rattle.machine_core.proofs.HeldLaws.{answer_passed, answer_refused, shown_refused}
use Rattle.machine_core.proofs.PageLaws.{own_unheld, page_locked, page_shown, tested_there}
use Rattle.machine_core.proofs.SmashLaws.{lock_refused}
use Rattle.machine_core.proofs.UpdateLaws.{lock_pages}
use Rattle.machine_core.proofs.validate.lock_page.Goals as goal

pub validate_lock-requires-clause-not_held : goal.validate_lock-requires-clause-not_held
validate_lock-requires-clause-not_held g c =
    own_unheld c.args.number c.args.frame c.args.place.now.slot (g.P.Parts.stock c.args.parts.now) c.bay_mut-bay.result.now c.bay_mut-bay.ensures.value c.requires.slot c.requires.none

pub returns-in-Err-clause-shown : goal.returns-in-Err-clause-shown
returns-in-Err-clause-shown g c =
    let stock = g.P.Parts.stock c.args.parts.now in
    let refused = answer_refused _ c.in-Err.refusal c.validate_lock.result c.in-Err.is c.validate_lock.ensures.answer in
    shown_refused (page_lock (pages_of stock.bays c.args.frame).facts.size c.args.frame) c.in-Err.refusal (page_refused (validate_refusal c.args.place.now c.args.size) c.args.frame stock) c.refused.result c.refused.ensures
    (tested_there (validate_refusal c.args.place.now c.args.size) c.args.frame c.args.place.now.slot stock c.bay_mut-bay.result.now _ c.bay_mut-bay.ensures.value c.requires.slot refused)

pub returns-in-Err-clause-locks : goal.returns-in-Err-clause-locks
returns-in-Err-clause-locks g c =
    lock_refused _ _ c.args.number c.args.frame (c.args.frame / 512) c.bay_mut-bay.result.now (record { memory = c.bay_mut-bay.result.now.memory; rmp = c.validate_lock.new.rmp }) c.in-Err.refusal c.refused.result
    (record { there = c.bay_mut-bay.ensures.value; stock_is = g.met.P.Parts.bay_written _ _ _ c.requires.has }) (c.in-Err.ensures.refused refl) c.requires.none c.refused.ensures

pub returns-in-Ok-clause-shown : goal.returns-in-Ok-clause-shown
returns-in-Ok-clause-shown g c =
    let stock = g.P.Parts.stock c.args.parts.now in
    let passed = answer_passed _ _ c.validate_lock.result c.in-Ok.is c.validate_lock.ensures.answer in
    page_shown stock c.args.frame c.args.place.now.slot c.bay_mut-bay.result.now c.effective-entry.result c.page_taken.result (page_refused (validate_refusal c.args.place.now c.args.size) c.args.frame stock) c.locked.result c.bay_mut-bay.ensures.value c.requires.slot
    c.effective-entry.ensures c.page_taken.ensures c.locked.ensures
    (tested_there (validate_refusal c.args.place.now c.args.size) c.args.frame c.args.place.now.slot stock c.bay_mut-bay.result.now None c.bay_mut-bay.ensures.value c.requires.slot passed)

pub returns-in-Ok-clause-pages : goal.returns-in-Ok-clause-pages
returns-in-Ok-clause-pages g c =
    lock_pages _ _ (c.args.frame / 512) c.bay_mut-bay.result.now (record { memory = c.bay_mut-bay.result.now.memory; rmp = c.validate_lock.new.rmp })
    (record { there = c.bay_mut-bay.ensures.value; stock_is = g.met.P.Parts.bay_written _ _ _ c.requires.has }) refl c.validate_lock.ensures.facts

pub returns-in-Ok-clause-locks : goal.returns-in-Ok-clause-locks
returns-in-Ok-clause-locks g c =
    page_locked _ _ c.args.number c.args.frame c.args.place.now.slot c.bay_mut-bay.result.now (record { memory = c.bay_mut-bay.result.now.memory; rmp = c.validate_lock.new.rmp }) c.effective-entry.result c.page_taken.result c.locked.result
    (record { there = c.bay_mut-bay.ensures.value; stock_is = g.met.P.Parts.bay_written _ _ _ c.requires.has }) c.requires.slot (c.in-Ok.ensures.locked refl) c.requires.none c.effective-entry.ensures c.page_taken.ensures c.locked.ensures
