use Rattle.std.proofs.Common.{None, refl, arith}
use Rattle.snp_model.specs.RmpUpdate.{is_bad_update, update_lock}
use Rattle.machine_core.specs.Ranges.{update_refused}
use Rattle.machine_core.proofs.HeldLaws.{answer_passed, answer_refused, region_found, region_refused, shown_locked, shown_refused}
use Rattle.machine_core.proofs.RangeLaws.{some_there}
use Rattle.machine_core.proofs.UpdateLaws.{input_shown, lock_pages, lock_taken, none_in_region, rows_refused, update_below}
use Rattle.machine_core.proofs.update.lock_range.Goals as goal

pub update_lock-requires-clause-none_held : goal.update_lock-requires-clause-none_held
update_lock-requires-clause-none_held g c =
    let found = region_found (is_bad_update c.args.frames c.args.update.now) c.args.update.now.frame c.in-Ok.region c.update_region.result c.in-Ok.is c.update_region.ensures.region in
    none_in_region c.args.number c.args.update.now.frame c.in-Ok.region (g.P.Parts.stock c.args.parts.now) c.bay_mut-bay.result.now found.region_is c.bay_mut-bay.ensures.value c.requires.none

pub range_taken-requires : goal.range_taken-requires
range_taken-requires g c =
    let found = region_found (is_bad_update c.args.frames c.args.update.now) c.args.update.now.frame c.in-Ok.region c.update_region.result c.in-Ok.is c.update_region.ensures.region in
    let below = update_below c.args.frames c.args.update.now found.fine in
    let few = c.ranges.frames.fits in
    omega arith

pub returns-in-Err-clause-shown : goal.returns-in-Err-clause-shown
returns-in-Err-clause-shown g c =
    let bad = region_refused (is_bad_update c.args.frames c.args.update.now) c.args.update.now.frame c.in-Err.status c.update_region.result c.in-Err.is c.update_region.ensures.region in
    input_shown c.args.frames c.args.update.now (g.P.Parts.stock c.args.parts.now) c.in-Err.status c.refused.result bad c.refused.ensures

pub returns-in-Err-update_lock-clause-shown : goal.returns-in-Err-update_lock-clause-shown
returns-in-Err-update_lock-clause-shown g c =
    let stock = g.P.Parts.stock c.args.parts.now in
    let found = region_found (is_bad_update c.args.frames c.args.update.now) c.args.update.now.frame c.in-Ok.region c.update_region.result c.in-Ok.is c.update_region.ensures.region in
    let refused = answer_refused _ c.in-Err-update_lock.refusal c.update_lock.result c.in-Err-update_lock.is c.update_lock.ensures.answer in
    shown_refused (update_lock c.args.update.now) c.in-Err-update_lock.refusal (update_refused c.args.frames c.args.update.now stock) c.refused-in-Err-update_lock.result c.refused-in-Err-update_lock.ensures
    (rows_refused c.args.frames c.args.update.now stock c.in-Ok.region c.bay_mut-bay.result.now _ found c.bay_mut-bay.ensures.value refused)

pub returns-in-Ok-update_lock-clause-shown : goal.returns-in-Ok-update_lock-clause-shown
returns-in-Ok-update_lock-clause-shown g c =
    let stock = g.P.Parts.stock c.args.parts.now in
    let found = region_found (is_bad_update c.args.frames c.args.update.now) c.args.update.now.frame c.in-Ok.region c.update_region.result c.in-Ok.is c.update_region.ensures.region in
    let passed = answer_passed _ _ c.update_lock.result c.in-Ok-update_lock.is c.update_lock.ensures.answer in
    shown_locked (update_lock c.args.update.now) c.range_taken.result (update_refused c.args.frames c.args.update.now stock) c.locked.result c.locked.ensures c.range_taken.ensures
    (rows_refused c.args.frames c.args.update.now stock c.in-Ok.region c.bay_mut-bay.result.now None found c.bay_mut-bay.ensures.value passed)

pub returns-in-Ok-update_lock-clause-pages : goal.returns-in-Ok-update_lock-clause-pages
returns-in-Ok-update_lock-clause-pages g c =
    lock_pages _ _ c.in-Ok.region c.bay_mut-bay.result.now (record { memory = c.bay_mut-bay.result.now.memory; rmp = c.update_lock.new.rmp })
    (record { there = c.bay_mut-bay.ensures.value; stock_is = g.met.P.Parts.bay_written _ _ _ (some_there (g.P.Parts.stock c.args.parts.now).bays c.in-Ok.region c.bay_mut-bay.result.now c.bay_mut-bay.ensures.value) }) refl c.update_lock.ensures.facts

pub returns-in-Ok-update_lock-clause-locks : goal.returns-in-Ok-update_lock-clause-locks
returns-in-Ok-update_lock-clause-locks g c =
    let found = region_found (is_bad_update c.args.frames c.args.update.now) c.args.update.now.frame c.in-Ok.region c.update_region.result c.in-Ok.is c.update_region.ensures.region in
    lock_taken _ _ c.args.frames c.args.number c.args.update.now c.in-Ok.region c.bay_mut-bay.result.now (record { memory = c.bay_mut-bay.result.now.memory; rmp = c.update_lock.new.rmp }) c.locked.result found
    (record { there = c.bay_mut-bay.ensures.value; stock_is = g.met.P.Parts.bay_written _ _ _ (some_there (g.P.Parts.stock c.args.parts.now).bays c.in-Ok.region c.bay_mut-bay.result.now c.bay_mut-bay.ensures.value) }) (c.in-Ok-update_lock.ensures.locked refl) c.requires.none
    (shown_locked (update_lock c.args.update.now) c.range_taken.result None c.locked.result c.locked.ensures c.range_taken.ensures refl)
