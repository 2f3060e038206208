use Rattle.std.proofs.Common.{refl, arith}
use Rattle.snp_model.specs.Locks.{page_lock}
use Rattle.snp_model.specs.RmpUpdate.{is_bad_smash}
use Rattle.machine_core.specs.Bays.{pages_of}
use Rattle.machine_core.specs.Ranges.{smash_refused}
use Rattle.machine_core.proofs.HeldLaws.{answer_passed, answer_refused, region_found, region_refused, shown_refused}
use Rattle.machine_core.proofs.RangeLaws.{some_there}
use Rattle.machine_core.proofs.UpdateLaws.{lock_pages}
use Rattle.machine_core.proofs.SmashLaws.{first_unheld, input_shown, lock_refused, lock_taken, page_shown, rows_refused, smash_below}
use Rattle.machine_core.proofs.smash.lock_page.Goals as goal

pub smash_lock-requires : goal.smash_lock-requires
smash_lock-requires g c =
    let found = region_found (is_bad_smash c.args.frames c.args.frame) c.args.frame c.in-Ok.region c.smash_region.result c.in-Ok.is c.smash_region.ensures.region in
    first_unheld c.args.frames c.args.frame c.args.number (g.P.Parts.stock c.args.parts.now) c.in-Ok.region c.bay_mut-bay.result.now found c.bay_mut-bay.ensures.value c.requires.none

pub page_taken-requires : goal.page_taken-requires
page_taken-requires g c =
    let found = region_found (is_bad_smash c.args.frames c.args.frame) c.args.frame c.in-Ok.region c.smash_region.result c.in-Ok.is c.smash_region.ensures.region in
    let below = smash_below c.args.frames c.args.frame found.fine in
    let few = c.ranges.frames.fits in
    omega arith

pub returns-in-Err-clause-shown : goal.returns-in-Err-clause-shown
returns-in-Err-clause-shown g c =
    let stock = g.P.Parts.stock c.args.parts.now in
    let bad = region_refused (is_bad_smash c.args.frames c.args.frame) c.args.frame c.in-Err.status c.smash_region.result c.in-Err.is c.smash_region.ensures.region in
    input_shown c.args.frames c.args.frame stock c.in-Err.status (page_lock (pages_of stock.bays c.args.frame).facts.size c.args.frame) c.refused.result bad c.refused.ensures

pub returns-in-Err-smash_lock-clause-shown : goal.returns-in-Err-smash_lock-clause-shown
returns-in-Err-smash_lock-clause-shown g c =
    let stock = g.P.Parts.stock c.args.parts.now in
    let found = region_found (is_bad_smash c.args.frames c.args.frame) c.args.frame c.in-Ok.region c.smash_region.result c.in-Ok.is c.smash_region.ensures.region in
    let refused = answer_refused _ c.in-Err-smash_lock.refusal c.smash_lock.result c.in-Err-smash_lock.is c.smash_lock.ensures.answer in
    shown_refused (page_lock (pages_of stock.bays c.args.frame).facts.size c.args.frame) c.in-Err-smash_lock.refusal (smash_refused c.args.frames c.args.frame stock) c.refused-in-Err-smash_lock.result c.refused-in-Err-smash_lock.ensures
    (rows_refused c.args.frames c.args.frame stock c.in-Ok.region c.bay_mut-bay.result.now _ found c.bay_mut-bay.ensures.value refused)

pub returns-in-Err-smash_lock-clause-locks : goal.returns-in-Err-smash_lock-clause-locks
returns-in-Err-smash_lock-clause-locks g c =
    lock_refused _ _ c.args.number c.args.frame c.in-Ok.region c.bay_mut-bay.result.now (record { memory = c.bay_mut-bay.result.now.memory; rmp = c.smash_lock.new.rmp }) c.in-Err-smash_lock.refusal c.refused-in-Err-smash_lock.result
    (record { there = c.bay_mut-bay.ensures.value; stock_is = g.met.P.Parts.bay_written _ _ _ (some_there (g.P.Parts.stock c.args.parts.now).bays c.in-Ok.region c.bay_mut-bay.result.now c.bay_mut-bay.ensures.value) }) (c.in-Err-smash_lock.ensures.refused refl) c.requires.none c.refused-in-Err-smash_lock.ensures

pub returns-in-Ok-smash_lock-clause-shown : goal.returns-in-Ok-smash_lock-clause-shown
returns-in-Ok-smash_lock-clause-shown g c =
    let found = region_found (is_bad_smash c.args.frames c.args.frame) c.args.frame c.in-Ok.region c.smash_region.result c.in-Ok.is c.smash_region.ensures.region in
    let passed = answer_passed _ _ c.smash_lock.result c.in-Ok-smash_lock.is c.smash_lock.ensures.answer in
    page_shown c.args.frames c.args.frame (g.P.Parts.stock c.args.parts.now) c.in-Ok.region c.bay_mut-bay.result.now c.page_taken.result c.locked.result found c.bay_mut-bay.ensures.value passed c.page_taken.ensures c.locked.ensures

pub returns-in-Ok-smash_lock-clause-pages : goal.returns-in-Ok-smash_lock-clause-pages
returns-in-Ok-smash_lock-clause-pages g c =
    lock_pages _ _ c.in-Ok.region c.bay_mut-bay.result.now (record { memory = c.bay_mut-bay.result.now.memory; rmp = c.smash_lock.new.rmp })
    (record { there = c.bay_mut-bay.ensures.value; stock_is = g.met.P.Parts.bay_written _ _ _ (some_there (g.P.Parts.stock c.args.parts.now).bays c.in-Ok.region c.bay_mut-bay.result.now c.bay_mut-bay.ensures.value) }) refl c.smash_lock.ensures.facts

pub returns-in-Ok-smash_lock-clause-locks : goal.returns-in-Ok-smash_lock-clause-locks
returns-in-Ok-smash_lock-clause-locks g c =
    let found = region_found (is_bad_smash c.args.frames c.args.frame) c.args.frame c.in-Ok.region c.smash_region.result c.in-Ok.is c.smash_region.ensures.region in
    let passed = answer_passed _ _ c.smash_lock.result c.in-Ok-smash_lock.is c.smash_lock.ensures.answer in
    lock_taken _ _ c.args.frames c.args.number c.args.frame c.in-Ok.region c.bay_mut-bay.result.now (record { memory = c.bay_mut-bay.result.now.memory; rmp = c.smash_lock.new.rmp }) c.page_taken.result c.locked.result found
    (record { there = c.bay_mut-bay.ensures.value; stock_is = g.met.P.Parts.bay_written _ _ _ (some_there (g.P.Parts.stock c.args.parts.now).bays c.in-Ok.region c.bay_mut-bay.result.now c.bay_mut-bay.ensures.value) }) passed (c.in-Ok-smash_lock.ensures.locked refl) c.requires.none c.page_taken.ensures c.locked.ensures
