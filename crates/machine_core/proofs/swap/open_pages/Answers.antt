use Rattle.std.proofs.Common.{ℕ, [], None, Some, ap, ◌∙◌}
use Rattle.snp_model.specs.declared.event.Outcome.TheVariants.{Firmware}
use Rattle.snp_model.specs.FirmwareStep.{small_shown}
use Rattle.run_laws.specs.KeptLocks.{relocked}
use Rattle.machine_core.specs.declared.shown.Shown.{Shown}
use Rattle.machine_core.specs.Bays.{pages_of}
use Rattle.machine_core.specs.Seals.{sealing_locks, slot_by, what_by}
use Rattle.machine_core.proofs.SwapLaws.{gpn_left, opens_pages, still_holds, still_slot, target_locked}
use Rattle.machine_core.proofs.swap.open_pages.Goals as goal

pub bring_back-gpn-requires-clause-locked : goal.bring_back-gpn-requires-clause-locked
bring_back-gpn-requires-clause-locked g c =
    target_locked c.args.number c.args.sealing.now.source c.args.sealing.now.target (slot_by c.args.sealing.now.slot) (g.P.Parts.stock c.args.parts.now) c.requires.may.holds

pub write_slot-requires : goal.write_slot-requires
write_slot-requires g c = record { has = still_slot c.args.sealing.now.slot _ _ c.bring_back-gpn.ensures.has c.requires.may.slot_has }

pub release_sealing-requires-clause-source_has : goal.release_sealing-requires-clause-source_has
release_sealing-requires-clause-source_has g c = c.write_slot.ensures.has c.args.sealing.now.source (c.bring_back-gpn.ensures.has c.args.sealing.now.source c.requires.may.source_has)

pub release_sealing-requires-clause-target_has : goal.release_sealing-requires-clause-target_has
release_sealing-requires-clause-target_has g c = c.write_slot.ensures.has c.args.sealing.now.target (c.bring_back-gpn.ensures.has c.args.sealing.now.target c.requires.may.target_has)

pub release_sealing-requires-clause-slot_has : goal.release_sealing-requires-clause-slot_has
release_sealing-requires-clause-slot_has g c =
    still_slot c.args.sealing.now.slot _ _ (λ frame has. c.write_slot.ensures.has frame (c.bring_back-gpn.ensures.has frame has)) c.requires.may.slot_has

pub release_sealing-requires-clause-holds : goal.release_sealing-requires-clause-holds
release_sealing-requires-clause-holds g c =
    still_holds c.args.number (sealing_locks c.args.sealing.now.source c.args.sealing.now.target (slot_by c.args.sealing.now.slot)) _ _ (c.write_slot.ensures.locks ∙ c.bring_back-gpn.ensures.locks) c.requires.may.holds

pub returns-clause-shown : goal.returns-clause-shown
returns-clause-shown g c =
    c.swapped.ensures
    ∙ ap (λ (gpn : ℕ). let s : Shown = record { deed = small_shown c.args.sealing.now.target gpn; outcome = Some (Firmware 0); lock = None } in s)
    (gpn_left (what_by c.args.sealing.now.what) (slot_by c.args.sealing.now.slot) None c.args.sealing.now.target c.bring_back-gpn.result _ _ _ c.bring_back-gpn.ensures.gpn c.write_slot.ensures.pages c.release_sealing.ensures.pages)

pub returns-clause-pages : goal.returns-clause-pages
returns-clause-pages g c =
    c.release_sealing.ensures.pages
    ∙ opens_pages (what_by c.args.sealing.now.what) c.args.sealing.now.target (slot_by c.args.sealing.now.slot) c.args.entry.now c.args.words.now (pages_of (g.P.Parts.stock c.args.parts.now).bays) _ _
    c.bring_back-gpn.ensures.pages c.write_slot.ensures.pages

pub returns-clause-locks : goal.returns-clause-locks
returns-clause-locks g c = c.release_sealing.ensures.locks ∙ ap (relocked c.args.number []) (c.write_slot.ensures.locks ∙ c.bring_back-gpn.ensures.locks)
