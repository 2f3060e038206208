-- the locks so far are released, and all regions are still there
use Rattle.std.proofs.Common.{◌≡◌, drop, map, None}
use Rattle.machine_core.specs.Actors.{page_lock_of}
use Rattle.machine_core.specs.Bays.{HasTouched, holders_of, pages_of}
use Rattle.machine_core.specs.Commands.{frames_touched, let_go_in}
use Rattle.machine_core.proofs.refusal.release_pages.Given as goal

abbrev pub invariant-locks : goal.invariant-locks
invariant-locks g l = record {
  has : HasTouched (frames_touched (record { locks = map page_lock_of l.locks; context_lock = None; computed = None })) (g.P.Parts.stock l.parts);
  pages : pages_of (g.P.Parts.stock l.parts).bays ≡ pages_of (g.P.Parts.stock l.initial.parts).bays;
  contexts : (g.P.Parts.stock l.parts).contexts ≡ (g.P.Parts.stock l.initial.parts).contexts;
  locks : let_go_in l.number (map page_lock_of (drop l.lock-index l.locks)) (holders_of (g.P.Parts.stock l.parts).bays) ≡ let_go_in l.number (map page_lock_of l.locks) (holders_of (g.P.Parts.stock l.initial.parts).bays);
  kept : g.P.Parts.kept l.initial.parts l.parts;
}
