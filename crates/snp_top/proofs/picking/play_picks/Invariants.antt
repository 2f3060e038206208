-- the events so far are those that were picked
use Rattle.std.proofs.Common.{◌≡◌, ◌-◌, length}
use Rattle.machine_core.specs.Machine.{state_of}
use Rattle.snp_model.specs.Drill.{unfinished}
use Rattle.snp_top.specs.Drills.{PicksOn}
use Rattle.snp_top.proofs.picking.play_picks.Given as goal

abbrev pub invariant-events : goal.invariant-events
invariant-events l = record {
  picks : PicksOn (state_of l.initial.machine) l.initial.drill l.initial.journal l.journal (state_of l.machine) l.drill;
  left : l.left ≡ length (unfinished (state_of l.machine));
  counted : l.actors ≡ length (state_of l.machine).actors;
}

abbrev pub decreases-events : goal.decreases-events
decreases-events l = l.journal.room - length l.journal.list
