-- the events so far are played
use Rattle.std.proofs.Common.{replicate}
use Rattle.machine_core.specs.Machine.{state_of}
use Rattle.snp_top.specs.Schedule.{PlaysOn}
use Rattle.snp_top.proofs.schedule.take_turn.Given as goal

abbrev pub invariant-events : goal.invariant-events
invariant-events l = PlaysOn (state_of l.initial.machine) (replicate l.made l.turn.actor) l.initial.journal l.journal (state_of l.machine)
