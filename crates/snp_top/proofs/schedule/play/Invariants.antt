-- the turns so far are played
use Rattle.std.proofs.Common.{◌≡◌, take, length}
use Rattle.machine_core.specs.Machine.{state_of}
use Rattle.snp_model.specs.Reading.{turns_spell}
use Rattle.snp_top.specs.Schedule.{PlaysOn}
use Rattle.snp_top.proofs.schedule.play.Given as goal

abbrev pub invariant-turns : goal.invariant-turns
invariant-turns l = record {
  played : PlaysOn (state_of l.initial.machine) (turns_spell (take l.turn-index l.order)) l.initial.journal l.journal (state_of l.machine);
  entries : l.entry ≡ length (turns_spell (take l.turn-index l.order));
}
