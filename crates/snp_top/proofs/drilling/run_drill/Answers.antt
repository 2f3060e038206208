use Rattle.std.proofs.Common.{◌≡◌, length, vec_capacity, refl, sym, ap, ◌∙◌, arith}
use Rattle.machine_core.specs.Machine.{state_of}
use Rattle.snp_model.proofs.SoundLaws.{valid_is_sound}
use Rattle.snp_top.proofs.DrillLaws.{actors_built, drawn_is_valid, drill_played, drill_short, guests_kept}
use Rattle.snp_top.proofs.ReplayLaws.{just_built}
use Rattle.snp_top.proofs.drilling.run_drill.Goals as goal

pub build-requires : goal.build-requires
build-requires c = drawn_is_valid c.args.number c.in_ok-scenario.scenario c.from_number-drill.result c.scenario.new.self c.from_number-drill.ensures c.in_ok-scenario.ensures.drawn

pub empty_journal-requires : goal.empty_journal-requires
empty_journal-requires c = drawn_is_valid c.args.number c.in_ok-scenario.scenario c.from_number-drill.result c.scenario.new.self c.from_number-drill.ensures c.in_ok-scenario.ensures.drawn

pub overflow_cast-actors : goal.overflow_cast-actors
overflow_cast-actors c =
    let valid = drawn_is_valid c.args.number c.in_ok-scenario.scenario c.from_number-drill.result c.scenario.new.self c.from_number-drill.ensures c.in_ok-scenario.ensures.drawn in
    let most = (valid_is_sound c.in_ok-scenario.scenario valid).actors_most in
    let lengths : length c.as_slice.result.now ≡ length c.in_ok-scenario.scenario.actors = ap length c.as_slice.ensures in
    omega arith

pub play_picks-requires-clause-opening : goal.play_picks-requires-clause-opening
play_picks-requires-clause-opening c =
    just_built c.in_ok-scenario.scenario (state_of c.in_ok-machine.machine) c.in_ok-journal.journal (drawn_is_valid c.args.number c.in_ok-scenario.scenario c.from_number-drill.result c.scenario.new.self c.from_number-drill.ensures c.in_ok-scenario.ensures.drawn) c.in_ok-machine.ensures c.in_ok-journal.ensures

pub play_picks-requires-clause-counted : goal.play_picks-requires-clause-counted
play_picks-requires-clause-counted c = ap length c.as_slice.ensures ∙ sym (actors_built c.in_ok-scenario.scenario (state_of c.in_ok-machine.machine) c.in_ok-machine.ensures)

pub take_guests-requires-clause-room : goal.take_guests-requires-clause-room
take_guests-requires-clause-room c =
    let m = state_of c.in_ok-machine.machine in
    let n = state_of c.play_picks.new.machine in
    let same : length n.guests ≡ length m.guests = guests_kept m n c.scenario.new.self c.play_picks.new.journal c.play_picks.ensures in
    let counted = c.guests.ensures in
    let exact : vec_capacity c.in_ok-guests.guests ≡ c.guests.result = c.in_ok-guests.ensures.exact in
    omega arith

pub returns-clause-drilled : goal.returns-clause-drilled
returns-clause-drilled c =
    drill_played c.args.number c.in_ok-scenario.scenario c.from_number-drill.result c.scenario.new.self (state_of c.in_ok-machine.machine) (state_of c.play_picks.new.machine) c.play_picks.new.journal _
    c.from_number-drill.ensures c.in_ok-scenario.ensures.drawn c.in_ok-machine.ensures c.play_picks.ensures refl refl c.take_guests.ensures

pub returns-clause-version : goal.returns-clause-version
returns-clause-version c =
    let valid = drawn_is_valid c.args.number c.in_ok-scenario.scenario c.from_number-drill.result c.scenario.new.self c.from_number-drill.ensures c.in_ok-scenario.ensures.drawn in
    let sound = valid_is_sound c.in_ok-scenario.scenario valid in
    (sound.version_some, sound.version_most)

pub returns-clause-short : goal.returns-clause-short
returns-clause-short c =
    drill_short c.in_ok-scenario.scenario (state_of c.in_ok-machine.machine) (state_of c.play_picks.new.machine) c.scenario.new.self c.play_picks.new.journal (drawn_is_valid c.args.number c.in_ok-scenario.scenario c.from_number-drill.result c.scenario.new.self c.from_number-drill.ensures c.in_ok-scenario.ensures.drawn) c.in_ok-machine.ensures c.play_picks.ensures
