use Rattle.std.proofs.Common.{◌≡◌, ℕ, List, length, vec_capacity, refl, ap, ◌∙◌, subst, arith}
use Rattle.machine_core.specs.Machine.{state_of}
use Rattle.snp_model.specs.Ending.{lines_of}
use Rattle.snp_model.specs.Opening.{opening}
use Rattle.snp_model.specs.Reading.{turns_spell, order_of}
use Rattle.snp_model.specs.Run.{IsDefinedFrom, run_from, state_from}
use Rattle.snp_model.specs.State.{State}
use Rattle.snp_model.proofs.SoundLaws.{valid_is_sound}
use Rattle.snp_top.specs.Schedule.{IsFirstBad, Plays}
use Rattle.snp_top.proofs.ReplayLaws.{state_guests, just_built, run_short}
use Rattle.snp_top.proofs.replay.run.Goals as goal

pub play-requires : goal.play-requires
play-requires c = just_built c.args.scenario.now (state_of c.in_ok-machine.machine) c.in_ok-journal.journal c.requires c.in_ok-machine.ensures c.in_ok-journal.ensures

pub take_guests-requires-clause-room : goal.take_guests-requires-clause-room
take_guests-requires-clause-room c =
    let m = state_of c.in_ok-machine.machine in
    let n = state_of c.play.new.machine in
    let plays : Plays m (turns_spell c.as_slice.result.now) c.play.new.journal n = c.in-Ok.ensures.played in
    let same : n.guests ≡ m.guests = ap (λ (k : State). k.guests) plays.state ∙ state_guests m (turns_spell c.as_slice.result.now) in
    let lengths : length n.guests ≡ length m.guests = ap length same in
    let counted = c.guests.ensures in
    let exact : vec_capacity c.in_ok-guests.guests ≡ c.guests.result = c.in_ok-guests.ensures.exact in
    omega arith

pub returns-in-Ok-clause-answer : goal.returns-in-Ok-clause-answer
unfolding order_of
returns-in-Ok-clause-answer c =
    let scenario = c.args.scenario.now in
    let m = state_of c.in_ok-machine.machine in
    let n = state_of c.play.new.machine in
    let plays : Plays m (turns_spell c.as_slice.result.now) c.play.new.journal n = c.in-Ok.ensures.played in
    let opens : m ≡ opening scenario = c.in_ok-machine.ensures in
    let order : turns_spell c.as_slice.result.now ≡ turns_spell scenario.order = ap turns_spell c.as_slice.ensures in
    record {
      defined = subst (λ (k : State). IsDefinedFrom k (turns_spell scenario.order)) opens (subst (λ (s : List ℕ). IsDefinedFrom m s) order plays.defined);
      version = refl;
      events = plays.events ∙ (λ i. run_from (opens i) (order i));
      guests = c.take_guests.ensures ∙ ap lines_of (plays.state ∙ (λ i. state_from (opens i) (order i)));
    }

pub returns-in-Ok-clause-short : goal.returns-in-Ok-clause-short
returns-in-Ok-clause-short c =
    run_short c.args.scenario.now (state_of c.in_ok-machine.machine) c.as_slice.result.now c.play.new.journal (state_of c.play.new.machine) c.requires c.in_ok-machine.ensures c.as_slice.ensures c.in-Ok.ensures.played

pub returns-clause-answer : goal.returns-clause-answer
unfolding order_of
returns-clause-answer c =
    let scenario = c.args.scenario.now in
    let m = state_of c.in_ok-machine.machine in
    let opens : m ≡ opening scenario = c.in_ok-machine.ensures in
    let order : turns_spell c.as_slice.result.now ≡ turns_spell scenario.order = ap turns_spell c.as_slice.ensures in
    subst (λ (k : State). IsFirstBad k (turns_spell scenario.order) c.in-Err.turn.entry c.in-Err.turn.actor) opens (subst (λ (s : List ℕ). IsFirstBad m s c.in-Err.turn.entry c.in-Err.turn.actor) order c.in-Err.ensures.bad)

pub returns-in-Ok-clause-version : goal.returns-in-Ok-clause-version
returns-in-Ok-clause-version c =
    let sound = valid_is_sound c.args.scenario.now c.requires in
    (sound.version_some, sound.version_most)
