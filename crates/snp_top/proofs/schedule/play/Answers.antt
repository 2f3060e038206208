use Rattle.std.proofs.Common.{◌+◌, ◌++◌, ℕ, List, length, take, drop, replicate, refl, sym, ap, ◌∙◌, subst, arith}
use Rattle.std.proofs.Math.ListN.{get_or}
use Rattle.std.proofs.lemmas.List.{length-append, length-replicate}
use Rattle.machine_core.specs.Machine.{state_of}
use Rattle.snp_model.specs.declared.scenario.Turn.{Turn}
use Rattle.snp_model.specs.Reading.{turns_spell}
use Rattle.snp_top.specs.Schedule.{Plays, PlaysOn}
use Rattle.snp_top.proofs.ScheduleLaws.{opening_under_way, goes_on, entries_few, plays_whole, plays_none, plays_append, spell_more, spell_at, stops_behind, first_bad}
use Rattle.snp_top.proofs.schedule.play.Goals as goal

abbrev no_turn : Turn
no_turn = record { actor = 0; count = 0 }

pub turns-init : goal.turns-init
unfolding turns_spell
turns-init c = record { played = plays_none (state_of c.args.machine.now) c.args.journal.now; entries = refl }

pub take_turn-requires : goal.take_turn-requires
take_turn-requires c =
    goes_on (state_of c.args.machine.now) (state_of c.turns.machine) (turns_spell (take c.turns.turn-index c.args.order.now)) c.args.journal.now c.turns.journal (opening_under_way (state_of c.args.machine.now) c.args.journal.now c.requires) c.turns.invariant.played

pub overflow_add-entry : goal.overflow_add-entry
overflow_add-entry c =
    let order = c.args.order.now in
    let k = c.turns.turn-index in
    let turn = get_or order k no_turn in
    let m = state_of c.args.machine.now in
    let n = state_of c.take_turn.new.machine in
    let front = turns_spell (take k order) in
    let made = replicate turn.count turn.actor in
    let plays = plays_append m (state_of c.turns.machine) n front made c.args.journal.now c.turns.journal c.take_turn.new.journal c.turns.invariant.played c.in-Ok.ensures.played in
    let few = entries_few m (front ++ made) c.args.journal.now c.take_turn.new.journal n c.requires plays in
    let entries = c.turns.invariant.entries in
    omega (arith, length-append front made, length-replicate turn.count turn.actor)

pub overflow_add-result : goal.overflow_add-result
overflow_add-result c =
    let order = c.args.order.now in
    let k = c.turns.turn-index in
    let turn = get_or order k no_turn in
    let m = state_of c.args.machine.now in
    let n = state_of c.take_turn.new.machine in
    let front = turns_spell (take k order) in
    let made = replicate c.in-Err.made turn.actor in
    let plays = plays_append m (state_of c.turns.machine) n front made c.args.journal.now c.turns.journal c.take_turn.new.journal c.turns.invariant.played c.in-Err.ensures.front in
    let few = entries_few m (front ++ made) c.args.journal.now c.take_turn.new.journal n c.requires plays in
    let entries = c.turns.invariant.entries in
    omega (arith, length-append front made, length-replicate c.in-Err.made turn.actor)

pub returns-in-Err-clause-bad : goal.returns-in-Err-clause-bad
returns-in-Err-clause-bad c =
    let order = c.args.order.now in
    let k = c.turns.turn-index in
    let turn = get_or order k no_turn in
    let m = state_of c.args.machine.now in
    let n = state_of c.take_turn.new.machine in
    let front = turns_spell (take k order) in
    let plays = plays_append m (state_of c.turns.machine) n front (replicate c.in-Err.made turn.actor) c.args.journal.now c.turns.journal c.take_turn.new.journal c.turns.invariant.played c.in-Err.ensures.front in
    first_bad m n (turns_spell order) front (turns_spell (drop (k + 1) order)) turn.count c.in-Err.made turn.actor c.turns.entry c.args.journal.now c.take_turn.new.journal (spell_at order k no_turn c.turns-test.true) c.in-Err.ensures.few c.turns.invariant.entries plays c.in-Err.ensures.bad

pub returns-in-Err-clause-stopped : goal.returns-in-Err-clause-stopped
returns-in-Err-clause-stopped c =
    let order = c.args.order.now in
    let k = c.turns.turn-index in
    let turn = get_or order k no_turn in
    let m = state_of c.args.machine.now in
    let n = state_of c.take_turn.new.machine in
    let front = turns_spell (take k order) in
    let made = replicate c.in-Err.made turn.actor in
    let plays = plays_append m (state_of c.turns.machine) n front made c.args.journal.now c.turns.journal c.take_turn.new.journal c.turns.invariant.played c.in-Err.ensures.front in
    let before = stops_behind (turns_spell order) front (turns_spell (drop (k + 1) order)) turn.count c.in-Err.made turn.actor c.turns.entry (spell_at order k no_turn c.turns-test.true) c.in-Err.ensures.few c.turns.invariant.entries in
    subst (λ (s : List ℕ). Plays m s c.take_turn.new.journal n) (sym before) (plays_whole m (front ++ made) c.args.journal.now c.take_turn.new.journal n c.requires plays)

pub turns-preserved : goal.turns-preserved
turns-preserved c =
    let order = c.args.order.now in
    let k = c.turns.turn-index in
    let turn = get_or order k no_turn in
    let m = state_of c.args.machine.now in
    let n = state_of c.take_turn.new.machine in
    let front = turns_spell (take k order) in
    let more = spell_more order k no_turn c.turns-test.true in
    let plays = plays_append m (state_of c.turns.machine) n front (replicate turn.count turn.actor) c.args.journal.now c.turns.journal c.take_turn.new.journal c.turns.invariant.played c.in-Ok.ensures.played in
    record {
      played = subst (λ (l : List ℕ). PlaysOn m l c.args.journal.now c.take_turn.new.journal n) (sym more) plays;
      entries = ap (λ (e : ℕ). e + turn.count) c.turns.invariant.entries ∙ ap (λ (e : ℕ). length front + e) (sym (length-replicate turn.count turn.actor)) ∙ sym (length-append front (replicate turn.count turn.actor)) ∙ ap length (sym more);
    }
