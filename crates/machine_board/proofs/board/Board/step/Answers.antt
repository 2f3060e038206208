use Rattle.std.proofs.Common.{◌≡◌, ◌<◌, length, sym, ap, ◌∙◌, subst, ℕ}
use Rattle.machine_core.specs.Machine.{state_of}
use Rattle.machine_board.specs.Boards.{BoardImage, board_state}
use Rattle.machine_board.proofs.BoardLaws.{board_has_room, board_steps}
use Rattle.snp_model.specs.State.{State, IsUnfinished}
use Rattle.snp_model.specs.Step.{Step, after}
use Rattle.machine_board.proofs.board.Board.step.Goals as goal

pub push-requires : goal.push-requires
push-requires c =
    let inside = c.self.inside in
    let unfinished = subst (λ (b : BoardImage). IsUnfinished (board_state b) c.args.actor) (sym c.self.view_is) c.requires in
    let m = state_of inside.machine in
    let here = subst (λ (k : State). IsUnfinished k c.args.actor) (sym c.self.invariant.machine) unfinished in
    subst (λ (room : ℕ). length inside.journal.list < room) (sym c.self.invariant.room) (board_has_room inside.scenario m inside.journal c.args.actor c.self.invariant here)

pub invariant_of-self : goal.invariant_of-self
invariant_of-self c =
    let inside = c.self.inside in
    let unfinished = subst (λ (b : BoardImage). IsUnfinished (board_state b) c.args.actor) (sym c.self.view_is) c.requires in
    let m = state_of inside.machine in
    let here = subst (λ (k : State). IsUnfinished k c.args.actor) (sym c.self.invariant.machine) unfinished in
    board_steps inside.scenario m (state_of c.step-event.new.self) inside.journal c.push.new.self c.args.actor c.step-event.result c.self.invariant here c.step-event.ensures.event c.step-event.ensures.after c.push.ensures.list c.push.ensures.room

pub returns-clause-step : goal.returns-clause-step
returns-clause-step c =
    let before : state_of c.self.inside.machine ≡ board_state c.args.self.now = c.self.invariant.machine ∙ ap board_state c.self.view_is in
    let made = subst (λ (m : State). Step m c.args.actor (state_of c.step-event.new.self) c.step-event.result) before c.step-event.ensures.step in
    subst (λ (m : State). Step (board_state c.args.self.now) c.args.actor m c.step-event.result) (invariant_of-self c).machine made

pub returns-clause-after : goal.returns-clause-after
returns-clause-after c =
    let before : state_of c.self.inside.machine ≡ board_state c.args.self.now = c.self.invariant.machine ∙ ap board_state c.self.view_is in
    sym (invariant_of-self c).machine ∙ c.step-event.ensures.after ∙ ap (λ (m : State). after m c.args.actor) before
