use Rattle.std.proofs.Common.{◌≡◌, ℕ, ◌*◌, length, ap, sym, ◌∙◌, subst}
use Rattle.snp_model.specs.State.{IsUnfinished}
use Rattle.snp_model.specs.Step.{event_of, after}
use Rattle.machine_core.specs.Machine.{MachineImage, state_of}
use Rattle.machine_core.proofs.MachineLaws.{after_made, event_made, has_read, machine_made, made, owns_context_read, owns_read, ready_read, tested_read}
use Rattle.machine_core.proofs.machine.Machine.step.Goals as goal

pub advance-requires-clause-has : goal.advance-requires-clause-has
advance-requires-clause-has c =
    let inside = c.self.inside in
    let bays = inside.parts.bays in
    let frames : 512 * c.len.result ≡ 512 * length bays.items = ap (λ (n : ℕ). 512 * n) (c.len.ensures ∙ bays.ok.0) in
    let unfinished = subst (λ (m : MachineImage). IsUnfinished (state_of m) c.args.actor) (sym c.self.view_is) c.requires in
    has_read bays.items inside.parts.contexts.items inside.guests c.as_slice.result.now inside.actors.items c.args.actor (512 * c.len.result) c.index_mut-state.result.now frames c.as_slice.ensures c.index_mut-state.ensures.value unfinished c.self.invariant

pub advance-requires-clause-ready : goal.advance-requires-clause-ready
advance-requires-clause-ready c =
    let inside = c.self.inside in
    let bays = inside.parts.bays in
    let frames : 512 * c.len.result ≡ 512 * length bays.items = ap (λ (n : ℕ). 512 * n) (c.len.ensures ∙ bays.ok.0) in
    let unfinished = subst (λ (m : MachineImage). IsUnfinished (state_of m) c.args.actor) (sym c.self.view_is) c.requires in
    ready_read bays.items inside.parts.contexts.items inside.guests c.as_slice.result.now inside.actors.items c.args.actor (512 * c.len.result) c.index_mut-state.result.now frames c.as_slice.ensures c.index_mut-state.ensures.value unfinished c.self.invariant

pub advance-requires-clause-owns : goal.advance-requires-clause-owns
advance-requires-clause-owns c =
    let inside = c.self.inside in
    let unfinished = subst (λ (m : MachineImage). IsUnfinished (state_of m) c.args.actor) (sym c.self.view_is) c.requires in
    owns_read inside.parts.bays.items inside.parts.contexts.items inside.guests inside.actors.items c.args.actor c.index_mut-state.result.now c.index_mut-state.ensures.value unfinished c.self.invariant

pub advance-requires-clause-owns_context : goal.advance-requires-clause-owns_context
advance-requires-clause-owns_context c =
    let inside = c.self.inside in
    let unfinished = subst (λ (m : MachineImage). IsUnfinished (state_of m) c.args.actor) (sym c.self.view_is) c.requires in
    owns_context_read inside.parts.bays.items inside.parts.contexts.items inside.guests inside.actors.items c.args.actor c.index_mut-state.result.now c.index_mut-state.ensures.value unfinished c.self.invariant

pub advance-requires-clause-tested : goal.advance-requires-clause-tested
advance-requires-clause-tested c =
    let inside = c.self.inside in
    let bays = inside.parts.bays in
    let frames : 512 * c.len.result ≡ 512 * length bays.items = ap (λ (n : ℕ). 512 * n) (c.len.ensures ∙ bays.ok.0) in
    let unfinished = subst (λ (m : MachineImage). IsUnfinished (state_of m) c.args.actor) (sym c.self.view_is) c.requires in
    tested_read bays.items inside.parts.contexts.items inside.guests c.as_slice.result.now inside.actors.items c.args.actor (512 * c.len.result) c.index_mut-state.result.now frames c.as_slice.ensures c.index_mut-state.ensures.value unfinished c.self.invariant

pub invariant_of-self : goal.invariant_of-self
invariant_of-self c =
    let inside = c.self.inside in
    let bays = inside.parts.bays in
    let frames : 512 * c.len.result ≡ 512 * length bays.items = ap (λ (n : ℕ). 512 * n) (c.len.ensures ∙ bays.ok.0) in
    let unfinished = subst (λ (m : MachineImage). IsUnfinished (state_of m) c.args.actor) (sym c.self.view_is) c.requires in
    let step = made bays.items c.advance.new.parts.bays.items inside.parts.contexts.items c.advance.new.parts.contexts.items inside.guests c.as_slice.result.now inside.actors.items c.args.actor (512 * c.len.result) c.index_mut-state.result.now c.advance.new.actor c.advance.result frames c.as_slice.ensures unfinished c.index_mut-state.ensures.value c.advance.ensures.event c.advance.ensures.part c.advance.ensures.contents c.advance.ensures.locks c.advance.ensures.context_locks c.advance.ensures.kept.bays c.advance.ensures.kept.contexts in
    machine_made bays.items c.advance.new.parts.bays.items inside.parts.contexts.items c.advance.new.parts.contexts.items inside.guests inside.actors.items c.args.actor c.index_mut-state.result.now c.advance.new.actor c.advance.result step unfinished c.self.invariant

pub returns-clause-event : goal.returns-clause-event
returns-clause-event c =
    let inside = c.self.inside in
    let bays = inside.parts.bays in
    let frames : 512 * c.len.result ≡ 512 * length bays.items = ap (λ (n : ℕ). 512 * n) (c.len.ensures ∙ bays.ok.0) in
    let unfinished = subst (λ (m : MachineImage). IsUnfinished (state_of m) c.args.actor) (sym c.self.view_is) c.requires in
    let step = made bays.items c.advance.new.parts.bays.items inside.parts.contexts.items c.advance.new.parts.contexts.items inside.guests c.as_slice.result.now inside.actors.items c.args.actor (512 * c.len.result) c.index_mut-state.result.now c.advance.new.actor c.advance.result frames c.as_slice.ensures unfinished c.index_mut-state.ensures.value c.advance.ensures.event c.advance.ensures.part c.advance.ensures.contents c.advance.ensures.locks c.advance.ensures.context_locks c.advance.ensures.kept.bays c.advance.ensures.kept.contexts in
    event_made bays.items c.advance.new.parts.bays.items inside.parts.contexts.items c.advance.new.parts.contexts.items inside.guests inside.actors.items c.args.actor c.index_mut-state.result.now c.advance.new.actor c.advance.result step c.self.invariant
    ∙ ap (λ (m : MachineImage). event_of (state_of m) c.args.actor) c.self.view_is

pub returns-clause-after : goal.returns-clause-after
returns-clause-after c =
    let inside = c.self.inside in
    let bays = inside.parts.bays in
    let frames : 512 * c.len.result ≡ 512 * length bays.items = ap (λ (n : ℕ). 512 * n) (c.len.ensures ∙ bays.ok.0) in
    let unfinished = subst (λ (m : MachineImage). IsUnfinished (state_of m) c.args.actor) (sym c.self.view_is) c.requires in
    let step = made bays.items c.advance.new.parts.bays.items inside.parts.contexts.items c.advance.new.parts.contexts.items inside.guests c.as_slice.result.now inside.actors.items c.args.actor (512 * c.len.result) c.index_mut-state.result.now c.advance.new.actor c.advance.result frames c.as_slice.ensures unfinished c.index_mut-state.ensures.value c.advance.ensures.event c.advance.ensures.part c.advance.ensures.contents c.advance.ensures.locks c.advance.ensures.context_locks c.advance.ensures.kept.bays c.advance.ensures.kept.contexts in
    after_made bays.items c.advance.new.parts.bays.items inside.parts.contexts.items c.advance.new.parts.contexts.items inside.guests inside.actors.items c.args.actor c.index_mut-state.result.now c.advance.new.actor c.advance.result step c.self.invariant
    ∙ ap (λ (m : MachineImage). after (state_of m) c.args.actor) c.self.view_is

pub returns-clause-step : goal.returns-clause-step
returns-clause-step c = record { unfinished = c.requires; becomes = returns-clause-after c; makes = returns-clause-event c }
