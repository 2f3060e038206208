use Rattle.std.proofs.Common.{◌≡◌, ℕ, List, [], ◌∙◌, refl, subst, arith}
use Rattle.hv_strategy.proofs.RegionLaws.{regions_few}
use Rattle.growing_runs.specs.Drives.{Driven, Places, World, world}
use Rattle.growing_runs.specs.Duels.{duel_rules, first_duel, sight_of}
use Rattle.hv_strategy.specs.declared.dueling.Duelists.{Duelists}
use Rattle.growing_runs.specs.declared.sight.Duel.{Duel}
use Rattle.snp_model.specs.declared.event.Event.{Event}
use Rattle.growing_runs.proofs.SimulateLaws.{driven_as}
use Rattle.hv_strategy.proofs.dueling.duel.Goals as goal

pub drive-requires-clause-suits : goal.drive-requires-clause-suits
drive-requires-clause-suits g c =
    let few = regions_few (g.R.Ring.scenario c.args.ring.now) c.frames-frames.ensures.valid in
    let some = few.0 in
    let frames = c.frames-frames.ensures.frames in
    record {
      frames = frames;
      regions_some = few.0;
      regions_most = few.1;
      frame = omega arith;
      gpn = omega arith;
      host = c.requires.host;
      firmware = c.requires.firmware;
    }

pub returns-clause-duel : goal.returns-clause-duel
returns-clause-duel g c =
    let may = g.A.Acts.may in
    let places : Places = record { place = g.T.Turns.place; later = g.T.Turns.later } in
    let rules = duel_rules (may c.args.strategy.now.acts) in
    let old = g.R.Ring.scenario c.args.ring.now in
    let state = g.T.Turns.state c.args.turns.now in
    let left : World Duel = world (g.R.Ring.scenario c.drive.new.ring) (g.R.Ring.list c.drive.new.ring) c.drive.new.asker.duel (g.T.Turns.state c.drive.new.turns) in
    let drives : Driven rules places (world old (g.R.Ring.list c.args.ring.now) (first_duel c.frames-frames.result c.args.host c.args.firmware c.args.rounds) state) left =
    driven_as _ rules places (λ (d : Duelists g.row.A.Denot). d.strategy ≡ c.args.strategy) (λ (d : Duelists g.row.A.Denot). d.duel)
    (record {
      asks = λ a is. refl;
      gives = λ a actor item b is given. (given.2 ∙ is, (subst (λ s. may s.now.acts (sight_of a.duel actor) item) is given.0, given.1, given.3));
      sees = λ a actor item event b is sees. (sees.0 ∙ is, sees.1);
    }) _ _ refl c.drive.ensures.driven in (
      c.drive.new.asker.duel,
      subst (λ (frames : ℕ). Driven rules places (world old [] (first_duel frames c.args.host c.args.firmware c.args.rounds) state) left) c.frames-frames.ensures.frames
          (subst (λ (list : List (ℕ × Event)). Driven rules places (world old list (first_duel c.frames-frames.result c.args.host c.args.firmware c.args.rounds) state) left) c.requires.none drives),
    )
