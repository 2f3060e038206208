use Rattle.std.proofs.Common.{◌≡◌, sym, ap, ◌∙◌, arith}
use Rattle.std.proofs.lemmas.Grind.{common_steps}
use Rattle.snp_model.specs.Moves.{need_move}
use Rattle.snp_model.specs.Walking.{walk_need, need_after}
use Rattle.machine_core.specs.Bays.{view_on}
use Rattle.machine_core.specs.Moves.{processor_of}
use Rattle.machine_core.proofs.ArrivedLaws.{not_arrived}
use Rattle.machine_core.proofs.CpuLaws.{walk_begins, walk_begun, table_shows}
use Rattle.machine_core.proofs.WalkingLaws.{is_reading}
use Rattle.machine_core.proofs.TouchLaws.{begin_has, data_has, need_has, nested_has, table_has}
use Rattle.machine_core.proofs.cpu.walk.Goals as goal

pub read_nested-requires-clause-has : goal.read_nested-requires-clause-has
read_nested-requires-clause-has g c =
    let walker = c.args.walker.now in
    let stock = g.P.Parts.stock c.args.parts.now in
    let need : c.walk_need.result ≡ need_after c.args.frames (processor_of walker.cpu) walker.lookup c.args.actor.now.deeds =
    c.walk_need.ensures.need
    ∙ (λ i. walk_need c.args.frames walker.cpu.npt walker.lookup (c.requires.stands (λ none. grind (arith, common_steps)) i) (c.nested_words.ensures i)) in
    nested_has c.in-Nested.frame c.in-Nested.index _ stock (sym need ∙ c.in-Nested.is)
    (need_has c.args.frames (processor_of walker.cpu) walker.lookup c.args.actor.now.deeds stock (λ none. grind (arith, common_steps)) c.requires.has)

pub read_table-requires-clause-has : goal.read_table-requires-clause-has
read_table-requires-clause-has g c =
    let walker = c.args.walker.now in
    let stock = g.P.Parts.stock c.args.parts.now in
    let need : c.walk_need.result ≡ need_after c.args.frames (processor_of walker.cpu) walker.lookup c.args.actor.now.deeds =
    c.walk_need.ensures.need
    ∙ (λ i. walk_need c.args.frames walker.cpu.npt walker.lookup (c.requires.stands (λ none. grind (arith, common_steps)) i) (c.nested_words.ensures i)) in
    table_has c.in-Table.gpn c.in-Table.index c.in-Table.frame c.in-Table.size _ stock (sym need ∙ c.in-Table.is)
    (need_has c.args.frames (processor_of walker.cpu) walker.lookup c.args.actor.now.deeds stock (λ none. grind (arith, common_steps)) c.requires.has)

pub returns-in-Data-clause-page : goal.returns-in-Data-clause-page
returns-in-Data-clause-page g c =
    let walker = c.args.walker.now in
    let stock = g.P.Parts.stock c.args.parts.now in
    let need : c.walk_need.result ≡ need_after c.args.frames (processor_of walker.cpu) walker.lookup c.args.actor.now.deeds =
    c.walk_need.ensures.need
    ∙ (λ i. walk_need c.args.frames walker.cpu.npt walker.lookup (c.requires.stands (λ none. grind (arith, common_steps)) i) (c.nested_words.ensures i)) in (
      grind (arith, common_steps),
      data_has c.in-Data.gpn c.in-Data.private c.in-Data.frame c.in-Data.size _ stock (sym need ∙ c.in-Data.is)
          (need_has c.args.frames (processor_of walker.cpu) walker.lookup c.args.actor.now.deeds stock (λ none. grind (arith, common_steps)) c.requires.has),
    )

pub returns-then-is_empty-clause-moves : goal.returns-then-is_empty-clause-moves
returns-then-is_empty-clause-moves g c =
    λ arrives.
    let walker = c.args.walker.now in
    let view = view_on (g.P.Parts.stock c.args.parts.now) c.args.guests.now in
    walk_begins c.args.frames c.args.guests.now view c.args.actor.now (processor_of walker.cpu) walker.lookup c.args.refusal arrives c.args.actor.now.deeds (grind (arith, common_steps))
    ∙ c.begin.ensures.moves view c.args.actor.now c.args.guests.now

pub returns-in-Table-clause-moves : goal.returns-in-Table-clause-moves
returns-in-Table-clause-moves g c =
    λ arrives.
    let walker = c.args.walker.now in
    let view = view_on (g.P.Parts.stock c.args.parts.now) c.args.guests.now in
    let need : c.walk_need.result ≡ need_after c.args.frames (processor_of walker.cpu) walker.lookup c.args.actor.now.deeds =
    c.walk_need.ensures.need
    ∙ (λ i. walk_need c.args.frames walker.cpu.npt walker.lookup (c.requires.stands (λ none. grind (arith, common_steps)) i) (c.nested_words.ensures i)) in
    walk_begun c.args.frames c.args.guests.now view c.args.actor.now (processor_of walker.cpu) walker.lookup c.args.refusal arrives c.args.actor.now.deeds c.walk_need.result (λ none. grind (arith, common_steps)) need
    ∙ ap (need_move c.args.frames c.args.guests.now view.contents c.args.actor.now (processor_of walker.cpu) walker.lookup arrives) c.in-Table.is
    ∙ table_shows c.args.frames c.args.guests.now view c.args.actor.now (processor_of walker.cpu) walker.lookup arrives c.in-Table.gpn c.in-Table.index c.in-Table.frame c.in-Table.size
    c.table_place-place.result c.read_table.new.shown c.table_place-place.ensures.place (c.read_table.ensures.shown c.args.frames)

pub read_nested-requires-clause-reads : goal.read_nested-requires-clause-reads
read_nested-requires-clause-reads g c =
    let walker = c.args.walker.now in
    is_reading c.in-Nested.frame c.in-Nested.index c.walk_need.result _ c.in-Nested.is
    (c.walk_need.ensures.need ∙ ap (walk_need c.args.frames walker.cpu.npt walker.lookup c.args.stands) c.nested_words.ensures)

pub returns-then-is_empty-clause-arrived : goal.returns-then-is_empty-clause-arrived
returns-then-is_empty-clause-arrived g c =
    let walker = c.args.walker.now in
    not_arrived c.args.frames (processor_of walker.cpu) walker.lookup c.args.actor.now.deeds (grind (arith, common_steps))

pub begin-requires : goal.begin-requires
begin-requires g c =
    let walker = c.args.walker.now in
    begin_has c.args.frames (processor_of walker.cpu) walker.lookup c.args.actor.now.deeds (g.P.Parts.stock c.args.parts.now) (grind (arith, common_steps)) c.requires.has
