-- The pages that a run has launched into a guest's context, in order, as its events show them. This project's own.
use Rattle.std.specs.Prelude.{ℕ, ◌==◌, if◌then◌else◌, List, [], ◌∷◌, ◌++◌}
use Rattle.snp_model.specs.declared.command.Command.{Command}
use Rattle.snp_model.specs.declared.command.Command.TheVariants as commands
use Rattle.snp_model.specs.declared.event.Deed.{Deed}
use Rattle.snp_model.specs.declared.event.Deed.TheVariants as deeds
use Rattle.snp_model.specs.declared.item.Item.{Item}
use Rattle.snp_model.specs.declared.item.Item.TheVariants as items
use Rattle.snp_model.specs.declared.scenario.Scenario.{Scenario}
use Rattle.snp_model.specs.Measurement.{LaunchedPage}
use Rattle.snp_model.specs.Opening.{opening}
use Rattle.snp_model.specs.State.{Pages, State, part_of}
use Rattle.snp_model.specs.Step.{event_of, after, line_at}

-- a commit of a command that shows a frame with a guest page number, by memory after it: `gctx_create` makes a context without pages, and `launch_update` launches one more
abbrev pub launched_by : ℕ → Pages → ℕ → ℕ → Command → List LaunchedPage → List LaunchedPage
launched_by guest left frame gpn (commands.GctxCreate owner page) launched = if owner == guest then [] else launched
launched_by guest left frame gpn (commands.LaunchUpdate owner page page_type imi perms) launched =
    if owner == guest then launched ++ record { page_type = page_type; imi = imi; perms = perms; gpn = gpn; words = (left frame).words } ∷ [] else launched
launched_by guest left frame gpn command launched = launched

-- an event of a command, by its deed: the commits of both show a frame
abbrev pub launched_at : ℕ → Pages → Deed → Command → List LaunchedPage → List LaunchedPage
launched_at guest left (deeds.Commit frame gpn size) command launched = launched_by guest left frame gpn command launched
launched_at guest left deed command launched = launched

-- an event of an item: commands alone launch
abbrev pub launched_with : ℕ → Pages → Deed → Item → List LaunchedPage → List LaunchedPage
launched_with guest left deed (items.Firmware command) launched = launched_at guest left deed command launched
launched_with guest left deed item launched = launched

-- after the next event of an actor
unfoldable pub launched_after : ℕ → State → ℕ → List LaunchedPage → List LaunchedPage
launched_after guest m actor launched =
    let part = part_of m actor in
    launched_with guest (after m actor).contents.pages (event_of m actor).deed (line_at part.script part.item).item launched

-- after a schedule, from a state and the pages launched there
unfoldable pub launched_from : ℕ → State → List LaunchedPage → List ℕ → List LaunchedPage
launched_from guest m launched [] = launched
launched_from guest m launched (actor ∷ actors) = launched_from guest (after m actor) (launched_after guest m actor launched) actors

-- the pages launched for a guest in a schedule of a scenario
abbrev pub launched_in : Scenario → List ℕ → ℕ → List LaunchedPage
launched_in scenario schedule guest = launched_from guest (opening scenario) [] schedule
