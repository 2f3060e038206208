-- The second premise by what was sealed before each event, and by all that is ever sealed: what is opened has an archive at that event, and what a counter has archived stays.
use Rattle.std.proofs.Common.{◌≡◌, ℕ, ◌-◌, ◌<◌, ◌≤◌, List, [], ◌∷◌, ◌++◌, length, Option, Some, None, Result, Ok, Err, refl, sym, ap, ◌∙◌, subst}
use Rattle.std.proofs.lemmas.Option.{none-some}
use Rattle.snp_model.specs.declared.command.Command.{Command}
use Rattle.snp_model.specs.declared.event.Deed.{Deed}
use Rattle.snp_model.specs.declared.event.Deed.TheVariants as deeds
use Rattle.snp_model.specs.declared.event.FwRefusal.{FwRefusal}
use Rattle.snp_model.specs.declared.event.Outcome.{Outcome}
use Rattle.snp_model.specs.declared.firmware.MetaEntry.{MetaEntry}
use Rattle.snp_model.specs.declared.item.Item.{Item}
use Rattle.snp_model.specs.declared.item.Item.TheVariants as items
use Rattle.snp_model.specs.declared.scenario.GuestSpec.{GuestSpec}
use Rattle.snp_model.specs.declared.scenario.Role.{Role}
use Rattle.snp_model.specs.declared.scenario.Role.TheVariants.{Cpu, Host, Firmware}
use Rattle.snp_model.specs.declared.scenario.Scenario.{Scenario}
use Rattle.snp_model.specs.Firmware.{guest_of}
use Rattle.snp_model.specs.FirmwareStep.{command_asid, context_taken, computed_move, commit_move}
use Rattle.snp_model.specs.GuestMemory.{Memory, memory_from, next_use, used, opening_memory}
use Rattle.snp_model.specs.Live.{Archived, Archive}
use Rattle.snp_model.specs.Locks.{view_of}
use Rattle.snp_model.specs.Moves.{Move, lock_move}
use Rattle.snp_model.specs.Opening.{asid_of, opening}
use Rattle.snp_model.specs.Past.{Past, empty_past, past_after, past_from, sealing_in}
use Rattle.snp_model.specs.Premises.{IsCipherOf, IsDisciplined, IsDisciplinedFrom, IsOpenedWith, IsOwnCipher, NoChance, NoChanceFrom, NoChanceStep, NoChanceTag}
use Rattle.snp_model.specs.Run.{IsDefined, IsDefinedFrom, state_from}
use Rattle.snp_model.specs.Sealing.{Sealing, SealOut, SealIn, sealing_of, slot_entry, compute_of}
use Rattle.snp_model.specs.Sound.{IsSound}
use Rattle.snp_model.specs.State.{PageLock, Contents, Computed, Standing, ActorPart, View, State, IsUnfinished, part_of}
use Rattle.snp_model.specs.Step.{after, event_of, item_move, line_at}
use Rattle.run_laws.specs.HeldLocks.{AreCommandLocks, AreItemLocks}
use Rattle.run_laws.specs.Operands.{AreCommandOperands, AreOperands}
use Rattle.run_laws.proofs.CommandStages.{all_locked, by_stage}
use Rattle.run_laws.proofs.CommandTests.{IsReady}
use Rattle.run_laws.proofs.DisciplineLaws.{next_lacks}
use Rattle.run_laws.proofs.MadeComputed.{OwnerHas, owner_has}
use Rattle.run_laws.proofs.MadeKept.{guestless, tests_of}
use Rattle.run_laws.proofs.MadeSteps.{each_made, entry_below}
use Rattle.run_laws.proofs.RunLaws.{after_guests}
use Rattle.run_laws.proofs.SealInCommit.{taken_live}
use Rattle.run_laws.proofs.SealedRuns.{Holding, IsLackingFrom, run_holding}
use Rattle.run_laws.proofs.SealedSteps.{each_order, next_done}
use Rattle.run_laws.proofs.SealingCommits.{BeforeCommit}
use Rattle.run_laws.proofs.SealingPages.{spot_of}
use Rattle.run_laws.proofs.SealingTests.{InTests, SealingTests}
use Rattle.run_laws.proofs.ShapedLaws.{shaped_commit}
use Rattle.run_theorems.specs.WholeArchives.{NoChanceIn, NoChanceTagInAll}
use Rattle.run_theorems.proofs.ArchiveLaws.{Seals, run_seals, opening_seals}

-- what an archive has, a later one has
abbrev Stays : Archive → Archive → Type 0
Stays archive later = (counter : ℕ) (sealed : Archived) → archive counter ≡ Some sealed → later counter ≡ Some sealed

cipher_more : (kept other : Option Archived) (words : List ℕ) → ((sealed : Archived) → kept ≡ Some sealed → other ≡ Some sealed) → IsCipherOf kept words → IsCipherOf other words
cipher_more None other words stays is = absurd is
cipher_more (Some sealed) other words stays is = subst (λ (o : Option Archived). IsCipherOf o words) (sym (stays sealed refl)) is

opened_more : (archive later : Archive) (found : Option MetaEntry) (words : List ℕ) → Stays archive later → IsOpenedWith archive found words → IsOpenedWith later found words
opened_more archive later None words stays is = tt
opened_more archive later (Some entry) words stays is = cipher_more (archive entry.iv) (later entry.iv) words (stays entry.iv) is

own_more : (g : ℕ) (contents : Contents) (past later : Past) (sealing : Option Sealing) → Stays (past.archive g) (later.archive g) → IsOwnCipher g contents past sealing → IsOwnCipher g contents later sealing
unfolding IsOwnCipher
own_more g contents past later None stays is = tt
own_more g contents past later (Some (SealOut what owner source target slot)) stays is = tt
own_more g contents past later (Some (SealIn what owner source target slot)) stays is =
    λ same. opened_more (past.archive g) (later.archive g) (slot_entry contents.pages (contents.contexts owner) slot) (contents.pages source).words stays (is same)

chance_more : (g : ℕ) (contents : Contents) (past later : Past) (deed : Deed) (outcome : Option Outcome) (item : Item) → Stays (past.archive g) (later.archive g)
    → NoChance g contents past deed outcome item → NoChance g contents later deed outcome item
unfolding NoChance
chance_more g contents past later deeds.Compute None item stays is = own_more g contents past later (sealing_in item) stays is
chance_more g contents past later deed outcome item stays is = tt

step_more : (g : ℕ) (m : State) (actor : ℕ) (past later : Past) → Stays (past.archive g) (later.archive g) → NoChanceStep g m actor past → NoChanceStep g m actor later
unfolding NoChanceStep
step_more g m actor past later stays is = chance_more g m.contents past later _ _ _ stays is

-- after one event
next_seals : (m : State) (past : Past) (actor : ℕ) → IsUnfinished m actor → Seals m past → Seals (after m actor) (past_after m actor past)
unfolding state_from past_from IsDefinedFrom
next_seals m past actor unfinished seals = (run_seals m past (actor ∷ []) (unfinished, tt) seals).seals

in_all_from : (g : ℕ) (m : State) (past : Past) (s later : List ℕ) → IsDefinedFrom m (s ++ later) → Seals m past → NoChanceFrom g m past s → NoChanceIn g m (past_from m past (s ++ later)) s
unfolding NoChanceFrom NoChanceIn past_from IsDefinedFrom
in_all_from g m past [] later defined seals chance = tt
in_all_from g m past (actor ∷ s) later defined seals chance = (
  step_more g m actor past (past_from m past (actor ∷ (s ++ later))) ((run_seals m past (actor ∷ (s ++ later)) defined seals).stays g) chance.0,
  in_all_from g (after m actor) (past_after m actor past) s later defined.1 (next_seals m past actor defined.0 seals) chance.1,
)

pub run_in_all : (c : Scenario) (s later : List ℕ) (g : ℕ) → IsSound c → IsDefined c (s ++ later) → NoChanceTag c s g → NoChanceTagInAll c s later g
run_in_all c s later g sound defined chance = in_all_from g (opening c) empty_past s later defined (opening_seals c sound) chance

-- The other way: what is opened had its archive

words_back : (kept other : Option Archived) (words : List ℕ) (sealed : Archived) → kept ≡ Some sealed → other ≡ Some sealed → IsCipherOf other words → IsCipherOf kept words
words_back kept other words sealed is later found = subst (λ (o : Option Archived). IsCipherOf o words) (later ∙ sym is) found

opened_back : (archive later : Archive) (found : Option MetaEntry) (words : List ℕ) → Stays archive later → ((entry : MetaEntry) → found ≡ Some entry → (sealed : Archived) × (archive entry.iv ≡ Some sealed))
    → IsOpenedWith later found words → IsOpenedWith archive found words
opened_back archive later None words stays has is = tt
opened_back archive later (Some entry) words stays has is =
    let one = has entry refl in
    words_back (archive entry.iv) (later entry.iv) words one.0 one.1 (stays entry.iv one.0 one.1) is

own_back : (guests : List GuestSpec) (g : ℕ) (contents : Contents) (past later : Past) (memory : Memory) (asid : ℕ) (sealing : Option Sealing)
    → BeforeCommit guests g contents (past.archive g) memory → SealingTests asid contents.pages sealing → OwnerHas guests asid sealing → Stays (past.archive g) (later.archive g)
    → IsOwnCipher g contents later sealing → IsOwnCipher g contents past sealing
unfolding IsOwnCipher
own_back guests g contents past later memory asid None before tests owns stays is = tt
own_back guests g contents past later memory asid (Some (SealOut what owner source target slot)) before tests owns stays is = tt
own_back guests g contents past later memory asid (Some (SealIn what owner source target slot)) before tests owns stays is =
    λ same.
    opened_back (past.archive g) (later.archive g) (slot_entry contents.pages (contents.contexts owner) slot) (contents.pages source).words stays
    (λ entry in_use.
    let at_own : slot_entry contents.pages (contents.contexts g) slot ≡ Some entry = ap (λ (h : ℕ). slot_entry contents.pages (contents.contexts h) slot) same ∙ in_use in
    let own_tests : InTests (asid_of guests g) contents.pages what source target slot =
    subst (λ (n : ℕ). InTests n contents.pages what source target slot) (owns ∙ ap (λ (h : ℕ). asid_of guests h) (sym same)) tests in
    let has = before.ties.seals.sealed (spot_of slot) entry (taken_live (asid_of guests g) g contents (past.archive g) what source target slot entry before.ties.seals own_tests at_own).0 in
    (has.archived, has.kept))
    (is same)

-- an attempt that has taken all has locked its command's context, if it has one
context_is : (frames : ℕ) (guests : List GuestSpec) (contents : Contents) (command : Command) (standing : Standing) (locked owner : Option ℕ) → IsReady frames guests contents command standing
    → standing.context_lock ≡ locked → guest_of command ≡ owner → standing.context_lock ≡ guest_of command
context_is frames guests contents command standing (Some own) owner ready locked_is owner_is = locked_is ∙ sym (ready.tested.context own locked_is).guest_is
context_is frames guests contents command standing None (Some guest) ready locked_is owner_is = absurd (none-some guest (sym locked_is ∙ ready.held guest owner_is))
context_is frames guests contents command standing None None ready locked_is owner_is = locked_is ∙ sym owner_is

-- what a move of an item has to show
abbrev GoesBack : ℕ → Contents → Past → Past → Item → Move → Type 0
GoesBack g contents past later item move = NoChance g contents later move.deed move.outcome item → NoChance g contents past move.deed move.outcome item

-- an event that ends its attempt opens nothing that is kept
ended_chance : (g : ℕ) (contents : Contents) (past : Past) (deed : Deed) (outcome : Outcome) (item : Item) → NoChance g contents past deed (Some outcome) item
unfolding NoChance
ended_chance g contents past deeds.Compute outcome item = tt
ended_chance g contents past deed outcome item = tt

taken_back : (g : ℕ) (contents : Contents) (past later : Past) (part : ActorPart) (item : Item) (owner : ℕ) (refusal : Option FwRefusal) → GoesBack g contents past later item (context_taken contents part owner refusal)
unfolding context_taken NoChance
taken_back g contents past later part item owner None = λ is. tt
taken_back g contents past later part item owner (Some refusal) = λ is. tt

lock_back : (g : ℕ) (contents : Contents) (past later : Past) (part : ActorPart) (item : Item) (lock : PageLock) (refusal : Option Outcome) → GoesBack g contents past later item (lock_move contents part lock refusal)
unfolding lock_move NoChance
lock_back g contents past later part item lock None = λ is. tt
lock_back g contents past later part item lock (Some outcome) = λ is. tt

computed_back : (g : ℕ) (contents : Contents) (past later : Past) (part : ActorPart) (command : Command) (result : Result Computed FwRefusal)
    → (IsOwnCipher g contents later (sealing_of command) → IsOwnCipher g contents past (sealing_of command)) → GoesBack g contents past later (items.Firmware command) (computed_move contents part result)
unfolding computed_move NoChance
computed_back g contents past later part command (Ok made) own = own
computed_back g contents past later part command (Err refusal) own = λ is. tt

commit_back : (g : ℕ) (contents : Contents) (past later : Past) (part : ActorPart) (command : Command) (item : Item) → GoesBack g contents past later item (commit_move contents part command)
unfolding commit_move
commit_back g contents past later part command item = λ is. ended_chance g contents past _ _ item

-- so each event of a command
command_back : (frames : ℕ) (guests : List GuestSpec) (view : View) (g : ℕ) (past later : Past) (memory : Memory) (part : ActorPart) (command : Command)
    → BeforeCommit guests g view.contents (past.archive g) memory → AreCommandOperands command → AreCommandLocks frames guests view.contents command part.standing → Stays (past.archive g) (later.archive g)
    → GoesBack g view.contents past later (items.Firmware command) (item_move frames guests view part Firmware (items.Firmware command))
unfolding item_move
command_back frames guests view g past later memory part command before fits tested stays =
    by_stage (GoesBack g view.contents past later (items.Firmware command)) frames guests view part command
    (record {
      takes = λ owner refusal. taken_back g view.contents past later part (items.Firmware command) owner refusal;
      locks = λ lock refusal. lock_back g view.contents past later part (items.Firmware command) lock refusal;
      computes = λ sealing sealing_is ready.
          let standing = part.standing in
          let context = context_is frames guests view.contents command standing standing.context_lock (guest_of command) ready refl refl in
          let all = all_locked frames guests view.contents command standing ready in
          let tests = tests_of frames guests view.contents command standing ready.tested (guest_of command) refl context all (entry_below command fits) (guestless command) in
          computed_back g view.contents past later part command (compute_of view.contents sealing)
          (own_back guests g view.contents past later memory (command_asid guests command) (sealing_of command) before tests (owner_has guests command) stays);
      commits = λ stage. commit_back g view.contents past later part command (items.Firmware command);
    })
    tested

-- an item that is no command opens nothing
plain_chance : (g : ℕ) (contents : Contents) (past : Past) (deed : Deed) (outcome : Option Outcome) (item : Item) → sealing_in item ≡ None → NoChance g contents past deed outcome item
unfolding NoChance IsOwnCipher
plain_chance g contents past deeds.Compute None item none = subst (λ (sealing : Option Sealing). IsOwnCipher g contents past sealing) (sym none) tt
plain_chance g contents past deed outcome item none = tt

item_back : (frames : ℕ) (guests : List GuestSpec) (view : View) (g : ℕ) (past later : Past) (memory : Memory) (part : ActorPart) (role : Role) (item : Item)
    → BeforeCommit guests g view.contents (past.archive g) memory → AreOperands item → AreItemLocks frames guests view.contents role item part.deeds part.standing → Stays (past.archive g) (later.archive g)
    → GoesBack g view.contents past later item (item_move frames guests view part role item)
unfolding AreItemLocks item_move NoChance
item_back frames guests view g past later memory part Firmware (items.Firmware command) before fits tested stays = command_back frames guests view g past later memory part command before fits tested stays
item_back frames guests view g past later memory part Host (items.Firmware command) before fits tested stays = λ is. tt
item_back frames guests view g past later memory part (Cpu guest vmpl npt paging) (items.Firmware command) before fits tested stays = λ is. tt
item_back frames guests view g past later memory part role item before fits tested stays = λ is. plain_chance g view.contents past (item_move frames guests view part role item).deed (item_move frames guests view part role item).outcome item refl

step_back : (g : ℕ) (m : State) (actor : ℕ) (past later : Past) (memory : Memory) → 0 < g → Holding g m past memory → Stays (past.archive g) (later.archive g) → NoChanceStep g m actor later → NoChanceStep g m actor past
unfolding event_of NoChanceStep
step_back g m actor past later memory some holding stays is =
    let part = part_of m actor in
    item_back m.frames m.guests (view_of m) g past later memory part part.role (line_at part.script part.item).item
    (shaped_commit m g (past.archive g) memory holding.order.shapes some holding.most holding.ties) (holding.order.operands actor part.item) (holding.order.locks.tested (actor - 1)) stays is

-- one event keeps what ties the guest's pages to their holders
next_holding : (g : ℕ) (m : State) (past : Past) (memory : Memory) (actor : ℕ) → 0 < g → IsUnfinished m actor → NoChanceStep g m actor past → Holding g m past memory
    → (IsDisciplinedFrom g m memory (actor ∷ [])) → Holding g (after m actor) (past_after m actor past) (used (next_use g m actor) memory)
unfolding IsDisciplinedFrom
next_holding g m past memory actor some unfinished chance holding disciplined = record {
  most = subst (λ (guests : List GuestSpec). g ≤ length guests) (sym (after_guests m actor)) holding.most;
  order = each_order m actor unfinished holding.order;
  made = each_made g m actor past memory some holding.most unfinished holding.order chance holding.ties holding.made;
  ties = (next_done g m actor past memory some holding.most unfinished holding.order holding.made (next_lacks g m actor memory disciplined.0) holding.ties).0;
}

before_from : (g : ℕ) (m : State) (past : Past) (memory : Memory) (s later : List ℕ) → 0 < g → IsDefinedFrom m (s ++ later) → IsDisciplinedFrom g m memory s → Holding g m past memory → Seals m past
    → NoChanceIn g m (past_from m past (s ++ later)) s → NoChanceFrom g m past s
unfolding NoChanceFrom NoChanceIn past_from IsDefinedFrom IsDisciplinedFrom
before_from g m past memory [] later some defined disciplined holding seals chance = tt
before_from g m past memory (actor ∷ s) later some defined disciplined holding seals chance =
    let stays = (run_seals m past (actor ∷ (s ++ later)) defined seals).stays g in
    let here = step_back g m actor past (past_from m past (actor ∷ (s ++ later))) memory some holding stays chance.0 in
    let next = next_holding g m past memory actor some defined.0 here holding (disciplined.0, tt) in
    (here, before_from g (after m actor) (past_after m actor past) (used (next_use g m actor) memory) s later some defined.1 disciplined.1 next (next_seals m past actor defined.0 seals) chance.1)

-- at the opening
first_holding : (c : Scenario) (g : ℕ) → IsSound c → 0 < g → g ≤ length c.guests → Holding g (opening c) empty_past (opening_memory c g)
unfolding state_from past_from memory_from IsDefinedFrom IsLackingFrom NoChanceFrom
first_holding c g sound some most = run_holding c [] g sound tt some most tt tt

pub run_before : (c : Scenario) (s later : List ℕ) (g : ℕ) → IsSound c → IsDefined c (s ++ later) → 0 < g → g ≤ length c.guests → IsDisciplined c s g → NoChanceTagInAll c s later g → NoChanceTag c s g
run_before c s later g sound defined some most disciplined chance =
    before_from g (opening c) empty_past (opening_memory c g) s later some defined disciplined (first_holding c g sound some most) (opening_seals c sound) chance
