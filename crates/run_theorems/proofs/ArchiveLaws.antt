-- What was sealed under a counter stays: what a compute has made has the counter of its guest's context, which is locked until the commit, and that commit makes the counter one higher.
use Rattle.std.proofs.Common.{◌≡◌, ◌≢◌, ℕ, ◌≤◌, ◌<◌, ◌+◌, ◌-◌, ◌==◌, Bool, true, false, List, [], ◌∷◌, ◌++◌, Option, Some, None, Result, Ok, Err, refl, sym, ap, ◌∙◌, subst, arith, ⊎_elim, if◌then◌else◌}
use Rattle.std.proofs.lemmas.Bool.{cases_eq, cond_both, eqb-true, eq-eqb, true≢false}
use Rattle.std.proofs.lemmas.Option.{none-some}
use Rattle.snp_model.specs.declared.command.Command.{Command}
use Rattle.snp_model.specs.declared.command.Command.TheVariants as commands
use Rattle.snp_model.specs.declared.event.Deed.{Deed}
use Rattle.snp_model.specs.declared.event.FwRefusal.{FwRefusal}
use Rattle.snp_model.specs.declared.event.Outcome.{Outcome}
use Rattle.snp_model.specs.declared.firmware.MetaEntry.{MetaEntry}
use Rattle.snp_model.specs.declared.item.Item.{Item}
use Rattle.snp_model.specs.declared.item.Item.TheVariants as items
use Rattle.snp_model.specs.declared.scenario.GuestSpec.{GuestSpec}
use Rattle.snp_model.specs.declared.scenario.Role.{Role}
use Rattle.snp_model.specs.declared.scenario.Role.TheVariants.{Cpu, Host, Firmware}
use Rattle.snp_model.specs.declared.scenario.Scenario.{Scenario}
use Rattle.snp_model.specs.Firmware.{guest_of}
use Rattle.snp_model.specs.FirmwareCommits.{at_guest, context_after}
use Rattle.snp_model.specs.FirmwareStep.{context_taken, computed_move, commit_move, commit_deed, context_committed, contexts_after}
use Rattle.snp_model.specs.Live.{Archived, Archive}
use Rattle.snp_model.specs.Locks.{locks_context, view_of}
use Rattle.snp_model.specs.Metadata.{page_entry, metadata_entry, sealed}
use Rattle.snp_model.specs.Moves.{Move, lock_move}
use Rattle.snp_model.specs.Opening.{opening}
use Rattle.snp_model.specs.Past.{Past, archive_of, archived, empty_past, past_after, past_committed, past_computed, past_from, past_made, past_sealed, past_with, sealing_in}
use Rattle.snp_model.specs.Run.{IsDefined, IsDefinedFrom, state_after, state_from}
use Rattle.snp_model.specs.Sealing.{Sealing, SealIn, SealOut, What, GuestPage, MetadataPage, compute_of, made_of, sealed_as, sealing_of}
use Rattle.snp_model.specs.Sound.{IsSound}
use Rattle.snp_model.specs.State.{PageLock, Context, Contexts, Contents, Computed, Page, Standing, ActorPart, State, View, part_of, IsUnfinished}
use Rattle.snp_model.specs.Step.{after, event_of, item_move, line_at, part_after}
use Rattle.run_laws.specs.HeldLocks.{AreCommandLocks, AreItemLocks}
use Rattle.run_laws.proofs.CommandStages.{by_stage}
use Rattle.run_laws.proofs.CommandTests.{IsReady}
use Rattle.run_laws.proofs.FirmwareLocked.{held_context}
use Rattle.run_laws.proofs.InOrder.{IsInOrder}
use Rattle.run_laws.proofs.LockLaws.{not_true}
use Rattle.run_laws.proofs.LockedLaws.{move_at, move_locks}
use Rattle.run_laws.proofs.LockedRuns.{part_walking}
use Rattle.run_laws.proofs.OpeningOrder.{opening_order}
use Rattle.run_laws.proofs.OpeningParts.{part_idle}
use Rattle.run_laws.proofs.PastSteps.{computed_archive, plain_past}
use Rattle.run_laws.proofs.RunLaws.{after_other, after_part, defined_first, defined_second, unfinished_at}
use Rattle.run_laws.proofs.SealedSteps.{each_order}
use Rattle.run_theorems.specs.Counters.{AllStay, AreBelow, counter_of}
use Rattle.run_theorems.proofs.CounterLaws.{Rises, never_falls}
use Rattle.run_theorems.proofs.EventLaws.{OfPlain, OfCommand, every_event, is_command}

-- the guest whose page a command seals
abbrev out_owner : Option Sealing → Option ℕ
out_owner None = None
out_owner (Some (SealOut what guest source target slot)) = Some guest
out_owner (Some (SealIn what guest source target slot)) = None

-- it is the guest that the command names
out_guest : (command : Command) (owner : ℕ) → out_owner (sealing_of command) ≡ Some owner → guest_of command ≡ Some owner
unfolding sealing_of guest_of
out_guest (commands.GctxCreate guest frame) owner is = absurd (none-some owner is)
out_guest (commands.Activate guest asid) owner is = absurd (none-some owner is)
out_guest (commands.LaunchStart guest) owner is = absurd (none-some owner is)
out_guest (commands.LaunchUpdate guest frame page_type imi perms) owner is = absurd (none-some owner is)
out_guest (commands.LaunchFinish guest) owner is = absurd (none-some owner is)
out_guest (commands.MdInit frame) owner is = absurd (none-some owner is)
out_guest (commands.PageMove guest source target) owner is = absurd (none-some owner is)
out_guest (commands.SwapOut guest source target metadata entry) owner is = is
out_guest (commands.SwapIn guest source target metadata entry) owner is = absurd (none-some owner is)
out_guest (commands.Reclaim frame) owner is = absurd (none-some owner is)
out_guest (commands.MdOut guest source target metadata entry) owner is = is
out_guest (commands.MdIn guest source target metadata entry) owner is = absurd (none-some owner is)
out_guest (commands.MdRootOut guest source target) owner is = is
out_guest (commands.MdRootIn guest source target) owner is = absurd (none-some owner is)

-- an entry, where there is one, has this counter
abbrev HasCounter : Option MetaEntry → ℕ → Type 0
HasCounter None counter = Unit {0}
HasCounter (Some entry) counter = entry.iv ≡ counter

-- what was sealed for a guest has the counter of its context, which the attempt has locked
pub record IsCounted (contexts : Contexts) (standing : Standing) (made : Computed) (owner : ℕ) : Type 0 where
  locked : standing.context_lock ≡ Some owner
  counter : HasCounter made.entry (contexts owner).iv

-- so of what an attempt of an item has made
abbrev pub IsCountedAt : Contexts → Item → Standing → Type 0
IsCountedAt contexts item standing = (made : Computed) (owner : ℕ) → standing.computed ≡ Some made → out_owner (sealing_in item) ≡ Some owner → IsCounted contexts standing made owner

-- so of each actor
abbrev pub AreCounted : State → Type 0
AreCounted m = (actor : ℕ) → 0 < actor → IsCountedAt m.contents.contexts (line_at (part_of m actor).script (part_of m actor).item).item (part_of m actor).standing

some_one : (x y : ℕ) → Some x ≡ Some y → x ≡ y
some_one x y e = cc

some_made : (x y : Computed) → Some x ≡ Some y → x ≡ y
some_made x y e = cc

some_none : (outcome : Outcome) → Some outcome ≡ None → ⊥
some_none outcome e = cc

-- an event of a command whose attempt goes on
abbrev Keeps : ℕ → List GuestSpec → Command → Move → Type 0
Keeps frames guests command move =
    move.outcome ≡ None → AreCommandLocks frames guests move.contents command move.standing → IsCountedAt move.contents.contexts (items.Firmware command) move.standing

taken_counted : (frames : ℕ) (guests : List GuestSpec) (contents : Contents) (part : ActorPart) (command : Command) → IsCountedAt contents.contexts (items.Firmware command) part.standing → (guest : ℕ) (refusal : Option FwRefusal)
    → Keeps frames guests command (context_taken contents part guest refusal)
unfolding context_taken
taken_counted frames guests contents part command old guest None going tested made owner computed is =
    record { locked = sym (tested.context guest refl).guest_is ∙ out_guest command owner is; counter = (old made owner computed is).counter }
taken_counted frames guests contents part command old guest (Some refusal) going tested made owner computed is = absurd (some_none _ going)

locked_counted : (frames : ℕ) (guests : List GuestSpec) (contents : Contents) (part : ActorPart) (command : Command) → IsCountedAt contents.contexts (items.Firmware command) part.standing → (lock : PageLock) (refusal : Option Outcome)
    → Keeps frames guests command (lock_move contents part lock refusal)
unfolding lock_move
locked_counted frames guests contents part command old lock None going tested made owner computed is =
    let was = old made owner computed is in
    record { locked = was.locked; counter = was.counter }
locked_counted frames guests contents part command old lock (Some refusal) going tested made owner computed is = absurd (some_none refusal going)

-- what is sealed gets the counter of the context
sealed_counter : (what : What) (context : Context) (page : Page) → HasCounter (made_of (sealed_as what context page)).entry context.iv
unfolding sealed page_entry metadata_entry
sealed_counter GuestPage context page = refl
sealed_counter MetadataPage context page = refl

computed_counted : (frames : ℕ) (guests : List GuestSpec) (contents : Contents) (part : ActorPart) (command : Command) (sealing : Sealing) → sealing_of command ≡ Some sealing → IsReady frames guests contents command part.standing
    → Keeps frames guests command (computed_move contents part (compute_of contents sealing))
unfolding computed_move compute_of
computed_counted frames guests contents part command (SealOut what guest source target slot) sealing_is ready going tested made owner computed is =
    let own : guest ≡ owner = some_one guest owner (ap out_owner (sym sealing_is) ∙ is) in
    record {
      locked = ready.held owner (out_guest command owner is);
      counter = subst (λ (m : Computed). HasCounter m.entry (contents.contexts owner).iv) (some_made _ made computed)
          (subst (λ (g : ℕ). HasCounter (made_of (sealed_as what (contents.contexts guest) (contents.pages source))).entry (contents.contexts g).iv) own (sealed_counter what (contents.contexts guest) (contents.pages source)));
    }
computed_counted frames guests contents part command (SealIn what guest source target slot) sealing_is ready going tested made owner computed is =
    absurd (none-some owner (ap out_owner (sym sealing_is) ∙ is))

commit_counted : (frames : ℕ) (guests : List GuestSpec) (contents : Contents) (part : ActorPart) (command : Command) → Keeps frames guests command (commit_move contents part command)
unfolding commit_move
commit_counted frames guests contents part command going tested made owner computed is = absurd (some_none _ going)

-- so each item: no other makes anything that is sealed
item_counted : (frames : ℕ) (guests : List GuestSpec) (view : View) (part : ActorPart) (role : Role) (item : Item) → AreItemLocks frames guests view.contents role item part.deeds part.standing
    → IsCountedAt view.contents.contexts item part.standing → (item_move frames guests view part role item).outcome ≡ None
    → AreItemLocks frames guests (item_move frames guests view part role item).contents role item (part.deeds ++ (item_move frames guests view part role item).deed ∷ []) (item_move frames guests view part role item).standing
    → IsCountedAt (item_move frames guests view part role item).contents.contexts item (item_move frames guests view part role item).standing
unfolding AreItemLocks item_move
item_counted frames guests view part role (items.Access address op) tested old going later = λ made owner computed is. absurd (none-some owner is)
item_counted frames guests view part role (items.Pvalidate address size validate) tested old going later = λ made owner computed is. absurd (none-some owner is)
item_counted frames guests view part role (items.Rmpadjust address size target mask vmsa) tested old going later = λ made owner computed is. absurd (none-some owner is)
item_counted frames guests view part role (items.Rmpupdate update) tested old going later = λ made owner computed is. absurd (none-some owner is)
item_counted frames guests view part role (items.Psmash frame) tested old going later = λ made owner computed is. absurd (none-some owner is)
item_counted frames guests view part role (items.Skip count test) tested old going later = λ made owner computed is. absurd (none-some owner is)
item_counted frames guests view part (Cpu guest vmpl npt paging) (items.Firmware command) tested old going later = λ made owner computed is. absurd (none-some made (sym (ap (λ (s : Standing). s.computed) later) ∙ computed))
item_counted frames guests view part Host (items.Firmware command) tested old going later = λ made owner computed is. absurd (none-some made (sym (ap (λ (s : Standing). s.computed) later) ∙ computed))
item_counted frames guests view part Firmware (items.Firmware command) tested old going later =
    by_stage (Keeps frames guests command) frames guests view part command
    (record {
      takes = taken_counted frames guests view.contents part command old;
      locks = locked_counted frames guests view.contents part command old;
      computes = λ sealing is ready. computed_counted frames guests view.contents part command sealing is ready;
      commits = λ stage. commit_counted frames guests view.contents part command;
    })
    tested going later

-- the stepping actor's part
part_counted : (contexts : Contexts) (part : ActorPart) (move : Move) (outcome : Option Outcome) → (outcome ≡ None → IsCountedAt contexts (line_at part.script part.item).item move.standing)
    → IsCountedAt contexts (line_at (part_after part move outcome).script (part_after part move outcome).item).item (part_after part move outcome).standing
unfolding part_after
part_counted contexts part move None going = going refl
part_counted contexts part move (Some outcome) going = λ made owner computed is. absurd (none-some made computed)

own_counted : (m : State) (actor : ℕ) → IsUnfinished m actor → IsInOrder m → AreCounted m → IsCountedAt (after m actor).contents.contexts (line_at (part_of (after m actor) actor).script (part_of (after m actor) actor).item).item (part_of (after m actor) actor).standing
unfolding after
own_counted m actor unfinished order counted =
    let part = part_of m actor in
    let item = (line_at part.script part.item).item in
    let move = move_at m actor in
    let locks = move_locks m actor order.locks (part_walking m actor order.walking unfinished) in
    subst (λ (p : ActorPart). IsCountedAt move.contents.contexts (line_at p.script p.item).item p.standing) (sym (after_part m actor (unfinished_at m actor unfinished).within))
    (part_counted move.contents.contexts part move move.outcome
    (λ going. item_counted m.frames m.guests (view_of m) part part.role item (order.locks.tested (actor - 1)) (counted actor unfinished.0) going (locks.goes_on going).tested))

-- all others: the contexts that they have locked stay
other_counted : (m : State) (actor other : ℕ) → IsUnfinished m actor → IsInOrder m → AreCounted m → 0 < other → other - 1 ≢ actor - 1
    → IsCountedAt (after m actor).contents.contexts (line_at (part_of m other).script (part_of m other).item).item (part_of m other).standing
unfolding after
other_counted m actor other unfinished order counted some apart made owner computed is =
    let was = counted other some made owner computed is in
    let locks = move_locks m actor order.locks (part_walking m actor order.walking unfinished) in
    let own : locks_context owner (part_of m other) ≡ true = held_context (part_of m other) owner was.locked in
    let free : locks_context owner (part_of m actor) ≡ false = not_true (locks_context owner (part_of m actor)) (λ taken. apart (order.locks.one.contexts_by_one (other - 1) (actor - 1) owner own taken)) in
    record { locked = was.locked; counter = subst (λ (context : Context). HasCounter made.entry context.iv) (sym (locks.own_contexts owner free)) was.counter }

same_number : (a b : ℕ) → 0 < a → 0 < b → a - 1 ≡ b - 1 → a ≡ b
same_number a b some_a some_b same = omega arith

each_counted : (m : State) (actor : ℕ) → IsUnfinished m actor → IsInOrder m → AreCounted m → AreCounted (after m actor)
each_counted m actor unfinished order counted other some =
    ⊎_elim
    (λ (same : other - 1 ≡ actor - 1).
    subst (λ (k : ℕ). IsCountedAt (after m actor).contents.contexts (line_at (part_of (after m actor) k).script (part_of (after m actor) k).item).item (part_of (after m actor) k).standing)
    (sym (same_number other actor some unfinished.0 same)) (own_counted m actor unfinished order counted))
    (λ (apart : other - 1 ≡ actor - 1 → ⊥).
    subst (λ (p : ActorPart). IsCountedAt (after m actor).contents.contexts (line_at p.script p.item).item p.standing) (sym (after_other m actor other apart))
    (other_counted m actor other unfinished order counted some apart))
    (cases_eq (other - 1) (actor - 1))

-- what an event archives, by the counters before it and after it
record Archives (old new : ℕ → Archive) (counters : ℕ → ℕ) : Type 0 where
  below : AreBelow new counters
  stays : AllStay old new

less : (k n m : ℕ) → k < n → n ≤ m → k < m
less k n m one other = omega arith

-- nothing
archives_none : (old : ℕ → Archive) (before counters : ℕ → ℕ) → AreBelow old before → ((guest : ℕ) → before guest ≤ counters guest) → Archives old old counters
archives_none old before counters below rises = record {
  below = λ guest counter sealed is. less counter (before guest) (counters guest) (below guest counter sealed is) (rises guest);
  stays = λ guest counter sealed is. is;
}

hit_below : (k counter before now : ℕ) → counter ≡ k → counter ≡ before → now ≡ before + 1 → k < now
hit_below k counter before now same is one = omega arith

hit_apart : (k counter before : ℕ) → counter ≡ k → counter ≡ before → k < before → ⊥
hit_apart k counter before same is below = omega arith

-- one more, under a guest's counter, which is one higher then
one_below : (owner counter : ℕ) (words cipher : List ℕ) (old : ℕ → Archive) (before counters : ℕ → ℕ) → AreBelow old before → ((guest : ℕ) → before guest ≤ counters guest) → counter ≡ before owner → counters owner ≡ before owner + 1
    → AreBelow (archived owner counter words cipher old) counters
unfolding archived
one_below owner counter words cipher old before counters below rises is one guest k sealed =
    let there = λ (said : old guest k ≡ Some sealed). less k (before guest) (counters guest) (below guest k sealed said) (rises guest) in
    cond_both (owner == guest) _ _ (λ (v : Option Archived). v ≡ Some sealed → k < counters guest)
    (λ own. cond_both (counter == k) _ _ (λ (v : Option Archived). v ≡ Some sealed → k < counters guest)
    (λ hit said. subst (λ (g : ℕ). k < counters g) (eqb-true owner guest own) (hit_below k counter (before owner) (counters owner) (eqb-true counter k hit) is one))
    (λ miss said. there said))
    (λ apart said. there said)

one_stays : (owner counter : ℕ) (words cipher : List ℕ) (old : ℕ → Archive) (before : ℕ → ℕ) → AreBelow old before → counter ≡ before owner → AllStay old (archived owner counter words cipher old)
unfolding archived
one_stays owner counter words cipher old before below is guest k sealed said =
    cond_both (owner == guest) _ _ (λ (v : Option Archived). v ≡ Some sealed)
    (λ own. cond_both (counter == k) _ _ (λ (v : Option Archived). v ≡ Some sealed)
    (λ hit. absurd (hit_apart k counter (before owner) (eqb-true counter k hit) is (subst (λ (g : ℕ). k < before g) (sym (eqb-true owner guest own)) (below guest k sealed said))))
    (λ miss. said))
    (λ apart. said)

-- what the commit of a command that seals archives
made_archives : (actor owner : ℕ) (computed : Option Computed) (past : Past) (before counters : ℕ → ℕ) → AreBelow past.archive before → ((guest : ℕ) → before guest ≤ counters guest) → counters owner ≡ before owner + 1
    → ((made : Computed) → computed ≡ Some made → HasCounter made.entry (before owner)) → Archives past.archive (past_made actor owner computed past).archive counters
unfolding past_made past_sealed
made_archives actor owner None past before counters below rises one counted = archives_none past.archive before counters below rises
made_archives actor owner (Some made) past before counters below rises one counted = by_entry made.entry refl (counted made refl)
  where
    by_entry : (entry : Option MetaEntry) → made.entry ≡ entry → HasCounter entry (before owner) → Archives past.archive (past_sealed actor owner made.words entry past).archive counters
    by_entry None is has = archives_none past.archive before counters below rises
    by_entry (Some entry) is has = record {
      below = one_below owner entry.iv (past.sealing actor) made.words past.archive before counters below rises has one;
      stays = one_stays owner entry.iv (past.sealing actor) made.words past.archive before below has;
    }

-- the counters of contents
abbrev counters_in : Contents → ℕ → ℕ
counters_in contents guest = (contents.contexts guest).iv

-- what an event of an item of an actor archives, where no counter falls in it
abbrev ArchivesIn : ℕ → Contents → Option Computed → Past → Item → Move → Type 0
ArchivesIn actor contents computed past item move = Rises contents move → Archives past.archive (past_with actor contents computed move.deed item past).archive (counters_in move.contents)

-- an item that is no command
plain_sealing : (item : Item) → is_command item ≡ false → sealing_in item ≡ None
plain_sealing (items.Access address op) plain = refl
plain_sealing (items.Pvalidate address size validate) plain = refl
plain_sealing (items.Rmpadjust address size target mask vmsa) plain = refl
plain_sealing (items.Rmpupdate update) plain = refl
plain_sealing (items.Psmash frame) plain = refl
plain_sealing (items.Firmware command) plain = absurd (true≢false plain)
plain_sealing (items.Skip count test) plain = refl

same_archives : (actor : ℕ) (contents : Contents) (computed : Option Computed) (deed : Deed) (item : Item) (past : Past) (counters : ℕ → ℕ) → sealing_in item ≡ None → AreBelow past.archive (counters_in contents)
    → ((guest : ℕ) → counters_in contents guest ≤ counters guest) → Archives past.archive (past_with actor contents computed deed item past).archive counters
same_archives actor contents computed deed item past counters none below rises =
    subst (λ (later : Past). Archives past.archive later.archive counters) (sym (plain_past actor contents computed deed item past none)) (archives_none past.archive (counters_in contents) counters below rises)

lock_archives : (actor : ℕ) (contents : Contents) (part : ActorPart) (computed : Option Computed) (past : Past) (item : Item) → sealing_in item ≡ None → AreBelow past.archive (counters_in contents) → (lock : PageLock)
    → ArchivesIn actor contents computed past item (lock_move contents part lock None)
unfolding lock_move
lock_archives actor contents part computed past item none below lock rises = same_archives actor contents computed _ item past (counters_in contents) none below rises

plain_archives : (actor : ℕ) (contents : Contents) (part : ActorPart) (computed : Option Computed) (past : Past) (item : Item) → AreBelow past.archive (counters_in contents) → is_command item ≡ false
    → OfPlain (ArchivesIn actor contents computed past item) contents part
plain_archives actor contents part computed past item below plain =
    let same = λ (deed : Deed). same_archives actor contents computed deed item past (counters_in contents) (plain_sealing item plain) below in
    record {
      quiet = λ deed ended rises. same deed rises;
      locks = lock_archives actor contents part computed past item (plain_sealing item plain) below;
      accesses = λ deed op word pages rises. same deed rises;
      succeeds = λ deed pages rises. same deed rises;
      carries = λ deed carry pages rises. same deed rises;
    }

-- a command: its locks archive nothing
taken_archives : (actor : ℕ) (contents : Contents) (part : ActorPart) (computed : Option Computed) (past : Past) (command : Command) → AreBelow past.archive (counters_in contents) → (guest : ℕ) (refusal : Option FwRefusal)
    → ArchivesIn actor contents computed past (items.Firmware command) (context_taken contents part guest refusal)
unfolding context_taken past_with
taken_archives actor contents part computed past command below guest None rises = archives_none past.archive (counters_in contents) (counters_in contents) below rises
taken_archives actor contents part computed past command below guest (Some refusal) rises = archives_none past.archive (counters_in contents) (counters_in contents) below rises

locked_archives : (actor : ℕ) (contents : Contents) (part : ActorPart) (computed : Option Computed) (past : Past) (command : Command) → AreBelow past.archive (counters_in contents) → (lock : PageLock) (refusal : Option Outcome)
    → ArchivesIn actor contents computed past (items.Firmware command) (lock_move contents part lock refusal)
unfolding lock_move past_with
locked_archives actor contents part computed past command below lock None rises = archives_none past.archive (counters_in contents) (counters_in contents) below rises
locked_archives actor contents part computed past command below lock (Some refusal) rises = archives_none past.archive (counters_in contents) (counters_in contents) below rises

-- nor does its compute
computed_none : (actor : ℕ) (contents : Contents) (past : Past) (sealing : Option Sealing) → AreBelow past.archive (counters_in contents) → ((guest : ℕ) → counters_in contents guest ≤ counters_in contents guest)
    → Archives past.archive (past_computed actor contents sealing past).archive (counters_in contents)
computed_none actor contents past sealing below rises =
    subst (λ (archive : ℕ → Archive). Archives past.archive archive (counters_in contents)) (sym (computed_archive actor contents sealing past)) (archives_none past.archive (counters_in contents) (counters_in contents) below rises)

computed_archives : (actor : ℕ) (contents : Contents) (part : ActorPart) (computed : Option Computed) (past : Past) (command : Command) → AreBelow past.archive (counters_in contents) → (result : Result Computed FwRefusal)
    → ArchivesIn actor contents computed past (items.Firmware command) (computed_move contents part result)
unfolding computed_move past_with
computed_archives actor contents part computed past command below (Ok made) rises = computed_none actor contents past (sealing_of command) below rises
computed_archives actor contents part computed past command below (Err refusal) rises = computed_none actor contents past (sealing_of command) below rises

-- its commit archives what it has sealed, and counts
counts : (owner : ℕ) (new : Context) (contexts : Contexts) → new.iv ≡ (contexts owner).iv + 1 → (at_guest owner new contexts owner).iv ≡ (contexts owner).iv + 1
unfolding at_guest
counts owner new contexts is = subst (λ (b : Bool). (if b then new else contexts owner).iv ≡ (contexts owner).iv + 1) (sym (eq-eqb owner owner refl)) is

commit_archives : (actor : ℕ) (contents : Contents) (part : ActorPart) (past : Past) (command : Command) → AreBelow past.archive (counters_in contents) → IsCountedAt contents.contexts (items.Firmware command) part.standing
    → ArchivesIn actor contents part.standing.computed past (items.Firmware command) (commit_move contents part command)
unfolding commit_move commit_deed contexts_after context_committed context_after guest_of sealing_of past_with past_committed
commit_archives actor contents part past (commands.GctxCreate owner frame) below counted = λ rises. archives_none past.archive (counters_in contents) _ below rises
commit_archives actor contents part past (commands.Activate owner asid) below counted = λ rises. archives_none past.archive (counters_in contents) _ below rises
commit_archives actor contents part past (commands.LaunchStart owner) below counted = λ rises. archives_none past.archive (counters_in contents) _ below rises
commit_archives actor contents part past (commands.LaunchUpdate owner frame page_type imi perms) below counted = λ rises. archives_none past.archive (counters_in contents) _ below rises
commit_archives actor contents part past (commands.LaunchFinish owner) below counted = λ rises. archives_none past.archive (counters_in contents) _ below rises
commit_archives actor contents part past (commands.MdInit frame) below counted = λ rises. archives_none past.archive (counters_in contents) _ below rises
commit_archives actor contents part past (commands.PageMove owner source target) below counted = λ rises. archives_none past.archive (counters_in contents) _ below rises
commit_archives actor contents part past (commands.SwapOut owner source target metadata entry) below counted =
    λ rises. made_archives actor owner part.standing.computed past (counters_in contents) _ below rises (counts owner _ contents.contexts refl) (λ made is. (counted made owner is refl).counter)
commit_archives actor contents part past (commands.SwapIn owner source target metadata entry) below counted = λ rises. archives_none past.archive (counters_in contents) _ below rises
commit_archives actor contents part past (commands.Reclaim frame) below counted = λ rises. archives_none past.archive (counters_in contents) _ below rises
commit_archives actor contents part past (commands.MdOut owner source target metadata entry) below counted =
    λ rises. made_archives actor owner part.standing.computed past (counters_in contents) _ below rises (counts owner _ contents.contexts refl) (λ made is. (counted made owner is refl).counter)
commit_archives actor contents part past (commands.MdIn owner source target metadata entry) below counted = λ rises. archives_none past.archive (counters_in contents) _ below rises
commit_archives actor contents part past (commands.MdRootOut owner source target) below counted =
    λ rises. made_archives actor owner part.standing.computed past (counters_in contents) _ below rises (counts owner _ contents.contexts refl) (λ made is. (counted made owner is refl).counter)
commit_archives actor contents part past (commands.MdRootIn owner source target) below counted = λ rises. archives_none past.archive (counters_in contents) _ below rises

command_archives : (actor : ℕ) (contents : Contents) (part : ActorPart) (past : Past) (item : Item) (command : Command) → AreBelow past.archive (counters_in contents) → IsCountedAt contents.contexts item part.standing → item ≡ items.Firmware command
    → OfCommand (ArchivesIn actor contents part.standing.computed past item) contents part command
unfolding past_with
command_archives actor contents part past item command below counted is =
    subst (λ (i : Item). OfCommand (ArchivesIn actor contents part.standing.computed past i) contents part command) (sym is)
    (record {
      takes = taken_archives actor contents part part.standing.computed past command below;
      locks = locked_archives actor contents part part.standing.computed past command below;
      computes = computed_archives actor contents part part.standing.computed past command below;
      commits = commit_archives actor contents part past command below (subst (λ (i : Item). IsCountedAt contents.contexts i part.standing) is counted);
      misplaced = λ rises. archives_none past.archive (counters_in contents) (counters_in contents) below rises;
    })

-- so each actor's step
step_archives : (m : State) (actor : ℕ) (past : Past) → 0 < actor → AreCounted m → AreBelow past.archive (counter_of m) → Archives past.archive (past_after m actor past).archive (counter_of (after m actor))
unfolding event_of after past_after
step_archives m actor past some counted below =
    let part = part_of m actor in
    let item = (line_at part.script part.item).item in
    every_event (ArchivesIn actor m.contents part.standing.computed past item) m.frames m.guests (view_of m) part part.role item
    (plain_archives actor m.contents part part.standing.computed past item below)
    (λ command is. command_archives actor m.contents part past item command below (counted actor some) is)
    (never_falls m actor)

-- and each run: what it keeps, and what it has archived at its end
pub record Seals (m : State) (past : Past) : Type 0 where
  pub order : IsInOrder m
  pub counted : AreCounted m
  pub below : AreBelow past.archive (counter_of m)

pub record Ends (past later : Past) (m : State) : Type 0 where
  pub seals : Seals m later
  pub stays : AllStay past.archive later.archive

pub run_seals : (m : State) (past : Past) (schedule : List ℕ) → IsDefinedFrom m schedule → Seals m past → Ends past (past_from m past schedule) (state_from m schedule)
unfolding state_from past_from IsDefinedFrom
run_seals m past [] defined seals = record { seals = seals; stays = λ guest counter sealed is. is }
run_seals m past (actor ∷ actors) defined seals =
    let step = step_archives m actor past defined.0.0 seals.counted seals.below in
    let next : Seals (after m actor) (past_after m actor past) = record {
      order = each_order m actor defined.0 seals.order;
      counted = each_counted m actor defined.0 seals.order seals.counted;
      below = step.below;
    } in
    let rest = run_seals (after m actor) (past_after m actor past) actors defined.1 next in
    record { seals = rest.seals; stays = λ guest counter sealed is. rest.stays guest counter sealed (step.stays guest counter sealed is) }

-- at the opening nothing is made, and nothing was sealed
pub opening_seals : (c : Scenario) → IsSound c → Seals (opening c) empty_past
unfolding empty_past
opening_seals c sound = record {
  order = opening_order c sound;
  counted = λ actor some made owner computed is. absurd (none-some made (sym (ap (λ (standing : Standing). standing.computed) (part_idle c actor)) ∙ computed));
  below = λ guest counter sealed is. absurd (none_archived sealed is);
}
  where
    none_archived : (sealed : Archived) → None ≡ Some sealed → ⊥
    none_archived sealed e = cc

past_append : (m : State) (past : Past) (s t : List ℕ) → past_from m past (s ++ t) ≡ past_from (state_from m s) (past_from m past s) t
unfolding past_from state_from
past_append m past [] t = refl
past_append m past (a ∷ s) t = past_append (after m a) (past_after m a past) s t

pub run_below : (c : Scenario) (s : List ℕ) (guest counter : ℕ) (sealed : Archived) → IsSound c → IsDefined c s → archive_of c s guest counter ≡ Some sealed → counter < counter_of (state_after c s) guest
run_below c s guest counter sealed sound defined is = (run_seals (opening c) empty_past s defined (opening_seals c sound)).seals.below guest counter sealed is

pub run_stays : (c : Scenario) (s t : List ℕ) (guest counter : ℕ) (sealed : Archived) → IsSound c → IsDefined c (s ++ t) → archive_of c s guest counter ≡ Some sealed → archive_of c (s ++ t) guest counter ≡ Some sealed
run_stays c s t guest counter sealed sound defined is =
    let first = run_seals (opening c) empty_past s (defined_first (opening c) s t defined) (opening_seals c sound) in
    let second = run_seals (state_from (opening c) s) (past_from (opening c) empty_past s) t (defined_second (opening c) s t defined) first.seals in
    ap (λ (past : Past). past.archive guest counter) (past_append (opening c) empty_past s t) ∙ second.stays guest counter sealed is
