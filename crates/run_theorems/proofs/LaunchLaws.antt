-- A context's digest is the measure of the pages that were launched into it: at the opening there is none, and each event keeps it.
use Rattle.std.proofs.Common.{◌≡◌, ℕ, ◌==◌, Bool, true, false, List, [], ◌∷◌, ◌++◌, Option, Some, None, Result, Ok, Err, refl, sym, subst, ap, ◌∙◌, ◌-◌, replicate, slice_get, if◌then◌else◌}
use Rattle.std.proofs.lemmas.Bool.{cond_both, eqb-true, true≢false}
use Rattle.std.proofs.lemmas.List.Sums.{fold-append}
use Rattle.snp_model.specs.declared.command.Command.{Command}
use Rattle.snp_model.specs.declared.command.Command.TheVariants as commands
use Rattle.snp_model.specs.declared.event.Deed.{Deed}
use Rattle.snp_model.specs.declared.event.Deed.TheVariants as deeds
use Rattle.snp_model.specs.declared.event.FwRefusal.{FwRefusal}
use Rattle.snp_model.specs.declared.event.Outcome.{Outcome}
use Rattle.snp_model.specs.declared.item.Item.{Item}
use Rattle.snp_model.specs.declared.item.Item.TheVariants as items
use Rattle.snp_model.specs.declared.scenario.GuestSpec.{GuestSpec}
use Rattle.snp_model.specs.declared.scenario.Scenario.{Scenario}
use Rattle.snp_model.specs.Firmware.{guest_of, pages_of}
use Rattle.snp_model.specs.FirmwareCommits.{at_frame, at_guest, launched_facts, launched_page, context_after, launched_into}
use Rattle.snp_model.specs.FirmwareStep.{context_taken, computed_move, commit_move, context_committed, contexts_after, pages_after, commit_deed}
use Rattle.snp_model.specs.Locks.{view_of}
use Rattle.snp_model.specs.Measurement.{LaunchedPage, digest_after, measure}
use Rattle.snp_model.specs.Moves.{Move, lock_move}
use Rattle.snp_model.specs.Opening.{opening, opening_context}
use Rattle.snp_model.specs.Run.{state_from, state_after}
use Rattle.snp_model.specs.State.{PageLock, Context, Contexts, Contents, Computed, ActorPart, Page, Pages, State, part_of}
use Rattle.snp_model.specs.Step.{event_of, after, line_at}
use Rattle.run_theorems.specs.Launches.{launched_with, launched_after, launched_from, launched_in}
use Rattle.run_theorems.proofs.EventLaws.{OfPlain, OfCommand, every_event, is_command}

-- the digest of a guest's context is the measure of these pages
abbrev HasDigest : ℕ → List LaunchedPage → Contents → Type 0
HasDigest guest launched contents = (contents.contexts guest).digest ≡ measure launched

-- so after a move of an item
abbrev KeepsDigest : ℕ → Item → List LaunchedPage → Move → Type 0
KeepsDigest guest item launched move = HasDigest guest (launched_with guest move.contents.pages move.deed item launched) move.contents

measure_push : (launched : List LaunchedPage) (page : LaunchedPage) → measure (launched ++ page ∷ []) ≡ digest_after (measure launched) page
measure_push launched page = fold-append digest_after (replicate 48 0) launched (page ∷ [])

-- an item that is no command launches nothing, whatever its event shows
plain_launches : (guest : ℕ) (pages : Pages) (deed : Deed) (item : Item) (launched : List LaunchedPage) → is_command item ≡ false → launched_with guest pages deed item launched ≡ launched
plain_launches guest pages deed (items.Access address op) launched plain = refl
plain_launches guest pages deed (items.Pvalidate address size validate) launched plain = refl
plain_launches guest pages deed (items.Rmpadjust address size target mask vmsa) launched plain = refl
plain_launches guest pages deed (items.Rmpupdate update) launched plain = refl
plain_launches guest pages deed (items.Psmash frame) launched plain = refl
plain_launches guest pages deed (items.Firmware command) launched plain = absurd (true≢false plain)
plain_launches guest pages deed (items.Skip count test) launched plain = refl

plain_keeps : (guest : ℕ) (item : Item) (launched : List LaunchedPage) (contents : Contents) (pages : Pages) (deed : Deed) → is_command item ≡ false → HasDigest guest launched contents
    → (contents.contexts guest).digest ≡ measure (launched_with guest pages deed item launched)
plain_keeps guest item launched contents pages deed plain has = has ∙ ap measure (sym (plain_launches guest pages deed item launched plain))

lock_keeps : (guest : ℕ) (item : Item) (launched : List LaunchedPage) (contents : Contents) (part : ActorPart) (lock : PageLock) → is_command item ≡ false → HasDigest guest launched contents
    → KeepsDigest guest item launched (lock_move contents part lock None)
unfolding lock_move
lock_keeps guest item launched contents part lock plain has = plain_keeps guest item launched contents contents.pages (deeds.Lock lock.frame) plain has

plain_digest : (guest : ℕ) (item : Item) (launched : List LaunchedPage) (contents : Contents) (part : ActorPart) → HasDigest guest launched contents → is_command item ≡ false → OfPlain (KeepsDigest guest item launched) contents part
plain_digest guest item launched contents part has plain = record {
  quiet = λ deed ended. plain_keeps guest item launched contents contents.pages deed plain has;
  locks = λ lock. lock_keeps guest item launched contents part lock plain has;
  accesses = λ deed op word pages. plain_keeps guest item launched contents pages deed plain has;
  succeeds = λ deed pages. plain_keeps guest item launched contents pages deed plain has;
  carries = λ deed carry pages. plain_keeps guest item launched contents pages deed plain has;
}

-- a command: its locks and its compute show no frame of a commit
taken_digest : (guest : ℕ) (command : Command) (launched : List LaunchedPage) (contents : Contents) (part : ActorPart) → HasDigest guest launched contents → (owner : ℕ) (refusal : Option FwRefusal)
    → KeepsDigest guest (items.Firmware command) launched (context_taken contents part owner refusal)
unfolding context_taken
taken_digest guest command launched contents part has owner None = has
taken_digest guest command launched contents part has owner (Some refusal) = has

locked_digest : (guest : ℕ) (command : Command) (launched : List LaunchedPage) (contents : Contents) (part : ActorPart) → HasDigest guest launched contents → (lock : PageLock) (refusal : Option Outcome)
    → KeepsDigest guest (items.Firmware command) launched (lock_move contents part lock refusal)
unfolding lock_move
locked_digest guest command launched contents part has lock None = has
locked_digest guest command launched contents part has lock (Some ended) = has

computed_digest : (guest : ℕ) (command : Command) (launched : List LaunchedPage) (contents : Contents) (part : ActorPart) → HasDigest guest launched contents → (result : Result Computed FwRefusal)
    → KeepsDigest guest (items.Firmware command) launched (computed_move contents part result)
unfolding computed_move
computed_digest guest command launched contents part has (Ok made) = has
computed_digest guest command launched contents part has (Err refusal) = has

-- its commit: of a guest's own context, or of another's
choose : (test : Bool) (new old : Context) (more launched : List LaunchedPage) → (test ≡ true → new.digest ≡ measure more) → (test ≡ false → old.digest ≡ measure launched)
    → (if test then new else old).digest ≡ measure (if test then more else launched)
choose true new old more launched own other = own refl
choose false new old more launched own other = other refl

put : (owner guest : ℕ) (new : Context) (contexts : Contexts) (more launched : List LaunchedPage) → (contexts guest).digest ≡ measure launched → (owner ≡ guest → new.digest ≡ measure more)
    → (at_guest owner new contexts guest).digest ≡ measure (if owner == guest then more else launched)
unfolding at_guest
put owner guest new contexts more launched has makes = choose (owner == guest) new (contexts guest) more launched (λ own. makes (eqb-true owner guest own)) (λ apart. has)

-- a commit that leaves the digest of its guest's context
left : (owner guest : ℕ) (new : Context) (contexts : Contexts) (launched : List LaunchedPage) → (contexts guest).digest ≡ measure launched → new.digest ≡ (contexts owner).digest → (at_guest owner new contexts guest).digest ≡ measure launched
unfolding at_guest
left owner guest new contexts launched has keeps =
    cond_both (owner == guest) _ _ (λ (context : Context). context.digest ≡ measure launched) (λ own. keeps ∙ ap (λ (g : ℕ). (contexts g).digest) (eqb-true owner guest own) ∙ has) (λ apart. has)

-- the frame that a launch changes keeps its guest page number
launched_gpn : (frame page_type : ℕ) (perms : List ℕ) (pages : Pages) → (at_frame frame (launched_page page_type perms (pages frame)) pages frame).facts.gpn ≡ (pages frame).facts.gpn
unfolding at_frame launched_facts
launched_gpn frame page_type perms pages = cond_both (frame == frame) _ _ (λ (page : Page). page.facts.gpn ≡ (pages frame).facts.gpn) (λ own. refl) (λ apart. refl)

-- and so its page is the one that the digest takes in
taken_in : (digest : List ℕ) (launched : List LaunchedPage) (page_type gpn shown : ℕ) (imi : Bool) (perms words : List ℕ) → digest ≡ measure launched → gpn ≡ shown
    → digest_after digest (record { page_type = page_type; imi = imi; perms = perms; gpn = gpn; words = words })
    ≡ measure (launched ++ record { page_type = page_type; imi = imi; perms = perms; gpn = shown; words = words } ∷ [])
taken_in digest launched page_type gpn shown imi perms words has is =
    ap (λ (d : List ℕ). digest_after d (record { page_type = page_type; imi = imi; perms = perms; gpn = gpn; words = words })) has
    ∙ ap (λ (g : ℕ). digest_after (measure launched) (record { page_type = page_type; imi = imi; perms = perms; gpn = g; words = words })) is
    ∙ sym (measure_push launched (record { page_type = page_type; imi = imi; perms = perms; gpn = shown; words = words }))

commit_digest : (guest : ℕ) (command : Command) (launched : List LaunchedPage) (contents : Contents) (part : ActorPart) → HasDigest guest launched contents → KeepsDigest guest (items.Firmware command) launched (commit_move contents part command)
unfolding commit_move commit_deed contexts_after context_committed context_after launched_into pages_after guest_of pages_of
commit_digest guest (commands.GctxCreate owner frame) launched contents part has = put owner guest _ contents.contexts [] launched has (λ own. refl)
commit_digest guest (commands.Activate owner asid) launched contents part has = left owner guest _ contents.contexts launched has refl
commit_digest guest (commands.LaunchStart owner) launched contents part has = left owner guest _ contents.contexts launched has refl
commit_digest guest (commands.LaunchUpdate owner frame page_type imi perms) launched contents part has =
    put owner guest _ contents.contexts _ launched has
    (λ own. taken_in _ launched page_type _ _ imi perms _ (ap (λ (g : ℕ). (contents.contexts g).digest) own ∙ has) (launched_gpn frame page_type perms contents.pages))
commit_digest guest (commands.LaunchFinish owner) launched contents part has = left owner guest _ contents.contexts launched has refl
commit_digest guest (commands.MdInit frame) launched contents part has = has
commit_digest guest (commands.PageMove owner source target) launched contents part has = left owner guest _ contents.contexts launched has refl
commit_digest guest (commands.SwapOut owner source target metadata entry) launched contents part has = left owner guest _ contents.contexts launched has refl
commit_digest guest (commands.SwapIn owner source target metadata entry) launched contents part has = left owner guest _ contents.contexts launched has refl
commit_digest guest (commands.Reclaim frame) launched contents part has = has
commit_digest guest (commands.MdOut owner source target metadata entry) launched contents part has = left owner guest _ contents.contexts launched has refl
commit_digest guest (commands.MdIn owner source target metadata entry) launched contents part has = left owner guest _ contents.contexts launched has refl
commit_digest guest (commands.MdRootOut owner source target) launched contents part has = left owner guest _ contents.contexts launched has refl
commit_digest guest (commands.MdRootIn owner source target) launched contents part has = left owner guest _ contents.contexts launched has refl

command_digest : (guest : ℕ) (item : Item) (launched : List LaunchedPage) (contents : Contents) (part : ActorPart) (command : Command) → HasDigest guest launched contents → item ≡ items.Firmware command
    → OfCommand (KeepsDigest guest item launched) contents part command
command_digest guest item launched contents part command has is =
    subst (λ (i : Item). OfCommand (KeepsDigest guest i launched) contents part command) (sym is)
    (record {
      takes = taken_digest guest command launched contents part has;
      locks = locked_digest guest command launched contents part has;
      computes = computed_digest guest command launched contents part has;
      commits = commit_digest guest command launched contents part has;
      misplaced = has;
    })

-- so each actor's step
step_digest : (guest : ℕ) (m : State) (launched : List LaunchedPage) (actor : ℕ) → HasDigest guest launched m.contents → HasDigest guest (launched_after guest m actor launched) (after m actor).contents
unfolding event_of after launched_after
step_digest guest m launched actor has =
    let part = part_of m actor in
    let item = (line_at part.script part.item).item in
    every_event (KeepsDigest guest item launched) m.frames m.guests (view_of m) part part.role item (plain_digest guest item launched m.contents part has) (λ command is. command_digest guest item launched m.contents part command has is)

-- and each run
run_digest : (guest : ℕ) (m : State) (launched : List LaunchedPage) (schedule : List ℕ) → HasDigest guest launched m.contents → HasDigest guest (launched_from guest m launched schedule) (state_from m schedule).contents
unfolding launched_from state_from
run_digest guest m launched [] has = has
run_digest guest m launched (actor ∷ actors) has = run_digest guest (after m actor) (launched_after guest m actor launched) actors (step_digest guest m launched actor has)

opening_digest : (guest : Option GuestSpec) → (opening_context guest).digest ≡ replicate 48 0
unfolding opening_context
opening_digest None = refl
opening_digest (Some guest) = refl

pub digest_is : (scenario : Scenario) (schedule : List ℕ) (guest : ℕ) → ((state_after scenario schedule).contents.contexts guest).digest ≡ measure (launched_in scenario schedule guest)
unfolding opening
digest_is scenario schedule guest = run_digest guest (opening scenario) [] schedule (opening_digest (slice_get scenario.guests (guest - 1)))
