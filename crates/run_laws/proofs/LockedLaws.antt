-- In every state of a run no frame and no context is locked by two actors, what a lock has tested still holds, and what is locked stays as it is.
use Rattle.std.proofs.Common.{◌≡◌, ◌≢◌, ℕ, zero, suc, ◌+◌, ◌-◌, ◌<◌, ◌≤◌, Bool, true, false, not, ◌||◌, cond, eqb, List, [], ◌∷◌, length, set, Option, Some, None, refl, sym, ap, ◌∙◌, subst, ⊎_elim, arith}
use Rattle.std.proofs.lemmas.Bool.{cases_eq, cases_lt, true≢false}
use Rattle.std.proofs.lemmas.Bool.Decides.{nat_tests}
use Rattle.std.proofs.lemmas.List.{get_or-set_same, get_or-set_other, set_past}
use Rattle.std.specs.List.{list_any}
use Rattle.std.specs.Option.{option_or}
use Rattle.snp_model.specs.declared.command.Command.{Command}
use Rattle.snp_model.specs.declared.command.Command.TheVariants as commands
use Rattle.snp_model.specs.declared.entry.Kind.{Kind}
use Rattle.snp_model.specs.declared.entry.PageSize.{PageSize}
use Rattle.snp_model.specs.declared.entry.RmpEntry.{RmpEntry}
use Rattle.snp_model.specs.declared.event.Deed.{Deed}
use Rattle.snp_model.specs.declared.event.Deed.TheVariants as deeds
use Rattle.snp_model.specs.declared.event.Outcome.{Outcome}
use Rattle.snp_model.specs.declared.event.Outcome.TheVariants as outcomes
use Rattle.snp_model.specs.declared.firmware.PageState.{PageState}
use Rattle.snp_model.specs.declared.firmware.PageState.TheVariants as states
use Rattle.snp_model.specs.declared.firmware.Part.{Part}
use Rattle.snp_model.specs.declared.firmware.Part.TheVariants.{Source, Target, Metadata}
use Rattle.snp_model.specs.declared.item.Item.{Item}
use Rattle.snp_model.specs.declared.item.Item.TheVariants as items
use Rattle.snp_model.specs.declared.item.Op.{Op}
use Rattle.snp_model.specs.declared.item.Update.{Update}
use Rattle.snp_model.specs.declared.scenario.GuestSpec.{GuestSpec}
use Rattle.snp_model.specs.declared.scenario.Role.{Role}
use Rattle.snp_model.specs.declared.scenario.Role.TheVariants.{Cpu, Host, Firmware}
use Rattle.snp_model.specs.Facts.{frames_in}
use Rattle.snp_model.specs.Firmware.{CommandPage}
use Rattle.snp_model.specs.FirmwareLocks.{guest_refusal, context_refusal, frame_refusal, page_refusal, page_extra, source_refusal, entry_refusal, owned_refusal, out_entry_refusal, in_entry_refusal}
use Rattle.snp_model.specs.FirmwareStep.{command_asid, lock_refusal}
use Rattle.snp_model.specs.InstructionStep.{facts_of, page_place}
use Rattle.snp_model.specs.Locks.{covers, locks_frame, locks_context, page_lock, range_lock, view_of}
use Rattle.snp_model.specs.Metadata.{entry_at}
use Rattle.snp_model.specs.Moves.{Move}
use Rattle.snp_model.specs.Opening.{asid_of}
use Rattle.snp_model.specs.PageStates.{state_of, firmware_state, is_metadata, allowed}
use Rattle.snp_model.specs.RmpUpdate.{update_lock, update_refusal, is_bad_update, smash_refusal}
use Rattle.snp_model.specs.State.{Page, PageLock, Context, Contents, Standing, nothing_taken, ActorPart, State, part_of, idle_part}
use Rattle.snp_model.specs.Step.{item_move, host_access, line_at, part_after, after}
use Rattle.snp_model.specs.Walking.{Processor}
use Rattle.run_laws.specs.HeldLocks.{PageTest, IsUpdateLock, IsSmashLock, IsWalkedLock, AreCommandLocks, IsOneLock, AreInstructionLocks, AreItemLocks}
use Rattle.run_laws.specs.KeptLocks.{actor_at, IsTestedAt, KeepsLocks}
use Rattle.run_laws.specs.OpenAttempts.{IsWalking}
use Rattle.run_laws.proofs.CommandTests.{page_tests}
use Rattle.run_laws.proofs.FirmwareLocked.{covers_at, held_context, firmware_locks}
use Rattle.run_laws.proofs.InstructionLocality.{update_range_same}
use Rattle.run_laws.proofs.LockLaws.{Grows, exclusive_after, own_covered, not_true, first_none, others_none}
use Rattle.run_laws.proofs.LockedItems.{update_locks, smash_locks}
use Rattle.run_laws.proofs.LockedMoves.{IsFirm, Stands, MoveLocks, ended_locks, access_locks}
use Rattle.run_laws.proofs.LockedWalks.{cpu_access_locks, validate_locks, adjust_locks}
use Rattle.run_laws.proofs.UseLaws.{host_holds_none}

-- each item's event

host_access_locks : (m : State) (part : ActorPart) (address : ℕ) (op : Op) → Stands m part Host (items.Access address op) → MoveLocks m part Host (items.Access address op) (host_access m.contents part address op)
unfolding host_access
host_access_locks m part address op stands =
    access_locks m part Host (items.Access address op) _ _ op _ _ stands
    (λ passed assigned immutable. true≢false (sym assigned ∙ host_holds_none _ op passed))

item_locks : (m : State) (part : ActorPart) (role : Role) (item : Item) → Stands m part role item → MoveLocks m part role item (item_move m.frames m.guests (view_of m) part role item)
unfolding item_move
item_locks m part (Cpu guest vmpl npt paging) (items.Access address op) stands = cpu_access_locks m part (record { guest = guest; vmpl = vmpl; npt = npt; paging = paging }) address op stands
item_locks m part (Cpu guest vmpl npt paging) (items.Pvalidate address size validate) stands = validate_locks m part (record { guest = guest; vmpl = vmpl; npt = npt; paging = paging }) address size validate stands
item_locks m part (Cpu guest vmpl npt paging) (items.Rmpadjust address size target mask vmsa) stands = adjust_locks m part (record { guest = guest; vmpl = vmpl; npt = npt; paging = paging }) address size target mask vmsa stands
item_locks m part (Cpu guest vmpl npt paging) (items.Rmpupdate update) stands = ended_locks m part (Cpu guest vmpl npt paging) (items.Rmpupdate update) deeds.Control outcomes.Next stands
item_locks m part (Cpu guest vmpl npt paging) (items.Psmash frame) stands = ended_locks m part (Cpu guest vmpl npt paging) (items.Psmash frame) deeds.Control outcomes.Next stands
item_locks m part (Cpu guest vmpl npt paging) (items.Firmware command) stands = ended_locks m part (Cpu guest vmpl npt paging) (items.Firmware command) deeds.Control outcomes.Next stands
item_locks m part (Cpu guest vmpl npt paging) (items.Skip count test) stands = ended_locks m part (Cpu guest vmpl npt paging) (items.Skip count test) deeds.Control _ stands
item_locks m part Host (items.Access address op) stands = host_access_locks m part address op stands
item_locks m part Host (items.Pvalidate address size validate) stands = ended_locks m part Host (items.Pvalidate address size validate) deeds.Control outcomes.Next stands
item_locks m part Host (items.Rmpadjust address size target mask vmsa) stands = ended_locks m part Host (items.Rmpadjust address size target mask vmsa) deeds.Control outcomes.Next stands
item_locks m part Host (items.Rmpupdate update) stands = update_locks m part update part.standing.locks refl stands
item_locks m part Host (items.Psmash frame) stands = smash_locks m part frame part.standing.locks refl stands
item_locks m part Host (items.Firmware command) stands = ended_locks m part Host (items.Firmware command) deeds.Control outcomes.Next stands
item_locks m part Host (items.Skip count test) stands = ended_locks m part Host (items.Skip count test) deeds.Control _ stands
item_locks m part Firmware (items.Access address op) stands = ended_locks m part Firmware (items.Access address op) deeds.Control outcomes.Next stands
item_locks m part Firmware (items.Pvalidate address size validate) stands = ended_locks m part Firmware (items.Pvalidate address size validate) deeds.Control outcomes.Next stands
item_locks m part Firmware (items.Rmpadjust address size target mask vmsa) stands = ended_locks m part Firmware (items.Rmpadjust address size target mask vmsa) deeds.Control outcomes.Next stands
item_locks m part Firmware (items.Rmpupdate update) stands = ended_locks m part Firmware (items.Rmpupdate update) deeds.Control outcomes.Next stands
item_locks m part Firmware (items.Psmash frame) stands = ended_locks m part Firmware (items.Psmash frame) deeds.Control outcomes.Next stands
item_locks m part Firmware (items.Firmware command) stands = firmware_locks m part command stands
item_locks m part Firmware (items.Skip count test) stands = ended_locks m part Firmware (items.Skip count test) deeds.Control _ stands

-- what was tested of a frame that stays firm still holds

-- where nothing is locked, nothing was tested
pub nothing_tested : (frames : ℕ) (guests : List GuestSpec) (contents : Contents) (role : Role) (item : Item) (made : List Deed) → AreItemLocks frames guests contents role item made nothing_taken
unfolding AreItemLocks
nothing_tested frames guests contents (Cpu guest vmpl npt paging) (items.Access address op) made = refl
nothing_tested frames guests contents (Cpu guest vmpl npt paging) (items.Pvalidate address size validate) made = record { lock = tt; context = refl; computed = refl }
nothing_tested frames guests contents (Cpu guest vmpl npt paging) (items.Rmpadjust address size target mask vmsa) made = record { lock = tt; context = refl; computed = refl }
nothing_tested frames guests contents (Cpu guest vmpl npt paging) (items.Rmpupdate update) made = refl
nothing_tested frames guests contents (Cpu guest vmpl npt paging) (items.Psmash frame) made = refl
nothing_tested frames guests contents (Cpu guest vmpl npt paging) (items.Firmware command) made = refl
nothing_tested frames guests contents (Cpu guest vmpl npt paging) (items.Skip count test) made = refl
nothing_tested frames guests contents Host (items.Access address op) made = refl
nothing_tested frames guests contents Host (items.Pvalidate address size validate) made = refl
nothing_tested frames guests contents Host (items.Rmpadjust address size target mask vmsa) made = refl
nothing_tested frames guests contents Host (items.Rmpupdate update) made = record { lock = tt; context = refl; computed = refl }
nothing_tested frames guests contents Host (items.Psmash frame) made = record { lock = tt; context = refl; computed = refl }
nothing_tested frames guests contents Host (items.Firmware command) made = refl
nothing_tested frames guests contents Host (items.Skip count test) made = refl
nothing_tested frames guests contents Firmware (items.Access address op) made = refl
nothing_tested frames guests contents Firmware (items.Pvalidate address size validate) made = refl
nothing_tested frames guests contents Firmware (items.Rmpadjust address size target mask vmsa) made = refl
nothing_tested frames guests contents Firmware (items.Rmpupdate update) made = refl
nothing_tested frames guests contents Firmware (items.Psmash frame) made = refl
nothing_tested frames guests contents Firmware (items.Firmware command) made = record { pages = λ number lock is. absurd cc; context = λ guest is. absurd cc }
nothing_tested frames guests contents Firmware (items.Skip count test) made = refl

-- facts of a firm frame
firm_facts : (old new : Contents) (frame : ℕ) → IsFirm (new.pages frame) (old.pages frame) → facts_of old frame ≡ facts_of new frame
firm_facts old new frame firm = sym firm.facts

-- a lock covers its own frame, and that of RMPUPDATE each frame of its range
covers_own : (lock : PageLock) (size : PageSize) → lock ≡ page_lock size lock.frame → covers lock.frame lock ≡ true
covers_own lock size is = subst (λ (l : PageLock). covers lock.frame l ≡ true) (sym is) (own_covered size lock.frame)

in_range_lock : (size : PageSize) (frame place : ℕ) → place < frames_in size → covers (frame + place) (range_lock size frame) ≡ true
in_range_lock size frame place within = grind (arith, nat_tests)

in_update : (update : Update) (lock : PageLock) (place : ℕ) → lock ≡ update_lock update → place < frames_in update.size → covers (update.frame + place) lock ≡ true
in_update update lock place is within = subst (λ (l : PageLock). covers (update.frame + place) l ≡ true) (sym is) (in_range_lock update.size update.frame place within)

-- RMPUPDATE's range
update_kept : (frames : ℕ) (old new : Contents) (update : Update) (lock : PageLock) → ((f : ℕ) → covers f lock ≡ true → IsFirm (new.pages f) (old.pages f)) → IsUpdateLock frames old update lock → IsUpdateLock frames new update lock
unfolding update_refusal
update_kept frames old new update lock firm is = record {
  covers = is.covers;
  passes = ap (cond (is_bad_update frames update) (Some _)) (sym (update_range_same update (λ place. facts_of old (update.frame + place)) (λ place. facts_of new (update.frame + place)) (λ place. None) (λ place. None)
      (λ place within. firm_facts old new (update.frame + place) (firm (update.frame + place) (in_update update lock place is.covers within)))
      (λ place within. refl)))
      ∙ is.passes;
}

smash_kept : (frames : ℕ) (old new : Contents) (frame : ℕ) (lock : PageLock) → ((f : ℕ) → covers f lock ≡ true → IsFirm (new.pages f) (old.pages f)) → IsSmashLock frames old frame lock → IsSmashLock frames new frame lock
smash_kept frames old new frame lock firm is =
    let inside : covers frame lock ≡ true = subst (λ (l : PageLock). covers frame l ≡ true) (sym is.covers) (own_covered (facts_of old frame).size frame) in
    let same = firm_facts old new frame (firm frame inside) in
    record {
      covers = is.covers ∙ ap (λ (facts : RmpEntry). page_lock facts.size frame) same;
      passes = subst (λ (facts : RmpEntry). smash_refusal frames frame facts None ≡ None) same is.passes;
    }

walked_kept : (frames : ℕ) (guests : List GuestSpec) (old new : Contents) (cpu : Processor) (address : ℕ) (test : PageTest) (made : List Deed) (lock : PageLock) → ((f : ℕ) → covers f lock ≡ true → IsFirm (new.pages f) (old.pages f))
    → IsWalkedLock frames guests old cpu address test made lock → IsWalkedLock frames guests new cpu address test made lock
walked_kept frames guests old new cpu address test made lock firm is =
    let inside : covers lock.frame lock ≡ true = covers_own lock (facts_of old lock.frame).size is.covers in
    let same = firm_facts old new lock.frame (firm lock.frame inside) in
    record {
      gpn = is.gpn;
      private = is.private;
      leaf = is.leaf;
      arrived = is.arrived;
      covers = is.covers ∙ ap (λ (facts : RmpEntry). page_lock facts.size lock.frame) same;
      passes = subst (λ (facts : RmpEntry). test (page_place (asid_of guests cpu.guest) cpu.vmpl is.gpn lock.frame is.leaf) facts ≡ None) same is.passes;
    }

or_true : (a b : Bool) → a ≡ true → (a || b) ≡ true
or_true true b is = refl
or_true false b is = absurd (true≢false (sym is))

one_kept : (Old New : PageLock → Type 0) (locks : List PageLock) → ((lock : PageLock) → ((f : ℕ) → covers f lock ≡ true → list_any (covers f) locks ≡ true) → Old lock → New lock)
    → IsOneLock Old locks → IsOneLock New locks
one_kept Old New [] keeps is = tt
one_kept Old New (lock ∷ others) keeps is = (keeps lock (λ f inside. or_true (covers f lock) (list_any (covers f) others) inside) is.0, is.1)

instruction_kept : (Old New : PageLock → Type 0) (standing : Standing) → ((lock : PageLock) → ((f : ℕ) → covers f lock ≡ true → list_any (covers f) standing.locks ≡ true) → Old lock → New lock)
    → AreInstructionLocks Old standing → AreInstructionLocks New standing
instruction_kept Old New standing keeps is = record { lock = one_kept Old New standing.locks keeps is.lock; context = is.context; computed = is.computed }

-- a page of a command: its words count where it is a metadata page
source_same : (command : Command) (asid : ℕ) (state : PageState) (words words' : List ℕ) → allowed command Source state ≡ true → (is_metadata state ≡ true → words ≡ words') → source_refusal command asid words ≡ source_refusal command asid words'
unfolding source_refusal allowed
source_same (commands.GctxCreate guest frame) asid state words words' is same = refl
source_same (commands.Activate guest own) asid state words words' is same = refl
source_same (commands.LaunchStart guest) asid state words words' is same = refl
source_same (commands.LaunchUpdate guest frame page_type imi perms) asid state words words' is same = refl
source_same (commands.LaunchFinish guest) asid state words words' is same = refl
source_same (commands.MdInit frame) asid state words words' is same = refl
source_same (commands.PageMove guest source target) asid state words words' is same = refl
source_same (commands.SwapOut guest source target metadata entry) asid state words words' is same = refl
source_same (commands.SwapIn guest source target metadata entry) asid state words words' is same = refl
source_same (commands.Reclaim frame) asid state words words' is same = refl
source_same (commands.MdOut guest source target metadata entry) asid state words words' is same = ap (owned_refusal asid) (same is)
source_same (commands.MdIn guest source target metadata entry) asid state words words' is same = refl
source_same (commands.MdRootOut guest source target) asid state words words' is same = ap (owned_refusal asid) (same is)
source_same (commands.MdRootIn guest source target) asid state words words' is same = refl

entry_same : (command : Command) (asid : ℕ) (state : PageState) (words words' : List ℕ) → allowed command Metadata state ≡ true → (is_metadata state ≡ true → words ≡ words') → entry_refusal command asid words ≡ entry_refusal command asid words'
unfolding entry_refusal allowed
entry_same (commands.GctxCreate guest frame) asid state words words' is same = refl
entry_same (commands.Activate guest own) asid state words words' is same = refl
entry_same (commands.LaunchStart guest) asid state words words' is same = refl
entry_same (commands.LaunchUpdate guest frame page_type imi perms) asid state words words' is same = refl
entry_same (commands.LaunchFinish guest) asid state words words' is same = refl
entry_same (commands.MdInit frame) asid state words words' is same = refl
entry_same (commands.PageMove guest source target) asid state words words' is same = refl
entry_same (commands.SwapOut guest source target metadata entry) asid state words words' is same = ap (λ (w : List ℕ). out_entry_refusal (entry_at w entry)) (same is)
entry_same (commands.SwapIn guest source target metadata entry) asid state words words' is same = ap (λ (w : List ℕ). in_entry_refusal 1 asid (entry_at w entry)) (same is)
entry_same (commands.Reclaim frame) asid state words words' is same = refl
entry_same (commands.MdOut guest source target metadata entry) asid state words words' is same = ap (λ (w : List ℕ). out_entry_refusal (entry_at w entry)) (same is)
entry_same (commands.MdIn guest source target metadata entry) asid state words words' is same = ap (λ (w : List ℕ). in_entry_refusal 2 asid (entry_at w entry)) (same is)
entry_same (commands.MdRootOut guest source target) asid state words words' is same = refl
entry_same (commands.MdRootIn guest source target) asid state words words' is same = refl

extra_same : (command : Command) (part : Part) (asid : ℕ) (state : PageState) (words words' : List ℕ) → allowed command part state ≡ true → (is_metadata state ≡ true → words ≡ words') → page_extra command part asid words ≡ page_extra command part asid words'
unfolding page_extra
extra_same command Source asid state words words' is same = source_same command asid state words words' is same
extra_same command Target asid state words words' is same = refl
extra_same command Metadata asid state words words' is same = entry_same command asid state words words' is same

-- a metadata page is assigned and immutable
firm_state : (immutable firmwares validated : Bool) (kind : Kind) → is_metadata (cond firmwares (cond immutable (firmware_state kind) states.Reclaim) (cond immutable (cond validated states.PreSwap states.PreGuest) (cond validated states.GuestValid states.GuestInvalid))) ≡ true
    → immutable ≡ true
firm_state true firmwares validated kind is = refl
firm_state false true validated kind is = absurd (true≢false (sym is))
firm_state false false true kind is = absurd (true≢false (sym is))
firm_state false false false kind is = absurd (true≢false (sym is))

metadata_firm : (facts : RmpEntry) → is_metadata (state_of facts) ≡ true → (facts.assigned ≡ true) × (facts.immutable ≡ true)
unfolding state_of
metadata_firm facts is =
    elim facts.assigned as (λ (assigned : Bool). is_metadata (cond (not assigned) states.Hypervisor (cond (eqb facts.asid 0) (cond facts.immutable (firmware_state facts.kind) states.Reclaim)
    (cond facts.immutable (cond facts.validated states.PreSwap states.PreGuest) (cond facts.validated states.GuestValid states.GuestInvalid)))) ≡ true → (assigned ≡ true) × (facts.immutable ≡ true))
    [ true ↦ λ e. (refl, firm_state facts.immutable (eqb facts.asid 0) facts.validated facts.kind e) | false ↦ λ e. absurd (true≢false (sym e)) ] is

page_kept : (frames asid : ℕ) (command : Command) (page : CommandPage) (old new : Page) → IsFirm new old → lock_refusal frames asid command page old None ≡ None → lock_refusal frames asid command page new None ≡ None
unfolding lock_refusal
page_kept frames asid command page old new firm none =
    let rest = others_none (frame_refusal frames page.frame) (option_or (page_refusal command page.part old.facts None asid) (page_extra command page.part asid old.words)) none in
    let of_page = first_none (page_refusal command page.part old.facts None asid) (page_extra command page.part asid old.words) rest in
    let state = (page_tests command page.part old.facts asid of_page).state in
    let words = extra_same command page.part asid (state_of old.facts) old.words new.words state (λ metadata. let is = metadata_firm old.facts metadata in sym (firm.words is.0 is.1)) in
    ap (option_or (frame_refusal frames page.frame))
    (ap (λ (facts : RmpEntry). option_or (page_refusal command page.part facts None asid) (page_extra command page.part asid new.words)) firm.facts
    ∙ ap (option_or (page_refusal command page.part old.facts None asid)) (sym words))
    ∙ none

command_kept : (frames : ℕ) (guests : List GuestSpec) (old new : Contents) (command : Command) (standing : Standing) → ((f : ℕ) → list_any (covers f) standing.locks ≡ true → IsFirm (new.pages f) (old.pages f))
    → ((guest : ℕ) → standing.context_lock ≡ Some guest → new.contexts guest ≡ old.contexts guest) → AreCommandLocks frames guests old command standing → AreCommandLocks frames guests new command standing
command_kept frames guests old new command standing firm contexts is = record {
  pages = λ number lock found.
      let of = is.pages number lock found in
      let inside : covers of.page.frame lock ≡ true = subst (λ (l : PageLock). covers of.page.frame l ≡ true) (sym of.covers) (own_covered (facts_of old of.page.frame).size of.page.frame) in
      let is_firm = firm of.page.frame (covers_at of.page.frame standing.locks number lock found inside) in
      record {
        page = of.page;
        page_is = of.page_is;
        covers = of.covers ∙ ap (λ (facts : RmpEntry). page_lock facts.size of.page.frame) (sym is_firm.facts);
        passes = page_kept frames (command_asid guests command) command of.page (old.pages of.page.frame) (new.pages of.page.frame) is_firm of.passes;
      };
  context = λ guest locked.
      let of = is.context guest locked in
      record {
        guest_is = of.guest_is;
        passes = subst (λ (context : Context). option_or (guest_refusal guests guest) (context_refusal guests command context None) ≡ None) (sym (contexts guest locked)) of.passes;
      };
}

-- so of each item
item_kept : (frames : ℕ) (guests : List GuestSpec) (old new : Contents) (role : Role) (item : Item) (made : List Deed) (standing : Standing) → ((f : ℕ) → list_any (covers f) standing.locks ≡ true → IsFirm (new.pages f) (old.pages f))
    → ((guest : ℕ) → standing.context_lock ≡ Some guest → new.contexts guest ≡ old.contexts guest) → AreItemLocks frames guests old role item made standing → AreItemLocks frames guests new role item made standing
unfolding AreItemLocks
item_kept frames guests old new (Cpu guest vmpl npt paging) (items.Access address op) made standing firm contexts is = is
item_kept frames guests old new (Cpu guest vmpl npt paging) (items.Pvalidate address size validate) made standing firm contexts is =
    instruction_kept _ _ standing (λ lock all. walked_kept frames guests old new (record { guest = guest; vmpl = vmpl; npt = npt; paging = paging }) address _ made lock (λ f inside. firm f (all f inside))) is
item_kept frames guests old new (Cpu guest vmpl npt paging) (items.Rmpadjust address size target mask vmsa) made standing firm contexts is =
    instruction_kept _ _ standing (λ lock all. walked_kept frames guests old new (record { guest = guest; vmpl = vmpl; npt = npt; paging = paging }) address _ made lock (λ f inside. firm f (all f inside))) is
item_kept frames guests old new (Cpu guest vmpl npt paging) (items.Rmpupdate update) made standing firm contexts is = is
item_kept frames guests old new (Cpu guest vmpl npt paging) (items.Psmash frame) made standing firm contexts is = is
item_kept frames guests old new (Cpu guest vmpl npt paging) (items.Firmware command) made standing firm contexts is = is
item_kept frames guests old new (Cpu guest vmpl npt paging) (items.Skip count test) made standing firm contexts is = is
item_kept frames guests old new Host (items.Access address op) made standing firm contexts is = is
item_kept frames guests old new Host (items.Pvalidate address size validate) made standing firm contexts is = is
item_kept frames guests old new Host (items.Rmpadjust address size target mask vmsa) made standing firm contexts is = is
item_kept frames guests old new Host (items.Rmpupdate update) made standing firm contexts is = instruction_kept _ _ standing (λ lock all. update_kept frames old new update lock (λ f inside. firm f (all f inside))) is
item_kept frames guests old new Host (items.Psmash frame) made standing firm contexts is = instruction_kept _ _ standing (λ lock all. smash_kept frames old new frame lock (λ f inside. firm f (all f inside))) is
item_kept frames guests old new Host (items.Firmware command) made standing firm contexts is = is
item_kept frames guests old new Host (items.Skip count test) made standing firm contexts is = is
item_kept frames guests old new Firmware (items.Access address op) made standing firm contexts is = is
item_kept frames guests old new Firmware (items.Pvalidate address size validate) made standing firm contexts is = is
item_kept frames guests old new Firmware (items.Rmpadjust address size target mask vmsa) made standing firm contexts is = is
item_kept frames guests old new Firmware (items.Rmpupdate update) made standing firm contexts is = is
item_kept frames guests old new Firmware (items.Psmash frame) made standing firm contexts is = is
item_kept frames guests old new Firmware (items.Firmware command) made standing firm contexts is = command_kept frames guests old new command standing firm contexts is
item_kept frames guests old new Firmware (items.Skip count test) made standing firm contexts is = is

-- before an event of an actor
stands_at : (m : State) (actor : ℕ) → KeepsLocks m → IsWalking m.frames (part_of m actor) → Stands m (part_of m actor) (part_of m actor).role (line_at (part_of m actor).script (part_of m actor).item).item
stands_at m actor keeps walking = record {
  whole = keeps.whole;
  exclusive = keeps.one;
  locks_whole = λ f g. keeps.one.whole (actor - 1) f g;
  tested = keeps.tested (actor - 1);
  walking = walking;
}

-- its own locks after it
ended_frame : (part : ActorPart) (move : Move) (outcome : Outcome) (f : ℕ) → locks_frame f (part_after part move (Some outcome)) ≡ false
unfolding part_after
ended_frame part move outcome f = refl

ended_context : (part : ActorPart) (move : Move) (outcome : Outcome) (g : ℕ) → locks_context g (part_after part move (Some outcome)) ≡ false
unfolding part_after
ended_context part move outcome g = refl

grows_after : (m : State) (actor : ℕ) (role : Role) (item : Item) (move : Move) (outcome : Option Outcome) → move.outcome ≡ outcome → MoveLocks m (part_of m actor) role item move
    → Grows m.contents.pages move.contents.pages m.actors (actor - 1) (part_after (part_of m actor) move outcome)
unfolding part_after
grows_after m actor role item move None is locks =
    let on = locks.goes_on is in
    record {
      frames = on.frames;
      contexts = on.contexts;
      whole = on.locks_whole;
      sizes = λ f free. ap (λ (facts : RmpEntry). facts.size) (locks.own f free).facts;
    }
grows_after m actor role item move (Some outcome) is locks = record {
  frames = λ f locked. absurd (true≢false (sym locked ∙ ended_frame (part_of m actor) move outcome f));
  contexts = λ g locked. absurd (true≢false (sym locked ∙ ended_context (part_of m actor) move outcome g));
  whole = λ f g locked. absurd (true≢false (sym locked ∙ ended_frame (part_of m actor) move outcome f));
  sizes = λ f free. ap (λ (facts : RmpEntry). facts.size) (locks.own f free).facts;
}

-- what its own attempt has tested after it
tested_part : (m : State) (part : ActorPart) (move : Move) (outcome : Option Outcome) → move.outcome ≡ outcome → MoveLocks m part part.role (line_at part.script part.item).item move
    → AreItemLocks m.frames m.guests move.contents (part_after part move outcome).role (line_at (part_after part move outcome).script (part_after part move outcome).item).item (part_after part move outcome).deeds (part_after part move outcome).standing
unfolding part_after
tested_part m part move None is locks = (locks.goes_on is).tested
tested_part m part move (Some outcome) is locks = nothing_tested m.frames m.guests move.contents part.role _ []

-- and what another's
tested_other : (m : State) (actor place : ℕ) (role : Role) (item : Item) (move : Move) → KeepsLocks m → MoveLocks m (part_of m actor) role item move → place ≢ actor - 1
    → AreItemLocks m.frames m.guests move.contents (actor_at m.actors place).role (line_at (actor_at m.actors place).script (actor_at m.actors place).item).item (actor_at m.actors place).deeds (actor_at m.actors place).standing
tested_other m actor place role item move keeps locks other =
    let part = actor_at m.actors place in
    item_kept m.frames m.guests m.contents move.contents part.role _ part.deeds part.standing
    (λ f locked. locks.own f (not_true (locks_frame f (part_of m actor)) (λ own. other (keeps.one.pages_by_one place (actor - 1) f locked own))))
    (λ guest locked. locks.own_contexts guest (not_true (locks_context guest (part_of m actor)) (λ own. other (keeps.one.contexts_by_one place (actor - 1) guest (held_context part guest locked) own))))
    (keeps.tested place)

idle_tested : (m : State) (contents : Contents) → AreItemLocks m.frames m.guests contents idle_part.role (line_at idle_part.script idle_part.item).item idle_part.deeds idle_part.standing
unfolding idle_part
idle_tested m contents = nothing_tested m.frames m.guests contents Host _ []

past_idle : (actors : List ActorPart) (k : ℕ) → length actors ≤ k → actor_at actors k ≡ idle_part
past_idle [] k past = refl
past_idle (part ∷ parts) zero past = absurd (omega arith)
past_idle (part ∷ parts) (suc k) past = past_idle parts k (omega arith)

-- so of each
tested_after : (m : State) (actor place : ℕ) (move : Move) → KeepsLocks m → MoveLocks m (part_of m actor) (part_of m actor).role (line_at (part_of m actor).script (part_of m actor).item).item move
    → IsTestedAt m.frames m.guests move.contents (actor_at (set m.actors (actor - 1) (part_after (part_of m actor) move move.outcome)) place)
tested_after m actor place move keeps locks =
    let part = part_of m actor in
    let new = part_after part move move.outcome in
    ⊎_elim
    (λ (same : place ≡ actor - 1). ⊎_elim
    (λ (within : actor - 1 < length m.actors).
    subst (λ (k : ℕ). IsTestedAt m.frames m.guests move.contents (actor_at (set m.actors (actor - 1) new) k)) (sym same)
    (subst (IsTestedAt m.frames m.guests move.contents) (sym (get_or-set_same m.actors (actor - 1) new idle_part within)) (tested_part m part move move.outcome refl locks)))
    (λ (past : length m.actors ≤ actor - 1).
    subst (λ (xs : List ActorPart). IsTestedAt m.frames m.guests move.contents (actor_at xs place)) (sym (set_past m.actors (actor - 1) new past))
    (subst (IsTestedAt m.frames m.guests move.contents) (sym (past_idle m.actors place (omega arith))) (idle_tested m move.contents)))
    (cases_lt (actor - 1) (length m.actors)))
    (λ (other : place ≡ actor - 1 → ⊥).
    subst (IsTestedAt m.frames m.guests move.contents) (sym (get_or-set_other m.actors (actor - 1) place new idle_part other)) (tested_other m actor place _ _ move keeps locks other))
    (cases_eq place (actor - 1))

abbrev pub move_at : State → ℕ → Move
move_at m actor =
    let part = part_of m actor in item_move m.frames m.guests (view_of m) part part.role (line_at part.script part.item).item

pub move_locks : (m : State) (actor : ℕ) → KeepsLocks m → IsWalking m.frames (part_of m actor) → MoveLocks m (part_of m actor) (part_of m actor).role (line_at (part_of m actor).script (part_of m actor).item).item (move_at m actor)
move_locks m actor keeps walking = item_locks m (part_of m actor) _ _ (stands_at m actor keeps walking)

pub step_keeps_locks : (m : State) (actor : ℕ) → KeepsLocks m → IsWalking m.frames (part_of m actor) → KeepsLocks (after m actor)
unfolding after
step_keeps_locks m actor keeps walking =
    let locks = move_locks m actor keeps walking in
    let move = move_at m actor in
    record {
      whole = locks.whole;
      one = exclusive_after m.contents.pages move.contents.pages m.actors (actor - 1) _ keeps.one (grows_after m actor _ _ move move.outcome refl locks);
      tested = λ place. tested_after m actor place move keeps locks;
    }
