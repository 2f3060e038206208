-- The numbers of each event of a run fit the types that a line of a report is read into.
use Rattle.std.proofs.Common.{◌≡◌, ℕ, zero, suc, ◌+◌, ◌-◌, ◌*◌, ◌^◌, ◌<◌, ◌≤◌, Bool, true, false, cond, List, [], ◌∷◌, ◌++◌, length, map, get_or, Some, None, refl, sym, ap, ◌∙◌, subst, ⊎_elim, arith}
use Rattle.std.specs.List.{AllByRecursion}
use Rattle.std.proofs.lemmas.List.{length-map}
use Rattle.std.proofs.lemmas.Bool.{cases_Bool}
use Rattle.snp_model.specs.declared.firmware.MetaEntry.{MetaEntry}
use Rattle.snp_model.specs.declared.item.Item.{Item}
use Rattle.snp_model.specs.declared.item.Item.TheVariants as items
use Rattle.snp_model.specs.declared.item.Line.{Line}
use Rattle.snp_model.specs.declared.scenario.Actor.{Actor}
use Rattle.snp_model.specs.declared.scenario.GuestSpec.{GuestSpec}
use Rattle.snp_model.specs.declared.scenario.Role.{Role}
use Rattle.snp_model.specs.declared.scenario.Role.TheVariants.{Cpu, Host, Firmware}
use Rattle.snp_model.specs.declared.scenario.Scenario.{Scenario}
use Rattle.snp_model.specs.Attempts.{actors_attempts, attempts_of, script_attempts}
use Rattle.snp_model.specs.Bounds.{IsRole, IsItemOf}
use Rattle.snp_model.specs.InstructionStep.{page_lookup, validate_begin, adjust_begin}
use Rattle.snp_model.specs.Locks.{context_holder_from, holder_from, locks_context, locks_frame, view_of}
use Rattle.snp_model.specs.Metadata.{IsMetaEntry}
use Rattle.snp_model.specs.Moves.{Move, misplaced_move}
use Rattle.snp_model.specs.Opening.{opening, opening_part}
use Rattle.snp_model.specs.Run.{IsDefined, IsDefinedFrom, run_from, run_of, state_after, state_from}
use Rattle.snp_model.specs.Sealing.{Slot, OfEntry, OfRoot, slot_entry}
use Rattle.snp_model.specs.Sound.{IsSound}
use Rattle.snp_model.specs.Spelled.{IsSpelled, IsSpelledActor, IsSpelledLine, IsWide}
use Rattle.snp_model.specs.State.{ActorPart, Contents, State, View, idle_part, part_of, IsUnfinished}
use Rattle.snp_model.specs.Step.{after, event_of, item_move, line_at}
use Rattle.snp_model.specs.Walking.{Processor, lookup_of}
use Rattle.run_laws.specs.HeldLocks.{AreItemLocks}
use Rattle.run_laws.specs.OpenAttempts.{IsAttempt}
use Rattle.run_laws.specs.Ready.{AreReady}
use Rattle.run_laws.proofs.EntryWords.{entry_fits}
use Rattle.run_laws.proofs.InOrder.{IsInOrder}
use Rattle.run_laws.proofs.ReadyLaws.{ready_line, run_ready}
use Rattle.run_laws.proofs.RunLaws.{after_frames, after_length, defined_none, defined_push, state_keeps, state_none, state_push, unfinished_at}
use Rattle.run_laws.proofs.SealedRuns.{run_order}
use Rattle.run_laws.proofs.ShapedSteps.{next_move, order_after}
use Rattle.run_theorems.specs.Ranges.{IsRanged}
use Rattle.run_theorems.proofs.RangeLaws.{event_ranged}
use Rattle.report_text.specs.EventNumbers.{IsEvent}
use Rattle.report_audit.specs.Again.{IsEntry}
use Rattle.audit_laws.proofs.CommandFits.{HasSeals, firmware_fits}
use Rattle.audit_laws.proofs.CpuFits.{LooksAt, access_fits, adjust_begin_fits, adjust_fits, guest_verdict_fits, validate_begin_fits, validate_fits, walked_fits}
use Rattle.audit_laws.proofs.HostFits.{IsFitMove, host_access_fits, ranged_fits, skip_fits, smash_fits, update_fits}

-- what is asked of a move by the role of its actor: a processor's has ranges, and memory after a command of the firmware has guest page numbers of 64 bits
abbrev IsRangedFor : Role → Move → Type 0
IsRangedFor (Cpu guest vmpl npt paging) move = IsRanged move.deed
IsRangedFor Host move = Unit {0}
IsRangedFor Firmware move = (frame : ℕ) → (move.contents.pages frame).facts.gpn < 2 ^ 64

misplaced : (contents : Contents) (part : ActorPart) → IsFitMove (misplaced_move contents part)
misplaced contents part = record { deed = tt; outcome = tt }

item_fits : (frames : ℕ) (guests : List GuestSpec) (view : View) (part : ActorPart) (role : Role) (item : Item) → LooksAt frames view → HasSeals view.contents → IsRole frames (length guests) role
    → IsItemOf frames role item → IsWide item → AreItemLocks frames guests view.contents role item part.deeds part.standing → IsAttempt frames role item part.standing part.deeds
    → IsRangedFor role (item_move frames guests view part role item) → IsFitMove (item_move frames guests view part role item)
unfolding item_move AreItemLocks IsAttempt
item_fits frames guests view part (Cpu guest vmpl npt paging) (items.Access address op) looks seals is fits wide tested walk ranged =
    let cpu : Processor = record { guest = guest; vmpl = vmpl; npt = npt; paging = paging } in
    ranged_fits _ ranged
    (walked_fits frames guests view part cpu (lookup_of address op) None _ part.deeds looks is.npt_below tt
    (λ gpn private frame size inside. let small = looks.small in access_fits view.contents part _ _ op frame _ (omega (arith, small, inside)) (looks.words frame) (guest_verdict_fits (view.contents.pages frame).facts _ op)))
item_fits frames guests view part (Cpu guest vmpl npt paging) (items.Pvalidate address size validate) looks seals is fits wide tested walk ranged =
    let cpu : Processor = record { guest = guest; vmpl = vmpl; npt = npt; paging = paging } in
    ranged_fits _ ranged
    (walked_fits frames guests view part cpu (page_lookup address) (validate_begin cpu address size) _ part.deeds looks is.npt_below (validate_begin_fits cpu address size) (validate_fits frames guests view part cpu size validate part.standing.locks looks))
item_fits frames guests view part (Cpu guest vmpl npt paging) (items.Rmpadjust address size target mask vmsa) looks seals is fits wide tested walk ranged =
    let cpu : Processor = record { guest = guest; vmpl = vmpl; npt = npt; paging = paging } in
    ranged_fits _ ranged
    (walked_fits frames guests view part cpu (page_lookup address) (adjust_begin cpu address size target mask) _ part.deeds looks is.npt_below (adjust_begin_fits cpu address size target mask)
    (adjust_fits frames guests view part cpu size target mask vmsa part.standing.locks looks))
item_fits frames guests view part (Cpu guest vmpl npt paging) (items.Rmpupdate update) looks seals is fits wide tested walk ranged = misplaced view.contents part
item_fits frames guests view part (Cpu guest vmpl npt paging) (items.Psmash frame) looks seals is fits wide tested walk ranged = misplaced view.contents part
item_fits frames guests view part (Cpu guest vmpl npt paging) (items.Firmware command) looks seals is fits wide tested walk ranged = misplaced view.contents part
item_fits frames guests view part (Cpu guest vmpl npt paging) (items.Skip count test) looks seals is fits wide tested walk ranged = skip_fits view.contents part count test fits
item_fits frames guests view part Host (items.Access address op) looks seals is fits wide tested walk ranged = host_access_fits frames view part address op looks fits.0
item_fits frames guests view part Host (items.Pvalidate address size validate) looks seals is fits wide tested walk ranged = misplaced view.contents part
item_fits frames guests view part Host (items.Rmpadjust address size target mask vmsa) looks seals is fits wide tested walk ranged = misplaced view.contents part
item_fits frames guests view part Host (items.Rmpupdate update) looks seals is fits wide tested walk ranged = update_fits frames view part update part.standing.locks looks fits wide tested.lock
item_fits frames guests view part Host (items.Psmash frame) looks seals is fits wide tested walk ranged = smash_fits frames view part frame part.standing.locks looks wide tested.lock
item_fits frames guests view part Host (items.Firmware command) looks seals is fits wide tested walk ranged = misplaced view.contents part
item_fits frames guests view part Host (items.Skip count test) looks seals is fits wide tested walk ranged = skip_fits view.contents part count test fits
item_fits frames guests view part Firmware (items.Access address op) looks seals is fits wide tested walk ranged = misplaced view.contents part
item_fits frames guests view part Firmware (items.Pvalidate address size validate) looks seals is fits wide tested walk ranged = misplaced view.contents part
item_fits frames guests view part Firmware (items.Rmpadjust address size target mask vmsa) looks seals is fits wide tested walk ranged = misplaced view.contents part
item_fits frames guests view part Firmware (items.Rmpupdate update) looks seals is fits wide tested walk ranged = misplaced view.contents part
item_fits frames guests view part Firmware (items.Psmash frame) looks seals is fits wide tested walk ranged = misplaced view.contents part
item_fits frames guests view part Firmware (items.Firmware command) looks seals is fits wide tested walk ranged =
    firmware_fits frames guests view part command looks seals fits wide tested walk.pages ranged
item_fits frames guests view part Firmware (items.Skip count test) looks seals is fits wide tested walk ranged = skip_fits view.contents part count test fits

-- a holder is an actor's number
holder_small : (first : ℕ) (actors : List ActorPart) (frame h : ℕ) → holder_from first actors frame ≡ Some h → h < first + length actors
unfolding holder_from
holder_small first [] frame h is = cc
holder_small first (part ∷ actors) frame h is =
    ⊎_elim
    (λ (own : locks_frame frame part ≡ true).
    let found : Some first ≡ Some h = subst (λ (b : Bool). cond b (Some first) (holder_from (first + 1) actors frame) ≡ Some h) own is in
    let same : first ≡ h = cc in
    omega (arith, same))
    (λ (other : locks_frame frame part ≡ false).
    let later = holder_small (first + 1) actors frame h (subst (λ (b : Bool). cond b (Some first) (holder_from (first + 1) actors frame) ≡ Some h) other is) in
    omega (arith, later))
    (cases_Bool (locks_frame frame part))

context_holder_small : (first : ℕ) (actors : List ActorPart) (guest h : ℕ) → context_holder_from first actors guest ≡ Some h → h < first + length actors
unfolding context_holder_from
context_holder_small first [] guest h is = cc
context_holder_small first (part ∷ actors) guest h is =
    ⊎_elim
    (λ (own : locks_context guest part ≡ true).
    let found : Some first ≡ Some h = subst (λ (b : Bool). cond b (Some first) (context_holder_from (first + 1) actors guest) ≡ Some h) own is in
    let same : first ≡ h = cc in
    omega (arith, same))
    (λ (other : locks_context guest part ≡ false).
    let later = context_holder_small (first + 1) actors guest h (subst (λ (b : Bool). cond b (Some first) (context_holder_from (first + 1) actors guest) ≡ Some h) other is) in
    omega (arith, later))
    (cases_Bool (locks_context guest part))

-- a state of a memory of at most 16 regions and at most 32 actors
state_looks : (m : State) → IsInOrder m → m.frames ≤ 8192 → length m.actors ≤ 32 → LooksAt m.frames (view_of m)
state_looks m order small few = record {
  small = small;
  words = order.shapes.words;
  gpns = λ frame. (order.shapes.facts frame).ranges.gpn;
  holders = λ frame h is. let below = holder_small 1 m.actors frame h is in omega (arith, below, few);
  context_holders = λ guest h is. let below = context_holder_small 1 m.actors guest h is in omega (arith, below, few);
}

slot_fits : (m : State) → IsInOrder m → (owner : ℕ) (slot : Slot) (entry : MetaEntry) → slot_entry m.contents.pages (m.contents.contexts owner) slot ≡ Some entry → IsMetaEntry entry
slot_fits m order owner (OfEntry metadata number) entry is = entry_fits (m.contents.pages metadata).words number entry (order.shapes.words metadata).whole is
slot_fits m order owner OfRoot entry is = order.roots owner entry is

state_seals : (m : State) → IsInOrder m → HasSeals m.contents
state_seals m order = record { keys = λ guest. (order.shapes.contexts guest).key; entries = slot_fits m order }

-- what the next event has of its role
after_gpn : (m : State) (actor frame : ℕ) → ((after m actor).contents.pages frame).facts.gpn < 2 ^ 64 → ((next_move m actor).contents.pages frame).facts.gpn < 2 ^ 64
unfolding after
after_gpn m actor frame small = small

new_gpns : (m : State) (actor : ℕ) → IsInOrder m → IsUnfinished m actor → (frame : ℕ) → ((next_move m actor).contents.pages frame).facts.gpn < 2 ^ 64
new_gpns m actor order unfinished frame = after_gpn m actor frame ((order_after m actor unfinished order).shapes.facts frame).ranges.gpn

deed_is : (m : State) (actor : ℕ) → (event_of m actor).deed ≡ (next_move m actor).deed
unfolding event_of
deed_is m actor = refl

ranged_for : (m : State) (actor : ℕ) (role : Role) → IsInOrder m → IsUnfinished m actor → (part_of m actor).role ≡ role → IsRangedFor role (next_move m actor)
ranged_for m actor (Cpu guest vmpl npt paging) order unfinished is = subst IsRanged (deed_is m actor) (event_ranged m actor guest vmpl npt paging order is)
ranged_for m actor Host order unfinished is = tt
ranged_for m actor Firmware order unfinished is = new_gpns m actor order unfinished

move_fits : (m : State) (actor : ℕ) → IsInOrder m → AreReady m → m.frames ≤ 8192 → length m.actors ≤ 32 → IsUnfinished m actor → IsWide (line_at (part_of m actor).script (part_of m actor).item).item → IsFitMove (next_move m actor)
move_fits m actor order ready small few unfinished wide =
    let part = part_of m actor in
    let item = (line_at part.script part.item).item in
    let at = unfinished_at m actor unfinished in
    let own = ready (actor - 1) idle_part at.within in
    item_fits m.frames m.guests (view_of m) part part.role item (state_looks m order small few) (state_seals m order) own.role (ready_line m.frames m.guests part own at.has_line).item wide
    (order.locks.tested (actor - 1)) own.bounded.walking (ranged_for m actor part.role order unfinished refl)

event_fits : (m : State) (actor : ℕ) → IsFitMove (next_move m actor) → (part_of m actor).item < 2 ^ 32 → (part_of m actor).attempt < 2 ^ 32 → IsEvent (event_of m actor)
unfolding event_of
event_fits m actor fits item attempt = record { item = item; attempt = attempt; deed = fits.deed; outcome = fits.outcome }

-- at the end of a run: the size of memory, the number of actors, and their scripts
state_frames : (m : State) (s : List ℕ) → (state_from m s).frames ≡ m.frames
unfolding state_from
state_frames m [] = refl
state_frames m (a ∷ s) = state_frames (after m a) s ∙ after_frames m a

state_count : (m : State) (s : List ℕ) → length (state_from m s).actors ≡ length m.actors
unfolding state_from
state_count m [] = refl
state_count m (a ∷ s) = state_count (after m a) s ∙ after_length m a

opening_frames : (c : Scenario) → (opening c).frames ≡ 512 * c.regions
unfolding opening
opening_frames c = refl

opening_count : (c : Scenario) → length (opening c).actors ≡ length c.actors
unfolding opening
opening_count c = length-map c.actors opening_part

run_frames : (c : Scenario) (s : List ℕ) → IsSound c → (state_after c s).frames ≤ 8192
run_frames c s sound =
    let most = sound.regions_most in
    let same = state_frames (opening c) s ∙ opening_frames c in
    omega (arith, most, same)

pub run_actors : (c : Scenario) (s : List ℕ) → length (state_after c s).actors ≡ length c.actors
run_actors c s = state_count (opening c) s ∙ opening_count c

length_script : (lines : List Line) → length lines ≤ script_attempts lines
unfolding script_attempts
length_script [] = omega arith
length_script (line ∷ lines) = let rest = length_script lines in omega (arith, rest)

scripts_short : (actors : List Actor) (k : ℕ) → length (get_or (map opening_part actors) k idle_part).script ≤ actors_attempts actors
unfolding actors_attempts idle_part
scripts_short [] k = omega arith
scripts_short (actor ∷ actors) zero = let own = length_script actor.script in omega (arith, own)
scripts_short (actor ∷ actors) (suc k) = let rest = scripts_short actors k in omega (arith, rest)

scripts_spelled : (version : ℕ) (actors : List Actor) (k : ℕ) → AllByRecursion (IsSpelledActor version) actors → AllByRecursion IsSpelledLine (get_or (map opening_part actors) k idle_part).script
unfolding idle_part
scripts_spelled version [] k all = tt
scripts_spelled version (actor ∷ actors) zero all = all.0.1
scripts_spelled version (actor ∷ actors) (suc k) all = scripts_spelled version actors k all.1

opening_short : (c : Scenario) (actor : ℕ) → attempts_of c ≤ 8192 → length (part_of (opening c) actor).script ≤ 8192
unfolding opening attempts_of
opening_short c actor most =
    let own = scripts_short c.actors (actor - 1) in
    omega (arith, own, most)

opening_spelled : (c : Scenario) (actor : ℕ) → IsSpelled c → AllByRecursion IsSpelledLine (part_of (opening c) actor).script
unfolding opening
opening_spelled c actor spelled = scripts_spelled c.version c.actors (actor - 1) spelled.actors

line_wide : (script : List Line) (k : ℕ) → AllByRecursion IsSpelledLine script → k < length script → IsWide (line_at script k).item
line_wide [] k all within = absurd (omega (arith, within))
line_wide (line ∷ lines) zero all within = all.0.1
line_wide (line ∷ lines) (suc k) all within = line_wide lines k all.1 (omega (arith, within))

pub run_event_fits : (c : Scenario) (s : List ℕ) (actor : ℕ) → IsSound c → IsSpelled c → IsDefined c s → IsUnfinished (state_after c s) actor → IsEvent (event_of (state_after c s) actor)
run_event_fits c s actor sound spelled defined unfinished =
    let m = state_after c s in
    let part = part_of m actor in
    let at = unfinished_at m actor unfinished in
    let ready = run_ready c s sound defined in
    let own = ready (actor - 1) idle_part at.within in
    let kept = state_keeps (opening c) s actor in
    let has = at.has_line in
    let short = opening_short c actor sound.attempts_most in
    let same = ap (λ (lines : List Line). length lines) kept.script in
    let tried = own.bounded.within has in
    let retries = (ready_line m.frames m.guests part own has).retries in
    let few = run_actors c s in
    let most = sound.actors_most in
    let all : AllByRecursion IsSpelledLine part.script = subst (AllByRecursion IsSpelledLine) (sym kept.script) (opening_spelled c actor spelled) in
    let wide = line_wide part.script part.item all has in
    event_fits m actor (move_fits m actor (run_order c s sound defined) ready (run_frames c s sound) (omega (arith, few, most)) unfinished wide) (omega (arith, has, short, same)) (omega (arith, tried, retries))

-- so each entry of a run has numbers of its types
entries_from : (c : Scenario) (s t : List ℕ) → IsSound c → IsSpelled c → IsDefined c s → IsDefinedFrom (state_after c s) t → AllByRecursion IsEntry (run_from (state_after c s) t)
unfolding run_from IsDefinedFrom
entries_from c s [] sound spelled before defined = tt
entries_from c s (a ∷ t) sound spelled before defined =
    let m = state_after c s in
    let push = state_push (opening c) s a in
    let at = unfinished_at m a defined.0 in
    let within = at.within in
    let few = run_actors c s in
    let most = sound.actors_most in
    let later = entries_from c (s ++ a ∷ []) t sound spelled (defined_push (opening c) s a before defined.0) (subst (λ (n : State). IsDefinedFrom n t) (sym push) defined.1) in
    ((omega (arith, within, few, most), run_event_fits c s a sound spelled before defined.0), subst (λ (n : State). AllByRecursion IsEntry (run_from n t)) push later)

pub run_entries : (c : Scenario) (s : List ℕ) → IsSound c → IsSpelled c → IsDefined c s → AllByRecursion IsEntry (run_of c s)
run_entries c s sound spelled defined =
    let none = state_none (opening c) in
    subst (λ (n : State). AllByRecursion IsEntry (run_from n s)) none
    (entries_from c [] s sound spelled (defined_none (opening c)) (subst (λ (n : State). IsDefinedFrom n s) (sym none) defined))
