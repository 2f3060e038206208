-- Every event keeps a state in order, whatever its guests are: shapes, locks, open attempts, and what was made.
use Rattle.std.proofs.Common.{◌≡◌, ℕ, ◌-◌, ◌^◌, ◌<◌, IfSome, List, length, Option, Some, None, Ok, sym, subst}
use Rattle.std.specs.Prelude.{slice_set}
use Rattle.std.specs.List.{AllByRecursion}
use Rattle.snp_model.specs.declared.event.Outcome.{Outcome}
use Rattle.snp_model.specs.declared.firmware.MetaEntry.{MetaEntry}
use Rattle.snp_model.specs.declared.item.Item.{Item}
use Rattle.snp_model.specs.declared.scenario.GuestSpec.{GuestSpec}
use Rattle.snp_model.specs.Bounds.{IsRole}
use Rattle.snp_model.specs.Locks.{view_of}
use Rattle.snp_model.specs.Metadata.{IsMetaEntry}
use Rattle.snp_model.specs.Moves.{Move}
use Rattle.snp_model.specs.Opening.{asid_of}
use Rattle.snp_model.specs.Sealing.{Slot, OfEntry, OfRoot, Sealing, SealOut, SealIn, sealing_of, slot_entry, compute_of}
use Rattle.snp_model.specs.State.{Context, Contents, Computed, ActorPart, State, part_of, IsUnfinished, idle_part}
use Rattle.snp_model.specs.Step.{item_move, line_at, part_after, after}
use Rattle.run_laws.specs.Shapes.{IsContextFor, HasAsid, AreShaped}
use Rattle.run_laws.proofs.ChangeLaws.{HoldsAfter, Leaves, by_change}
use Rattle.run_laws.proofs.EntryWords.{entry_fits}
use Rattle.run_laws.proofs.FitCommands.{fit_if_sealed, commit_fit, commit_sizes}
use Rattle.run_laws.proofs.FitContexts.{AreFitRoots, contexts_fit, roots_fit}
use Rattle.run_laws.proofs.FitPages.{AreFitPages, access_fit, access_large, update_fit, smash_fit, validate_fit, adjust_fit}
use Rattle.run_laws.proofs.FreshLaws.{IsFitContext, fresh_fits, cipher_full}
use Rattle.run_laws.proofs.InOrder.{IsFitMade, IsInOrder}
use Rattle.run_laws.proofs.LargePages.{AreLargeWhole, shaped_large, whole_page, validate_whole, adjust_whole}
use Rattle.run_laws.proofs.LockedLaws.{step_keeps_locks}
use Rattle.run_laws.proofs.LockedRuns.{part_walking}
use Rattle.run_laws.proofs.MadeComputed.{opening_full, out_computed, in_computed}
use Rattle.run_laws.proofs.MadeLaws.{compute_opening}
use Rattle.run_laws.proofs.OpenAttemptsLaws.{after_walking}
use Rattle.run_laws.proofs.RunLaws.{at_set, after_keeps}
use Rattle.run_laws.proofs.ShapedLaws.{asid_not_zero, asid_fits}
use Rattle.run_laws.proofs.TestedPages.{lock_covers_whole}
use Rattle.run_laws.proofs.TestedRanges.{updated_large, smashed_large}

-- the contents are in order
pub record AreFitContents (guests : List GuestSpec) (contents : Contents) : Type 0 where
  pub pages : AreFitPages contents.pages
  pub large : AreLargeWhole contents.pages
  pub contexts : (guest : ℕ) → IsContextFor guests guest (contents.contexts guest)
  pub roots : AreFitRoots contents.contexts

-- what a compute makes of them
fit_context : (guests : List GuestSpec) (guest : ℕ) (context : Context) → AllByRecursion HasAsid guests → IsContextFor guests guest context → IsFitContext context
fit_context guests guest context have is = record { asid = subst (λ (n : ℕ). n < 2 ^ 16) (sym is.asid_is) (asid_fits guests guest have); counter = is.counter; key = is.key }

slot_fits : (guests : List GuestSpec) (contents : Contents) (owner : ℕ) (slot : Slot) (entry : MetaEntry) → AreFitContents guests contents → slot_entry contents.pages (contents.contexts owner) slot ≡ Some entry
    → IsMetaEntry entry
slot_fits guests contents owner (OfEntry metadata number) entry fit is = entry_fits (contents.pages metadata).words number entry (fit.pages metadata).words.whole is
slot_fits guests contents owner OfRoot entry fit is = fit.roots owner entry is

made_fits : (guests : List GuestSpec) (contents : Contents) (sealing : Sealing) (made : Computed) → AllByRecursion HasAsid guests → AreFitContents guests contents → compute_of contents sealing ≡ Ok made → IsFitMade made
made_fits guests contents (SealOut what owner source target slot) made have fit is =
    let context = contents.contexts owner in
    let page = contents.pages source in
    let fits = fit_context guests owner context have (fit.contexts owner) in
    subst IsFitMade (out_computed contents what owner source target slot made is)
    (record { full = cipher_full what context page fits (fit.pages source).words; entry = fresh_fits what context page fits (fit.pages source).facts.ranges })
made_fits guests contents (SealIn what owner source target slot) made have fit is =
    let context = contents.contexts owner in
    let found = slot_entry contents.pages context slot in
    let words = (contents.pages source).words in
    let opens = in_computed contents what owner source target slot made is in
    let one = compute_opening what context found words made opens in
    record {
      full = opening_full what context found words made (fit.contexts owner).key (fit.pages source).words opens;
      entry = subst (λ (entry : Option MetaEntry). IfSome entry IsMetaEntry) (sym one.entry_is) (slot_fits guests contents owner slot one.entry fit one.in_use);
    }

-- whatever an event does
fit_after : (frames : ℕ) (guests : List GuestSpec) (contents : Contents) (part : ActorPart) (item : Item) → AllByRecursion HasAsid guests → AreFitContents guests contents
    → ((made : Computed) → part.standing.computed ≡ Some made → IsFitMade made) → HoldsAfter (AreFitContents guests) IsFitMade frames guests contents part item
fit_after frames guests contents part item have fit had = record {
  still = fit;
  written = λ op frame index small loose. record {
    pages = access_fit op frame index _ contents.pages small ((fit.pages frame).words.fits index) fit.pages;
    large = access_large op frame index _ contents.pages fit.large;
    contexts = fit.contexts;
    roots = fit.roots;
  };
  updated = λ update lock fits tested. record {
    pages = update_fit frames contents update lock fits tested fit.large fit.pages;
    large = updated_large frames contents update lock tested fit.large;
    contexts = fit.contexts;
    roots = fit.roots;
  };
  smashed = λ frame lock tested. record {
    pages = smash_fit lock contents.pages fit.pages;
    large = smashed_large frames contents frame lock tested fit.large;
    contexts = fit.contexts;
    roots = fit.roots;
  };
  validated = λ owner validate own lock some most is. record {
    pages = validate_fit contents (asid_of guests owner) validate own lock (asid_not_zero guests owner have some most) is fit.large fit.pages;
    large = validate_whole validate own lock contents.pages (lock_covers_whole contents.pages lock is.covers) fit.large;
    contexts = fit.contexts;
    roots = fit.roots;
  };
  adjusted = λ vmpl target mask vmsa lock small covers. record {
    pages = adjust_fit vmpl target mask vmsa lock contents.pages small fit.pages;
    large = adjust_whole vmpl target mask vmsa lock contents.pages (lock_covers_whole contents.pages lock covers) fit.large;
    contexts = fit.contexts;
    roots = fit.roots;
  };
  committed = λ command is operands stage.
      let fits = fit_if_sealed (sealing_of command) part.standing.computed stage.made had in
      record {
        pages = commit_fit frames guests contents command part.standing _ operands stage.ready fits fit.pages;
        large = commit_sizes frames guests contents part command _ operands stage.ready fit.large;
        contexts = contexts_fit frames guests contents command part.standing _ _ stage.ready fit.contexts;
        roots = roots_fit command _ _ contents.contexts fits fit.roots;
      };
  had = had;
  computed = λ sealing made is. made_fits guests contents sealing made have fit is;
}

-- so in a state
order_contents : (m : State) → IsInOrder m → AreFitContents m.guests m.contents
order_contents m order = record {
  pages = λ f. record { facts = order.shapes.facts f; words = order.shapes.words f };
  large = shaped_large m order.shapes;
  contexts = order.shapes.contexts;
  roots = order.roots;
}

-- what its event leaves
abbrev pub next_move : State → ℕ → Move
next_move m actor = item_move m.frames m.guests (view_of m) (part_of m actor) (part_of m actor).role (line_at (part_of m actor).script (part_of m actor).item).item

event_leaves : (m : State) (actor : ℕ) → IsInOrder m → Leaves (AreFitContents m.guests) IsFitMade (next_move m actor)
event_leaves m actor order =
    let part = part_of m actor in
    let item = (line_at part.script part.item).item in
    by_change (AreFitContents m.guests) IsFitMade m.frames m.guests (view_of m) part part.role item
    (fit_after m.frames m.guests m.contents part item order.shapes.have_asids (order_contents m order) (order.made actor))
    (order.roles actor) (order.operands actor part.item) (order.locks.tested (actor - 1))

shaped_by : (m : State) (contents : Contents) → AreShaped m → AreFitContents m.guests contents → AreShaped (record m { contents = contents })
shaped_by m contents shaped fit = record {
  facts = λ f. (fit.pages f).facts;
  whole = whole_page contents.pages fit.large;
  words = λ f. (fit.pages f).words;
  have_asids = shaped.have_asids;
  asids_differ = shaped.asids_differ;
  contexts = fit.contexts;
}

-- shapes name no actor
shaped_actors : (m : State) (actors : List ActorPart) → AreShaped m → AreShaped (record m { actors = actors })
shaped_actors m actors shaped =
    record { facts = shaped.facts; whole = shaped.whole; words = shaped.words; have_asids = shaped.have_asids; asids_differ = shaped.asids_differ; contexts = shaped.contexts }

pub shape_after : (m : State) (actor : ℕ) → IsInOrder m → AreShaped (after m actor)
unfolding after
shape_after m actor order =
    let move = next_move m actor in
    shaped_actors (record m { contents = move.contents }) (slice_set m.actors (actor - 1) (part_after (part_of m actor) move move.outcome)) (shaped_by m (next_move m actor).contents order.shapes (event_leaves m actor order).holds)

-- what an actor then has made
abbrev FitPart : ActorPart → Type 0
FitPart part = (made : Computed) → part.standing.computed ≡ Some made → IsFitMade made

nothing_some : (made : Computed) → None ≡ Some made → ⊥
nothing_some made e = cc

part_fits : (part : ActorPart) (move : Move) (outcome : Option Outcome) → ((made : Computed) → move.standing.computed ≡ Some made → IsFitMade made) → FitPart (part_after part move outcome)
unfolding part_after
part_fits part move None made = made
part_fits part move (Some outcome) made = λ one is. absurd (nothing_some one is)

made_after : (m : State) (actor other : ℕ) → IsInOrder m → FitPart (part_of (after m actor) other)
unfolding after
made_after m actor other order =
    let move = next_move m actor in
    at_set FitPart m.actors (actor - 1) (other - 1) (part_after (part_of m actor) move move.outcome) idle_part (order.made other)
    (λ _ _. part_fits (part_of m actor) move move.outcome (event_leaves m actor order).made)

role_after : (m : State) (actor other : ℕ) → IsRole m.frames (length m.guests) (part_of m other).role → IsRole (after m actor).frames (length (after m actor).guests) (part_of (after m actor) other).role
unfolding after
role_after m actor other is = subst (IsRole m.frames (length m.guests)) (sym (after_keeps m actor other).role) is

roots_after : (m : State) (actor : ℕ) → IsInOrder m → AreFitRoots (after m actor).contents.contexts
unfolding after
roots_after m actor order = (event_leaves m actor order).holds.roots

pub order_after : (m : State) (actor : ℕ) → IsUnfinished m actor → IsInOrder m → IsInOrder (after m actor)
order_after m actor unfinished order = record {
  roles = λ other. role_after m actor other (order.roles other);
  operands = λ other place. let kept = after_keeps m actor other in rw (kept.script) (order.operands other place);
  locks = step_keeps_locks m actor order.locks (part_walking m actor order.walking unfinished);
  walking = after_walking m actor order.walking unfinished;
  shapes = shape_after m actor order;
  made = λ other. made_after m actor other order;
  roots = roots_after m actor order;
}
