-- What the compute of a command shows and leaves, and what it leaves of the locks that its attempt has.
use Rattle.std.proofs.Common.{◌≡◌, ℕ, Bool, true, false, cond, List, Option, Some, None, Result, Ok, Err, refl, sym, ap, ◌∙◌}
use Rattle.std.proofs.lemmas.Bool.{true≢false}
use Rattle.snp_model.specs.declared.event.Deed.TheVariants as deeds
use Rattle.snp_model.specs.declared.event.FwRefusal.{FwRefusal}
use Rattle.snp_model.specs.declared.firmware.MetaEntry.{MetaEntry}
use Rattle.snp_model.specs.declared.scenario.GuestSpec.{GuestSpec}
use Rattle.snp_model.specs.Entries.{released}
use Rattle.snp_model.specs.FirmwareStep.{computed_move, refused}
use Rattle.snp_model.specs.Locks.{locks_frame}
use Rattle.snp_model.specs.State.{ActorPart, Computed}
use Rattle.run_laws.specs.KeptLocks.{OwnsContext, OwnsLocks, is_locked, recontexted, relocked}
use Rattle.machine_core.specs.declared.made_page.MadePage.{MadePage}
use Rattle.machine_core.specs.declared.shown.Shown.{Shown}
use Rattle.machine_core.specs.declared.taken_lock.Taken.TheVariants.{Made}
use Rattle.machine_core.specs.Bays.{Stock, contents_of, contexts_of, pages_of, view_on}
use Rattle.machine_core.specs.Moves.{context_by, locks_by, move_by, standing_with}
use Rattle.machine_core.specs.Seals.{computed_by}
use Rattle.machine_core.proofs.HeldLaws.{moves_alike, none_made}
use Rattle.machine_core.proofs.NamedLockLaws.{quiet_contents}
use Rattle.machine_core.proofs.RangeLaws.{released_other}

-- The locks that an attempt has are left

pub own_relocked : (actor : ℕ) (part : ActorPart) (holder : ℕ → Option ℕ) → OwnsLocks actor part holder → holder ≡ relocked actor part.standing.locks holder
own_relocked actor part holder owns = λ i frame. each frame (locks_frame frame part) refl i
  where
    each : (frame : ℕ) (own : Bool) → locks_frame frame part ≡ own → holder frame ≡ relocked actor part.standing.locks holder frame
    each frame true own = owns.has frame own ∙ ap (λ (b : Bool). cond b (Some actor) (released actor (holder frame))) (sym own)
    each frame false own =
        sym (released_other actor (holder frame) (λ held. true≢false (sym (owns.only frame held) ∙ own)))
        ∙ ap (λ (b : Bool). cond b (Some actor) (released actor (holder frame))) (sym own)

pub own_recontexted : (actor : ℕ) (part : ActorPart) (holder : ℕ → Option ℕ) → OwnsContext actor part holder → holder ≡ recontexted actor part.standing.context_lock holder
own_recontexted actor part holder owns = λ i guest. each guest (is_locked guest part.standing.context_lock) refl i
  where
    each : (guest : ℕ) (own : Bool) → is_locked guest part.standing.context_lock ≡ own → holder guest ≡ recontexted actor part.standing.context_lock holder guest
    each guest true own = owns.has guest own ∙ ap (λ (b : Bool). cond b (Some actor) (released actor (holder guest))) (sym own)
    each guest false own =
        sym (released_other actor (holder guest) (λ held. true≢false (sym (owns.only guest held) ∙ own)))
        ∙ ap (λ (b : Bool). cond b (Some actor) (released actor (holder guest))) (sym own)

-- where a page was made
abbrev pub made_shown : Shown
made_shown = record { deed = deeds.Compute; outcome = None; lock = Some Made }

pub made_relocked : (actor : ℕ) (part : ActorPart) (holder : ℕ → Option ℕ) (shown : Shown) → OwnsLocks actor part holder → shown ≡ made_shown → holder ≡ relocked actor (locks_by shown part.standing) holder
made_relocked actor part holder shown owns is = own_relocked actor part holder owns ∙ ap (λ (s : Shown). relocked actor (locks_by s part.standing) holder) (sym is)

pub made_recontexted : (actor : ℕ) (part : ActorPart) (holder : ℕ → Option ℕ) (shown : Shown) → OwnsContext actor part holder → shown ≡ made_shown → holder ≡ recontexted actor (context_by shown part.standing) holder
made_recontexted actor part holder shown owns is = own_recontexted actor part holder owns ∙ ap (λ (s : Shown). recontexted actor (context_by s part.standing) holder) (sym is)

-- What it shows

pub made_shows : (guests : List GuestSpec) (part : ActorPart) (page : MadePage) (answer : Result MetaEntry FwRefusal) (made : Result Computed FwRefusal) (stock : Stock) (shown : Shown) → answer ≡ Ok page.entry → computed_by answer page.words ≡ made
    → shown ≡ made_shown → computed_move (contents_of stock guests) part made ≡ move_by shown (view_on stock guests) (standing_with page shown part.standing)
unfolding computed_move
made_shows guests part page answer made stock shown is made_is shown_is =
    ap (computed_move (contents_of stock guests) part) (sym made_is ∙ ap (λ (a : Result MetaEntry FwRefusal). computed_by a page.words) is)
    ∙ ap (λ (s : Shown). move_by s (view_on stock guests) (standing_with page s part.standing)) (sym shown_is)

pub refused_shows : (guests : List GuestSpec) (part : ActorPart) (page : MadePage) (answer : Result MetaEntry FwRefusal) (words : List ℕ) (made : Result Computed FwRefusal) (refusal : FwRefusal) (old new : Stock) (shown : Shown)
    → answer ≡ Err refusal → computed_by answer words ≡ made → shown ≡ record { deed = deeds.Compute; outcome = Some (refused refusal); lock = None } → pages_of new.bays ≡ pages_of old.bays
    → contexts_of new.contexts guests ≡ contexts_of old.contexts guests → computed_move (contents_of old guests) part made ≡ move_by shown (view_on new guests) (standing_with page shown part.standing)
unfolding computed_move
refused_shows guests part page answer words made refusal old new shown is made_is shown_is pages contexts =
    ap (computed_move (contents_of old guests) part) (sym made_is ∙ ap (λ (a : Result MetaEntry FwRefusal). computed_by a words) is)
    ∙ quiet_contents guests part old new (record { deed = deeds.Compute; outcome = Some (refused refusal); lock = None }) shown shown_is pages contexts
    ∙ moves_alike page shown (view_on new guests) part.standing (none_made shown.lock (ap (λ (s : Shown). s.lock) shown_is))
