-- A lock that is taken passes its tests: what they ask beside a holder holds from then on.
use Rattle.std.proofs.Common.{◌≡◌, ℕ, zero, suc, ◌+◌, Bool, true, false, cond, List, Option, Some, None, refl, ap, ◌∙◌}
use Rattle.std.specs.Option.{option_or}
use Rattle.snp_model.specs.declared.access.Place.{Place}
use Rattle.snp_model.specs.declared.command.Command.{Command}
use Rattle.snp_model.specs.declared.entry.PageSize.{PageSize}
use Rattle.snp_model.specs.declared.entry.RmpEntry.{RmpEntry}
use Rattle.snp_model.specs.declared.event.FwRefusal.{FwRefusal}
use Rattle.snp_model.specs.declared.event.Refusal.{Refusal}
use Rattle.snp_model.specs.declared.firmware.Part.{Part}
use Rattle.snp_model.specs.declared.item.Update.{Update}
use Rattle.snp_model.specs.declared.scenario.GuestSpec.{GuestSpec}
use Rattle.snp_model.specs.Facts.{frames_in}
use Rattle.snp_model.specs.Firmware.{CommandPage, has_equal_frames}
use Rattle.snp_model.specs.FirmwareLocks.{guest_refusal, frame_refusal, unless_held, context_refusal, page_refusal, page_extra}
use Rattle.snp_model.specs.FirmwareStep.{lock_refusal}
use Rattle.snp_model.specs.Locks.{range_holder}
use Rattle.snp_model.specs.RmpUpdate.{in_use_or, is_bad_update, update_range_refusal, update_refusal, is_bad_smash, smash_page_refusal, smash_refusal}
use Rattle.snp_model.specs.State.{Page, Context}
use Rattle.snp_model.specs.Validation.{validate_refusal, adjust_further, adjust_refusal}
use Rattle.run_laws.specs.HeldLocks.{validate_test, adjust_test}

-- a test before others
behind : {X : Type 0} (bad : Bool) (why : X) (one other : Option X) → (one ≡ None → other ≡ None) → cond bad (Some why) one ≡ None → cond bad (Some why) other ≡ None
behind true why one other keeps is = absurd (cc)
behind false why one other keeps is = keeps is

or_behind : {X : Type 0} (first one other : Option X) → (one ≡ None → other ≡ None) → option_or first one ≡ None → option_or first other ≡ None
or_behind (Some x) one other keeps is = absurd (cc)
or_behind None one other keeps is = keeps is

or_before : {X : Type 0} (one other later : Option X) → (one ≡ None → other ≡ None) → option_or one later ≡ None → option_or other later ≡ None
or_before (Some x) other later keeps is = absurd (cc)
or_before None (Some x) later keeps is = absurd (let none = keeps refl in cc)
or_before None None later keeps is = is

-- where nobody holds the lock, the tests after it decide
freed : (holder : Option ℕ) (later : Option Refusal) → in_use_or holder later ≡ None → in_use_or None later ≡ None
freed (Some holder) later is = absurd (cc)
freed None later is = is

freed_page : (holder : Option ℕ) (later : Option FwRefusal) → unless_held holder later ≡ None → unless_held None later ≡ None
freed_page (Some holder) later is = absurd (cc)
freed_page None later is = is

none_holds : (base count : ℕ) → range_holder (λ frame. None) base count ≡ None
unfolding range_holder
none_holds base zero = refl
none_holds base (suc count) = none_holds (base + 1) count

freed_range : (holder : ℕ → Option ℕ) (base count : ℕ) (later : Option Refusal) → in_use_or (range_holder holder base count) later ≡ None → in_use_or (range_holder (λ frame. None) base count) later ≡ None
freed_range holder base count later is = ap (λ (found : Option ℕ). in_use_or found later) (none_holds base count) ∙ freed (range_holder holder base count) later is

-- so each test of a lock
pub update_freed : (frames : ℕ) (update : Update) (facts : ℕ → RmpEntry) (holder : ℕ → Option ℕ) → update_refusal frames update facts holder ≡ None → update_refusal frames update facts (λ place. None) ≡ None
unfolding update_refusal update_range_refusal
update_freed frames update facts holder is =
    behind (is_bad_update frames update) _ (in_use_or (range_holder holder 0 (frames_in update.size)) _) (in_use_or (range_holder (λ place. None) 0 (frames_in update.size)) _)
    (freed_range holder 0 (frames_in update.size) _) is

pub smash_freed : (frames frame : ℕ) (facts : RmpEntry) (holder : Option ℕ) → smash_refusal frames frame facts holder ≡ None → smash_refusal frames frame facts None ≡ None
unfolding smash_refusal smash_page_refusal
smash_freed frames frame facts holder is = behind (is_bad_smash frames frame) _ (in_use_or holder _) (in_use_or None _) (freed holder _) is

pub validate_freed : (place : Place) (size : PageSize) (facts : RmpEntry) (holder : Option ℕ) → validate_refusal place size facts holder ≡ None → validate_test size place facts ≡ None
unfolding validate_refusal
validate_freed place size facts holder is = behind _ _ (in_use_or holder _) (in_use_or None _) (freed holder _) is

pub adjust_freed : (place : Place) (size : PageSize) (mask : ℕ) (vmsa : Bool) (facts : RmpEntry) (holder : Option ℕ) → adjust_refusal place size mask vmsa facts holder ≡ None → adjust_test size mask vmsa place facts ≡ None
unfolding adjust_refusal
adjust_freed place size mask vmsa facts holder is =
    or_before (validate_refusal place size facts holder) (validate_refusal place size facts None) (adjust_further place mask vmsa facts) (validate_freed place size facts holder) is

page_freed : (command : Command) (part : Part) (facts : RmpEntry) (holder : Option ℕ) (asid : ℕ) → page_refusal command part facts holder asid ≡ None → page_refusal command part facts None asid ≡ None
unfolding page_refusal
page_freed command part facts holder asid is = freed_page holder _ is

pub lock_freed : (frames asid : ℕ) (command : Command) (page : CommandPage) (found : Page) (holder : Option ℕ) → lock_refusal frames asid command page found holder ≡ None → lock_refusal frames asid command page found None ≡ None
unfolding lock_refusal
lock_freed frames asid command page found holder is =
    or_behind (frame_refusal frames page.frame) _ _
    (or_before (page_refusal command page.part found.facts holder asid) (page_refusal command page.part found.facts None asid) (page_extra command page.part asid found.words)
    (page_freed command page.part found.facts holder asid)) is

context_freed : (guests : List GuestSpec) (command : Command) (context : Context) (holder : Option ℕ) → context_refusal guests command context holder ≡ None → context_refusal guests command context None ≡ None
unfolding context_refusal
context_freed guests command context holder is = behind (has_equal_frames command) _ (unless_held holder _) (unless_held None _) (freed_page holder _) is

pub guest_context_freed : (guests : List GuestSpec) (command : Command) (guest : ℕ) (context : Context) (holder : Option ℕ)
    → option_or (guest_refusal guests guest) (context_refusal guests command context holder) ≡ None → option_or (guest_refusal guests guest) (context_refusal guests command context None) ≡ None
guest_context_freed guests command guest context holder is =
    or_behind (guest_refusal guests guest) (context_refusal guests command context holder) (context_refusal guests command context None) (context_freed guests command context holder) is
