-- Each event keeps the one holder of each page, and finds in the guest's memory what it needs.
use Rattle.std.proofs.Common.{◌≡◌, ◌≢◌, ℕ, ◌<◌, ◌≤◌, Bool, true, false, not, ◌&&◌, ◌||◌, eqb, slice_index, List, [], ◌∷◌, length, Option, Some, None, refl, sym, ◌∙◌, subst, arith}
use Rattle.std.proofs.lemmas.Bool.{cond_both, eqb-true, eqb-false, true≢false}
use Rattle.std.proofs.lemmas.Bool.Decides.{nat_tests}
use Rattle.snp_model.specs.declared.access.Place.{Place}
use Rattle.snp_model.specs.declared.access.Verdict.{Verdict}
use Rattle.snp_model.specs.declared.access.Verdict.TheVariants.{Pass, Hidden, Fault}
use Rattle.snp_model.specs.declared.entry.Kind.{Kind}
use Rattle.snp_model.specs.declared.entry.Kind.TheVariants as kinds
use Rattle.snp_model.specs.declared.entry.RmpEntry.{RmpEntry}
use Rattle.snp_model.specs.declared.event.Deed.{Deed}
use Rattle.snp_model.specs.declared.event.Deed.TheVariants as deeds
use Rattle.snp_model.specs.declared.event.Outcome.{Outcome}
use Rattle.snp_model.specs.declared.event.Outcome.TheVariants as outcomes
use Rattle.snp_model.specs.declared.item.Item.{Item}
use Rattle.snp_model.specs.declared.item.Item.TheVariants as items
use Rattle.snp_model.specs.declared.item.Op.{Op}
use Rattle.snp_model.specs.declared.item.Op.TheVariants.{Load, Store, Swap, Compare, Xor}
use Rattle.snp_model.specs.declared.scenario.GuestSpec.{GuestSpec}
use Rattle.snp_model.specs.declared.scenario.Paging.{Paging}
use Rattle.snp_model.specs.declared.scenario.Role.{Role}
use Rattle.snp_model.specs.declared.scenario.Role.TheVariants.{Cpu, Host, Firmware}
use Rattle.snp_model.specs.declared.walk.Lookup.{Lookup}
use Rattle.snp_model.specs.declared.walk.Need.{Need}
use Rattle.snp_model.specs.declared.walk.Need.TheVariants as needs
use Rattle.snp_model.specs.declared.entry.PageSize.{PageSize}
use Rattle.snp_model.specs.GuestWalk.{levels_of, is_canonical}
use Rattle.snp_model.specs.Walking.{Processor, index_of}
use Rattle.snp_model.specs.Opening.{asid_of}
use Rattle.snp_model.specs.Operations.{outcome_of}
use Rattle.snp_model.specs.Verdicts.{private_verdict, private_refusal, shared_verdict, host_verdict, is_large, lacks}
use Rattle.snp_model.specs.State.{Pages, Context, Contents, ActorPart, with_word, word_of}
use Rattle.snp_model.specs.Moves.{Move, Arrival, is_running, quiet_move, misplaced_move, faulted_move, begin_move, table_move, need_move, walked_move, table_place}
use Rattle.snp_model.specs.Step.{access_move, pages_after, data_move, data_place}
use Rattle.snp_model.specs.GuestMemory.{Memory, Use, Untouched, use_of_word, use_of, firmware_use, use_for, IsLegalUse, used}
use Rattle.snp_model.specs.Live.{Archive, Vault, vault_of}
use Rattle.snp_model.specs.Holders.{IsHeldAs, Core}
use Rattle.run_laws.proofs.CoreLaws.{KindFits, AreFit, with_word_facts, with_word_length, IsNoMetadata, core_writes_elsewhere, frame_held, core_may_read, core_reads, core_writes}

-- every frame has its 512 words
abbrev pub AreWhole : Pages → Type 0
AreWhole pages = (f : ℕ) → length (pages f).words ≡ 512

pub metadata_not_plain : (kind : Kind) → kind ≡ kinds.Metadata → kind ≡ kinds.Plain → ⊥
metadata_not_plain kind a b = cc

no_metadata_free : (facts : RmpEntry) → KindFits facts → facts.assigned ≡ false → facts.kind ≢ kinds.Metadata
no_metadata_free facts fits free is = true≢false (sym (fits.assigned (metadata_not_plain facts.kind is)) ∙ free)

no_metadata_mutable : (facts : RmpEntry) → KindFits facts → facts.immutable ≡ false → facts.kind ≢ kinds.Metadata
no_metadata_mutable facts fits mutable is = true≢false (sym (fits.immutable (metadata_not_plain facts.kind is)) ∙ mutable)

-- the processor of a guest uses that guest's ASID, and no other guest's processor does
pub record Owns (guest asid : ℕ) (guests : List GuestSpec) (owner : ℕ) : Type 0 where
  pub own : owner ≡ guest → asid_of guests owner ≡ asid
  pub other : owner ≢ guest → asid_of guests owner ≢ asid

-- so of each declared guest, and the guest's ASID isn't 0, which is nobody's
pub record OwnsAmong (guest asid : ℕ) (guests : List GuestSpec) : Type 0 where
  pub some : asid ≢ 0
  pub each : (owner : ℕ) → 0 < owner → owner ≤ length guests → Owns guest asid guests owner

abbrev pub RoleOwns : ℕ → ℕ → List GuestSpec → Role → Type 0
RoleOwns guest asid guests (Cpu owner vmpl npt paging) = Owns guest asid guests owner
RoleOwns guest asid guests Host = Unit {0}
RoleOwns guest asid guests Firmware = OwnsAmong guest asid guests

-- an item of which this is proved here, for any guest: of a guest processor's instructions of the RMP, and of the firmware's commands, it is proved where the guest's memory lacks what they make held
abbrev pub IsProved : Role → Item → Type 0
IsProved (Cpu owner vmpl npt paging) (items.Pvalidate address size validate) = ⊥
IsProved (Cpu owner vmpl npt paging) (items.Rmpadjust address size target mask vmsa) = ⊥
IsProved Firmware (items.Firmware command) = ⊥
IsProved role item = Unit {0}

-- before an event
pub record Before (guest asid : ℕ) (archive : Archive) (memory : Memory) (old : Contents) : Type 0 where
  pub core : Core asid (vault_of guest old archive) memory
  pub whole : AreWhole old.pages
  pub fits : AreFit old.pages

-- an event with this use leads from a state to another as it should
pub record Fine (guest asid : ℕ) (archive : Archive) (memory : Memory) (old new : Contents) (does : Use) : Type 0 where
  pub legal : IsLegalUse memory does
  pub core : Core asid (vault_of guest new archive) (used does memory)
  pub whole : AreWhole new.pages
  pub fits : AreFit new.pages

-- so a move of an item of an actor
pub record MoveFine (guest asid : ℕ) (archive : Archive) (memory : Memory) (old : Contents) (role : Role) (item : Item) (move : Move) : Type 0 where
  pub fine : Fine guest asid archive memory old move.contents (use_for guest move.contents role move.deed item move.outcome)

-- an event that does nothing, whether it is a guest's processor's or the firmware's
pub record IsIdle (deed : Deed) (item : Item) (outcome : Option Outcome) : Type 0 where
  pub processors : use_of deed item outcome ≡ Untouched
  pub firmware : (guest : ℕ) (left : Contents) → firmware_use guest left deed item outcome ≡ Untouched

pub untouched_for : (guest : ℕ) (left : Contents) (role : Role) (deed : Deed) (item : Item) (outcome : Option Outcome) → IsIdle deed item outcome → use_for guest left role deed item outcome ≡ Untouched
unfolding use_for
untouched_for guest left (Cpu owner vmpl npt paging) deed item outcome e = cond_both (eqb owner guest) _ _ (λ (does : Use). does ≡ Untouched) (λ _. e.processors) (λ _. refl)
untouched_for guest left Host deed item outcome e = refl
untouched_for guest left Firmware deed item outcome e = e.firmware guest left

-- an event that changes nothing
pub nothing_fine : (guest asid : ℕ) (archive : Archive) (memory : Memory) (old : Contents) → Before guest asid archive memory old → Fine guest asid archive memory old old Untouched
unfolding used
nothing_fine guest asid archive memory old before = record { legal = tt; core = before.core; whole = before.whole; fits = before.fits }

pub quiet_fine : (guest asid : ℕ) (archive : Archive) (memory : Memory) (old : Contents) (part : ActorPart) (role : Role) (item : Item) (deed : Deed) (outcome : Option Outcome)
    → Before guest asid archive memory old → IsIdle deed item outcome → MoveFine guest asid archive memory old role item (quiet_move old part deed outcome)
quiet_fine guest asid archive memory old part role item deed outcome before e = record {
  fine = subst (λ (does : Use). Fine guest asid archive memory old old does) (sym (untouched_for guest old role deed item outcome e)) (nothing_fine guest asid archive memory old before);
}

pub misplaced_fine : (guest asid : ℕ) (archive : Archive) (memory : Memory) (old : Contents) (part : ActorPart) (role : Role) (item : Item)
    → Before guest asid archive memory old → MoveFine guest asid archive memory old role item (misplaced_move old part)
unfolding use_of firmware_use
misplaced_fine guest asid archive memory old part role item before = quiet_fine guest asid archive memory old part role item deeds.Control (Some outcomes.Next) before (record { processors = refl; firmware = λ _ _. refl })

faulted_fine : (guest asid : ℕ) (archive : Archive) (memory : Memory) (old : Contents) (part : ActorPart) (role : Role) (item : Item)
    → Before guest asid archive memory old → MoveFine guest asid archive memory old role item (faulted_move old part)
unfolding use_of firmware_use
faulted_fine guest asid archive memory old part role item before = quiet_fine guest asid archive memory old part role item deeds.Control (Some outcomes.Next) before (record { processors = refl; firmware = λ _ _. refl })

begin_fine : (guest asid : ℕ) (archive : Archive) (memory : Memory) (old : Contents) (part : ActorPart) (role : Role) (item : Item) (context : Context) (levels address : ℕ) (refusal : Option Outcome)
    → Before guest asid archive memory old → MoveFine guest asid archive memory old role item (begin_move old part context levels address refusal)
unfolding begin_move use_of firmware_use
begin_fine guest asid archive memory old part role item context levels address refusal before =
    let quiet = λ (outcome : Option Outcome). quiet_fine guest asid archive memory old part role item deeds.Begin outcome before (record { processors = refl; firmware = λ _ _. refl }) in
    cond_both (not (is_running context.state)) _ _ (MoveFine guest asid archive memory old role item) (λ _. quiet (Some outcomes.Offline))
    (λ _. cond_both (not (is_canonical levels address)) _ _ (MoveFine guest asid archive memory old role item) (λ _. quiet (Some outcomes.Gp)) (λ _. quiet refusal))

-- a word written, or none
pages_whole : (op : Op) (frame index word : ℕ) (pages : Pages) → AreWhole pages → AreWhole (pages_after op frame index word pages)
pages_whole Load frame index word pages whole = whole
pages_whole (Store value) frame index word pages whole = λ f. with_word_length frame index value pages f ∙ whole f
pages_whole (Swap value) frame index word pages whole = λ f. with_word_length frame index value pages f ∙ whole f
pages_whole (Compare expected next) frame index word pages whole = λ f. with_word_length frame index _ pages f ∙ whole f
pages_whole (Xor value) frame index word pages whole = λ f. with_word_length frame index _ pages f ∙ whole f

word_fits : (frame index value : ℕ) (pages : Pages) → AreFit pages → AreFit (with_word frame index value pages)
word_fits frame index value pages fits f = subst KindFits (sym (with_word_facts frame index value pages f)) (fits f)

pages_fit : (op : Op) (frame index word : ℕ) (pages : Pages) → AreFit pages → AreFit (pages_after op frame index word pages)
pages_fit Load frame index word pages fits = fits
pages_fit (Store value) frame index word pages fits = word_fits frame index value pages fits
pages_fit (Swap value) frame index word pages fits = word_fits frame index value pages fits
pages_fit (Compare expected next) frame index word pages fits = word_fits frame index _ pages fits
pages_fit (Xor value) frame index word pages fits = word_fits frame index _ pages fits

-- an access to a frame that holds nothing of the guest
core_elsewhere : (op : Op) (frame index word asid : ℕ) (vault : Vault) (memory : Memory) → IsNoMetadata vault frame → ((gpn : ℕ) → IsHeldAs (vault.pages frame).facts asid gpn → ⊥)
    → Core asid vault memory → Core asid (record vault { pages = pages_after op frame index word vault.pages }) memory
core_elsewhere Load frame index word asid vault memory no_entries none core = core
core_elsewhere (Store value) frame index word asid vault memory no_entries none core = core_writes_elsewhere frame index value asid vault memory no_entries none core
core_elsewhere (Swap value) frame index word asid vault memory no_entries none core = core_writes_elsewhere frame index value asid vault memory no_entries none core
core_elsewhere (Compare expected next) frame index word asid vault memory no_entries none core = core_writes_elsewhere frame index _ asid vault memory no_entries none core
core_elsewhere (Xor value) frame index word asid vault memory no_entries none core = core_writes_elsewhere frame index _ asid vault memory no_entries none core

elsewhere_fine : (guest asid : ℕ) (archive : Archive) (memory : Memory) (old : Contents) (op : Op) (frame index word : ℕ) → Before guest asid archive memory old
    → (old.pages frame).facts.kind ≢ kinds.Metadata → ((gpn : ℕ) → IsHeldAs (old.pages frame).facts asid gpn → ⊥)
    → Fine guest asid archive memory old (record old { pages = pages_after op frame index word old.pages }) Untouched
unfolding used
elsewhere_fine guest asid archive memory old op frame index word before no_entries none = record {
  legal = tt;
  core = core_elsewhere op frame index word asid (vault_of guest old archive) memory no_entries none before.core;
  whole = pages_whole op frame index word old.pages before.whole;
  fits = pages_fit op frame index word old.pages before.fits;
}

-- an access to the frame that holds the guest's page
own_fine : (guest asid : ℕ) (archive : Archive) (memory : Memory) (old : Contents) (op : Op) (gpn frame index : ℕ) → Before guest asid archive memory old
    → (old.pages frame).facts.kind ≢ kinds.Metadata → IsHeldAs (old.pages frame).facts asid gpn → index < 512
    → let word = word_of (old.pages frame) index in
    Fine guest asid archive memory old (record old { pages = pages_after op frame index word old.pages }) (use_of_word (outcome_of op word) op gpn index)
unfolding use_of_word used
own_fine guest asid archive memory old Load gpn frame index before no_entries h below = record {
  legal = core_may_read asid (vault_of guest old archive) memory gpn frame index before.core h;
  core = core_reads asid (vault_of guest old archive) memory gpn frame index (word_of (old.pages frame) index) before.core h refl;
  whole = before.whole;
  fits = before.fits;
}
own_fine guest asid archive memory old (Store value) gpn frame index before no_entries h below =
    let within = subst (λ (n : ℕ). index < n) (sym (before.whole frame)) below in
    record {
      legal = frame_held asid (vault_of guest old archive) memory gpn frame before.core h;
      core = core_writes asid (vault_of guest old archive) memory gpn frame index value no_entries before.core h within;
      whole = pages_whole (Store value) frame index (word_of (old.pages frame) index) old.pages before.whole;
      fits = pages_fit (Store value) frame index (word_of (old.pages frame) index) old.pages before.fits;
    }
own_fine guest asid archive memory old (Swap value) gpn frame index before no_entries h below =
    let within = subst (λ (n : ℕ). index < n) (sym (before.whole frame)) below in
    record {
      legal = core_may_read asid (vault_of guest old archive) memory gpn frame index before.core h;
      core = core_writes asid (vault_of guest old archive) memory gpn frame index value no_entries before.core h within;
      whole = pages_whole (Swap value) frame index (word_of (old.pages frame) index) old.pages before.whole;
      fits = pages_fit (Swap value) frame index (word_of (old.pages frame) index) old.pages before.fits;
    }
own_fine guest asid archive memory old (Compare expected next) gpn frame index before no_entries h below =
    let within = subst (λ (n : ℕ). index < n) (sym (before.whole frame)) below in
    record {
      legal = (core_may_read asid (vault_of guest old archive) memory gpn frame index before.core h, refl);
      core = core_writes asid (vault_of guest old archive) memory gpn frame index _ no_entries before.core h within;
      whole = pages_whole (Compare expected next) frame index (word_of (old.pages frame) index) old.pages before.whole;
      fits = pages_fit (Compare expected next) frame index (word_of (old.pages frame) index) old.pages before.fits;
    }
own_fine guest asid archive memory old (Xor value) gpn frame index before no_entries h below =
    let within = subst (λ (n : ℕ). index < n) (sym (before.whole frame)) below in
    record {
      legal = core_may_read asid (vault_of guest old archive) memory gpn frame index before.core h;
      core = core_writes asid (vault_of guest old archive) memory gpn frame index _ no_entries before.core h within;
      whole = pages_whole (Xor value) frame index (word_of (old.pages frame) index) old.pages before.whole;
      fits = pages_fit (Xor value) frame index (word_of (old.pages frame) index) old.pages before.fits;
    }

-- a private access passes on a frame that holds its page alone
pub pass_holds : (facts : RmpEntry) (place : Place) (op : Op) → private_verdict facts place op ≡ Pass → IsHeldAs facts place.asid place.gpn
unfolding private_verdict
pass_holds facts place op e = grind (arith, nat_tests)

pub pass_mutable : (facts : RmpEntry) (place : Place) (op : Op) → private_verdict facts place op ≡ Pass → facts.immutable ≡ false
unfolding private_verdict
pass_mutable facts place op e = grind (arith, nat_tests)

-- and where it faults, it does nothing
record IsQuiet (op : Op) (gpn index : ℕ) (verdict : Verdict) : Type 0 where
  quiet : (outcome : Outcome) → verdict ≡ Fault outcome → use_of_word outcome op gpn index ≡ Untouched

fault_of : (a b : Outcome) → Fault a ≡ Fault b → a ≡ b
fault_of a b e = cc

refusal_quiet : (place : Place) (op : Op) (by_permissions : Bool) (gpn index : ℕ) → IsQuiet op gpn index (private_refusal place op by_permissions)
unfolding use_of_word
refusal_quiet place op by_permissions gpn index =
    record { quiet = λ outcome e. subst (λ (o : Outcome). use_of_word o op gpn index ≡ Untouched) (fault_of _ outcome e) refl }

unvalidated_quiet : (op : Op) (gpn index : ℕ) → IsQuiet op gpn index (Fault (outcomes.Vc 0x404))
unfolding use_of_word
unvalidated_quiet op gpn index =
    record { quiet = λ outcome e. subst (λ (o : Outcome). use_of_word o op gpn index ≡ Untouched) (fault_of _ outcome e) refl }

pass_quiet : (op : Op) (gpn index : ℕ) → IsQuiet op gpn index Pass
pass_quiet op gpn index = record { quiet = λ outcome e. absurd cc }

private_quiet : (facts : RmpEntry) (place : Place) (op : Op) (gpn index : ℕ) → IsQuiet op gpn index (private_verdict facts place op)
unfolding private_verdict
private_quiet facts place op gpn index =
    let P = IsQuiet op gpn index in
    let refused = λ (by_permissions : Bool). refusal_quiet place op by_permissions gpn index in
    cond_both (not facts.assigned || not (eqb facts.asid place.asid)) _ _ P (λ _. refused false)
    (λ _. cond_both (not (eqb facts.gpn place.gpn)) _ _ P (λ _. refused false)
    (λ _. cond_both facts.immutable _ _ P (λ _. refused false)
    (λ _. cond_both (is_large place.leaf && not (is_large facts.size)) _ _ P (λ _. refused false)
    (λ _. cond_both (not facts.validated) _ _ P (λ _. unvalidated_quiet op gpn index)
    (λ _. cond_both (lacks (slice_index facts.perms place.vmpl) op) _ _ P (λ _. refused true) (λ _. pass_quiet op gpn index))))))

private_faults : (facts : RmpEntry) (place : Place) (op : Op) (outcome : Outcome) (gpn index : ℕ) → private_verdict facts place op ≡ Fault outcome → use_of_word outcome op gpn index ≡ Untouched
private_faults facts place op outcome gpn index e = (private_quiet facts place op gpn index).quiet outcome e

-- a host access passes on a frame that holds no page
pub host_holds_none : (facts : RmpEntry) (op : Op) → host_verdict facts op ≡ Pass → facts.assigned ≡ false
unfolding host_verdict
host_holds_none facts Load e = grind (arith, nat_tests)
host_holds_none facts (Store value) e = grind (arith, nat_tests)
host_holds_none facts (Swap value) e = grind (arith, nat_tests)
host_holds_none facts (Compare expected next) e = grind (arith, nat_tests)
host_holds_none facts (Xor value) e = grind (arith, nat_tests)

-- a private access, by what the RMP says
hidden_quiet : (op : Op) (gpn index : ℕ) → use_of_word outcomes.Opaque op gpn index ≡ Untouched
unfolding use_of_word
hidden_quiet op gpn index = refl

held_asid : (facts : RmpEntry) (a b gpn : ℕ) → a ≡ b → IsHeldAs facts a gpn → IsHeldAs facts b gpn
held_asid facts a b gpn same h = subst (λ (x : ℕ). IsHeldAs facts x gpn) same h

private_fine : (guest asid : ℕ) (archive : Archive) (guests : List GuestSpec) (memory : Memory) (old : Contents) (part : ActorPart) (owner vmpl npt : ℕ) (paging : Paging) (address : ℕ) (op : Op)
    (gpn frame index : ℕ) (place : Place) (verdict : Verdict)
    → Before guest asid archive memory old → Owns guest asid guests owner → index < 512 → place.asid ≡ asid_of guests owner → place.gpn ≡ gpn
    → private_verdict (old.pages frame).facts place op ≡ verdict
    → MoveFine guest asid archive memory old (Cpu owner vmpl npt paging) (items.Access address op) (access_move old part (deeds.Access gpn index frame true) verdict op frame index)
unfolding access_move use_for use_of firmware_use
private_fine guest asid archive guests memory old part owner vmpl npt paging address op gpn frame index place Pass before owns below asid_is gpn_is is =
    let facts = (old.pages frame).facts in
    let word = word_of (old.pages frame) index in
    let passed = pass_holds facts place op is in
    let no_entries = no_metadata_mutable facts (before.fits frame) (pass_mutable facts place op is) in
    let h : IsHeldAs facts (asid_of guests owner) gpn = subst (λ (p : ℕ). IsHeldAs facts (asid_of guests owner) p) gpn_is (held_asid facts place.asid (asid_of guests owner) place.gpn asid_is passed) in
    record {
      fine = cond_both (eqb owner guest) _ _ (Fine guest asid archive memory old (record old { pages = pages_after op frame index word old.pages }))
          (λ same. own_fine guest asid archive memory old op gpn frame index before no_entries (held_asid facts (asid_of guests owner) asid gpn (owns.own (eqb-true owner guest same)) h) below)
          (λ different. elsewhere_fine guest asid archive memory old op frame index word before no_entries (λ q hq. owns.other (eqb-false owner guest different) (sym h.asid_is ∙ hq.asid_is)));
    }
private_fine guest asid archive guests memory old part owner vmpl npt paging address op gpn frame index place Hidden before owns below asid_is gpn_is is =
    quiet_fine guest asid archive memory old part (Cpu owner vmpl npt paging) (items.Access address op) (deeds.Access gpn index frame true) (Some outcomes.Opaque) before (record { processors = hidden_quiet op gpn index; firmware = λ _ _. refl })
private_fine guest asid archive guests memory old part owner vmpl npt paging address op gpn frame index place (Fault outcome) before owns below asid_is gpn_is is =
    quiet_fine guest asid archive memory old part (Cpu owner vmpl npt paging) (items.Access address op) (deeds.Access gpn index frame true) (Some outcome) before
    (record { processors = private_faults (old.pages frame).facts place op outcome gpn index is; firmware = λ _ _. refl })

-- a host access, by what the RMP says
pub host_fine : (guest asid : ℕ) (archive : Archive) (memory : Memory) (old : Contents) (part : ActorPart) (item : Item) (op : Op) (frame index : ℕ) (verdict : Verdict)
    → Before guest asid archive memory old → host_verdict (old.pages frame).facts op ≡ verdict
    → MoveFine guest asid archive memory old Host item (access_move old part (deeds.Host frame index) verdict op frame index)
unfolding access_move use_for
host_fine guest asid archive memory old part item op frame index Pass before is = record {
  fine = elsewhere_fine guest asid archive memory old op frame index (word_of (old.pages frame) index) before
      (no_metadata_free (old.pages frame).facts (before.fits frame) (host_holds_none (old.pages frame).facts op is))
      (λ gpn h. true≢false (sym h.assigned ∙ host_holds_none (old.pages frame).facts op is));
}
host_fine guest asid archive memory old part item op frame index Hidden before is = record { fine = nothing_fine guest asid archive memory old before }
host_fine guest asid archive memory old part item op frame index (Fault outcome) before is = record { fine = nothing_fine guest asid archive memory old before }

-- a shared access passes where it writes no guest's page
pub shared_holds_none : (facts : RmpEntry) (place : Place) (op : Op) → shared_verdict facts place op ≡ Pass → facts.assigned ≡ false
unfolding shared_verdict
shared_holds_none facts place Load e = grind (arith, nat_tests)
shared_holds_none facts place (Store value) e = grind (arith, nat_tests)
shared_holds_none facts place (Swap value) e = grind (arith, nat_tests)
shared_holds_none facts place (Compare expected next) e = grind (arith, nat_tests)
shared_holds_none facts place (Xor value) e = grind (arith, nat_tests)

-- a shared access, by what the RMP says
shared_fine : (guest asid : ℕ) (archive : Archive) (memory : Memory) (old : Contents) (part : ActorPart) (role : Role) (item : Item) (op : Op) (gpn frame index : ℕ) (place : Place) (verdict : Verdict)
    → Before guest asid archive memory old → shared_verdict (old.pages frame).facts place op ≡ verdict
    → MoveFine guest asid archive memory old role item (access_move old part (deeds.Access gpn index frame false) verdict op frame index)
unfolding access_move use_of firmware_use
shared_fine guest asid archive memory old part role item op gpn frame index place Pass before is =
    let word = word_of (old.pages frame) index in
    let deed = deeds.Access gpn index frame false in
    record {
      fine = subst (Fine guest asid archive memory old (record old { pages = pages_after op frame index word old.pages })) (sym (untouched_for guest _ role deed item (Some (outcome_of op word)) (record { processors = refl; firmware = λ _ _. refl })))
          (elsewhere_fine guest asid archive memory old op frame index word before (no_metadata_free (old.pages frame).facts (before.fits frame) (shared_holds_none (old.pages frame).facts place op is)) (λ q h. true≢false (sym h.assigned ∙ shared_holds_none (old.pages frame).facts place op is)));
    }
shared_fine guest asid archive memory old part role item op gpn frame index place Hidden before is =
    quiet_fine guest asid archive memory old part role item (deeds.Access gpn index frame false) (Some outcomes.Opaque) before (record { processors = refl; firmware = λ _ _. refl })
shared_fine guest asid archive memory old part role item op gpn frame index place (Fault outcome) before is =
    quiet_fine guest asid archive memory old part role item (deeds.Access gpn index frame false) (Some outcome) before (record { processors = refl; firmware = λ _ _. refl })

-- what an item of a guest's processor does at the page that its walks have led to is fine
abbrev pub ArrivesFine : ℕ → ℕ → Archive → Memory → Contents → Processor → Item → Arrival → Type 0
ArrivesFine guest asid archive memory old cpu item arrives =
    (gpn : ℕ) (private : Bool) (frame : ℕ) (size : PageSize) → MoveFine guest asid archive memory old (Cpu cpu.guest cpu.vmpl cpu.npt cpu.paging) item (arrives gpn private frame size)

-- so a data access, private or shared
pub data_fine : (guest asid : ℕ) (archive : Archive) (guests : List GuestSpec) (memory : Memory) (old : Contents) (part : ActorPart) (cpu : Processor) (address : ℕ) (op : Op)
    → Before guest asid archive memory old → Owns guest asid guests cpu.guest → ArrivesFine guest asid archive memory old cpu (items.Access address op) (data_move guests old part cpu address op)
data_fine guest asid archive guests memory old part cpu address op before owns gpn true frame size =
    private_fine guest asid archive guests memory old part cpu.guest cpu.vmpl cpu.npt cpu.paging address op gpn frame (index_of address) (data_place (asid_of guests cpu.guest) cpu.vmpl address gpn true frame size) _
    before owns (omega arith) refl refl refl
data_fine guest asid archive guests memory old part cpu address op before owns gpn false frame size =
    shared_fine guest asid archive memory old part (Cpu cpu.guest cpu.vmpl cpu.npt cpu.paging) (items.Access address op) op gpn frame (index_of address)
    (data_place (asid_of guests cpu.guest) cpu.vmpl address gpn false frame size) _ before refl

-- a word of a guest table, by what the RMP says: where it is read, it is a word of the guest's own page
table_fine : (guest asid : ℕ) (archive : Archive) (guests : List GuestSpec) (memory : Memory) (frames : ℕ) (old : Contents) (part : ActorPart) (cpu : Processor) (item : Item) (lookup : Lookup) (verdict : Verdict)
    (gpn index frame : ℕ) (place : Place)
    → Before guest asid archive memory old → Owns guest asid guests cpu.guest → place.asid ≡ asid_of guests cpu.guest → place.gpn ≡ gpn
    → private_verdict (old.pages frame).facts place Load ≡ verdict
    → MoveFine guest asid archive memory old (Cpu cpu.guest cpu.vmpl cpu.npt cpu.paging) item (table_move frames old part cpu lookup verdict gpn index frame)
unfolding table_move use_for use_of used firmware_use
table_fine guest asid archive guests memory frames old part cpu item lookup Pass gpn index frame place before owns asid_is gpn_is is =
    let facts = (old.pages frame).facts in
    let word = word_of (old.pages frame) index in
    let passed = pass_holds facts place Load is in
    let h : IsHeldAs facts (asid_of guests cpu.guest) gpn = subst (λ (p : ℕ). IsHeldAs facts (asid_of guests cpu.guest) p) gpn_is (held_asid facts place.asid (asid_of guests cpu.guest) place.gpn asid_is passed) in
    record {
      fine = cond_both (eqb cpu.guest guest) _ _ (Fine guest asid archive memory old old)
          (λ same.
          let own = held_asid facts (asid_of guests cpu.guest) asid gpn (owns.own (eqb-true cpu.guest guest same)) h in
          record {
            legal = core_may_read asid (vault_of guest old archive) memory gpn frame index before.core own;
            core = core_reads asid (vault_of guest old archive) memory gpn frame index word before.core own refl;
            whole = before.whole;
            fits = before.fits;
          })
          (λ different. nothing_fine guest asid archive memory old before);
    }
table_fine guest asid archive guests memory frames old part cpu item lookup Hidden gpn index frame place before owns asid_is gpn_is is =
    quiet_fine guest asid archive memory old part (Cpu cpu.guest cpu.vmpl cpu.npt cpu.paging) item (deeds.Table gpn index frame None) (Some outcomes.Opaque) before (record { processors = refl; firmware = λ _ _. refl })
table_fine guest asid archive guests memory frames old part cpu item lookup (Fault outcome) gpn index frame place before owns asid_is gpn_is is =
    quiet_fine guest asid archive memory old part (Cpu cpu.guest cpu.vmpl cpu.npt cpu.paging) item (deeds.Table gpn index frame None) (Some outcome) before (record { processors = refl; firmware = λ _ _. refl })

-- an item of a guest processor that walks
need_fine : (guest asid : ℕ) (archive : Archive) (guests : List GuestSpec) (memory : Memory) (frames : ℕ) (old : Contents) (part : ActorPart) (cpu : Processor) (item : Item) (lookup : Lookup) (arrives : Arrival) (need : Need)
    → Before guest asid archive memory old → Owns guest asid guests cpu.guest → ArrivesFine guest asid archive memory old cpu item arrives
    → MoveFine guest asid archive memory old (Cpu cpu.guest cpu.vmpl cpu.npt cpu.paging) item (need_move frames guests old part cpu lookup arrives need)
unfolding need_move use_of firmware_use
need_fine guest asid archive guests memory frames old part cpu item lookup arrives (needs.Nested frame index) before owns arrived =
    quiet_fine guest asid archive memory old part (Cpu cpu.guest cpu.vmpl cpu.npt cpu.paging) item _ _ before (record { processors = refl; firmware = λ _ _. refl })
need_fine guest asid archive guests memory frames old part cpu item lookup arrives (needs.Table gpn index frame size) before owns arrived =
    table_fine guest asid archive guests memory frames old part cpu item lookup _ gpn index frame (table_place (asid_of guests cpu.guest) cpu.vmpl gpn index frame size) before owns refl refl refl
need_fine guest asid archive guests memory frames old part cpu item lookup arrives (needs.Data gpn private frame size) before owns arrived = arrived gpn private frame size
need_fine guest asid archive guests memory frames old part cpu item lookup arrives (needs.Fault outcome) before owns arrived =
    faulted_fine guest asid archive memory old part (Cpu cpu.guest cpu.vmpl cpu.npt cpu.paging) item before

pub walked_fine : (guest asid : ℕ) (archive : Archive) (guests : List GuestSpec) (memory : Memory) (frames : ℕ) (old : Contents) (part : ActorPart) (cpu : Processor) (item : Item) (lookup : Lookup) (refusal : Option Outcome) (arrives : Arrival) (made : List Deed)
    → Before guest asid archive memory old → Owns guest asid guests cpu.guest → ArrivesFine guest asid archive memory old cpu item arrives
    → MoveFine guest asid archive memory old (Cpu cpu.guest cpu.vmpl cpu.npt cpu.paging) item (walked_move frames guests old part cpu lookup refusal arrives made)
unfolding walked_move
walked_fine guest asid archive guests memory frames old part cpu item lookup refusal arrives [] before owns arrived =
    begin_fine guest asid archive memory old part (Cpu cpu.guest cpu.vmpl cpu.npt cpu.paging) item (old.contexts cpu.guest) (levels_of cpu.paging) lookup.address refusal before
walked_fine guest asid archive guests memory frames old part cpu item lookup refusal arrives (deed ∷ others) before owns arrived =
    need_fine guest asid archive guests memory frames old part cpu item lookup arrives _ before owns arrived
