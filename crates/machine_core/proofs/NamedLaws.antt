-- The lock of a page of a command in the bay of its region, over the flat memory.
use Rattle.std.proofs.Common.{◌≡◌, ℕ, ◌/◌, ◌%◌, ◌<◌, ◌≤◌, Bool, true, false, cond, nat_le, Option, Some, None, Result, Ok, Err, refl, sym, ap, ◌∙◌, arith}
use Rattle.std.proofs.lemmas.Bool.Decides.{nat_tests}
use Rattle.std.specs.Option.{option_or}
use Rattle.snp_model.specs.declared.command.Command.{Command}
use Rattle.snp_model.specs.declared.entry.RmpEntry.{RmpEntry}
use Rattle.snp_model.specs.declared.event.FwRefusal.{FwRefusal}
use Rattle.snp_model.specs.declared.event.FwRefusal.TheVariants.{Status}
use Rattle.snp_model.specs.Entries.{facts_at, holder_at, with_lock}
use Rattle.snp_model.specs.Facts.{frames_in, page_base}
use Rattle.snp_model.specs.Firmware.{invalid_address}
use Rattle.snp_model.specs.FirmwareLocks.{firmware_answer, frame_refusal, page_extra, page_refusal}
use Rattle.snp_model.specs.FirmwareStep.{lock_refusal}
use Rattle.snp_model.specs.Locks.{page_lock}
use Rattle.snp_model.specs.RegionWords.{page_at}
use Rattle.snp_model.specs.State.{Page, PageLock}
use Rattle.machine_core.specs.declared.bay.Bay.{Bay}
use Rattle.machine_core.specs.declared.command.NamedPage.{NamedPage}
use Rattle.machine_core.specs.Bays.{Stock, holders_of, pages_of}
use Rattle.machine_core.specs.Commands.{named_refused}
use Rattle.machine_core.proofs.BaysLaws.{page_there}
use Rattle.machine_core.proofs.PageLaws.{base_fits, own_facts, own_holder, put_at_base, slot_lock}
use Rattle.machine_core.proofs.RangeLaws.{IsPut, holders_changed}

-- a frame outside memory
pub outside_refused : (frames asid : ℕ) (command : Command) (named : NamedPage) (stock : Stock) → frames ≤ named.frame → named_refused frames asid command named stock ≡ Some (Status invalid_address)
unfolding lock_refusal frame_refusal
outside_refused frames asid command named stock past =
    let is : nat_le frames named.frame ≡ true = grind (arith, nat_tests) in
    rw is refl

-- a frame in memory is tested by its entry, its lock and its words in the bay of its region
pub named_there : (frames asid : ℕ) (command : Command) (named : NamedPage) (stock : Stock) (bay : Bay) → stock.bays (named.frame / 512) ≡ Some bay → named.frame < frames
    → named_refused frames asid command named stock
    ≡ option_or (page_refusal command named.part (facts_at bay.rmp (named.frame % 512)) (holder_at bay.rmp (named.frame % 512)) asid) (page_extra command named.part asid (page_at bay.memory (named.frame % 512)))
unfolding lock_refusal frame_refusal
named_there frames asid command named stock bay there below =
    let inside : nat_le frames named.frame ≡ false = grind (arith, nat_tests) in
    let found = pages_of stock.bays named.frame in
    ap (λ (outside : Bool). option_or (cond outside (Some (Status invalid_address)) None) (option_or (page_refusal command named.part found.facts (holders_of stock.bays named.frame) asid) (page_extra command named.part asid found.words))) inside
    ∙ (λ i. let page : Page = page_there stock.bays named.frame bay there i in
    option_or (page_refusal command named.part page.facts (own_holder stock.bays bay named.frame there i) asid) (page_extra command named.part asid page.words))

-- the first refusal is the answer
pub entry_answers : (first later : Option FwRefusal) (answer : Result (Unit {0}) FwRefusal) (why : FwRefusal) → answer ≡ Err why → answer ≡ firmware_answer first → Err why ≡ firmware_answer (option_or first later)
entry_answers None later answer why is found = absurd (let e = sym is ∙ found in cc)
entry_answers (Some refusal) later answer why is found = sym is ∙ found

pub words_answer : (first later : Option FwRefusal) (answer other : Result (Unit {0}) FwRefusal) (unit : Unit {0}) → answer ≡ Ok unit → answer ≡ firmware_answer first → other ≡ firmware_answer later → other ≡ firmware_answer (option_or first later)
words_answer None later answer other unit is found next = next
words_answer (Some refusal) later answer other unit is found next = absurd (let e = sym is ∙ found in cc)

-- the whole page is locked
pub named_locked : (stock new_stock : Stock) (actor frame : ℕ) (old new : Bay) (lock : PageLock) → IsPut stock new_stock (frame / 512) old new
    → holder_at new.rmp ≡ with_lock (page_lock (facts_at old.rmp (frame % 512)).size (frame % 512)) actor (holder_at old.rmp) → lock ≡ page_lock (pages_of stock.bays frame).facts.size frame
    → holders_of new_stock.bays ≡ with_lock lock actor (holders_of stock.bays)
named_locked stock new_stock actor frame old new lock is locked lock_is =
    let size = (facts_at old.rmp (frame % 512)).size in
    holders_changed stock new_stock (page_base size frame) (frames_in size) old new (λ place held. Some actor) (base_fits size frame) (put_at_base stock new_stock size frame old new is)
    (locked ∙ slot_lock size frame (λ held. Some actor) (holder_at old.rmp))
    ∙ ap (λ (l : PageLock). with_lock l actor (holders_of stock.bays)) (sym (lock_is ∙ ap (λ (e : RmpEntry). page_lock e.size frame) (own_facts stock.bays old frame is.there)))
