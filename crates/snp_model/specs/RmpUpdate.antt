-- RMPUPDATE and PSMASH (APM volume 2, 15.36; volume 3). Statuses: 1 FAIL_INPUT, 2 FAIL_PERMISSION, 3 FAIL_INUSE, 4 FAIL_OVERLAP. Which test comes first, the exact conditions, and what a commit changes and keeps but for the permissions on assignment are this project's own.
-- Facts and holders are told by place, the first frame of the instruction's range having place 0. An actor that asks for a lock holds none in that range, so a holder found there is another actor.
use Rattle.std.specs.Prelude.{ℕ, ◌+◌, ◌%◌, ◌==◌, nat_lt, Bool, false, true, not, ◌&&◌, ◌||◌, if◌then◌else◌, List, [], ◌∷◌, Option, Some, None}
use Rattle.snp_model.specs.declared.entry.Kind.{Kind}
use Rattle.snp_model.specs.declared.entry.Kind.TheVariants.{Plain, Firmware}
use Rattle.snp_model.specs.declared.entry.PageSize.{PageSize}
use Rattle.snp_model.specs.declared.entry.PageSize.TheVariants.{Small, Large}
use Rattle.snp_model.specs.declared.entry.RmpEntry.{RmpEntry}
use Rattle.snp_model.specs.declared.event.Refusal.{Refusal}
use Rattle.snp_model.specs.declared.event.Refusal.TheVariants.{Status, InUse}
use Rattle.snp_model.specs.declared.item.Update.{Update}
use Rattle.snp_model.specs.Facts.{free_entry, frames_in, some_frame}
use Rattle.snp_model.specs.Locks.{over, over_lock, range_holder, range_lock}
use Rattle.snp_model.specs.State.{Page, Pages, PageLock, zero_words}
use Rattle.snp_model.specs.Verdicts.{is_large, same_size}

-- RMPUPDATE

-- what is tested before any entry is looked at: status 1
unfoldable pub is_bad_update : ℕ → Update → Bool
is_bad_update frames update =
    not (nat_lt update.frame frames)
    || (is_large update.size && not (update.frame % 512 == 0))
    || (is_large update.size && update.assigned && (not (update.gpn % 512 == 0) || (update.asid == 0)))
    || (not update.assigned && (not (update.asid == 0) || not (update.gpn == 0) || update.immutable))
    || (update.assigned && (update.asid == 0) && not (update.gpn == 0))

-- whether the page sizes don't go together: a 4 KB frame is in a page of 2 MB, or a range of 2 MB is no page of 2 MB and one of its frames is assigned
unfoldable pub overlaps : PageSize → (ℕ → RmpEntry) → Bool
overlaps Small facts = is_large (facts 0).size
overlaps Large facts = not (is_large (facts 0).size) && some_frame (λ place. (facts place).assigned) 0 512

-- the refusal where an actor holds a lock; where none does, that of the rows which follow
abbrev pub in_use_or : Option ℕ → Option Refusal → Option Refusal
in_use_or (Some holder) later = Some (InUse holder)
in_use_or None later = later

-- what is tested of the range's entries and locks: a frame of it is locked, by the lowest one's holder; the sizes don't go together; a frame of it is immutable
unfoldable pub update_range_refusal : Update → (ℕ → RmpEntry) → (ℕ → Option ℕ) → Option Refusal
update_range_refusal update facts holder =
    in_use_or (range_holder holder 0 (frames_in update.size)) (
    if overlaps update.size facts then Some (Status 4)
    else if some_frame (λ place. (facts place).immutable) 0 (frames_in update.size) then Some (Status 2)
    else None)

-- the refusal of the first row that applies, as the lock is asked for
unfoldable pub update_refusal : ℕ → Update → (ℕ → RmpEntry) → (ℕ → Option ℕ) → Option Refusal
update_refusal frames update facts holder =
    if is_bad_update frames update then Some (Status 1)
    else update_range_refusal update facts holder

-- the lock that it then takes: that of a 4 KB page, or of every page of a range of 2 MB
abbrev pub update_lock : Update → PageLock
update_lock update = range_lock update.size update.frame

-- whether a commit makes the page at the range's first frame immutable and leaves all else: it is assigned as asked already
unfoldable pub makes_immutable : Update → RmpEntry → Bool
makes_immutable update first =
    first.assigned && (first.asid == update.asid) && (first.gpn == update.gpn) && same_size first.size update.size
    && update.assigned && not first.immutable && update.immutable

-- the kind of a page with this ASID that becomes immutable
abbrev pub immutable_kind : ℕ → Kind → Kind
immutable_kind asid kind = if asid == 0 then Firmware else kind

-- the facts of a frame that becomes assigned, at its place in the range
unfoldable pub assigned_facts : Update → ℕ → RmpEntry
assigned_facts update place =
    record {
      assigned = true;
      size = update.size;
      immutable = update.immutable;
      gpn = update.gpn + place;
      asid = update.asid;
      vmsa = false;
      validated = false;
      perms = (if update.asid == 0 then 0 else 15) ∷ 0 ∷ 0 ∷ 0 ∷ [];
      kind = if update.immutable then immutable_kind update.asid Plain else Plain;
    }

-- the facts of a frame after the commit, by those of the range's first frame, the frame's place and its own facts: the page becomes immutable; every frame becomes free; every frame becomes assigned
unfoldable pub updated_facts : Update → RmpEntry → ℕ → RmpEntry → RmpEntry
updated_facts update first place facts =
    if makes_immutable update first then record facts { immutable = true; kind = immutable_kind update.asid facts.kind }
    else if not update.assigned then free_entry
    else assigned_facts update place

-- the words of a frame after the commit, by its facts before: a page that becomes immutable keeps them, and so does a frame that was free; else they are zero
unfoldable pub updated_words : Update → RmpEntry → RmpEntry → List ℕ → List ℕ
updated_words update first facts words =
    if makes_immutable update first then words
    else if facts.assigned then zero_words
    else words

-- a frame after the commit
abbrev pub updated_page : Update → RmpEntry → ℕ → Page → Page
updated_page update first place page =
    record { facts = updated_facts update first place page.facts; words = updated_words update first page.facts page.words }

-- memory after the commit
unfoldable pub pages_updated : Update → PageLock → Pages → Pages
pages_updated update lock pages = over lock.base lock.count (updated_page update (pages lock.base).facts) pages

-- PSMASH

-- what is tested before any entry is looked at: status 1
unfoldable pub is_bad_smash : ℕ → ℕ → Bool
is_bad_smash frames frame = not (nat_lt frame frames) || not (frame % 512 == 0)

-- what is tested of the frame's entry and lock: its page is locked; it is in no page of 2 MB; it is immutable
unfoldable pub smash_page_refusal : RmpEntry → Option ℕ → Option Refusal
smash_page_refusal facts holder =
    in_use_or holder (
    if not (is_large facts.size) then Some (Status 1)
    else if facts.immutable then Some (Status 2)
    else None)

-- the refusal of the first row that applies, as the lock is asked for
unfoldable pub smash_refusal : ℕ → ℕ → RmpEntry → Option ℕ → Option Refusal
smash_refusal frames frame facts holder =
    if is_bad_smash frames frame then Some (Status 1)
    else smash_page_refusal facts holder

-- the facts of a frame of the page after the commit: a page of 4 KB, with the guest page number that the frame had
abbrev pub smashed_facts : RmpEntry → RmpEntry
smashed_facts facts = record facts { size = Small }

-- a frame after the commit
abbrev pub smashed_page : Page → Page
smashed_page page = record page { facts = smashed_facts page.facts }

-- memory after the commit
unfoldable pub pages_smashed : PageLock → Pages → Pages
pages_smashed lock pages = over_lock lock smashed_page pages
