-- The six commands of the firmware that seal or open a page: what they seal, where its entry is kept, what their compute makes, and what their commit changes (after the SEV-SNP firmware ABI 56860, chapter 8; the four commands on metadata pages, and the root, are this project's own).
use Rattle.std.specs.Prelude.{ℕ, Bool, true, false, if◌then◌else◌, List, replicate, Option, Some, None, unwrap_or, Result, Ok, Err}
use Rattle.snp_model.specs.declared.command.Command.{Command}
use Rattle.snp_model.specs.declared.command.Command.TheVariants as commands
use Rattle.snp_model.specs.declared.event.FwRefusal.{FwRefusal}
use Rattle.snp_model.specs.declared.event.FwRefusal.TheVariants.{Status}
use Rattle.snp_model.specs.declared.firmware.MetaEntry.{MetaEntry}
use Rattle.snp_model.specs.Firmware.{invalid_mdata_entry, invalid_page_owner}
use Rattle.snp_model.specs.Metadata.{SealedPage, entry_at, with_entry, cleared, owned, sealed_page, sealed_metadata, opened}
use Rattle.snp_model.specs.FirmwareCommits.{at_frame, with_words, released, restored, metadata_out, metadata_in}
use Rattle.snp_model.specs.State.{Page, Pages, Context, Contents, Computed}

-- what is sealed
pub data What : Type 0 where
  GuestPage : What
  MetadataPage : What

-- where the entry of what is sealed is kept: in a metadata page, or in the guest's context
pub data Slot : Type 0 where
  OfEntry : (metadata number : ℕ) → Slot
  OfRoot : Slot

-- a page that is sealed, or opened
pub data Sealing : Type 0 where
  SealOut : (what : What) (guest source target : ℕ) (slot : Slot) → Sealing
  SealIn : (what : What) (guest source target : ℕ) (slot : Slot) → Sealing

-- what a command seals or opens, if it does
unfoldable pub sealing_of : Command → Option Sealing
sealing_of (commands.GctxCreate guest frame) = None
sealing_of (commands.Activate guest asid) = None
sealing_of (commands.LaunchStart guest) = None
sealing_of (commands.LaunchUpdate guest frame page_type imi perms) = None
sealing_of (commands.LaunchFinish guest) = None
sealing_of (commands.MdInit frame) = None
sealing_of (commands.PageMove guest source target) = None
sealing_of (commands.SwapOut guest source target metadata entry) = Some (SealOut GuestPage guest source target (OfEntry metadata entry))
sealing_of (commands.SwapIn guest source target metadata entry) = Some (SealIn GuestPage guest source target (OfEntry metadata entry))
sealing_of (commands.Reclaim frame) = None
sealing_of (commands.MdOut guest source target metadata entry) = Some (SealOut MetadataPage guest source target (OfEntry metadata entry))
sealing_of (commands.MdIn guest source target metadata entry) = Some (SealIn MetadataPage guest source target (OfEntry metadata entry))
sealing_of (commands.MdRootOut guest source target) = Some (SealOut MetadataPage guest source target OfRoot)
sealing_of (commands.MdRootIn guest source target) = Some (SealIn MetadataPage guest source target OfRoot)

-- the entry at a slot
abbrev pub slot_entry : Pages → Context → Slot → Option MetaEntry
slot_entry pages context (OfEntry metadata number) = entry_at (pages metadata).words number
slot_entry pages context OfRoot = context.root

-- a page that is sealed under its guest's context
abbrev pub sealed_as : What → Context → Page → SealedPage
sealed_as GuestPage context page = sealed_page context page.facts page.words
sealed_as MetadataPage context page = sealed_metadata context page.words

-- what the compute of a page that is sealed makes
abbrev pub made_of : SealedPage → Computed
made_of page = record { words = page.words; entry = Some page.entry }

-- whether opened words are taken: the entries in use of a metadata page have to be the guest's
abbrev pub opens_as : What → ℕ → List ℕ → Bool
opens_as GuestPage asid words = true
opens_as MetadataPage asid words = owned words asid

-- what the compute makes of words that were opened with an entry
unfoldable pub opened_with : What → ℕ → MetaEntry → Result (List ℕ) FwRefusal → Result Computed FwRefusal
opened_with what asid entry (Ok words) = if opens_as what asid words then Ok (record { words = words; entry = Some entry }) else Err (Status invalid_page_owner)
opened_with what asid entry (Err refusal) = Err refusal

-- what the compute of a page that is opened makes, with the entry that a lock has found in use
unfoldable pub opened_as : What → Context → Option MetaEntry → List ℕ → Result Computed FwRefusal
opened_as what context None words = Err (Status invalid_mdata_entry)
opened_as what context (Some entry) words = opened_with what context.asid entry (opened context entry words)

-- the compute: what it makes of the source, or what refuses it
unfoldable pub compute_of : Contents → Sealing → Result Computed FwRefusal
compute_of contents (SealOut what guest source target slot) = Ok (made_of (sealed_as what (contents.contexts guest) (contents.pages source)))
compute_of contents (SealIn what guest source target slot) =
    let context = contents.contexts guest in
    opened_as what context (slot_entry contents.pages context slot) (contents.pages source).words

-- the page that was sealed, after the commit
abbrev pub given_up : What → Page → Page
given_up GuestPage page = released page
given_up MetadataPage page = metadata_out page

-- the page that was opened, after the commit
abbrev pub brought_back : What → MetaEntry → List ℕ → Page → Page
brought_back GuestPage entry words page = restored entry words page
brought_back MetadataPage entry words page = metadata_in words page

-- the words of a metadata page where an entry is this one, or isn't in use
abbrev pub entry_set : List ℕ → ℕ → Option MetaEntry → List ℕ
entry_set words number None = cleared words number
entry_set words number (Some entry) = with_entry words number entry

-- memory where the entry at a slot is this one, or isn't in use; the root isn't in memory
unfoldable pub with_slot_entry : Slot → Option MetaEntry → Pages → Pages
with_slot_entry (OfEntry metadata number) entry pages =
    at_frame metadata (with_words (entry_set (pages metadata).words number entry) (pages metadata)) pages
with_slot_entry OfRoot entry pages = pages

-- memory after a page was sealed: the target gets the ciphertext, and the entry is written
unfoldable pub pages_out : What → ℕ → ℕ → Slot → Computed → Pages → Pages
pages_out what source target slot made pages =
    with_slot_entry slot made.entry (at_frame target (with_words made.words (pages target)) (at_frame source (given_up what (pages source)) pages))

-- an entry that stands for one that no compute has made
abbrev pub no_entry : MetaEntry
no_entry = record { kind = 0; vmsa = false; validated = false; asid = 0; gpn = 0; perms = replicate 4 0; iv = 0; tag = replicate 16 0 }

-- memory after a page was opened: the target gets the words, and the entry is cleared
unfoldable pub pages_in : What → ℕ → Slot → Computed → Pages → Pages
pages_in what target slot made pages =
    with_slot_entry slot None (at_frame target (brought_back what (unwrap_or made.entry no_entry) made.words (pages target)) pages)
