-- What the commit of a command of the firmware makes of each of its pages and of its guest's context (after the SEV-SNP firmware ABI 56860, chapter 8; what stays and what is zeroed is this project's own).
use Rattle.std.specs.Prelude.{ℕ, ◌+◌, ◌%◌, min, ◌==◌, Bool, true, false, if◌then◌else◌, List, [], ◌∷◌, replicate, Option, None}
use Rattle.snp_model.specs.declared.command.Command.{Command}
use Rattle.snp_model.specs.declared.command.Command.TheVariants as commands
use Rattle.snp_model.specs.declared.entry.Kind.TheVariants as kinds
use Rattle.snp_model.specs.declared.entry.RmpEntry.{RmpEntry}
use Rattle.snp_model.specs.declared.firmware.GuestState.TheVariants.{Init, Launching, Running}
use Rattle.snp_model.specs.declared.firmware.MetaEntry.{MetaEntry}
use Rattle.snp_model.specs.declared.firmware.PageState.{PageState}
use Rattle.snp_model.specs.declared.firmware.PageState.TheVariants as states
use Rattle.snp_model.specs.Measurement.{digest_after}
use Rattle.snp_model.specs.PageStates.{state_of}
use Rattle.snp_model.specs.Verdicts.{is_large}
use Rattle.snp_model.specs.State.{Page, Pages, Context, Contexts, zero_words}

-- memory with another page
unfoldable pub at_frame : ℕ → Page → Pages → Pages
at_frame frame page pages f = if frame == f then page else pages f

-- contexts with another one
unfoldable pub at_guest : ℕ → Context → Contexts → Contexts
at_guest guest context contexts g = if guest == g then context else contexts g

-- gctx_create: a Firmware page becomes a Context page; its words stay
unfoldable pub context_facts : RmpEntry → RmpEntry
context_facts facts = record facts { kind = kinds.Context }

abbrev pub context_page : Page → Page
context_page page = record page { facts = context_facts page.facts }

-- launch_update: a Pre-Guest page becomes Guest-Valid, with these permissions of VMPL1 to VMPL3; one of type 3 gets zero words
unfoldable pub launched_facts : List ℕ → RmpEntry → RmpEntry
launched_facts perms facts = record facts { validated = true; immutable = false; perms = 15 ∷ perms }

unfoldable pub launched_words : ℕ → List ℕ → List ℕ
launched_words page_type words = if page_type == 3 then zero_words else words

abbrev pub launched_page : ℕ → List ℕ → Page → Page
launched_page page_type perms page = record { facts = launched_facts perms page.facts; words = launched_words page_type page.words }

-- md_init: a Firmware page becomes a Metadata page with zero words
unfoldable pub metadata_facts : RmpEntry → RmpEntry
metadata_facts facts = record facts { kind = kinds.Metadata }

abbrev pub metadata_page : Page → Page
metadata_page page = record { facts = metadata_facts page.facts; words = zero_words }

-- page_move: the source becomes Pre-Guest with its guest page number and zero words
unfoldable pub taken_facts : RmpEntry → RmpEntry
taken_facts facts = record facts { validated = false; vmsa = false; perms = 15 ∷ 0 ∷ 0 ∷ 0 ∷ [] }

abbrev pub taken : Page → Page
taken page = record { facts = taken_facts page.facts; words = zero_words }

-- and the target gets the source's facts and words
abbrev pub placed : RmpEntry → List ℕ → Page
placed moved words = record { facts = moved; words = words }

-- a frame's guest page number where that of its page is 0: its place in a page of 2 MB
abbrev pub gpn_from_zero : RmpEntry → ℕ
gpn_from_zero facts = if is_large facts.size then facts.gpn % 512 else 0

-- a page in state Reclaim, with guest page number 0 and no permissions; no run makes one of 2 MB
unfoldable pub reclaim_facts : RmpEntry → RmpEntry
reclaim_facts facts =
    record facts { validated = false; immutable = false; gpn = gpn_from_zero facts; asid = 0; vmsa = false; perms = replicate 4 0; kind = kinds.Plain }

-- swap_out: the source becomes Reclaim with zero words
abbrev pub released : Page → Page
released page = record { facts = reclaim_facts page.facts; words = zero_words }

-- swap_out, md_out and md_root_out: the target gets the ciphertext
abbrev pub with_words : List ℕ → Page → Page
with_words words page = record page { words = words }

-- swap_in: the target gets the words, and its entry's guest page number, Validated, VMSA and permissions
unfoldable pub restored_facts : MetaEntry → RmpEntry → RmpEntry
restored_facts entry facts =
    record facts { immutable = true; gpn = entry.gpn; validated = entry.validated; vmsa = entry.vmsa; perms = entry.perms }

abbrev pub restored : MetaEntry → List ℕ → Page → Page
restored entry words page = record { facts = restored_facts entry page.facts; words = words }

-- md_out and md_root_out: the source becomes a Firmware page with zero words
unfoldable pub metadata_out_facts : RmpEntry → RmpEntry
metadata_out_facts facts = record facts { kind = kinds.Firmware }

abbrev pub metadata_out : Page → Page
metadata_out page = record { facts = metadata_out_facts page.facts; words = zero_words }

-- md_in and md_root_in: the target becomes a Metadata page with the words
abbrev pub metadata_in : List ℕ → Page → Page
metadata_in words page = record { facts = metadata_facts page.facts; words = words }

-- page_reclaim of a page of a guest: it isn't immutable any more, and its words stay
unfoldable pub given_back_facts : RmpEntry → RmpEntry
given_back_facts facts = record facts { immutable = false }

-- page_reclaim, by the state of the page; no other state is let through
abbrev pub reclaimed_as : PageState → Page → Page
reclaimed_as states.Firmware page = released page
reclaimed_as states.Metadata page = released page
reclaimed_as states.PreGuest page = record page { facts = given_back_facts page.facts }
reclaimed_as states.PreSwap page = record page { facts = given_back_facts page.facts }
reclaimed_as state page = page

unfoldable pub reclaimed_page : Page → Page
reclaimed_page page = reclaimed_as (state_of page.facts) page

-- a count of launched pages, one higher: it stands still at the last value of its 32 bits
abbrev pub one_more : ℕ → ℕ
one_more pages = min (pages + 1) 0xffff_ffff

-- a context that a page of this type, with these permissions, guest page number and words, is launched into
unfoldable pub launched_into : ℕ → Bool → List ℕ → ℕ → List ℕ → Context → Context
launched_into page_type imi perms gpn words context =
    record context {
      digest = digest_after context.digest (record { page_type = page_type; imi = imi; perms = perms; gpn = gpn; words = words });
      pages = one_more context.pages;
    }

-- a context whose counter has sealed one more page
abbrev pub counted : Context → Context
counted context = record context { iv = context.iv + 1 }

-- the context after a command's commit, but for the root; `gpn` and `words` are those of the launched page after it
unfoldable pub context_after : Command → ℕ → List ℕ → Context → Context
context_after (commands.GctxCreate guest frame) gpn words context = record context { state = Init; digest = replicate 48 0 }
context_after (commands.Activate guest asid) gpn words context = record context { bound = true }
context_after (commands.LaunchStart guest) gpn words context = record context { state = Launching }
context_after (commands.LaunchUpdate guest frame page_type imi perms) gpn words context = launched_into page_type imi perms gpn words context
context_after (commands.LaunchFinish guest) gpn words context = record context { state = Running }
context_after (commands.MdInit frame) gpn words context = context
context_after (commands.PageMove guest source target) gpn words context = context
context_after (commands.SwapOut guest source target metadata entry) gpn words context = counted context
context_after (commands.SwapIn guest source target metadata entry) gpn words context = context
context_after (commands.Reclaim frame) gpn words context = context
context_after (commands.MdOut guest source target metadata entry) gpn words context = counted context
context_after (commands.MdIn guest source target metadata entry) gpn words context = context
context_after (commands.MdRootOut guest source target) gpn words context = counted context
context_after (commands.MdRootIn guest source target) gpn words context = context

-- the root after a command's commit: `entry` is that of the page which was sealed
unfoldable pub root_after : Command → Option MetaEntry → Option MetaEntry → Option MetaEntry
root_after (commands.GctxCreate guest frame) entry root = root
root_after (commands.Activate guest asid) entry root = root
root_after (commands.LaunchStart guest) entry root = root
root_after (commands.LaunchUpdate guest frame page_type imi perms) entry root = root
root_after (commands.LaunchFinish guest) entry root = root
root_after (commands.MdInit frame) entry root = root
root_after (commands.PageMove guest source target) entry root = root
root_after (commands.SwapOut guest source target metadata number) entry root = root
root_after (commands.SwapIn guest source target metadata number) entry root = root
root_after (commands.Reclaim frame) entry root = root
root_after (commands.MdOut guest source target metadata number) entry root = root
root_after (commands.MdIn guest source target metadata number) entry root = root
root_after (commands.MdRootOut guest source target) entry root = entry
root_after (commands.MdRootIn guest source target) entry root = None

-- a context with this root
abbrev pub with_root : Option MetaEntry → Context → Context
with_root root context = record context { root = root }
