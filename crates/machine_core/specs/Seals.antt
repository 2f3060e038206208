-- What a command seals or opens, where the machine's values and the model's meet, and what its compute and its commit rest on (this project's own).
use Rattle.std.specs.Prelude.{ℕ, ◌<◌, ◌^◌, Bool, true, false, List, [], ◌∷◌, Some, Result, Ok, Err}
use Rattle.snp_model.specs.declared.command.Command.{Command}
use Rattle.snp_model.specs.declared.command.Command.TheVariants as commands
use Rattle.snp_model.specs.declared.entry.PageSize.TheVariants.{Small}
use Rattle.snp_model.specs.declared.event.FwRefusal.{FwRefusal}
use Rattle.snp_model.specs.declared.firmware.MetaEntry.{MetaEntry}
use Rattle.snp_model.specs.Locks.{page_lock}
use Rattle.snp_model.specs.Sealing.{What, GuestPage, MetadataPage, Slot, OfEntry, OfRoot, Sealing, SealOut, SealIn}
use Rattle.snp_model.specs.State.{Computed, Page, PageLock}
use Rattle.machine_core.specs.declared.sealing.Sealing as sealings
use Rattle.machine_core.specs.declared.sealing.Slot as slots
use Rattle.machine_core.specs.declared.sealing.Slot.TheVariants as slot_variants
use Rattle.machine_core.specs.declared.sealing.Way as ways
use Rattle.machine_core.specs.declared.sealing.Way.TheVariants as way_variants
use Rattle.machine_core.specs.declared.sealing.What as whats
use Rattle.machine_core.specs.declared.sealing.What.TheVariants as what_variants
use Rattle.machine_core.specs.Bays.{HasFrame, Stock}
use Rattle.machine_core.specs.CommandPages.{HoldsLocks, IsTestedFrame}

-- what is sealed, as the model sees it
abbrev pub what_by : whats.What → What
what_by what_variants.GuestPage = GuestPage
what_by what_variants.MetadataPage = MetadataPage

-- where its entry is kept
abbrev pub slot_by : slots.Slot → Slot
slot_by (slot_variants.OfEntry metadata number) = OfEntry metadata number
slot_by slot_variants.OfRoot = OfRoot

-- a page that is sealed, or opened, by its parts
abbrev pub sealed_by : ways.Way → What → ℕ → ℕ → ℕ → Slot → Sealing
sealed_by way_variants.Out what guest source target slot = SealOut what guest source target slot
sealed_by way_variants.In what guest source target slot = SealIn what guest source target slot

-- what a command seals or opens
abbrev pub sealing_by : sealings.Sealing → Sealing
sealing_by sealing = sealed_by sealing.way (what_by sealing.what) sealing.guest sealing.source sealing.target (slot_by sealing.slot)

-- whether a command opens a page
abbrev pub is_opened : Command → Bool
is_opened (commands.SwapIn guest source target metadata entry) = true
is_opened (commands.MdIn guest source target metadata entry) = true
is_opened (commands.MdRootIn guest source target) = true
is_opened command = false

-- what a compute has made, by its entry and the words in the actor's page
abbrev pub made_by : MetaEntry → List ℕ → Computed
made_by entry words = record { words = words; entry = Some entry }

-- that, or the refusal
abbrev pub computed_by : Result MetaEntry FwRefusal → List ℕ → Result Computed FwRefusal
computed_by (Ok entry) words = Ok (made_by entry words)
computed_by (Err refusal) words = Err refusal

-- the guest page number that the commit of such a page shows
abbrev pub gpn_shown : What → Page → ℕ
gpn_shown GuestPage page = page.facts.gpn
gpn_shown MetadataPage page = 0

-- an entry that is kept in a metadata page has its place there
pub record HasEntry (metadata number : ℕ) (stock : Stock) : Type 0 where
  pub has : HasFrame stock metadata
  pub below : metadata < 2 ^ 32
  pub number_below : number < 64

-- so does the entry at a slot; the root is in no page
abbrev pub HasSlot : Slot → Stock → Type 0
HasSlot (OfEntry metadata number) stock = HasEntry metadata number stock
HasSlot OfRoot stock = Unit {0}

-- the locks of the command's pages
abbrev pub sealing_locks : ℕ → ℕ → Slot → List PageLock
sealing_locks source target (OfEntry metadata number) = page_lock Small source ∷ page_lock Small target ∷ page_lock Small metadata ∷ []
sealing_locks source target OfRoot = page_lock Small source ∷ page_lock Small target ∷ []

-- what the commit of its pages rests on: they are there, as the tests asked, and the actor has locked them, and no others
pub record MaySwap (actor : ℕ) (sealing : sealings.Sealing) (stock : Stock) : Type 0 where
  pub source_has : HasFrame stock sealing.source
  pub target_has : HasFrame stock sealing.target
  pub slot_has : HasSlot (slot_by sealing.slot) stock
  pub source_tested : IsTestedFrame sealing.source stock
  pub target_tested : IsTestedFrame sealing.target stock
  pub holds : HoldsLocks actor (sealing_locks sealing.source sealing.target (slot_by sealing.slot)) stock
