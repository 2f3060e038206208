-- That what the compute of an open attempt has made is still so: what was sealed is the seal of what the source has now, and what was opened is what was archived under an entry that is still in use (this project's own).
use Rattle.std.specs.Prelude.{◌≡◌, ℕ, ◌<◌, true, List, length, Option, Some, None}
use Rattle.snp_model.specs.declared.command.Command.{Command}
use Rattle.snp_model.specs.declared.firmware.MetaEntry.{MetaEntry}
use Rattle.snp_model.specs.declared.item.Item.{Item}
use Rattle.snp_model.specs.declared.item.Item.TheVariants as items
use Rattle.snp_model.specs.Firmware.{guest_of, pages_of}
use Rattle.snp_model.specs.Live.{Archived, Archive}
use Rattle.snp_model.specs.Past.{Past}
use Rattle.snp_model.specs.Sealing.{What, Slot, Sealing, SealOut, SealIn, sealing_of, slot_entry, sealed_as, made_of, opens_as}
use Rattle.snp_model.specs.State.{Contents, Computed, Standing, State, part_of}
use Rattle.snp_model.specs.Step.{line_at}
use Rattle.run_laws.specs.Uniqueness.{IsFull}

-- a page that was sealed is the seal of the words that its source has now, and these were taken at the compute
pub record IsSealNow (contents : Contents) (taken : List ℕ) (what : What) (owner source : ℕ) (made : Computed) : Type 0 where
  pub seals : made ≡ made_of (sealed_as what (contents.contexts owner) (contents.pages source))
  pub taken_are : taken ≡ (contents.pages source).words

-- these are the words that were archived; where nothing was, they aren't
abbrev pub AreWordsOf : Option Archived → List ℕ → Type 0
AreWordsOf None words = ⊥
AreWordsOf (Some archived) words = words ≡ archived.words

-- a page that was opened for a guest was opened with the entry that is still in use at its slot; for the one whose archive it is, it is what the archive has under the entry's counter
pub record IsOpenedNow (guest : ℕ) (contents : Contents) (archive : Archive) (what : What) (owner : ℕ) (slot : Slot) (made : Computed) : Type 0 where
  pub entry : MetaEntry
  pub entry_is : made.entry ≡ Some entry
  pub in_use : slot_entry contents.pages (contents.contexts owner) slot ≡ Some entry
  pub passes : opens_as what (contents.contexts owner).asid made.words ≡ true
  pub words_are : guest ≡ owner → AreWordsOf (archive entry.iv) made.words

-- what was made of this sealing; a command without one makes nothing
abbrev pub IsMadeOf : ℕ → Contents → Archive → List ℕ → Option Sealing → Computed → Type 0
IsMadeOf guest contents archive taken None made = ⊥
IsMadeOf guest contents archive taken (Some (SealOut what owner source target slot)) made = IsSealNow contents taken what owner source made
IsMadeOf guest contents archive taken (Some (SealIn what owner source target slot)) made = IsOpenedNow guest contents archive what owner slot made

-- what an attempt of a command has made, which has locked its context and all its pages
pub record IsMade (guest : ℕ) (contents : Contents) (archive : Archive) (taken : List ℕ) (command : Command) (standing : Standing) (made : Computed) : Type 0 where
  pub context : standing.context_lock ≡ guest_of command
  pub pages : length standing.locks ≡ length (pages_of command)
  pub full : IsFull made.words
  pub as_made : IsMadeOf guest contents archive taken (sealing_of command) made

-- so of an item: no other makes anything
abbrev pub IsMadeBy : ℕ → Contents → Archive → List ℕ → Item → Standing → Computed → Type 0
IsMadeBy guest contents archive taken (items.Access address op) standing made = ⊥
IsMadeBy guest contents archive taken (items.Pvalidate address size validate) standing made = ⊥
IsMadeBy guest contents archive taken (items.Rmpadjust address size target mask vmsa) standing made = ⊥
IsMadeBy guest contents archive taken (items.Rmpupdate update) standing made = ⊥
IsMadeBy guest contents archive taken (items.Psmash frame) standing made = ⊥
IsMadeBy guest contents archive taken (items.Firmware command) standing made = IsMade guest contents archive taken command standing made
IsMadeBy guest contents archive taken (items.Skip count test) standing made = ⊥

-- so of each actor, in a state with this past, as a guest's archive has it
abbrev pub AreMade : ℕ → State → Past → Type 0
AreMade guest m past =
    (actor : ℕ) (made : Computed) → 0 < actor → (part_of m actor).standing.computed ≡ Some made
    → IsMadeBy guest m.contents (past.archive guest) (past.sealing actor) (line_at (part_of m actor).script (part_of m actor).item).item (part_of m actor).standing made
