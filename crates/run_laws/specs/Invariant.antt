-- All that ties a guest's pages to their holders in a state, in seven parts. It is meant of the states of runs in which the guest is disciplined and no ciphertext meets the tag of another (`Premises`); parts 5 and 7 ask for neither. This project's own.
use Rattle.std.specs.Prelude.{◌≡◌, ℕ, List, slice_index_or, Some}
use Rattle.snp_model.specs.GuestMemory.{Memory, IsHeld, known}
use Rattle.snp_model.specs.Holders.{Holder, Holds}
use Rattle.snp_model.specs.Live.{Vault, vault_of}
use Rattle.snp_model.specs.Opening.{asid_of}
use Rattle.snp_model.specs.Past.{Past}
use Rattle.snp_model.specs.State.{State}
use Rattle.run_laws.specs.HeldLocks.{AreLocked}
use Rattle.run_laws.specs.MadePages.{AreMade}
use Rattle.run_laws.specs.Shapes.{AreShaped}
use Rattle.run_laws.specs.Uniqueness.{Seals, IsSingle}

-- each holder of a page has a page of the guest's memory
abbrev pub AreHeld : ℕ → Vault → Memory → Type 0
AreHeld asid vault memory = (gpn : ℕ) (holder : Holder) (words : List ℕ) → Holds asid vault gpn holder words → IsHeld memory gpn

-- with its known words
abbrev pub AreKnown : ℕ → Vault → Memory → Type 0
AreKnown asid vault memory =
    (gpn : ℕ) (holder : Holder) (words : List ℕ) (index word : ℕ) → Holds asid vault gpn holder words → known memory gpn index ≡ Some word
    → slice_index_or words index 0 ≡ word

-- in a state with this past and this memory of the guest, by the guest's ASID and what tells its live entries
pub record IsUniqueFor (guest : ℕ) (m : State) (past : Past) (memory : Memory) (asid : ℕ) (vault : Vault) : Type 0 where
  -- 1: each page has at most one holder, and no two live entries have one counter
  pub single : IsSingle asid vault m.frames
  -- 2: the guest's memory has the page of each holder
  pub held : AreHeld asid vault memory
  -- 3: a holder has the words that are known of its page
  pub known_words : AreKnown asid vault memory
  -- 4: entries and the root have counters below that of their context, and their tags and archives are seals of what was sealed
  pub seals : Seals asid vault
  -- 5: locks have one holder each, and keep what they lock as it was
  pub locks : AreLocked m
  -- 6: what was sealed or opened, and is not yet committed, is still so
  pub made : AreMade guest m past
  -- 7: the facts of a frame go together, a page of 2 MB is whole, and guests have ASIDs of their own
  pub shapes : AreShaped m

-- so, for a guest
abbrev pub IsUnique : ℕ → State → Past → Memory → Type 0
IsUnique guest m past memory = IsUniqueFor guest m past memory (asid_of m.guests guest) (vault_of guest m.contents (past.archive guest))
