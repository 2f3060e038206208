-- Where a guest's page is kept, and what ties it to the guest's memory (this project's own).
use Rattle.std.specs.Prelude.{◌≡◌, ℕ, ◌==◌, true, ◌&&◌, if◌then◌else◌, List, [], ◌∷◌, ◌++◌, Some, slice_index_or}
use Rattle.snp_model.specs.declared.entry.RmpEntry.{RmpEntry}
use Rattle.snp_model.specs.declared.firmware.MetaEntry.{MetaEntry}
use Rattle.snp_model.specs.GuestMemory.{Memory, IsHeld, known}
use Rattle.snp_model.specs.Live.{Vault, Spot, Live, IsLive, archived_words, rows, live}

-- what may hold a page: a frame, or the live entry at a place
pub data Holder : Type 0 where
  InFrame : (frame : ℕ) → Holder
  Sealed : (spot : Spot) → Holder

-- the facts of a frame that holds a page of the guest with this ASID
pub record IsHeldAs (facts : RmpEntry) (asid gpn : ℕ) : Type 0 where
  pub assigned : facts.assigned ≡ true
  pub validated : facts.validated ≡ true
  pub asid_is : facts.asid ≡ asid
  pub gpn_is : facts.gpn ≡ gpn

-- an entry that keeps a validated page of a guest
pub record IsSealedAs (entry : MetaEntry) (gpn : ℕ) : Type 0 where
  pub kind_is : entry.kind ≡ 1
  pub validated : entry.validated ≡ true
  pub gpn_is : entry.gpn ≡ gpn

-- a page of the guest with this ASID is held, with these words: those of the frame, or those of the entry's archive
abbrev pub Holds : ℕ → Vault → ℕ → Holder → List ℕ → Type 0
Holds asid vault gpn (InFrame frame) words = IsHeldAs (vault.pages frame).facts asid gpn × (words ≡ (vault.pages frame).words)
Holds asid vault gpn (Sealed spot) words =
    (entry : MetaEntry) × IsLive asid vault spot entry × IsSealedAs entry gpn × (words ≡ archived_words vault.archive entry.iv)

-- each page of a guest has at most one holder, which has a page of the guest's memory with its known words
pub record Core (asid : ℕ) (vault : Vault) (memory : Memory) : Type 0 where
  pub unique : (gpn : ℕ) (x y : Holder) (u w : List ℕ) → Holds asid vault gpn x u → Holds asid vault gpn y w → x ≡ y
  pub held : (gpn : ℕ) (x : Holder) (u : List ℕ) → Holds asid vault gpn x u → IsHeld memory gpn
  pub agree : (gpn : ℕ) (x : Holder) (u : List ℕ) (index word : ℕ) → Holds asid vault gpn x u → known memory gpn index ≡ Some word → slice_index_or u index 0 ≡ word

-- a frame, where it holds a page
unfoldable pub frame_holder : ℕ → Vault → ℕ → ℕ → List Holder
frame_holder asid vault gpn frame =
    let facts = (vault.pages frame).facts in
    if facts.assigned && facts.validated && (facts.asid == asid) && (facts.gpn == gpn) then InFrame frame ∷ [] else []

-- the live entries of a list that keep a page
unfoldable pub sealed_holders : ℕ → List Live → List Holder
sealed_holders gpn [] = []
sealed_holders gpn (one ∷ others) =
    if (one.entry.kind == 1) && one.entry.validated && (one.entry.gpn == gpn) then Sealed one.spot ∷ sealed_holders gpn others
    else sealed_holders gpn others

-- the holders of a page in a memory of so many frames: the frames upwards, and then the live entries
unfoldable pub holders : ℕ → Vault → ℕ → ℕ → List Holder
holders asid vault frames gpn = rows (frame_holder asid vault gpn) 0 frames ++ sealed_holders gpn (live asid vault frames)
