-- What ties the pages that are sealed for a guest to their entries and to its context: counters, seals, and at most one place for each page (this project's own; AES-256-GCM is that of NIST SP 800-38D).
use Rattle.std.specs.Prelude.{◌≡◌, ◌≢◌, ℕ, ◌<◌, ◌≤◌, ◌^◌, List, length, slice_index_or, Some}
use Rattle.snp_model.specs.declared.entry.Kind.TheVariants as kinds
use Rattle.snp_model.specs.declared.firmware.MetaEntry.{MetaEntry}
use Rattle.snp_model.specs.Holders.{holders}
use Rattle.snp_model.specs.Live.{Archived, Vault, Spot, Live, IsLive, live}
use Rattle.snp_model.specs.Metadata.{entry_at, sealed}
use Rattle.snp_model.specs.Sound.{Pairwise}
use Rattle.snp_model.specs.State.{Page}

-- a page has its 512 words, of 64 bits each
pub record IsFull (words : List ℕ) : Type 0 where
  pub whole : length words ≡ 512
  pub fits : (index : ℕ) → slice_index_or words index 0 < 2 ^ 64

-- the tag of an entry, and the ciphertext in its archive, are those of the archive's words under a key and the counter, ASID and guest page number that the entry names
pub record IsSealOf (key : List ℕ) (archived : Archived) (entry : MetaEntry) : Type 0 where
  pub cipher : archived.cipher ≡ (sealed key entry archived.words).words
  pub tag : entry.tag ≡ (sealed key entry archived.words).entry.tag
  pub full : IsFull archived.words

-- an entry has such an archive
pub record HasArchive (vault : Vault) (entry : MetaEntry) : Type 0 where
  pub archived : Archived
  pub kept : vault.archive entry.iv ≡ Some archived
  pub seals : IsSealOf vault.context.key archived entry

-- an entry in use of a metadata page in memory has this ASID
pub record IsEntryOf (asid : ℕ) (page : Page) (number : ℕ) (entry : MetaEntry) : Type 0 where
  pub metadata : page.facts.kind ≡ kinds.Metadata
  pub is : entry_at page.words number ≡ Some entry
  pub asid_is : entry.asid ≡ asid

-- an entry that may be the root of a context whose counter is the bound
pub record IsRootEntry (asid bound : ℕ) (entry : MetaEntry) : Type 0 where
  pub kind_is : entry.kind ≡ 2
  pub asid_is : entry.asid ≡ asid
  pub low : entry.iv < bound

-- an entry of a page that a live entry keeps
pub record IsInner (asid : ℕ) (above entry : MetaEntry) : Type 0 where
  pub asid_is : entry.asid ≡ asid
  pub low : entry.iv < above.iv

-- what holds of the counters and seals of the guest with this ASID
pub record Seals (asid : ℕ) (vault : Vault) : Type 0 where
  -- no two places of live entries have one counter
  pub counters : (s t : Spot) (x y : MetaEntry) → IsLive asid vault s x → IsLive asid vault t y → x.iv ≡ y.iv → s ≡ t
  -- each live entry has its archive
  pub sealed : (s : Spot) (x : MetaEntry) → IsLive asid vault s x → HasArchive vault x
  -- each entry in use in the archive of a live entry of kind 2 is the guest's, with a counter below
  pub inner : (s : Spot) (x : MetaEntry) (archived : Archived) (number : ℕ) (y : MetaEntry) → IsLive asid vault s x → x.kind ≡ 2 → vault.archive x.iv ≡ Some archived
      → entry_at archived.words number ≡ Some y → IsInner asid x y
  -- each of the guest's entries in use in a metadata page has a counter below that of its context
  pub low : (frame number : ℕ) (x : MetaEntry) → IsEntryOf asid (vault.pages frame) number x → x.iv < vault.context.iv
  -- and so has the root, which is the guest's and of kind 2
  pub root : (x : MetaEntry) → vault.context.root ≡ Some x → IsRootEntry asid vault.context.iv x

-- two live entries of a list have two counters
abbrev pub CountersDiffer : Live → Live → Type 0
CountersDiffer one other = one.entry.iv ≢ other.entry.iv

-- the lists say it so: each page has at most one holder, and no two live entries have one counter
pub record IsSingle (asid : ℕ) (vault : Vault) (frames : ℕ) : Type 0 where
  pub one_holder : (gpn : ℕ) → length (holders asid vault frames gpn) ≤ 1
  pub counters_differ : Pairwise CountersDiffer (live asid vault frames)
