-- The entries that are live for a guest: those of metadata pages in memory, the root in its context, and those of the metadata pages that live entries keep. By the place where each one stands, and as a list. This project's own.
use Rattle.std.specs.Prelude.{◌≡◌, ℕ, zero, suc, ◌+◌, ◌<◌, ◌==◌, nat_lt, Bool, true, false, ◌&&◌, if◌then◌else◌, List, [], ◌∷◌, ◌++◌, Option, Some, None, unwrap_or}
use Rattle.std.specs.Option.{option_map}
use Rattle.snp_model.specs.declared.entry.Kind.{Kind}
use Rattle.snp_model.specs.declared.entry.Kind.TheVariants as kinds
use Rattle.snp_model.specs.declared.firmware.MetaEntry.{MetaEntry}
use Rattle.snp_model.specs.Metadata.{entry_at}
use Rattle.snp_model.specs.State.{Page, Pages, Context, Contents}

-- what was sealed under a counter: the words of the source at the compute, and the ciphertext that the target got at the commit
pub record Archived : Type 0 where
  pub words : List ℕ
  pub cipher : List ℕ

-- what was sealed for one guest, by counter
abbrev pub Archive : Type 0
Archive = ℕ → Option Archived

-- all that tells a guest's live entries: memory, the guest's context, and what was sealed for it
pub record Vault : Type 0 where
  pub pages : Pages
  pub context : Context
  pub archive : Archive

-- that of a guest, where this was sealed for it
abbrev pub vault_of : ℕ → Contents → Archive → Vault
vault_of guest contents archive = record { pages = contents.pages; context = contents.contexts guest; archive = archive }

-- the place of an entry: in a metadata page in memory, in the guest's context, or in the page that the entry at another place keeps
pub data Spot : Type 0 where
  InEntry : (frame number : ℕ) → Spot
  InRoot : Spot
  Under : (above : Spot) (number : ℕ) → Spot

-- an entry in use of a page's words has this ASID, and a counter below a bound
pub record IsOwn (asid bound : ℕ) (words : List ℕ) (number : ℕ) (entry : MetaEntry) : Type 0 where
  pub is : entry_at words number ≡ Some entry
  pub asid_is : entry.asid ≡ asid
  pub low : entry.iv < bound

-- so in a page of kind Metadata
pub record IsInPage (asid bound : ℕ) (page : Page) (number : ℕ) (entry : MetaEntry) : Type 0 where
  pub metadata : page.facts.kind ≡ kinds.Metadata
  pub own : IsOwn asid bound page.words number entry

-- so in the metadata page that the entry `above` keeps, with a counter below its own
pub record IsUnder (archive : Archive) (asid : ℕ) (above : MetaEntry) (number : ℕ) (entry : MetaEntry) : Type 0 where
  pub kind_is : above.kind ≡ 2
  pub archived : Archived
  pub kept : archive above.iv ≡ Some archived
  pub own : IsOwn asid above.iv archived.words number entry

-- an entry is live at a place
abbrev pub IsLive : ℕ → Vault → Spot → MetaEntry → Type 0
IsLive asid vault (InEntry frame number) entry = IsInPage asid vault.context.iv (vault.pages frame) number entry
IsLive asid vault InRoot entry = vault.context.root ≡ Some entry
IsLive asid vault (Under above number) entry = (kept : MetaEntry) × IsLive asid vault above kept × IsUnder vault.archive asid kept number entry

-- the words that are kept under a counter
abbrev pub archived_words : Archive → ℕ → List ℕ
archived_words archive counter = unwrap_or (option_map (λ archived. archived.words) (archive counter)) []

-- a live entry in the list, with its place
pub record Live : Type 0 where
  pub spot : Spot
  pub entry : MetaEntry

-- the lists of `count` numbers from `first` on, one after the other
unfoldable pub rows : {X : Type 0} → (ℕ → List X) → ℕ → ℕ → List X
rows of first zero = []
rows of first (suc count) = of first ++ rows of (first + 1) count

-- the live entries of a page's words, at these places, with counters below a bound
abbrev pub Lister : Type 0
Lister = (ℕ → Spot) → ℕ → List ℕ → List Live

-- those of the page that an entry at a place keeps, where there is one: their counters are below the entry's
unfoldable pub listed_in : Lister → Spot → ℕ → Option Archived → List Live
listed_in inner spot counter None = []
listed_in inner spot counter (Some archived) = inner (Under spot) counter archived.words

-- an entry in use with this ASID and a counter below the bound, followed, where its kind is 2, by those of the page that it keeps
unfoldable pub listed_entry : Lister → Archive → (asid bound : ℕ) → Spot → Option MetaEntry → List Live
listed_entry inner archive asid bound spot None = []
listed_entry inner archive asid bound spot (Some entry) =
    if (entry.asid == asid) && nat_lt entry.iv bound
    then record { spot = spot; entry = entry } ∷ (if entry.kind == 2 then listed_in inner spot entry.iv (archive entry.iv) else [])
    else []

-- the 64 entries of a page's words in order, to a depth of kept pages
unfoldable pub below_depth : Archive → ℕ → ℕ → (ℕ → Spot) → ℕ → List ℕ → List Live
below_depth archive asid zero at bound words = []
below_depth archive asid (suc depth) at bound words =
    rows (λ number. listed_entry (below_depth archive asid depth) archive asid bound (at number) (entry_at words number)) 0 64

-- the counters fall, so the bound is depth enough
abbrev pub below : Archive → ℕ → (ℕ → Spot) → ℕ → List ℕ → List Live
below archive asid at bound words = below_depth archive asid bound at bound words

-- whether a page is of kind Metadata
abbrev pub is_metadata_kind : Kind → Bool
is_metadata_kind kinds.Plain = false
is_metadata_kind kinds.Firmware = false
is_metadata_kind kinds.Context = false
is_metadata_kind kinds.Metadata = true

-- those of a metadata page in memory
unfoldable pub page_live : ℕ → Vault → ℕ → List Live
page_live asid vault frame =
    if is_metadata_kind (vault.pages frame).facts.kind
    then below vault.archive asid (InEntry frame) vault.context.iv (vault.pages frame).words
    else []

-- the root, if it is in use, followed by those of the page that it keeps
unfoldable pub root_live : ℕ → Archive → Option MetaEntry → List Live
root_live asid archive None = []
root_live asid archive (Some entry) = record { spot = InRoot; entry = entry } ∷ listed_in (below archive asid) InRoot entry.iv (archive entry.iv)

-- all live entries in a memory of so many frames: the metadata pages upwards, and then the root
unfoldable pub live : ℕ → Vault → ℕ → List Live
live asid vault frames = rows (page_live asid vault) 0 frames ++ root_live asid vault.archive vault.context.root
