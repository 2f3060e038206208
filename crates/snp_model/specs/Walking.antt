-- The walks of a guest processor's item: what it needs next, by the words that it has read so far (APM volume 2, 5.3 and 15.25.6). A guest table's page number is looked up by a nested walk of its own.
use Rattle.std.specs.Prelude.{ℕ, ◌/◌, ◌%◌, Bool, true, false, not, ◌||◌, List, [], ◌∷◌, ◌++◌, Option, Some, None}
use Rattle.snp_model.specs.declared.entry.PageSize.TheVariants.{Small}
use Rattle.snp_model.specs.declared.event.Deed.{Deed}
use Rattle.snp_model.specs.declared.event.Deed.TheVariants as deeds
use Rattle.snp_model.specs.declared.event.Outcome.{Outcome}
use Rattle.snp_model.specs.declared.event.Outcome.TheVariants.{Pf, Npf}
use Rattle.snp_model.specs.declared.item.Op.{Op}
use Rattle.snp_model.specs.declared.scenario.Paging.{Paging}
use Rattle.snp_model.specs.declared.scenario.Paging.TheVariants.{Flat, Four, Five}
use Rattle.snp_model.specs.declared.walk.GuestEnd.{GuestEnd}
use Rattle.snp_model.specs.declared.walk.GuestEnd.TheVariants as guest_ends
use Rattle.snp_model.specs.declared.walk.GuestPath.{GuestPath}
use Rattle.snp_model.specs.declared.walk.Lookup.{Lookup}
use Rattle.snp_model.specs.declared.walk.Need.{Need}
use Rattle.snp_model.specs.declared.walk.Need.TheVariants as needs
use Rattle.snp_model.specs.declared.walk.NestedEnd.{NestedEnd}
use Rattle.snp_model.specs.declared.walk.NestedEnd.TheVariants as ends
use Rattle.snp_model.specs.declared.walk.NestedPath.{NestedPath}
use Rattle.snp_model.specs.GuestWalk.{levels_of, guest_end}
use Rattle.snp_model.specs.NestedWalk.{nested_end}
use Rattle.snp_model.specs.Operations.{writes}

-- a guest processor: its guest, its VMPL, its first nested table, and its guest tables
pub record Processor : Type 0 where
  pub guest : ℕ
  pub vmpl : ℕ
  pub npt : ℕ
  pub paging : Paging

-- the words of guest tables that deeds have read
unfoldable pub guest_words : List Deed → List ℕ
guest_words [] = []
guest_words (deeds.Table gpn index frame (Some value) ∷ others) = value ∷ guest_words others
guest_words (deed ∷ others) = guest_words others

-- the words of the nested walk under way, after some that it has read: a guest table's word begins the next walk
unfoldable pub nested_words_after : List ℕ → List Deed → List ℕ
nested_words_after words [] = words
nested_words_after words (deeds.Nested frame index value ∷ others) = nested_words_after (words ++ value ∷ []) others
nested_words_after words (deeds.Table gpn index frame value ∷ others) = nested_words_after [] others
nested_words_after words (deed ∷ others) = nested_words_after words others

-- the words that the nested walk under way has read
abbrev pub nested_words : List Deed → List ℕ
nested_words made = nested_words_after [] made

-- the guest page number of an address without guest tables: bits 47:12
abbrev pub flat_gpn : ℕ → ℕ
flat_gpn address = address / 4096 % 0x10_0000_0000

-- the word of a page that an address names: bits 11:3
abbrev pub index_of : ℕ → ℕ
index_of address = address / 8 % 512

-- what the walks of an access look up
abbrev pub lookup_of : ℕ → Op → Lookup
lookup_of address op = record { address = address; write = writes op; c_bit = true }

-- what a guest walk begins from: the first table at a guest page number
abbrev pub guest_path : Paging → ℕ → Lookup → GuestPath
guest_path paging root lookup = record { levels = levels_of paging; root = root; address = lookup.address; write = lookup.write }

-- where a guest walk stands that counts the leaf's C bit or not; where it doesn't, the leaf is private
abbrev pub counting : Bool → GuestEnd → GuestEnd
counting c_bit (guest_ends.Read gpn index) = guest_ends.Read gpn index
counting c_bit (guest_ends.Leaf gpn private size) = guest_ends.Leaf gpn (private || not c_bit) size
counting c_bit (guest_ends.Fault code) = guest_ends.Fault code

-- where an item stands in its guest walk; without guest tables it is at its page from the start, and private
unfoldable pub guest_stands : Paging → Lookup → List ℕ → GuestEnd
guest_stands Flat lookup words = guest_ends.Leaf (flat_gpn lookup.address) true Small
guest_stands (Four root) lookup words = counting lookup.c_bit (guest_end (guest_path (Four root) root lookup) words)
guest_stands (Five root) lookup words = counting lookup.c_bit (guest_end (guest_path (Five root) root lookup) words)

-- the nested walk of a guest table's page number: a walk of a private write
abbrev pub table_path : ℕ → ℕ → ℕ → NestedPath
table_path frames npt gpn = record { root = npt; frames = frames; gpn = gpn; write = true; private = true; table = true }

-- the final nested walk, of the item's own page number
abbrev pub data_path : ℕ → ℕ → ℕ → Bool → Lookup → NestedPath
data_path frames npt gpn private lookup = record { root = npt; frames = frames; gpn = gpn; write = lookup.write; private = private; table = false }

-- what is needed where the nested walk of a guest table stands here
abbrev pub table_need : ℕ → ℕ → NestedEnd → Need
table_need gpn index (ends.Read frame place) = needs.Nested frame place
table_need gpn index (ends.Leaf frame size) = needs.Table gpn index frame size
table_need gpn index (ends.Fault code) = needs.Fault (Npf code)

-- what is needed where the final nested walk stands here
abbrev pub data_need : ℕ → Bool → NestedEnd → Need
data_need gpn private (ends.Read frame place) = needs.Nested frame place
data_need gpn private (ends.Leaf frame size) = needs.Data gpn private frame size
data_need gpn private (ends.Fault code) = needs.Fault (Npf code)

-- what is needed where the guest walk stands here, and the nested walk under way has read these words
unfoldable pub walk_need : ℕ → ℕ → Lookup → GuestEnd → List ℕ → Need
walk_need frames npt lookup (guest_ends.Read gpn index) words = table_need gpn index (nested_end (table_path frames npt gpn) words)
walk_need frames npt lookup (guest_ends.Leaf gpn private size) words = data_need gpn private (nested_end (data_path frames npt gpn private lookup) words)
walk_need frames npt lookup (guest_ends.Fault code) words = needs.Fault (Pf code)

-- what an item needs that has made these deeds
abbrev pub need_after : ℕ → Processor → Lookup → List Deed → Need
need_after frames cpu lookup made = walk_need frames cpu.npt lookup (guest_stands cpu.paging lookup (guest_words made)) (nested_words made)

-- the fault that its walks have come to, if they have
abbrev pub fault_of : Need → Option Outcome
fault_of (needs.Nested frame index) = None
fault_of (needs.Table gpn index frame size) = None
fault_of (needs.Data gpn private frame size) = None
fault_of (needs.Fault outcome) = Some outcome
