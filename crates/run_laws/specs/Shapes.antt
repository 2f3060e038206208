-- That the facts of each frame go together, that a page of 2 MB is whole, that words are full, and that guests have ASIDs of their own (APM volume 2, 15.36.3; the kinds are this project's own).
use Rattle.std.specs.Prelude.{◌≡◌, ◌≢◌, ℕ, ◌+◌, ◌/◌, ◌%◌, ◌^◌, ◌<◌, true, false, List, length}
use Rattle.std.specs.List.{AllByRecursion}
use Rattle.snp_model.specs.declared.entry.Kind.TheVariants as kinds
use Rattle.snp_model.specs.declared.entry.PageSize.TheVariants.{Small, Large}
use Rattle.snp_model.specs.declared.entry.RmpEntry.{RmpEntry}
use Rattle.snp_model.specs.declared.scenario.GuestSpec.{GuestSpec}
use Rattle.snp_model.specs.Facts.{page_base}
use Rattle.snp_model.specs.Metadata.{AreBytes}
use Rattle.snp_model.specs.Opening.{asid_of}
use Rattle.snp_model.specs.Sound.{Pairwise, AsidsDiffer}
use Rattle.snp_model.specs.State.{Pages, Context, State}
use Rattle.run_laws.specs.Uniqueness.{IsFull}

-- a frame that the firmware has
pub record IsFirmwares (facts : RmpEntry) : Type 0 where
  pub assigned : facts.assigned ≡ true
  pub immutable : facts.immutable ≡ true
  pub no_guest : facts.asid ≡ 0

-- a frame that nobody has
pub record IsNobodys (facts : RmpEntry) : Type 0 where
  pub no_guest : facts.asid ≡ 0
  pub size_is : facts.size ≡ Small

-- the numbers of a frame's facts fit in a metadata entry: a page that is opened may get any guest page number of 64 bits
pub record AreInRange (facts : RmpEntry) : Type 0 where
  pub gpn : facts.gpn < 2 ^ 64
  pub asid : facts.asid < 2 ^ 16
  pub perms_count : length facts.perms ≡ 4
  pub perms : AreBytes facts.perms

-- the facts of a frame go together
pub record AreFactsOf (facts : RmpEntry) : Type 0 where
  -- no page without a guest is validated
  pub owned : facts.asid ≡ 0 → facts.validated ≡ false
  -- a page of kind Firmware, Context or Metadata is the firmware's
  pub used : facts.kind ≢ kinds.Plain → IsFirmwares facts
  -- and an unassigned one is nobody's
  pub free : facts.assigned ≡ false → IsNobodys facts
  -- its numbers are in range
  pub ranges : AreInRange facts

-- two frames of one page of 2 MB have guest page numbers as far apart as they are, and the same other facts
pub record AreOfOnePage (pages : Pages) (one other : ℕ) : Type 0 where
  pub follow : (pages other).facts.gpn + one ≡ (pages one).facts.gpn + other
  pub alike : (pages other).facts ≡ record (pages one).facts { gpn = (pages other).facts.gpn }

-- the page of 2 MB in which a frame stands is whole: its guest page numbers begin at a multiple of 512, and its 512 frames go together
pub record IsWholePage (pages : Pages) (frame : ℕ) : Type 0 where
  pub aligned : (pages (page_base Large frame)).facts.gpn % 512 ≡ 0
  pub together : (other : ℕ) → other / 512 ≡ frame / 512 → AreOfOnePage pages frame other

-- a declared guest has an ASID, which isn't 0
pub record HasAsid (guest : GuestSpec) : Type 0 where
  pub some : 0 < guest.asid
  pub fits : guest.asid < 2 ^ 16

-- a guest's context has its ASID, a counter of 64 bits, and a key of bytes
pub record IsContextFor (guests : List GuestSpec) (guest : ℕ) (context : Context) : Type 0 where
  pub asid_is : context.asid ≡ asid_of guests guest
  pub counter : context.iv < 2 ^ 64
  pub key : AreBytes context.key

-- so in a state
pub record AreShaped (m : State) : Type 0 where
  pub facts : (frame : ℕ) → AreFactsOf (m.contents.pages frame).facts
  pub whole : (frame : ℕ) → (m.contents.pages frame).facts.size ≡ Large → IsWholePage m.contents.pages frame
  pub words : (frame : ℕ) → IsFull (m.contents.pages frame).words
  pub have_asids : AllByRecursion HasAsid m.guests
  pub asids_differ : Pairwise AsidsDiffer m.guests
  pub contexts : (guest : ℕ) → IsContextFor m.guests guest (m.contents.contexts guest)
