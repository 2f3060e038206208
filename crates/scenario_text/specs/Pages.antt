-- The frames and guest page numbers that pages have.
use Rattle.std.specs.Prelude.{◌≡◌, ℕ, ◌==◌, Bool, false, ◌&&◌, List, get_or}
use Rattle.std.specs.List.{list_any}
use Rattle.std.specs.HashSet.{contains}
use Rattle.snp_model.specs.declared.scenario.PageSpec.{PageSpec}
use Rattle.snp_model.specs.Facts.{frames_in}
use Rattle.snp_model.specs.Locks.{in_range}
use Rattle.scenario_text.specs.declared.taken.Taken.{Taken}

-- whether two guest page numbers, each with its guest, are the same
abbrev pub same_gpn : ℕ × ℕ → ℕ × ℕ → Bool
same_gpn one other = (one.0 == other.0) && (one.1 == other.1)

-- whether a page has this frame, or this guest page number
abbrev pub has_frame : ℕ → PageSpec → Bool
has_frame frame page = in_range page.frame (frames_in page.size) frame

abbrev pub has_gpn : ℕ × ℕ → PageSpec → Bool
has_gpn gpn page = (gpn.0 == page.guest) && in_range page.gpn (frames_in page.size) gpn.1

-- whether a frame, or a guest page number, is taken
abbrev pub frame_taken : Taken → ℕ → Bool
frame_taken taken frame = get_or taken.frames.items frame false

abbrev pub gpn_taken : Taken → ℕ × ℕ → Bool
gpn_taken taken gpn = contains same_gpn taken.gpns gpn

-- the frames and guest page numbers taken are those of these pages
pub record Knows (taken : Taken) (pages : List PageSpec) : Type 0 where
  pub frames : (frame : ℕ) → frame_taken taken frame ≡ list_any (has_frame frame) pages
  pub gpns : (gpn : ℕ × ℕ) → gpn_taken taken gpn ≡ list_any (has_gpn gpn) pages
