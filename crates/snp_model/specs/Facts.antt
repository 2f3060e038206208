-- The facts of a frame: the fields of its RMP entry (APM volume 2, 15.36.3), and the kind, which is this project's own. There are no heads: each frame of a page of 2 MB has facts of its own.
use Rattle.std.specs.Prelude.{ℕ, ◌*◌, ◌/◌, Bool, false, ◌∷◌, []}
use Rattle.std.specs.List.{list_any, range_with_len}
use Rattle.snp_model.specs.declared.entry.RmpEntry.{RmpEntry}
use Rattle.snp_model.specs.declared.entry.PageSize.{PageSize}
use Rattle.snp_model.specs.declared.entry.PageSize.TheVariants.{Small, Large}
use Rattle.snp_model.specs.declared.entry.Kind.TheVariants.{Plain}

-- those of an unassigned frame
unfoldable pub free_entry : RmpEntry
free_entry = record { assigned = false; size = Small; immutable = false; gpn = 0; asid = 0; vmsa = false; validated = false; perms = 0 ∷ 0 ∷ 0 ∷ 0 ∷ []; kind = Plain }

-- how many frames a page has
abbrev pub frames_in : PageSize → ℕ
frames_in Small = 1
frames_in Large = 512

-- the first frame of the page of this size in which a frame stands: a page of 2 MB begins at a multiple of 512
abbrev pub page_base : PageSize → ℕ → ℕ
page_base Small frame = frame
page_base Large frame = frame / 512 * 512

-- whether one of `count` frames from `base` on passes a test
unfoldable pub some_frame : (ℕ → Bool) → ℕ → ℕ → Bool
some_frame test base count = list_any test (range_with_len base count)
