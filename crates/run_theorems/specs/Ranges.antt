-- The numbers of the deeds of guest processors. This project's own.
use Rattle.std.specs.Prelude.{◌≡◌, ◌%◌, ◌^◌, ◌<◌}
use Rattle.snp_model.specs.declared.entry.PageSize.TheVariants.{Large}
use Rattle.snp_model.specs.declared.event.Deed.{Deed}
use Rattle.snp_model.specs.declared.event.Deed.TheVariants as deeds

-- guest page numbers are below 2 ^ 36 and indexes below 512, and a page of 2 MB that is committed begins at a multiple of 512
abbrev pub IsRanged : Deed → Type 0
IsRanged deeds.Begin = Unit {0}
IsRanged (deeds.Nested frame index value) = index < 512
IsRanged (deeds.Table gpn index frame value) = (gpn < 2 ^ 36) × (index < 512)
IsRanged (deeds.Access gpn index frame private) = (gpn < 2 ^ 36) × (index < 512)
IsRanged (deeds.Host frame index) = index < 512
IsRanged (deeds.Lock frame) = Unit {0}
IsRanged (deeds.LockContext guest) = Unit {0}
IsRanged deeds.Compute = Unit {0}
IsRanged (deeds.Commit frame gpn size) = (gpn < 2 ^ 36) × (size ≡ Large → gpn % 512 ≡ 0)
IsRanged (deeds.CommitContext guest) = Unit {0}
IsRanged deeds.Control = Unit {0}
