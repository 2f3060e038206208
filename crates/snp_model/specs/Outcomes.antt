-- What sort of outcome each one is (this project's own): skips ask for it, and retries.
use Rattle.std.specs.Prelude.{◌==◌, Bool, true, false, if◌then◌else◌}
use Rattle.snp_model.specs.declared.event.Outcome.{Outcome}
use Rattle.snp_model.specs.declared.event.Outcome.TheVariants.{Loaded, Opaque, Stored, Swapped, Compared, Gp, Pf, Npf, Vc, Offline, Status, Carry, StatusInUse, Firmware, FirmwareInUse, BadTag, Next, Skipped}
use Rattle.snp_model.specs.declared.event.OutcomeClass.{OutcomeClass}
use Rattle.snp_model.specs.declared.event.OutcomeClass.TheVariants.{Good, Bad, InUse, Skip}

-- good where a test holds, and else bad
abbrev pub good_where : Bool → OutcomeClass
good_where test = if test then Good else Bad

-- the class of each outcome
abbrev pub class_of : Outcome → OutcomeClass
class_of (Loaded word) = Good
class_of Opaque = Good
class_of Stored = Good
class_of (Swapped word) = Good
class_of (Compared found written) = good_where written
class_of Gp = Bad
class_of (Pf code) = Bad
class_of (Npf code) = Bad
class_of (Vc code) = Bad
class_of Offline = Bad
class_of (Status status) = good_where (status == 0)
class_of (Carry carry) = Good
class_of (StatusInUse holder) = InUse
class_of (Firmware status) = good_where (status == 0)
class_of (FirmwareInUse holder) = InUse
class_of (BadTag found kept) = Bad
class_of Next = Skip
class_of (Skipped count) = Skip

-- whether a class is that of good outcomes
abbrev pub is_good_class : OutcomeClass → Bool
is_good_class Good = true
is_good_class Bad = false
is_good_class InUse = false
is_good_class Skip = false

-- whether it is one of bad outcomes
abbrev pub is_bad_class : OutcomeClass → Bool
is_bad_class Good = false
is_bad_class Bad = true
is_bad_class InUse = true
is_bad_class Skip = false

-- whether it says that something was in use
abbrev pub is_in_use_class : OutcomeClass → Bool
is_in_use_class Good = false
is_in_use_class Bad = false
is_in_use_class InUse = true
is_in_use_class Skip = false

-- whether an outcome is good
abbrev pub is_good : Outcome → Bool
is_good outcome = is_good_class (class_of outcome)

-- whether it is bad: every one that isn't good, but those of skips
abbrev pub is_bad : Outcome → Bool
is_bad outcome = is_bad_class (class_of outcome)

-- whether something was in use
abbrev pub is_in_use : Outcome → Bool
is_in_use outcome = is_in_use_class (class_of outcome)
