-- The texts of numbers, deeds, outcomes and events in a report. This project's own.
use Rattle.std.specs.Prelude.{ℕ, ◌/◌, ◌%◌, Bool, false, if◌then◌else◌, List, [], ◌∷◌, ◌++◌, Option, Some, None, codes, decimal}
use Rattle.std.specs.Fmt.{digits, digit_glyph}
use Rattle.snp_model.specs.declared.entry.PageSize.{PageSize}
use Rattle.snp_model.specs.declared.entry.PageSize.TheVariants.{Small, Large}
use Rattle.snp_model.specs.declared.event.Deed.{Deed}
use Rattle.snp_model.specs.declared.event.Deed.TheVariants.{Begin, Nested, Table, Access, Host, Lock, LockContext, Compute, Commit, CommitContext, Control}
use Rattle.snp_model.specs.declared.event.Outcome.{Outcome}
use Rattle.snp_model.specs.declared.event.Outcome.TheVariants.{Loaded, Opaque, Stored, Swapped, Compared, Gp, Pf, Npf, Vc, Offline, Status, Carry, StatusInUse, Firmware, FirmwareInUse, BadTag, Next, Skipped}
use Rattle.snp_model.specs.declared.event.Event.{Event}

-- the fewest lower-case digits in base 16, after 0x
unfoldable pub hex : ℕ → List ℕ
hex n = codes "0x" ++ digits 16 false n

-- two lower-case digits for each byte
unfoldable pub hex_bytes : List ℕ → List ℕ
hex_bytes [] = []
hex_bytes (byte ∷ bytes) = digit_glyph false (byte / 16) ∷ digit_glyph false (byte % 16) ∷ hex_bytes bytes

-- a page's size
unfoldable pub size_text : PageSize → List ℕ
size_text Small = codes "4k"
size_text Large = codes "2m"

-- a word that was read, or a dash where it was refused
unfoldable pub read_text : Option ℕ → List ℕ
read_text (Some value) = hex value
read_text None = codes "-"

-- whether an access was private
unfoldable pub privacy_text : Bool → List ℕ
privacy_text private = if private then codes " p" else codes " s"

-- what an event does
unfoldable pub deed_text : Deed → List ℕ
deed_text Begin = codes "begin"
deed_text (Nested frame index value) = codes "npt " ++ decimal frame ++ codes ":" ++ decimal index ++ codes " " ++ hex value
deed_text (Table gpn index frame value) = codes "gpt " ++ hex gpn ++ codes ":" ++ decimal index ++ codes " " ++ decimal frame ++ codes " " ++ read_text value
deed_text (Access gpn index frame private) = codes "data " ++ hex gpn ++ codes ":" ++ decimal index ++ codes " " ++ decimal frame ++ privacy_text private
deed_text (Host frame index) = codes "host " ++ decimal frame ++ codes ":" ++ decimal index
deed_text (Lock frame) = codes "lock " ++ decimal frame
deed_text (LockContext guest) = codes "lockg " ++ decimal guest
deed_text Compute = codes "compute"
deed_text (Commit frame gpn size) = codes "commit " ++ decimal frame ++ codes " " ++ hex gpn ++ codes " " ++ size_text size
deed_text (CommitContext guest) = codes "commitg " ++ decimal guest
deed_text Control = codes "skip"

-- how an attempt ended
unfoldable pub outcome_text : Outcome → List ℕ
outcome_text (Loaded value) = codes "load " ++ hex value
outcome_text Opaque = codes "opaque"
outcome_text Stored = codes "store"
outcome_text (Swapped value) = codes "swap " ++ hex value
outcome_text (Compared found written) = codes "cas " ++ hex found ++ (if written then codes " yes" else codes " no")
outcome_text Gp = codes "gp"
outcome_text Offline = codes "offline"
outcome_text (Pf code) = codes "pf " ++ hex code
outcome_text (Npf code) = codes "npf " ++ hex code
outcome_text (Vc code) = codes "vc " ++ hex code
outcome_text (Status status) = codes "rc " ++ decimal status
outcome_text (Carry carry) = codes "rc 0 cf " ++ (if carry then codes "1" else codes "0")
outcome_text (StatusInUse holder) = codes "rc 3 by " ++ decimal holder
outcome_text (Firmware status) = codes "fw " ++ hex status
outcome_text (FirmwareInUse holder) = codes "fw 0x100 by " ++ decimal holder
outcome_text (BadTag found kept) = codes "fw 0xb found " ++ hex_bytes found ++ codes " kept " ++ hex_bytes kept
outcome_text Next = codes "next"
outcome_text (Skipped count) = codes "skipped " ++ decimal count

-- a space and the outcome, where the attempt ends
unfoldable pub ending_text : Option Outcome → List ℕ
ending_text None = []
ending_text (Some outcome) = codes " " ++ outcome_text outcome

-- event k, of this actor, without a line feed
unfoldable pub event_text : ℕ → ℕ → Event → List ℕ
event_text k actor event =
    decimal k ++ codes " " ++ decimal actor ++ codes " " ++ decimal event.item ++ codes "." ++ decimal event.attempt
    ++ codes " " ++ deed_text event.deed ++ ending_text event.outcome
