-- How the line of an event is read, word by word. This project's own.
use Rattle.std.specs.Prelude.{ℕ, ◌+◌, ◌^◌, ◌==◌, nat_lt, nat_le, Bool, true, false, not, ◌&&◌, ◌||◌, if◌then◌else◌, List, length, map, drop, slice_index, Option, Some, None, Result, Ok, Err, codes, bytes_eq}
use Rattle.std.specs.List.{list_all, range_with_len}
use Rattle.snp_model.specs.declared.reading.Reason.{Reason}
use Rattle.snp_model.specs.declared.reading.Reason.TheVariants.{Form, Number, Range}
use Rattle.snp_model.specs.declared.event.Deed.{Deed}
use Rattle.snp_model.specs.declared.event.Deed.TheVariants.{Begin, Nested, Table, Access, Host, Lock, LockContext, Compute, Commit, CommitContext, Control}
use Rattle.snp_model.specs.declared.event.Outcome.{Outcome}
use Rattle.snp_model.specs.declared.event.Outcome.TheVariants.{Loaded, Opaque, Stored, Swapped, Compared, Gp, Pf, Npf, Vc, Offline, Status, Carry, StatusInUse, Firmware, FirmwareInUse, BadTag, Next, Skipped}
use Rattle.snp_model.specs.declared.event.Event.{Event}
use Rattle.snp_model.specs.EventText.{event_text}
use Rattle.snp_model.specs.ItemLines.{size_word}
use Rattle.snp_model.specs.Lines.{◌>>=◌, ◌>>◌, cut_at, word, words_of, is_plain, is_hex_digit, is_prefixed, decimal, fixed, number}
use Rattle.snp_model.specs.ScenarioLines.{key_byte}

-- a number in base 10, below an end
unfoldable pub decimal_below : ℕ → List ℕ → Result ℕ Reason
decimal_below end w = do
  n ← decimal w
  if nat_lt n end then Ok n else Err Range

-- whether a word begins with `0x` and no leading zero follows
abbrev pub is_fewest : List ℕ → Bool
is_fewest w = nat_le 3 (length w) && is_prefixed w && ((length w == 3) || not (slice_index w 2 == 48))

-- a number in base 16 with the fewest digits, after `0x`
unfoldable pub hex_word : List ℕ → Result ℕ Reason
hex_word w = if is_fewest w then number w else Err Number

-- `ITEM.ATTEMPT`; 46 is the dot
abbrev pub attempt_parts : Option (List ℕ × List ℕ) → Result (ℕ × ℕ) Reason
attempt_parts None = Err Form
attempt_parts (Some cut) = do
  item ← decimal_below (2 ^ 32) cut.0
  attempt ← decimal_below (2 ^ 32) cut.1
  Ok (item, attempt)

unfoldable pub attempt_word : List ℕ → Result (ℕ × ℕ) Reason
attempt_word w = attempt_parts (cut_at 46 w)

-- `FRAME:INDEX`; 58 is the colon
abbrev pub frame_parts : Option (List ℕ × List ℕ) → Result (ℕ × ℕ) Reason
frame_parts None = Err Form
frame_parts (Some cut) = do
  frame ← decimal_below (2 ^ 32) cut.0
  index ← decimal_below (2 ^ 16) cut.1
  Ok (frame, index)

unfoldable pub frame_word : List ℕ → Result (ℕ × ℕ) Reason
frame_word w = frame_parts (cut_at 58 w)

-- `GPN:INDEX`, where the guest page number is in base 16
abbrev pub gpn_parts : Option (List ℕ × List ℕ) → Result (ℕ × ℕ) Reason
gpn_parts None = Err Form
gpn_parts (Some cut) = do
  gpn ← hex_word cut.0
  index ← decimal_below (2 ^ 16) cut.1
  Ok (gpn, index)

unfoldable pub gpn_word : List ℕ → Result (ℕ × ℕ) Reason
gpn_word w = gpn_parts (cut_at 58 w)

-- a word that was read, or a dash where it was refused
unfoldable pub read_word : List ℕ → Result (Option ℕ) Reason
read_word w =
    if bytes_eq w (codes "-") then Ok None
    else (do
      value ← hex_word w
      Ok (Some value))

-- one of two words
unfoldable pub one_of : List ℕ → List ℕ → List ℕ → Result Bool Reason
one_of w first second = if bytes_eq w first then Ok true else if bytes_eq w second then Ok false else Err Form

-- a tag is 32 digits
unfoldable pub tag_word : List ℕ → Result (List ℕ) Reason
tag_word w = if (length w == 32) && list_all is_hex_digit w then Ok (map (key_byte w) (range_with_len 0 16)) else Err Form

-- whether these words begin with this one, and are at least so many
abbrev pub begins : List (List ℕ) → List ℕ → ℕ → Bool
begins ws name count = bytes_eq (word ws 0) name && nat_le count (length ws)

-- each deed, with the count of its words: `npt FRAME:INDEX VALUE`
unfoldable pub nested_of : List (List ℕ) → Result (Deed × ℕ) Reason
nested_of ws = do
  place ← frame_word (word ws 1)
  value ← hex_word (word ws 2)
  Ok (Nested place.0 place.1 value, 3)

-- `gpt GPN:INDEX FRAME VALUE`
unfoldable pub table_of : List (List ℕ) → Result (Deed × ℕ) Reason
table_of ws = do
  place ← gpn_word (word ws 1)
  frame ← decimal_below (2 ^ 32) (word ws 2)
  value ← read_word (word ws 3)
  Ok (Table place.0 place.1 frame value, 4)

-- `data GPN:INDEX FRAME p`, `data GPN:INDEX FRAME s`
unfoldable pub access_of : List (List ℕ) → Result (Deed × ℕ) Reason
access_of ws = do
  place ← gpn_word (word ws 1)
  frame ← decimal_below (2 ^ 32) (word ws 2)
  private ← one_of (word ws 3) (codes "p") (codes "s")
  Ok (Access place.0 place.1 frame private, 4)

-- `host FRAME:INDEX`
unfoldable pub host_of : List (List ℕ) → Result (Deed × ℕ) Reason
host_of ws = do
  place ← frame_word (word ws 1)
  Ok (Host place.0 place.1, 2)

-- `lock FRAME`
unfoldable pub lock_of : List (List ℕ) → Result (Deed × ℕ) Reason
lock_of ws = do
  frame ← decimal (word ws 1)
  Ok (Lock frame, 2)

-- `lockg GUEST`
unfoldable pub lock_context_of : List (List ℕ) → Result (Deed × ℕ) Reason
lock_context_of ws = do
  guest ← decimal_below (2 ^ 8) (word ws 1)
  Ok (LockContext guest, 2)

-- `commit FRAME GPN SIZE`
unfoldable pub commit_of : List (List ℕ) → Result (Deed × ℕ) Reason
commit_of ws = do
  frame ← decimal_below (2 ^ 32) (word ws 1)
  gpn ← hex_word (word ws 2)
  size ← size_word (word ws 3)
  Ok (Commit frame gpn size, 4)

-- `commitg GUEST`
unfoldable pub commit_context_of : List (List ℕ) → Result (Deed × ℕ) Reason
commit_context_of ws = do
  guest ← decimal_below (2 ^ 8) (word ws 1)
  Ok (CommitContext guest, 2)

-- a deed of one word
unfoldable pub bare_deed_of : List (List ℕ) → Result (Deed × ℕ) Reason
bare_deed_of ws =
    if begins ws (codes "begin") 1 then Ok (Begin, 1)
    else if begins ws (codes "compute") 1 then Ok (Compute, 1)
    else if begins ws (codes "skip") 1 then Ok (Control, 1)
    else Err Form

-- what an event does, with the count of its words
unfoldable pub deed_of : List (List ℕ) → Result (Deed × ℕ) Reason
deed_of ws =
    if begins ws (codes "npt") 3 then nested_of ws
    else if begins ws (codes "gpt") 4 then table_of ws
    else if begins ws (codes "data") 4 then access_of ws
    else if begins ws (codes "host") 2 then host_of ws
    else if begins ws (codes "lock") 2 then lock_of ws
    else if begins ws (codes "lockg") 2 then lock_context_of ws
    else if begins ws (codes "commit") 4 then commit_of ws
    else if begins ws (codes "commitg") 2 then commit_context_of ws
    else bare_deed_of ws

-- an outcome of one word
unfoldable pub bare_outcome : List ℕ → Result Outcome Reason
bare_outcome w =
    if bytes_eq w (codes "opaque") then Ok Opaque
    else if bytes_eq w (codes "store") then Ok Stored
    else if bytes_eq w (codes "gp") then Ok Gp
    else if bytes_eq w (codes "offline") then Ok Offline
    else if bytes_eq w (codes "next") then Ok Next
    else Err Form

-- `rc STATUS`, `skipped COUNT`
unfoldable pub counted_outcome : List ℕ → List ℕ → Result Outcome Reason
counted_outcome name w =
    if bytes_eq name (codes "rc") then (do
      status ← decimal_below (2 ^ 8) w
      Ok (Status status))
    else if bytes_eq name (codes "skipped") then (do
      count ← decimal_below (2 ^ 32) w
      Ok (Skipped count))
    else Err Form

-- an outcome of a name and a word in base 16
unfoldable pub valued_outcome : List ℕ → ℕ → Result Outcome Reason
valued_outcome name value =
    if bytes_eq name (codes "load") then Ok (Loaded value)
    else if bytes_eq name (codes "swap") then Ok (Swapped value)
    else if bytes_eq name (codes "pf") then Ok (Pf value)
    else if bytes_eq name (codes "npf") then Ok (Npf value)
    else if bytes_eq name (codes "vc") then Ok (Vc value)
    else if bytes_eq name (codes "fw") && nat_lt value (2 ^ 16) then Ok (Firmware value)
    else Err Form

-- an outcome of a name and a number
unfoldable pub named_outcome : List ℕ → List ℕ → Result Outcome Reason
named_outcome name w =
    if bytes_eq name (codes "rc") || bytes_eq name (codes "skipped") then counted_outcome name w
    else (do
      value ← hex_word w
      valued_outcome name value)

-- `cas FOUND yes`, `cas FOUND no`
unfoldable pub compared_outcome : List (List ℕ) → Result Outcome Reason
compared_outcome ws = do
  fixed (word ws 0) (codes "cas")
  found ← hex_word (word ws 1)
  written ← one_of (word ws 2) (codes "yes") (codes "no")
  Ok (Compared found written)

-- `rc 0 cf CARRY`
unfoldable pub carry_outcome : List (List ℕ) → Result Outcome Reason
carry_outcome ws = do
  fixed (word ws 1) (codes "0")
  carry ← one_of (word ws 3) (codes "1") (codes "0")
  Ok (Carry carry)

-- `rc 3 by ACTOR`
unfoldable pub status_in_use : List (List ℕ) → Result Outcome Reason
status_in_use ws = do
  fixed (word ws 1) (codes "3")
  holder ← decimal_below (2 ^ 32) (word ws 3)
  Ok (StatusInUse holder)

-- `fw 0x100 by ACTOR`
unfoldable pub firmware_in_use : List (List ℕ) → Result Outcome Reason
firmware_in_use ws = do
  fixed (word ws 1) (codes "0x100")
  holder ← decimal_below (2 ^ 32) (word ws 3)
  Ok (FirmwareInUse holder)

-- an outcome of four words
unfoldable pub long_outcome : List (List ℕ) → Result Outcome Reason
long_outcome ws =
    if bytes_eq (word ws 0) (codes "rc") && bytes_eq (word ws 2) (codes "cf") then carry_outcome ws
    else if bytes_eq (word ws 0) (codes "rc") && bytes_eq (word ws 2) (codes "by") then status_in_use ws
    else if bytes_eq (word ws 0) (codes "fw") && bytes_eq (word ws 2) (codes "by") then firmware_in_use ws
    else Err Form

-- `fw 0xb found TAG kept TAG`
unfoldable pub tags_outcome : List (List ℕ) → Result Outcome Reason
tags_outcome ws = do
  fixed (word ws 0) (codes "fw")
  fixed (word ws 1) (codes "0xb")
  fixed (word ws 2) (codes "found")
  found ← tag_word (word ws 3)
  fixed (word ws 4) (codes "kept")
  kept ← tag_word (word ws 5)
  Ok (BadTag found kept)

-- how an attempt ends
unfoldable pub outcome_of : List (List ℕ) → Result Outcome Reason
outcome_of ws =
    if length ws == 1 then bare_outcome (word ws 0)
    else if length ws == 2 then named_outcome (word ws 0) (word ws 1)
    else if length ws == 3 then compared_outcome ws
    else if length ws == 4 then long_outcome ws
    else if length ws == 6 then tags_outcome ws
    else Err Form

-- the words behind the deed
unfoldable pub ending_of : List (List ℕ) → Result (Option Outcome) Reason
ending_of ws =
    if length ws == 0 then Ok None
    else (do
      outcome ← outcome_of ws
      Ok (Some outcome))

-- the words of a line, which are at least four
unfoldable pub event_of : List (List ℕ) → Result (ℕ × ℕ × Event) Reason
event_of ws = do
  k ← decimal_below (2 ^ 32) (word ws 0)
  actor ← decimal_below (2 ^ 32) (word ws 1)
  place ← attempt_word (word ws 2)
  deed ← deed_of (drop 3 ws)
  outcome ← ending_of (drop (3 + deed.1) ws)
  Ok (k, actor, record { item = place.0; attempt = place.1; deed = deed.0; outcome = outcome })

-- a line
unfoldable pub line_event : List ℕ → Result (ℕ × ℕ × Event) Reason
line_event line = if is_plain line && nat_le 4 (length (words_of line)) then event_of (words_of line) else Err Form

-- what was read, where it is written as this line
abbrev pub confirmed : List ℕ → Result (ℕ × ℕ × Event) Reason → Option (ℕ × ℕ × Event)
confirmed line (Ok read) = if bytes_eq line (event_text read.0 read.1 read.2) then Some read else None
confirmed line (Err reason) = None

unfoldable pub read_of : List ℕ → Option (ℕ × ℕ × Event)
read_of line = confirmed line (line_event line)
