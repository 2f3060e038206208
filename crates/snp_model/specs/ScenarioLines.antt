-- The lines of the scenario text, a row for each form, with the reason that a line is refused with. The text is this project's own.
use Rattle.std.specs.Prelude.{ℕ, ◌+◌, ◌-◌, ◌*◌, ◌^◌, ◌==◌, nat_lt, nat_le, Bool, true, false, not, ◌&&◌, ◌||◌, if◌then◌else◌, List, [], ◌∷◌, ◌++◌, length, map, drop, take, slice_index, slice_get, Option, Some, None, Result, Ok, Err, codes, bytes_eq}
use Rattle.std.specs.List.{list_all, list_any, range_with_len}
use Rattle.snp_model.specs.declared.reading.Reason.{Reason}
use Rattle.snp_model.specs.declared.reading.Reason.TheVariants.{Form, Range, Guest, Repeat}
use Rattle.snp_model.specs.declared.scenario.Scenario.{Scenario}
use Rattle.snp_model.specs.declared.scenario.GuestSpec.{GuestSpec}
use Rattle.snp_model.specs.declared.scenario.PageSpec.{PageSpec}
use Rattle.snp_model.specs.declared.scenario.WordSpec.{WordSpec}
use Rattle.snp_model.specs.declared.scenario.Turn.{Turn}
use Rattle.snp_model.specs.declared.scenario.Actor.{Actor}
use Rattle.snp_model.specs.declared.scenario.Role.{Role}
use Rattle.snp_model.specs.declared.scenario.Role.TheVariants.{Cpu, Host, Firmware}
use Rattle.snp_model.specs.declared.scenario.Paging.{Paging}
use Rattle.snp_model.specs.declared.scenario.Paging.TheVariants.{Flat, Four, Five}
use Rattle.snp_model.specs.declared.item.Line.{Line}
use Rattle.snp_model.specs.Facts.{frames_in}
use Rattle.snp_model.specs.ItemLines.{size_word}
use Rattle.snp_model.specs.Lines.{◌>>=◌, ◌>>◌, require, word, is_row, is_hex_digit, digit_value, decimal, cut_at, fixed, multiple, number, ranged, below}

-- the frames of a scenario's memory
abbrev pub frames_of : Scenario → ℕ
frames_of c = 512 * c.regions

-- whether nothing stands yet that comes after the orders, actors, words, pages or guests, in this order
abbrev pub has_no : {A : Type 0} → List A → Bool
has_no xs = length xs == 0

abbrev pub before_orders : Scenario → Bool
before_orders c = not (c.regions == 0) && has_no c.order

abbrev pub before_actors : Scenario → Bool
before_actors c = before_orders c && has_no c.actors

abbrev pub before_words : Scenario → Bool
before_words c = before_actors c && has_no c.words

abbrev pub before_pages : Scenario → Bool
before_pages c = before_words c && has_no c.pages

-- what the first line, of this version, makes
abbrev pub first_scenario : ℕ → Scenario
first_scenario version = record { version = version; regions = 0; guests = []; pages = []; words = []; actors = []; order = [] }

-- `1` or `2`
unfoldable pub version_of : List ℕ → Result ℕ Reason
version_of w = if bytes_eq w (codes "1") then Ok 1 else if bytes_eq w (codes "2") then Ok 2 else Err Form

-- `snp 1`, `snp 2`
unfoldable pub version_row : List (List ℕ) → Result ℕ Reason
version_row ws = if is_row ws (codes "snp") 2 then version_of (word ws 1) else Err Form

-- `regions N`
unfoldable pub regions_row : List (List ℕ) → Result ℕ Reason
regions_row ws = ranged 1 (2 ^ 64 - 1) (word ws 1)

-- a next number: one more than there are
unfoldable pub next_number : ℕ → List ℕ → Result ℕ Reason
next_number count w = ranged (count + 1) (count + 1) w

-- whether a guest is opened, and so runs from the opening on, or `new`, and so absent until it is launched
unfoldable pub opening : List ℕ → Result Bool Reason
opening w = if bytes_eq w (codes "opened") then Ok true else if bytes_eq w (codes "new") then Ok false else Err Form

-- a key is 64 digits: byte k is spelled by the digits 2k and 2k + 1
abbrev pub key_byte : List ℕ → ℕ → ℕ
key_byte w k = 16 * digit_value (slice_index w (2 * k)) + digit_value (slice_index w (2 * k + 1))

unfoldable pub key_of : List ℕ → Result (List ℕ) Reason
key_of w =
    if (length w == 64) && list_all is_hex_digit w then Ok (map (key_byte w) (range_with_len 0 32)) else Err Form

-- whether a guest has this ASID
abbrev pub has_asid : ℕ → GuestSpec → Bool
has_asid asid guest = guest.asid == asid

-- `guest G opened asid A iv N key K`, `guest G new asid A iv N key K`
unfoldable pub guest_row : Scenario → List (List ℕ) → Result GuestSpec Reason
guest_row c ws = do
  next_number (length c.guests) (word ws 1)
  opened ← opening (word ws 2)
  fixed (word ws 3) (codes "asid")
  asid ← ranged 1 1023 (word ws 4)
  fixed (word ws 5) (codes "iv")
  iv ← number (word ws 6)
  fixed (word ws 7) (codes "key")
  key ← key_of (word ws 8)
  require (not (list_any (has_asid asid) c.guests)) Repeat
  Ok (record { opened = opened; asid = asid; iv = iv; key = key })

-- whether a guest is declared, and opened
abbrev pub is_declared : List GuestSpec → ℕ → Bool
is_declared guests guest = nat_lt 0 guest && nat_le guest (length guests)

abbrev pub opened_of : Option GuestSpec → Bool
opened_of (Some guest) = guest.opened
opened_of None = false

unfoldable pub is_opened : List GuestSpec → ℕ → Bool
is_opened guests guest = nat_lt 0 guest && opened_of (slice_get guests (guest - 1))

-- what the frame and the guest page number of a page are multiples of, by the word for its size
abbrev pub page_unit : List ℕ → ℕ
page_unit w = if bytes_eq w (codes "2m") then 512 else 1

-- whether a page is validated
unfoldable pub validity : List ℕ → Result Bool Reason
validity w = if bytes_eq w (codes "valid") then Ok true else if bytes_eq w (codes "invalid") then Ok false else Err Form

-- whether `count` numbers from `base` on and `more` numbers from `other` on have one in common; neither count is 0
abbrev pub overlap : ℕ → ℕ → ℕ → ℕ → Bool
overlap base count other more = nat_lt base (other + more) && nat_lt other (base + count)

-- whether two pages have a frame, or a page number of one guest, in common
abbrev pub collide : PageSpec → PageSpec → Bool
collide page other =
    overlap page.frame (frames_in page.size) other.frame (frames_in other.size)
    || ((page.guest == other.guest) && overlap page.gpn (frames_in page.size) other.gpn (frames_in other.size))

-- a page that collides with none of these
unfoldable pub apart : List PageSpec → PageSpec → Result PageSpec Reason
apart pages page = if list_any (collide page) pages then Err Repeat else Ok page

-- `page F of G at P S V X Y Z`
unfoldable pub page_row : Scenario → List (List ℕ) → Result PageSpec Reason
page_row c ws = do
  first_frame ← below (frames_of c) (word ws 1)
  frame ← multiple (page_unit (word ws 6)) first_frame
  fixed (word ws 2) (codes "of")
  guest ← number (word ws 3)
  fixed (word ws 4) (codes "at")
  first_gpn ← below (2 ^ 36) (word ws 5)
  gpn ← multiple (page_unit (word ws 6)) first_gpn
  size ← size_word (word ws 6)
  valid ← validity (word ws 7)
  first ← below 16 (word ws 8)
  second ← below 16 (word ws 9)
  third ← below 16 (word ws 10)
  require (is_opened c.guests guest) Guest
  apart c.pages (record { frame = frame; guest = guest; gpn = gpn; size = size; valid = valid; perms = first ∷ second ∷ third ∷ [] })

-- `word F I V`
unfoldable pub word_row : Scenario → List (List ℕ) → Result WordSpec Reason
word_row c ws = do
  frame ← below (frames_of c) (word ws 1)
  index ← below 512 (word ws 2)
  value ← number (word ws 3)
  Ok (record { frame = frame; index = index; value = value })

-- an actor that has no items yet
abbrev pub idle : Role → Actor
idle role = record { role = role; script = [] }

-- `actor N cpu G vmpl V npt F flat`
unfoldable pub cpu_row : Scenario → List (List ℕ) → Result Role Reason
cpu_row c ws = do
  next_number (length c.actors) (word ws 1)
  fixed (word ws 2) (codes "cpu")
  guest ← number (word ws 3)
  fixed (word ws 4) (codes "vmpl")
  vmpl ← below 4 (word ws 5)
  fixed (word ws 6) (codes "npt")
  npt ← below (frames_of c) (word ws 7)
  fixed (word ws 8) (codes "flat")
  require (is_declared c.guests guest) Guest
  Ok (Cpu guest vmpl npt Flat)

-- whether guest tables have five levels and not four: `gcr3` says four, and `la57` in version 2 five
unfoldable pub has_five_levels : ℕ → List ℕ → Result Bool Reason
has_five_levels version w =
    if bytes_eq w (codes "gcr3") then Ok false
    else if bytes_eq w (codes "la57") && (version == 2) then Ok true
    else Err Form

-- guest tables with so many levels that begin at this guest page number
abbrev pub tables_at : Bool → ℕ → Paging
tables_at five root = if five then Five root else Four root

-- `actor N cpu G vmpl V npt F gcr3 P`, and in version 2 `actor N cpu G vmpl V npt F la57 P`
unfoldable pub tables_row : Scenario → List (List ℕ) → Result Role Reason
tables_row c ws = do
  next_number (length c.actors) (word ws 1)
  fixed (word ws 2) (codes "cpu")
  guest ← number (word ws 3)
  fixed (word ws 4) (codes "vmpl")
  vmpl ← below 4 (word ws 5)
  fixed (word ws 6) (codes "npt")
  npt ← below (frames_of c) (word ws 7)
  five ← has_five_levels c.version (word ws 8)
  root ← below (2 ^ 36) (word ws 9)
  require (is_declared c.guests guest) Guest
  Ok (Cpu guest vmpl npt (tables_at five root))

-- `host` or `fw`
unfoldable pub role_word : List ℕ → Result Role Reason
role_word w = if bytes_eq w (codes "host") then Ok Host else if bytes_eq w (codes "fw") then Ok Firmware else Err Form

-- `actor N host`, `actor N fw`
unfoldable pub role_row : Scenario → List (List ℕ) → Result Role Reason
role_row c ws = do
  next_number (length c.actors) (word ws 1)
  role_word (word ws 2)

-- the actors with one more item for the last of them
abbrev pub with_line : List Actor → Line → Actor → List Actor
with_line actors line last = take (length actors - 1) actors ++ record last { script = last.script ++ line ∷ [] } ∷ []

-- a run of a schedule
unfoldable pub turn_from : ℕ → ℕ → Result Turn Reason
turn_from actor count =
    if nat_lt actor (2 ^ 32) && (nat_le 1 count && nat_le count 262144) then Ok (record { actor = actor; count = count }) else Err Range

-- `A`, or `A*C`; 42 is `*`
abbrev pub turn_parts : List ℕ → Option (List ℕ × List ℕ) → Result Turn Reason
turn_parts w None = do
  actor ← decimal w
  turn_from actor 1
turn_parts w (Some cut) = do
  actor ← decimal cut.0
  count ← decimal cut.1
  turn_from actor count

unfoldable pub turn_of : List ℕ → Result Turn Reason
turn_of w = turn_parts w (cut_at 42 w)

-- whether the first word is `order`, and runs follow
abbrev pub is_order_row : List (List ℕ) → Bool
is_order_row ws = nat_le 2 (length ws) && bytes_eq (word ws 0) (codes "order")

-- `order R..`: the runs of these words behind those of the words before them
unfoldable pub turns_after : List Turn → List (List ℕ) → Result (List Turn) Reason
turns_after turns [] = Ok turns
turns_after turns (w ∷ ws) = do
  turn ← turn_of w
  turns_after (turns ++ turn ∷ []) ws

unfoldable pub order_row : List (List ℕ) → Result (List Turn) Reason
order_row ws = turns_after [] (drop 1 ws)
