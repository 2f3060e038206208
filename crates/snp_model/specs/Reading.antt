-- What a scenario text says: which lines it may have, what they make, and the first thing that is wrong. The text is this project's own.
use Rattle.std.specs.Prelude.{◌≡◌, ℕ, ◌+◌, ◌-◌, ◌<◌, ◌≤◌, ◌⊎◌, ◌==◌, nat_le, Bool, not, ◌&&◌, ◌||◌, if◌then◌else◌, List, [], ◌∷◌, ◌++◌, length, replicate, slice_get, slice_index, Option, Some, None, Result, Ok, Err, codes}
use Rattle.snp_model.specs.declared.reading.Reason.{Reason}
use Rattle.snp_model.specs.declared.reading.Reason.TheVariants.{Cut, Form, End, After}
use Rattle.snp_model.specs.declared.reading.Quantity.{Quantity}
use Rattle.snp_model.specs.declared.reading.Quantity.TheVariants.{Bytes, Regions, Guests, Actors, Attempts, Order}
use Rattle.snp_model.specs.declared.scenario.Scenario.{Scenario}
use Rattle.snp_model.specs.declared.scenario.Actor.{Actor}
use Rattle.snp_model.specs.declared.scenario.Role.{Role}
use Rattle.snp_model.specs.declared.scenario.Turn.{Turn}
use Rattle.snp_model.specs.declared.item.Line.{Line}
use Rattle.snp_model.specs.Attempts.{attempts_of}
use Rattle.snp_model.specs.Limits.{most}
use Rattle.snp_model.specs.Lines.{◌>>=◌, parts_at, words_of, word, is_plain, is_row}
use Rattle.snp_model.specs.ItemLines.{item_words}
use Rattle.snp_model.specs.ScenarioLines.{frames_of, has_no, before_orders, before_actors, before_words, before_pages, first_scenario, version_row, regions_row, guest_row, page_row, word_row, idle, cpu_row, tables_row, role_row, with_line, is_order_row, order_row}

-- the actors that the turns name, each as often as its turn says
unfoldable pub turns_spell : List Turn → List ℕ
turns_spell [] = []
turns_spell (turn ∷ turns) = replicate turn.count turn.actor ++ turns_spell turns

unfoldable pub order_of : Scenario → List ℕ
order_of c = turns_spell c.order

-- how many they are
unfoldable pub turns_count : List Turn → ℕ
turns_count [] = 0
turns_count (turn ∷ turns) = turn.count + turns_count turns

-- what is made so far: nothing before the first line that isn't passed over, which says the version; then a scenario, which the
-- line `end` closes
pub data Made : Type 0 where
  nothing : Made
  reading : Scenario → Made
  closed : Scenario → Made

-- why a line doesn't fit: by a rule, or by a limit that it passes, with the quantity that it would make
pub data Fault : Type 0 where
  refused : Reason → Fault
  passes : Quantity → ℕ → Fault

-- a rule's value, or its reason
abbrev pub by_rule : {A : Type 0} → Result A Reason → Result A Fault
by_rule (Ok x) = Ok x
by_rule (Err reason) = Err (refused reason)

-- what a line makes, where a quantity stays within its limit
abbrev pub within : Quantity → ℕ → Scenario → Result Made Fault
within quantity count c = if nat_le count (most quantity) then Ok (reading c) else Err (passes quantity count)

-- each form with what it makes of the scenario
unfoldable pub add_regions : Scenario → List (List ℕ) → Result Made Fault
add_regions c ws = do
  regions ← by_rule (regions_row ws)
  within Regions regions (record c { regions = regions })

unfoldable pub add_guest : Scenario → List (List ℕ) → Result Made Fault
add_guest c ws = do
  guest ← by_rule (guest_row c ws)
  within Guests (length c.guests + 1) (record c { guests = c.guests ++ guest ∷ [] })

unfoldable pub add_page : Scenario → List (List ℕ) → Result Made Fault
add_page c ws = do
  page ← by_rule (page_row c ws)
  Ok (reading (record c { pages = c.pages ++ page ∷ [] }))

unfoldable pub add_word : Scenario → List (List ℕ) → Result Made Fault
add_word c ws = do
  word ← by_rule (word_row c ws)
  Ok (reading (record c { words = c.words ++ word ∷ [] }))

unfoldable pub add_actor : Scenario → Result Role Reason → Result Made Fault
add_actor c row = do
  role ← by_rule row
  within Actors (length c.actors + 1) (record c { actors = c.actors ++ idle role ∷ [] })

unfoldable pub add_line : Scenario → Actor → Line → Result Made Fault
add_line c last line =
    let next : Scenario = record c { actors = with_line c.actors line last } in
    within Attempts (attempts_of next) next

abbrev pub add_item_of : Scenario → List (List ℕ) → Option Actor → Result Made Fault
add_item_of c ws None = Err (refused Form)
add_item_of c ws (Some last) = do
  line ← by_rule (item_words last.role (frames_of c) ws)
  add_line c last line

unfoldable pub add_item : Scenario → List (List ℕ) → Result Made Fault
add_item c ws = if has_no c.order then add_item_of c ws (slice_get c.actors (length c.actors - 1)) else Err (refused Form)

unfoldable pub add_order : Scenario → List (List ℕ) → Result Made Fault
add_order c ws = do
  turns ← by_rule (order_row ws)
  within Order (turns_count (c.order ++ turns)) (record c { order = c.order ++ turns })

-- which form a line has by its first word and its count of words, among those that may stand here; an item needs an actor
unfoldable pub add_words : Scenario → List (List ℕ) → Result Made Fault
add_words c ws =
    if is_row ws (codes "regions") 2 && (c.regions == 0) then add_regions c ws
    else if is_row ws (codes "guest") 9 && before_pages c then add_guest c ws
    else if is_row ws (codes "page") 11 && before_words c then add_page c ws
    else if is_row ws (codes "word") 4 && before_actors c then add_word c ws
    else if is_row ws (codes "actor") 9 && before_orders c then add_actor c (cpu_row c ws)
    else if is_row ws (codes "actor") 10 && before_orders c then add_actor c (tables_row c ws)
    else if is_row ws (codes "actor") 3 && before_orders c then add_actor c (role_row c ws)
    else if is_order_row ws && not (c.regions == 0) then add_order c ws
    else if is_row ws (codes "end") 1 && not (c.regions == 0) then Ok (closed c)
    else add_item c ws

-- what the words of a line make of what is made so far
abbrev pub fit_words : Made → List (List ℕ) → Result Made Fault
fit_words nothing ws = do
  version ← by_rule (version_row ws)
  Ok (reading (first_scenario version))
fit_words (reading c) ws = add_words c ws
fit_words (closed c) ws = Err (refused After)

-- whether a line is empty or a comment; 35 is `#`
abbrev pub is_passed_over : List ℕ → Bool
is_passed_over line = (length line == 0) || (slice_index line 0 == 35)

-- what a line makes where nothing is closed yet
unfoldable pub fit_line : Made → List ℕ → Result Made Fault
fit_line made line =
    if is_passed_over line then Ok made
    else if is_plain line then fit_words made (words_of line)
    else Err (refused Form)

-- what a line makes of what is made so far, or why it doesn't fit
unfoldable pub fit : Made → List ℕ → Result Made Fault
fit nothing line = fit_line nothing line
fit (reading c) line = fit_line (reading c) line
fit (closed c) line = Err (refused After)

-- the line may follow what is made so far, and makes this of it
abbrev pub Fits : Made → List ℕ → Made → Type 0
Fits made line next = fit made line ≡ Ok next

-- the lines fit in turn, and make this of what is made before them
unfoldable pub Makes : Made → List (List ℕ) → Made → Type 0
Makes made [] next = made ≡ next
Makes made (line ∷ lines) next = (middle : Made) × Fits made line middle × Makes middle lines next

-- the most bytes of a text
abbrev pub most_bytes : ℕ
most_bytes = most Bytes

-- a text that isn't too long is these lines, each with its line feed, and then a rest without one
pub record IsText (text : List ℕ) (lines : List (List ℕ)) (rest : List ℕ) : Type 0 where
  pub short : length text ≤ most_bytes
  pub parts : parts_at 10 text ≡ lines ++ rest ∷ []

-- a text says this scenario: every line fits in turn, and the last one is `end`
pub record Reads (text : List ℕ) (c : Scenario) : Type 0 where
  pub lines : List (List ℕ)
  pub whole : IsText text lines []
  pub makes : Makes nothing lines (closed c)

-- line n, counted from 1, is the first that doesn't fit
pub record StopsAt (text : List ℕ) (n : ℕ) (fault : Fault) : Type 0 where
  pub before : List (List ℕ)
  pub line : List ℕ
  pub behind : List (List ℕ)
  pub rest : List ℕ
  pub made : Made
  pub whole : IsText text (before ++ line ∷ behind) rest
  pub number : n ≡ length before + 1
  pub makes : Makes nothing before made
  pub stops : fit made line ≡ Err fault

-- what is wrong at the end: the last line has no line feed, or there is no line `end`
abbrev pub ending_of : Made → List ℕ → Option Reason
ending_of made (byte ∷ bytes) = Some Cut
ending_of nothing [] = Some End
ending_of (reading c) [] = Some End
ending_of (closed c) [] = None

-- every line fits, and the text ends wrong at line n
pub record EndsAt (text : List ℕ) (n : ℕ) (reason : Reason) : Type 0 where
  pub lines : List (List ℕ)
  pub rest : List ℕ
  pub made : Made
  pub whole : IsText text lines rest
  pub number : n ≡ length lines + 1
  pub makes : Makes nothing lines made
  pub ends : ending_of made rest ≡ Some reason

-- line n is the first that is wrong by a rule, with the first reason that applies, and no limit is passed before it
abbrev pub Refuses : List ℕ → ℕ → Reason → Type 0
Refuses text n reason = StopsAt text n (refused reason) ⊎ EndsAt text n reason

-- a text is too long; the count is then the most and 1
pub record IsTooLong (text : List ℕ) (quantity : Quantity) (count : ℕ) : Type 0 where
  pub long : most_bytes < length text
  pub quantity_is : quantity ≡ Bytes
  pub count_is : count ≡ most_bytes + 1

-- a limit is the first thing that is met
abbrev pub Passes : List ℕ → Quantity → ℕ → Type 0
Passes text quantity count = IsTooLong text quantity count ⊎ ((n : ℕ) × StopsAt text n (passes quantity count))

-- what some lines can make, the limit on bytes left aside
abbrev pub Valid : Scenario → Type 0
Valid c = (lines : List (List ℕ)) × Makes nothing lines (closed c)
