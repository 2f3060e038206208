-- The text of a scenario: a line for each entry of its lists, in the order in which a text may have them, with all numbers in base 10
-- but the keys, and no comments. This project's own.
use Rattle.std.specs.Prelude.{ℕ, zero, suc, ◌+◌, Bool, if◌then◌else◌, List, [], ◌∷◌, ◌++◌, length, take, drop, codes, decimal}
use Rattle.snp_model.specs.declared.item.Line.{Line}
use Rattle.snp_model.specs.declared.scenario.Actor.{Actor}
use Rattle.snp_model.specs.declared.scenario.GuestSpec.{GuestSpec}
use Rattle.snp_model.specs.declared.scenario.PageSpec.{PageSpec}
use Rattle.snp_model.specs.declared.scenario.Paging.{Paging}
use Rattle.snp_model.specs.declared.scenario.Paging.TheVariants.{Flat, Four, Five}
use Rattle.snp_model.specs.declared.scenario.Role.{Role}
use Rattle.snp_model.specs.declared.scenario.Role.TheVariants.{Cpu, Host, Firmware}
use Rattle.snp_model.specs.declared.scenario.Scenario.{Scenario}
use Rattle.snp_model.specs.declared.scenario.Turn.{Turn}
use Rattle.snp_model.specs.declared.scenario.WordSpec.{WordSpec}
use Rattle.snp_model.specs.EventText.{hex_bytes, size_text}
use Rattle.snp_model.specs.Spelling.{item_text, joined, numbers}

-- lines, each with its line feed
unfoldable pub text_of : List (List ℕ) → List ℕ
text_of [] = []
text_of (line ∷ lines) = line ++ 10 ∷ text_of lines

-- whether a guest runs at the opening
unfoldable pub opening_text : Bool → List ℕ
opening_text opened = if opened then codes "opened" else codes "new"

-- a guest of this number
unfoldable pub guest_line : ℕ → GuestSpec → List ℕ
guest_line number guest =
    joined (codes "guest" ∷ decimal number ∷ opening_text guest.opened ∷ codes "asid" ∷ decimal guest.asid ∷ codes "iv" ∷ decimal guest.iv ∷ codes "key" ∷ hex_bytes guest.key ∷ [])

unfoldable pub guest_lines : ℕ → List GuestSpec → List (List ℕ)
guest_lines number [] = []
guest_lines number (guest ∷ guests) = guest_line number guest ∷ guest_lines (number + 1) guests

-- whether a page is validated
unfoldable pub validity_text : Bool → List ℕ
validity_text valid = if valid then codes "valid" else codes "invalid"

-- a page
unfoldable pub page_line : PageSpec → List ℕ
page_line page =
    joined (codes "page" ∷ decimal page.frame ∷ codes "of" ∷ decimal page.guest ∷ codes "at" ∷ decimal page.gpn ∷ size_text page.size ∷ validity_text page.valid ∷ numbers page.perms)

unfoldable pub page_lines : List PageSpec → List (List ℕ)
page_lines [] = []
page_lines (page ∷ pages) = page_line page ∷ page_lines pages

-- a word
unfoldable pub word_line : WordSpec → List ℕ
word_line word = joined (codes "word" ∷ decimal word.frame ∷ decimal word.index ∷ decimal word.value ∷ [])

unfoldable pub word_lines : List WordSpec → List (List ℕ)
word_lines [] = []
word_lines (word ∷ words) = word_line word ∷ word_lines words

-- where a guest processor's tables begin, as words
unfoldable pub paging_words : Paging → List (List ℕ)
paging_words Flat = codes "flat" ∷ []
paging_words (Four root) = codes "gcr3" ∷ decimal root ∷ []
paging_words (Five root) = codes "la57" ∷ decimal root ∷ []

-- an actor of this number
unfoldable pub actor_line : ℕ → Role → List ℕ
actor_line number (Cpu guest vmpl npt paging) =
    joined (codes "actor" ∷ decimal number ∷ codes "cpu" ∷ decimal guest ∷ codes "vmpl" ∷ decimal vmpl ∷ codes "npt" ∷ decimal npt ∷ paging_words paging)
actor_line number Host = joined (codes "actor" ∷ decimal number ∷ codes "host" ∷ [])
actor_line number Firmware = joined (codes "actor" ∷ decimal number ∷ codes "fw" ∷ [])

-- the items of a script
unfoldable pub item_lines : List Line → List (List ℕ)
item_lines [] = []
item_lines (line ∷ lines) = item_text line ∷ item_lines lines

-- each actor with its items behind it
unfoldable pub actor_lines : ℕ → List Actor → List (List ℕ)
actor_lines number [] = []
actor_lines number (actor ∷ actors) = actor_line number actor.role ∷ (item_lines actor.script ++ actor_lines (number + 1) actors)

-- runs as words
unfoldable pub turn_words : List Turn → List (List ℕ)
turn_words [] = []
turn_words (turn ∷ turns) = (decimal turn.actor ++ 42 ∷ decimal turn.count) ∷ turn_words turns

-- the runs, 16 a line and the rest in the last; no more lines than there are runs
unfoldable pub order_lines_of : ℕ → List Turn → List (List ℕ)
order_lines_of zero turns = []
order_lines_of (suc room) [] = []
order_lines_of (suc room) (turn ∷ turns) = joined (codes "order" ∷ turn_words (take 16 (turn ∷ turns))) ∷ order_lines_of room (drop 16 (turn ∷ turns))

unfoldable pub order_lines : List Turn → List (List ℕ)
order_lines turns = order_lines_of (length turns) turns

-- the first two lines
unfoldable pub head_lines : ℕ → ℕ → List (List ℕ)
head_lines version regions = joined (codes "snp" ∷ decimal version ∷ []) ∷ joined (codes "regions" ∷ decimal regions ∷ []) ∷ []

-- all lines
unfoldable pub scenario_lines : Scenario → List (List ℕ)
scenario_lines c =
    head_lines c.version c.regions
    ++ (guest_lines 1 c.guests ++ (page_lines c.pages ++ (word_lines c.words ++ (actor_lines 1 c.actors ++ (order_lines c.order ++ codes "end" ∷ [])))))

unfoldable pub scenario_text : Scenario → List ℕ
scenario_text c = text_of (scenario_lines c)
