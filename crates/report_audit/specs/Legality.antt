-- Whether a use of a guest's memory finds what it needs there, as a test.
use Rattle.std.specs.Prelude.{ℕ, ◌==◌, Bool, true, false, not, ◌&&◌, if◌then◌else◌, Option, Some, None}
use Rattle.std.specs.FinMap.{get}
use Rattle.snp_model.specs.GuestMemory.{Memory, Use, Untouched, Reads, Writes, Exchanges, Compares, Accepts, Rescinds, Launches, known}

-- whether there is a value
abbrev pub is_there : {A : Type 0} → Option A → Bool
is_there (Some x) = true
is_there None = false

-- whether a word that may be known is this one
abbrev pub agrees : Option ℕ → ℕ → Bool
agrees (Some word) found = word == found
agrees None found = true

-- whether a page is held, and the word at a place of it is this one or unknown
abbrev pub may_read : Memory → ℕ → ℕ → ℕ → Bool
may_read memory gpn index found = is_there (get memory gpn) && agrees (known memory gpn index) found

abbrev pub says_written : Bool → Bool → Bool
says_written written same = if same then written else not written

-- whether an event finds what it needs
abbrev pub is_legal_use : Memory → Use → Bool
is_legal_use memory Untouched = true
is_legal_use memory (Reads gpn index found) = may_read memory gpn index found
is_legal_use memory (Writes gpn index value) = is_there (get memory gpn)
is_legal_use memory (Exchanges gpn index found value) = may_read memory gpn index found
is_legal_use memory (Compares gpn index found written expected next) = may_read memory gpn index found && says_written written (found == expected)
is_legal_use memory (Accepts gpn count) = true
is_legal_use memory (Rescinds gpn count) = true
is_legal_use memory (Launches gpn words) = true
