-- The line of an event is words behind one another.
use Rattle.std.proofs.Common.{◌≡◌, ℕ, Bool, true, false, List, [], ◌∷◌, ◌++◌, refl, sym, ◌∙◌, ap, append_assoc, append-nil}
use Rattle.std.specs.Prelude.{Option, Some, None, codes, decimal}
use Rattle.snp_model.specs.declared.event.Deed.{Deed}
use Rattle.snp_model.specs.declared.event.Deed.TheVariants.{Begin, Nested, Table, Access, Host, Lock, LockContext, Compute, Commit, CommitContext, Control}
use Rattle.snp_model.specs.declared.event.Outcome.{Outcome}
use Rattle.snp_model.specs.declared.event.Outcome.TheVariants.{Loaded, Opaque, Stored, Swapped, Compared, Gp, Pf, Npf, Vc, Offline, Status, Carry, StatusInUse, Firmware, FirmwareInUse, BadTag, Next, Skipped}
use Rattle.snp_model.specs.declared.event.Event.{Event}
use Rattle.snp_model.specs.EventText.{deed_text, ending_text, event_text, hex, hex_bytes, outcome_text, privacy_text, read_text, size_text}
use Rattle.snp_model.specs.Spelling.{behind, joined}

-- two numbers on both sides of a separator
abbrev pub around : ℕ → List ℕ → List ℕ → List ℕ
around separator before after = before ++ separator ∷ after

-- one of two words
abbrev pub chosen_word : Bool → List ℕ → List ℕ → List ℕ
chosen_word true first second = first
chosen_word false first second = second

-- the words of what an event does
abbrev pub deed_said : Deed → List (List ℕ)
deed_said Begin = codes "begin" ∷ []
deed_said (Nested frame index value) = codes "npt" ∷ around 58 (decimal frame) (decimal index) ∷ hex value ∷ []
deed_said (Table gpn index frame value) = codes "gpt" ∷ around 58 (hex gpn) (decimal index) ∷ decimal frame ∷ read_text value ∷ []
deed_said (Access gpn index frame private) = codes "data" ∷ around 58 (hex gpn) (decimal index) ∷ decimal frame ∷ chosen_word private (codes "p") (codes "s") ∷ []
deed_said (Host frame index) = codes "host" ∷ around 58 (decimal frame) (decimal index) ∷ []
deed_said (Lock frame) = codes "lock" ∷ decimal frame ∷ []
deed_said (LockContext guest) = codes "lockg" ∷ decimal guest ∷ []
deed_said Compute = codes "compute" ∷ []
deed_said (Commit frame gpn size) = codes "commit" ∷ decimal frame ∷ hex gpn ∷ size_text size ∷ []
deed_said (CommitContext guest) = codes "commitg" ∷ decimal guest ∷ []
deed_said Control = codes "skip" ∷ []

-- the words of how an attempt ended
abbrev pub outcome_said : Outcome → List (List ℕ)
outcome_said (Loaded value) = codes "load" ∷ hex value ∷ []
outcome_said Opaque = codes "opaque" ∷ []
outcome_said Stored = codes "store" ∷ []
outcome_said (Swapped value) = codes "swap" ∷ hex value ∷ []
outcome_said (Compared found written) = codes "cas" ∷ hex found ∷ chosen_word written (codes "yes") (codes "no") ∷ []
outcome_said Gp = codes "gp" ∷ []
outcome_said Offline = codes "offline" ∷ []
outcome_said (Pf code) = codes "pf" ∷ hex code ∷ []
outcome_said (Npf code) = codes "npf" ∷ hex code ∷ []
outcome_said (Vc code) = codes "vc" ∷ hex code ∷ []
outcome_said (Status status) = codes "rc" ∷ decimal status ∷ []
outcome_said (Carry carry) = codes "rc" ∷ codes "0" ∷ codes "cf" ∷ chosen_word carry (codes "1") (codes "0") ∷ []
outcome_said (StatusInUse holder) = codes "rc" ∷ codes "3" ∷ codes "by" ∷ decimal holder ∷ []
outcome_said (Firmware status) = codes "fw" ∷ hex status ∷ []
outcome_said (FirmwareInUse holder) = codes "fw" ∷ codes "0x100" ∷ codes "by" ∷ decimal holder ∷ []
outcome_said (BadTag found kept) = codes "fw" ∷ codes "0xb" ∷ codes "found" ∷ hex_bytes found ∷ codes "kept" ∷ hex_bytes kept ∷ []
outcome_said Next = codes "next" ∷ []
outcome_said (Skipped count) = codes "skipped" ∷ decimal count ∷ []

-- the words behind the deed
abbrev pub ending_said : Option Outcome → List (List ℕ)
ending_said None = []
ending_said (Some outcome) = outcome_said outcome

-- the words of a line behind the number of the event
abbrev pub event_said : ℕ → Event → List (List ℕ)
event_said actor event =
    decimal actor ∷ around 46 (decimal event.item) (decimal event.attempt) ∷ (deed_said event.deed ++ ending_said event.outcome)

-- a deed behind a space, before other words
deed_behind : (deed : Deed) (rest : List (List ℕ)) → 32 ∷ (deed_text deed ++ behind rest) ≡ behind (deed_said deed ++ rest)
unfolding deed_text privacy_text
deed_behind Begin rest = refl
deed_behind (Nested frame index value) rest = simp append_assoc
deed_behind (Table gpn index frame value) rest = simp append_assoc
deed_behind (Access gpn index frame true) rest = simp append_assoc
deed_behind (Access gpn index frame false) rest = simp append_assoc
deed_behind (Host frame index) rest = simp append_assoc
deed_behind (Lock frame) rest = simp append_assoc
deed_behind (LockContext guest) rest = simp append_assoc
deed_behind Compute rest = refl
deed_behind (Commit frame gpn size) rest = simp append_assoc
deed_behind (CommitContext guest) rest = simp append_assoc
deed_behind Control rest = refl

-- an outcome behind a space
outcome_joined : (outcome : Outcome) → codes " " ++ outcome_text outcome ≡ behind (outcome_said outcome)
unfolding outcome_text
outcome_joined (Loaded value) = simp (append_assoc, append-nil)
outcome_joined Opaque = refl
outcome_joined Stored = refl
outcome_joined (Swapped value) = simp (append_assoc, append-nil)
outcome_joined (Compared found true) = simp (append_assoc, append-nil)
outcome_joined (Compared found false) = simp (append_assoc, append-nil)
outcome_joined Gp = refl
outcome_joined Offline = refl
outcome_joined (Pf code) = simp (append_assoc, append-nil)
outcome_joined (Npf code) = simp (append_assoc, append-nil)
outcome_joined (Vc code) = simp (append_assoc, append-nil)
outcome_joined (Status status) = simp (append_assoc, append-nil)
outcome_joined (Carry true) = refl
outcome_joined (Carry false) = refl
outcome_joined (StatusInUse holder) = simp (append_assoc, append-nil)
outcome_joined (Firmware status) = simp (append_assoc, append-nil)
outcome_joined (FirmwareInUse holder) = simp (append_assoc, append-nil)
outcome_joined (BadTag found kept) = simp (append_assoc, append-nil)
outcome_joined Next = refl
outcome_joined (Skipped count) = simp (append_assoc, append-nil)

ending_joined : (outcome : Option Outcome) → ending_text outcome ≡ behind (ending_said outcome)
unfolding ending_text
ending_joined None = refl
ending_joined (Some outcome) = outcome_joined outcome

pub event_joined : (k actor : ℕ) (event : Event) → event_text k actor event ≡ joined (decimal k ∷ event_said actor event)
unfolding event_text
event_joined k actor event =
    let rest : behind (deed_said event.deed ++ ending_said event.outcome) ≡ 32 ∷ (deed_text event.deed ++ ending_text event.outcome) =
    sym (ap (λ (text : List ℕ). 32 ∷ (deed_text event.deed ++ text)) (ending_joined event.outcome) ∙ deed_behind event.deed (ending_said event.outcome)) in
    rw rest (simp append_assoc)
