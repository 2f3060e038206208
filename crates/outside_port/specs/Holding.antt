-- What a sink holds, by whatever it keeps of the bytes that it took. This project's own.
use Rattle.std.specs.Prelude.{◌≡◌, ℕ, List, [], ◌++◌, take, Option, Some, OnOk, Result, Ok, Err}

-- for each text that a sink held, it now holds that text followed by these bytes
abbrev pub HoldsMore : (List ℕ → Type 0) → (List ℕ → Type 0) → List ℕ → Type 0
HoldsMore old now bytes = (text : List ℕ) → old text → now (text ++ bytes)

-- a write of n bytes adds the first n of its piece to what is held, and one that fails adds none
abbrev pub WriteHolds : {E : Type 0} → (List ℕ → Type 0) → (List ℕ → Type 0) → Result ℕ E → List ℕ → Type 0
WriteHolds old now (Ok n) piece = HoldsMore old now (take n piece)
WriteHolds old now (Err e) piece = HoldsMore old now []

-- a text that was written whole was added to what is held; nothing is said where the writing failed
abbrev pub Held : {T E : Type 0} → (List ℕ → Type 0) → (List ℕ → Type 0) → Result T E → List ℕ → Type 0
Held old now result text = OnOk result (HoldsMore old now text)

-- a sink that tells its bytes holds them, and no other text; of one that does not, no text is held
abbrev pub Tells : Option (List ℕ) → List ℕ → Type 0
Tells written text = written ≡ Some text
