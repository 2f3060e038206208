-- The lines of guests and the last line, as they are written, are heard as an audit asks for them.
use Rattle.std.proofs.Common.{◌≡◌, ℕ, ◌+◌, ◌^◌, ◌<◌, ◌≤◌, Bool, true, false, cond, List, [], ◌∷◌, ◌++◌, length, Ok, bytes_eq, refl, sym, ap, ◌∙◌, subst, append_assoc, append-nil, arith}
use Rattle.std.specs.Prelude.{codes, decimal, nat_lt, ◌==◌, ◌||◌}
use Rattle.std.specs.List.{AllByRecursion, list_all}
use Rattle.std.proofs.lemmas.Bool.{and_parts, eq-eqb}
use Rattle.std.proofs.lemmas.Bool.Decides.{nat_tests}
use Rattle.std.proofs.lemmas.List.Folds.{list_all-append}
use Rattle.std.proofs.lemmas.Slice.Eq.{bytes_eq-Decides}
use Rattle.snp_model.specs.declared.firmware.GuestState.{GuestState}
use Rattle.snp_model.specs.declared.firmware.GuestState.TheVariants.{Absent, Init, Launching, Running}
use Rattle.snp_model.specs.declared.report.GuestLine.{GuestLine}
use Rattle.snp_model.specs.declared.scenario.Scenario.{Scenario}
use Rattle.snp_model.specs.EventText.{hex_bytes}
use Rattle.snp_model.specs.Lines.{is_decimal_digit, is_plain, is_printable, words_of}
use Rattle.snp_model.specs.Metadata.{AreBytes}
use Rattle.snp_model.specs.Report.{digest_text, end_text, guest_lines, guest_text, head_text, line, state_text}
use Rattle.snp_model.specs.Spelling.{joined}
use Rattle.script_text.proofs.HexWords.{bytes_hex, bytes_spelled, length-hex_bytes}
use Rattle.script_text.proofs.SpellingLaws.{IsWord, all_pass, decimal_again, decimal_word, digits_only, line_plain, words_again}
use Rattle.report_audit.specs.Again.{AreGuestsFrom}
use Rattle.report_audit.specs.Audit.{closed, ending, hear, hear_ending, hear_guest}
use Rattle.report_audit.specs.Ending.{is_digest, is_guest_line, is_guest_row, is_state}
use Rattle.report_audit.proofs.LinesAgain.{Goes, stays_there, goes_on, one_line}

-- the words of a guest line
guest_joined : (guest : GuestLine) → guest_text guest ≡ joined (codes "guest" ∷ decimal guest.guest ∷ state_text guest.state ∷ digest_text guest.pages guest.digest ∷ [])
unfolding guest_text
guest_joined guest = simp (append_assoc, append-nil)

state_spelled : (state : GuestState) → IsWord (state_text state)
unfolding state_text
state_spelled Absent = refl
state_spelled Init = refl
state_spelled Launching = refl
state_spelled Running = refl

state_is : (state : GuestState) → is_state (state_text state) ≡ true
unfolding state_text
state_is Absent = refl
state_is Init = refl
state_is Launching = refl
state_is Running = refl

digest_spelled : (pages : ℕ) (digest : List ℕ) → AreBytes digest → IsWord (digest_text pages digest)
unfolding digest_text
digest_spelled pages digest bytes = by (pages == 0)
  where
    by : (b : Bool) → IsWord (cond b (codes "-") (hex_bytes digest))
    by true = refl
    by false = bytes_spelled digest bytes

or_true : (b : Bool) → (b || true) ≡ true
or_true true = refl
or_true false = refl

hex_is : (digest : List ℕ) → length digest ≡ 48 → AreBytes digest → is_digest (hex_bytes digest) ≡ true
hex_is digest long bytes =
    let l = length-hex_bytes digest in
    let count : (length (hex_bytes digest) == 96) ≡ true = grind (arith, nat_tests, l, long) in
    rw (count, bytes_hex digest bytes) (or_true (bytes_eq (hex_bytes digest) (codes "-")))

digest_is : (pages : ℕ) (digest : List ℕ) → length digest ≡ 48 → AreBytes digest → is_digest (digest_text pages digest) ≡ true
unfolding digest_text
digest_is pages digest long bytes = by (pages == 0)
  where
    by : (b : Bool) → is_digest (cond b (codes "-") (hex_bytes digest)) ≡ true
    by true = refl
    by false = hex_is digest long bytes

-- the line of a guest
record GuestFits (guest : GuestLine) : Type 0 where
  plain : is_plain (guest_text guest) ≡ true
  words : words_of (guest_text guest) ≡ codes "guest" ∷ decimal guest.guest ∷ state_text guest.state ∷ digest_text guest.pages guest.digest ∷ []

guest_fits : (guest : GuestLine) → guest.guest < 2 ^ 64 → AreBytes guest.digest → GuestFits guest
guest_fits guest small bytes =
    let ws = decimal guest.guest ∷ state_text guest.state ∷ digest_text guest.pages guest.digest ∷ [] in
    let are : AllByRecursion IsWord ws = (decimal_word guest.guest small, (state_spelled guest.state, (digest_spelled guest.pages guest.digest bytes, tt))) in
    record {
      plain = ap is_plain (guest_joined guest) ∙ line_plain (codes "guest") ws refl are refl;
      words = ap words_of (guest_joined guest) ∙ words_again (codes "guest") ws refl are;
    }

row_is : (guest : GuestLine) → guest.guest < 2 ^ 64 → length guest.digest ≡ 48 → AreBytes guest.digest
    → is_guest_row guest.guest (codes "guest" ∷ decimal guest.guest ∷ state_text guest.state ∷ digest_text guest.pages guest.digest ∷ []) ≡ true
unfolding is_guest_row
row_is guest small long bytes =
    rw (decimal_again guest.guest small, eq-eqb guest.guest guest.guest refl, state_is guest.state, digest_is guest.pages guest.digest long bytes) refl

pub guest_line_fits : (guest : GuestLine) → guest.guest < 2 ^ 64 → length guest.digest ≡ 48 → AreBytes guest.digest → is_guest_line guest.guest (guest_text guest) ≡ true
unfolding is_guest_line
guest_line_fits guest small long bytes =
    let fits = guest_fits guest small bytes in
    rw (fits.plain, fits.words) (row_is guest small long bytes)

pub guest_plain : (guest : GuestLine) → guest.guest < 2 ^ 64 → AreBytes guest.digest → list_all is_printable (guest_text guest) ≡ true
guest_plain guest small bytes = (and_parts (list_all is_printable (guest_text guest)) _ (guest_fits guest small bytes).plain).0

guest_heard : (c : Scenario) (count told : ℕ) (text : List ℕ) → told < length c.guests → is_guest_line (told + 1) text ≡ true → hear c (ending count [] told) text ≡ Ok (ending count [] (told + 1))
unfolding hear hear_ending hear_guest
guest_heard c count told text more is =
    let below : nat_lt told (length c.guests) ≡ true = grind (arith, nat_tests, more) in
    rw (below, is) refl

-- the lines of guests, one by one
pub guests_go : (c : Scenario) (count told : ℕ) (guests : List GuestLine) (rest : List ℕ) → told + length guests ≡ length c.guests → told + length guests ≤ 8 → AreGuestsFrom (told + 1) guests
    → Goes c (ending count [] told) (guest_lines guests ++ rest) (ending count [] (length c.guests)) rest
unfolding guest_lines
guests_go c count told [] rest many few are =
    let same : told ≡ length c.guests = omega (arith, many) in
    subst (λ (k : ℕ). Goes c (ending count [] told) rest (ending count [] k) rest) same (stays_there c (ending count [] told) rest)
guests_go c count told (guest ∷ guests) rest many few are =
    let number : guest.guest ≡ told + 1 = are.0 in
    let small : guest.guest < 2 ^ 64 = omega (arith, number, few) in
    let text = guest_text guest in
    let others = guest_lines guests ++ rest in
    let fits : is_guest_line (told + 1) text ≡ true = ap (λ (k : ℕ). is_guest_line k text) (sym number) ∙ guest_line_fits guest small are.1 are.2 in
    let heard = guest_heard c count told text (omega (arith, many)) fits in
    let first = one_line c (ending count [] told) (ending count [] (told + 1)) text others (guest_plain guest small are.2) heard in
    let more = guests_go c count (told + 1) guests rest (omega (arith, many)) (omega (arith, few)) are.3 in
    subst (λ (t : List ℕ). Goes c (ending count [] told) t (ending count [] (length c.guests)) rest) (sym (append_assoc (line text) (guest_lines guests) rest))
    (goes_on c (ending count [] told) (ending count [] (told + 1)) (ending count [] (length c.guests)) (line text ++ others) others rest first more)

-- a word and a number
named_plain : (front : List ℕ) (n : ℕ) → list_all is_printable front ≡ true → n < 2 ^ 64 → list_all is_printable (front ++ decimal n) ≡ true
named_plain front n plain small =
    list_all-append is_printable front (decimal n)
    ∙ rw (plain, all_pass is_decimal_digit is_printable (λ d is. grind (arith, nat_tests, is)) (decimal n) (digits_only n small)) refl

pub end_plain : (count : ℕ) → count < 2 ^ 64 → list_all is_printable (end_text count) ≡ true
unfolding end_text
end_plain count small = named_plain (codes "end ") count refl small

pub head_plain : (version : ℕ) → version < 2 ^ 64 → list_all is_printable (head_text version) ≡ true
unfolding head_text
head_plain version small = named_plain (codes "snp-report ") version refl small

pub end_heard : (c : Scenario) (count : ℕ) → hear c (ending count [] (length c.guests)) (end_text count) ≡ Ok (closed count)
unfolding hear hear_ending hear_guest
end_heard c count =
    let none : nat_lt (length c.guests) (length c.guests) ≡ false = grind (arith, nat_tests) in
    rw (none, (bytes_eq-Decides (end_text count) (end_text count)).1 refl) refl
