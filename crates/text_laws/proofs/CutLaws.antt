-- A front of a text that says a scenario: its lines fit, and nothing is closed behind them.
use Rattle.std.proofs.Common.{◌≡◌, ◌≢◌, ℕ, ◌+◌, ◌≤◌, ◌==◌, Bool, true, false, List, [], ◌∷◌, ◌++◌, length, length-append, Some, Ok, refl, sym, ap, ◌∙◌, subst, arith}
use Rattle.std.proofs.lemmas.List.Splits.{slice_split-cons_yes, slice_split-cons_no, join_with_byte-slice_split}
use Rattle.std.specs.List.{onto_first, join_with_byte}
use Rattle.snp_model.specs.declared.scenario.Scenario.{Scenario}
use Rattle.snp_model.specs.Lines.{parts_at}
use Rattle.snp_model.specs.Reading.{Made, nothing, reading, closed, Makes, Reads, EndsAt, ending_of, fit, most_bytes}
use Rattle.snp_model.proofs.ReadingLaws.{some_part}
use Rattle.text_laws.specs.Cuts.{reason_of_rest, reason_of}

-- the parts of two texts one behind the other: the last part of the first and the first part of the second are one
pub record Joined (front rest : List ℕ) : Type 0 where
  pub lines : List (List ℕ)
  pub tail : List ℕ
  pub next : List ℕ
  pub others : List (List ℕ)
  pub of_front : parts_at 10 front ≡ lines ++ tail ∷ []
  pub of_rest : parts_at 10 rest ≡ next ∷ others
  pub of_both : parts_at 10 (front ++ rest) ≡ lines ++ (tail ++ next) ∷ others

-- so with a line feed before them
joined_feed : (byte : ℕ) (bytes rest : List ℕ) → (byte == 10) ≡ true → Joined bytes rest → Joined (byte ∷ bytes) rest
joined_feed byte bytes rest is j = record {
  lines = [] ∷ j.lines;
  tail = j.tail;
  next = j.next;
  others = j.others;
  of_front = slice_split-cons_yes (λ b. b == 10) byte bytes is ∙ ap (λ (ps : List (List ℕ)). [] ∷ ps) j.of_front;
  of_rest = j.of_rest;
  of_both = slice_split-cons_yes (λ b. b == 10) byte (bytes ++ rest) is ∙ ap (λ (ps : List (List ℕ)). [] ∷ ps) j.of_both;
}

-- and with another byte, which stands in the first part
joined_by : (byte : ℕ) (bytes rest tail next : List ℕ) (lines others : List (List ℕ)) → (byte == 10) ≡ false
    → parts_at 10 bytes ≡ lines ++ tail ∷ [] → parts_at 10 rest ≡ next ∷ others → parts_at 10 (bytes ++ rest) ≡ lines ++ (tail ++ next) ∷ others → Joined (byte ∷ bytes) rest
joined_by byte bytes rest tail next [] others is front behind both = record {
  lines = [];
  tail = byte ∷ tail;
  next = next;
  others = others;
  of_front = slice_split-cons_no (λ b. b == 10) byte bytes is ∙ ap (onto_first byte) front;
  of_rest = behind;
  of_both = slice_split-cons_no (λ b. b == 10) byte (bytes ++ rest) is ∙ ap (onto_first byte) both;
}
joined_by byte bytes rest tail next (line ∷ lines) others is front behind both = record {
  lines = (byte ∷ line) ∷ lines;
  tail = tail;
  next = next;
  others = others;
  of_front = slice_split-cons_no (λ b. b == 10) byte bytes is ∙ ap (onto_first byte) front;
  of_rest = behind;
  of_both = slice_split-cons_no (λ b. b == 10) byte (bytes ++ rest) is ∙ ap (onto_first byte) both;
}

joined_one : (byte : ℕ) (bytes rest : List ℕ) (test : Bool) → (byte == 10) ≡ test → Joined bytes rest → Joined (byte ∷ bytes) rest
joined_one byte bytes rest true is j = joined_feed byte bytes rest is j
joined_one byte bytes rest false is j = joined_by byte bytes rest j.tail j.next j.lines j.others is j.of_front j.of_rest j.of_both

pub joined : (front rest : List ℕ) → Joined front rest
joined [] rest =
    let s = some_part 10 rest in
    record { lines = []; tail = []; next = s.part; others = s.parts; of_front = refl; of_rest = s.is; of_both = s.is }
joined (byte ∷ bytes) rest = joined_one byte bytes rest (byte == 10) refl (joined bytes rest)

-- nothing is closed
abbrev IsOpen : Made → Type 0
IsOpen nothing = Unit {0}
IsOpen (reading c) = Unit {0}
IsOpen (closed c) = ⊥

-- behind the last line nothing fits
open_where : (made next : Made) (line : List ℕ) → fit made line ≡ Ok next → IsOpen made
unfolding fit
open_where nothing next line fits = tt
open_where (reading c) next line fits = tt
open_where (closed c) next line fits = absurd (cc)

-- lists that differ in their heads or in what is behind
pub heads : (x y : List ℕ) (xs ys : List (List ℕ)) → x ∷ xs ≡ y ∷ ys → x ≡ y
heads x y xs ys is = cc

pub tails : (x y : List ℕ) (xs ys : List (List ℕ)) → x ∷ xs ≡ y ∷ ys → xs ≡ ys
tails x y xs ys is = cc

pub never_empty : (xs : List (List ℕ)) (x : List ℕ) (ys : List (List ℕ)) → xs ++ x ∷ ys ≡ [] → ⊥
never_empty [] x ys is = cc
never_empty (y ∷ xs) x ys is = cc

-- what the first lines of a text make that ends with `end`, where more is to come
record Front (made : Made) (lines : List (List ℕ)) : Type 0 where
  middle : Made
  makes : Makes made lines middle
  is_open : IsOpen middle

front_makes : (made : Made) (lines others whole : List (List ℕ)) (part : List ℕ) (c : Scenario) → lines ++ part ∷ others ≡ whole ++ [] ∷ [] → Makes made whole (closed c)
    → (part ≡ [] → others ≡ [] → ⊥) → Front made lines
unfolding Makes
front_makes made [] others [] part c is makes more = absurd (more (heads part [] others [] is) (tails part [] others [] is))
front_makes made [] others (line ∷ whole) part c is makes more = record { middle = made; makes = refl; is_open = open_where made makes.0 line makes.1 }
front_makes made (first ∷ lines) others [] part c is makes more = absurd (never_empty lines part others (tails first [] (lines ++ part ∷ others) [] is))
front_makes made (first ∷ lines) others (line ∷ whole) part c is makes more =
    let same : first ≡ line = heads first line (lines ++ part ∷ others) (whole ++ [] ∷ []) is in
    let behind = front_makes makes.0 lines others whole part c (tails first line (lines ++ part ∷ others) (whole ++ [] ∷ []) is) makes.2 more in
    record { middle = behind.middle; makes = (makes.0, subst (λ (l : List ℕ). fit made l ≡ Ok makes.0) (sym same) makes.1, behind.makes); is_open = behind.is_open }

-- what is wrong at the end of a front
ends_front : (made : Made) (rest : List ℕ) → IsOpen made → ending_of made rest ≡ Some (reason_of_rest rest)
ends_front made (byte ∷ bytes) is = refl
ends_front nothing [] is = refl
ends_front (reading c) [] is = refl
ends_front (closed c) [] is = absurd is

-- the last part counts
reason_last : (lines : List (List ℕ)) (tail : List ℕ) → reason_of (lines ++ tail ∷ []) ≡ reason_of_rest tail
unfolding reason_of
reason_last [] tail = refl
reason_last (line ∷ []) tail = refl
reason_last (line ∷ other ∷ lines) tail = reason_last (other ∷ lines) tail

-- a text whose one part is empty is empty
nothing_there : (rest : List ℕ) → parts_at 10 rest ≡ [] ∷ [] → rest ≡ []
nothing_there rest is = sym (join_with_byte-slice_split 10 rest) ∙ ap (join_with_byte 10) is

-- a part and what follows are empty only if the part is
right_empty : (one other : List ℕ) → one ++ other ≡ [] → other ≡ []
right_empty [] other is = is
right_empty (byte ∷ one) other is = absurd (cc)

-- a front with what its lines make
record Cuts (front : List ℕ) : Type 0 where
  lines : List (List ℕ)
  tail : List ℕ
  parts : parts_at 10 front ≡ lines ++ tail ∷ []
  short : length front ≤ most_bytes
  behind : Front nothing lines

cuts : (text front rest : List ℕ) (c : Scenario) → Reads text c → text ≡ front ++ rest → rest ≢ [] → Cuts front
cuts text front rest c reads is some =
    let j = joined front rest in
    let whole : j.lines ++ (j.tail ++ j.next) ∷ j.others ≡ reads.lines ++ [] ∷ [] =
    sym j.of_both ∙ ap (parts_at 10) (sym is) ∙ reads.whole.parts in
    let long : length text ≤ most_bytes = reads.whole.short in
    let sum : length text ≡ length front + length rest = ap length is ∙ length-append front rest in
    record {
      lines = j.lines;
      tail = j.tail;
      parts = j.of_front;
      short = omega (arith, long, sum);
      behind = front_makes nothing j.lines j.others reads.lines (j.tail ++ j.next) c whole reads.makes
          (λ none last. some (nothing_there rest (j.of_rest ∙ ap (λ (p : List ℕ). p ∷ j.others) (right_empty j.tail j.next none) ∙ ap (λ (ps : List (List ℕ)). [] ∷ ps) last)));
    }

pub front_refused : (text front rest : List ℕ) (c : Scenario) → Reads text c → text ≡ front ++ rest → rest ≢ [] → EndsAt front (length (parts_at 10 front)) (reason_of (parts_at 10 front))
front_refused text front rest c reads is some =
    let k = cuts text front rest c reads is some in
    record {
      lines = k.lines;
      rest = k.tail;
      made = k.behind.middle;
      whole = record { short = k.short; parts = k.parts };
      number = ap length k.parts ∙ length-append k.lines (k.tail ∷ []);
      makes = k.behind.makes;
      ends = ends_front k.behind.middle k.tail k.behind.is_open ∙ ap Some (sym (ap reason_of k.parts ∙ reason_last k.lines k.tail));
    }

-- lines that close nothing are no lines of a scenario
unclosed : (made middle : Made) (lines whole : List (List ℕ)) (tail : List ℕ) (c : Scenario) → lines ++ tail ∷ [] ≡ whole ++ [] ∷ [] → Makes made lines middle → Makes made whole (closed c) → IsOpen middle → ⊥
unfolding Makes
unclosed made middle [] [] tail c is makes closes is_open = subst IsOpen (sym makes ∙ closes) is_open
unclosed made middle [] (line ∷ whole) tail c is makes closes is_open = never_empty whole [] [] (sym (tails tail line [] (whole ++ [] ∷ []) is))
unclosed made middle (first ∷ lines) [] tail c is makes closes is_open = never_empty lines tail [] (tails first [] (lines ++ tail ∷ []) [] is)
unclosed made middle (first ∷ lines) (line ∷ whole) tail c is makes closes is_open =
    let same : first ≡ line = heads first line (lines ++ tail ∷ []) (whole ++ [] ∷ []) is in
    let fits : fit made line ≡ Ok makes.0 = subst (λ (l : List ℕ). fit made l ≡ Ok makes.0) same makes.1 in
    let alike : makes.0 ≡ closes.0 = cc in
    unclosed closes.0 middle lines whole tail c (tails first line (lines ++ tail ∷ []) (whole ++ [] ∷ []) is) (subst (λ (m : Made). Makes m lines middle) alike makes.2) closes.2 is_open

pub front_unread : (text front rest : List ℕ) (c other : Scenario) → Reads text c → text ≡ front ++ rest → rest ≢ [] → Reads front other → ⊥
front_unread text front rest c other reads is some again =
    let k = cuts text front rest c reads is some in
    unclosed nothing k.behind.middle k.lines again.lines k.tail other (sym k.parts ∙ again.whole.parts) k.behind.makes again.makes k.behind.is_open
