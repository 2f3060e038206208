-- Of each text one thing can be said: what reading it line by line finds.
use Rattle.std.proofs.Common.{◌≡◌, ℕ, ◌+◌, ◌<◌, ◌≤◌, nat_le, cond, List, [], ◌∷◌, ◌++◌, length, Result, Ok, Err, Some, refl, sym, ap, subst, ◌∙◌, inl, inr, append_assoc, arith}
use Rattle.std.proofs.lemmas.Bool.Decides.{nat_tests}
use Rattle.std.proofs.lemmas.Bool.{cases_lt}
use Rattle.snp_model.specs.declared.scenario.Scenario.{Scenario}
use Rattle.snp_model.specs.declared.reading.Reason.{Reason}
use Rattle.snp_model.specs.declared.reading.Quantity.TheVariants.{Bytes}
use Rattle.snp_model.specs.Lines.{parts_at}
use Rattle.snp_model.specs.Reading.{Made, nothing, reading, closed, Fault, refused, passes, fit, Makes, ending_of, Reads, StopsAt, EndsAt, most_bytes}
use Rattle.snp_model.specs.Texts.{end_of, read_parts, read_text}
use Rattle.snp_model.proofs.ReadingLaws.{Said, read_parts-said, some_part}
use Rattle.scenario_text.specs.Findings.{Finding, says, wrong, too_much, Finds, OneAnswer, SomeAnswer}

-- what is read of a text is said by its parts
read_text-said : (text : List ℕ) → Said 1 nothing (parts_at 10 text) (read_text text)
unfolding read_text
read_text-said text =
    let s = some_part 10 text in
    let P : List (List ℕ) → Type 0 = λ ps. Said 1 nothing ps (read_parts 1 nothing ps) in
    subst P (sym s.is) (read_parts-said 1 nothing s.part s.parts)

-- lines that fit are passed
passed : (lines : List (List ℕ)) (n : ℕ) (made middle : Made) (part : List ℕ) (parts : List (List ℕ)) (k : ℕ) → k ≡ length lines + n → Makes made lines middle → read_parts n made (lines ++ part ∷ parts) ≡ read_parts k middle (part ∷ parts)
unfolding Makes read_parts
passed [] n made middle part parts k e m =
    let same : n ≡ k = omega arith in
    ap (λ (j : ℕ). read_parts j made (part ∷ parts)) same ∙ ap (λ (d : Made). read_parts k d (part ∷ parts)) m
passed (line ∷ []) n made middle part parts k e m =
    rw m.1 (passed [] (n + 1) m.0 middle part parts k (omega arith) m.2)
passed (line ∷ other ∷ lines) n made middle part parts k e m =
    rw m.1 (passed (other ∷ lines) (n + 1) m.0 middle part parts k (omega arith) m.2)

-- what is read where a line doesn't fit, and at the end
stop_here : (n : ℕ) (made : Made) (line : List ℕ) (behind : List (List ℕ)) (rest : List ℕ) (fault : Fault) → fit made line ≡ Err fault → read_parts n made (line ∷ (behind ++ rest ∷ [])) ≡ Err (n, fault)
unfolding read_parts
stop_here n made line [] rest fault e = rw e refl
stop_here n made line (other ∷ behind) rest fault e = rw e refl

end_here : (n : ℕ) (made : Made) (rest : List ℕ) (reason : Reason) → ending_of made rest ≡ Some reason → read_parts n made (rest ∷ []) ≡ Err (n, refused reason)
unfolding read_parts end_of
end_here n made (byte ∷ bytes) reason e = cc
end_here n nothing [] reason e = cc
end_here n (reading c) [] reason e = cc
end_here n (closed c) [] reason e = absurd (cc)

close_here : (n : ℕ) (c : Scenario) → read_parts n (closed c) ([] ∷ []) ≡ Ok c
unfolding read_parts end_of
close_here n c = refl

reads_found : (text : List ℕ) (c : Scenario) → Reads text c → read_text text ≡ Ok c
unfolding read_text
reads_found text c r =
    ap (read_parts 1 nothing) r.whole.parts ∙ passed r.lines 1 nothing (closed c) [] [] (length r.lines + 1) refl r.makes ∙ close_here (length r.lines + 1) c

stops_found : (text : List ℕ) (n : ℕ) (fault : Fault) → StopsAt text n fault → read_text text ≡ Err (n, fault)
unfolding read_text
stops_found text n fault s =
    ap (read_parts 1 nothing) (s.whole.parts ∙ append_assoc s.before (s.line ∷ s.behind) (s.rest ∷ [])) ∙ passed s.before 1 nothing s.made s.line (s.behind ++ s.rest ∷ []) n s.number s.makes ∙ stop_here n s.made s.line s.behind s.rest fault s.stops

ends_found : (text : List ℕ) (n : ℕ) (reason : Reason) → EndsAt text n reason → read_text text ≡ Err (n, refused reason)
unfolding read_text
ends_found text n reason s =
    ap (read_parts 1 nothing) s.whole.parts ∙ passed s.lines 1 nothing s.made s.rest [] n s.number s.makes ∙ end_here n s.made s.rest reason s.ends

-- the finding of a text
unfoldable pub finding_read : Result Scenario (ℕ × Fault) → Finding
finding_read (Ok c) = says c
finding_read (Err (n, refused reason)) = wrong n reason
finding_read (Err (n, passes quantity count)) = too_much quantity count

abbrev finding_of : List ℕ → Finding
finding_of text = cond (nat_le (length text) most_bytes) (finding_read (read_text text)) (too_much Bytes (most_bytes + 1))

when_short : (n : ℕ) (a b : Finding) → n ≤ most_bytes → cond (nat_le n most_bytes) a b ≡ a
when_short n a b h = grind (arith, nat_tests)

when_long : (n : ℕ) (a b : Finding) → most_bytes < n → cond (nat_le n most_bytes) a b ≡ b
when_long n a b h = grind (arith, nat_tests)

found_short : (text : List ℕ) (one : Finding) (answer : Result Scenario (ℕ × Fault)) → length text ≤ most_bytes → read_text text ≡ answer → finding_read answer ≡ one → one ≡ finding_of text
found_short text one answer short e f =
    sym (when_short (length text) (finding_read (read_text text)) (too_much Bytes (most_bytes + 1)) short ∙ ap finding_read e ∙ f)

found : (text : List ℕ) (one : Finding) → Finds text one → one ≡ finding_of text
unfolding finding_read
found text (says c) r = found_short text (says c) (Ok c) r.whole.short (reads_found text c r) refl
found text (wrong n reason) (inl s) = found_short text (wrong n reason) (Err (n, refused reason)) s.whole.short (stops_found text n (refused reason) s) refl
found text (wrong n reason) (inr s) = found_short text (wrong n reason) (Err (n, refused reason)) s.whole.short (ends_found text n reason s) refl
found text (too_much quantity count) (inl h) =
    let e : finding_of text ≡ too_much Bytes (most_bytes + 1) = when_long (length text) (finding_read (read_text text)) (too_much Bytes (most_bytes + 1)) h.long in
    rw (h.quantity_is, h.count_is) (sym e)
found text (too_much quantity count) (inr s) = found_short text (too_much quantity count) (Err (s.0, passes quantity count)) s.1.whole.short (stops_found text s.0 (passes quantity count) s.1) refl

pub one_finding : OneAnswer
one_finding text one other h g = found text one h ∙ sym (found text other g)

same_reason : (reason other : Reason) → refused reason ≡ refused other → other ≡ reason
same_reason reason other e = cc

not_both : (quantity : _) (count : ℕ) (reason : Reason) → passes quantity count ≡ refused reason → ⊥
not_both quantity count reason e = cc

-- what is said by the parts of a text, the text says
finds : (text : List ℕ) (answer : Result Scenario (ℕ × Fault)) → length text ≤ most_bytes → Said 1 nothing (parts_at 10 text) answer → Finds text (finding_read answer)
unfolding finding_read
finds text (Ok c) short s = record { lines = s.lines; whole = record { short = short; parts = s.whole }; makes = s.makes }
finds text (Err (n, refused reason)) short (inl s) = inl (record { before = s.before; line = s.line; behind = s.behind; rest = s.rest; made = s.middle; whole = record { short = short; parts = s.whole }; number = s.number; makes = s.makes; stops = s.stops })
finds text (Err (n, refused reason)) short (inr s) = inr (record { lines = s.lines; rest = s.rest; made = s.middle; whole = record { short = short; parts = s.whole }; number = s.number; makes = s.makes; ends = s.ends ∙ ap Some (same_reason reason s.reason s.fault_is) })
finds text (Err (n, passes quantity count)) short (inl s) = inr (n, record { before = s.before; line = s.line; behind = s.behind; rest = s.rest; made = s.middle; whole = record { short = short; parts = s.whole }; number = s.number; makes = s.makes; stops = s.stops })
finds text (Err (n, passes quantity count)) short (inr s) = absurd (not_both quantity count s.reason s.fault_is)

pub reading_of : (text : List ℕ) (answer : Result Scenario (ℕ × Fault)) → length text ≤ most_bytes → read_text text ≡ answer → Finds text (finding_read answer)
reading_of text answer short e =
    let P : Result Scenario (ℕ × Fault) → Type 0 = λ a. Finds text (finding_read a) in
    subst P e (finds text (read_text text) short (read_text-said text))

pub some_finding : SomeAnswer
some_finding text =
    elim (cases_lt most_bytes (length text)) [ inl h ↦ (too_much Bytes (most_bytes + 1), inl (record { long = h; quantity_is = refl; count_is = refl })) | inr h ↦ (finding_read (read_text text), finds text (read_text text) h (read_text-said text)) ]
