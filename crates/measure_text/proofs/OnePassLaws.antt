-- Where the digest of the pages is kept and not their list, what is read is the digest of that list.
use Rattle.std.proofs.Common.{◌≡◌, ℕ, ◌+◌, ◌≤◌, Bool, true, false, if◌then◌else◌, List, [], ◌∷◌, ◌++◌, length, fold, replicate, Option, Some, None, Result, Ok, Err, refl, ap, subst, ◌∙◌}
use Rattle.snp_model.specs.declared.reading.Reason.{Reason}
use Rattle.snp_model.specs.Lines.{◌>>=◌, ◌>>◌, parts_at, words_of}
use Rattle.snp_model.specs.Measurement.{LaunchedPage, digest_after, measure}
use Rattle.snp_model.specs.MeasureText.{Measured, untitled, paged, ended, add_content, add_measured, at_number, content_row, hashing, kept_of, launch_row, listing, measure_end, measure_line, measure_parts, measure_words, title_row, with_last}
use Rattle.snp_model.specs.Reading.{most_bytes}
use Rattle.measure_text.specs.declared.text.RefusedLine.{RefusedLine}
use Rattle.measure_text.specs.Answers.{Answers}
use Rattle.measure_text.specs.Steps.{Says}

-- a value's image, or the same error
abbrev image : {A B E : Type 0} → (A → B) → Result A E → Result B E
image f (Ok x) = Ok (f x)
image f (Err e) = Err e

-- what is made so far, with the digest in place of the list
abbrev hashed : Measured (List LaunchedPage) → Measured (List ℕ)
hashed untitled = untitled
hashed (paged pages last) = paged (measure pages) last
hashed (ended pages) = ended (measure pages)

measure_more : (digest : List ℕ) (pages : List LaunchedPage) (page : LaunchedPage) → digest_after (fold digest_after digest pages) page ≡ fold digest_after digest (pages ++ page ∷ [])
measure_more digest [] page = refl
measure_more digest (first ∷ pages) page = measure_more (digest_after digest first) pages page

-- the digest of all pages
last_hashed : (pages : List LaunchedPage) (last : Option LaunchedPage) → with_last hashing (measure pages) last ≡ measure (with_last listing pages last)
last_hashed pages None = refl
last_hashed pages (Some page) = measure_more (replicate 48 0) pages page

chosen : {A B E : Type 0} (f : A → B) (b : Bool) (x y : Result A E) (u v : Result B E) → u ≡ image f x → v ≡ image f y → (if b then u else v) ≡ image f (if b then x else y)
chosen f true x y u v e g = e
chosen f false x y u v e g = g

title_hashed : (title : Result (Unit {0}) Reason) → (title >> Ok (paged (replicate 48 0) None)) ≡ image hashed (title >> Ok (paged [] None))
title_hashed (Ok done) = refl
title_hashed (Err reason) = refl

launch_hashed : (pages : List LaunchedPage) (last : Option LaunchedPage) (row : Result LaunchedPage Reason)
    → (row >>= (λ page. Ok (paged (with_last hashing (measure pages) last) (Some page)))) ≡ image hashed (row >>= (λ page. Ok (paged (with_last listing pages last) (Some page))))
launch_hashed pages last (Ok page) = ap (λ (digest : List ℕ). Ok (paged digest (Some page))) (last_hashed pages last)
launch_hashed pages last (Err reason) = refl

next_hashed : (pages : List LaunchedPage) (row : Result LaunchedPage Reason) → (row >>= (λ page. Ok (paged (measure pages) (Some page)))) ≡ image hashed (row >>= (λ page. Ok (paged pages (Some page))))
next_hashed pages (Ok page) = refl
next_hashed pages (Err reason) = refl

content_hashed : (pages : List LaunchedPage) (last : Option LaunchedPage) (ws : List (List ℕ)) → add_content (measure pages) last ws ≡ image hashed (add_content pages last ws)
content_hashed pages None ws = refl
content_hashed pages (Some page) ws = next_hashed pages (content_row page ws)

-- each form makes the same, but for the digest
words_hashed : (made : Measured (List LaunchedPage)) (ws : List (List ℕ)) → measure_words hashing (hashed made) ws ≡ image hashed (measure_words listing made ws)
unfolding add_measured
words_hashed untitled ws = title_hashed (title_row ws)
words_hashed (paged pages last) ws =
    chosen hashed _ _ _ _ _ (launch_hashed pages last (launch_row ws))
    (chosen hashed _ _ _ _ _ (content_hashed pages last ws)
    (chosen hashed _ _ _ _ _ (ap (λ (digest : List ℕ). Ok (ended digest)) (last_hashed pages last)) refl))
words_hashed (ended pages) ws = refl

-- and so does each line
line_hashed : (made : Measured (List LaunchedPage)) (line : List ℕ) → measure_line hashing (hashed made) line ≡ image hashed (measure_line listing made line)
unfolding measure_line
line_hashed untitled line = chosen hashed _ _ _ _ _ refl (chosen hashed _ _ _ _ _ (words_hashed untitled (words_of line)) refl)
line_hashed (paged pages last) line = chosen hashed _ _ _ _ _ refl (chosen hashed _ _ _ _ _ (words_hashed (paged pages last) (words_of line)) refl)
line_hashed (ended pages) line = refl

end_hashed : (n : ℕ) (made : Measured (List LaunchedPage)) (rest : List ℕ) → measure_end n (hashed made) rest ≡ image measure (measure_end n made rest)
unfolding measure_end
end_hashed n made (byte ∷ bytes) = refl
end_hashed n untitled [] = refl
end_hashed n (paged pages last) [] = refl
end_hashed n (ended pages) [] = refl

goes_on : (n : ℕ) (fits : Result (Measured (List LaunchedPage)) Reason) (kept : Result (Measured (List ℕ)) Reason) (parts : List (List ℕ)) → kept ≡ image hashed fits
    → ((next : Measured (List LaunchedPage)) → measure_parts hashing (n + 1) (hashed next) parts ≡ image measure (measure_parts listing (n + 1) next parts))
    → (at_number n kept >>= (λ next. measure_parts hashing (n + 1) next parts)) ≡ image measure (at_number n fits >>= (λ next. measure_parts listing (n + 1) next parts))
goes_on n (Ok next) kept parts e more = rw e (more next)
goes_on n (Err reason) kept parts e more = rw e refl

parts_hashed : (n : ℕ) (made : Measured (List LaunchedPage)) (parts : List (List ℕ)) → measure_parts hashing n (hashed made) parts ≡ image measure (measure_parts listing n made parts)
unfolding measure_parts
parts_hashed n made [] = end_hashed n made []
parts_hashed n made (rest ∷ []) = end_hashed n made rest
parts_hashed n made (line ∷ part ∷ parts) =
    goes_on n (measure_line listing made line) (measure_line hashing (hashed made) line) (part ∷ parts) (line_hashed made line) (λ next. parts_hashed (n + 1) next (part ∷ parts))

-- one pass finds the digest of the pages that a text says, and the same line and reason where it says none
kept_hashed : (text : List ℕ) → kept_of hashing text ≡ image measure (kept_of listing text)
unfolding kept_of
kept_hashed text = parts_hashed 1 untitled (parts_at 10 text)

-- the answer of the reader
by_list : (text : List ℕ) (read : Result (List LaunchedPage) (ℕ × Reason)) (outcome : Result (List ℕ) RefusedLine) → length text ≤ most_bytes → kept_of listing text ≡ read → Says outcome (image measure read) → Answers outcome text
by_list text (Ok pages) (Ok digest) short e says = (pages, record { short = short; reads = e }, cc)
by_list text (Err stop) (Err refused) short e says = record { short = short; refuses = e ∙ cc }
by_list text (Ok pages) (Err refused) short e says = absurd (cc)
by_list text (Err stop) (Ok digest) short e says = absurd (cc)

pub answered : (text : List ℕ) (outcome : Result (List ℕ) RefusedLine) → length text ≤ most_bytes → Says outcome (kept_of hashing text) → Answers outcome text
answered text outcome short says = by_list text (kept_of listing text) outcome short refl (subst (Says outcome) (kept_hashed text) says)
