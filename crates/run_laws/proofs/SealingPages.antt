-- Memory after the commit of a page that was sealed or opened, page by page.
use Rattle.std.proofs.Common.{◌≡◌, ◌≢◌, ℕ, eqb, Option, None, refl, sym, ◌∙◌, subst, unwrap_or}
use Rattle.std.proofs.lemmas.Bool.{cond_both, eqb-true, eqb-false}
use Rattle.snp_model.specs.declared.firmware.MetaEntry.{MetaEntry}
use Rattle.snp_model.specs.FirmwareCommits.{at_frame, at_guest, with_words}
use Rattle.snp_model.specs.Live.{Spot, InEntry, InRoot}
use Rattle.snp_model.specs.Sealing.{What, Slot, OfEntry, OfRoot, given_up, brought_back, entry_set, with_slot_entry, pages_out, no_entry, pages_in}
use Rattle.snp_model.specs.State.{Page, Pages, Context, Contexts, Computed}

-- what holds of the metadata page and the entry of a slot, if it is one
abbrev pub IfEntry : Slot → (ℕ → ℕ → Type 0) → Type 0
IfEntry (OfEntry metadata number) Holds = Holds metadata number
IfEntry OfRoot Holds = Unit {0}

-- the place of the entry at a slot
abbrev pub spot_of : Slot → Spot
spot_of (OfEntry metadata number) = InEntry metadata number
spot_of OfRoot = InRoot

-- the pages of a command are apart
pub record Apart (source target : ℕ) (slot : Slot) : Type 0 where
  pub target_off : target ≢ source
  pub table_off : IfEntry slot (λ metadata number. (metadata ≢ source) × (metadata ≢ target))

-- one page, and the others
pub at_each : (P : ℕ → Page → Type 0) (frame : ℕ) (page : Page) (pages : Pages) → P frame page → ((f : ℕ) → f ≢ frame → P f (pages f)) → (f : ℕ) → P f (at_frame frame page pages f)
unfolding at_frame
at_each P frame page pages here off f =
    cond_both (eqb frame f) _ _ (P f) (λ is. subst (λ (k : ℕ). P k page) (eqb-true frame f is) here) (λ other. off f (λ same. eqb-false frame f other (sym same)))

pub at_off : (frame : ℕ) (page : Page) (pages : Pages) (f : ℕ) → f ≢ frame → at_frame frame page pages f ≡ pages f
unfolding at_frame
at_off frame page pages f other = cond_both (eqb frame f) _ _ (λ (p : Page). p ≡ pages f) (λ is. absurd (other (sym (eqb-true frame f is)))) (λ _. refl)

-- one context, and the others
pub guest_here : (guest : ℕ) (context : Context) (contexts : Contexts) → at_guest guest context contexts guest ≡ context
unfolding at_guest
guest_here guest context contexts = cond_both (eqb guest guest) _ _ (λ (c : Context). c ≡ context) (λ _. refl) (λ other. absurd (eqb-false guest guest other refl))

pub guest_off : (guest : ℕ) (context : Context) (contexts : Contexts) (g : ℕ) → g ≢ guest → at_guest guest context contexts g ≡ contexts g
unfolding at_guest
guest_off guest context contexts g other = cond_both (eqb guest g) _ _ (λ (c : Context). c ≡ contexts g) (λ is. absurd (other (sym (eqb-true guest g is)))) (λ _. refl)

-- the metadata page with its entry
abbrev pub table_page : ℕ → Option MetaEntry → Page → Page
table_page number entry page = with_words (entry_set page.words number entry) page

-- after a page was sealed
pub out_each : (P : ℕ → Page → Type 0) (what : What) (source target : ℕ) (slot : Slot) (made : Computed) (pages : Pages)
    → Apart source target slot → P source (given_up what (pages source)) → P target (with_words made.words (pages target))
    → IfEntry slot (λ metadata number. P metadata (table_page number made.entry (pages metadata)))
    → ((f : ℕ) → f ≢ source → P f (pages f)) → (f : ℕ) → P f (pages_out what source target slot made pages f)
unfolding pages_out with_slot_entry
out_each P what source target (OfEntry metadata number) made pages apart at_source at_target at_table off =
    let given = at_frame source (given_up what (pages source)) pages in
    let inner = at_frame target (with_words made.words (pages target)) given in
    let was : inner metadata ≡ pages metadata =
    at_off target (with_words made.words (pages target)) given metadata apart.table_off.1 ∙ at_off source (given_up what (pages source)) pages metadata apart.table_off.0 in
    at_each P metadata (table_page number made.entry (inner metadata)) inner
    (subst (λ (page : Page). P metadata (table_page number made.entry page)) (sym was) at_table)
    (λ f _. at_each P target (with_words made.words (pages target)) given at_target (λ k _. at_each P source (given_up what (pages source)) pages at_source off k) f)
out_each P what source target OfRoot made pages apart at_source at_target at_table off =
    at_each P target (with_words made.words (pages target)) (at_frame source (given_up what (pages source)) pages) at_target
    (λ k _. at_each P source (given_up what (pages source)) pages at_source off k)

-- after a page was opened, with this entry
each_off : (P : ℕ → Page → Type 0) (target metadata : ℕ) (page : Page) (pages : Pages) → P target page → ((f : ℕ) → f ≢ metadata → P f (pages f))
    → (f : ℕ) → f ≢ metadata → P f (at_frame target page pages f)
unfolding at_frame
each_off P target metadata page pages here off f other =
    cond_both (eqb target f) _ _ (P f) (λ is. subst (λ (k : ℕ). P k page) (eqb-true target f is) here) (λ _. off f other)

pub in_each : (P : ℕ → Page → Type 0) (what : What) (source target : ℕ) (slot : Slot) (made : Computed) (pages : Pages)
    → Apart source target slot → P target (brought_back what (unwrap_or made.entry no_entry) made.words (pages target))
    → IfEntry slot (λ metadata number. P metadata (table_page number None (pages metadata)))
    → ((f : ℕ) → IfEntry slot (λ metadata number. f ≢ metadata) → P f (pages f)) → (f : ℕ) → P f (pages_in what target slot made pages f)
unfolding pages_in with_slot_entry
in_each P what source target (OfEntry metadata number) made pages apart at_target at_table off =
    let back = brought_back what (unwrap_or made.entry no_entry) made.words (pages target) in
    let inner = at_frame target back pages in
    let was : inner metadata ≡ pages metadata = at_off target back pages metadata apart.table_off.1 in
    at_each P metadata (table_page number None (inner metadata)) inner
    (subst (λ (page : Page). P metadata (table_page number None page)) (sym was) at_table)
    (λ f other. each_off P target metadata back pages at_target off f other)
in_each P what source target OfRoot made pages apart at_target at_table off =
    at_each P target (brought_back what (unwrap_or made.entry no_entry) made.words (pages target)) pages at_target (λ f _. off f tt)
