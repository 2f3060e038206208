-- A scenario that lines can make is sound: each line keeps the bounds.
use Rattle.std.proofs.Common.{◌≡◌, ℕ, zero, suc, ◌+◌, ◌*◌, ◌%◌, ◌^◌, ◌<◌, ◌≤◌, Bool, true, false, cond, List, [], ◌∷◌, ◌++◌, length, map, get_or, Result, Ok, Err, Option, Some, None, refl, sym, ap, ◌∙◌, subst, arith, ⊎_elim}
use Rattle.std.proofs.lemmas.List.{length-append, length-replicate, length-take-le}
use Rattle.std.proofs.lemmas.Bool.{and_parts, or_parts}
use Rattle.std.proofs.lemmas.Bool.Decides.{nat_tests}
use Rattle.snp_model.specs.declared.reading.Reason.TheVariants.{Form, Repeat, Guest, Range}
use Rattle.snp_model.specs.declared.entry.PageSize.{PageSize}
use Rattle.snp_model.specs.declared.entry.PageSize.TheVariants.{Small, Large}
use Rattle.std.specs.Prelude.{codes, bytes_eq, take, drop, replicate, if◌then◌else◌, ◌-◌, not, ◌==◌, ◌&&◌, nat_le, nat_lt, slice_get}
use Rattle.std.specs.List.{AllByRecursion, list_any, list_all, range_with_len}
use Rattle.snp_model.specs.declared.reading.Reason.{Reason}
use Rattle.snp_model.specs.declared.item.Item.{Item}
use Rattle.snp_model.specs.declared.item.Item.TheVariants as items
use Rattle.snp_model.specs.declared.item.Line.{Line}
use Rattle.snp_model.specs.declared.scenario.Actor.{Actor}
use Rattle.snp_model.specs.declared.scenario.GuestSpec.{GuestSpec}
use Rattle.snp_model.specs.declared.scenario.PageSpec.{PageSpec}
use Rattle.snp_model.specs.declared.scenario.Paging.TheVariants.{Flat}
use Rattle.snp_model.specs.declared.scenario.Role.{Role}
use Rattle.snp_model.specs.declared.scenario.Role.TheVariants.{Cpu, Host, Firmware}
use Rattle.snp_model.specs.declared.scenario.Scenario.{Scenario}
use Rattle.snp_model.specs.declared.scenario.Turn.{Turn}
use Rattle.snp_model.specs.declared.scenario.WordSpec.{WordSpec}
use Rattle.snp_model.specs.Facts.{frames_in}
use Rattle.snp_model.specs.Locks.{in_range}
use Rattle.snp_model.specs.Attempts.{attempts_of, actors_attempts, script_attempts}
use Rattle.snp_model.specs.ItemLines.{size_word, item_words}
use Rattle.snp_model.specs.Lines.{◌>>=◌, ◌>>◌, cut_at, decimal, digit_value, is_hex_digit, is_row, is_plain, words_of, require, word, fixed, number, ranged, below, multiple}
use Rattle.snp_model.specs.declared.reading.Quantity.{Quantity}
use Rattle.snp_model.specs.declared.reading.Quantity.TheVariants as quantities
use Rattle.snp_model.specs.Reading.{Made, nothing, reading, closed, Fault, refused, is_passed_over, turns_spell, order_of, by_rule, within, fit, fit_line, fit_words, add_regions, add_guest, add_page, add_word, add_actor, add_line, add_item_of, add_item, add_order, add_words, turns_count, Makes, Valid}
use Rattle.snp_model.specs.ScenarioLines.{frames_of, regions_row, turn_from, turn_parts, turn_of, turns_after, is_order_row, order_row, version_of, version_row, first_scenario, has_five_levels, tables_at, has_no, before_pages, before_words, before_actors, before_orders, idle, opening, opened_of, next_number, page_unit, guest_row, page_row, word_row, cpu_row, tables_row, role_word, role_row, with_line, has_asid, is_opened, is_declared, apart, overlap, collide, key_byte, key_of, validity}
use Rattle.snp_model.specs.Limits.{most}
use Rattle.snp_model.specs.Metadata.{AreBytes}
use Rattle.snp_model.specs.Bounds.{IsPaging, IsCpu, IsRole, IsItemOf, IsLineOf}
use Rattle.snp_model.specs.Sound.{Pairwise, IsGuest, AsidsDiffer, IsPage, FramesDiffer, GpnsDiffer, IsWord, IsActor, IsTurn, IsSound}
use Rattle.snp_model.proofs.ItemSoundLaws.{item_ok}
use Rattle.snp_model.proofs.LineLaws.{below_multiple_ok, below_ok, number_ok, ranged_ok, select}
pub use Rattle.snp_model.proofs.LineLaws.{bind_ok, then_ok, chosen, guard_ok, require_ok}

-- what a scenario under way keeps
pub record IsDraft (c : Scenario) : Type 0 where
  pub version_some : 1 ≤ c.version
  pub version_most : c.version ≤ 2
  pub regions_most : c.regions ≤ most quantities.Regions
  pub guests_most : length c.guests ≤ most quantities.Guests
  pub guests : AllByRecursion IsGuest c.guests
  pub asids_differ : Pairwise AsidsDiffer c.guests
  pub pages : AllByRecursion (IsPage (frames_of c) (length c.guests)) c.pages
  pub frames_differ : Pairwise FramesDiffer c.pages
  pub gpns_differ : Pairwise GpnsDiffer c.pages
  pub words : AllByRecursion (IsWord (frames_of c)) c.words
  pub actors_most : length c.actors ≤ most quantities.Actors
  pub actors : AllByRecursion (IsActor (frames_of c) (length c.guests)) c.actors
  pub attempts_most : attempts_of c ≤ most quantities.Attempts
  pub order : AllByRecursion IsTurn c.order
  pub order_most : turns_count c.order ≤ most quantities.Order

all_push : {X : Type 0} (P : X → Type 0) (xs : List X) (x : X) → AllByRecursion P xs → P x → AllByRecursion P (xs ++ x ∷ [])
all_push P [] x all one = (one, tt)
all_push P (y ∷ ys) x all one = (all.0, all_push P ys x all.1 one)

all_append : {X : Type 0} (P : X → Type 0) (xs ys : List X) → AllByRecursion P xs → AllByRecursion P ys → AllByRecursion P (xs ++ ys)
all_append P [] ys all others = others
all_append P (x ∷ xs) ys all others = (all.0, all_append P xs ys all.1 others)

all_weaker : {X : Type 0} (P Q : X → Type 0) (xs : List X) → ((x : X) → P x → Q x) → AllByRecursion P xs → AllByRecursion Q xs
all_weaker P Q [] weaker all = tt
all_weaker P Q (x ∷ xs) weaker all = (weaker x all.0, all_weaker P Q xs weaker all.1)

pairs_push : {X : Type 0} (R : X → X → Type 0) (xs : List X) (x : X) → Pairwise R xs → AllByRecursion (λ y. R y x) xs → Pairwise R (xs ++ x ∷ [])
pairs_push R [] x pairs all = (tt, tt)
pairs_push R (y ∷ ys) x pairs all = (all_push (R y) ys x pairs.0 all.0, pairs_push R ys x pairs.1 all.1)

-- no element passes a test, so each has what its failing shows
none_any : {X : Type 0} (test : X → Bool) (Q : X → Type 0) (xs : List X) → ((x : X) → test x ≡ false → Q x) → list_any test xs ≡ false → AllByRecursion Q xs
none_any test Q [] shows none = tt
none_any test Q (x ∷ xs) shows none =
    elim (test x) as (λ (b : Bool). (test x ≡ b) → AllByRecursion Q (x ∷ xs)) [
      | true ↦ λ is. absurd (grind (arith, nat_tests, is, none))
      | false ↦ λ is. (shows x is, none_any test Q xs shows (grind (arith, nat_tests, is, none)))
    ] refl

pub at_end : {X : Type 0} (P : X → Type 0) (xs : List X) (k : ℕ) (x : X) → AllByRecursion P xs → slice_get xs k ≡ Some x → P x
at_end P [] k x all is = absurd (cc)
at_end P (y ∷ ys) zero x all is = let e : y ≡ x = cc in subst P e all.0
at_end P (y ∷ ys) (suc k) x all is = at_end P ys k x all.1 is

pub all_take : {X : Type 0} (P : X → Type 0) (xs : List X) (k : ℕ) → AllByRecursion P xs → AllByRecursion P (take k xs)
all_take P [] zero all = tt
all_take P [] (suc k) all = tt
all_take P (y ∷ ys) zero all = tt
all_take P (y ∷ ys) (suc k) all = (all.0, all_take P ys k all.1)

-- more frames and more guests keep all bounds
page_more : (frames frames' guests guests' : ℕ) → frames ≤ frames' → guests ≤ guests' → (page : PageSpec) → IsPage frames guests page → IsPage frames' guests' page
page_more frames frames' guests guests' more_frames more_guests page is =
    record { frame = let h = is.frame in omega arith; guest_some = is.guest_some; guest_most = let h = is.guest_most in omega arith; gpn = is.gpn; aligned = is.aligned; perms_three = is.perms_three; perms = is.perms }

word_more : (frames frames' : ℕ) → frames ≤ frames' → (word : WordSpec) → IsWord frames word → IsWord frames' word
word_more frames frames' more word is = record { frame = let h = is.frame in omega arith; index = is.index; value = is.value }

role_more : (frames frames' guests guests' : ℕ) → frames ≤ frames' → guests ≤ guests' → (role : Role) → IsRole frames guests role → IsRole frames' guests' role
role_more frames frames' guests guests' more_frames more_guests (Cpu guest vmpl npt paging) is =
    record { guest_some = is.guest_some; guest_most = let h = is.guest_most in omega arith; vmpl_below = is.vmpl_below; npt_below = let h = is.npt_below in omega arith; root_below = is.root_below }
role_more frames frames' guests guests' more_frames more_guests Host is = tt
role_more frames frames' guests guests' more_frames more_guests Firmware is = is

item_more : (frames frames' : ℕ) → frames ≤ frames' → (role : Role) (item : Item) → IsItemOf frames role item → IsItemOf frames' role item
item_more frames frames' more (Cpu guest vmpl npt paging) item is = is
item_more frames frames' more Host (items.Access address op) is = let h = is.0 in (omega arith, is.1, is.2)
item_more frames frames' more Host (items.Pvalidate address size validate) is = absurd is
item_more frames frames' more Host (items.Rmpadjust address size target mask vmsa) is = absurd is
item_more frames frames' more Host (items.Rmpupdate update) is = is
item_more frames frames' more Host (items.Psmash frame) is = is
item_more frames frames' more Host (items.Firmware command) is = absurd is
item_more frames frames' more Host (items.Skip count test) is = is
item_more frames frames' more Firmware item is = is

actor_more : (frames frames' guests guests' : ℕ) → frames ≤ frames' → guests ≤ guests' → (actor : Actor) → IsActor frames guests actor → IsActor frames' guests' actor
actor_more frames frames' guests guests' more_frames more_guests actor is =
    record {
      role = role_more frames frames' guests guests' more_frames more_guests actor.role is.role;
      script = all_weaker (IsLineOf frames actor.role) (IsLineOf frames' actor.role) actor.script (λ line one. record { item = item_more frames frames' more_frames actor.role line.item one.item; retries = one.retries }) is.script;
    }

-- the rows' values keep the bounds
pub record GuestFacts (c : Scenario) (guest : GuestSpec) : Type 0 where
  pub is : IsGuest guest
  pub differs : AllByRecursion (λ (other : GuestSpec). AsidsDiffer other guest) c.guests

-- the bytes of a key
digit_small : (w : List ℕ) (k : ℕ) → list_all is_hex_digit w ≡ true → digit_value (get_or w k 0) < 16
digit_small [] k hex = omega arith
digit_small (b ∷ w) zero hex = one_digit b (and_parts (is_hex_digit b) (list_all is_hex_digit w) hex).0
  where
    one_digit : (b : ℕ) → is_hex_digit b ≡ true → digit_value b < 16
    one_digit b hex = grind (arith, nat_tests, hex)
digit_small (b ∷ w) (suc k) hex = digit_small w k (and_parts (is_hex_digit b) (list_all is_hex_digit w) hex).1

mapped_bytes : (f : ℕ → ℕ) (xs : List ℕ) → ((x : ℕ) → f x < 2 ^ 8) → AreBytes (map f xs)
mapped_bytes f [] small i = omega arith
mapped_bytes f (x ∷ xs) small zero = small x
mapped_bytes f (x ∷ xs) small (suc i) = mapped_bytes f xs small i

key_byte_small : (w : List ℕ) (k : ℕ) → list_all is_hex_digit w ≡ true → key_byte w k < 2 ^ 8
key_byte_small w k hex =
    let high = digit_small w (2 * k) hex in
    let low = digit_small w (2 * k + 1) hex in
    omega arith

key_ok : (w bytes : List ℕ) → key_of w ≡ Ok bytes → AreBytes bytes
unfolding key_of
key_ok w bytes h =
    let test = (length w == 64) && list_all is_hex_digit w in
    let one = guard_ok test (map (key_byte w) (range_with_len 0 32)) bytes _ h in
    let hex = (and_parts (length w == 64) (list_all is_hex_digit w) one.0).1 in
    subst AreBytes one.1 (mapped_bytes (key_byte w) (range_with_len 0 32) (λ k. key_byte_small w k hex))

guest_chain : (c : Scenario) (next : Result ℕ Reason) (opened : Result Bool Reason) (first : Result (Unit {0}) Reason) (asid : Result ℕ Reason) (second : Result (Unit {0}) Reason) (iv : Result ℕ Reason) (third : Result (Unit {0}) Reason) (key : Result (List ℕ) Reason) (guest : GuestSpec)
    → ((n : ℕ) → asid ≡ Ok n → (1 ≤ n) × (n ≤ 1023)) → ((n : ℕ) → iv ≡ Ok n → n < 2 ^ 64) → ((bytes : List ℕ) → key ≡ Ok bytes → AreBytes bytes)
    → (next >> (opened >>= (λ (b : Bool). first >> (asid >>= (λ (n : ℕ). second >> (iv >>= (λ (i : ℕ). third >> (key >>= (λ (k : List ℕ). require (not (list_any (has_asid n) c.guests)) Repeat >> Ok (let g : GuestSpec = record { opened = b; asid = n; iv = i; key = k } in g)))))))))) ≡ Ok guest
    → GuestFacts c guest
guest_chain c (Err e) opened first asid second iv third key guest bounds counter bytes h = absurd (cc)
guest_chain c (Ok n) (Err e) first asid second iv third key guest bounds counter bytes h = absurd (cc)
guest_chain c (Ok n) (Ok b) (Err e) asid second iv third key guest bounds counter bytes h = absurd (cc)
guest_chain c (Ok n) (Ok b) (Ok u) (Err e) second iv third key guest bounds counter bytes h = absurd (cc)
guest_chain c (Ok n) (Ok b) (Ok u) (Ok a) (Err e) iv third key guest bounds counter bytes h = absurd (cc)
guest_chain c (Ok n) (Ok b) (Ok u) (Ok a) (Ok v) (Err e) third key guest bounds counter bytes h = absurd (cc)
guest_chain c (Ok n) (Ok b) (Ok u) (Ok a) (Ok v) (Ok i) (Err e) key guest bounds counter bytes h = absurd (cc)
guest_chain c (Ok n) (Ok b) (Ok u) (Ok a) (Ok v) (Ok i) (Ok w) (Err e) guest bounds counter bytes h = absurd (cc)
guest_chain c (Ok n) (Ok b) (Ok u) (Ok a) (Ok v) (Ok i) (Ok w) (Ok k) guest bounds counter bytes h =
    let made : GuestSpec = record { opened = b; asid = a; iv = i; key = k } in
    let final : Result GuestSpec Reason = Ok made in
    let step = then_ok (require (not (list_any (has_asid a) c.guests)) Repeat) final guest h in
    let same : made ≡ guest = let e = step.2 in cc in
    let none : list_any (has_asid a) c.guests ≡ false = let e = require_ok (not (list_any (has_asid a) c.guests)) Repeat step.0 step.1 in grind (arith, nat_tests, e) in
    let bound = bounds a refl in
    subst (GuestFacts c) same (record {
      is = record { asid_some = omega (arith, bound.0); asid_below = omega (arith, bound.1); iv = counter i refl; key = bytes k refl };
      differs = none_any (has_asid a) (λ (other : GuestSpec). AsidsDiffer other made) c.guests (λ other fails same_asid. absurd (grind (arith, nat_tests, fails, same_asid))) none;
    })

guest_row_ok : (c : Scenario) (ws : List (List ℕ)) (guest : GuestSpec) → guest_row c ws ≡ Ok guest → GuestFacts c guest
unfolding guest_row
guest_row_ok c ws guest h =
    guest_chain c (next_number (length c.guests) (word ws 1)) (opening (word ws 2)) (fixed (word ws 3) (codes "asid")) (ranged 1 1023 (word ws 4)) (fixed (word ws 5) (codes "iv")) (number (word ws 6)) (fixed (word ws 7) (codes "key")) (key_of (word ws 8)) guest
    (λ n is. ranged_ok 1 1023 (word ws 4) n is) (λ n is. number_ok (word ws 6) n is) (λ bytes is. key_ok (word ws 8) bytes is) h

-- an opened guest is declared
opened_declared : (guests : List GuestSpec) (guest : ℕ) → is_opened guests guest ≡ true → (0 < guest) × (guest ≤ length guests)
unfolding is_opened
opened_declared guests guest h =
    let some : 0 < guest = grind (arith, nat_tests, h) in
    (some, opened_within guests (guest - 1) guest (grind (arith, nat_tests, h)) (omega arith))
  where
    opened_within : (guests : List GuestSpec) (k guest : ℕ) → opened_of (slice_get guests k) ≡ true → guest ≡ k + 1 → guest ≤ length guests
    opened_within [] k guest opened is = absurd (cc)
    opened_within (g ∷ gs) zero guest opened is = omega arith
    opened_within (g ∷ gs) (suc k) guest opened is = let rest = opened_within gs k (k + 1) opened refl in omega arith

pub record PageFacts (c : Scenario) (page : PageSpec) : Type 0 where
  pub is : IsPage (frames_of c) (length c.guests) page
  pub frames : AllByRecursion (λ (other : PageSpec). FramesDiffer other page) c.pages
  pub gpns : AllByRecursion (λ (other : PageSpec). GpnsDiffer other page) c.pages

-- the size of 2 MB comes with the unit of 512 frames
size_unit : (w : List ℕ) → size_word w ≡ Ok Large → page_unit w ≡ 512
unfolding size_word
size_unit w h =
    let small : Result PageSize Reason = Ok Small in
    let large : Result PageSize Reason = Ok Large in
    let other : Result PageSize Reason = cond (bytes_eq w (codes "2m")) large (Err Form) in
    select (bytes_eq w (codes "4k")) small other Large (page_unit w ≡ 512)
    (λ four said. absurd (let e : small ≡ large = said in cc))
    (λ rest said. let one = guard_ok (bytes_eq w (codes "2m")) Large Large Form said in ap (λ (two : Bool). cond two 512 1) one.0)
    h

size_ok : (w : List ℕ) (size : PageSize) → size_word w ≡ Ok size → size ≡ Large → page_unit w ≡ 512
size_ok w size h large = size_unit w (h ∙ ap (λ (s : PageSize). Ok s) large)

-- no number is in two ranges that don't overlap
none_in_both : (base count other more : ℕ) → overlap base count other more ≡ false → (number : ℕ) → in_range other more number ≡ true → in_range base count number ≡ true → ⊥
none_in_both base count other more none number first second = grind (arith, nat_tests, none, first, second)

frames_apart : (page other : PageSpec) → collide page other ≡ false → FramesDiffer other page
frames_apart page other fails frame first second =
    let none = or_parts (overlap page.frame (frames_in page.size) other.frame (frames_in other.size)) ((page.guest == other.guest) && overlap page.gpn (frames_in page.size) other.gpn (frames_in other.size)) fails in
    none_in_both page.frame (frames_in page.size) other.frame (frames_in other.size) none.0 frame first second

gpns_apart : (page other : PageSpec) → collide page other ≡ false → GpnsDiffer other page
gpns_apart page other fails guest gpn first second =
    let both = overlap page.gpn (frames_in page.size) other.gpn (frames_in other.size) in
    let none = or_parts (overlap page.frame (frames_in page.size) other.frame (frames_in other.size)) ((page.guest == other.guest) && both) fails in
    let same : (page.guest == other.guest) ≡ true = grind (arith, nat_tests, guest) in
    let apart : both ≡ false = ap (λ (b : Bool). b && both) (sym same) ∙ none.1 in
    none_in_both page.gpn (frames_in page.size) other.gpn (frames_in other.size) apart gpn first second

apart_ok : (pages : List PageSpec) (page made : PageSpec) → apart pages page ≡ Ok made → (list_any (collide page) pages ≡ false) × (page ≡ made)
unfolding apart
apart_ok pages page made h =
    ⊎_elim (λ hit. absurd (let e = hit.1 in cc)) (λ miss. (miss.0, let e = miss.1 in cc)) (chosen (list_any (collide page) pages) _ _ _ h)

page_chain : (c : Scenario) (unit : ℕ) (frame : Result ℕ Reason) (first : Result (Unit {0}) Reason) (guest : Result ℕ Reason) (second : Result (Unit {0}) Reason) (gpn : Result ℕ Reason) (size : Result PageSize Reason) (valid : Result Bool Reason) (x y z : Result ℕ Reason) (page : PageSpec)
    → ((n : ℕ) → frame ≡ Ok n → (n < frames_of c) × (n % unit ≡ 0)) → ((n : ℕ) → gpn ≡ Ok n → (n < 2 ^ 36) × (n % unit ≡ 0)) → ((s : PageSize) → size ≡ Ok s → s ≡ Large → unit ≡ 512)
    → ((n : ℕ) → x ≡ Ok n → n < 16) → ((n : ℕ) → y ≡ Ok n → n < 16) → ((n : ℕ) → z ≡ Ok n → n < 16)
    → (frame >>= (λ (f : ℕ). first >> (guest >>= (λ (g : ℕ). second >> (gpn >>= (λ (n : ℕ). size >>= (λ (s : PageSize). valid >>= (λ (v : Bool). x >>= (λ (i : ℕ). y >>= (λ (j : ℕ). z >>= (λ (k : ℕ). require (is_opened c.guests g) Guest >> apart c.pages (let p : PageSpec = record { frame = f; guest = g; gpn = n; size = s; valid = v; perms = i ∷ j ∷ k ∷ [] } in p)))))))))))) ≡ Ok page
    → PageFacts c page
page_chain c unit (Err e) first guest second gpn size valid x y z page b1 b2 b3 b4 b5 b6 h = absurd (cc)
page_chain c unit (Ok f) (Err e) guest second gpn size valid x y z page b1 b2 b3 b4 b5 b6 h = absurd (cc)
page_chain c unit (Ok f) (Ok u) (Err e) second gpn size valid x y z page b1 b2 b3 b4 b5 b6 h = absurd (cc)
page_chain c unit (Ok f) (Ok u) (Ok g) (Err e) gpn size valid x y z page b1 b2 b3 b4 b5 b6 h = absurd (cc)
page_chain c unit (Ok f) (Ok u) (Ok g) (Ok v) (Err e) size valid x y z page b1 b2 b3 b4 b5 b6 h = absurd (cc)
page_chain c unit (Ok f) (Ok u) (Ok g) (Ok v) (Ok n) (Err e) valid x y z page b1 b2 b3 b4 b5 b6 h = absurd (cc)
page_chain c unit (Ok f) (Ok u) (Ok g) (Ok v) (Ok n) (Ok s) (Err e) x y z page b1 b2 b3 b4 b5 b6 h = absurd (cc)
page_chain c unit (Ok f) (Ok u) (Ok g) (Ok v) (Ok n) (Ok s) (Ok w) (Err e) y z page b1 b2 b3 b4 b5 b6 h = absurd (cc)
page_chain c unit (Ok f) (Ok u) (Ok g) (Ok v) (Ok n) (Ok s) (Ok w) (Ok i) (Err e) z page b1 b2 b3 b4 b5 b6 h = absurd (cc)
page_chain c unit (Ok f) (Ok u) (Ok g) (Ok v) (Ok n) (Ok s) (Ok w) (Ok i) (Ok j) (Err e) page b1 b2 b3 b4 b5 b6 h = absurd (cc)
page_chain c unit (Ok f) (Ok u) (Ok g) (Ok v) (Ok n) (Ok s) (Ok w) (Ok i) (Ok j) (Ok k) page b1 b2 b3 b4 b5 b6 h =
    let made : PageSpec = record { frame = f; guest = g; gpn = n; size = s; valid = w; perms = i ∷ j ∷ k ∷ [] } in
    let step = then_ok (require (is_opened c.guests g) Guest) (apart c.pages made) page h in
    let declared = opened_declared c.guests g (require_ok (is_opened c.guests g) Guest step.0 step.1) in
    let placed = apart_ok c.pages made page step.2 in
    let framed = b1 f refl in
    let numbered = b2 n refl in
    let begins : (k : ℕ) → k % unit ≡ 0 → s ≡ Large → k % 512 ≡ 0 = λ k is large. subst (λ (u : ℕ). k % u ≡ 0) (b3 s refl large) is in
    subst (PageFacts c) placed.1 (record {
      is = record { frame = framed.0; guest_some = declared.0; guest_most = declared.1; gpn = numbered.0; aligned = λ large. (begins f framed.1 large, begins n numbered.1 large); perms_three = refl; perms = (b4 i refl, (b5 j refl, (b6 k refl, tt))) };
      frames = none_any (collide made) (λ (other : PageSpec). FramesDiffer other made) c.pages (frames_apart made) placed.0;
      gpns = none_any (collide made) (λ (other : PageSpec). GpnsDiffer other made) c.pages (gpns_apart made) placed.0;
    })

-- a number and that it is a multiple of a unit, as one step of its own
page_steps : (unit : ℕ) (frame : Result ℕ Reason) (first : Result (Unit {0}) Reason) (guest : Result ℕ Reason) (second : Result (Unit {0}) Reason) (gpn : Result ℕ Reason) (rest : ℕ → ℕ → ℕ → Result PageSpec Reason)
    → ((frame >>= multiple unit) >>= (λ (f : ℕ). first >> (guest >>= (λ (g : ℕ). second >> ((gpn >>= multiple unit) >>= (λ (n : ℕ). rest f g n))))))
    ≡ (frame >>= (λ (k : ℕ). multiple unit k >>= (λ (f : ℕ). first >> (guest >>= (λ (g : ℕ). second >> (gpn >>= (λ (l : ℕ). multiple unit l >>= (λ (n : ℕ). rest f g n))))))))
page_steps unit (Err e) first guest second gpn rest = refl
page_steps unit (Ok f) (Err e) guest second gpn rest = refl
page_steps unit (Ok f) (Ok u) (Err e) second gpn rest = refl
page_steps unit (Ok f) (Ok u) (Ok g) (Err e) gpn rest = refl
page_steps unit (Ok f) (Ok u) (Ok g) (Ok v) (Err e) rest = refl
page_steps unit (Ok f) (Ok u) (Ok g) (Ok v) (Ok n) rest = refl

page_row_ok : (c : Scenario) (ws : List (List ℕ)) (page : PageSpec) → page_row c ws ≡ Ok page → PageFacts c page
unfolding page_row
page_row_ok c ws page h =
    let unit = page_unit (word ws 6) in
    let frame = below (frames_of c) (word ws 1) in
    let of = fixed (word ws 2) (codes "of") in
    let guest = number (word ws 3) in
    let at = fixed (word ws 4) (codes "at") in
    let gpn = below (2 ^ 36) (word ws 5) in
    let size = size_word (word ws 6) in
    let valid = validity (word ws 7) in
    let first = below 16 (word ws 8) in
    let second = below 16 (word ws 9) in
    let third = below 16 (word ws 10) in
    let rest : ℕ → ℕ → ℕ → Result PageSpec Reason = λ f g n. size >>= (λ (s : PageSize). valid >>= (λ (v : Bool). first >>= (λ (i : ℕ). second >>= (λ (j : ℕ). third >>= (λ (k : ℕ). require (is_opened c.guests g) Guest >> apart c.pages (let p : PageSpec = record { frame = f; guest = g; gpn = n; size = s; valid = v; perms = i ∷ j ∷ k ∷ [] } in p)))))) in
    page_chain c unit (frame >>= multiple unit) of guest at (gpn >>= multiple unit) size valid first second third page
    (below_multiple_ok _ unit _) (below_multiple_ok _ unit _) (size_ok _) (below_ok _ _) (below_ok _ _) (below_ok _ _) (page_steps unit frame of guest at gpn rest ∙ h)

word_chain : (c : Scenario) (frame index value : Result ℕ Reason) (made : WordSpec)
    → ((n : ℕ) → frame ≡ Ok n → n < frames_of c) → ((n : ℕ) → index ≡ Ok n → n < 512) → ((n : ℕ) → value ≡ Ok n → n < 2 ^ 64)
    → (frame >>= (λ (f : ℕ). index >>= (λ (i : ℕ). value >>= (λ (v : ℕ). Ok (let w : WordSpec = record { frame = f; index = i; value = v } in w))))) ≡ Ok made
    → IsWord (frames_of c) made
word_chain c (Err e) index value made b1 b2 b3 h = absurd (cc)
word_chain c (Ok f) (Err e) value made b1 b2 b3 h = absurd (cc)
word_chain c (Ok f) (Ok i) (Err e) made b1 b2 b3 h = absurd (cc)
word_chain c (Ok f) (Ok i) (Ok v) made b1 b2 b3 h =
    let word : WordSpec = record { frame = f; index = i; value = v } in
    let same : word ≡ made = cc in
    subst (IsWord (frames_of c)) same (record { frame = b1 f refl; index = b2 i refl; value = b3 v refl })

word_row_ok : (c : Scenario) (ws : List (List ℕ)) (made : WordSpec) → word_row c ws ≡ Ok made → IsWord (frames_of c) made
unfolding word_row
word_row_ok c ws made h = word_chain c (below (frames_of c) (word ws 1)) (below 512 (word ws 2)) (number (word ws 3)) made (below_ok _ _) (below_ok _ _) (number_ok _) h

cpu_chain : (c : Scenario) (next : Result ℕ Reason) (first : Result (Unit {0}) Reason) (guest : Result ℕ Reason) (second : Result (Unit {0}) Reason) (vmpl : Result ℕ Reason) (third : Result (Unit {0}) Reason) (npt : Result ℕ Reason) (fourth : Result (Unit {0}) Reason) (made : Role)
    → ((n : ℕ) → vmpl ≡ Ok n → n < 4) → ((n : ℕ) → npt ≡ Ok n → n < frames_of c)
    → (next >> (first >> (guest >>= (λ (g : ℕ). second >> (vmpl >>= (λ (v : ℕ). third >> (npt >>= (λ (n : ℕ). fourth >> (require (is_declared c.guests g) Guest >> Ok (Cpu g v n Flat)))))))))) ≡ Ok made
    → IsRole (frames_of c) (length c.guests) made
cpu_chain c (Err e) first guest second vmpl third npt fourth made b1 b2 h = absurd (cc)
cpu_chain c (Ok n) (Err e) guest second vmpl third npt fourth made b1 b2 h = absurd (cc)
cpu_chain c (Ok n) (Ok u) (Err e) second vmpl third npt fourth made b1 b2 h = absurd (cc)
cpu_chain c (Ok n) (Ok u) (Ok g) (Err e) vmpl third npt fourth made b1 b2 h = absurd (cc)
cpu_chain c (Ok n) (Ok u) (Ok g) (Ok w) (Err e) third npt fourth made b1 b2 h = absurd (cc)
cpu_chain c (Ok n) (Ok u) (Ok g) (Ok w) (Ok v) (Err e) npt fourth made b1 b2 h = absurd (cc)
cpu_chain c (Ok n) (Ok u) (Ok g) (Ok w) (Ok v) (Ok x) (Err e) fourth made b1 b2 h = absurd (cc)
cpu_chain c (Ok n) (Ok u) (Ok g) (Ok w) (Ok v) (Ok x) (Ok f) (Err e) made b1 b2 h = absurd (cc)
cpu_chain c (Ok n) (Ok u) (Ok g) (Ok w) (Ok v) (Ok x) (Ok f) (Ok y) made b1 b2 h =
    let role : Role = Cpu g v f Flat in
    let final : Result Role Reason = Ok role in
    let step = then_ok (require (is_declared c.guests g) Guest) final made h in
    let same : role ≡ made = let e = step.2 in cc in
    let declared = require_ok (is_declared c.guests g) Guest step.0 step.1 in
    subst (IsRole (frames_of c) (length c.guests)) same
    (let is : IsCpu (frames_of c) (length c.guests) g v f Flat = record { guest_some = grind (arith, nat_tests, declared); guest_most = grind (arith, nat_tests, declared); vmpl_below = b1 v refl; npt_below = b2 f refl; root_below = tt } in is)

cpu_row_ok : (c : Scenario) (ws : List (List ℕ)) (made : Role) → cpu_row c ws ≡ Ok made → IsRole (frames_of c) (length c.guests) made
unfolding cpu_row
cpu_row_ok c ws made h =
    cpu_chain c (next_number (length c.actors) (word ws 1)) (fixed (word ws 2) (codes "cpu")) (number (word ws 3)) (fixed (word ws 4) (codes "vmpl")) (below 4 (word ws 5)) (fixed (word ws 6) (codes "npt")) (below (frames_of c) (word ws 7)) (fixed (word ws 8) (codes "flat")) made
    (below_ok _ _) (below_ok _ _) h

tables_below : (five : Bool) (root : ℕ) → root < 2 ^ 36 → IsPaging (tables_at five root)
tables_below true root h = h
tables_below false root h = h

tables_chain : (c : Scenario) (next : Result ℕ Reason) (first : Result (Unit {0}) Reason) (guest : Result ℕ Reason) (second : Result (Unit {0}) Reason) (vmpl : Result ℕ Reason) (third : Result (Unit {0}) Reason) (npt : Result ℕ Reason) (levels : Result Bool Reason) (root : Result ℕ Reason) (made : Role)
    → ((n : ℕ) → vmpl ≡ Ok n → n < 4) → ((n : ℕ) → npt ≡ Ok n → n < frames_of c) → ((n : ℕ) → root ≡ Ok n → n < 2 ^ 36)
    → (next >> (first >> (guest >>= (λ (g : ℕ). second >> (vmpl >>= (λ (v : ℕ). third >> (npt >>= (λ (n : ℕ). levels >>= (λ (five : Bool). root >>= (λ (r : ℕ). require (is_declared c.guests g) Guest >> Ok (Cpu g v n (tables_at five r)))))))))))) ≡ Ok made
    → IsRole (frames_of c) (length c.guests) made
tables_chain c (Err e) first guest second vmpl third npt levels root made b1 b2 b3 h = absurd (cc)
tables_chain c (Ok n) (Err e) guest second vmpl third npt levels root made b1 b2 b3 h = absurd (cc)
tables_chain c (Ok n) (Ok u) (Err e) second vmpl third npt levels root made b1 b2 b3 h = absurd (cc)
tables_chain c (Ok n) (Ok u) (Ok g) (Err e) vmpl third npt levels root made b1 b2 b3 h = absurd (cc)
tables_chain c (Ok n) (Ok u) (Ok g) (Ok w) (Err e) third npt levels root made b1 b2 b3 h = absurd (cc)
tables_chain c (Ok n) (Ok u) (Ok g) (Ok w) (Ok v) (Err e) npt levels root made b1 b2 b3 h = absurd (cc)
tables_chain c (Ok n) (Ok u) (Ok g) (Ok w) (Ok v) (Ok x) (Err e) levels root made b1 b2 b3 h = absurd (cc)
tables_chain c (Ok n) (Ok u) (Ok g) (Ok w) (Ok v) (Ok x) (Ok f) (Err e) root made b1 b2 b3 h = absurd (cc)
tables_chain c (Ok n) (Ok u) (Ok g) (Ok w) (Ok v) (Ok x) (Ok f) (Ok five) (Err e) made b1 b2 b3 h = absurd (cc)
tables_chain c (Ok n) (Ok u) (Ok g) (Ok w) (Ok v) (Ok x) (Ok f) (Ok five) (Ok r) made b1 b2 b3 h =
    let role : Role = Cpu g v f (tables_at five r) in
    let final : Result Role Reason = Ok role in
    let step = then_ok (require (is_declared c.guests g) Guest) final made h in
    let same : role ≡ made = let e = step.2 in cc in
    let declared = require_ok (is_declared c.guests g) Guest step.0 step.1 in
    subst (IsRole (frames_of c) (length c.guests)) same
    (let is : IsCpu (frames_of c) (length c.guests) g v f (tables_at five r) = record { guest_some = grind (arith, nat_tests, declared); guest_most = grind (arith, nat_tests, declared); vmpl_below = b1 v refl; npt_below = b2 f refl; root_below = tables_below five r (b3 r refl) } in is)

tables_row_ok : (c : Scenario) (ws : List (List ℕ)) (made : Role) → tables_row c ws ≡ Ok made → IsRole (frames_of c) (length c.guests) made
unfolding tables_row
tables_row_ok c ws made h =
    tables_chain c (next_number (length c.actors) (word ws 1)) (fixed (word ws 2) (codes "cpu")) (number (word ws 3)) (fixed (word ws 4) (codes "vmpl")) (below 4 (word ws 5)) (fixed (word ws 6) (codes "npt")) (below (frames_of c) (word ws 7)) (has_five_levels c.version (word ws 8)) (below (2 ^ 36) (word ws 9)) made
    (below_ok _ _) (below_ok _ _) (below_ok _ _) h

role_word_ok : (frames guests : ℕ) (w : List ℕ) (made : Role) → role_word w ≡ Ok made → IsRole frames guests made
unfolding role_word
role_word_ok frames guests w made h =
    let host : Result Role Reason = Ok Host in
    let firmware : Result Role Reason = Ok Firmware in
    select (bytes_eq w (codes "host")) host (cond (bytes_eq w (codes "fw")) firmware (Err Form)) made (IsRole frames guests made)
    (λ _ said. let same : Host ≡ made = cc in subst (IsRole frames guests) same tt)
    (λ _ other. let one = guard_ok (bytes_eq w (codes "fw")) Firmware made Form other in subst (IsRole frames guests) one.1 tt) h

role_row_ok : (c : Scenario) (ws : List (List ℕ)) (made : Role) → role_row c ws ≡ Ok made → IsRole (frames_of c) (length c.guests) made
unfolding role_row
role_row_ok c ws made h =
    let role = then_ok (next_number (length c.actors) (word ws 1)) (role_word (word ws 2)) made h in
    role_word_ok (frames_of c) (length c.guests) (word ws 2) made role.2

-- schedules
turn_from_ok : (actor count : ℕ) (turn : Turn) → turn_from actor count ≡ Ok turn → IsTurn turn
unfolding turn_from
turn_from_ok actor count turn h =
    let made : Turn = record { actor = actor; count = count } in
    let one = guard_ok (nat_lt actor (2 ^ 32) && (nat_le 1 count && nat_le count 262144)) made turn Range h in
    subst IsTurn one.1 (record { actor = grind (arith, nat_tests, one.0); count_some = grind (arith, nat_tests, one.0); count_most = grind (arith, nat_tests, one.0) })

turn_parts_ok : (w : List ℕ) (cut : Option (List ℕ × List ℕ)) (turn : Turn) → turn_parts w cut ≡ Ok turn → IsTurn turn
turn_parts_ok w None turn h =
    let actor = bind_ok (decimal w) (λ (a : ℕ). turn_from a 1) turn h in
    turn_from_ok actor.0 1 turn actor.2
turn_parts_ok w (Some cut) turn h =
    let actor = bind_ok (decimal cut.0) (λ (a : ℕ). decimal cut.1 >>= (λ (n : ℕ). turn_from a n)) turn h in
    let count = bind_ok (decimal cut.1) (λ (n : ℕ). turn_from actor.0 n) turn actor.2 in
    turn_from_ok actor.0 count.0 turn count.2

turn_ok : (w : List ℕ) (turn : Turn) → turn_of w ≡ Ok turn → IsTurn turn
unfolding turn_of
turn_ok w turn h = turn_parts_ok w (cut_at 42 w) turn h

turns_ok : (turns : List Turn) (ws : List (List ℕ)) (all : List Turn) → AllByRecursion IsTurn turns → turns_after turns ws ≡ Ok all → AllByRecursion IsTurn all
unfolding turns_after
turns_ok turns [] all are h = let same : turns ≡ all = cc in subst (AllByRecursion IsTurn) same are
turns_ok turns (w ∷ ws) all are h =
    let turn = bind_ok (turn_of w) (λ (t : Turn). turns_after (turns ++ t ∷ []) ws) all h in
    turns_ok (turns ++ turn.0 ∷ []) ws all (all_push IsTurn turns turn.0 are (turn_ok w turn.0 turn.1)) turn.2

-- each line keeps the bounds
abbrev pub IsMade : Made → Type 0
IsMade nothing = Unit {0}
IsMade (reading c) = IsDraft c
IsMade (closed c) = IsSound c

rule_ok : {A : Type 0} (r : Result A Reason) (x : A) → by_rule r ≡ Ok x → r ≡ Ok x
rule_ok (Ok y) x h = let e : y ≡ x = cc in ap (λ (z : _). Ok z) e
rule_ok (Err e) x h = absurd (cc)

within_ok : (quantity : Quantity) (count : ℕ) (c : Scenario) (next : Made) → within quantity count c ≡ Ok next → (count ≤ most quantity) × (reading c ≡ next)
within_ok quantity count c next h =
    let one = guard_ok (nat_le count (most quantity)) (reading c) next _ h in
    (grind (arith, nat_tests, one.0), one.1)

regions_keep : (c : Scenario) (ws : List (List ℕ)) (next : Made) → IsDraft c → (c.regions == 0) ≡ true → add_regions c ws ≡ Ok next → IsMade next
unfolding add_regions attempts_of
regions_keep c ws next draft none h =
    let row = bind_ok (by_rule (regions_row ws)) (λ (n : ℕ). within quantities.Regions n (record c { regions = n })) next h in
    let fits = within_ok quantities.Regions row.0 (record c { regions = row.0 }) next row.2 in
    let zero_now : c.regions ≡ 0 = grind (arith, nat_tests, none) in
    let more : frames_of c ≤ 512 * row.0 = omega arith in
    let same : length c.guests ≤ length c.guests = omega arith in
    let new : Scenario = record c { regions = row.0 } in
    subst IsMade fits.1 (let kept : IsDraft new = record {
      version_some = draft.version_some;
      version_most = draft.version_most;
      regions_most = fits.0;
      guests_most = draft.guests_most;
      guests = draft.guests;
      asids_differ = draft.asids_differ;
      pages = all_weaker (IsPage (frames_of c) (length c.guests)) (IsPage (512 * row.0) (length c.guests)) c.pages (λ page is. page_more (frames_of c) (512 * row.0) (length c.guests) (length c.guests) more same page is) draft.pages;
      frames_differ = draft.frames_differ;
      gpns_differ = draft.gpns_differ;
      words = all_weaker (IsWord (frames_of c)) (IsWord (512 * row.0)) c.words (λ w is. word_more (frames_of c) (512 * row.0) more w is) draft.words;
      actors_most = draft.actors_most;
      actors = all_weaker (IsActor (frames_of c) (length c.guests)) (IsActor (512 * row.0) (length c.guests)) c.actors (λ actor is. actor_more (frames_of c) (512 * row.0) (length c.guests) (length c.guests) more same actor is) draft.actors;
      attempts_most = draft.attempts_most;
      order = draft.order;
      order_most = draft.order_most;
    } in kept)

guests_keep : (c : Scenario) (ws : List (List ℕ)) (next : Made) → IsDraft c → add_guest c ws ≡ Ok next → IsMade next
unfolding add_guest attempts_of
guests_keep c ws next draft h =
    let row = bind_ok (by_rule (guest_row c ws)) (λ (g : GuestSpec). within quantities.Guests (length c.guests + 1) (record c { guests = c.guests ++ g ∷ [] })) next h in
    let facts = guest_row_ok c ws row.0 (rule_ok (guest_row c ws) row.0 row.1) in
    let new : Scenario = record c { guests = c.guests ++ row.0 ∷ [] } in
    let fits = within_ok quantities.Guests (length c.guests + 1) new next row.2 in
    let longer : length (c.guests ++ row.0 ∷ []) ≡ length c.guests + 1 = length-append c.guests (row.0 ∷ []) in
    let more : length c.guests ≤ length (c.guests ++ row.0 ∷ []) = omega arith in
    let same : frames_of c ≤ frames_of c = omega arith in
    subst IsMade fits.1 (let kept : IsDraft new = record {
      version_some = draft.version_some;
      version_most = draft.version_most;
      regions_most = draft.regions_most;
      guests_most = let most = fits.0 in omega arith;
      guests = all_push IsGuest c.guests row.0 draft.guests facts.is;
      asids_differ = pairs_push AsidsDiffer c.guests row.0 draft.asids_differ facts.differs;
      pages = all_weaker (IsPage (frames_of c) (length c.guests)) (IsPage (frames_of c) (length (c.guests ++ row.0 ∷ []))) c.pages (λ page is. page_more (frames_of c) (frames_of c) (length c.guests) (length (c.guests ++ row.0 ∷ [])) same more page is) draft.pages;
      frames_differ = draft.frames_differ;
      gpns_differ = draft.gpns_differ;
      words = draft.words;
      actors_most = draft.actors_most;
      actors = all_weaker (IsActor (frames_of c) (length c.guests)) (IsActor (frames_of c) (length (c.guests ++ row.0 ∷ []))) c.actors (λ actor is. actor_more (frames_of c) (frames_of c) (length c.guests) (length (c.guests ++ row.0 ∷ [])) same more actor is) draft.actors;
      attempts_most = draft.attempts_most;
      order = draft.order;
      order_most = draft.order_most;
    } in kept)

pages_keep : (c : Scenario) (ws : List (List ℕ)) (next : Made) → IsDraft c → add_page c ws ≡ Ok next → IsMade next
unfolding add_page attempts_of
pages_keep c ws next draft h =
    let row = bind_ok (by_rule (page_row c ws)) (λ (p : PageSpec). let r : Result Made Fault = Ok (reading (record c { pages = c.pages ++ p ∷ [] })) in r) next h in
    let facts = page_row_ok c ws row.0 (rule_ok (page_row c ws) row.0 row.1) in
    let new : Scenario = record c { pages = c.pages ++ row.0 ∷ [] } in
    let same : reading new ≡ next = let e = row.2 in cc in
    subst IsMade same (let kept : IsDraft new = record {
      version_some = draft.version_some;
      version_most = draft.version_most;
      regions_most = draft.regions_most;
      guests_most = draft.guests_most;
      guests = draft.guests;
      asids_differ = draft.asids_differ;
      pages = all_push (IsPage (frames_of c) (length c.guests)) c.pages row.0 draft.pages facts.is;
      frames_differ = pairs_push FramesDiffer c.pages row.0 draft.frames_differ facts.frames;
      gpns_differ = pairs_push GpnsDiffer c.pages row.0 draft.gpns_differ facts.gpns;
      words = draft.words;
      actors_most = draft.actors_most;
      actors = draft.actors;
      attempts_most = draft.attempts_most;
      order = draft.order;
      order_most = draft.order_most;
    } in kept)

words_keep : (c : Scenario) (ws : List (List ℕ)) (next : Made) → IsDraft c → add_word c ws ≡ Ok next → IsMade next
unfolding add_word attempts_of
words_keep c ws next draft h =
    let row = bind_ok (by_rule (word_row c ws)) (λ (w : WordSpec). let r : Result Made Fault = Ok (reading (record c { words = c.words ++ w ∷ [] })) in r) next h in
    let is = word_row_ok c ws row.0 (rule_ok (word_row c ws) row.0 row.1) in
    let new : Scenario = record c { words = c.words ++ row.0 ∷ [] } in
    let same : reading new ≡ next = let e = row.2 in cc in
    subst IsMade same (let kept : IsDraft new = record {
      version_some = draft.version_some;
      version_most = draft.version_most;
      regions_most = draft.regions_most;
      guests_most = draft.guests_most;
      guests = draft.guests;
      asids_differ = draft.asids_differ;
      pages = draft.pages;
      frames_differ = draft.frames_differ;
      gpns_differ = draft.gpns_differ;
      words = all_push (IsWord (frames_of c)) c.words row.0 draft.words is;
      actors_most = draft.actors_most;
      actors = draft.actors;
      attempts_most = draft.attempts_most;
      order = draft.order;
      order_most = draft.order_most;
    } in kept)

-- an actor without items has no attempts
attempts_push : (actors : List Actor) (role : Role) → actors_attempts (actors ++ idle role ∷ []) ≡ actors_attempts actors
unfolding actors_attempts script_attempts
attempts_push [] role = refl
attempts_push (actor ∷ actors) role = ap (λ (n : ℕ). script_attempts actor.script + n) (attempts_push actors role)

actors_keep : (c : Scenario) (row : Result Role Reason) (next : Made) → IsDraft c → ((role : Role) → row ≡ Ok role → IsRole (frames_of c) (length c.guests) role) → add_actor c row ≡ Ok next → IsMade next
unfolding add_actor attempts_of
actors_keep c row next draft are h =
    let made = bind_ok (by_rule row) (λ (r : Role). within quantities.Actors (length c.actors + 1) (record c { actors = c.actors ++ idle r ∷ [] })) next h in
    let row_is = rule_ok row made.0 made.1 in
    let new : Scenario = record c { actors = c.actors ++ idle made.0 ∷ [] } in
    let fits = within_ok quantities.Actors (length c.actors + 1) new next made.2 in
    let longer : length (c.actors ++ idle made.0 ∷ []) ≡ length c.actors + 1 = length-append c.actors (idle made.0 ∷ []) in
    subst IsMade fits.1 (let kept : IsDraft new = record {
      version_some = draft.version_some;
      version_most = draft.version_most;
      regions_most = draft.regions_most;
      guests_most = draft.guests_most;
      guests = draft.guests;
      asids_differ = draft.asids_differ;
      pages = draft.pages;
      frames_differ = draft.frames_differ;
      gpns_differ = draft.gpns_differ;
      words = draft.words;
      actors_most = let most = fits.0 in omega arith;
      actors = all_push (IsActor (frames_of c) (length c.guests)) c.actors (idle made.0) draft.actors (record { role = are made.0 row_is; script = tt });
      attempts_most = subst (λ (n : ℕ). n ≤ most quantities.Attempts) (sym (attempts_push c.actors made.0)) draft.attempts_most;
      order = draft.order;
      order_most = draft.order_most;
    } in kept)

orders_keep : (c : Scenario) (ws : List (List ℕ)) (next : Made) → IsDraft c → add_order c ws ≡ Ok next → IsMade next
unfolding add_order order_row attempts_of
orders_keep c ws next draft h =
    let row = bind_ok (by_rule (order_row ws)) (λ (ts : List Turn). within quantities.Order (turns_count (c.order ++ ts)) (record c { order = c.order ++ ts })) next h in
    let new : Scenario = record c { order = c.order ++ row.0 } in
    let fits = within_ok quantities.Order (turns_count (c.order ++ row.0)) new next row.2 in
    subst IsMade fits.1 (let kept : IsDraft new = record {
      version_some = draft.version_some;
      version_most = draft.version_most;
      regions_most = draft.regions_most;
      guests_most = draft.guests_most;
      guests = draft.guests;
      asids_differ = draft.asids_differ;
      pages = draft.pages;
      frames_differ = draft.frames_differ;
      gpns_differ = draft.gpns_differ;
      words = draft.words;
      actors_most = draft.actors_most;
      actors = draft.actors;
      attempts_most = draft.attempts_most;
      order = all_append IsTurn c.order row.0 draft.order (turns_ok [] (drop 1 ws) row.0 tt (rule_ok (order_row ws) row.0 row.1));
      order_most = fits.0;
    } in kept)

with_line_length : (actors : List Actor) (line : Line) (last : Actor) → slice_get actors (length actors - 1) ≡ Some last → length (with_line actors line last) ≡ length actors
with_line_length [] line last is = absurd (cc)
with_line_length (actor ∷ actors) line last is =
    let more : Actor = record last { script = last.script ++ line ∷ [] } in
    let taken : length (take (length (actor ∷ actors) - 1) (actor ∷ actors)) ≡ length (actor ∷ actors) - 1 = length-take-le (length (actor ∷ actors) - 1) (actor ∷ actors) (omega arith) in
    length-append (take (length (actor ∷ actors) - 1) (actor ∷ actors)) (more ∷ []) ∙ (let e : length (take (length (actor ∷ actors) - 1) (actor ∷ actors)) + 1 ≡ length (actor ∷ actors) = omega arith in e)

items_keep : (c : Scenario) (ws : List (List ℕ)) (last : Option Actor) (next : Made) → slice_get c.actors (length c.actors - 1) ≡ last → IsDraft c → add_item_of c ws last ≡ Ok next → IsMade next
unfolding add_line
items_keep c ws None next is draft h = absurd (cc)
items_keep c ws (Some last) next is draft h =
    let line = bind_ok (by_rule (item_words last.role (frames_of c) ws)) (λ (l : Line). add_line c last l) next h in
    let one = item_ok (frames_of c) last.role ws line.0 (rule_ok (item_words last.role (frames_of c) ws) line.0 line.1) in
    let new : Scenario = record c { actors = with_line c.actors line.0 last } in
    let fits = within_ok quantities.Attempts (attempts_of new) new next line.2 in
    let old = at_end (IsActor (frames_of c) (length c.guests)) c.actors (length c.actors - 1) last draft.actors is in
    let more : Actor = record last { script = last.script ++ line.0 ∷ [] } in
    let same_length = with_line_length c.actors line.0 last is in
    subst IsMade fits.1 (let kept : IsDraft new = record {
      version_some = draft.version_some;
      version_most = draft.version_most;
      regions_most = draft.regions_most;
      guests_most = draft.guests_most;
      guests = draft.guests;
      asids_differ = draft.asids_differ;
      pages = draft.pages;
      frames_differ = draft.frames_differ;
      gpns_differ = draft.gpns_differ;
      words = draft.words;
      actors_most = let most = draft.actors_most in omega arith;
      actors = all_push (IsActor (frames_of c) (length c.guests)) (take (length c.actors - 1) c.actors) more (all_take (IsActor (frames_of c) (length c.guests)) c.actors (length c.actors - 1) draft.actors) (record { role = old.role; script = all_push (IsLineOf (frames_of c) last.role) last.script line.0 old.script one });
      attempts_most = fits.0;
      order = draft.order;
      order_most = draft.order_most;
    } in kept)

-- a whole draft with its regions is sound
turns_length : (turns : List Turn) → length (turns_spell turns) ≡ turns_count turns
unfolding turns_spell turns_count
turns_length [] = refl
turns_length (turn ∷ turns) =
    length-append (replicate turn.count turn.actor) (turns_spell turns) ∙ ap (λ (n : ℕ). n + length (turns_spell turns)) (length-replicate turn.count turn.actor) ∙ ap (λ (n : ℕ). turn.count + n) (turns_length turns)

draft_sound : (c : Scenario) → IsDraft c → 0 < c.regions → IsSound c
unfolding order_of
draft_sound c draft some =
    record {
      regions_some = some;
      version_some = draft.version_some;
      version_most = draft.version_most;
      regions_most = draft.regions_most;
      guests_most = draft.guests_most;
      guests = draft.guests;
      asids_differ = draft.asids_differ;
      pages = draft.pages;
      frames_differ = draft.frames_differ;
      gpns_differ = draft.gpns_differ;
      words = draft.words;
      actors_most = draft.actors_most;
      actors = draft.actors;
      attempts_most = draft.attempts_most;
      order = draft.order;
      order_most = subst (λ (n : ℕ). n ≤ most quantities.Order) (sym (turns_length c.order)) draft.order_most;
    }

item_keeps : (c : Scenario) (ws : List (List ℕ)) (next : Made) → IsDraft c → add_item c ws ≡ Ok next → IsMade next
unfolding add_item
item_keeps c ws next draft h =
    let refused : Result Made Fault = Err (refused Form) in
    select (has_no c.order) (add_item_of c ws (slice_get c.actors (length c.actors - 1))) refused next (IsMade next)
    (λ stands made. items_keep c ws (slice_get c.actors (length c.actors - 1)) next refl draft made) (λ late made. absurd (cc)) h

line_keeps : (c : Scenario) (ws : List (List ℕ)) (next : Made) → IsDraft c → add_words c ws ≡ Ok next → IsMade next
unfolding add_words
line_keeps c ws next draft h =
    let item = add_item c ws in
    let final : Result Made Fault = cond (is_row ws (codes "end") 1 && not (c.regions == 0)) (Ok (closed c)) item in
    let order = cond (is_order_row ws && not (c.regions == 0)) (add_order c ws) final in
    let host = cond (is_row ws (codes "actor") 3 && before_orders c) (add_actor c (role_row c ws)) order in
    let tables = cond (is_row ws (codes "actor") 10 && before_orders c) (add_actor c (tables_row c ws)) host in
    let cpu = cond (is_row ws (codes "actor") 9 && before_orders c) (add_actor c (cpu_row c ws)) tables in
    let words = cond (is_row ws (codes "word") 4 && before_actors c) (add_word c ws) cpu in
    let pages = cond (is_row ws (codes "page") 11 && before_words c) (add_page c ws) words in
    let guests = cond (is_row ws (codes "guest") 9 && before_pages c) (add_guest c ws) pages in
    select (is_row ws (codes "regions") 2 && (c.regions == 0)) (add_regions c ws) guests next (IsMade next)
    (λ fits made. regions_keep c ws next draft (both_second (is_row ws (codes "regions") 2) (c.regions == 0) fits) made)
    (λ no_regions h1. select (is_row ws (codes "guest") 9 && before_pages c) (add_guest c ws) pages next (IsMade next)
    (λ fits made. guests_keep c ws next draft made)
    (λ no_guests h2. select (is_row ws (codes "page") 11 && before_words c) (add_page c ws) words next (IsMade next)
    (λ fits made. pages_keep c ws next draft made)
    (λ no_pages h3. select (is_row ws (codes "word") 4 && before_actors c) (add_word c ws) cpu next (IsMade next)
    (λ fits made. words_keep c ws next draft made)
    (λ no_words h4. select (is_row ws (codes "actor") 9 && before_orders c) (add_actor c (cpu_row c ws)) tables next (IsMade next)
    (λ fits made. actors_keep c (cpu_row c ws) next draft (cpu_row_ok c ws) made)
    (λ no_cpus h5. select (is_row ws (codes "actor") 10 && before_orders c) (add_actor c (tables_row c ws)) host next (IsMade next)
    (λ fits made. actors_keep c (tables_row c ws) next draft (tables_row_ok c ws) made)
    (λ no_tables h9. select (is_row ws (codes "actor") 3 && before_orders c) (add_actor c (role_row c ws)) order next (IsMade next)
    (λ fits made. actors_keep c (role_row c ws) next draft (role_row_ok c ws) made)
    (λ no_hosts h6. select (is_order_row ws && not (c.regions == 0)) (add_order c ws) final next (IsMade next)
    (λ fits made. orders_keep c ws next draft made)
    (λ no_orders h7. select (is_row ws (codes "end") 1 && not (c.regions == 0)) (Ok (closed c)) item next (IsMade next)
    (λ fits made. ended c next draft (both_second (is_row ws (codes "end") 1) (not (c.regions == 0)) fits) made)
    (λ no_end made. item_keeps c ws next draft made) h7) h6) h9) h5) h4) h3) h2) h1) h
  where
    both_second : (a b : Bool) → (a && b) ≡ true → b ≡ true
    both_second true b h = h
    both_second false b h = absurd (cc)

    ended : (c : Scenario) (next : Made) → IsDraft c → not (c.regions == 0) ≡ true → (let r : Result Made Fault = Ok (closed c) in r) ≡ Ok next → IsMade next
    ended c next draft some h = let same : closed c ≡ next = cc in subst IsMade same (draft_sound c draft (grind (arith, nat_tests, some)))

-- a version is 1 or 2
abbrev IsVersion : ℕ → Type 0
IsVersion version = (1 ≤ version) × (version ≤ 2)

version_word_ok : (w : List ℕ) (version : ℕ) → version_of w ≡ Ok version → IsVersion version
unfolding version_of
version_word_ok w version h =
    let two : Result ℕ Reason = if bytes_eq w (codes "2") then Ok 2 else Err Form in
    let is : Result ℕ Reason = Ok 1 in
    select (bytes_eq w (codes "1")) is two version (IsVersion version)
    (λ one said. let same : 1 ≡ version = cc in subst IsVersion same (omega arith, omega arith))
    (λ other said. let same = guard_ok (bytes_eq w (codes "2")) 2 version Form said in subst IsVersion same.1 (omega arith, omega arith)) h

version_row_ok : (ws : List (List ℕ)) (version : ℕ) → version_row ws ≡ Ok version → IsVersion version
unfolding version_row
version_row_ok ws version h =
    let other : Result ℕ Reason = Err Form in
    select (is_row ws (codes "snp") 2) (version_of (word ws 1)) other version (IsVersion version)
    (λ first said. version_word_ok (word ws 1) version said)
    (λ late said. absurd (cc)) h

first_draft : (version : ℕ) → 1 ≤ version → version ≤ 2 → IsDraft (first_scenario version)
unfolding attempts_of actors_attempts turns_count
first_draft version some most = record {
  version_some = some;
  version_most = most;
  regions_most = omega arith;
  guests_most = omega arith;
  guests = tt;
  asids_differ = tt;
  pages = tt;
  frames_differ = tt;
  gpns_differ = tt;
  words = tt;
  actors_most = omega arith;
  actors = tt;
  attempts_most = omega arith;
  order = tt;
  order_most = omega arith;
}

words_fit_keeps : (made : Made) (ws : List (List ℕ)) (next : Made) → IsMade made → fit_words made ws ≡ Ok next → IsMade next
words_fit_keeps nothing ws next is h =
    let step = bind_ok (by_rule (version_row ws)) (λ (version : ℕ). let r : Result Made Fault = Ok (reading (first_scenario version)) in r) next h in
    let same : reading (first_scenario step.0) ≡ next = let e = step.2 in cc in
    let version = version_row_ok ws step.0 (rule_ok (version_row ws) step.0 step.1) in
    subst IsMade same (first_draft step.0 version.0 version.1)
words_fit_keeps (reading c) ws next is h = line_keeps c ws next is h
words_fit_keeps (closed c) ws next is h = absurd (cc)

fit_line_keeps : (made : Made) (line : List ℕ) (next : Made) → IsMade made → fit_line made line ≡ Ok next → IsMade next
unfolding fit_line
fit_line_keeps made line next is h =
    let refused : Result Made Fault = Err (refused Form) in
    let same : Result Made Fault = Ok made in
    select (is_passed_over line) same (cond (is_plain line) (fit_words made (words_of line)) refused) next (IsMade next)
    (λ passed kept. let e : made ≡ next = cc in subst IsMade e is)
    (λ read rest. select (is_plain line) (fit_words made (words_of line)) refused next (IsMade next) (λ plain fits. words_fit_keeps made (words_of line) next is fits) (λ odd fits. absurd (cc)) rest)
    h

fit_keeps : (made : Made) (line : List ℕ) (next : Made) → IsMade made → fit made line ≡ Ok next → IsMade next
unfolding fit
fit_keeps nothing line next is h = fit_line_keeps nothing line next is h
fit_keeps (reading c) line next is h = fit_line_keeps (reading c) line next is h
fit_keeps (closed c) line next is h = absurd (cc)

makes_keep : (made : Made) (lines : List (List ℕ)) (next : Made) → IsMade made → Makes made lines next → IsMade next
unfolding Makes
makes_keep made [] next is makes = subst IsMade makes is
makes_keep made (line ∷ lines) next is makes = makes_keep makes.0 lines next (fit_keeps made line makes.0 is makes.1) makes.2

-- what some lines can make is sound
pub valid_is_sound : (c : Scenario) → Valid c → IsSound c
valid_is_sound c valid = makes_keep nothing valid.0 (closed c) tt valid.1

-- so it has few attempts
pub attempts_few : (c : Scenario) → Valid c → attempts_of c ≤ 8192
attempts_few c valid = (valid_is_sound c valid).attempts_most
