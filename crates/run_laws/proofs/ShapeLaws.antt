-- The shape of an open attempt: how many words its walks read at most, and so that it has fewer than 32 events before its last.
use Rattle.std.proofs.Common.{◌≡◌, ℕ, ◌+◌, ◌-◌, ◌*◌, ◌<◌, ◌≤◌, Bool, true, false, not, ◌&&◌, ◌||◌, nat_lt, List, [], ◌∷◌, ◌++◌, length, Option, Some, None, refl, sym, ap, ◌∙◌, subst, ⊎_elim, arith}
use Rattle.std.proofs.lemmas.Bool.{cond_both, cases_eq}
use Rattle.std.proofs.lemmas.List.{append-nil, append_assoc, length_push}
use Rattle.snp_model.specs.declared.entry.PageSize.{PageSize}
use Rattle.snp_model.specs.declared.entry.PageSize.TheVariants.{Small}
use Rattle.snp_model.specs.declared.event.Deed.{Deed}
use Rattle.snp_model.specs.declared.event.Deed.TheVariants as deeds
use Rattle.snp_model.specs.declared.item.Item.{Item}
use Rattle.snp_model.specs.declared.item.Item.TheVariants as items
use Rattle.snp_model.specs.declared.scenario.Paging.{Paging}
use Rattle.snp_model.specs.declared.scenario.Paging.TheVariants.{Flat, Four, Five}
use Rattle.snp_model.specs.declared.scenario.Role.{Role}
use Rattle.snp_model.specs.declared.scenario.Role.TheVariants.{Cpu, Host, Firmware}
use Rattle.snp_model.specs.declared.walk.GuestPath.{GuestPath}
use Rattle.snp_model.specs.declared.walk.GuestEnd.{GuestEnd}
use Rattle.snp_model.specs.declared.walk.GuestEnd.TheVariants as guest_ends
use Rattle.snp_model.specs.declared.walk.Lookup.{Lookup}
use Rattle.snp_model.specs.declared.walk.Need.TheVariants as needs
use Rattle.snp_model.specs.declared.walk.NestedPath.{NestedPath}
use Rattle.snp_model.specs.declared.walk.NestedEnd.{NestedEnd}
use Rattle.snp_model.specs.declared.walk.NestedEnd.TheVariants as ends
use Rattle.snp_model.specs.GuestWalk.{is_private_leaf, gpn_below, guest_fault, after_guest_word, guest_walk_from, first_guest_read, guest_end}
use Rattle.snp_model.specs.NestedWalk.{after_word, walk_from, walk_fault, frame_below, has_bit, first_read, nested_end}
use Rattle.snp_model.specs.InstructionStep.{page_lookup}
use Rattle.snp_model.specs.State.{PageLock, Standing}
use Rattle.snp_model.specs.Walking.{Processor, lookup_of, counting, guest_words, nested_words_after, nested_words, guest_path, guest_stands, table_path, data_path, table_need, data_need, walk_need}
use Rattle.run_laws.specs.OpenAttempts.{CallsFor, AreCalledFor, IsWalk, IsLockingWalk, IsLocking, IsAttempt}
use Rattle.run_laws.proofs.CommandLaws.{command_few}

-- a walk that reads on has read fewer words than it has levels
record IsNotRead (frame index : ℕ) (stands : NestedEnd) : Type 0 where
  reads_not : stands ≡ ends.Read frame index → ⊥

fault_is_no_read : (path : NestedPath) (present : Bool) (frame index : ℕ) → IsNotRead frame index (walk_fault path present)
fault_is_no_read path present frame index = record { reads_not = λ e. cc }

leaf_is_no_read : (leaf : ℕ) (size : PageSize) (frame index : ℕ) → IsNotRead frame index (ends.Leaf leaf size)
leaf_is_no_read leaf size frame index = record { reads_not = λ e. cc }

last_word : (path : NestedPath) (word frame index : ℕ) → IsNotRead frame index (after_word path 1 word)
unfolding after_word
last_word path word frame index =
    let P = IsNotRead frame index in
    cond_both (not (has_bit word 0x1) || not (nat_lt (frame_below path 1 word) path.frames)) _ _ P (λ _. fault_is_no_read path false frame index)
    (λ _. cond_both (not (has_bit word 0x4)) _ _ P (λ _. fault_is_no_read path true frame index)
    (λ _. cond_both ((path.write || path.table) && not (has_bit word 0x2)) _ _ P (λ _. fault_is_no_read path true frame index)
    (λ _. leaf_is_no_read (frame_below path 1 word) Small frame index)))

-- where a walk that reads on stood before
abbrev IsRead : NestedEnd → Type 0
IsRead stands = (frame : ℕ) × (index : ℕ) × (stands ≡ ends.Read frame index)

stood_at_read : (path : NestedPath) (level : ℕ) (stands : NestedEnd) (words : List ℕ) (frame index : ℕ) → walk_from path level stands words ≡ ends.Read frame index → IsRead stands
unfolding walk_from
stood_at_read path level (ends.Read f i) words frame index e = (f, i, refl)
stood_at_read path level (ends.Leaf f s) words frame index e = cc
stood_at_read path level (ends.Fault c) words frame index e = cc

walk_reads : (path : NestedPath) (words : List ℕ) (level : ℕ) (stands : NestedEnd) (frame index : ℕ) → 0 < level → walk_from path level stands words ≡ ends.Read frame index → length words < level
unfolding walk_from
walk_reads path [] level stands frame index some e = some
walk_reads path (w ∷ ws) level (ends.Leaf f size) frame index some e = absurd ((leaf_is_no_read f size frame index).reads_not e)
walk_reads path (w ∷ ws) level (ends.Fault code) frame index some e = cc
walk_reads path (w ∷ ws) level (ends.Read f i) frame index some e =
    ⊎_elim
    (λ (one : level ≡ 1).
    let stood = stood_at_read path (level - 1) (after_word path level w) ws frame index e in
    absurd ((last_word path w stood.0 stood.1).reads_not (subst (λ (l : ℕ). after_word path l w ≡ ends.Read stood.0 stood.1) one stood.2)))
    (λ (more : level ≡ 1 → ⊥).
    let rest = walk_reads path ws (level - 1) (after_word path level w) frame index (omega arith) e in
    omega arith)
    (cases_eq level 1)

-- so a guest walk
record IsNoGuestRead (gpn index : ℕ) (stands : GuestEnd) : Type 0 where
  reads_not : stands ≡ guest_ends.Read gpn index → ⊥

guest_fault_is_no_read : (path : GuestPath) (present : Bool) (gpn index : ℕ) → IsNoGuestRead gpn index (guest_fault path present)
guest_fault_is_no_read path present gpn index = record { reads_not = λ e. cc }

guest_leaf_is_no_read : (leaf : ℕ) (private : Bool) (size : PageSize) (gpn index : ℕ) → IsNoGuestRead gpn index (guest_ends.Leaf leaf private size)
guest_leaf_is_no_read leaf private size gpn index = record { reads_not = λ e. cc }

last_guest_word : (path : GuestPath) (word gpn index : ℕ) → IsNoGuestRead gpn index (after_guest_word path 1 word)
unfolding after_guest_word
last_guest_word path word gpn index =
    let P = IsNoGuestRead gpn index in
    cond_both (not (has_bit word 0x1)) _ _ P (λ _. guest_fault_is_no_read path false gpn index)
    (λ _. cond_both (path.write && not (has_bit word 0x2)) _ _ P (λ _. guest_fault_is_no_read path true gpn index)
    (λ _. guest_leaf_is_no_read (gpn_below path 1 word) (is_private_leaf word) Small gpn index))

abbrev IsGuestRead : GuestEnd → Type 0
IsGuestRead stands = (gpn : ℕ) × (index : ℕ) × (stands ≡ guest_ends.Read gpn index)

stood_at_guest_read : (path : GuestPath) (level : ℕ) (stands : GuestEnd) (words : List ℕ) (gpn index : ℕ) → guest_walk_from path level stands words ≡ guest_ends.Read gpn index → IsGuestRead stands
unfolding guest_walk_from
stood_at_guest_read path level (guest_ends.Read g i) words gpn index e = (g, i, refl)
stood_at_guest_read path level (guest_ends.Leaf g private s) words gpn index e = cc
stood_at_guest_read path level (guest_ends.Fault c) words gpn index e = cc

guest_walk_reads : (path : GuestPath) (words : List ℕ) (level : ℕ) (stands : GuestEnd) (gpn index : ℕ) → 0 < level → guest_walk_from path level stands words ≡ guest_ends.Read gpn index → length words < level
unfolding guest_walk_from
guest_walk_reads path [] level stands gpn index some e = some
guest_walk_reads path (w ∷ ws) level (guest_ends.Leaf g private size) gpn index some e = absurd ((guest_leaf_is_no_read g private size gpn index).reads_not e)
guest_walk_reads path (w ∷ ws) level (guest_ends.Fault code) gpn index some e = cc
guest_walk_reads path (w ∷ ws) level (guest_ends.Read g i) gpn index some e =
    ⊎_elim
    (λ (one : level ≡ 1).
    let stood = stood_at_guest_read path (level - 1) (after_guest_word path level w) ws gpn index e in
    absurd ((last_guest_word path w stood.0 stood.1).reads_not (subst (λ (l : ℕ). after_guest_word path l w ≡ guest_ends.Read stood.0 stood.1) one stood.2)))
    (λ (more : level ≡ 1 → ⊥).
    let rest = guest_walk_reads path ws (level - 1) (after_guest_word path level w) gpn index (omega arith) e in
    omega arith)
    (cases_eq level 1)

-- an access that needs a word of a nested table has read fewer than four of them
table_reads : (gpn index : ℕ) (stands : NestedEnd) (frame place : ℕ) → table_need gpn index stands ≡ needs.Nested frame place → IsRead stands
table_reads gpn index (ends.Read f i) frame place e = (f, i, refl)
table_reads gpn index (ends.Leaf f s) frame place e = cc
table_reads gpn index (ends.Fault c) frame place e = cc

data_reads : (gpn : ℕ) (private : Bool) (stands : NestedEnd) (frame place : ℕ) → data_need gpn private stands ≡ needs.Nested frame place → IsRead stands
data_reads gpn private (ends.Read f i) frame place e = (f, i, refl)
data_reads gpn private (ends.Leaf f s) frame place e = cc
data_reads gpn private (ends.Fault c) frame place e = cc

nested_few : (frames npt : ℕ) (lookup : Lookup) (stands : GuestEnd) (words : List ℕ) (frame place : ℕ) → walk_need frames npt lookup stands words ≡ needs.Nested frame place → length words < 4
unfolding walk_need
nested_few frames npt lookup (guest_ends.Read gpn index) words frame place e =
    let path = table_path frames npt gpn in
    let read = table_reads gpn index (nested_end path words) frame place e in
    walk_reads path words 4 (first_read path) read.0 read.1 (omega arith) read.2
nested_few frames npt lookup (guest_ends.Leaf gpn private size) words frame place e =
    let path = data_path frames npt gpn private lookup in
    let read = data_reads gpn private (nested_end path words) frame place e in
    walk_reads path words 4 (first_read path) read.0 read.1 (omega arith) read.2
nested_few frames npt lookup (guest_ends.Fault code) words frame place e = cc

-- one that needs a word of a guest table has read fewer of these than it has levels, which are five at most
data_is_no_table : (gpn : ℕ) (private : Bool) (stands : NestedEnd) (g i f : ℕ) (s : PageSize) → data_need gpn private stands ≡ needs.Table g i f s → ⊥
data_is_no_table gpn private (ends.Read frame place) g i f s e = cc
data_is_no_table gpn private (ends.Leaf frame size) g i f s e = cc
data_is_no_table gpn private (ends.Fault code) g i f s e = cc

table_stands : (frames npt : ℕ) (lookup : Lookup) (stands : GuestEnd) (words : List ℕ) (g i f : ℕ) (s : PageSize) → walk_need frames npt lookup stands words ≡ needs.Table g i f s → IsGuestRead stands
unfolding walk_need
table_stands frames npt lookup (guest_ends.Read gpn index) words g i f s e = (gpn, index, refl)
table_stands frames npt lookup (guest_ends.Leaf gpn private size) words g i f s e = absurd (data_is_no_table gpn private _ g i f s e)
table_stands frames npt lookup (guest_ends.Fault code) words g i f s e = cc

counted_read : (c_bit : Bool) (stands : GuestEnd) → IsGuestRead (counting c_bit stands) → IsGuestRead stands
counted_read c_bit (guest_ends.Read gpn index) read = (gpn, index, refl)
counted_read c_bit (guest_ends.Leaf gpn private size) read = absurd ((guest_leaf_is_no_read _ _ _ read.0 read.1).reads_not read.2)
counted_read c_bit (guest_ends.Fault code) read = let e = read.2 in cc

path_few : (path : GuestPath) (c_bit : Bool) (words : List ℕ) → 0 < path.levels → IsGuestRead (counting c_bit (guest_end path words)) → length words < path.levels
path_few path c_bit words some read =
    let at = counted_read c_bit (guest_end path words) read in
    guest_walk_reads path words path.levels (first_guest_read path) at.0 at.1 some at.2

tables_few : (paging : Paging) (lookup : Lookup) (words : List ℕ) → IsGuestRead (guest_stands paging lookup words) → length words < 5
unfolding guest_stands
tables_few Flat lookup words read = absurd ((guest_leaf_is_no_read _ _ _ read.0 read.1).reads_not read.2)
tables_few (Four root) lookup words read = let few = path_few (guest_path (Four root) root lookup) lookup.c_bit words (omega arith) read in omega arith
tables_few (Five root) lookup words read = path_few (guest_path (Five root) root lookup) lookup.c_bit words (omega arith) read

-- the words that deeds have read
pub guest_words_append : (a b : List Deed) → guest_words (a ++ b) ≡ guest_words a ++ guest_words b
unfolding guest_words
guest_words_append [] b = refl
guest_words_append (deeds.Table g i f (Some v) ∷ a) b = ap (λ (ws : List ℕ). v ∷ ws) (guest_words_append a b)
guest_words_append (deeds.Table g i f None ∷ a) b = guest_words_append a b
guest_words_append (deed ∷ a) b = guest_words_append a b

pub nested_words_append : (words : List ℕ) (a b : List Deed) → nested_words_after words (a ++ b) ≡ nested_words_after (nested_words_after words a) b
unfolding nested_words_after
nested_words_append words [] b = refl
nested_words_append words (deeds.Nested f i v ∷ a) b = nested_words_append (words ++ v ∷ []) a b
nested_words_append words (deeds.Table g i f v ∷ a) b = nested_words_append [] a b
nested_words_append words (deed ∷ a) b = nested_words_append words a b

-- a word more of either
pub nested_words_more : (ds : List Deed) (f i v : ℕ) → nested_words (ds ++ deeds.Nested f i v ∷ []) ≡ nested_words ds ++ v ∷ []
unfolding nested_words_after
nested_words_more ds f i v = nested_words_append [] ds (deeds.Nested f i v ∷ [])

pub guest_words_same : (ds : List Deed) (f i v : ℕ) → guest_words (ds ++ deeds.Nested f i v ∷ []) ≡ guest_words ds
unfolding guest_words
guest_words_same ds f i v = guest_words_append ds (deeds.Nested f i v ∷ []) ∙ append-nil (guest_words ds)

pub guest_words_more : (ds : List Deed) (g i f v : ℕ) → guest_words (ds ++ deeds.Table g i f (Some v) ∷ []) ≡ guest_words ds ++ v ∷ []
unfolding guest_words
guest_words_more ds g i f v = guest_words_append ds (deeds.Table g i f (Some v) ∷ [])

pub nested_words_anew : (ds : List Deed) (g i f : ℕ) (v : Option ℕ) → nested_words (ds ++ deeds.Table g i f v ∷ []) ≡ []
unfolding nested_words_after
nested_words_anew ds g i f v = nested_words_append [] ds (deeds.Table g i f v ∷ [])

-- the deeds of an open attempt: it begins, reads at most four words of nested tables and then one of a guest table for each of at most five levels, and then at most four of nested tables
record IsShaped (deeds : List Deed) : Type 0 where
  walked : length deeds ≤ 1 + 5 * length (guest_words deeds) + length (nested_words deeds)
  few_tables : length (guest_words deeds) ≤ 5
  few : length (nested_words deeds) ≤ 4

shaped_more : (ds : List Deed) (f i v : ℕ) → IsShaped ds → length (nested_words ds) < 4 → IsShaped (ds ++ deeds.Nested f i v ∷ [])
shaped_more ds f i v short few =
    let nested = ap length (nested_words_more ds f i v) ∙ length_push (nested_words ds) v in
    let tables = ap length (guest_words_same ds f i v) in
    let made = length_push ds (deeds.Nested f i v) in
    let walked = short.walked in
    let few_tables = short.few_tables in
    record { walked = omega arith; few_tables = omega arith; few = omega arith }

shaped_table : (ds : List Deed) (g i f v : ℕ) → IsShaped ds → length (guest_words ds) < 5 → IsShaped (ds ++ deeds.Table g i f (Some v) ∷ [])
shaped_table ds g i f v short more =
    let nested = ap length (nested_words_anew ds g i f (Some v)) in
    let tables = ap length (guest_words_more ds g i f v) ∙ length_push (guest_words ds) v in
    let made = length_push ds (deeds.Table g i f (Some v)) in
    let walked = short.walked in
    let few = short.few in
    record { walked = omega arith; few_tables = omega arith; few = omega arith }

shaped_begun : IsShaped (deeds.Begin ∷ [])
unfolding guest_words nested_words_after
shaped_begun = record { walked = omega arith; few_tables = omega arith; few = omega arith }

shaped_none : IsShaped []
unfolding guest_words nested_words_after
shaped_none = record { walked = omega arith; few_tables = omega arith; few = omega arith }

-- one more deed that the walks call for
shaped_call : (frames : ℕ) (cpu : Processor) (lookup : Lookup) (made : List Deed) (deed : Deed) → IsShaped made → CallsFor frames cpu lookup made deed → IsShaped (made ++ deed ∷ [])
shaped_call frames cpu lookup made (deeds.Nested frame index value) shaped calls =
    shaped_more made frame index value shaped (nested_few frames cpu.npt lookup (guest_stands cpu.paging lookup (guest_words made)) (nested_words made) frame index calls)
shaped_call frames cpu lookup made (deeds.Table gpn index frame (Some value)) shaped calls =
    let read = table_stands frames cpu.npt lookup (guest_stands cpu.paging lookup (guest_words made)) (nested_words made) gpn index frame calls.0 calls.1 in
    shaped_table made gpn index frame value shaped (tables_few cpu.paging lookup (guest_words made) read)
shaped_call frames cpu lookup made deed shaped calls = absurd calls

shaped_calls : (frames : ℕ) (cpu : Processor) (lookup : Lookup) (made others : List Deed) → IsShaped made → AreCalledFor frames cpu lookup made others → IsShaped (made ++ others)
unfolding AreCalledFor
shaped_calls frames cpu lookup made [] shaped called = subst IsShaped (sym (append-nil made)) shaped
shaped_calls frames cpu lookup made (deed ∷ others) shaped called =
    subst IsShaped (append_assoc made (deed ∷ []) others) (shaped_calls frames cpu lookup (made ++ deed ∷ []) others (shaped_call frames cpu lookup made deed shaped called.0) called.1)

shaped_walk : (frames : ℕ) (cpu : Processor) (lookup : Lookup) (made : List Deed) → IsWalk frames cpu lookup made → IsShaped made
unfolding IsWalk
shaped_walk frames cpu lookup [] is = shaped_none
shaped_walk frames cpu lookup (deeds.Begin ∷ others) is = shaped_calls frames cpu lookup (deeds.Begin ∷ []) others shaped_begun is.1
shaped_walk frames cpu lookup (deed ∷ others) is = absurd is

-- so a walk has at most 30 deeds
walk_few : (frames : ℕ) (cpu : Processor) (lookup : Lookup) (made : List Deed) → IsWalk frames cpu lookup made → length made ≤ 30
walk_few frames cpu lookup made is =
    let shaped = shaped_walk frames cpu lookup made is in
    let walked = shaped.walked in
    let few_tables = shaped.few_tables in
    let few = shaped.few in
    omega arith

-- and one more with its lock
locking_few : (frames : ℕ) (cpu : Processor) (lookup : Lookup) (locks : List PageLock) (made : List Deed) → IsLockingWalk frames cpu lookup locks made → length made < 32
locking_few frames cpu lookup [] made is = let few = walk_few frames cpu lookup made is in omega arith
locking_few frames cpu lookup (lock ∷ others) made is =
    let walked = walk_few frames cpu lookup is.0.walked is.0.walk in
    let more = ap length is.0.then_locked ∙ length_push is.0.walked (deeds.Lock lock.frame) in
    omega arith

-- an attempt that has made nothing, or has taken its lock alone
none_few : (made : List Deed) → made ≡ [] → length made < 32
none_few made none = let count = ap length none in omega arith

lock_few : (locks : List PageLock) (made : List Deed) → IsLocking locks made → length made < 32
lock_few [] made is = none_few made is
lock_few (lock ∷ others) made is = let count = ap length is.0 in omega arith

-- so an open attempt has fewer deeds than an array of 32 holds
pub attempt_short : (frames : ℕ) (role : Role) (item : Item) (standing : Standing) (made : List Deed) → IsAttempt frames role item standing made → length made < 32
unfolding IsAttempt
attempt_short frames (Cpu guest vmpl npt paging) (items.Access address op) standing made is =
    let few = walk_few frames (record { guest = guest; vmpl = vmpl; npt = npt; paging = paging }) (lookup_of address op) made is in omega arith
attempt_short frames (Cpu guest vmpl npt paging) (items.Pvalidate address size validate) standing made is = locking_few frames (record { guest = guest; vmpl = vmpl; npt = npt; paging = paging }) (page_lookup address) standing.locks made is.walk
attempt_short frames (Cpu guest vmpl npt paging) (items.Rmpadjust address size target mask vmsa) standing made is = locking_few frames (record { guest = guest; vmpl = vmpl; npt = npt; paging = paging }) (page_lookup address) standing.locks made is.walk
attempt_short frames (Cpu guest vmpl npt paging) (items.Rmpupdate update) standing made is = none_few made is
attempt_short frames (Cpu guest vmpl npt paging) (items.Psmash frame) standing made is = none_few made is
attempt_short frames (Cpu guest vmpl npt paging) (items.Firmware command) standing made is = none_few made is
attempt_short frames (Cpu guest vmpl npt paging) (items.Skip count test) standing made is = none_few made is
attempt_short frames Host (items.Access address op) standing made is = none_few made is
attempt_short frames Host (items.Pvalidate address size validate) standing made is = none_few made is
attempt_short frames Host (items.Rmpadjust address size target mask vmsa) standing made is = none_few made is
attempt_short frames Host (items.Rmpupdate update) standing made is = lock_few standing.locks made is
attempt_short frames Host (items.Psmash frame) standing made is = lock_few standing.locks made is
attempt_short frames Host (items.Firmware command) standing made is = none_few made is
attempt_short frames Host (items.Skip count test) standing made is = none_few made is
attempt_short frames Firmware (items.Access address op) standing made is = none_few made is
attempt_short frames Firmware (items.Pvalidate address size validate) standing made is = none_few made is
attempt_short frames Firmware (items.Rmpadjust address size target mask vmsa) standing made is = none_few made is
attempt_short frames Firmware (items.Rmpupdate update) standing made is = none_few made is
attempt_short frames Firmware (items.Psmash frame) standing made is = none_few made is
attempt_short frames Firmware (items.Firmware command) standing made is = let few = command_few frames command standing made is in omega arith
attempt_short frames Firmware (items.Skip count test) standing made is = none_few made is
