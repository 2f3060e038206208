-- An item that a line can make is one that its actor's role may have: each row of items keeps the bounds.
use Rattle.std.proofs.Common.{◌≡◌, ℕ, ◌+◌, ◌*◌, ◌%◌, ◌^◌, ◌<◌, Bool, cond, List, [], ◌∷◌, Result, Ok, Err, refl, ap, ◌∙◌, subst, arith}
use Rattle.std.specs.Prelude.{codes, length, ◌==◌}
use Rattle.snp_model.specs.declared.entry.PageSize.{PageSize}
use Rattle.snp_model.specs.declared.reading.Reason.{Reason}
use Rattle.snp_model.specs.declared.reading.Reason.TheVariants.{Form}
use Rattle.snp_model.specs.declared.command.Command.{Command}
use Rattle.snp_model.specs.declared.command.Command.TheVariants as commands
use Rattle.snp_model.specs.declared.item.Item.{Item}
use Rattle.snp_model.specs.declared.item.Item.TheVariants as items
use Rattle.snp_model.specs.declared.item.Item.TheVariants.{Access, Psmash, Pvalidate, Rmpadjust, Rmpupdate, Skip}
use Rattle.snp_model.specs.declared.item.Line.{Line}
use Rattle.snp_model.specs.declared.item.Op.{Op}
use Rattle.snp_model.specs.declared.item.Op.TheVariants.{Load, Store, Swap, Compare, Xor}
use Rattle.snp_model.specs.declared.item.SkipTest.{SkipTest}
use Rattle.snp_model.specs.declared.item.SkipTest.TheVariants.{Value}
use Rattle.snp_model.specs.declared.item.Update.{Update}
use Rattle.snp_model.specs.declared.scenario.Paging.{Paging}
use Rattle.snp_model.specs.declared.scenario.Role.{Role}
use Rattle.snp_model.specs.declared.scenario.Role.TheVariants.{Cpu, Host, Firmware}
use Rattle.snp_model.specs.Bounds.{AreOperationWords, IsCpuItem, IsFirmwareCommand, IsGuestNumber, IsSkip, IsUpdate, IsItemOf, IsLineOf}
use Rattle.snp_model.specs.ItemLines.{once, address_word, load_row, store_row, swap_row, cas_row, xor_row, skip_test, skip_row, skip_value_row, skip_item, access_item, size_word, flag_word, is_retry_row, retries_word, update_operands, update_row, smash_row, validate_row, adjust_operands, adjust_row, cpu_item, host_item, guest_word, create_operands, activate_operands, start_operands, launch_operands, finish_operands, init_operands, move_operands, swap_out_operands, swap_in_operands, reclaim_operands, metadata_out_operands, metadata_in_operands, root_out_operands, root_in_operands, command_row, sealing_item, firmware_item, item_words}
use Rattle.snp_model.specs.Lines.{◌>>=◌, ◌>>◌, below, fixed, is_row, multiple, number, ranged, word}
use Rattle.snp_model.proofs.LineLaws.{below_multiple_ok, below_ok, bind_ok, multiple_ok, number_ok, ranged_ok, select, then_ok}
use Rattle.snp_model.proofs.SealingSoundLaws.{swap_out_ok, swap_in_ok, metadata_out_ok, metadata_in_ok, root_out_ok, root_in_ok}

err_not_ok : (reason : Reason) (line : Line) → Err reason ≡ Ok line → ⊥
err_not_ok reason line h = cc

-- an address is one that the actor's role may have, whatever the operation
address_ok : (frames : ℕ) (role : Role) (w : List ℕ) (a : ℕ) → address_word role frames w ≡ Ok a → (op : Op) → AreOperationWords op → IsItemOf frames role (Access a op)
unfolding address_word
address_ok frames (Cpu guest vmpl npt paging) w a h op words =
    let place = bind_ok (number w) (multiple 8) a h in
    let aligned = multiple_ok 8 place.0 a place.2 in
    (ap (λ (n : ℕ). n % 8) aligned.0 ∙ aligned.1, words)
address_ok frames Host w a h op words = let both = below_multiple_ok (4096 * frames) 8 w a h in (both.0, both.1, words)
address_ok frames Firmware w a h op words = absurd (cc)

access_ok : (frames : ℕ) (role : Role) (w : List ℕ) (a : ℕ) (op : Op) (line : Line) → address_word role frames w ≡ Ok a → AreOperationWords op → once (Access a op) ≡ line → IsLineOf frames role line
access_ok frames role w a op line h words same = subst (IsLineOf frames role) same (record { item = address_ok frames role w a h op words; retries = omega arith })

load_ok : (frames : ℕ) (role : Role) (ws : List (List ℕ)) (line : Line) → load_row role frames ws ≡ Ok line → IsLineOf frames role line
unfolding load_row
load_ok frames role ws line h =
    let address = bind_ok (address_word role frames (word ws 1)) (λ (a : ℕ). Ok (once (Access a Load))) line h in
    access_ok frames role (word ws 1) address.0 Load line address.1 tt (let e = address.2 in cc)

store_ok : (frames : ℕ) (role : Role) (ws : List (List ℕ)) (line : Line) → store_row role frames ws ≡ Ok line → IsLineOf frames role line
unfolding store_row
store_ok frames role ws line h =
    let address = bind_ok (address_word role frames (word ws 1)) (λ (a : ℕ). number (word ws 2) >>= (λ (v : ℕ). Ok (once (Access a (Store v))))) line h in
    let value = bind_ok (number (word ws 2)) (λ (v : ℕ). Ok (once (Access address.0 (Store v)))) line address.2 in
    access_ok frames role (word ws 1) address.0 (Store value.0) line address.1 (number_ok (word ws 2) value.0 value.1) (let e = value.2 in cc)

swap_ok : (frames : ℕ) (role : Role) (ws : List (List ℕ)) (line : Line) → swap_row role frames ws ≡ Ok line → IsLineOf frames role line
unfolding swap_row
swap_ok frames role ws line h =
    let address = bind_ok (address_word role frames (word ws 1)) (λ (a : ℕ). number (word ws 2) >>= (λ (v : ℕ). Ok (once (Access a (Swap v))))) line h in
    let value = bind_ok (number (word ws 2)) (λ (v : ℕ). Ok (once (Access address.0 (Swap v)))) line address.2 in
    access_ok frames role (word ws 1) address.0 (Swap value.0) line address.1 (number_ok (word ws 2) value.0 value.1) (let e = value.2 in cc)

cas_ok : (frames : ℕ) (role : Role) (ws : List (List ℕ)) (line : Line) → cas_row role frames ws ≡ Ok line → IsLineOf frames role line
unfolding cas_row
cas_ok frames role ws line h =
    let address = bind_ok (address_word role frames (word ws 1)) (λ (a : ℕ). number (word ws 2) >>= (λ (old : ℕ). number (word ws 3) >>= (λ (new : ℕ). Ok (once (Access a (Compare old new)))))) line h in
    let expected = bind_ok (number (word ws 2)) (λ (old : ℕ). number (word ws 3) >>= (λ (new : ℕ). Ok (once (Access address.0 (Compare old new))))) line address.2 in
    let next = bind_ok (number (word ws 3)) (λ (new : ℕ). Ok (once (Access address.0 (Compare expected.0 new)))) line expected.2 in
    access_ok frames role (word ws 1) address.0 (Compare expected.0 next.0) line address.1 (number_ok (word ws 2) expected.0 expected.1, number_ok (word ws 3) next.0 next.1) (let e = next.2 in cc)

xor_ok : (frames : ℕ) (role : Role) (ws : List (List ℕ)) (line : Line) → xor_row role frames ws ≡ Ok line → IsLineOf frames role line
unfolding xor_row
xor_ok frames role ws line h =
    let address = bind_ok (address_word role frames (word ws 1)) (λ (a : ℕ). number (word ws 2) >>= (λ (v : ℕ). Ok (once (Access a (Xor v))))) line h in
    let value = bind_ok (number (word ws 2)) (λ (v : ℕ). Ok (once (Access address.0 (Xor v)))) line address.2 in
    access_ok frames role (word ws 1) address.0 (Xor value.0) line address.1 (number_ok (word ws 2) value.0 value.1) (let e = value.2 in cc)

-- every role may have a skip
skip_of : (frames : ℕ) (role : Role) (count : ℕ) (test : SkipTest) → IsSkip count → IsItemOf frames role (Skip count test)
skip_of frames (Cpu guest vmpl npt paging) count test is = is
skip_of frames Host count test is = is
skip_of frames Firmware count test is = is

skipped_ok : (frames : ℕ) (role : Role) (w : List ℕ) (count : ℕ) (test : SkipTest) (line : Line) → ranged 1 8192 w ≡ Ok count → once (Skip count test) ≡ line → IsLineOf frames role line
skipped_ok frames role w count test line h same = subst (IsLineOf frames role) same (record { item = skip_of frames role count test (ranged_ok 1 8192 w count h); retries = omega arith })

skip_ok : (frames : ℕ) (role : Role) (ws : List (List ℕ)) (line : Line) → skip_row ws ≡ Ok line → IsLineOf frames role line
unfolding skip_row
skip_ok frames role ws line h =
    let count = bind_ok (ranged 1 8192 (word ws 1)) (λ (n : ℕ). fixed (word ws 2) (codes "if") >> (skip_test (word ws 3) >>= (λ (t : SkipTest). Ok (once (Skip n t))))) line h in
    let is_if = then_ok (fixed (word ws 2) (codes "if")) (skip_test (word ws 3) >>= (λ (t : SkipTest). Ok (once (Skip count.0 t)))) line count.2 in
    let test = bind_ok (skip_test (word ws 3)) (λ (t : SkipTest). Ok (once (Skip count.0 t))) line is_if.2 in
    skipped_ok frames role (word ws 1) count.0 test.0 line count.1 (let e = test.2 in cc)

skip_value_ok : (frames : ℕ) (role : Role) (ws : List (List ℕ)) (line : Line) → skip_value_row ws ≡ Ok line → IsLineOf frames role line
unfolding skip_value_row
skip_value_ok frames role ws line h =
    let count = bind_ok (ranged 1 8192 (word ws 1)) (λ (n : ℕ). fixed (word ws 2) (codes "if") >> (fixed (word ws 3) (codes "value") >> (number (word ws 4) >>= (λ (v : ℕ). Ok (once (Skip n (Value v))))))) line h in
    let is_if = then_ok (fixed (word ws 2) (codes "if")) (fixed (word ws 3) (codes "value") >> (number (word ws 4) >>= (λ (v : ℕ). Ok (once (Skip count.0 (Value v)))))) line count.2 in
    let is_value = then_ok (fixed (word ws 3) (codes "value")) (number (word ws 4) >>= (λ (v : ℕ). Ok (once (Skip count.0 (Value v))))) line is_if.2 in
    let value = bind_ok (number (word ws 4)) (λ (v : ℕ). Ok (once (Skip count.0 (Value v)))) line is_value.2 in
    skipped_ok frames role (word ws 1) count.0 (Value value.0) line count.1 (let e = value.2 in cc)

skip_item_ok : (frames : ℕ) (role : Role) (ws : List (List ℕ)) (line : Line) → skip_item ws ≡ Ok line → IsLineOf frames role line
unfolding skip_item
skip_item_ok frames role ws line h =
    let refused : Result Line Reason = Err Form in
    let P = IsLineOf frames role line in
    select (is_row ws (codes "skip") 4) (skip_row ws) (cond (is_row ws (codes "skip") 5) (skip_value_row ws) refused) line P
    (λ fits made. skip_ok frames role ws line made)
    (λ fails other. select (is_row ws (codes "skip") 5) (skip_value_row ws) refused line P
    (λ fits made. skip_value_ok frames role ws line made)
    (λ none made. absurd (err_not_ok Form line made)) other)
    h

access_item_ok : (frames : ℕ) (role : Role) (ws : List (List ℕ)) (line : Line) → access_item role frames ws ≡ Ok line → IsLineOf frames role line
unfolding access_item
access_item_ok frames role ws line h =
    let P = IsLineOf frames role line in
    let xor : Result Line Reason = cond (is_row ws (codes "xor") 3) (xor_row role frames ws) (skip_item ws) in
    let cas : Result Line Reason = cond (is_row ws (codes "cas") 4) (cas_row role frames ws) xor in
    let swap : Result Line Reason = cond (is_row ws (codes "swap") 3) (swap_row role frames ws) cas in
    let store : Result Line Reason = cond (is_row ws (codes "store") 3) (store_row role frames ws) swap in
    select (is_row ws (codes "load") 2) (load_row role frames ws) store line P (λ _ made. load_ok frames role ws line made)
    (λ _ h1. select (is_row ws (codes "store") 3) (store_row role frames ws) swap line P (λ _ made. store_ok frames role ws line made)
    (λ _ h2. select (is_row ws (codes "swap") 3) (swap_row role frames ws) cas line P (λ _ made. swap_ok frames role ws line made)
    (λ _ h3. select (is_row ws (codes "cas") 4) (cas_row role frames ws) xor line P (λ _ made. cas_ok frames role ws line made)
    (λ _ h4. select (is_row ws (codes "xor") 3) (xor_row role frames ws) (skip_item ws) line P (λ _ made. xor_ok frames role ws line made)
    (λ _ h5. skip_item_ok frames role ws line h5) h4) h3) h2) h1) h

-- an item is tried again at most 255 times
retries_ok : (ws : List (List ℕ)) (count retries : ℕ) → retries_word ws count ≡ Ok retries → retries < 256
unfolding retries_word
retries_ok ws count retries h =
    let never : Result ℕ Reason = Ok 0 in
    let times : Result ℕ Reason = ranged 1 255 (word ws (count + 1)) in
    select (length ws == count) never (fixed (word ws count) (codes "retry") >> times) retries (retries < 256)
    (λ ends said. let same : 0 ≡ retries = cc in subst (λ (n : ℕ). n < 256) same (omega arith))
    (λ longer said.
    let named = then_ok (fixed (word ws count) (codes "retry")) times retries said in
    let most = ranged_ok 1 255 (word ws (count + 1)) retries named.2 in
    omega (arith, most.1))
    h

operands_chain : (frame : Result ℕ Reason) (size : Result PageSize Reason) (assigned : Result Bool Reason) (asid gpn : Result ℕ Reason) (immutable : Result Bool Reason) (update : Update)
    → ((n : ℕ) → asid ≡ Ok n → n < 1024) → ((n : ℕ) → gpn ≡ Ok n → n < 2 ^ 36)
    → (frame >>= (λ (f : ℕ). size >>= (λ (s : PageSize). assigned >>= (λ (b : Bool). asid >>= (λ (a : ℕ). gpn >>= (λ (n : ℕ). immutable >>= (λ (i : Bool). Ok (let u : Update = record { frame = f; size = s; assigned = b; asid = a; gpn = n; immutable = i } in u)))))))) ≡ Ok update
    → IsUpdate update
operands_chain (Err e) size assigned asid gpn immutable update b1 b2 h = absurd (cc)
operands_chain (Ok f) (Err e) assigned asid gpn immutable update b1 b2 h = absurd (cc)
operands_chain (Ok f) (Ok s) (Err e) asid gpn immutable update b1 b2 h = absurd (cc)
operands_chain (Ok f) (Ok s) (Ok b) (Err e) gpn immutable update b1 b2 h = absurd (cc)
operands_chain (Ok f) (Ok s) (Ok b) (Ok a) (Err e) immutable update b1 b2 h = absurd (cc)
operands_chain (Ok f) (Ok s) (Ok b) (Ok a) (Ok n) (Err e) update b1 b2 h = absurd (cc)
operands_chain (Ok f) (Ok s) (Ok b) (Ok a) (Ok n) (Ok i) update b1 b2 h =
    let made : Update = record { frame = f; size = s; assigned = b; asid = a; gpn = n; immutable = i } in
    let same : made ≡ update = cc in
    subst IsUpdate same (b1 a refl, b2 n refl)

update_operands_ok : (ws : List (List ℕ)) (update : Update) → update_operands ws ≡ Ok update → IsUpdate update
unfolding update_operands
update_operands_ok ws update h =
    operands_chain (number (word ws 1)) (size_word (word ws 2)) (flag_word (word ws 3)) (below 1024 (word ws 4)) (below (2 ^ 36) (word ws 5)) (flag_word (word ws 6)) update (below_ok _ _) (below_ok _ _) h

update_row_ok : (frames : ℕ) (ws : List (List ℕ)) (line : Line) → update_row ws ≡ Ok line → IsLineOf frames Host line
unfolding update_row
update_row_ok frames ws line h =
    let update = bind_ok (update_operands ws) (λ (u : Update). retries_word ws 7 >>= (λ (n : ℕ). Ok (let l : Line = record { item = Rmpupdate u; retries = n } in l))) line h in
    let retries = bind_ok (retries_word ws 7) (λ (n : ℕ). Ok (let l : Line = record { item = Rmpupdate update.0; retries = n } in l)) line update.2 in
    let made : Line = record { item = Rmpupdate update.0; retries = retries.0 } in
    let same : made ≡ line = let e = retries.2 in cc in
    subst (IsLineOf frames Host) same (record { item = update_operands_ok ws update.0 update.1; retries = retries_ok ws 7 retries.0 retries.1 })

smash_row_ok : (frames : ℕ) (ws : List (List ℕ)) (line : Line) → smash_row ws ≡ Ok line → IsLineOf frames Host line
unfolding smash_row
smash_row_ok frames ws line h =
    let frame = bind_ok (number (word ws 1)) (λ (f : ℕ). retries_word ws 2 >>= (λ (n : ℕ). Ok (let l : Line = record { item = Psmash f; retries = n } in l))) line h in
    let retries = bind_ok (retries_word ws 2) (λ (n : ℕ). Ok (let l : Line = record { item = Psmash frame.0; retries = n } in l)) line frame.2 in
    let made : Line = record { item = Psmash frame.0; retries = retries.0 } in
    let same : made ≡ line = let e = retries.2 in cc in
    subst (IsLineOf frames Host) same (record { item = tt; retries = retries_ok ws 2 retries.0 retries.1 })

host_item_ok : (frames : ℕ) (ws : List (List ℕ)) (line : Line) → host_item frames ws ≡ Ok line → IsLineOf frames Host line
unfolding host_item
host_item_ok frames ws line h =
    let P = IsLineOf frames Host line in
    let smash : Result Line Reason = cond (is_retry_row ws (codes "psmash") 2) (smash_row ws) (access_item Host frames ws) in
    select (is_retry_row ws (codes "rmpupdate") 7) (update_row ws) smash line P (λ _ made. update_row_ok frames ws line made)
    (λ _ h1. select (is_retry_row ws (codes "psmash") 2) (smash_row ws) (access_item Host frames ws) line P (λ _ made. smash_row_ok frames ws line made)
    (λ _ h2. access_item_ok frames Host ws line h2) h1) h

validate_chain : (frames guest vmpl npt : ℕ) (paging : Paging) (address : Result ℕ Reason) (size : Result PageSize Reason) (validate : Result Bool Reason) (retries : Result ℕ Reason) (line : Line)
    → ((n : ℕ) → retries ≡ Ok n → n < 256)
    → (address >>= (λ (a : ℕ). size >>= (λ (s : PageSize). validate >>= (λ (b : Bool). retries >>= (λ (n : ℕ). Ok (let l : Line = record { item = Pvalidate a s b; retries = n } in l)))))) ≡ Ok line
    → IsLineOf frames (Cpu guest vmpl npt paging) line
validate_chain frames guest vmpl npt paging (Err e) size validate retries line few h = absurd (cc)
validate_chain frames guest vmpl npt paging (Ok a) (Err e) validate retries line few h = absurd (cc)
validate_chain frames guest vmpl npt paging (Ok a) (Ok s) (Err e) retries line few h = absurd (cc)
validate_chain frames guest vmpl npt paging (Ok a) (Ok s) (Ok b) (Err e) line few h = absurd (cc)
validate_chain frames guest vmpl npt paging (Ok a) (Ok s) (Ok b) (Ok n) line few h =
    let made : Line = record { item = Pvalidate a s b; retries = n } in
    let same : made ≡ line = cc in
    subst (IsLineOf frames (Cpu guest vmpl npt paging)) same (record { item = tt; retries = few n refl })

validate_row_ok : (frames guest vmpl npt : ℕ) (paging : Paging) (ws : List (List ℕ)) (line : Line) → validate_row ws ≡ Ok line → IsLineOf frames (Cpu guest vmpl npt paging) line
unfolding validate_row
validate_row_ok frames guest vmpl npt paging ws line h =
    validate_chain frames guest vmpl npt paging (number (word ws 1)) (size_word (word ws 2)) (flag_word (word ws 3)) (retries_word ws 4) line (retries_ok ws 4) h

adjust_chain : (address : Result ℕ Reason) (size : Result PageSize Reason) (target mask : Result ℕ Reason) (vmsa : Result Bool Reason) (item : Item)
    → ((n : ℕ) → target ≡ Ok n → n < 256) → ((n : ℕ) → mask ≡ Ok n → n < 256)
    → (address >>= (λ (a : ℕ). size >>= (λ (s : PageSize). target >>= (λ (t : ℕ). mask >>= (λ (m : ℕ). vmsa >>= (λ (v : Bool). Ok (Rmpadjust a s t m v))))))) ≡ Ok item
    → IsCpuItem item
adjust_chain (Err e) size target mask vmsa item b1 b2 h = absurd (cc)
adjust_chain (Ok a) (Err e) target mask vmsa item b1 b2 h = absurd (cc)
adjust_chain (Ok a) (Ok s) (Err e) mask vmsa item b1 b2 h = absurd (cc)
adjust_chain (Ok a) (Ok s) (Ok t) (Err e) vmsa item b1 b2 h = absurd (cc)
adjust_chain (Ok a) (Ok s) (Ok t) (Ok m) (Err e) item b1 b2 h = absurd (cc)
adjust_chain (Ok a) (Ok s) (Ok t) (Ok m) (Ok v) item b1 b2 h =
    let same : Rmpadjust a s t m v ≡ item = cc in
    subst IsCpuItem same (b1 t refl, b2 m refl)

adjust_operands_ok : (ws : List (List ℕ)) (item : Item) → adjust_operands ws ≡ Ok item → IsCpuItem item
unfolding adjust_operands
adjust_operands_ok ws item h =
    adjust_chain (number (word ws 1)) (size_word (word ws 2)) (below 256 (word ws 3)) (below 256 (word ws 4)) (flag_word (word ws 5)) item (below_ok _ _) (below_ok _ _) h

adjust_row_ok : (frames guest vmpl npt : ℕ) (paging : Paging) (ws : List (List ℕ)) (line : Line) → adjust_row ws ≡ Ok line → IsLineOf frames (Cpu guest vmpl npt paging) line
unfolding adjust_row
adjust_row_ok frames guest vmpl npt paging ws line h =
    let item = bind_ok (adjust_operands ws) (λ (i : Item). retries_word ws 6 >>= (λ (n : ℕ). Ok (let l : Line = record { item = i; retries = n } in l))) line h in
    let retries = bind_ok (retries_word ws 6) (λ (n : ℕ). Ok (let l : Line = record { item = item.0; retries = n } in l)) line item.2 in
    let made : Line = record { item = item.0; retries = retries.0 } in
    let same : made ≡ line = let e = retries.2 in cc in
    subst (IsLineOf frames (Cpu guest vmpl npt paging)) same (record { item = adjust_operands_ok ws item.0 item.1; retries = retries_ok ws 6 retries.0 retries.1 })

cpu_item_ok : (frames guest vmpl npt : ℕ) (paging : Paging) (ws : List (List ℕ)) (line : Line) → cpu_item (Cpu guest vmpl npt paging) frames ws ≡ Ok line → IsLineOf frames (Cpu guest vmpl npt paging) line
unfolding cpu_item
cpu_item_ok frames guest vmpl npt paging ws line h =
    let role = Cpu guest vmpl npt paging in
    let P = IsLineOf frames role line in
    let adjust : Result Line Reason = cond (is_retry_row ws (codes "rmpadjust") 6) (adjust_row ws) (access_item role frames ws) in
    select (is_retry_row ws (codes "pvalidate") 4) (validate_row ws) adjust line P (λ _ made. validate_row_ok frames guest vmpl npt paging ws line made)
    (λ _ h1. select (is_retry_row ws (codes "rmpadjust") 6) (adjust_row ws) (access_item role frames ws) line P (λ _ made. adjust_row_ok frames guest vmpl npt paging ws line made)
    (λ _ h2. access_item_ok frames role ws line h2) h1) h

-- the guest of a command is one that may or may not be declared
guest_word_ok : (w : List ℕ) (guest : ℕ) → guest_word w ≡ Ok guest → IsGuestNumber guest
unfolding guest_word
guest_word_ok w guest h = ranged_ok 1 8 w guest h

create_ok : (ws : List (List ℕ)) (command : Command) → create_operands ws ≡ Ok command → IsFirmwareCommand command
unfolding create_operands
create_ok ws command h =
    let guest = bind_ok (guest_word (word ws 1)) (λ (g : ℕ). number (word ws 2) >>= (λ (f : ℕ). Ok (commands.GctxCreate g f))) command h in
    let frame = bind_ok (number (word ws 2)) (λ (f : ℕ). Ok (commands.GctxCreate guest.0 f)) command guest.2 in
    let same : commands.GctxCreate guest.0 frame.0 ≡ command = let e = frame.2 in cc in
    subst IsFirmwareCommand same (guest_word_ok (word ws 1) guest.0 guest.1)

activate_ok : (ws : List (List ℕ)) (command : Command) → activate_operands ws ≡ Ok command → IsFirmwareCommand command
unfolding activate_operands
activate_ok ws command h =
    let guest = bind_ok (guest_word (word ws 1)) (λ (g : ℕ). below 1024 (word ws 2) >>= (λ (a : ℕ). Ok (commands.Activate g a))) command h in
    let asid = bind_ok (below 1024 (word ws 2)) (λ (a : ℕ). Ok (commands.Activate guest.0 a)) command guest.2 in
    let same : commands.Activate guest.0 asid.0 ≡ command = let e = asid.2 in cc in
    subst IsFirmwareCommand same (guest_word_ok (word ws 1) guest.0 guest.1, below_ok 1024 (word ws 2) asid.0 asid.1)

start_ok : (ws : List (List ℕ)) (command : Command) → start_operands ws ≡ Ok command → IsFirmwareCommand command
unfolding start_operands
start_ok ws command h =
    let guest = bind_ok (guest_word (word ws 1)) (λ (g : ℕ). Ok (commands.LaunchStart g)) command h in
    let same : commands.LaunchStart guest.0 ≡ command = let e = guest.2 in cc in
    subst IsFirmwareCommand same (guest_word_ok (word ws 1) guest.0 guest.1)

launch_chain : (guest frame page_type : Result ℕ Reason) (imi : Result Bool Reason) (x y z : Result ℕ Reason) (command : Command)
    → ((n : ℕ) → guest ≡ Ok n → IsGuestNumber n) → ((n : ℕ) → page_type ≡ Ok n → n < 256)
    → ((n : ℕ) → x ≡ Ok n → n < 16) → ((n : ℕ) → y ≡ Ok n → n < 16) → ((n : ℕ) → z ≡ Ok n → n < 16)
    → (guest >>= (λ (g : ℕ). frame >>= (λ (f : ℕ). page_type >>= (λ (t : ℕ). imi >>= (λ (b : Bool). x >>= (λ (i : ℕ). y >>= (λ (j : ℕ). z >>= (λ (k : ℕ). Ok (commands.LaunchUpdate g f t b (i ∷ j ∷ k ∷ [])))))))))) ≡ Ok command
    → IsFirmwareCommand command
launch_chain (Err e) frame page_type imi x y z command b1 b2 b3 b4 b5 h = absurd (cc)
launch_chain (Ok g) (Err e) page_type imi x y z command b1 b2 b3 b4 b5 h = absurd (cc)
launch_chain (Ok g) (Ok f) (Err e) imi x y z command b1 b2 b3 b4 b5 h = absurd (cc)
launch_chain (Ok g) (Ok f) (Ok t) (Err e) x y z command b1 b2 b3 b4 b5 h = absurd (cc)
launch_chain (Ok g) (Ok f) (Ok t) (Ok b) (Err e) y z command b1 b2 b3 b4 b5 h = absurd (cc)
launch_chain (Ok g) (Ok f) (Ok t) (Ok b) (Ok i) (Err e) z command b1 b2 b3 b4 b5 h = absurd (cc)
launch_chain (Ok g) (Ok f) (Ok t) (Ok b) (Ok i) (Ok j) (Err e) command b1 b2 b3 b4 b5 h = absurd (cc)
launch_chain (Ok g) (Ok f) (Ok t) (Ok b) (Ok i) (Ok j) (Ok k) command b1 b2 b3 b4 b5 h =
    let same : commands.LaunchUpdate g f t b (i ∷ j ∷ k ∷ []) ≡ command = cc in
    subst IsFirmwareCommand same (b1 g refl, b2 t refl, record { three = refl; below = (b3 i refl, (b4 j refl, (b5 k refl, tt))) })

launch_ok : (ws : List (List ℕ)) (command : Command) → launch_operands ws ≡ Ok command → IsFirmwareCommand command
unfolding launch_operands
launch_ok ws command h =
    launch_chain (guest_word (word ws 1)) (number (word ws 2)) (below 256 (word ws 3)) (flag_word (word ws 4)) (below 16 (word ws 5)) (below 16 (word ws 6)) (below 16 (word ws 7)) command
    (guest_word_ok _) (below_ok _ _) (below_ok _ _) (below_ok _ _) (below_ok _ _) h

finish_ok : (ws : List (List ℕ)) (command : Command) → finish_operands ws ≡ Ok command → IsFirmwareCommand command
unfolding finish_operands
finish_ok ws command h =
    let guest = bind_ok (guest_word (word ws 1)) (λ (g : ℕ). Ok (commands.LaunchFinish g)) command h in
    let same : commands.LaunchFinish guest.0 ≡ command = let e = guest.2 in cc in
    subst IsFirmwareCommand same (guest_word_ok (word ws 1) guest.0 guest.1)

init_ok : (ws : List (List ℕ)) (command : Command) → init_operands ws ≡ Ok command → IsFirmwareCommand command
unfolding init_operands
init_ok ws command h =
    let frame = bind_ok (number (word ws 1)) (λ (f : ℕ). Ok (commands.MdInit f)) command h in
    let same : commands.MdInit frame.0 ≡ command = let e = frame.2 in cc in
    subst IsFirmwareCommand same tt

move_ok : (ws : List (List ℕ)) (command : Command) → move_operands ws ≡ Ok command → IsFirmwareCommand command
unfolding move_operands
move_ok ws command h =
    let guest = bind_ok (guest_word (word ws 1)) (λ (g : ℕ). number (word ws 2) >>= (λ (f : ℕ). number (word ws 3) >>= (λ (t : ℕ). Ok (commands.PageMove g f t)))) command h in
    let source = bind_ok (number (word ws 2)) (λ (f : ℕ). number (word ws 3) >>= (λ (t : ℕ). Ok (commands.PageMove guest.0 f t))) command guest.2 in
    let target = bind_ok (number (word ws 3)) (λ (t : ℕ). Ok (commands.PageMove guest.0 source.0 t)) command source.2 in
    let same : commands.PageMove guest.0 source.0 target.0 ≡ command = let e = target.2 in cc in
    subst IsFirmwareCommand same (guest_word_ok (word ws 1) guest.0 guest.1)

reclaim_ok : (ws : List (List ℕ)) (command : Command) → reclaim_operands ws ≡ Ok command → IsFirmwareCommand command
unfolding reclaim_operands
reclaim_ok ws command h =
    let frame = bind_ok (number (word ws 1)) (λ (f : ℕ). Ok (commands.Reclaim f)) command h in
    let same : commands.Reclaim frame.0 ≡ command = let e = frame.2 in cc in
    subst IsFirmwareCommand same tt

-- a row of a command is an item of a firmware actor
command_row_ok : (frames : ℕ) (ws : List (List ℕ)) (count : ℕ) (operands : Result Command Reason) (line : Line)
    → ((command : Command) → operands ≡ Ok command → IsFirmwareCommand command) → command_row ws count operands ≡ Ok line → IsLineOf frames Firmware line
unfolding command_row
command_row_ok frames ws count operands line are h =
    let command = bind_ok operands (λ (c : Command). retries_word ws count >>= (λ (n : ℕ). Ok (let l : Line = record { item = items.Firmware c; retries = n } in l))) line h in
    let retries = bind_ok (retries_word ws count) (λ (n : ℕ). Ok (let l : Line = record { item = items.Firmware command.0; retries = n } in l)) line command.2 in
    let made : Line = record { item = items.Firmware command.0; retries = retries.0 } in
    let same : made ≡ line = let e = retries.2 in cc in
    subst (IsLineOf frames Firmware) same (record { item = are command.0 command.1; retries = retries_ok ws count retries.0 retries.1 })

sealing_item_ok : (frames : ℕ) (ws : List (List ℕ)) (line : Line) → sealing_item ws ≡ Ok line → IsLineOf frames Firmware line
unfolding sealing_item
sealing_item_ok frames ws line h =
    let P = IsLineOf frames Firmware line in
    let row : List ℕ → ℕ → Result Command Reason → Result Line Reason → Result Line Reason = λ name count operands other. cond (is_retry_row ws name count) (command_row ws count operands) other in
    let root_in = row (codes "md_root_in") 4 (root_in_operands ws) (skip_item ws) in
    let root_out = row (codes "md_root_out") 4 (root_out_operands ws) root_in in
    let metadata_in = row (codes "md_in") 6 (metadata_in_operands ws) root_out in
    let metadata_out = row (codes "md_out") 6 (metadata_out_operands ws) metadata_in in
    let swap_in = row (codes "swap_in") 6 (swap_in_operands ws) metadata_out in
    let is : (count : ℕ) (operands : Result Command Reason) → ((command : Command) → operands ≡ Ok command → IsFirmwareCommand command) → command_row ws count operands ≡ Ok line → P = λ count operands are made. command_row_ok frames ws count operands line are made in
    select (is_retry_row ws (codes "swap_out") 6) (command_row ws 6 (swap_out_operands ws)) swap_in line P (λ _ made. is 6 (swap_out_operands ws) (λ command. swap_out_ok IsFirmwareCommand ws command (λ g s t m e guest entry. (guest, entry))) made)
    (λ _ h1. select (is_retry_row ws (codes "swap_in") 6) (command_row ws 6 (swap_in_operands ws)) metadata_out line P (λ _ made. is 6 (swap_in_operands ws) (λ command. swap_in_ok IsFirmwareCommand ws command (λ g s t m e guest entry. (guest, entry))) made)
    (λ _ h2. select (is_retry_row ws (codes "md_out") 6) (command_row ws 6 (metadata_out_operands ws)) metadata_in line P (λ _ made. is 6 (metadata_out_operands ws) (λ command. metadata_out_ok IsFirmwareCommand ws command (λ g s t m e guest entry. (guest, entry))) made)
    (λ _ h3. select (is_retry_row ws (codes "md_in") 6) (command_row ws 6 (metadata_in_operands ws)) root_out line P (λ _ made. is 6 (metadata_in_operands ws) (λ command. metadata_in_ok IsFirmwareCommand ws command (λ g s t m e guest entry. (guest, entry))) made)
    (λ _ h4. select (is_retry_row ws (codes "md_root_out") 4) (command_row ws 4 (root_out_operands ws)) root_in line P (λ _ made. is 4 (root_out_operands ws) (λ command. root_out_ok IsFirmwareCommand ws command (λ g s t guest. guest)) made)
    (λ _ h5. select (is_retry_row ws (codes "md_root_in") 4) (command_row ws 4 (root_in_operands ws)) (skip_item ws) line P (λ _ made. is 4 (root_in_operands ws) (λ command. root_in_ok IsFirmwareCommand ws command (λ g s t guest. guest)) made)
    (λ _ h6. skip_item_ok frames Firmware ws line h6) h5) h4) h3) h2) h1) h

firmware_item_ok : (frames : ℕ) (ws : List (List ℕ)) (line : Line) → firmware_item ws ≡ Ok line → IsLineOf frames Firmware line
unfolding firmware_item
firmware_item_ok frames ws line h =
    let P = IsLineOf frames Firmware line in
    let row : List ℕ → ℕ → Result Command Reason → Result Line Reason → Result Line Reason = λ name count operands other. cond (is_retry_row ws name count) (command_row ws count operands) other in
    let reclaim = row (codes "page_reclaim") 2 (reclaim_operands ws) (sealing_item ws) in
    let move = row (codes "page_move") 4 (move_operands ws) reclaim in
    let init = row (codes "md_init") 2 (init_operands ws) move in
    let finish = row (codes "launch_finish") 2 (finish_operands ws) init in
    let update = row (codes "launch_update") 8 (launch_operands ws) finish in
    let start = row (codes "launch_start") 2 (start_operands ws) update in
    let activate = row (codes "activate") 3 (activate_operands ws) start in
    let is : (count : ℕ) (operands : Result Command Reason) → ((command : Command) → operands ≡ Ok command → IsFirmwareCommand command) → command_row ws count operands ≡ Ok line → P = λ count operands are made. command_row_ok frames ws count operands line are made in
    select (is_retry_row ws (codes "gctx_create") 3) (command_row ws 3 (create_operands ws)) activate line P (λ _ made. is 3 (create_operands ws) (create_ok ws) made)
    (λ _ h1. select (is_retry_row ws (codes "activate") 3) (command_row ws 3 (activate_operands ws)) start line P (λ _ made. is 3 (activate_operands ws) (activate_ok ws) made)
    (λ _ h2. select (is_retry_row ws (codes "launch_start") 2) (command_row ws 2 (start_operands ws)) update line P (λ _ made. is 2 (start_operands ws) (start_ok ws) made)
    (λ _ h3. select (is_retry_row ws (codes "launch_update") 8) (command_row ws 8 (launch_operands ws)) finish line P (λ _ made. is 8 (launch_operands ws) (launch_ok ws) made)
    (λ _ h4. select (is_retry_row ws (codes "launch_finish") 2) (command_row ws 2 (finish_operands ws)) init line P (λ _ made. is 2 (finish_operands ws) (finish_ok ws) made)
    (λ _ h5. select (is_retry_row ws (codes "md_init") 2) (command_row ws 2 (init_operands ws)) move line P (λ _ made. is 2 (init_operands ws) (init_ok ws) made)
    (λ _ h6. select (is_retry_row ws (codes "page_move") 4) (command_row ws 4 (move_operands ws)) reclaim line P (λ _ made. is 4 (move_operands ws) (move_ok ws) made)
    (λ _ h7. select (is_retry_row ws (codes "page_reclaim") 2) (command_row ws 2 (reclaim_operands ws)) (sealing_item ws) line P (λ _ made. is 2 (reclaim_operands ws) (reclaim_ok ws) made)
    (λ _ h8. sealing_item_ok frames ws line h8) h7) h6) h5) h4) h3) h2) h1) h

pub item_ok : (frames : ℕ) (role : Role) (ws : List (List ℕ)) (line : Line) → item_words role frames ws ≡ Ok line → IsLineOf frames role line
item_ok frames (Cpu guest vmpl npt paging) ws line h = cpu_item_ok frames guest vmpl npt paging ws line h
item_ok frames Host ws line h = host_item_ok frames ws line h
item_ok frames Firmware ws line h = firmware_item_ok frames ws line h
