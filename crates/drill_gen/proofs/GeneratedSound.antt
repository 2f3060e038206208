-- The scenario of each number is sound: frames are inside memory, pages apart, each item is one that its actor may have, and they are
-- few.
use Rattle.std.proofs.Common.{◌≡◌, ℕ, zero, suc, ◌+◌, ◌*◌, ◌%◌, ◌^◌, ◌<◌, ◌≤◌, List, [], ◌∷◌, ◌++◌, length, map, replicate, refl, ap, ◌∙◌, arith}
use Rattle.std.proofs.lemmas.Bool.{cond_both}
use Rattle.std.proofs.lemmas.Bool.Decides.{nat_tests}
use Rattle.std.proofs.lemmas.Nat.{mod-mul-add}
use Rattle.std.specs.List.{AllByRecursion, range_with_len}
use Rattle.std.specs.Prelude.{nat_lt, ◌==◌}
use Rattle.rand_pcg.specs.Lcg.{Lcg}
use Rattle.snp_model.specs.declared.item.Item.{Item}
use Rattle.snp_model.specs.declared.item.Item.TheVariants as items
use Rattle.snp_model.specs.declared.item.Op.{Op}
use Rattle.snp_model.specs.declared.item.Op.TheVariants.{Load, Store, Xor}
use Rattle.snp_model.specs.declared.scenario.Actor.{Actor}
use Rattle.snp_model.specs.declared.scenario.Role.{Role}
use Rattle.snp_model.specs.declared.scenario.Role.TheVariants.{Cpu, Host, Firmware}
use Rattle.snp_model.specs.Attempts.{actors_attempts, attempts_of, script_attempts}
use Rattle.snp_model.specs.Bounds.{IsRole, AreOperationWords, IsCpuItem, IsHostItem, IsFirmwareItem, IsItemOf, IsLineOf}
use Rattle.snp_model.specs.Metadata.{AreBytes}
use Rattle.snp_model.specs.Reading.{order_of, turns_spell}
use Rattle.snp_model.specs.Sound.{Pairwise, IsGuest, AsidsDiffer, IsPage, FramesDiffer, GpnsDiffer, IsWord, IsActor, IsSound}
use Rattle.snp_model.proofs.PairLaws.{each_append, pair_append}
use Rattle.drill_gen.proofs.GeneratedCommands.{draw_below, OfDrawn, firmware_item_is}
use Rattle.snp_model.specs.Generated.{generator_of, draw, word_address, mapping, cpu_item_of, cpu_item, host_item_of, host_item, firmware_item, item_for, script_for, actors_for, processor, roles, guest_spec, page_spec, table_word, leaf_word, pages_for, words_for, scenario_with, drawn_scenario, generated}

address_aligned : (page index : ℕ) → word_address page index % 8 ≡ 0
address_aligned page index =
    let e : 4096 * page + 8 * index ≡ (512 * page + index) * 8 + 0 = omega arith in
    ap (λ (n : ℕ). n % 8) e ∙ mod-mul-add (512 * page + index) 8 0 (omega arith)

address_inside : (frames page index : ℕ) → page < frames → index < 512 → word_address page index < 4096 * frames
address_inside frames page index inside below = omega arith

cpu_access : (page index : ℕ) (op : Op) → AreOperationWords op → IsCpuItem (items.Access (word_address page index) op)
cpu_access page index op words = (address_aligned page index, words)

host_access : (page index : ℕ) (op : Op) → page < 1024 → index < 512 → AreOperationWords op → IsHostItem 1024 (items.Access (word_address page index) op)
host_access page index op inside below words = (address_inside 1024 page index inside below, address_aligned page index, words)

abbrev ForCpu : Item × Lcg → Type 0
ForCpu drawn = IsCpuItem drawn.0

cpu_item_of_sound : (kind page index : ℕ) (g : Lcg) → ForCpu (cpu_item_of kind page index g)
unfolding cpu_item_of
cpu_item_of_sound kind page index g =
    let value = draw_below 1000 g (omega arith) in
    cond_both (nat_lt kind 4) _ _ ForCpu (λ _. cpu_access page index Load tt)
    (λ _. cond_both (nat_lt kind 6) _ _ ForCpu (λ _. cpu_access page index (Store (draw 1000 g).0) (omega arith))
    (λ _. cond_both (kind == 6) _ _ ForCpu (λ _. cpu_access page index (Xor (draw 1000 g).0) (omega arith)) (λ _. tt)))

pub cpu_item_sound : (g : Lcg) → IsCpuItem (cpu_item g).0
unfolding cpu_item
cpu_item_sound g =
    let kind = draw 8 g in
    let page = draw 16 kind.1 in
    let index = draw 512 page.1 in
    cpu_item_of_sound kind.0 page.0 index.0 index.1

abbrev ForHost : Item × Lcg → Type 0
ForHost drawn = IsHostItem 1024 drawn.0

host_item_of_sound : (kind guest frame place : ℕ) (g : Lcg) → guest ≤ 2 → frame < 144 → place < 16 → ForHost (host_item_of kind guest frame place g)
unfolding host_item_of
host_item_of_sound kind guest frame place g guest_is frame_is place_is =
    cond_both (kind == 0) _ _ ForHost (λ _. (omega arith, omega arith))
    (λ _. cond_both (kind == 1) _ _ ForHost (λ _. host_access (16 * guest + 3) place (Store (mapping frame)) (omega arith) (omega arith) (omega arith))
    (λ _. cond_both (kind == 2) _ _ ForHost (λ _. (omega arith, omega arith))
    (λ _. cond_both (kind == 3) _ _ ForHost (λ _. let sealed = draw_below 16 g (omega arith) in host_access (300 + (draw 16 g).0) place (Xor 1) (omega arith) (omega arith) (omega arith))
    (λ _. cond_both (kind == 4) _ _ ForHost (λ _. (omega arith, omega arith))
    (λ _. host_access frame place Load (omega arith) (omega arith) tt)))))

pub host_item_sound : (g : Lcg) → IsHostItem 1024 (host_item g).0
unfolding host_item
host_item_sound g =
    let kind = draw 6 g in
    let guest = draw 2 kind.1 in
    let frame = draw 16 guest.1 in
    let place = draw 16 frame.1 in
    let guest_is = draw_below 2 kind.1 (omega arith) in
    let frame_is = draw_below 16 guest.1 (omega arith) in
    let place_is = draw_below 16 frame.1 (omega arith) in
    host_item_of_sound kind.0 (1 + guest.0) (64 * (1 + guest.0) + frame.0) place.0 place.1 (omega arith) (omega arith) place_is

pub firmware_item_sound : (g : Lcg) → IsFirmwareItem (firmware_item g).0
firmware_item_sound g =
    let all : OfDrawn (λ command. IsFirmwareItem (items.Firmware command)) = record {
      md_init = λ frame. tt;
      page_move = λ guest source target number. number;
      swap_out = λ guest source target metadata entry number below. (number, below);
      swap_in = λ guest source target metadata entry number below. (number, below);
      reclaim = λ frame. tt;
    } in
    firmware_item_is IsFirmwareItem all g

item_sound : (role : Role) (g : Lcg) → IsItemOf 1024 role (item_for role g).0
item_sound (Cpu guest vmpl npt paging) g = cpu_item_sound g
item_sound Host g = host_item_sound g
item_sound Firmware g = firmware_item_sound g

pub script_sound : (role : Role) (count : ℕ) (g : Lcg) → AllByRecursion (IsLineOf 1024 role) (script_for role count g).0
unfolding script_for
script_sound role zero g = tt
script_sound role (suc count) g = (record { item = item_sound role g; retries = omega arith }, script_sound role count (item_for role g).1)

pub script_attempts_are : (role : Role) (count : ℕ) (g : Lcg) → script_attempts (script_for role count g).0 ≡ count
unfolding script_for script_attempts
script_attempts_are role zero g = refl
script_attempts_are role (suc count) g = ap (λ (n : ℕ). 1 + n) (script_attempts_are role count (item_for role g).1) ∙ omega arith

pub actors_sound : (rs : List Role) (count : ℕ) (g : Lcg) → AllByRecursion (IsRole 1024 2) rs → AllByRecursion (IsActor 1024 2) (actors_for rs count g).0
unfolding actors_for
actors_sound [] count g are = tt
actors_sound (role ∷ rest) count g are =
    (record { role = are.0; script = script_sound role count g }, actors_sound rest count (script_for role count g).1 are.1)

pub actors_length : (rs : List Role) (count : ℕ) (g : Lcg) → length (actors_for rs count g).0 ≡ length rs
unfolding actors_for
actors_length [] count g = refl
actors_length (role ∷ rest) count g = ap suc (actors_length rest count (script_for role count g).1)

one_more : (n count first others : ℕ) → first ≡ count → others ≡ n * count → first + others ≡ suc n * count
one_more n count first others one rest = grind (arith, one, rest)

pub actors_attempts_are : (rs : List Role) (count : ℕ) (g : Lcg) → actors_attempts (actors_for rs count g).0 ≡ length rs * count
unfolding actors_for actors_attempts
actors_attempts_are [] count g = omega arith
actors_attempts_are (role ∷ rest) count g =
    one_more (length rest) count _ _ (script_attempts_are role count g) (actors_attempts_are rest count (script_for role count g).1)

-- each of so many from one on
pub each_from : {X : Type 0} (P : X → Type 0) (f : ℕ → X) (first count : ℕ) → ((k : ℕ) → first ≤ k → k < first + count → P (f k)) → AllByRecursion P (map f (range_with_len first count))
each_from P f first zero is = tt
each_from P f first (suc count) is = (is first (omega arith) (omega arith), each_from P f (first + 1) count (λ k from below. is k (omega arith) (omega arith)))

-- each two of so many from one on
pairs_from : {X : Type 0} (R : X → X → Type 0) (f : ℕ → X) (first count : ℕ) → ((j k : ℕ) → j < k → R (f j) (f k)) → Pairwise R (map f (range_with_len first count))
pairs_from R f first zero is = tt
pairs_from R f first (suc count) is = (each_from (R (f first)) f (first + 1) count (λ k from below. is first k (omega arith)), pairs_from R f (first + 1) count is)

bytes_replicate : (n byte : ℕ) → byte < 2 ^ 8 → AreBytes (replicate n byte)
bytes_replicate zero byte small i = omega arith
bytes_replicate (suc n) byte small zero = small
bytes_replicate (suc n) byte small (suc i) = bytes_replicate n byte small i

pub guest_sound : (guest : ℕ) → 0 < guest → guest ≤ 2 → IsGuest (guest_spec guest)
unfolding guest_spec
guest_sound guest some most_is =
    record { asid_some = some; asid_below = omega arith; iv = omega arith; key = bytes_replicate 32 (17 * guest) (omega arith) }

pub asids_differ : AsidsDiffer (guest_spec 1) (guest_spec 2)
unfolding guest_spec
asids_differ = λ same. omega (arith, same)

pub page_sound : (guest gpn : ℕ) → 0 < guest → guest ≤ 2 → gpn < 8 → IsPage 1024 2 (page_spec guest gpn)
unfolding page_spec
page_sound guest gpn some most_is below =
    record {
      frame = omega arith;
      guest_some = some;
      guest_most = most_is;
      gpn = omega arith;
      aligned = λ large. absurd (cc);
      perms_three = refl;
      perms = (omega arith, (omega arith, (omega arith, tt)));
    }

frames_apart : (guest gpn other place : ℕ) → 64 * guest + gpn < 64 * other + place → FramesDiffer (page_spec guest gpn) (page_spec other place)
unfolding page_spec
frames_apart guest gpn other place apart frame first second = grind (arith, nat_tests, first, second, apart)

gpns_apart : (guest gpn other place : ℕ) → (guest ≡ other → gpn < place) → GpnsDiffer (page_spec guest gpn) (page_spec other place)
unfolding page_spec
gpns_apart guest gpn other place apart same number first second = let below = apart same in grind (arith, nat_tests, first, second, below)

guest_pages_sound : (guest : ℕ) → 0 < guest → guest ≤ 2 → AllByRecursion (IsPage 1024 2) (pages_for guest)
unfolding pages_for
guest_pages_sound guest some most_is = each_from (IsPage 1024 2) (page_spec guest) 0 8 (λ k from below. page_sound guest k some most_is (omega arith))

pub pages_sound : AllByRecursion (IsPage 1024 2) (pages_for 1 ++ pages_for 2)
unfolding pages_for
pages_sound = each_append (IsPage 1024 2) (pages_for 1) (pages_for 2) (guest_pages_sound 1 (omega arith) (omega arith)) (guest_pages_sound 2 (omega arith) (omega arith))

pub frames_differ : Pairwise FramesDiffer (pages_for 1 ++ pages_for 2)
unfolding pages_for
frames_differ =
    pair_append FramesDiffer (pages_for 1) (pages_for 2)
    (pairs_from FramesDiffer (page_spec 1) 0 8 (λ j k below. frames_apart 1 j 1 k (omega arith)))
    (pairs_from FramesDiffer (page_spec 2) 0 8 (λ j k below. frames_apart 2 j 2 k (omega arith)))
    (each_from (λ page. AllByRecursion (FramesDiffer page) (pages_for 2)) (page_spec 1) 0 8
    (λ j from below. each_from (FramesDiffer (page_spec 1 j)) (page_spec 2) 0 8 (λ k after inside. frames_apart 1 j 2 k (omega arith))))

pub gpns_differ : Pairwise GpnsDiffer (pages_for 1 ++ pages_for 2)
unfolding pages_for
gpns_differ =
    pair_append GpnsDiffer (pages_for 1) (pages_for 2)
    (pairs_from GpnsDiffer (page_spec 1) 0 8 (λ j k below. gpns_apart 1 j 1 k (λ same. below)))
    (pairs_from GpnsDiffer (page_spec 2) 0 8 (λ j k below. gpns_apart 2 j 2 k (λ same. below)))
    (each_from (λ page. AllByRecursion (GpnsDiffer page) (pages_for 2)) (page_spec 1) 0 8
    (λ j from below. each_from (GpnsDiffer (page_spec 1 j)) (page_spec 2) 0 8 (λ k after inside. gpns_apart 1 j 2 k (λ same. absurd (omega (arith, same))))))

table_word_sound : (guest level : ℕ) → guest ≤ 2 → level < 3 → IsWord 1024 (table_word guest level)
unfolding table_word
table_word_sound guest level most_is below = record { frame = omega arith; index = omega arith; value = omega arith }

leaf_word_sound : (guest gpn : ℕ) → guest ≤ 2 → gpn < 16 → IsWord 1024 (leaf_word guest gpn)
unfolding leaf_word
leaf_word_sound guest gpn most_is below = record { frame = omega arith; index = omega arith; value = omega arith }

guest_words_sound : (guest : ℕ) → guest ≤ 2 → AllByRecursion (IsWord 1024) (words_for guest)
unfolding words_for
guest_words_sound guest most_is =
    each_append (IsWord 1024) (map (table_word guest) (range_with_len 0 3)) (map (leaf_word guest) (range_with_len 0 16))
    (each_from (IsWord 1024) (table_word guest) 0 3 (λ k from below. table_word_sound guest k most_is (omega arith)))
    (each_from (IsWord 1024) (leaf_word guest) 0 16 (λ k from below. leaf_word_sound guest k most_is (omega arith)))

pub words_sound : AllByRecursion (IsWord 1024) (words_for 1 ++ words_for 2)
words_sound = each_append (IsWord 1024) (words_for 1) (words_for 2) (guest_words_sound 1 (omega arith)) (guest_words_sound 2 (omega arith))

processor_sound : (guest : ℕ) → 0 < guest → guest ≤ 2 → IsRole 1024 2 (processor guest)
processor_sound guest some most_is = record { guest_some = some; guest_most = most_is; vmpl_below = omega arith; npt_below = omega arith; root_below = tt }

pub roles_sound : AllByRecursion (IsRole 1024 2) roles
unfolding roles
roles_sound =
    let first = processor_sound 1 (omega arith) (omega arith) in
    let second = processor_sound 2 (omega arith) (omega arith) in
    (first, (first, (second, (second, (tt, (tt, (tt, (tt, tt))))))))

roles_eight : length roles ≡ 8
unfolding roles
roles_eight = refl

-- a scenario with actors that are sound is sound
with_actors_sound : (actors : List Actor) → AllByRecursion (IsActor 1024 2) actors → length actors ≤ 32 → actors_attempts actors ≤ 8192 → IsSound (scenario_with actors)
unfolding scenario_with attempts_of order_of turns_spell
with_actors_sound actors are few attempts =
    record {
      version_some = omega arith;
      version_most = omega arith;
      regions_some = omega arith;
      regions_most = omega arith;
      guests_most = omega arith;
      guests = (guest_sound 1 (omega arith) (omega arith), (guest_sound 2 (omega arith) (omega arith), tt));
      asids_differ = ((asids_differ, tt), (tt, tt));
      pages = pages_sound;
      frames_differ = frames_differ;
      gpns_differ = gpns_differ;
      words = words_sound;
      actors_most = few;
      actors = are;
      attempts_most = attempts;
      order = tt;
      order_most = omega arith;
    }

drawn_sound : (g : Lcg) (count : ℕ) → 8 * count ≤ 8192 → IsSound (scenario_with (actors_for roles count g).0)
drawn_sound g count few =
    let eight = roles_eight in
    let as_many = actors_length roles count g in
    let attempts = actors_attempts_are roles count g ∙ ap (λ (n : ℕ). n * count) roles_eight in
    with_actors_sound (actors_for roles count g).0 (actors_sound roles count g roles_sound) (omega arith) (omega arith)

-- the scenario of a number is sound
pub generated_sound : (number : ℕ) → IsSound (generated number)
unfolding drawn_scenario
generated_sound number = drawn_sound (generator_of number) 512 (omega arith)
