-- What the next draw of an item, or of an actor, makes of a script and of the actors.
use Rattle.std.proofs.Common.{◌≡◌, ℕ, suc, ◌+◌, ◌-◌, ◌<◌, ◌≤◌, List, [], ◌∷◌, ◌++◌, map, refl, sym, ap, ◌∙◌, arith}
use Rattle.std.proofs.lemmas.List.{append-nil, append_assoc}
use Rattle.std.proofs.lemmas.List.FromFn.{map-range_with_len_more}
use Rattle.std.specs.List.{range_with_len}
use Rattle.rand_pcg.specs.Lcg.{Lcg}
use Rattle.snp_model.specs.declared.item.Item.{Item}
use Rattle.snp_model.specs.declared.item.Line.{Line}
use Rattle.snp_model.specs.declared.scenario.Actor.{Actor}
use Rattle.snp_model.specs.declared.scenario.Role.{Role}
use Rattle.snp_model.specs.declared.scenario.WordSpec.{WordSpec}
use Rattle.snp_model.specs.Generated.{actors_for, item_for, leaf_word, once, script_for, table_word, words_for}

-- what is drawn, with an item before it
abbrev with_item : Item → List Line × Lcg → List Line × Lcg
with_item item drawn = (once item ∷ drawn.0, drawn.1)

-- what is drawn, with an actor before it
abbrev with_actor : Role → List Line → List Actor × Lcg → List Actor × Lcg
with_actor role script drawn = ((record { role = role; script = script }) ∷ drawn.0, drawn.1)

script_begins : (role : Role) (count : ℕ) (g : Lcg) → script_for role (suc count) g ≡ with_item (item_for role g).0 (script_for role count (item_for role g).1)
unfolding script_for
script_begins role count g = refl

actors_begin : (role : Role) (roles : List Role) (count : ℕ) (g : Lcg)
    → actors_for (role ∷ roles) count g ≡ with_actor role (script_for role count g).0 (actors_for roles count (script_for role count g).1)
unfolding actors_for
actors_begin role roles count g = refl

no_items : (role : Role) (g : Lcg) → script_for role 0 g ≡ ([], g)
unfolding script_for
no_items role g = refl

no_actors : (count : ℕ) (g : Lcg) → actors_for [] count g ≡ ([], g)
unfolding actors_for
no_actors count g = refl

-- what is made so far is all, where nothing is left
all_made : {X : Type 0} (made : List X) (g : Lcg) (left whole : List X × Lcg) → left ≡ ([], g) → made ++ left.0 ≡ whole.0 → left.1 ≡ whole.1 → (made, g) ≡ whole
all_made made g left whole none so_far last =
    let first = sym (append-nil made) ∙ ap (λ (d : List _ × Lcg). made ++ d.0) (sym none) ∙ so_far in
    let second = ap (λ (d : List _ × Lcg). d.1) (sym none) ∙ last in
    λ i. (first i, second i)

pub script_done : (role : Role) (count counter : ℕ) (g initial : Lcg) (script : List Line) → count ≤ counter
    → script ++ (script_for role (count - counter) g).0 ≡ (script_for role count initial).0 → (script_for role (count - counter) g).1 ≡ (script_for role count initial).1
    → (script, g) ≡ script_for role count initial
script_done role count counter g initial script past made left =
    let none : count - counter ≡ 0 = omega arith in
    all_made script g (script_for role (count - counter) g) (script_for role count initial) (ap (λ (n : ℕ). script_for role n g) none ∙ no_items role g) made left

pub actors_done : (left roles : List Role) (count : ℕ) (g initial : Lcg) (actors : List Actor) → left ≡ []
    → actors ++ (actors_for left count g).0 ≡ (actors_for roles count initial).0 → (actors_for left count g).1 ≡ (actors_for roles count initial).1
    → (actors, g) ≡ actors_for roles count initial
actors_done left roles count g initial actors none made rest =
    all_made actors g (actors_for left count g) (actors_for roles count initial) (ap (λ (rs : List Role). actors_for rs count g) none ∙ no_actors count g) made rest

-- the script that is left begins with the item that is drawn next
pub script_next : (role : Role) (count counter : ℕ) (g h : Lcg) (item : Item) → counter < count → (item, h) ≡ item_for role g
    → script_for role (count - counter) g ≡ with_item item (script_for role (count - (counter + 1)) h)
script_next role count counter g h item inside drawn =
    let left : count - counter ≡ suc (count - (counter + 1)) = omega arith in
    ap (λ (n : ℕ). script_for role n g) left ∙ script_begins role (count - (counter + 1)) g
    ∙ ap (λ (d : Item × Lcg). with_item d.0 (script_for role (count - (counter + 1)) d.1)) (sym drawn)

-- what is made so far and what is left, one item on
pub script_more : (role : Role) (count counter : ℕ) (g h : Lcg) (item : Item) (script whole : List Line) → counter < count → (item, h) ≡ item_for role g
    → script ++ (script_for role (count - counter) g).0 ≡ whole → (script ++ once item ∷ []) ++ (script_for role (count - (counter + 1)) h).0 ≡ whole
script_more role count counter g h item script whole inside drawn made =
    append_assoc script (once item ∷ []) (script_for role (count - (counter + 1)) h).0
    ∙ ap (λ (d : List Line × Lcg). script ++ d.0) (sym (script_next role count counter g h item inside drawn)) ∙ made

pub script_left : (role : Role) (count counter : ℕ) (g h last : Lcg) (item : Item) → counter < count → (item, h) ≡ item_for role g
    → (script_for role (count - counter) g).1 ≡ last → (script_for role (count - (counter + 1)) h).1 ≡ last
script_left role count counter g h last item inside drawn left = ap (λ (d : List Line × Lcg). d.1) (sym (script_next role count counter g h item inside drawn)) ∙ left

-- the actors that are left begin with the one that is drawn next
pub actors_next : (left roles : List Role) (role : Role) (count : ℕ) (g h : Lcg) (script : List Line) → left ≡ role ∷ roles → (script, h) ≡ script_for role count g
    → actors_for left count g ≡ with_actor role script (actors_for roles count h)
actors_next left roles role count g h script is drawn =
    ap (λ (rs : List Role). actors_for rs count g) is ∙ actors_begin role roles count g
    ∙ ap (λ (d : List Line × Lcg). with_actor role d.0 (actors_for roles count d.1)) (sym drawn)

-- what is made so far and what is left, one actor on
pub actors_more : (left roles : List Role) (role : Role) (count : ℕ) (g h : Lcg) (script : List Line) (actors whole : List Actor) → left ≡ role ∷ roles → (script, h) ≡ script_for role count g
    → actors ++ (actors_for left count g).0 ≡ whole → (actors ++ (record { role = role; script = script }) ∷ []) ++ (actors_for roles count h).0 ≡ whole
actors_more left roles role count g h script actors whole is drawn made =
    append_assoc actors ((record { role = role; script = script }) ∷ []) (actors_for roles count h).0
    ∙ ap (λ (d : List Actor × Lcg). actors ++ d.0) (sym (actors_next left roles role count g h script is drawn)) ∙ made

pub actors_left : (left roles : List Role) (role : Role) (count : ℕ) (g h last : Lcg) (script : List Line) → left ≡ role ∷ roles → (script, h) ≡ script_for role count g
    → (actors_for left count g).1 ≡ last → (actors_for roles count h).1 ≡ last
actors_left left roles role count g h last script is drawn rest = ap (λ (d : List Actor × Lcg). d.1) (sym (actors_next left roles role count g h script is drawn)) ∙ rest

-- one more of those from 0 on
pub more_from : {X : Type 0} (f : ℕ → X) (before now next : List X) (k : ℕ) → now ≡ before ++ map f (range_with_len 0 k) → next ≡ now ++ f k ∷ []
    → next ≡ before ++ map f (range_with_len 0 (k + 1))
more_from f before now next k made pushed =
    pushed ∙ ap (λ (xs : List _). xs ++ f k ∷ []) made ∙ append_assoc before (map f (range_with_len 0 k)) (f k ∷ [])
    ∙ ap (λ (xs : List _). before ++ xs) (sym (map-range_with_len_more f 0 k k (omega arith)))

-- the words of a guest's tables are those of the upper ones and those of the last one
pub words_joined : (guest : ℕ) (before middle after : List WordSpec) → middle ≡ before ++ map (table_word guest) (range_with_len 0 3)
    → after ≡ middle ++ map (leaf_word guest) (range_with_len 0 16) → after ≡ before ++ words_for guest
unfolding words_for
words_joined guest before middle after upper last =
    last ∙ ap (λ (xs : List WordSpec). xs ++ map (leaf_word guest) (range_with_len 0 16)) upper
    ∙ append_assoc before (map (table_word guest) (range_with_len 0 3)) (map (leaf_word guest) (range_with_len 0 16))
