-- The lines of a scenario's text, one after another.
use Rattle.std.proofs.Common.{◌≡◌, ℕ, zero, suc, ◌+◌, ◌<◌, ◌≤◌, List, [], ◌∷◌, ◌++◌, length, get_or, take, drop, refl, ap, sym, ◌∙◌, arith, append_assoc, append-nil, length-drop}
use Rattle.std.specs.Prelude.{codes, decimal, min}
use Rattle.std.proofs.Math.Nat.{min_comm}
use Rattle.std.proofs.lemmas.List.{at_drop_more, drop_all, drop_min, take_min}
use Rattle.snp_model.specs.declared.item.Line.{Line}
use Rattle.snp_model.specs.declared.scenario.Actor.{Actor}
use Rattle.snp_model.specs.declared.scenario.GuestSpec.{GuestSpec}
use Rattle.snp_model.specs.declared.scenario.PageSpec.{PageSpec}
use Rattle.snp_model.specs.declared.scenario.Scenario.{Scenario}
use Rattle.snp_model.specs.declared.scenario.Turn.{Turn}
use Rattle.snp_model.specs.declared.scenario.WordSpec.{WordSpec}
use Rattle.snp_model.specs.Report.{line}
use Rattle.snp_model.specs.ScenarioText.{actor_line, actor_lines, guest_line, guest_lines, head_lines, item_lines, order_lines, order_lines_of, page_line, page_lines, scenario_lines, scenario_text, text_of, turn_words, word_line, word_lines}
use Rattle.snp_model.specs.Spelling.{behind, item_text, joined}

-- the text of no lines
no_text : text_of [] ≡ []
unfolding text_of
no_text = refl

-- a line, and those after it
text_more : (l : List ℕ) (ls : List (List ℕ)) → text_of (l ∷ ls) ≡ line l ++ text_of ls
unfolding text_of
text_more l ls = sym (append_assoc l (10 ∷ []) (text_of ls))

-- lines, and others after them
text_append : (ls ms : List (List ℕ)) → text_of (ls ++ ms) ≡ text_of ls ++ text_of ms
unfolding text_of
text_append [] ms = refl
text_append (l ∷ ls) ms = ap (λ (t : List ℕ). l ++ 10 ∷ t) (text_append ls ms) ∙ sym (append_assoc l (10 ∷ text_of ls) (text_of ms))

-- the line of a guest, and those after it
pub guest_at : (guests : List GuestSpec) (i : ℕ) (d : GuestSpec) (piece : List ℕ) → i < length guests → piece ≡ line (guest_line (i + 1) (get_or guests i d))
    → text_of (guest_lines (i + 1) (drop i guests)) ≡ piece ++ text_of (guest_lines (i + 1 + 1) (drop (i + 1) guests))
unfolding guest_lines
guest_at guests i d piece h e =
    let more = guest_lines (i + 1 + 1) (drop (i + 1) guests) in
    at_drop_more (λ (gs : List GuestSpec). text_of (guest_lines (i + 1) gs)) guests i d h
    ∙ text_more (guest_line (i + 1) (get_or guests i d)) more
    ∙ ap (λ (t : List ℕ). t ++ text_of more) (sym e)

pub no_guests : (number i : ℕ) (guests : List GuestSpec) → length guests ≤ i → text_of (guest_lines number (drop i guests)) ≡ []
unfolding guest_lines
no_guests number i guests h = ap (λ (gs : List GuestSpec). text_of (guest_lines number gs)) (drop_all i guests h) ∙ no_text

-- the line of a page, and those after it
pub page_at : (pages : List PageSpec) (i : ℕ) (d : PageSpec) (piece : List ℕ) → i < length pages → piece ≡ line (page_line (get_or pages i d))
    → text_of (page_lines (drop i pages)) ≡ piece ++ text_of (page_lines (drop (i + 1) pages))
unfolding page_lines
page_at pages i d piece h e =
    let more = page_lines (drop (i + 1) pages) in
    at_drop_more (λ (ps : List PageSpec). text_of (page_lines ps)) pages i d h
    ∙ text_more (page_line (get_or pages i d)) more
    ∙ ap (λ (t : List ℕ). t ++ text_of more) (sym e)

pub no_pages : (i : ℕ) (pages : List PageSpec) → length pages ≤ i → text_of (page_lines (drop i pages)) ≡ []
unfolding page_lines
no_pages i pages h = ap (λ (ps : List PageSpec). text_of (page_lines ps)) (drop_all i pages h) ∙ no_text

-- the line of a word, and those after it
pub word_at : (words : List WordSpec) (i : ℕ) (d : WordSpec) (piece : List ℕ) → i < length words → piece ≡ line (word_line (get_or words i d))
    → text_of (word_lines (drop i words)) ≡ piece ++ text_of (word_lines (drop (i + 1) words))
unfolding word_lines
word_at words i d piece h e =
    let more = word_lines (drop (i + 1) words) in
    at_drop_more (λ (ws : List WordSpec). text_of (word_lines ws)) words i d h
    ∙ text_more (word_line (get_or words i d)) more
    ∙ ap (λ (t : List ℕ). t ++ text_of more) (sym e)

pub no_words : (i : ℕ) (words : List WordSpec) → length words ≤ i → text_of (word_lines (drop i words)) ≡ []
unfolding word_lines
no_words i words h = ap (λ (ws : List WordSpec). text_of (word_lines ws)) (drop_all i words h) ∙ no_text

-- the line of an item, and those after it
pub item_at : (items : List Line) (i : ℕ) (d : Line) (piece : List ℕ) → i < length items → piece ≡ line (item_text (get_or items i d))
    → text_of (item_lines (drop i items)) ≡ piece ++ text_of (item_lines (drop (i + 1) items))
unfolding item_lines
item_at items i d piece h e =
    let more = item_lines (drop (i + 1) items) in
    at_drop_more (λ (ls : List Line). text_of (item_lines ls)) items i d h
    ∙ text_more (item_text (get_or items i d)) more
    ∙ ap (λ (t : List ℕ). t ++ text_of more) (sym e)

pub no_items : (i : ℕ) (items : List Line) → length items ≤ i → text_of (item_lines (drop i items)) ≡ []
unfolding item_lines
no_items i items h = ap (λ (ls : List Line). text_of (item_lines ls)) (drop_all i items h) ∙ no_text

-- the lines of an actor and its items, and those after them
pub actor_at : (actors : List Actor) (i : ℕ) (actor : Actor) → i < length actors → actor ≡ get_or actors i actor
    → text_of (actor_lines (i + 1) (drop i actors))
    ≡ (line (actor_line (i + 1) actor.role) ++ text_of (item_lines actor.script)) ++ text_of (actor_lines (i + 1 + 1) (drop (i + 1) actors))
unfolding actor_lines
actor_at actors i actor h is =
    let rest = drop (i + 1) actors in
    let items = item_lines actor.script in
    let others = actor_lines (i + 1 + 1) rest in
    let first : List ℕ = line (actor_line (i + 1) actor.role) in
    at_drop_more (λ (left : List Actor). text_of (actor_lines (i + 1) left)) actors i actor h
    ∙ ap (λ (a : Actor). text_of (actor_lines (i + 1) (a ∷ rest))) (sym is)
    ∙ text_more (actor_line (i + 1) actor.role) (items ++ others)
    ∙ ap (λ (t : List ℕ). first ++ t) (text_append items others)
    ∙ sym (append_assoc first (text_of items) (text_of others))

pub no_actors : (number i : ℕ) (actors : List Actor) → length actors ≤ i → text_of (actor_lines number (drop i actors)) ≡ []
unfolding actor_lines
no_actors number i actors h = ap (λ (left : List Actor). text_of (actor_lines number left)) (drop_all i actors h) ∙ no_text

-- more room than there are runs changes no order line
order_enough : (n m : ℕ) (turns : List Turn) → length turns ≤ n → length turns ≤ m → order_lines_of n turns ≡ order_lines_of m turns
unfolding order_lines_of
order_enough zero zero turns p q = refl
order_enough zero (suc m) [] p q = refl
order_enough zero (suc m) (t ∷ ts) p q = absurd (omega arith)
order_enough (suc n) zero [] p q = refl
order_enough (suc n) zero (t ∷ ts) p q = absurd (omega arith)
order_enough (suc n) (suc m) [] p q = refl
order_enough (suc n) (suc m) (t ∷ ts) p q =
    let long = length-drop 16 (t ∷ ts) in
    ap (λ (ls : List (List ℕ)). joined (codes "order" ∷ turn_words (take 16 (t ∷ ts))) ∷ ls) (order_enough n m (drop 16 (t ∷ ts)) (omega (arith, long)) (omega (arith, long)))

-- the first order line, and those after it
order_first : (turns : List Turn) → 0 < length turns
    → text_of (order_lines turns) ≡ line (joined (codes "order" ∷ turn_words (take 16 turns))) ++ text_of (order_lines (drop 16 turns))
unfolding order_lines order_lines_of
order_first [] some = absurd (omega arith)
order_first (t ∷ ts) some =
    let first : List ℕ = joined (codes "order" ∷ turn_words (take 16 (t ∷ ts))) in
    let rest : List Turn = drop 16 (t ∷ ts) in
    let long = length-drop 16 (t ∷ ts) in
    ap (λ (ls : List (List ℕ)). text_of (first ∷ ls)) (order_enough (length ts) (length rest) rest (omega (arith, long)) (omega arith))
    ∙ text_more first (order_lines_of (length rest) rest)

-- the line of a few runs, and those after it
pub order_at : (count : ℕ) (turns runs more : List Turn) (piece : List ℕ) → 0 < length turns → count ≡ min (length turns) 16
    → runs ≡ take count turns → more ≡ drop count turns → piece ≡ line (joined (codes "order" ∷ turn_words runs))
    → text_of (order_lines turns) ≡ piece ++ text_of (order_lines more)
order_at count turns runs more piece some c r m e =
    let few : count ≡ min 16 (length turns) = c ∙ min_comm (length turns) 16 in
    let first : runs ≡ take 16 turns = r ∙ ap (λ (n : ℕ). take n turns) few ∙ take_min 16 turns in
    let rest : more ≡ drop 16 turns = m ∙ ap (λ (n : ℕ). drop n turns) few ∙ drop_min 16 turns in
    rw (e, first, rest) (order_first turns some)

pub order_done : (turns : List Turn) → length turns ≡ 0 → text_of (order_lines turns) ≡ []
unfolding order_lines order_lines_of
order_done [] none = no_text
order_done (t ∷ ts) none = absurd (omega arith)

-- a run as a word, and those after it
pub turn_at : (front done : List ℕ) (turns : List Turn) (i : ℕ) (d : Turn) → i < length turns
    → done ≡ front ++ (32 ∷ (decimal (get_or turns i d).actor ++ 42 ∷ decimal (get_or turns i d).count))
    → front ++ behind (turn_words (drop i turns)) ≡ done ++ behind (turn_words (drop (i + 1) turns))
unfolding turn_words
turn_at front done turns i d h e =
    let turn = get_or turns i d in
    let said : List ℕ = 32 ∷ (decimal turn.actor ++ 42 ∷ decimal turn.count) in
    let more = behind (turn_words (drop (i + 1) turns)) in
    ap (λ (t : List ℕ). front ++ t) (at_drop_more (λ (ts : List Turn). behind (turn_words ts)) turns i d h)
    ∙ sym (append_assoc front said more)
    ∙ ap (λ (t : List ℕ). t ++ more) (sym e)

-- nothing is left behind the last run
pub turns_end : (front : List ℕ) (i : ℕ) (turns : List Turn) → length turns ≤ i → front ++ behind (turn_words (drop i turns)) ≡ front
unfolding turn_words
turns_end front i turns h = ap (λ (ts : List Turn). front ++ behind (turn_words ts)) (drop_all i turns h) ∙ append-nil front

-- the parts of the text
pub parts_of_text : (c : Scenario) → scenario_text c
    ≡ text_of (head_lines c.version c.regions) ++ (text_of (guest_lines 1 c.guests) ++ (text_of (page_lines c.pages) ++ (text_of (word_lines c.words)
    ++ (text_of (actor_lines 1 c.actors) ++ (text_of (order_lines c.order) ++ codes "end\n")))))
unfolding scenario_text scenario_lines text_of
parts_of_text c =
    let end : List (List ℕ) = codes "end" ∷ [] in
    let order = order_lines c.order in
    let actors = actor_lines 1 c.actors in
    let words = word_lines c.words in
    let pages = page_lines c.pages in
    let guests = guest_lines 1 c.guests in
    text_append (head_lines c.version c.regions) (guests ++ (pages ++ (words ++ (actors ++ (order ++ end)))))
    ∙ ap (λ (t : List ℕ). text_of (head_lines c.version c.regions) ++ t)
    (text_append guests (pages ++ (words ++ (actors ++ (order ++ end))))
    ∙ ap (λ (t : List ℕ). text_of guests ++ t)
    (text_append pages (words ++ (actors ++ (order ++ end)))
    ∙ ap (λ (t : List ℕ). text_of pages ++ t)
    (text_append words (actors ++ (order ++ end))
    ∙ ap (λ (t : List ℕ). text_of words ++ t)
    (text_append actors (order ++ end)
    ∙ ap (λ (t : List ℕ). text_of actors ++ t) (text_append order end)))))
