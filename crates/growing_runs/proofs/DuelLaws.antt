-- What a duel keeps of its scenario.
use Rattle.std.proofs.Common.{◌≡◌, ◌≢◌, ℕ, ◌-◌, ◌<◌, ◌≤◌, ◌^◌, Bool, true, false, ◌&&◌, ◌||◌, eqb, nat_lt, List, [], ◌∷◌, ◌++◌, get_or, Option, Some, None, refl, sym, ap, ◌∙◌, subst, arith}
use Rattle.std.proofs.lemmas.Bool.{cond_both, eqb-true, ltb-true, true≢false}
use Rattle.std.proofs.lemmas.List.{length-set}
use Rattle.std.specs.List.{AllByRecursion}
use Rattle.snp_model.specs.declared.event.Deed.{Deed}
use Rattle.snp_model.specs.declared.event.Deed.TheVariants as deeds
use Rattle.snp_model.specs.declared.event.Event.{Event}
use Rattle.snp_model.specs.declared.event.Outcome.{Outcome}
use Rattle.snp_model.specs.declared.item.Item.{Item}
use Rattle.snp_model.specs.declared.item.Line.{Line}
use Rattle.snp_model.specs.declared.scenario.Actor.{Actor}
use Rattle.snp_model.specs.declared.scenario.Role.{Role}
use Rattle.snp_model.specs.declared.scenario.Role.TheVariants.{Cpu, Host, Firmware}
use Rattle.snp_model.specs.declared.scenario.Scenario.{Scenario}
use Rattle.snp_model.specs.Bounds.{IsItemOf}
use Rattle.snp_model.specs.ScenarioLines.{frames_of}
use Rattle.run_laws.proofs.RunLaws.{at_set}
use Rattle.growing_runs.specs.declared.sight.Duel.{Duel}
use Rattle.growing_runs.specs.declared.sight.Sight.{Sight}
use Rattle.growing_runs.specs.Drives.{IsDeedInside, MayTake}
use Rattle.growing_runs.specs.Plain.{IsPlain}
use Rattle.growing_runs.specs.Duels.{IsAnswer, IsDuelOf, IsSight, TakesPart, answers_left, counted, has_answer, seen, sight_of, with_deed, with_outcome}
use Rattle.growing_runs.specs.Extending.{actor_of, appended, idle_actor, lengthened, once, with_script}

-- the two differ
is_firmware : Role → Bool
is_firmware (Cpu guest vmpl npt paging) = false
is_firmware Host = false
is_firmware Firmware = true

pub duel_apart : (d : Duel) (c : Scenario) → IsDuelOf d c → d.host ≢ d.firmware
unfolding is_firmware
duel_apart d c is same =
    let roles : Role.Host ≡ Role.Firmware = sym is.host.role_is ∙ ap (λ (k : ℕ). (actor_of c k).role) same ∙ is.firmware.role_is in
    true≢false (sym (ap is_firmware roles))

-- an actor that takes part may take an item that fits
fits_by : (c : Scenario) (actor other frames : ℕ) (role : Role) (item : Item) → actor ≡ other → TakesPart c other role → frames ≡ frames_of c → IsPlain item → IsItemOf frames role item → MayTake c actor item
fits_by c actor other frames role item same part frames_are plain fits =
    let there : MayTake c other item = record {
      some = part.some;
      there = part.there;
      script = part.plain;
      plain = plain;
      fits = subst (λ (r : Role). IsItemOf (frames_of c) r item) (sym part.role_is) (subst (λ (n : ℕ). IsItemOf n role item) frames_are fits);
    } in
    subst (λ (k : ℕ). MayTake c k item) (sym same) there

-- who has an answer left and isn't the firmware is the host
host_has : (d : Duel) (actor : ℕ) → eqb actor d.firmware ≡ false → has_answer d actor ≡ true → (actor ≡ d.host) × (d.by_host < d.rounds)
host_has d actor other has = from (eqb actor d.host) (nat_lt d.by_host d.rounds) (eqb actor d.firmware) (nat_lt d.by_firmware d.rounds) refl refl other has
  where
    from : (h low f few : Bool) → eqb actor d.host ≡ h → nat_lt d.by_host d.rounds ≡ low → f ≡ false → ((h && low) || (f && few)) ≡ true → (actor ≡ d.host) × (d.by_host < d.rounds)
    from true true f few is less no_ or = (eqb-true actor d.host is, ltb-true d.by_host d.rounds less)
    from true false true few is less no_ or = absurd (true≢false no_)
    from true false false few is less no_ or = absurd (true≢false (sym or))
    from false low true few is less no_ or = absurd (true≢false no_)
    from false low false few is less no_ or = absurd (true≢false (sym or))

firmware_has : (d : Duel) (actor : ℕ) → d.host ≢ d.firmware → eqb actor d.firmware ≡ true → has_answer d actor ≡ true → d.by_firmware < d.rounds
firmware_has d actor apart same has = from (eqb actor d.host) (nat_lt d.by_host d.rounds) (eqb actor d.firmware) (nat_lt d.by_firmware d.rounds) refl refl has
  where
    from : (h low f few : Bool) → eqb actor d.host ≡ h → nat_lt d.by_firmware d.rounds ≡ few → ((h && low) || (f && few)) ≡ true → d.by_firmware < d.rounds
    from h low f true is less or = ltb-true d.by_firmware d.rounds less
    from true low f false is less or = absurd (apart (sym (eqb-true actor d.host is) ∙ eqb-true actor d.firmware same))
    from false low true false is less or = absurd (true≢false (sym or))
    from false low false false is less or = absurd (true≢false (sym or))

-- so its answer fits
pub duel_fits : (d : Duel) (c : Scenario) (actor : ℕ) (item : Item) → IsDuelOf d c → has_answer d actor ≡ true → IsAnswer (sight_of d actor) item → MayTake c actor item
duel_fits d c actor item is has answer =
    cond_both (eqb actor d.firmware) _ _ (λ (sight : Sight). IsAnswer sight item → MayTake c actor item)
    (λ same given. fits_by c actor d.firmware d.frames Firmware item (eqb-true actor d.firmware same) is.firmware is.frames given.plain given.fits)
    (λ other given. fits_by c actor d.host d.frames Host item (host_has d actor other has).0 is.host is.frames given.plain given.fits) answer

-- a script without skips may go on
all_both : {X : Type 0} (P : X → Type 0) (xs ys : List X) → AllByRecursion P xs → AllByRecursion P ys → AllByRecursion P (xs ++ ys)
all_both P [] ys one other = other
all_both P (x ∷ xs) ys one other = (one.0, all_both P xs ys one.1 other)

takes_more : (c : Scenario) (actor other : ℕ) (role : Role) (item : Item) → TakesPart c other role → IsPlain item → TakesPart (appended actor item c) other role
unfolding with_script
takes_more c actor other role item part plain =
    let lines : List Line = once item ∷ [] in
    let x : Actor = lengthened lines (actor_of c actor) in
    let there = part.there in
    let lengths = length-set c.actors (actor - 1) x in
    record {
      some = part.some;
      there = omega arith;
      role_is = at_set (λ (a : Actor). a.role ≡ role) c.actors (actor - 1) (other - 1) x idle_actor part.role_is
          (λ same within. subst (λ (k : ℕ). (get_or c.actors k idle_actor).role ≡ role) same part.role_is);
      plain = at_set (λ (a : Actor). AllByRecursion (λ (line : Line). IsPlain line.item) a.script) c.actors (actor - 1) (other - 1) x idle_actor part.plain
          (λ same within. all_both (λ (line : Line). IsPlain line.item) (actor_of c actor).script lines (subst (λ (k : ℕ). AllByRecursion (λ (line : Line). IsPlain line.item) (get_or c.actors k idle_actor).script) same part.plain) (plain, tt));
    }

regions_same : (c : Scenario) (actor : ℕ) (item : Item) → (appended actor item c).regions ≡ c.regions
unfolding with_script
regions_same c actor item = refl

pub duel_suits : (d : Duel) (c : Scenario) (actor : ℕ) (item : Item) → IsDuelOf d c → IsAnswer (sight_of d actor) item → IsDuelOf (counted d actor) (appended actor item c)
duel_suits d c actor item is answer =
    let same = regions_same c actor item in
    let frames = is.frames in
    let some = is.regions_some in
    let most = is.regions_most in
    let plain = cond_both (eqb actor d.firmware) _ _ (λ (sight : Sight). IsAnswer sight item → IsPlain item) (λ _ given. given.plain) (λ _ given. given.plain) answer in
    let host = takes_more c actor d.host Host item is.host plain in
    let firmware = takes_more c actor d.firmware Firmware item is.firmware plain in
    cond_both (eqb actor d.firmware) _ _ (λ (e : Duel). IsDuelOf e (appended actor item c))
    (λ _. record { frames = omega arith; regions_some = omega arith; regions_most = omega arith; frame = is.frame; gpn = is.gpn; host = host; firmware = firmware })
    (λ _. record { frames = omega arith; regions_some = omega arith; regions_most = omega arith; frame = is.frame; gpn = is.gpn; host = host; firmware = firmware })

-- an answer leaves fewer
pub duel_ends : (a b : Duel) (c : Scenario) (actor : ℕ) → IsDuelOf a c → has_answer a actor ≡ true → b ≡ counted a actor → answers_left b < answers_left a
duel_ends a b c actor is has becomes =
    subst (λ (d : Duel). answers_left d < answers_left a) (sym becomes)
    (cond_both (eqb actor a.firmware) _ _ (λ (d : Duel). answers_left d < answers_left a)
    (λ same. let less = firmware_has a actor (duel_apart a c is) same has in omega arith)
    (λ other. let less = (host_has a actor other has).1 in omega arith))

-- what is seen leaves all but what is shown
pub record SeenFrom (old new : Duel) : Type 0 where
  pub frames : new.frames ≡ old.frames
  pub host : new.host ≡ old.host
  pub firmware : new.firmware ≡ old.firmware
  pub rounds : new.rounds ≡ old.rounds
  pub by_host : new.by_host ≡ old.by_host
  pub by_firmware : new.by_firmware ≡ old.by_firmware

seen_same : (d : Duel) → SeenFrom d d
seen_same d = record { frames = refl; host = refl; firmware = refl; rounds = refl; by_host = refl; by_firmware = refl }

deed_leaves : (deed : Deed) (d : Duel) → SeenFrom d (with_deed deed d)
unfolding with_deed
deed_leaves (deeds.Access gpn index frame private) d = record { frames = refl; host = refl; firmware = refl; rounds = refl; by_host = refl; by_firmware = refl }
deed_leaves deed d = seen_same d

outcome_leaves : (actor : ℕ) (outcome : Option Outcome) (old d : Duel) → SeenFrom old d → SeenFrom old (with_outcome actor outcome d)
unfolding with_outcome
outcome_leaves actor None old d from = from
outcome_leaves actor (Some outcome) old d from =
    cond_both (eqb actor d.firmware) _ _ (SeenFrom old)
    (λ _. record { frames = from.frames; host = from.host; firmware = from.firmware; rounds = from.rounds; by_host = from.by_host; by_firmware = from.by_firmware })
    (λ _. cond_both (eqb actor d.host) _ _ (SeenFrom old)
    (λ _. record { frames = from.frames; host = from.host; firmware = from.firmware; rounds = from.rounds; by_host = from.by_host; by_firmware = from.by_firmware }) (λ _. from))

pub seen_leaves : (d : Duel) (actor : ℕ) (event : Event) → SeenFrom d (seen actor event d)
seen_leaves d actor event = outcome_leaves actor event.outcome d (with_deed event.deed d) (deed_leaves event.deed d)

record Shows (frames : ℕ) (d : Duel) : Type 0 where
  frame : d.frame < frames
  gpn : d.gpn < 2 ^ 36

deed_shows : (frames : ℕ) (deed : Deed) (d : Duel) → IsDeedInside frames deed → Shows frames d → Shows frames (with_deed deed d)
unfolding with_deed
deed_shows frames (deeds.Access gpn index frame private) d inside shows = record { frame = inside.1; gpn = inside.0 }
deed_shows frames deed d inside shows = shows

outcome_shows : (frames actor : ℕ) (outcome : Option Outcome) (d : Duel) → Shows frames d → Shows frames (with_outcome actor outcome d)
unfolding with_outcome
outcome_shows frames actor None d shows = shows
outcome_shows frames actor (Some outcome) d shows =
    cond_both (eqb actor d.firmware) _ _ (Shows frames) (λ _. record { frame = shows.frame; gpn = shows.gpn })
    (λ _. cond_both (eqb actor d.host) _ _ (Shows frames) (λ _. record { frame = shows.frame; gpn = shows.gpn }) (λ _. shows))

pub duel_sees : (d : Duel) (c : Scenario) (actor : ℕ) (event : Event) → IsDuelOf d c → IsDeedInside (frames_of c) event.deed → IsDuelOf (seen actor event d) c
duel_sees d c actor event is inside =
    let leaves = seen_leaves d actor event in
    let low = is.frame in
    let frames = is.frames in
    let shows = outcome_shows (frames_of c) actor event.outcome (with_deed event.deed d) (deed_shows (frames_of c) event.deed d inside (record { frame = omega arith; gpn = is.gpn })) in
    let here = shows.frame in
    let same = leaves.frames in
    record {
      frames = leaves.frames ∙ is.frames;
      regions_some = is.regions_some;
      regions_most = is.regions_most;
      frame = omega arith;
      gpn = shows.gpn;
      host = subst (λ (k : ℕ). TakesPart c k Host) (sym leaves.host) is.host;
      firmware = subst (λ (k : ℕ). TakesPart c k Firmware) (sym leaves.firmware) is.firmware;
    }

pub duel_keeps : (a b : Duel) (actor : ℕ) (event : Event) → b ≡ seen actor event a → answers_left b ≤ answers_left a
duel_keeps a b actor event becomes =
    subst (λ (d : Duel). answers_left d ≤ answers_left a) (sym becomes)
    (let leaves = seen_leaves a actor event in
    let one = leaves.rounds in
    let two = leaves.by_host in
    let three = leaves.by_firmware in
    omega arith)

-- a sight of it is in range
pub sight_inside : (d : Duel) (c : Scenario) (actor : ℕ) → IsDuelOf d c → IsSight (sight_of d actor)
sight_inside d c actor is =
    let frames = is.frames in
    let some = is.regions_some in
    let most = is.regions_most in
    cond_both (eqb actor d.firmware) _ _ IsSight
    (λ _. record { whole = omega arith; some = omega arith; most = omega arith; frame = is.frame; gpn = is.gpn })
    (λ _. record { whole = omega arith; some = omega arith; most = omega arith; frame = is.frame; gpn = is.gpn })

-- counting is in range
pub by_host_less : (d : Duel) (actor : ℕ) → eqb actor d.firmware ≡ false → has_answer d actor ≡ true → d.by_host < d.rounds
by_host_less d actor other has = (host_has d actor other has).1

pub by_firmware_less : (d : Duel) (actor : ℕ) → d.host ≢ d.firmware → eqb actor d.firmware ≡ true → has_answer d actor ≡ true → d.by_firmware < d.rounds
by_firmware_less d actor apart same has = firmware_has d actor apart same has
