-- Threads in turn.
use Rattle.std.proofs.Common.{◌≡◌, ◌≢◌, ◌∙◌, ◌<◌, ◌≤◌, ◌+◌, ◌-◌, ℕ, zero, suc, true, false, Bool, Option, None, Some, refl, sym, subst, ap, arith, inl, inr, if◌then◌else◌}
use Rattle.std.specs.Prelude.{◌&&◌, ◌||◌, is_none, is_some, nat_eq, not}
use Rattle.std.proofs.lemmas.Bool.{ne_eqb, or_parts}
use Rattle.std.proofs.lemmas.Bool.Decides.{eqb_tells}
use Rattle.laws_runs.specs.Waiting.{waits_for}
use Rattle.model.specs.declared.event.Event.TheVariants as event
use Rattle.model.specs.Set.{Set}
use Rattle.model.specs.View.{busy_at}
use Rattle.model.specs.World.{World}
use Rattle.scenario_world.specs.declared.until.Until.{Until}
use Rattle.scenario_world.specs.declared.until.Until.TheVariants.{Never, At, Release, Waiting, Alone}
use Rattle.scenario_world.specs.Going.{IsLone, goes_on as goes_in, other_goes_on, other_is_busy}
use Rattle.scenario_world.specs.Until.{MaySteps, StaysLone, wakes}
use Rattle.scenario_world.proofs.AnyGoes.{any_by}
use Rattle.scenario_run.specs.declared.playing.Outcome.{Outcome}
use Rattle.scenario_run.specs.declared.playing.Outcome.TheVariants.{Done, Waits, Fails}
use Rattle.scenario_run.specs.Going.{Ends, GoesAhead, moves, rests}
use Rattle.scenario_run.specs.Playing.{Playing, Went, happened, one, stays, unless_failed, world_of}
use Rattle.scenario_run.specs.declared.turns.Progress.{Progress}
use Rattle.scenario_run.specs.declared.turns.Progress.TheVariants.{Over, Left}
use Rattle.scenario_run.specs.Turns.{AreRounds, after_round, any_goes_on, goes_on, round, rounds, turn}
use Rattle.scenario_run.proofs.Apart.{busy_apart, one_threads}

-- where no thread goes on
abbrev Later : ℕ → Bool → Playing → Went
Later left on p =
    if on then (let first = round p.threads 0 p in
    unless_failed first.outcome first (rounds left first.now)) else stays p Done

pub rounds_over : (left : ℕ) (p : Playing) → 0 < left → any_goes_on p p.threads ≡ false
    → stays p Done ≡ rounds left p
rounds_over zero p some over = absurd (omega (arith, some))
rounds_over (suc left) p some over = ap (λ b. Later left b p) (sym over)

-- behind a round that went so
pub rounds_behind : (left : ℕ) (p q : Playing) (outcome : Outcome) → 0 < left
    → any_goes_on p p.threads ≡ true
    → record { now = q; outcome = outcome } ≡ round p.threads 0 p
    → AreRounds left p q (after_round outcome left)
rounds_behind zero p q outcome some on h = absurd (omega (arith, some))
rounds_behind (suc left) p q Fails some on h =
    ap (λ (w : Went). unless_failed w.outcome w (rounds left w.now)) h
    ∙ ap (λ b. Later left b p) (sym on)
rounds_behind (suc left) p q Done some on h =
    let less : left ≡ suc left - 1 = omega arith in (
      omega arith,
      subst (λ (k : ℕ). rounds k q ≡ rounds (suc left) p) less
          (ap (λ (w : Went). unless_failed w.outcome w (rounds left w.now)) h
          ∙ ap (λ b. Later left b p) (sym on)),
    )
rounds_behind (suc left) p q Waits some on h =
    let less : left ≡ suc left - 1 = omega arith in (
      omega arith,
      subst (λ (k : ℕ). rounds k q ≡ rounds (suc left) p) less
          (ap (λ (w : Went). unless_failed w.outcome w (rounds left w.now)) h
          ∙ ap (λ b. Later left b p) (sym on)),
    )

-- rounds of what goes as all does
pub rounds_of : (most left : ℕ) (p b q : Playing) (gone : Progress) → left ≤ most
    → rounds left b ≡ rounds most p → AreRounds left b q gone → AreRounds most p q gone
rounds_of most left p b q (Over outcome) less same are = are ∙ same
rounds_of most left p b q (Left rest) less same are =
    let fewer : rest < left = are.0 in (omega (arith, less, fewer), are.1 ∙ same)

-- behind a turn
pub later_by : (outcome : Outcome) (here later : Went) → outcome ≢ Fails
    → later ≡ unless_failed outcome here later
later_by Done here later fine = refl
later_by Waits here later fine = refl
later_by Fails here later fine = absurd (fine refl)

pub failed_by : (outcome : Outcome) (here later : Went) → outcome ≡ Fails
    → here ≡ unless_failed outcome here later
failed_by Fails here later fails = refl
failed_by Done here later fails = cc
failed_by Waits here later fails = cc

pub rests_at : (p : Playing) (t : ℕ) → goes_on p t ≡ false → stays p Done ≡ turn p t
rests_at p t off =
    ap (λ (b : Bool). if b then one p (event.Step t) else stays p Done) (sym off)

pub goes_at : (p : Playing) (t : ℕ) → goes_on p t ≡ true → one p (event.Step t) ≡ turn p t
goes_at p t on = ap (λ (b : Bool). if b then one p (event.Step t) else stays p Done) (sym on)

-- where no other one does, none of them makes its turn
rests_by : (p : Playing) (t threads : ℕ) → other_goes_on p.set (world_of p) t threads ≡ false
    → (u : ℕ) → u < threads → u ≢ t → goes_on p u ≡ false
rests_by p t zero lone u less apart = absurd (omega (arith, less))
rests_by p t (suc v) lone u less apart =
    let both = or_parts (other_goes_on p.set (world_of p) t v)
    (not (nat_eq v t) && goes_on p v) lone in
    elim (eqb_tells u v) [
      | inl same ↦
          let other : v ≢ t = λ h. apart (same.1 ∙ h) in
          ap (λ (x : ℕ). goes_on p x) same.1
          ∙ sym (ap (λ (b : Bool). not b && goes_on p v) (ne_eqb v t other))
          ∙ both.1
      | inr away ↦
          let other : u ≢ v = away.1 in
          let fewer : u < v = omega (arith, less, other) in
          rests_by p t v both.0 u fewer apart
    ]

module _ (p : Playing) where
  -- so many turns that aren't made
  pub skipped : (count more u : ℕ) → ((v : ℕ) → u ≤ v → v < u + count → goes_on p v ≡ false)
      → round (count + more) u p ≡ round more (u + count) p
  skipped zero more u rest =
      let none : 0 + more ≡ more = omega arith in
      let same : u ≡ u + 0 = omega arith in
      ap (λ (k : ℕ). round k u p) none ∙ ap (λ (v : ℕ). round more v p) same
  skipped (suc count) more u rest =
      let grown : suc count + more ≡ suc (count + more) = omega arith in
      let next : suc u + count ≡ u + suc count = omega arith in
      let here : goes_on p u ≡ false = rest u (omega arith) (omega arith) in
      let first : turn p u ≡ stays p Done =
      ap (λ (b : Bool). if b then one p (event.Step u) else stays p Done) here in
      let later : (v : ℕ) → suc u ≤ v → v < suc u + count → goes_on p v ≡ false =
      λ v low high. rest v (omega (arith, low)) (omega (arith, high)) in
      ap (λ (k : ℕ). round k u p) grown
      ∙ ap (λ (w : Went). unless_failed w.outcome w (round (count + more) (suc u) w.now)) first
      ∙ skipped count more (suc u) later
      ∙ ap (λ (v : ℕ). round more v p) next

  -- a round in which one thread goes on
  module _ (t : ℕ) (less : t < p.threads) (on : goes_on p t ≡ true)
      (lone : other_goes_on p.set (world_of p) t p.threads ≡ false) where
    lone_round : (q : Playing) (outcome : Outcome)
        → record { now = q; outcome = outcome } ≡ one p (event.Step t)
        → unless_failed outcome (record { now = q; outcome = outcome })
        (round (p.threads - suc t) (suc t) q) ≡ round p.threads 0 p
    lone_round q outcome gone =
        let left : ℕ = p.threads - suc t in
        let all : t + suc left ≡ p.threads = omega (arith, less) in
        let below : (v : ℕ) → 0 ≤ v → v < 0 + t → goes_on p v ≡ false = λ v low high.
        rests_by p t p.threads lone v (omega (arith, high, less))
        (λ same. absurd (omega (arith, high, same))) in
        let mine : one p (event.Step t) ≡ turn p t =
        ap (λ (b : Bool). if b then one p (event.Step t) else stays p Done) (sym on) in
        let begin : t ≡ 0 + t = omega arith in
        ap (λ (w : Went). unless_failed w.outcome w (round left (suc t) w.now)) (gone ∙ mine)
        ∙ ap (λ (v : ℕ). round (suc left) v p) begin
        ∙ sym (skipped t (suc left) 0 below)
        ∙ ap (λ (k : ℕ). round k 0 p) all

    pub any_on : any_goes_on p p.threads ≡ true
    any_on = any_by p.set (world_of p) t p.threads less on

-- where a thread stays alone until then, it goes on where it may make its step
none_by : (o : Option ℕ) → is_some o ≡ false → is_none o ≡ true
none_by None h = refl
none_by (Some n) h = let no : true ≡ false = h in cc

abbrev Lone : Until → Playing → ℕ → Type 0
Lone until p t = StaysLone until p.set (world_of p) t p.threads

going_so : (p : Playing) (t : ℕ) → busy_at (world_of p) t ≡ true
    → is_some (waits_for p.set (world_of p) t) ≡ false → goes_on p t ≡ true
going_so p t busy short =
    ap (λ (b : Bool). b && is_none (waits_for p.set (world_of p) t)) busy
    ∙ none_by (waits_for p.set (world_of p) t) short

going_by : (until : Until) (p : Playing) (t : ℕ) → Lone until p t
    → MaySteps until p.set (world_of p) t → goes_on p t ≡ true
going_by Never p t lone may = absurd lone
going_by (At spot) p t lone may = absurd lone
going_by (Release lock) p t lone may = absurd lone
going_by Waiting p t lone may = going_so p t may.busy may.short
going_by (Alone threads) p t lone may = going_so p t may.busy may.short

-- no other one does
less_busy : (a b c : Bool) → (a && b) ≡ false → (a && (b && c)) ≡ false
less_busy true true c h = let no : true ≡ false = h in cc
less_busy true false c h = refl
less_busy false b c h = refl

idle_rest : (set : Set) (w : World) (t n : ℕ) → other_is_busy w t n ≡ false
    → other_goes_on set w t n ≡ false
idle_rest set w t zero idle = refl
idle_rest set w t (suc u) idle =
    let both = or_parts (other_is_busy w t u) (not (nat_eq u t) && busy_at w u) idle in
    ap (λ (b : Bool). b || (not (nat_eq u t) && goes_in set w u)) (idle_rest set w t u both.0)
    ∙ less_busy (not (nat_eq u t)) (busy_at w u) (is_none (waits_for set w u)) both.1

lone_rest : (until : Until) (p : Playing) (t : ℕ) → Lone until p t
    → other_goes_on p.set (world_of p) t p.threads ≡ false
lone_rest Never p t lone = absurd lone
lone_rest (At spot) p t lone = absurd lone
lone_rest (Release lock) p t lone = absurd lone
lone_rest Waiting p t lone = idle_rest p.set (world_of p) t p.threads lone
lone_rest (Alone threads) p t lone = lone.1

-- behind a step of it too
idle_next : (p : Playing) (t n : ℕ)
    → other_is_busy (world_of (happened p (event.Step t))) t n ≡ other_is_busy (world_of p) t n
idle_next p t zero = refl
idle_next p t (suc u) =
    let w : World = world_of (happened p (event.Step t)) in
    let counts : World → Bool → Bool = λ v same. not same && busy_at v u in
    let last : counts w (nat_eq u t) ≡ counts (world_of p) (nat_eq u t) =
    elim (eqb_tells u t) [
      | inl same ↦ ap (λ b. counts w b) same.0 ∙ sym (ap (λ b. counts (world_of p) b) same.0)
      | inr apart ↦
          ap (λ (b : Bool). not (nat_eq u t) && b)
          (busy_apart p t u (λ same. apart.1 (sym same)))
    ] in
    ap (λ (b : Bool). b || counts w (nat_eq u t)) (idle_next p t u)
    ∙ ap (λ (b : Bool). other_is_busy (world_of p) t u || b) last

lone_next : (until : Until) (p q : Playing) (t : ℕ) (outcome : Outcome) → Lone until p t
    → record { now = q; outcome = outcome } ≡ one p (event.Step t)
    → wakes until q.set (world_of q) t ≡ false → Lone until q t
lone_next Never p q t outcome lone gone still = absurd lone
lone_next (At spot) p q t outcome lone gone still = absurd lone
lone_next (Release lock) p q t outcome lone gone still = absurd lone
lone_next Waiting p q t outcome lone gone still =
    let threads : q.threads ≡ p.threads = one_threads p q (event.Step t) outcome gone in
    ap (λ (x : Playing). other_is_busy (world_of x) t q.threads) (ap (λ (w : Went). w.now) gone)
    ∙ idle_next p t q.threads
    ∙ ap (λ (n : ℕ). other_is_busy (world_of p) t n) threads
    ∙ lone
lone_next (Alone threads) p q t outcome lone gone still =
    let same : q.threads ≡ p.threads = one_threads p q (event.Step t) outcome gone in
    let all : threads ≡ q.threads = lone.0 ∙ sym same in
    (all, subst (λ (n : ℕ). other_goes_on q.set (world_of q) t n ≡ false) all still)

-- rounds in which one thread alone goes on, and no other one behind them
record Moved (until : Until) (p : Playing) (t k : ℕ) (q : Playing) : Type 0 where
  go : (left : ℕ) → rounds left q ≡ rounds (left + k) p
  threads : q.threads ≡ p.threads
  lone : Lone until q t

lone_moved : (until : Until) (p : Playing) (t : ℕ) → t < p.threads → Lone until p t → (k : ℕ)
    (q : Playing) → GoesAhead until t p k q → Moved until p t k q
lone_moved until p t less lone j q rests =
    record {
      go = λ left.
          let same : left ≡ left + 0 = omega arith in ap (λ (n : ℕ). rounds n p) same;
      threads = refl;
      lone = lone;
    }
lone_moved until p t less lone j o (moves k q n before may gone still) =
    let m : Moved until p t k q = lone_moved until p t less lone k q before in
    let threads : q.threads ≡ p.threads = m.threads in
    let on : goes_on q t ≡ true = going_by until q t m.lone may in
    let inside : t < q.threads = subst (λ (x : ℕ). t < x) (sym threads) less in
    let alone : other_goes_on q.set (world_of q) t q.threads ≡ false =
    lone_rest until q t m.lone in
    let now_alone : Lone until n t = lone_next until q n t Done m.lone gone still in
    let now_threads : n.threads ≡ q.threads = one_threads q n (event.Step t) Done gone in
    let left_over : ℕ = q.threads - suc t in
    let rest : (v : ℕ) → suc t ≤ v → v < suc t + left_over → goes_on n v ≡ false =
    λ v low high. rests_by n t n.threads (lone_rest until n t now_alone) v
    (omega (arith, high, inside, now_threads)) (λ same. absurd (omega (arith, low, same))) in
    let none : left_over + 0 ≡ left_over = omega arith in
    let over : round left_over (suc t) n ≡ stays n Done =
    ap (λ (x : ℕ). round x (suc t) n) (sym none) ∙ skipped n left_over 0 (suc t) rest in
    let round_so : record { now = n; outcome = Done } ≡ round q.threads 0 q =
    sym over ∙ lone_round q t inside on alone n Done gone in
    record {
      go = λ left.
          let next : suc left + k ≡ left + suc k = omega arith in
          ap (λ (w : Went). unless_failed w.outcome w (rounds left w.now)) round_so
          ∙ ap (λ b. Later left b q) (sym (any_on q t inside on alone))
          ∙ m.go (suc left)
          ∙ ap (λ (i : ℕ). rounds i p) next;
      threads = now_threads ∙ threads;
      lone = now_alone;
    }

stays_put : (until : Until) (p : Playing) (t k : ℕ) (q : Playing) → GoesAhead until t p k q
    → k ≡ 0 → q ≡ p
stays_put until p t j q rests none = refl
stays_put until p t j o (moves k q n before may gone still) none = absurd (omega (arith, none))

module _ (until : Until) (p : Playing) (t most rest : ℕ)
    (is : IsLone p.set (world_of p) p.threads t) (lone : Lone until p t) (less : rest ≤ most) where
  gone_so : (q : Playing) → GoesAhead until t p (most - rest) q → rounds rest q ≡ rounds most p
  gone_so q goes =
      let all : rest + (most - rest) ≡ most = omega (arith, less) in
      (lone_moved until p t is.0 lone (most - rest) q goes).go rest
      ∙ ap (λ (n : ℕ). rounds n p) all

  -- some are left
  pub lone_left : (q : Playing) → GoesAhead until t p (most - rest) q → rest < most
      → AreRounds most p q (Left rest)
  lone_left q goes fewer = (fewer, gone_so q goes)

  -- none was made, and then one of all threads
  pub lone_round_of_all : (q o : Playing) (outcome : Outcome) → 0 < rest
      → GoesAhead until t p (most - rest) q → most ≤ rest
      → record { now = o; outcome = outcome } ≡ round (q.threads - 0) 0 q
      → AreRounds most p o (after_round outcome rest)
  lone_round_of_all q o outcome some goes all h =
      let every : q.threads - 0 ≡ q.threads = omega arith in
      let none : most - rest ≡ 0 = omega (arith, all) in
      let same : q ≡ p = stays_put until p t (most - rest) q goes none in
      let on : any_goes_on q q.threads ≡ true =
      subst (λ (x : Playing). any_goes_on x x.threads ≡ true) (sym same)
      (any_on p t is.0 is.1 is.2) in
      rounds_of most rest p q o (after_round outcome rest) less (gone_so q goes)
      (rounds_behind rest q o outcome some on (h ∙ ap (λ (n : ℕ). round n 0 q) every))

  -- one more was made, and its round ended by the turns of those behind it
  lone_ends : (q o : Playing) (outcome last : Outcome) → 0 < rest
      → Ends until t p (most - rest) outcome q
      → record { now = o; outcome = last }
      ≡ unless_failed outcome (record { now = q; outcome = outcome })
      (round (q.threads - suc t) (suc t) q)
      → AreRounds most p o (after_round last rest)
  lone_ends q o outcome last some e h =
      let b : Playing = e.before in
      let m : Moved until p t (most - rest) b =
      lone_moved until p t is.0 lone (most - rest) b e.ahead in
      let on : goes_on b t ≡ true = going_by until b t m.lone e.may in
      let inside : t < b.threads = subst (λ (x : ℕ). t < x) (sym m.threads) is.0 in
      let alone : other_goes_on b.set (world_of b) t b.threads ≡ false =
      lone_rest until b t m.lone in
      let round_so : record { now = o; outcome = last } ≡ round b.threads 0 b =
      h
      ∙ ap (λ (x : ℕ). unless_failed outcome (record { now = q; outcome = outcome })
      (round (x - suc t) (suc t) q)) (one_threads b q (event.Step t) outcome e.ends)
      ∙ lone_round b t inside on alone q outcome e.ends in
      rounds_of most rest p b o (after_round last rest) less (gone_so b e.ahead)
      (rounds_behind rest b o last some (any_on b t inside on alone) round_so)

  pub lone_fails : (q : Playing) (outcome : Outcome) → 0 < rest → outcome ≡ Fails
      → Ends until t p (most - rest) outcome q → AreRounds most p q (after_round Fails rest)
  lone_fails q outcome some fails e =
      let later : Went = round (q.threads - suc t) (suc t) q in
      lone_ends q q outcome Fails some e
      (ap (λ (x : Outcome). record { now = q; outcome = x }) (sym fails)
      ∙ failed_by outcome (record { now = q; outcome = outcome }) later fails)

  pub lone_turned : (q o : Playing) (outcome last : Outcome) → 0 < rest → outcome ≢ Fails
      → Ends until t p (most - rest) outcome q
      → record { now = o; outcome = last } ≡ round (q.threads - (t + 1)) (t + 1) q
      → AreRounds most p o (after_round last rest)
  lone_turned q o outcome last some fine e h =
      let next : t + 1 ≡ suc t = omega arith in
      let later : Went = round (q.threads - suc t) (suc t) q in
      lone_ends q o outcome last some e
      (h
      ∙ ap (λ (u : ℕ). round (q.threads - u) u q) next
      ∙ later_by outcome (record { now = q; outcome = outcome }) later fine)
