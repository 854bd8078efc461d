-- Rounds of those threads that go on.
use Rattle.std.proofs.Common.{◌≡◌, ◌≢◌, ◌∙◌, ◌<◌, ◌≤◌, ◌+◌, ◌-◌, ◌⊎◌, ℕ, zero, suc, true, false, Bool, List, [], ◌∷◌, drop, drop-cons, drop_of_length-le, get_or, length, refl, sym, subst, ap, arith, inl, inr, true≢false, if◌then◌else◌, slice_get}
use Rattle.std.specs.Prelude.{◌||◌}
use Rattle.std.proofs.lemmas.Bool.{cases_lt}
use Rattle.std.proofs.lemmas.Bool.Decides.{eqb_tells}
use Rattle.model.specs.declared.event.Event.TheVariants as event
use Rattle.model.specs.Set.{Set}
use Rattle.model.specs.World.{World}
use Rattle.scenario_world.specs.declared.goers.Awaited.{Awaited}
use Rattle.scenario_world.specs.declared.goers.Goers.{Goers}
use Rattle.scenario_world.specs.Goers.{are_owned, going_from}
use Rattle.scenario_world.specs.Going.{goes_on as goes_in}
use Rattle.scenario_world.proofs.AnyGoes.{any_by}
use Rattle.scenario_run.specs.declared.playing.Outcome.{Outcome}
use Rattle.scenario_run.specs.declared.playing.Outcome.TheVariants.{Done, Waits, Fails}
use Rattle.scenario_run.specs.Playing.{Playing, Went, happened, has_room, one, stays, unless_failed, world_of}
use Rattle.scenario_run.specs.declared.turns.Round.TheVariants.{Over, Failed, Changed, Same}
use Rattle.scenario_run.specs.declared.turns.Turn.{Turn}
use Rattle.scenario_run.specs.declared.turns.Turn.TheVariants.{Skipped, Failed as FailedTurn, Made, Freed}
use Rattle.scenario_run.specs.Turns.{GoesRound, IsMade, IsRound, IsTurn, Rests, any_goes_on, goes_on, round, rounds, turn}
use Rattle.scenario_run.proofs.Apart.{frames_apart, one_threads, same_set}
use Rattle.scenario_run.proofs.Turning.{failed_by, goes_at, later_by, rests_at, rounds_behind, rounds_over, skipped}

-- of a list of those of so many threads that go on, the first, and none before it
record Head (set : Set) (w : World) (n s t : ℕ) (others : List ℕ) : Type 0 where
  low : s ≤ t
  within : t < n
  on : goes_in set w t ≡ true
  off : (u : ℕ) → s ≤ u → u < t → goes_in set w u ≡ false
  behind : others ≡ going_from (n - suc t) (suc t) set w

abbrev Headed : Set → World → ℕ → ℕ → List ℕ → Type 0
Headed set w n s [] = (u : ℕ) → s ≤ u → u < n → goes_in set w u ≡ false
Headed set w n s (t ∷ others) = Head set w n s t others

module _ (set : Set) (w : World) where
  off_or : (s u : ℕ) → s ≤ u → goes_in set w s ≡ false
      → (suc s ≤ u → goes_in set w u ≡ false) → goes_in set w u ≡ false
  off_or s u low off later =
      elim (eqb_tells u s) [
        | inl same ↦ ap (λ (v : ℕ). goes_in set w v) same.1 ∙ off
        | inr apart ↦ let other : u ≢ s = apart.1 in later (omega (arith, low, other))
      ]

  lower : (n s : ℕ) (list : List ℕ) → goes_in set w s ≡ false → Headed set w n (suc s) list
      → Headed set w n s list
  lower n s [] off h = λ u low high. off_or s u low off (λ more. h u more high)
  lower n s (t ∷ others) off h =
      let above : suc s ≤ t = h.low in
      record {
        low = omega (arith, above);
        within = h.within;
        on = h.on;
        off = λ u low high. off_or s u low off (λ more. h.off u more high);
        behind = h.behind;
      }

  headed_by : (count s : ℕ) (b : Bool) → goes_in set w s ≡ b
      → Headed set w (suc s + count) (suc s) (going_from count (suc s) set w)
      → Headed set w (suc s + count) s
      (if b then s ∷ going_from count (suc s) set w else going_from count (suc s) set w)
  headed_by count s true on later =
      let left : count ≡ (suc s + count) - suc s = omega arith in
      record {
        low = omega arith;
        within = omega arith;
        on = on;
        off = λ u low high. absurd (omega (arith, low, high));
        behind = ap (λ (k : ℕ). going_from k (suc s) set w) left;
      }
  headed_by count s false off later =
      lower (suc s + count) s (going_from count (suc s) set w) off later

  headed : (count s : ℕ) → Headed set w (s + count) s (going_from count s set w)
  headed zero s = λ u low high. absurd (omega (arith, low, high))
  headed (suc count) s =
      let all : suc s + count ≡ s + suc count = omega arith in
      subst (λ (n : ℕ). Headed set w n s (going_from (suc count) s set w)) all
      (headed_by count s (goes_in set w s) refl (headed count (suc s)))

-- behind a turn that didn't fail
made_on : (left t : ℕ) (q o : Playing) → goes_on q t ≡ true → IsMade t q o
    → round left (suc t) o ≡ round (suc left) t q
made_on left t q o on made =
    let here : Went = record { now = o; outcome = made.0 } in
    later_by made.0 here (round left (suc t) o) made.1
    ∙ ap (λ (w : Went). unless_failed w.outcome w (round left (suc t) w.now))
    (made.2 ∙ goes_at q t on)

next_of : (left t : ℕ) (q o : Playing) (awaited : List Awaited) (turn : Turn)
    → IsTurn awaited t q o turn → turn ≢ FailedTurn
    → round left (suc t) o ≡ round (suc left) t q
next_of left t q o awaited Skipped is fine =
    ap (λ (x : Playing). round left (suc t) x) is.1
    ∙ ap (λ (w : Went). unless_failed w.outcome w (round left (suc t) w.now))
    (rests_at q t is.0)
next_of left t q o awaited FailedTurn is fine = absurd (fine refl)
next_of left t q o awaited Made is fine = made_on left t q o is.0 is.1
next_of left t q o awaited Freed is fine = made_on left t q o is.0 is.1

pub turns_on : (threads t : ℕ) (q o : Playing) (awaited : List Awaited) (turn : Turn) → t < threads
    → IsTurn awaited t q o turn → turn ≢ FailedTurn
    → round (threads - (t + 1)) (t + 1) o ≡ round (threads - t) t q
turns_on threads t q o awaited turn less is fine =
    let more : suc (threads - suc t) ≡ threads - t = omega (arith, less) in
    let next : t + 1 ≡ suc t = omega arith in
    ap (λ (u : ℕ). round (threads - u) u o) next
    ∙ next_of (threads - suc t) t q o awaited turn is fine
    ∙ ap (λ (k : ℕ). round k t q) more

-- a round ends in a step that fails, or is done
unless_ends : (outcome : Outcome) (here later : Went) → here.outcome ≡ outcome
    → later.outcome ≢ Waits → (unless_failed outcome here later).outcome ≢ Waits
unless_ends Done here later is fine = fine
unless_ends Waits here later is fine = fine
unless_ends Fails here later is fine = λ waits. cc

pub never_waits : (count t : ℕ) (p : Playing) → (round count t p).outcome ≢ Waits
never_waits zero t p = λ waits. cc
never_waits (suc count) t p =
    let first : Went = turn p t in
    unless_ends first.outcome first (round count (suc t) first.now) refl
    (never_waits count (suc t) first.now)

pub ends_done : (count t : ℕ) (p q : Playing) (outcome : Outcome)
    → record { now = q; outcome = outcome } ≡ round count t p
    → (outcome ≡ Done) ⊎ (outcome ≡ Waits) → record { now = q; outcome = Done } ≡ round count t p
ends_done count t p q outcome went (inl done) =
    ap (λ (o : Outcome). record { now = q; outcome = o }) (sym done) ∙ went
ends_done count t p q outcome went (inr waits) =
    absurd (never_waits count t p (ap (λ (w : Went). w.outcome) (sym went) ∙ waits))

-- where threads rest
module _ (goers : Goers) (p : Playing) (rests : Rests goers p) where
  rest_off : (u : ℕ) → u < rests.first.threads → goes_on rests.first u ≡ false
      → goes_on p u ≡ false
  rest_off u less off =
      ap (λ (s : Set). goes_in s (world_of p) u) rests.set
      ∙ rests.among.others u less off (world_of p) (rests.frames u off) rests.owned

  -- behind the step of one that doesn't
  stepped : (t : ℕ) (q : Playing) (outcome : Outcome) → goes_on rests.first t ≡ true
      → record { now = q; outcome = outcome } ≡ one p (event.Step t)
      → are_owned (world_of q).shared.locks goers.awaited.items ≡ true → Rests goers q
  stepped t q outcome on gone owned =
      let is : q ≡ happened p (event.Step t) = ap (λ (w : Went). w.now) gone in
      record {
        first = rests.first;
        among = rests.among;
        set = ap (λ (x : Playing). x.set) is ∙ same_set p (event.Step t) (has_room p) ∙ rests.set;
        threads = one_threads p q (event.Step t) outcome gone ∙ rests.threads;
        few = rests.few;
        frames = λ u off.
            let apart : t ≢ u = λ same.
            true≢false (sym on ∙ ap (λ (v : ℕ). goes_on rests.first v) same ∙ off) in
            ap (λ (x : Playing). slice_get (world_of x).threads u) is
            ∙ frames_apart p t u apart
            ∙ rests.frames u off;
        owned = owned;
      }

-- so far in a round: the turns that are left go as all do
pub record Rounding (goers : Goers) (p : Playing) (index : ℕ) (others : List ℕ) (q : Playing)
    (made : ℕ) : Type 0 where
  pub at : ℕ
  pub rests : Rests goers q
  pub within : at ≤ q.threads
  pub listed : others
      ≡ going_from (q.threads - at) at rests.first.set (world_of rests.first)
  pub goes : round (q.threads - at) at q ≡ round p.threads 0 p
  pub threads : q.threads ≡ p.threads
  pub none : made ≡ 0 → (q ≡ p) × ((u : ℕ) → u < at → goes_on p u ≡ false)
  pub some : 0 < made → any_goes_on p p.threads ≡ true
  pub few : made ≤ index

pub rounding_none : (goers : Goers) (p : Playing) → Rests goers p
    → Rounding goers p 0 goers.threads.items p 0
rounding_none goers p rests =
    let all : rests.first.threads ≡ p.threads - 0 = sym rests.threads ∙ omega arith in
    let whole : p.threads - 0 ≡ p.threads = omega arith in
    record {
      at = 0;
      rests = rests;
      within = omega arith;
      listed =
          rests.among.listed
          ∙ ap (λ (k : ℕ). going_from k 0 rests.first.set (world_of rests.first)) all;
      goes = ap (λ (k : ℕ). round k 0 p) whole;
      threads = refl;
      none = λ nobody. (refl, λ u less. absurd (omega (arith, less)));
      some = λ more. absurd (omega (arith, more));
      few = omega arith;
    }

module _ (goers : Goers) (p : Playing) (index : ℕ) (t : ℕ) (others : List ℕ) (q : Playing)
    (made : ℕ) (so_far : Rounding goers p index (t ∷ others) q made) where
  abbrev first : Playing
  first = so_far.rests.first

  head : Head first.set (world_of first) q.threads so_far.at t others
  head =
      let s : ℕ = so_far.at in
      let within : s ≤ q.threads = so_far.within in
      let all : s + (q.threads - s) ≡ q.threads = omega (arith, within) in
      subst (λ (n : ℕ). Head first.set (world_of first) n s t others) all
      (subst (λ (l : List ℕ). Headed first.set (world_of first) (s + (q.threads - s)) s l)
      (sym so_far.listed) (headed first.set (world_of first) (q.threads - s) s))

  -- there are fewer than it is said there may be
  pub few_threads : t + 1 < 256
  few_threads =
      let within : t < q.threads = head.within in
      let all : q.threads ≡ first.threads = so_far.rests.threads in
      let few : first.threads ≤ 64 = so_far.rests.few in
      omega (arith, within, all, few)

  between : (u : ℕ) → so_far.at ≤ u → u < t → goes_on q u ≡ false
  between u low high =
      let within : t < q.threads = head.within in
      let less : u < first.threads =
      subst (λ (n : ℕ). u < n) so_far.rests.threads (omega (arith, high, within)) in
      rest_off goers q so_far.rests u less (head.off u low high)

  to_turn : round (suc (q.threads - suc t)) t q ≡ round p.threads 0 p
  to_turn =
      let s : ℕ = so_far.at in
      let low : s ≤ t = head.low in
      let within : t < q.threads = head.within in
      let more : ℕ = suc (q.threads - suc t) in
      let all : (t - s) + more ≡ q.threads - s = omega (arith, low, within) in
      let here : s + (t - s) ≡ t = omega (arith, low) in
      let off : (u : ℕ) → s ≤ u → u < s + (t - s) → goes_on q u ≡ false =
      λ u above below. between u above (omega (arith, low, below)) in
      sym (ap (λ (k : ℕ). round k s q) (sym all)
      ∙ skipped q (t - s) more s off
      ∙ ap (λ (u : ℕ). round more u q) here)
      ∙ so_far.goes

  pub skips : (o : Playing) → goes_on q t ≡ false → o ≡ q
      → Rounding goers p (suc index) others o made
  skips o off same =
      let within : t < q.threads = head.within in
      let few : made ≤ index = so_far.few in
      subst (λ (x : Playing). Rounding goers p (suc index) others x made) (sym same)
      (record {
        at = suc t;
        rests = so_far.rests;
        within = omega (arith, within);
        listed = head.behind;
        goes =
            ap (λ (w : Went). unless_failed w.outcome w (round (q.threads - suc t) (suc t) w.now))
            (rests_at q t off)
            ∙ to_turn;
        threads = so_far.threads;
        none = λ nobody.
            let before = so_far.none nobody in (
              before.0,
              λ u less.
                  subst (λ (x : Playing). goes_on x u ≡ false) before.0
                  (elim (eqb_tells u t) [
                    | inl here ↦ ap (λ (v : ℕ). goes_on q v) here.1 ∙ off
                    | inr apart ↦
                        let other : u ≢ t = apart.1 in
                        elim (cases_lt u so_far.at) [
                          | inl early ↦
                              subst (λ (x : Playing). goes_on x u ≡ false) (sym before.0)
                              (before.1 u early)
                          | inr late ↦ between u late (omega (arith, less, other))
                        ]
                  ]),
            );
        some = so_far.some;
        few = omega (arith, few);
      })

  any_made : goes_on q t ≡ true → any_goes_on p p.threads ≡ true
  any_made on =
      elim (eqb_tells made 0) [
        | inl nobody ↦
            let within : t < p.threads =
            subst (λ (n : ℕ). t < n) so_far.threads head.within in
            any_by p.set (world_of p) t p.threads within
            (ap (λ (x : Playing). goes_on x t) (sym (so_far.none nobody.1).0) ∙ on)
        | inr more ↦ let other : made ≢ 0 = more.1 in so_far.some (omega (arith, other))
      ]

  -- behind a step that was made
  turned : (o : Playing) → goes_on q t ≡ true → IsMade t q o
      → round (q.threads - suc t) (suc t) o ≡ round p.threads 0 p
  turned o on made_so = made_on (q.threads - suc t) t q o on made_so ∙ to_turn

  pub makes : (o : Playing) → goes_on q t ≡ true → IsMade t q o
      → are_owned (world_of o).shared.locks goers.awaited.items ≡ true
      → Rounding goers p (suc index) others o (made + 1)
  unfolding stepped
  makes o on made_so owned =
      let within : t < q.threads = head.within in
      let few : made ≤ index = so_far.few in
      let outcome : Outcome = made_so.0 in
      let same : o.threads ≡ q.threads = one_threads q o (event.Step t) outcome made_so.2 in
      record {
        at = suc t;
        rests = stepped goers q so_far.rests t o outcome head.on made_so.2 owned;
        within = subst (λ (n : ℕ). suc t ≤ n) (sym same) (omega (arith, within));
        listed =
            head.behind
            ∙ ap (λ (n : ℕ). going_from (n - suc t) (suc t) first.set (world_of first)) (sym same);
        goes =
            ap (λ (n : ℕ). round (n - suc t) (suc t) o) same
            ∙ turned o on made_so;
        threads = same ∙ so_far.threads;
        none = λ nobody. absurd (omega (arith, nobody));
        some = λ more. any_made on;
        few = omega (arith, few);
      }

  pub fails : (o : Playing) → goes_on q t ≡ true
      → record { now = o; outcome = Fails } ≡ one q (event.Step t) → GoesRound p o Fails
  fails o on gone =
      let here : Went = record { now = o; outcome = Fails } in
      let left : ℕ = q.threads - suc t in (
        any_made on,
        failed_by Fails here (round left (suc t) o) refl
            ∙ ap (λ (w : Went). unless_failed w.outcome w (round left (suc t) w.now))
            (gone ∙ goes_at q t on)
            ∙ to_turn,
      )

  -- the turns behind it are those of all
  pub frees : (o end : Playing) (last : Outcome) → goes_on q t ≡ true → IsMade t q o
      → record { now = end; outcome = last } ≡ round (o.threads - (t + 1)) (t + 1) o
      → GoesRound p end last
  frees o end last on made_so h =
      let outcome : Outcome = made_so.0 in
      let same : o.threads ≡ q.threads = one_threads q o (event.Step t) outcome made_so.2 in
      let next : t + 1 ≡ suc t = omega arith in (
        any_made on,
        h
            ∙ ap (λ (u : ℕ). round (o.threads - u) u o) next
            ∙ ap (λ (n : ℕ). round (n - suc t) (suc t) o) same
            ∙ turned o on made_so,
      )

none_at : (p : Playing) (n : ℕ) → ((u : ℕ) → u < n → goes_on p u ≡ false)
    → any_goes_on p n ≡ false
none_at p zero none = refl
none_at p (suc n) none =
    ap (λ (b : Bool). b || goes_on p n) (none_at p n (λ u less. none u (omega (arith, less))))
    ∙ none n (omega arith)

-- the next of them
pub at_turn : (goers : Goers) (p : Playing) (index : ℕ) (q : Playing) (made : ℕ) (slice : List ℕ)
    → slice ≡ goers.threads.items → index < length slice
    → Rounding goers p index (drop index goers.threads.items) q made
    → Rounding goers p index (get_or slice index 0 ∷ drop (suc index) goers.threads.items) q made
at_turn goers p index q made slice same less so_far =
    subst (λ (l : List ℕ). Rounding goers p index l q made)
    (ap (λ (l : List ℕ). drop index l) (sym same)
    ∙ drop-cons slice index 0 less
    ∙ ap (λ (l : List ℕ). get_or slice index 0 ∷ drop (suc index) l) same) so_far

pub at_end : (goers : Goers) (p : Playing) (index : ℕ) (q : Playing) (made : ℕ) (slice : List ℕ)
    → slice ≡ goers.threads.items → length slice ≤ index
    → Rounding goers p index (drop index goers.threads.items) q made
    → Rounding goers p index [] q made
at_end goers p index q made slice same over so_far =
    subst (λ (l : List ℕ). Rounding goers p index l q made)
    (ap (λ (l : List ℕ). drop index l) (sym same) ∙ drop_of_length-le slice over) so_far

-- behind the last of them
module _ (goers : Goers) (p : Playing) (index : ℕ) (q : Playing) (made : ℕ)
    (so_far : Rounding goers p index [] q made) where
  others_off : (u : ℕ) → so_far.at ≤ u → u < q.threads → goes_on q u ≡ false
  others_off u low high =
      let first : Playing = so_far.rests.first in
      let s : ℕ = so_far.at in
      let within : s ≤ q.threads = so_far.within in
      let all : s + (q.threads - s) ≡ q.threads = omega (arith, within) in
      let none : Headed first.set (world_of first) (s + (q.threads - s)) s [] =
      subst (λ (l : List ℕ). Headed first.set (world_of first) (s + (q.threads - s)) s l)
      (sym so_far.listed) (headed first.set (world_of first) (q.threads - s) s) in
      rest_off goers q so_far.rests u
      (subst (λ (n : ℕ). u < n) so_far.rests.threads high)
      (none u low (subst (λ (n : ℕ). u < n) (sym all) high))

  whole : record { now = q; outcome = Done } ≡ round p.threads 0 p
  whole =
      let s : ℕ = so_far.at in
      let within : s ≤ q.threads = so_far.within in
      let count : ℕ = q.threads - s in
      let all : count + 0 ≡ count = omega arith in
      let off : (u : ℕ) → s ≤ u → u < s + count → goes_on q u ≡ false =
      λ u low high. others_off u low (omega (arith, high, within)) in
      sym (ap (λ (k : ℕ). round k s q) (sym all) ∙ skipped q count 0 s off) ∙ so_far.goes

  pub round_over : made ≡ 0 → IsRound goers p q Over
  round_over nobody =
      let before = so_far.none nobody in (
        none_at p p.threads
            (λ u less.
            elim (cases_lt u so_far.at) [
              | inl early ↦ before.1 u early
              | inr late ↦
                  subst (λ (x : Playing). goes_on x u ≡ false) before.0
                  (others_off u late (subst (λ (n : ℕ). u < n) (sym so_far.threads) less))
            ]),
        before.0,
      )

  pub round_changed : 0 < made → IsRound goers p q Changed
  round_changed more = (so_far.some more, whole)

  pub round_same : 0 < made → IsRound goers p q Same
  round_same more = ((so_far.some more, whole), so_far.rests)

-- several rounds
pub several_over : (goers : Goers) (left : ℕ) (p q : Playing) → 0 < left → IsRound goers p q Over
    → stays q Done ≡ rounds left p
several_over goers left p q some h =
    ap (λ (x : Playing). stays x Done) h.1 ∙ rounds_over left p some h.0

pub several_changed : (goers : Goers) (most left : ℕ) (p q o : Playing) → 0 < left → left ≤ most
    → rounds left q ≡ rounds most p → IsRound goers q o Changed
    → (left - 1 < most) × (rounds (left - 1) o ≡ rounds most p)
several_changed goers most left p q o some few same h =
    let are : (left - 1 < left) × (rounds (left - 1) o ≡ rounds left q) =
    rounds_behind left q o Done some h.0 h.1 in
    (omega (arith, some, few), are.1 ∙ same)

pub several_failed : (goers : Goers) (most left : ℕ) (p q o : Playing) → 0 < left
    → rounds left q ≡ rounds most p → IsRound goers q o Failed
    → record { now = o; outcome = Fails } ≡ rounds most p
several_failed goers most left p q o some same h =
    rounds_behind left q o Fails some h.0 h.1 ∙ same
