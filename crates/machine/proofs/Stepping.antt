-- Steps of one thread that are made one after another.
use Rattle.std.proofs.Common.{◌≡◌, ◌∙◌, ◌+◌, ◌-◌, ◌<◌, ℕ, List, [], ◌∷◌, ◌++◌, ap, arith, inl, inr, refl, sym, subst}
use Rattle.std.proofs.lemmas.Bool.{cases_lt}
use Rattle.std.proofs.lemmas.List.{append-nil, append_assoc, replicate-append-replicate, replicate_more}
use Rattle.model.specs.declared.event.Event.{Event}
use Rattle.model.specs.declared.event.Event.TheVariants.{Step}
use Rattle.model.specs.declared.event.Reply.{Reply}
use Rattle.model.specs.declared.event.Reply.TheVariants.{Stepped}
use Rattle.model.specs.Machine.{Applies, Shows, reply_to}
use Rattle.model.specs.Set.{Set}
use Rattle.model.specs.Shown.{Shown}
use Rattle.machine.specs.Runs.{StepsThreads}
use Rattle.machine.specs.Steps.{MakesSteps, Stepping, steps_of}

pub none_made : (m : Shown) (t : ℕ) → Stepping m t 0 m
none_made m t =
    record {
      set = refl;
      shows = λ threads events shows.
          subst (λ (es : List Event). Shows m threads es) (sym (append-nil events)) shows;
      each = λ threads events k shows lt. absurd (omega (arith, lt));
    }

-- one step more at the end of a list
step_added : (t made : ℕ) (events : List Event)
    → (events ++ steps_of t made) ++ Step t ∷ [] ≡ events ++ steps_of t (made + 1)
step_added t made events =
    append_assoc events (steps_of t made) (Step t ∷ [])
    ∙ ap (λ (es : List Event). events ++ es) (replicate_more made (Step t))

module _ (before m n : Shown) (t made : ℕ) (reply : Reply) (h : Stepping before t made m)
    (applies : Applies m (Step t) n reply) where
  shown_next : (threads : ℕ) (events : List Event) → Shows before threads events
      → Shows n threads (events ++ steps_of t (made + 1))
  shown_next threads events shows =
      subst (λ (es : List Event). Shows n threads es) (step_added t made events)
      (applies.shows threads (events ++ steps_of t made) (h.shows threads events shows))

  replied : (threads : ℕ) (events : List Event) → Shows before threads events
      → reply ≡ reply_to before.set threads (events ++ steps_of t made) (Step t)
  replied threads events shows =
      let R : Set → Type 0 =
      λ s. reply ≡ reply_to s threads (events ++ steps_of t made) (Step t) in
      subst R h.set
      (applies.replies threads (events ++ steps_of t made) (h.shows threads events shows))

  pub one_more : MakesSteps before t (made + 1) n reply
  one_more =
      record {
        set = applies.set ∙ h.set;
        shows = shown_next;
        earlier = λ threads events k shows lt. h.each threads events k shows (omega (arith, lt));
        last = λ threads events k shows is.
            let same : made ≡ k = omega (arith, is) in
            let R : ℕ → Type 0 =
            λ i. reply ≡ reply_to before.set threads (events ++ steps_of t i) (Step t) in
            subst R same (replied threads events shows);
      }

  each_next : reply ≡ Stepped → (threads : ℕ) (events : List Event) (k : ℕ)
      → Shows before threads events → k < made + 1
      → reply_to before.set threads (events ++ steps_of t k) (Step t) ≡ Stepped
  each_next stepped threads events k shows lt =
      elim (cases_lt k made) [
        | inl below ↦ h.each threads events k shows below
        | inr past ↦ (let same : made ≡ k = omega (arith, lt, past) in
            let R : ℕ → Type 0 =
            λ i. reply_to before.set threads (events ++ steps_of t i) (Step t) ≡ Stepped in
            subst R same (sym (replied threads events shows) ∙ stepped))
      ]

  pub stepped_on : reply ≡ Stepped → Stepping before t (made + 1) n
  stepped_on stepped =
      record { set = applies.set ∙ h.set; shows = shown_next; each = each_next stepped }

pub steps_from : (before m : Shown) (t made : ℕ) (reply : Reply) → Stepping before t made m
    → StepsThreads m (Step t) reply → StepsThreads before (Step t) reply
steps_from before m t made reply h steps threads events u shows below is =
    steps threads (events ++ steps_of t made) u (h.shows threads events shows) below is

-- steps after steps
module _ (before m n : Shown) (t made more : ℕ) (h : Stepping before t made m)
    (g : Stepping m t more n) where
  joined : (events : List Event) (k : ℕ)
      → (events ++ steps_of t made) ++ steps_of t k ≡ events ++ steps_of t (made + k)
  joined events k =
      append_assoc events (steps_of t made) (steps_of t k)
      ∙ ap (λ (es : List Event). events ++ es) (replicate-append-replicate made k (Step t))

  each_joined : (threads : ℕ) (events : List Event) (k : ℕ) → Shows before threads events
      → k < made + more → reply_to before.set threads (events ++ steps_of t k) (Step t) ≡ Stepped
  each_joined threads events k shows lt =
      elim (cases_lt k made) [
        | inl below ↦ h.each threads events k shows below
        | inr past ↦
            let same : made + (k - made) ≡ k = omega (arith, past) in
            let replied : reply_to m.set threads ((events ++ steps_of t made)
            ++ steps_of t (k - made)) (Step t) ≡ Stepped =
            g.each threads (events ++ steps_of t made) (k - made) (h.shows threads events shows)
            (omega (arith, lt, past)) in
            subst (λ (i : ℕ). reply_to before.set threads (events ++ steps_of t i) (Step t)
            ≡ Stepped) same
            (subst (λ (es : List Event). reply_to before.set threads es (Step t) ≡ Stepped)
            (joined events (k - made))
            (subst (λ (s : Set). reply_to s threads ((events ++ steps_of t made)
            ++ steps_of t (k - made)) (Step t) ≡ Stepped) h.set replied))
      ]

  pub stepped_more : Stepping before t (made + more) n
  stepped_more =
      record {
        set = g.set ∙ h.set;
        shows = λ threads events shows.
            subst (λ (es : List Event). Shows n threads es) (joined events more)
            (g.shows threads (events ++ steps_of t made) (h.shows threads events shows));
        each = each_joined;
      }
