-- Worlds that run the same event several times in a row.
use Rattle.std.proofs.Common.{◌≡◌, ◌∙◌, ℕ, zero, suc, ◌+◌, ◌-◌, ◌≤◌, true, List, [], ◌∷◌, ◌++◌, length, replicate, sym, ap, arith, subst, append_assoc, inl, inr}
use Rattle.std.proofs.lemmas.Bool.{cases_Bool}
use Rattle.std.proofs.lemmas.List.{append-nil, length-append, length-replicate, replicate_more}
use Rattle.model.specs.declared.event.Event.{Event}
use Rattle.model.specs.declared.event.Event.TheVariants.{Step}
use Rattle.model.specs.declared.event.Reply.{Reply}
use Rattle.model.specs.declared.event.Reply.TheVariants.{Stepped}
use Rattle.model.specs.Machine.{Applies, AppliesBy, Shows, reply_to}
use Rattle.model.specs.Set.{Set}
use Rattle.model.specs.Shown.{Shown, ShowsWorld}
use Rattle.model.specs.World.{World}
use Rattle.machine.specs.Steps.{MakesSteps, steps_of}
use Rattle.laws_runs.specs.Waits.{WaitingChangesNothing, says_unchanged}
use Rattle.answer_runs.specs.Repeats.{AreReplies, RepeatsBy, settled, told_by}

abbrev pub Repeats : Shown → Event → Shown → List Reply → Type 0
Repeats before e after told = RepeatsBy (λ m. m.set) Shows before e after told

-- the same event once more at the end of a list
pub added : (e : Event) (count : ℕ) (past : List Event)
    → (past ++ replicate count e) ++ e ∷ [] ≡ past ++ replicate (count + 1) e
added e count past =
    append_assoc past (replicate count e) (e ∷ [])
    ∙ ap (λ (events : List Event). past ++ events) (replicate_more count e)

-- a machine of any sort applies an event
module _ {M : Type 0} (set_of : M → Set) (ShowsRun : M → ℕ → List Event → Type 0)
    (before after : M) (e : Event) (reply : Reply)
    (applies : AppliesBy set_of ShowsRun before e after reply) where
  pub once : RepeatsBy set_of ShowsRun before e after (reply ∷ [])
  once =
      record {
        set = applies.set;
        shows = applies.shows;
        are = λ threads past shows. (applies.replies threads past shows, tt);
      }

  -- and shows the run with the event added as before
  module _ (stays : (threads : ℕ) (past : List Event) → ShowsRun before threads past
      → ShowsRun before threads (past ++ e ∷ [])) where
    shown_more : (threads : ℕ) (past : List Event) (count : ℕ) → ShowsRun before threads past
        → ShowsRun before threads (past ++ replicate count e)
    shown_more threads past zero shows =
        subst (λ (events : List Event). ShowsRun before threads events) (sym (append-nil past)) shows
    shown_more threads past (suc count) shows =
        subst (λ (events : List Event). ShowsRun before threads events)
        (append_assoc past (e ∷ []) (replicate count e))
        (shown_more threads (past ++ e ∷ []) count (stays threads past shows))

    replies_again : (threads : ℕ) (past : List Event) (count : ℕ) → ShowsRun before threads past
        → AreReplies (set_of before) threads past e (replicate count reply)
    replies_again threads past zero shows = tt
    replies_again threads past (suc count) shows = (
      applies.replies threads past shows,
      replies_again threads (past ++ e ∷ []) count (stays threads past shows),
    )

    shown_after : (threads : ℕ) (past : List Event) (count : ℕ) → ShowsRun before threads past
        → ShowsRun after threads (past ++ replicate (count + 1) e)
    shown_after threads past count shows =
        subst (λ (events : List Event). ShowsRun after threads events) (added e count past)
        (applies.shows threads (past ++ replicate count e) (shown_more threads past count shows))

    more_times : (count : ℕ)
        → RepeatsBy set_of ShowsRun before e after (replicate (count + 1) reply)
    more_times count =
        record {
          set = applies.set;
          shows = λ threads past shows.
              subst (λ n. ShowsRun after threads (past ++ replicate n e))
              (sym (length-replicate (count + 1) reply)) (shown_after threads past count shows);
          are = λ threads past shows. replies_again threads past (count + 1) shows;
        }

    pub again : (count : ℕ) → 1 ≤ count
        → RepeatsBy set_of ShowsRun before e after (replicate count reply)
    again count some =
        let more : (count - 1) + 1 ≡ count = omega (arith, some) in
        subst (λ n. RepeatsBy set_of ShowsRun before e after (replicate n reply)) more
        (more_times (count - 1))

module _ (before after : Shown) (e : Event) (reply : Reply) (applies : Applies before e after reply)
  where
    -- where nothing has changed, the run with the event added is shown as before
    shown_on : WaitingChangesNothing → says_unchanged reply ≡ true → (threads : ℕ)
        (past : List Event) → Shows before threads past → Shows before threads (past ++ e ∷ [])
    shown_on law same threads past shows =
        subst (λ (w : World). ShowsWorld before w)
        (sym (law before.set threads past e
        (ap (λ r. says_unchanged r) (sym (applies.replies threads past shows)) ∙ same))) shows

    pub settles : WaitingChangesNothing → (count : ℕ) → 1 ≤ count
        → Repeats before e after (told_by (settled reply count))
    settles law count some =
        elim (cases_Bool (says_unchanged reply)) [
          | inl same ↦ rw same (again (λ (m : Shown). m.set) Shows before after e reply applies
              (shown_on law same) count some)
          | inr other ↦ rw other (once (λ (m : Shown). m.set) Shows before after e reply applies)
        ]

module _ (before after : Shown) (t made : ℕ) (reply : Reply)
    (makes : MakesSteps before t made after reply) where
  replies_from : (threads : ℕ) (past : List Event) (k count : ℕ) → Shows before threads past
      → k + count + 1 ≡ made
      → AreReplies before.set threads (past ++ steps_of t k) (Step t)
      (replicate count Stepped ++ reply ∷ [])
  replies_from threads past k zero shows is =
      (makes.last threads past k shows (omega (arith, is)), tt)
  replies_from threads past k (suc count) shows is = (
    sym (makes.earlier threads past k shows (omega (arith, is))),
    subst (λ (events : List Event). AreReplies before.set threads events (Step t)
        (replicate count Stepped ++ reply ∷ [])) (sym (added (Step t) k past))
        (replies_from threads past (k + 1) count shows (omega (arith, is))),
  )

  length_told : 1 ≤ made → length (replicate (made - 1) Stepped ++ reply ∷ []) ≡ made
  length_told some =
      length-append (replicate (made - 1) Stepped) (reply ∷ [])
      ∙ ap (λ n. n + 1) (length-replicate (made - 1) Stepped) ∙ omega (arith, some)

  pub stepped : 1 ≤ made
      → Repeats before (Step t) after (replicate (made - 1) Stepped ++ reply ∷ [])
  stepped some =
      record {
        set = makes.set;
        shows = λ threads past shows.
            subst (λ n. Shows after threads (past ++ replicate n (Step t)))
            (sym (length_told some)) (makes.shows threads past shows);
        are = λ threads past shows.
            subst (λ (events : List Event). AreReplies before.set threads events (Step t)
            (replicate (made - 1) Stepped ++ reply ∷ [])) (append-nil past)
            (replies_from threads past 0 (made - 1) shows (omega (arith, some)));
      }

  -- a single step is an event that is applied
  pub single : made ≡ 1 → Applies before (Step t) after reply
  single one =
      record {
        set = makes.set;
        shows = λ threads past shows.
            subst (λ n. Shows after threads (past ++ steps_of t n)) one
            (makes.shows threads past shows);
        replies = λ threads past shows.
            subst (λ (events : List Event). reply ≡ reply_to before.set threads events (Step t))
            (append-nil past) (makes.last threads past 0 shows (sym one));
      }
