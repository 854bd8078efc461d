-- What holds in the state of entry, and is kept by each instruction that breaks no rule, holds in
-- every state that arrives at a position.
use Rattle.laws_runs.proofs.Prelude.{inl, inr, refl, subst, List, None, Option, Some, [], slice_get, ℕ, ◌∷◌, ◌≡◌, ◌⊎◌, entry_state, handed, handed_at_label, outs, outs_by, refuses, rule_or, Along, Arrives, HandsOn, LeadsFrom, Branches, Closes, Flow, Jumps, Leaves, Member, Onward, Opens, flow_of, label_of, Abs, Rule, Instr}

module _ (P : Abs → Type 0) (m : Member) (begins : (s : Abs) → entry_state m ≡ Some s → P s)
    (next : (s : Abs) (i : Instr) (q : ℕ) → slice_get m.routine.code q ≡ Some i
    → refuses s i m.routine.sort m.set m.driver ≡ None → P s → P (handed m.set m.driver s i))
    (label : (s : Abs) (i : Instr) (q : ℕ) → slice_get m.routine.code q ≡ Some i
    → refuses s i m.routine.sort m.set m.driver ≡ None → P s → P (handed_at_label s i)) where
  outs_keep : (flow : Flow) (s after here : Abs) → P after → P here
      → ((outs_by flow after here).next ≡ Some s) ⊎ ((outs_by flow after here).jump ≡ Some s) → P s
  outs_keep Onward s after here h other (inl out) = let same : after ≡ s = cc in subst P same h
  outs_keep Onward s after here h other (inr out) = cc
  outs_keep (Branches l) s after here h other (inl out) =
      let same : after ≡ s = cc in subst P same h
  outs_keep (Branches l) s after here h other (inr out) =
      let same : here ≡ s = cc in subst P same other
  outs_keep (Jumps l) s after here h other (inl out) = cc
  outs_keep (Jumps l) s after here h other (inr out) =
      let same : here ≡ s = cc in subst P same other
  outs_keep (Opens turns) s after here h other (inl out) =
      let same : after ≡ s = cc in subst P same h
  outs_keep (Opens turns) s after here h other (inr out) = cc
  outs_keep Closes s after here h other (inl out) = let same : after ≡ s = cc in subst P same h
  outs_keep Closes s after here h other (inr out) = cc
  outs_keep Leaves s after here h other (inl out) = cc
  outs_keep Leaves s after here h other (inr out) = cc

  hands_keep : (rule : Option Rule) (i : Instr) (q p : ℕ) (before s : Abs)
      → slice_get m.routine.code q ≡ Some i
      → refuses before i m.routine.sort m.set m.driver ≡ rule
      → HandsOn (rule_or rule (outs m.set m.driver before i)) (label_of i) q p s → P before → P s
  hands_keep (Some rule) i q p before s at is hands h = absurd hands
  hands_keep None i q p before s at is hands h =
      outs_keep (flow_of i) s (handed m.set m.driver before i) (handed_at_label before i)
      (next before i q at is h)
      (label before i q at is h)
      (elim hands [ inl onwards ↦ inl onwards.1 | inr jump ↦ inr jump.1 ])

  leads_keep : (i : Option Instr) (q p : ℕ) (before s : Abs) → slice_get m.routine.code q ≡ i
      → LeadsFrom m i q before p s → P before → P s
  leads_keep None q p before s at leads h = absurd leads
  leads_keep (Some i) q p before s at leads h =
      hands_keep (refuses before i m.routine.sort m.set m.driver) i q p before s at refl leads h

  along_keep : (path : List ℕ) (s : Abs) → Along m path s → P s
  along_keep [] s along = absurd along
  along_keep (p ∷ []) s along = begins s along.1
  along_keep (p ∷ q ∷ path) s along =
      leads_keep (slice_get m.routine.code q) q p along.0 s refl along.2.1
      (along_keep (q ∷ path) along.0 along.1)

  pub arrives_keep : (p : ℕ) (s : Abs) → Arrives m p s → P s
  arrives_keep p s arrives = along_keep (p ∷ arrives.0) s arrives.1
