-- Closed walks meet all.
use Rattle.std.proofs.Common.{◌≡◌, ◌∙◌, ◌<◌, ◌++◌, ◌⊎◌, ℕ, Bool, true, false, List, [], ◌∷◌, Some, ap, inl, inr, refl, slice_get, subst, sym}
use Rattle.hunt_walks.specs.Walks.{AreAlike, AreClosed, AreFew, Goes, IsFollowed, IsMet, IsWalk, MeetsAll, goes, rests}

module _ (may fails : List ℕ → ℕ → Bool) (one : List ℕ → List ℕ → Type 0) (moves : ℕ)
    (paths : List (List ℕ)) (alike : AreAlike may fails one) (few : AreFew may moves)
    (closed : AreClosed may fails one moves paths) where
  abbrev Same : List ℕ → List ℕ → Type 0
  Same a b = (a ≡ b) ⊎ one a b

  may_at : (a b : List ℕ) (m : ℕ) → Same a b → may a m ≡ true → may b m ≡ true
  may_at a b m (inl is) h = subst (λ (p : List ℕ). may p m ≡ true) is h
  may_at a b m (inr same) h = sym (alike.may_too a b m same) ∙ h

  fails_at : (a b : List ℕ) (m : ℕ) → Same a b → may a m ≡ true → fails a m ≡ fails b m
  fails_at a b m (inl is) h = ap (λ (p : List ℕ). fails p m) is
  fails_at a b m (inr same) h = alike.fails_too a b m same h

  goes_at : (a b : List ℕ) (m : ℕ) → Same a b → may a m ≡ true → fails a m ≡ false
      → Same (a ++ m ∷ []) (b ++ m ∷ [])
  goes_at a b m (inl is) h well = inl (ap (λ (p : List ℕ). p ++ m ∷ []) is)
  goes_at a b m (inr same) h well = inr (alike.goes_too a b m same h well)

  join : (a b c : List ℕ) → Same a b → Same b c → Same a c
  join a b c (inl is) bc = subst (λ (p : List ℕ). Same p c) (sym is) bc
  join a b c (inr ab) (inl is) = inr (subst (λ (p : List ℕ). one a p) is ab)
  join a b c (inr ab) (inr bc) = inr (alike.joins a b c ab bc)

  -- a move behind a walk, whose place was met, goes on
  on_from : (path : List ℕ) (m : ℕ) (met : IsMet one paths path) → may path m ≡ true
      → Goes fails one paths met.other m
  on_from path m met h =
      let may_be : may met.other m ≡ true = may_at path met.other m met.same h in
      closed.followed met.number met.other m met.kept (few met.other m may_be) may_be

  met_on : (path : List ℕ) (m : ℕ) → may path m ≡ true → fails path m ≡ false
      → IsMet one paths path → IsMet one paths (path ++ m ∷ [])
  met_on path m h well met =
      let on : Goes fails one paths met.other m = on_from path m met h in
      record {
        number = on.met.number;
        other = on.met.other;
        kept = on.met.kept;
        same = join (path ++ m ∷ []) (met.other ++ m ∷ []) on.met.other
            (goes_at path met.other m met.same h well) on.met.same;
      }

  met_all : (path : List ℕ) → IsWalk may fails path → IsMet one paths path
  met_all path rests =
      record { number = 0; other = []; kept = closed.first; same = inl refl }
  met_all path (goes before m walk h well) = met_on before m h well (met_all before walk)

  well_all : (path : List ℕ) (m : ℕ) → IsWalk may fails path → may path m ≡ true
      → fails path m ≡ false
  well_all path m walk h =
      let met : IsMet one paths path = met_all path walk in
      fails_at path met.other m met.same h ∙ (on_from path m met h).well

  meets_all : MeetsAll may fails one paths
  meets_all = record { met = met_all; well = well_all }

pub closed_meet_all : (may fails : List ℕ → ℕ → Bool) (one : List ℕ → List ℕ → Type 0) (moves : ℕ)
    (paths : List (List ℕ)) → AreAlike may fails one → AreFew may moves
    → AreClosed may fails one moves paths → MeetsAll may fails one paths
closed_meet_all may fails one moves paths alike few closed =
    meets_all may fails one moves paths alike few closed
