-- The ends of interleavings among closed ones are the ends of all.
use Rattle.std.proofs.Common.{◌≡◌, ◌∙◌, ◌+◌, ◌++◌, ◌&&◌, ◌<◌, ◌≤◌, ◌⊎◌, ℕ, zero, suc, Bool, true, false, List, [], ◌∷◌, Option, Some, None, ap, append-nil, append_assoc, arith, get_or, inl, inr, length, refl, slice_get, subst, sym, take}
use Rattle.std.proofs.lemmas.Bool.{cases_lt}
use Rattle.std.proofs.lemmas.List.{take_all, take_more}
use Rattle.std.specs.Global.{Vec}
use Rattle.checked.specs.SameWorlds.{SameWorldsGoOnAlike}
use Rattle.model.specs.Sound.{IsSound}
use Rattle.scenario_run.specs.Playing.{Playing}
use Rattle.scenario_together.proofs.Alike.{lead_alike}
use Rattle.scenario_together.specs.declared.interleaving.Interleaving.{Interleaving}
use Rattle.scenario_together.specs.Standing.{Stands}
use Rattle.scenario_together.specs.Ends.{end_if, end_of, ends_of}
use Rattle.scenario_together.specs.Interleaving.{AreMany, IsEnd, LeadAlike, LeadIf, MeetFew, behind, fails_with, goes_on, is_named, may_step}
use Rattle.scenario_together.specs.Plays.{AreThere}
use Rattle.scenario_together.specs.Together.{AreEnds, AreKept, IsReached}
use Rattle.hunt_walks.proofs.Resting.{none_may, rest_by}
use Rattle.hunt_walks.specs.Ends.{IsAtEnd, is_rest}
use Rattle.hunt_walks.specs.declared.search.Failed.{Failed}
use Rattle.hunt_walks.specs.declared.search.Walked.{Walked}
use Rattle.hunt_walks.specs.declared.search.Walked.TheVariants.{All, Fails, More}
use Rattle.hunt_walks.specs.Searched.{IsWalked}
use Rattle.hunt_walks.specs.Walks.{AreAlike, AreClosed, AreFew, FailsBehind, IsMet, IsWalk, MeetsAll}

-- with one more that is kept
ends_more : (named : List Bool) (p : Playing) (paths : List (List ℕ)) (path : List ℕ)
    → ends_of named p (paths ++ path ∷ []) ≡ ends_of named p paths ++ end_of named p path
ends_more named p [] path = append-nil (end_of named p path)
ends_more named p (other ∷ paths) path =
    ap (λ (qs : List Playing). end_of named p other ++ qs) (ends_more named p paths path)
    ∙ sym (append_assoc (end_of named p other) (ends_of named p paths) (end_of named p path))

ends_next : (named : List Bool) (p : Playing) (paths : List (List ℕ)) (i : ℕ) (d : List ℕ)
    → i < length paths
    → ends_of named p (take (i + 1) paths)
    ≡ ends_of named p (take i paths) ++ end_of named p (get_or paths i d)
ends_next named p paths i d inside =
    ap (λ (ps : List (List ℕ)). ends_of named p ps) (take_more paths i d inside)
    ∙ ends_more named p (take i paths) (get_or paths i d)

pub ends_grow : (named : List Bool) (p : Playing) (paths : List (List ℕ)) (i : ℕ)
    (item path : List ℕ) (plays more : List Playing) → i < length paths
    → item ≡ get_or paths i item → path ≡ item → plays ≡ ends_of named p (take i paths)
    → more ≡ plays ++ end_of named p path → more ≡ ends_of named p (take (i + 1) paths)
ends_grow named p paths i item path plays more inside is same was now =
    now
    ∙ ap (λ (ps : List Playing). ps ++ end_of named p path) was
    ∙ ap (λ (x : List ℕ). ends_of named p (take i paths) ++ end_of named p x) (same ∙ is)
    ∙ sym (ends_next named p paths i item inside)

pub ends_all : (named : List Bool) (p : Playing) (paths : List (List ℕ)) (i : ℕ)
    (plays : List Playing) → length paths ≤ i → plays ≡ ends_of named p (take i paths)
    → plays ≡ ends_of named p paths
ends_all named p paths i plays all was =
    was ∙ ap (λ (ps : List (List ℕ)). ends_of named p ps) (take_all i paths all)

-- the end of one, where it has come to it or not
pub end_none : (named : List Bool) (p : Playing) (path : List ℕ) (plays : List Playing)
    → is_rest (may_step named p) path 64 ≡ false → plays ≡ plays ++ end_of named p path
end_none named p path plays rests =
    sym (append-nil plays)
    ∙ ap (λ (b : Bool). plays ++ end_if p path b) (sym rests)

pub end_some : (named : List Bool) (p : Playing) (path : List ℕ) (plays next : List Playing)
    (q : Playing) → is_rest (may_step named p) path 64 ≡ true → q ≡ behind p path
    → next ≡ plays ++ q ∷ [] → next ≡ plays ++ end_of named p path
end_some named p path plays next q rests there more =
    more
    ∙ ap (λ (x : Playing). plays ++ x ∷ []) there
    ∙ ap (λ (b : Bool). plays ++ end_if p path b) (sym rests)

-- who stands there
pub at_none : (named : List Bool) (merges : Bool) (p : Playing) (path : List ℕ)
    (there : Option Interleaving)
    → IsAtEnd (may_step named p) (λ (path : List ℕ) (it : Interleaving). Stands named merges p path
    it.named it.merges it.playing) 64 path there
    → there ≡ None → is_rest (may_step named p) path 64 ≡ false
at_none named merges p path there is none =
    subst (λ (o : Option Interleaving). IsAtEnd (may_step named p)
    (λ (path : List ℕ) (it : Interleaving). Stands named merges p path it.named it.merges
    it.playing) 64 path o) none is

pub at_some : (named : List Bool) (merges : Bool) (p : Playing) (path : List ℕ)
    (there : Option Interleaving) (place : Interleaving)
    → IsAtEnd (may_step named p) (λ (path : List ℕ) (it : Interleaving). Stands named merges p path
    it.named it.merges it.playing) 64 path there
    → there ≡ Some place
    → (is_rest (may_step named p) path 64 ≡ true)
    × Stands named merges p path place.named place.merges place.playing
at_some named merges p path there place is some =
    subst (λ (o : Option Interleaving). IsAtEnd (may_step named p)
    (λ (path : List ℕ) (it : Interleaving). Stands named merges p path it.named it.merges
    it.playing) 64 path o) some is

-- one of some, by its place
pub record IsAt (q : Playing) (plays : List Playing) : Type 0 where
  pub number : ℕ
  pub there : slice_get plays number ≡ Some q

among_first : (q : Playing) (plays : List Playing) → IsAt q (q ∷ plays)
among_first q plays = record { number = 0; there = refl }

among_later : (q : Playing) (before plays : List Playing) → IsAt q plays
    → IsAt q (before ++ plays)
among_later q [] plays among = among
among_later q (x ∷ before) plays among =
    let later : IsAt q (before ++ plays) = among_later q before plays among in
    record { number = suc later.number; there = later.there }

-- whether or not what goes on alike is taken for one
met_alike : (merges : Bool) (p : Playing) (paths : List (List ℕ)) (path : List ℕ)
    → IsMet (LeadIf merges p) paths path → IsMet (LeadAlike p) paths path
met_alike true p paths path met = met
met_alike false p paths path met =
    record {
      number = met.number;
      other = met.other;
      kept = met.kept;
      same = elim met.same [ inl is ↦ inl is | inr never ↦ absurd never ];
    }

module _ (named : List Bool) (p : Playing) where
  -- the end of one that is kept is among them
  kept_among : (paths : List (List ℕ)) (k : ℕ) (path : List ℕ) → slice_get paths k ≡ Some path
      → is_rest (may_step named p) path 64 ≡ true → IsAt (behind p path) (ends_of named p paths)
  kept_among [] k path at rests = cc
  kept_among (x ∷ paths) zero path at rests =
      let same : x ≡ path = cc in
      subst (λ (y : List ℕ). IsAt (behind p path) (end_of named p y ++ ends_of named p paths))
      (sym same)
      (subst (λ (b : Bool). IsAt (behind p path) (end_if p path b ++ ends_of named p paths))
      (sym rests) (among_first (behind p path) (ends_of named p paths)))
  kept_among (x ∷ paths) (suc k) path at rests =
      among_later (behind p path) (end_of named p x) (ends_of named p paths)
      (kept_among paths k path at rests)

  -- and each of them is the end of one
  record IsEndOf (paths : List (List ℕ)) (q : Playing) : Type 0 where
    number : ℕ
    path : List ℕ
    kept : slice_get paths number ≡ Some path
    rests : is_rest (may_step named p) path 64 ≡ true
    there : q ≡ behind p path

  later_end : (x : List ℕ) (paths : List (List ℕ)) (q : Playing) → IsEndOf paths q
      → IsEndOf (x ∷ paths) q
  later_end x paths q end =
      record {
        number = suc end.number;
        path = end.path;
        kept = end.kept;
        rests = end.rests;
        there = end.there;
      }

  first_end : (x : List ℕ) (paths : List (List ℕ)) (b : Bool)
      → is_rest (may_step named p) x 64 ≡ b
      → ((k : ℕ) (q : Playing) → slice_get (ends_of named p paths) k ≡ Some q → IsEndOf paths q)
      → (k : ℕ) (q : Playing) → slice_get (end_if p x b ++ ends_of named p paths) k ≡ Some q
      → IsEndOf (x ∷ paths) q
  first_end x paths false is later k q at = later_end x paths q (later k q at)
  first_end x paths true is later zero q at =
      let same : behind p x ≡ q = cc in
      record { number = 0; path = x; kept = refl; rests = is; there = sym same }
  first_end x paths true is later (suc k) q at = later_end x paths q (later k q at)

  each_end : (paths : List (List ℕ)) (k : ℕ) (q : Playing)
      → slice_get (ends_of named p paths) k ≡ Some q → IsEndOf paths q
  each_end [] k q at = cc
  each_end (x ∷ paths) k q at =
      first_end x paths (is_rest (may_step named p) x 64) refl (each_end paths) k q at

  module _ (law : SameWorldsGoOnAlike) (merges : Bool)
      (sound : IsSound p.set) (paths : List (List ℕ)) (few : AreFew (may_step named p) 64)
      (closed : AreClosed (may_step named p) (fails_with p) (LeadIf merges p) 64 paths)
      (meeting : AreAlike (may_step named p) (fails_with p) (LeadIf merges p)
      → AreFew (may_step named p) 64
      → MeetsAll (may_step named p) (fails_with p) (LeadIf merges p) paths) where
    alikes : AreAlike (may_step named p) (fails_with p) (LeadIf merges p)
    alikes = lead_alike law named p sound merges

    meets : MeetsAll (may_step named p) (fails_with p) (LeadIf merges p) paths
    meets = meeting alikes few

    below : (b : Bool) (path : List ℕ) (t : ℕ) → may_step named p path t ≡ b
        → ((m : ℕ) → m < 64 → may_step named p path m ≡ false) → b ≡ false
    below false path t is none = refl
    below true path t is none =
        let less : t < 64 = few path t is in
        let no : true ≡ false = sym is ∙ none t less in cc

    end_by : (path : List ℕ) → IsWalk (may_step named p) (fails_with p) path
        → is_rest (may_step named p) path 64 ≡ true → IsEnd named p path
    end_by path walk rests =
        record {
          walk = walk;
          rests = λ t.
              below (may_step named p path t) path t refl
              (λ m less. none_may (may_step named p) path 64 m rests less);
        }

    may_same : (path other : List ℕ) (t : ℕ) → (path ≡ other) ⊎ LeadIf merges p path other
        → may_step named p path t ≡ may_step named p other t
    may_same path other t (inl is) = ap (λ (x : List ℕ). may_step named p x t) is
    may_same path other t (inr alike) = alikes.may_too path other t alike

    reached : (path : List ℕ) → IsEnd named p path
        → IsReached merges p (ends_of named p paths) path
    reached path end =
        let met : IsMet (LeadIf merges p) paths path = meets.met path end.walk in
        let rests : is_rest (may_step named p) met.other 64 ≡ true =
        rest_by (may_step named p) met.other 64
        (λ m less. sym (may_same path met.other m met.same) ∙ end.rests m) in
        let among : IsAt (behind p met.other) (ends_of named p paths) =
        kept_among paths met.number met.other met.kept rests in
        record {
          number = among.number;
          other = met.other;
          kept = among.there;
          same = met.same;
        }

    pub meet_few : (worlds : ℕ) → length paths ≤ worlds → MeetFew named worlds p
    meet_few worlds short =
        record {
          paths = paths;
          few = short;
          met = λ path walk. met_alike merges p paths path (meets.met path walk);
        }

    pub are_ends : AreEnds merges named p (ends_of named p paths)
    are_ends =
        record {
          well = meets.well;
          sound = λ k q at.
              let end : IsEndOf paths q = each_end paths k q at in (
                end.path,
                end_by end.path (closed.walks end.number end.path end.kept) end.rests,
                end.there,
              );
          all = reached;
        }

-- a named thread is one of the first
pub named_within : (named : List Bool) (t : ℕ) → is_named named t ≡ true → t < length named
named_within [] t is = cc
named_within (x ∷ named) zero is = omega arith
named_within (x ∷ named) (suc t) is =
    let less : t < length named = named_within named t is in omega (arith, less)

-- so all that are named are there, where none is named from their number on
pub there_all : (named : List Bool) (p : Playing) (reached : ℕ) → length named ≡ 64
    → 64 ≤ reached
    → ((t : ℕ) → p.threads ≤ t → t < reached → is_named named t ≡ false) → AreThere named p
there_all named p reached long all none t is =
    elim (cases_lt t p.threads) [
      | inl under ↦ under
      | inr over ↦
          let inside : t < length named = named_within named t is in
          let no : true ≡ false = sym is ∙ none t over (omega (arith, inside, long, all)) in
          cc
    ]

may_named : (a b : Bool) → a && b ≡ true → a ≡ true
may_named true b h = refl
may_named false b h = h

pub few_may : (named : List Bool) (p : Playing) → length named ≡ 64
    → AreFew (may_step named p) 64
few_may named p long path t may =
    let inside : t < length named =
    named_within named t (may_named (is_named named t) (goes_on (behind p path) t) may) in
    omega (arith, inside, long)

-- what a walk of all interleavings has kept, or where one fails, or that there are more
module _ (merges : Bool) (named : List Bool) (p : Playing) (worlds : ℕ) (walked : Walked)
    (is : IsWalked (may_step named p) (fails_with p) (LeadIf merges p) 64 worlds walked) where
  abbrev Comes : Walked → Type 0
  Comes w = IsWalked (may_step named p) (fails_with p) (LeadIf merges p) 64 worlds w

  pub kept_all : (paths : Vec (List ℕ)) (slice : List (List ℕ)) → walked ≡ All paths
      → slice ≡ paths.items → AreKept merges named p slice
  kept_all paths slice all same =
      let kept : Comes (All paths) = subst (λ (w : Walked). Comes w) all is in
      subst (λ (ps : List (List ℕ)). AreKept merges named p ps) (sym same) (kept.0, kept.1)

  pub kept_few : (paths : Vec (List ℕ)) (slice : List (List ℕ)) → walked ≡ All paths
      → slice ≡ paths.items → length slice ≤ worlds
  kept_few paths slice all same =
      let kept : Comes (All paths) = subst (λ (w : Walked). Comes w) all is in
      subst (λ (ps : List (List ℕ)). length ps ≤ worlds) (sym same) kept.2

  pub kept_fails : (failed : Failed) → walked ≡ Fails failed
      → FailsBehind (may_step named p) (fails_with p) failed.path.items failed.number
  kept_fails failed at = subst (λ (w : Walked). Comes w) at is

  pub kept_more : walked ≡ More → AreMany named worlds p
  kept_more more = subst (λ (w : Walked). Comes w) more is
