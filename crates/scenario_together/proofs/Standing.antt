-- An interleaving that stands behind steps of threads, with one step more.
use Rattle.std.proofs.Common.{◌≡◌, ◌∙◌, ◌++◌, ◌&&◌, ℕ, Bool, true, false, not, List, [], ◌∷◌, ap, refl, subst, sym, if◌then◌else◌}
use Rattle.model.specs.declared.event.Event.{Event}
use Rattle.model.specs.declared.event.Event.TheVariants.{Step}
use Rattle.model.specs.declared.event.Reply.{Reply}
use Rattle.model.specs.declared.event.Reply.TheVariants.{Refused}
use Rattle.scenario_run.specs.Acting.{passes}
use Rattle.scenario_run.specs.Alike.{AreAlike}
use Rattle.scenario_run.specs.declared.playing.Outcome.{Outcome}
use Rattle.scenario_run.specs.Playing.{Playing, Went, happened, has_room, one, outcome_of, reply_in, with_event}
use Rattle.scenario_together.proofs.Alike.{events_more}
use Rattle.scenario_together.specs.Interleaving.{LeadIf, behind, fails_with, goes_on, is_named, may_step, steps_of}
use Rattle.scenario_together.specs.Standing.{Stands}

twice : (b : Bool) → b ≡ not (not b)
twice true = refl
twice false = refl

-- both of two, or not the first
pub both_so : (a b c d : Bool) → a ≡ b → c ≡ d → a ≡ true → c ≡ b && d
both_so a b c d first second on =
    second ∙ ap (λ (x : Bool). x && d) (sym on ∙ first)

pub first_not : (a b d : Bool) → a ≡ b → a ≡ false → a ≡ b && d
first_not a b d first off = off ∙ ap (λ (x : Bool). x && d) (sym off ∙ first)

-- it may make a step, where it may behind those
pub may_by : (named its : List Bool) (merges like : Bool) (p q : Playing) (path : List ℕ) (t : ℕ)
    (can : Bool) → can ≡ (is_named its t && goes_on q t)
    → Stands named merges p path its like q → can ≡ may_step named p path t
may_by named its merges like p q path t can is stands =
    is
    ∙ ap (λ (ns : List Bool). is_named ns t && goes_on q t) stands.named_so
    ∙ ap (λ (x : Playing). is_named named t && goes_on x t) stands.there

-- how the step went
pub fails_by : (p q now : Playing) (path : List ℕ) (t : ℕ) (outcome : Outcome) (well : Bool)
    → q ≡ behind p path → record { now = now; outcome = outcome } ≡ one q (Step t)
    → well ≡ passes false outcome → well ≡ not (fails_with p path t)
fails_by p q now path t outcome well there went is =
    is
    ∙ ap (λ (w : Went). passes false w.outcome) went
    ∙ ap (λ (x : Playing). passes false (one x (Step t)).outcome) there
    ∙ twice (passes false (one (behind p path) (Step t)).outcome)

room_by : (b : Bool) (r : Reply) → passes false (outcome_of (if b then r else Refused)) ≡ true
    → b ≡ true
room_by true r well = refl
room_by false r well = cc

pub stands_by : (named its : List Bool) (merges like : Bool) (p q now : Playing) (path : List ℕ)
    (t : ℕ) (outcome : Outcome) (well : Bool) → Stands named merges p path its like q
    → record { now = now; outcome = outcome } ≡ one q (Step t) → well ≡ passes false outcome
    → well ≡ true → Stands named merges p (path ++ t ∷ []) its like now
stands_by named its merges like p q now path t outcome well stands went is on =
    let here : Playing = behind p path in
    let passed : passes false (one here (Step t)).outcome ≡ true =
    sym (ap (λ (w : Went). passes false w.outcome) went
    ∙ ap (λ (x : Playing). passes false (one x (Step t)).outcome) stands.there)
    ∙ sym is ∙ on in
    let room : has_room here ≡ true = room_by (has_room here) (reply_in here (Step t)) passed in
    record {
      named_so = stands.named_so;
      merges_so = stands.merges_so;
      there =
          ap (λ (w : Went). w.now) went
          ∙ ap (λ (x : Playing). happened x (Step t)) stands.there
          ∙ ap (λ (b : Bool). if b then with_event here (Step t) else here) room
          ∙ ap (λ (es : List Event). record p { events = es }) (sym (events_more p path t));
    }

-- two that are alike
pub lead_by : (named merging : List Bool) (merges like same : Bool) (p q r : Playing)
    (path others : List ℕ) (its : List Bool) → Stands named merges p path its like q
    → Stands named merges p others merging same r → like ≡ true → AreAlike q r
    → LeadIf merges p path others
lead_by named merging merges like same p q r path others its stands also on alike =
    let yes : merges ≡ true = sym stands.merges_so ∙ on in
    let both : AreAlike (behind p path) (behind p others) =
    subst (λ (x : Playing). AreAlike x (behind p others)) stands.there
    (subst (λ (x : Playing). AreAlike q x) also.there alike) in
    subst (λ (b : Bool). LeadIf b p path others) (sym yes) (both refl refl)

-- behind the first one, another
pub stands_behind : (named : List Bool) (merges : Bool) (p q : Playing) (path : List ℕ)
    (past more slice : List Event) → past ≡ p.events → more ≡ past ++ steps_of path
    → slice ≡ more → q ≡ record p { events = slice } → Stands named merges p path named merges q
stands_behind named merges p q path past more slice was added same is =
    record {
      named_so = refl;
      merges_so = refl;
      there =
          is
          ∙ ap (λ (es : List Event). record p { events = es })
          (same ∙ added ∙ ap (λ (es : List Event). es ++ steps_of path) was);
    }
