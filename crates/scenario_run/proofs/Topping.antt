-- How packets have topped out, with one reply more.
use Rattle.std.proofs.Common.{◌≡◌, ◌∙◌, ◌++◌, ℕ, Bool, true, false, List, [], ◌∷◌, nat_eq, Option, Some, None, is_some, refl, sym, subst, ap, if◌then◌else◌}
use Rattle.std.proofs.lemmas.Bool.{eqb-true}
use Rattle.indexmap.specs.IndexMap.{IndexMap, IsEmpty, IsUnchanged, Updates, get}
use Rattle.model.specs.declared.event.Reply.{Reply}
use Rattle.model.specs.declared.event.Reply.TheVariants.{Started, Stepped, Finished, Topped, Waited, Idle, Refused, Bug, Wrong}
use Rattle.model.specs.declared.history.TopOut.{TopOut}
use Rattle.model.specs.History.{or_else, top_out_in, top_out_of}
use Rattle.scenario_run.specs.Tops.{AddsTop, AreTops, top_told}

or_else_none : (o : Option TopOut) → or_else o None ≡ o
or_else_none None = refl
or_else_none (Some top) = refl

or_else_last : (a b c : Option TopOut) → or_else (or_else a b) c ≡ or_else a (or_else b c)
or_else_last None b c = refl
or_else_last (Some top) b c = refl

-- the last reply tells of a packet where those before it don't
pub told_last : (told : List Reply) (reply : Reply) (n : ℕ)
    → top_out_of (told ++ reply ∷ []) n ≡ or_else (top_out_of told n) (top_out_in reply n)
told_last [] reply n = or_else_none (top_out_in reply n)
told_last (r ∷ told) reply n =
    ap (λ (o : Option TopOut). or_else (top_out_in r n) o) (told_last told reply n)
    ∙ sym (or_else_last (top_out_in r n) (top_out_of told n) (top_out_in reply n))

-- what a reply says of a packet, by what it says
abbrev of_number : Option TopOut → ℕ → Option TopOut
of_number None n = None
of_number (Some top) n = if nat_eq top.packet n then Some top else None

told_by : (reply : Reply) (n : ℕ) → top_out_in reply n ≡ of_number (top_told reply) n
told_by (Topped packet status info) n = refl
told_by (Started packet) n = refl
told_by Stepped n = refl
told_by Finished n = refl
told_by Waited n = refl
told_by Idle n = refl
told_by Refused n = refl
told_by (Bug bug) n = refl
told_by (Wrong place) n = refl

-- so of each packet
told_more : (told : List Reply) (reply : Reply) (o : Option TopOut) (n : ℕ) → top_told reply ≡ o
    → top_out_of (told ++ reply ∷ []) n ≡ or_else (top_out_of told n) (of_number o n)
told_more told reply o n is =
    told_last told reply n
    ∙ ap (λ (x : Option TopOut). or_else (top_out_of told n) x)
    (told_by reply n ∙ ap (λ (x : Option TopOut). of_number x n) is)

known_at : (b : Bool) (here : Option TopOut) (top : TopOut) → (b ≡ true → is_some here ≡ true)
    → here ≡ or_else here (if b then Some top else None)
known_at true None top some = search (some refl)
known_at true (Some x) top some = refl
known_at false here top some = sym (or_else_none here)

new_at : (b : Bool) (here : Option TopOut) (top : TopOut) → (b ≡ true → here ≡ None)
    → (if b then Some top else here) ≡ or_else here (if b then Some top else None)
new_at true here top none =
    ap (λ (o : Option TopOut). or_else o (Some top)) (sym (none refl))
new_at false here top none = sym (or_else_none here)

-- a reply that tells of none
pub tops_silent : {S : Type 0} (tops : IndexMap ℕ TopOut S) (reply : Reply)
    → top_told reply ≡ None → AddsTop tops reply tops
tops_silent tops reply silent told are n =
    are n ∙ sym (told_more told reply None n silent ∙ or_else_none (top_out_of told n))

-- one that tells of a packet that is known to have topped out
pub tops_known : {S : Type 0} (tops : IndexMap ℕ TopOut S) (reply : Reply) (top : TopOut)
    → top_told reply ≡ Some top → is_some (get nat_eq tops top.packet) ≡ true
    → AddsTop tops reply tops
tops_known tops reply top tells known told are n =
    are n
    ∙ known_at (nat_eq top.packet n) (top_out_of told n) top
    (λ same. subst (λ (k : ℕ). is_some (top_out_of told k) ≡ true) (eqb-true top.packet n same)
    (ap is_some (sym (are top.packet)) ∙ known))
    ∙ sym (told_more told reply (Some top) n tells)

-- and of one that isn't
pub tops_new : {S : Type 0} (before after : IndexMap ℕ TopOut S) (reply : Reply) (top : TopOut)
    → top_told reply ≡ Some top → get nat_eq before top.packet ≡ None
    → Updates nat_eq before after top.packet (Some top) → AddsTop before reply after
tops_new before after reply top tells none updated told are n =
    updated.0 n
    ∙ ap (λ (o : Option TopOut). if nat_eq top.packet n then Some top else o) (are n)
    ∙ new_at (nat_eq top.packet n) (top_out_of told n) top
    (λ same. subst (λ (k : ℕ). top_out_of told k ≡ None) (eqb-true top.packet n same)
    (sym (are top.packet) ∙ none))
    ∙ sym (told_more told reply (Some top) n tells)

-- none are known where nothing was replied
pub tops_none : {S : Type 0} (tops : IndexMap ℕ TopOut S) → IsEmpty tops → AreTops tops []
tops_none tops none n = rw (none) refl

-- the same ones are known by the same entries
pub tops_same : {S : Type 0} (before after : IndexMap ℕ TopOut S) → IsUnchanged before after
    → (told : List Reply) → AreTops before told → AreTops after told
tops_same before after same told are n = rw (same) (are n)
