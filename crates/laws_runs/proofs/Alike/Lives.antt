-- A packet that was issued before an event and is live after it was live before it; and what a step
-- touches is live.
use Rattle.laws_runs.proofs.Common.{inl, inr, refl, sym, ◌∙◌, cases_Bool, cond, list_any, Bool, List, None, Option, Some, [], false, is_some, nat_eq, slice_get, true, ℕ, ◌<◌, ◌||◌, ◌∷◌, ◌≡◌, Action, Execute, OfRoutine, OnPacket, TopOut, Touch, top_of, Change, bug_if, topped, root_of, Set, Actor, Entry, Managing, entry, recorded, Shared, World, packet_of, IrqlNotLessOrEqual, PacketSubject, Packet, States, IsGood, Standing, standing_kept, fault_among, is_touch, none_first, none_later}
use Rattle.model.specs.Action.{PacketAct}
use Rattle.model.specs.Fault.{is_top_out, packet_acts, with_packet_act}
use Rattle.laws_runs.proofs.Accepted.Keeps.{Keeps, goes_on_by}
use Rattle.laws_runs.proofs.Alike.Frames.{IsLive}
use Rattle.laws_runs.proofs.Alike.Routines.{TouchesLive, first_touch}
use Rattle.laws_runs.proofs.Holders.Runs.{top_holding}
use Rattle.laws_runs.proofs.Live.Claimed.{claims_live, entries_live}
use Rattle.laws_runs.proofs.Live.Kept.{touches_none}
use Rattle.laws_runs.proofs.Past.Packets.{Tells, found, gone_topped, untopped}
use Rattle.laws_runs.proofs.Runs.Events.{StepsFrame, Happens}

-- what has topped out stays so
either_topped : (b : Bool) → (b || true) ≡ true
either_topped true = refl
either_topped false = refl

added_later : (b : Bool) (act : PacketAct) (acts : List PacketAct)
    → list_any is_top_out acts ≡ true
    → list_any is_top_out (cond b (act ∷ acts) acts) ≡ true
added_later true act acts is = rw is (either_topped (is_top_out act))
added_later false act acts is = is

tops_later : (action : Action) (n : ℕ) (acts : List PacketAct) → list_any is_top_out acts ≡ true
    → list_any is_top_out (with_packet_act action n acts) ≡ true
tops_later (OnPacket m Touch) n acts is = is
tops_later (OnPacket m act) n acts is = added_later (nat_eq m n) act acts is
tops_later _ n acts is = is

topped_later : (past : List Entry) (actor : Actor) (actions : List Action) (n : ℕ)
    → topped past n ≡ true → topped (recorded past actor actions) n ≡ true
topped_later past actor [] n is = is
topped_later past actor (action ∷ actions) n is =
    topped_later (entry past actor action ∷ past) actor actions n
    (tops_later action n (packet_acts past n) is)

-- a live packet hasn't topped out, and one that was issued and hasn't is live
live_untopped : (s : Shared) (past : List Entry) (n : ℕ) (o : Option Packet) → Tells s past
    → packet_of s n ≡ o → is_some o ≡ true → topped past n ≡ false
live_untopped s past n None tells there live = cc
live_untopped s past n (Some p) tells there live =
    untopped s past n p tells (found s n (Some p) there)

untopped_live : (s : Shared) (past : List Entry) (n : ℕ) (o : Option Packet) → Tells s past
    → n < s.issued → topped past n ≡ false → packet_of s n ≡ o → is_some o ≡ true
untopped_live s past n None tells low is there =
    let no : true ≡ false = sym (gone_topped s past n tells low there) ∙ is in cc
untopped_live s past n (Some p) tells low is there = refl

still_untopped : (past : List Entry) (actor : Actor) (actions : List Action) (n : ℕ)
    → topped (recorded past actor actions) n ≡ false → topped past n ≡ false
still_untopped past actor actions n is =
    elim (cases_Bool (topped past n)) [
      | inl gone ↦
          let no : true ≡ false = sym (topped_later past actor actions n gone) ∙ is in cc
      | inr none ↦ none
    ]

-- a bug check of a touch
touched : (past : List Entry) (actor : Actor) (actions : List Action) (n : ℕ)
    → fault_among is_touch past actor actions ≡ None → first_touch actions ≡ Some n
    → topped past n ≡ true → ⊥
touched past actor (OnPacket m Touch ∷ actions) n quiet is gone =
    let same : m ≡ n = cc in
    let none : bug_if (topped past m) IrqlNotLessOrEqual (PacketSubject m) ≡ None =
    none_first _ _ quiet in
    let no : bug_if true IrqlNotLessOrEqual (PacketSubject n) ≡ None = rw (same, gone) at none in
    cc
touched past actor (OfRoutine Execute ∷ OnPacket m Touch ∷ actions) n quiet is gone =
    let same : m ≡ n = cc in
    let none : bug_if (topped past m) IrqlNotLessOrEqual (PacketSubject m) ≡ None =
    none_first _ _ (none_later None _ quiet) in
    let no : bug_if true IrqlNotLessOrEqual (PacketSubject n) ≡ None = rw (same, gone) at none in
    cc
touched past actor _ n quiet is gone = cc

module _ (set : Set) (states : States) (threads : ℕ) (w : World) (past : List Entry)
    (good : IsGood set states) (keeps : Keeps set states threads w past) (t : ℕ) where
  abbrev pub by_thread : Actor
  by_thread = record { thread = t; root = root_of (slice_get w.threads t); tag = Managing }

  pub lives_before : (c : Change) → Happens set w t c → (n : ℕ) → n < w.shared.issued
      → IsLive c.world.shared n → IsLive w.shared n
  lives_before c happens n low live =
      let after : Standing set states c.world (recorded past by_thread c.actions) =
      standing_kept set states w past good keeps.stands by_thread c happens
      (goes_on_by set states threads w past good keeps by_thread c refl happens).quiet in
      untopped_live w.shared past n (packet_of w.shared n) keeps.stands.tells low
      (still_untopped past by_thread c.actions n
      (live_untopped c.world.shared (recorded past by_thread c.actions) n
      (packet_of c.world.shared n) after.tells refl live)) refl

  pub touches_live : (h : StepsFrame set w t)
      → TouchesLive set w.shared t (top_of h.below) h.frame
  touches_live h n o comes first low gone =
      let like : StepsFrame set w t = record h { outcome = o; comes = comes } in
      touched past by_thread o.actions n
      (touches_none set states w past good keeps.stands keeps.sees by_thread like keeps.held
      (top_holding set states w past keeps.stands keeps.held t like)
      (claims_live set states w past good keeps.stands keeps.held keeps.claims t like)
      (entries_live set states w past good keeps.stands keeps.held keeps.claims))
      first (gone_topped w.shared past n keeps.stands.tells low gone)
