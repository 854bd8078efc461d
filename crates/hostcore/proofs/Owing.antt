-- A command's outcome is owed exactly while there is none to tell.
use Rattle.std.proofs.Common.{◌≡◌, ℕ, zero, suc, inl, inr, Bool, true, List, [], ◌∷◌, Option, None, Some, refl, sym, subst, ap, ◌∙◌}
use Rattle.std.proofs.lemmas.Bool.{cond_both}
use Rattle.model.specs.declared.event.Reply.{Reply}
use Rattle.std.specs.List.{find}
use Rattle.std.specs.Prelude.{is_none, is_some, option_and_then, option_map, slice_get}
use Rattle.model.specs.declared.history.Entry.{Entry}
use Rattle.model.specs.declared.history.Name.{Name}
use Rattle.model.specs.declared.history.Outcome.{Outcome}
use Rattle.model.specs.declared.history.TopOut.{TopOut}
use Rattle.model.specs.History.{IsLegal, entry_named, outcome_by, outcome_named, outcome_with, replies_of, request_started, top_out_of, with_top_out, world_after_all}
use Rattle.model.specs.World.{packet_of}
use Rattle.laws_runs.specs.ToldTops.{TopOutsAreTold}
use Rattle.hostcore.specs.Core.{CoreState, IsOwed, StartedLive, WaitsForPacket}

-- what is found stands at a place
pub found_at : (test : Entry → Bool) (history : List Entry) (e : Entry)
    → find test history ≡ Some e → (k : ℕ) × (slice_get history k ≡ Some e)
found_at test [] e h = cc
found_at test (first ∷ history) e h =
    cond_both (test first) (Some first) (find test history)
    (λ o. o ≡ Some e → (k : ℕ) × (slice_get (first ∷ history) k ≡ Some e))
    (λ is found. (zero, found))
    (λ is found.
    let rest : (k : ℕ) × (slice_get history k ≡ Some e) = found_at test history e found in
    (suc rest.0, rest.1)) h

none_told : (reply : Reply) (o : Option TopOut) → option_map (with_top_out reply) o ≡ None → o ≡ None
none_told reply None h = refl
none_told reply (Some top) h = cc

is_none_none : (o : Option TopOut) → is_none o ≡ true → o ≡ None
is_none_none None h = refl
is_none_none (Some top) h = cc

module _ (law : TopOutsAreTold) (c : CoreState) (name : Name)
    (legal : IsLegal c.set c.threads c.history) where
  module _ (e : Entry) (found : entry_named c.history name ≡ Some e) where
    -- the packet of its request is live exactly while no reply tells that it topped out
    live_is : (n : ℕ) → request_started e ≡ Some n
        → is_some (packet_of (world_after_all c.set c.threads c.history).shared n)
        ≡ is_none (top_out_of (replies_of c.history) n)
    live_is n started =
        let at : (k : ℕ) × (slice_get c.history k ≡ Some e) = found_at _ c.history e found in
        law c.set c.threads c.history at.0 n e legal at.1 started

    owed_by : (o : Option ℕ) → request_started e ≡ o
        → outcome_with (replies_of c.history) e.reply o ≡ None → WaitsForPacket c name
    owed_by None started untold = cc
    owed_by (Some n) started untold =
        record {
          entry = e;
          found = found;
          waits = record {
            number = n;
            started = started;
            live = live_is n started
                ∙ ap (λ (o : Option TopOut). is_none o) (none_told e.reply _ untold);
          };
        }

    told_by : (o : Outcome) → outcome_with (replies_of c.history) e.reply (request_started e)
        ≡ Some o → StartedLive c e → ⊥
    told_by o told waits =
        let untold : top_out_of (replies_of c.history) waits.number ≡ None =
        is_none_none _ (sym (live_is waits.number waits.started) ∙ waits.live) in
        let none : outcome_with (replies_of c.history) e.reply (request_started e) ≡ None =
        rw (waits.started, untold) refl in
        cc

  owed_if : (o : Option Entry) → entry_named c.history name ≡ o
      → option_and_then (outcome_by c.history) o ≡ None → IsOwed c name
  owed_if None found untold = inl found
  owed_if (Some e) found untold = inr (owed_by e found (request_started e) refl untold)

  pub owed : outcome_named c.history name ≡ None → IsOwed c name
  owed untold = owed_if (entry_named c.history name) refl untold

  told_if : (o : Option Entry) (outcome : Outcome) → entry_named c.history name ≡ o
      → option_and_then (outcome_by c.history) o ≡ Some outcome → IsOwed c name → ⊥
  told_if None outcome found told owes = cc
  told_if (Some e) outcome found told (inl none) = cc
  told_if (Some e) outcome found told (inr waits) =
      let both : Some e ≡ Some waits.entry = sym found ∙ waits.found in
      let same : e ≡ waits.entry = cc in
      told_by e found outcome told (subst (λ (x : Entry). StartedLive c x) (sym same) waits.waits)

  pub not_owed : (outcome : Outcome) → outcome_named c.history name ≡ Some outcome
      → IsOwed c name → ⊥
  not_owed outcome told owes = told_if (entry_named c.history name) outcome refl told owes
