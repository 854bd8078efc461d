-- Scenarios that go on alike do so behind one event more.
use Rattle.std.proofs.Common.{◌≡◌, ◌∙◌, ◌<◌, ◌≤◌, ◌+◌, ◌++◌, ◌||◌, ℕ, suc, Bool, true, false, List, [], ◌∷◌, nat_eq, Option, Some, ap, arith, get_or, length, refl, slice_get, subst, sym, take}
use Rattle.std.proofs.lemmas.Bool.{lt-ltb}
use Rattle.std.proofs.lemmas.List.{length-append, length-take-le, take_all, take_more}
use Rattle.std.proofs.lemmas.List.Folds.{list_any-append}
use Rattle.std.specs.HashMap.{get}
use Rattle.std.specs.List.{list_any}
use Rattle.std.specs.Map.{lookup}
use Rattle.indexmap.specs.IndexMap.{IndexMap}
use Rattle.checked.specs.SameWorlds.{GoOnAlike, SameWorldsGoOnAlike}
use Rattle.model.specs.declared.event.Event.{Event}
use Rattle.model.specs.declared.event.Reply.{Reply}
use Rattle.model.specs.declared.history.TopOut.{TopOut}
use Rattle.model.specs.History.{or_else, replies, top_out_in}
use Rattle.model.specs.Machine.{Machine, ShowsWhole, reply_to}
use Rattle.model.specs.Run.{begun, run}
use Rattle.model.specs.Set.{Set}
use Rattle.model.specs.Sound.{IsSound}
use Rattle.scenario_run.specs.Alike.{GoAlike, TellAlike}
use Rattle.scenario_run.specs.declared.told.Told.{Told}
use Rattle.scenario_run.specs.Holding.{is_bug}
use Rattle.scenario_run.specs.Playing.{Playing, has_room, with_event}
use Rattle.scenario_run.specs.Told.{AreTold}
use Rattle.scenario_run.proofs.Going.{replies_more}
use Rattle.scenario_run.proofs.Topping.{told_last}

-- what two lists of the same entries have at a key
tops_by : {S : Type 0} (ours its : IndexMap ℕ TopOut S) → ours.entries ≡ its.entries → (n : ℕ)
    → get nat_eq ours n ≡ get nat_eq its n
tops_by ours its same n = ap (λ (es : List (ℕ × TopOut)). lookup (nat_eq n) es) same

-- replies by which no bug check is known, and packets topped out alike
pub told_alike : (ours its : Told) → ours.bugs.items ≡ [] → its.bugs.items ≡ []
    → ours.tops.entries ≡ its.tops.entries → (told others : List Reply) → AreTold ours told
    → AreTold its others → TellAlike told others
told_alike ours its none no_others same told others are theirs =
    record {
      tops = λ n. sym (are.tops n) ∙ tops_by ours.tops its.tops same n ∙ theirs.tops n;
      bugs = λ n.
          sym (are.bugs n)
          ∙ ap (λ (bugs : List ℕ). list_any (λ b. nat_eq b n) bugs) none
          ∙ sym (ap (λ (bugs : List ℕ). list_any (λ b. nat_eq b n) bugs) no_others)
          ∙ theirs.bugs n;
    }

-- with one reply more
tell_on : (told others : List Reply) (reply : Reply) → TellAlike told others
    → TellAlike (told ++ reply ∷ []) (others ++ reply ∷ [])
tell_on told others reply alike =
    record {
      tops = λ n.
          told_last told reply n
          ∙ ap (λ (o : Option TopOut). or_else o (top_out_in reply n)) (alike.tops n)
          ∙ sym (told_last others reply n);
      bugs = λ n.
          list_any-append (is_bug n) told (reply ∷ [])
          ∙ ap (λ (b : Bool). b || list_any (is_bug n) (reply ∷ [])) (alike.bugs n)
          ∙ sym (list_any-append (is_bug n) others (reply ∷ []));
    }

-- with one event more
module _ (law : SameWorldsGoOnAlike) (set : Set) (sound : IsSound set) (threads : ℕ)
    (events others : List Event) (e : Event) (alike : GoAlike set threads events others) where
  on : GoOnAlike set threads events threads others e
  on = law set sound threads events threads others e alike.stand

  pub reply_alike : reply_to set threads events e ≡ reply_to set threads others e
  reply_alike = on.replies

  more_told : TellAlike (replies set threads (events ++ e ∷ []))
      (replies set threads (others ++ e ∷ []))
  more_told =
      let reply : Reply = reply_to set threads events e in
      let theirs : replies set threads (others ++ e ∷ [])
      ≡ replies set threads others ++ reply ∷ [] =
      replies_more set (begun set threads) others e
      ∙ ap (λ (r : Reply). replies set threads others ++ r ∷ []) (sym reply_alike) in
      subst (λ (rs : List Reply). TellAlike rs (replies set threads (others ++ e ∷ [])))
      (sym (replies_more set (begun set threads) events e))
      (subst (λ (rs : List Reply). TellAlike (replies set threads events ++ reply ∷ []) rs)
      (sym theirs) (tell_on (replies set threads events) (replies set threads others) reply
      alike.tell))

  pub go_alike : GoAlike set threads (events ++ e ∷ []) (others ++ e ∷ [])
  go_alike =
      record {
        long = length-append events (e ∷ [])
            ∙ ap (λ (n : ℕ). n + length (e ∷ [])) alike.long
            ∙ sym (length-append others (e ∷ []));
        stand = on.stand;
        tell = more_told;
      }

-- by themselves, and in turn
pub alike_itself : (set : Set) (threads : ℕ) (events : List Event)
    → GoAlike set threads events events
alike_itself set threads events =
    record {
      long = refl;
      stand = record { world = refl; stopped = refl };
      tell = record { tops = λ n. refl; bugs = λ n. refl };
    }

pub alike_in_turn : (set : Set) (threads : ℕ) (a b c : List Event) → GoAlike set threads a b
    → GoAlike set threads b c → GoAlike set threads a c
alike_in_turn set threads a b c ab bc =
    record {
      long = ab.long ∙ bc.long;
      stand = record {
        world = ab.stand.world ∙ bc.stand.world;
        stopped = ab.stand.stopped ∙ bc.stand.stopped;
      };
      tell = record {
        tops = λ n. ab.tell.tops n ∙ bc.tell.tops n;
        bugs = λ n. ab.tell.bugs n ∙ bc.tell.bugs n;
      };
    }

-- two machines that show their runs, and what is told of them
pub alike_by : (m n : Machine) (threads more : ℕ) (events others : List Event)
    → ShowsWhole m threads events → ShowsWhole n more others → m.stopped ≡ false
    → n.stopped ≡ false → length events ≡ length others
    → TellAlike (replies m.set threads events) (replies n.set more others)
    → m.world ≡ n.world → m.set ≡ n.set → threads ≡ more
    → GoAlike m.set threads events others
alike_by m n threads more events others shows its on there long tell same over many =
    let back : (run n.set more others).world ≡ (run m.set threads others).world =
    ap (λ (s : Set). (run s more others).world) (sym over)
    ∙ ap (λ (k : ℕ). (run m.set k others).world) (sym many) in
    let stops : (run n.set more others).stopped ≡ (run m.set threads others).stopped =
    ap (λ (s : Set). (run s more others).stopped) (sym over)
    ∙ ap (λ (k : ℕ). (run m.set k others).stopped) (sym many) in
    let told : replies n.set more others ≡ replies m.set threads others =
    ap (λ (s : Set). replies s more others) (sym over)
    ∙ ap (λ (k : ℕ). replies m.set k others) (sym many) in
    record {
      long = long;
      stand = record {
        world = sym shows.world ∙ same ∙ its.world ∙ back;
        stopped = sym shows.stopped ∙ on ∙ sym there ∙ its.stopped ∙ stops;
      };
      tell = subst (λ (rs : List Reply). TellAlike (replies m.set threads events) rs) told tell;
    }

-- events in turn, for which there is room
pub room_at : (p : Playing) (events : List Event) (i : ℕ) → i < length events
    → length events ≤ 1000000 → has_room (record p { events = take i events }) ≡ true
room_at p events i inside few =
    let long : length (take i events) ≡ i = length-take-le i events (omega (arith, inside)) in
    lt-ltb (length (take i events)) 1000000 (omega (arith, long, inside, few))

pub replay_next : (p q r : Playing) (events : List Event) (i : ℕ) (d : Event)
    → i < length events → q ≡ record p { events = take i events }
    → r ≡ with_event q (get_or events i d) → r ≡ record p { events = take (i + 1) events }
replay_next p q r events i d inside was now =
    now
    ∙ ap (λ (x : Playing). with_event x (get_or events i d)) was
    ∙ ap (λ (es : List Event). record p { events = es }) (sym (take_more events i d inside))

pub replay_all : (p q : Playing) (events : List Event) (i : ℕ) → length events ≤ i
    → q ≡ record p { events = take i events } → q ≡ record p { events = events }
replay_all p q events i all was =
    was ∙ ap (λ (es : List Event). record p { events = es }) (take_all i events all)

-- lists of which all places are the same
pub same_entries : {A : Type 0} (xs ys : List A) → length xs ≡ length ys
    → ((k : ℕ) → k < length xs → slice_get xs k ≡ slice_get ys k) → xs ≡ ys
same_entries [] [] long same = refl
same_entries [] (y ∷ ys) long same = absurd (omega (arith, long))
same_entries (x ∷ xs) [] long same = absurd (omega (arith, long))
same_entries (x ∷ xs) (y ∷ ys) long same =
    let first : Some x ≡ Some y = same 0 (omega arith) in
    let head : x ≡ y = cc in
    let rest : xs ≡ ys =
    same_entries xs ys (omega (arith, long)) (λ k less. same (suc k) (omega (arith, less))) in
    ap (λ z. z ∷ xs) head ∙ ap (λ zs. y ∷ zs) rest

pub none_long : (xs : List ℕ) → length xs ≡ 0 → xs ≡ []
none_long [] long = refl
none_long (x ∷ xs) long = absurd (omega (arith, long))
