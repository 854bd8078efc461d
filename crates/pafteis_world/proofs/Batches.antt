-- One event more of many.
use Rattle.std.proofs.Common.{ℕ, ◌≡◌, ◌∙◌, ◌++◌, ◌+◌, ◌<◌, List, [], ◌∷◌, Some, suc, ap, arith, drop, inr, length, map, refl, subst, sym, take}
use Rattle.std.proofs.lemmas.List.{append_assoc, length-map, map-append}
use Rattle.std.proofs.lemmas.Option.{slice_get-get_or}
use Rattle.std.proofs.Math.Seq.{drop-cons, set-append_seam, take-suc}
use Rattle.std.specs.Prelude.{None, Option, get_or, set}
use Rattle.model.specs.declared.event.Event.{Event}
use Rattle.model.specs.declared.event.Reply.{Reply}
use Rattle.model.specs.Shown.{Shown}
use Rattle.pafteis_values.specs.declared.event.EventValue.{EventValue}
use Rattle.pafteis_values.specs.declared.reply.ReplyValue.{ReplyValue}
use Rattle.pafteis_values.specs.Event.{event_named}
use Rattle.pafteis_values.specs.Reply.{reply_value}
use Rattle.pafteis_world.specs.Batch.{AppliesEach, AppliesFirst, Ended}
use Rattle.pafteis_world.specs.Driven.{Applied}

-- none was applied
pub applies_none : (values : List EventValue) (m : Shown) (places : List ReplyValue)
    → AppliesFirst values m places places 0 m
applies_none values m places =
    record {
      events = [];
      replies = [];
      named = refl;
      applies = refl;
      told = refl;
      values_few = omega arith;
      places_few = omega arith;
      many = refl;
    }

each_more : (events : List Event) (before m after : Shown) (replies : List Reply) (e : Event)
    (reply : Reply) → AppliesEach events before replies m → Applied e m reply after
    → AppliesEach (events ++ e ∷ []) before (replies ++ reply ∷ []) after
each_more [] before m after [] e reply done last =
    (after, subst (λ (x : Shown). Applied e x reply after) done last, refl)
each_more [] before m after (r ∷ replies) e reply done last = absurd done
each_more (f ∷ events) before m after [] e reply done last = absurd done
each_more (f ∷ events) before m after (r ∷ replies) e reply done last =
    (done.0, done.1, each_more events done.0 m after replies e reply done.2 last)

named_more : (values : List EventValue) (count : ℕ) (d : EventValue) (e : Event)
    (events : List Event) → count < length values → event_named (get_or values count d) ≡ Some e
    → map event_named (take count values) ≡ map Some events
    → map event_named (take (suc count) values) ≡ map Some (events ++ e ∷ [])
named_more values count d e events within is named =
    ap (map event_named) (take-suc values count d within)
    ∙ map-append event_named (take count values) (get_or values count d ∷ [])
    ∙ ap (λ (xs : List (Option Event)). xs ++ event_named (get_or values count d) ∷ []) named
    ∙ ap (λ (x : Option Event). map Some events ++ x ∷ []) is
    ∙ sym (map-append Some events (e ∷ []))

told_more : (old now : List ReplyValue) (count : ℕ) (replies : List Reply) (reply : Reply)
    → now ≡ map reply_value replies ++ drop count old → length replies ≡ count → count < length old
    → set now count (reply_value reply)
    ≡ map reply_value (replies ++ reply ∷ []) ++ drop (suc count) old
told_more old now count replies reply told many room =
    let value : ReplyValue = reply_value reply in
    let long : length (map reply_value replies) ≡ count = length-map replies reply_value ∙ many in
    ap (λ (xs : List ReplyValue). set xs count value) told
    ∙ ap (λ (xs : List ReplyValue). set (map reply_value replies ++ xs) count value)
    (drop-cons old count value room)
    ∙ ap (λ (n : ℕ). set (map reply_value replies ++ get_or old count value ∷ drop (suc count) old)
    n value) (sym long)
    ∙ set-append_seam (map reply_value replies) (get_or old count value) (drop (suc count) old)
    value
    ∙ sym (append_assoc (map reply_value replies) (value ∷ []) (drop (suc count) old))
    ∙ ap (λ (xs : List ReplyValue). xs ++ drop (suc count) old)
    (sym (map-append reply_value replies (reply ∷ [])))

length_more : (replies : List Reply) (reply : Reply)
    → length (replies ++ reply ∷ []) ≡ suc (length replies)
length_more [] reply = refl
length_more (r ∷ replies) reply = ap suc (length_more replies reply)

-- one more was applied, and its reply stands at its place
pub applies_more : (values : List EventValue) (before m after : Shown)
    (old now : List ReplyValue) (count : ℕ) (d : EventValue) (e : Event) (reply : Reply)
    (told : ReplyValue) (found : Option Event) → AppliesFirst values before old now count m
    → found ≡ event_named (get_or values count d) → found ≡ Some e → count < length values
    → count < length old → Applied e m reply after → told ≡ reply_value reply
    → AppliesFirst values before old (set now count told) (count + 1) after
applies_more values before m after old now count d e reply told found f at is within room last same =
    let next : suc count ≡ count + 1 = omega arith in
    subst (λ (n : ℕ). AppliesFirst values before old (set now count told) n after) next
    (record {
      events = f.events ++ e ∷ [];
      replies = f.replies ++ reply ∷ [];
      named = named_more values count d e f.events within (sym at ∙ is) f.named;
      applies = each_more f.events before m after f.replies e reply f.applies last;
      told =
          ap (set now count) same ∙ told_more old now count f.replies reply f.told f.many room;
      values_few = omega (arith, within);
      places_few = omega (arith, room);
      many = length_more f.replies reply ∙ ap suc f.many;
    })

-- the next value names no event
pub ended_wrong : (values : List EventValue) (places : List ReplyValue) (count : ℕ)
    (d : EventValue) (found : Option Event) → count < length values
    → found ≡ event_named (get_or values count d) → found ≡ None → Ended values places count
ended_wrong values places count d found within at none =
    inr (inr (get_or values count d, slice_get-get_or values count d within, sym at ∙ none))
