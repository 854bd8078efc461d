-- An index of a history, where an entry is added to it.
use Rattle.std.proofs.Common.{◌≡◌, ℕ, zero, suc, List, [], ◌∷◌, ◌++◌, length, Bool, true, false, Option, None, Some, refl, sym, subst, ap, ◌∙◌}
use Rattle.std.specs.Prelude.{nat_eq, option_map, slice_get, if◌then◌else◌}
use Rattle.std.proofs.lemmas.List.{map-append}
use Rattle.std.proofs.lemmas.List.Folds.{find-append}
use Rattle.std.specs.Option.{option_or}
use Rattle.hostcore.specs.Noted.{Noted, get}
use Rattle.model.specs.declared.event.Reply.{Reply}
use Rattle.model.specs.declared.event.Reply.TheVariants.{Topped}
use Rattle.model.specs.declared.history.Entry.{Entry}
use Rattle.model.specs.declared.history.Name.{Name}
use Rattle.model.specs.declared.history.TopOut.{TopOut}
use Rattle.model.specs.History.{entry_named, has_name, is_name, or_else, replies_of, top_out_in, top_out_of}
use Rattle.hostcore.specs.Indexed.{IsIndexed, IsPlaceOf, Notes, Puts, told_top}

-- where entries stand in a longer list
get_left : (history : List Entry) (k : ℕ) (x e : Entry) → slice_get history k ≡ Some x
    → slice_get (history ++ e ∷ []) k ≡ Some x
get_left [] k x e h = cc
get_left (first ∷ history) zero x e h = h
get_left (first ∷ history) (suc k) x e h = get_left history k x e h

get_end : (history : List Entry) (e : Entry)
    → slice_get (history ++ e ∷ []) (length history) ≡ Some e
get_end [] e = refl
get_end (first ∷ history) e = get_end history e

-- the first entry of a name stays it, and the new one is it where there was none
named_stays : (history : List Entry) (e x : Entry) (q : Name) → entry_named history q ≡ Some x
    → entry_named (history ++ e ∷ []) q ≡ Some x
named_stays history e x q h =
    find-append (λ (y : Entry). has_name y.name q) history (e ∷ []) ∙ rw h refl

named_new : (history : List Entry) (e : Entry) (q : Name) → entry_named history q ≡ None
    → entry_named (history ++ e ∷ []) q ≡ (if has_name e.name q then Some e else None)
named_new history e q h =
    find-append (λ (y : Entry). has_name y.name q) history (e ∷ []) ∙ rw h refl

-- a place stays a name's, where the new entry has another name or the name has a place
place_stays : (history : List Entry) (e : Entry) (q : Name) (o : Option ℕ)
    → IsPlaceOf history q o → (o ≡ None → has_name e.name q ≡ false)
    → IsPlaceOf (history ++ e ∷ []) q o
place_stays history e q None is other = named_new history e q is ∙ rw (other refl) refl
place_stays history e q (Some k) is other =
    (is.0, get_left history k is.0 e is.1, named_stays history e is.0 q is.2)

module _ (history : List Entry) (e : Entry) (before after : Noted Name ℕ)
    (name : Name) (has : e.name ≡ Some name)
    (places : (q : Name) → IsPlaceOf history q (get is_name before q))
    (puts : Puts is_name before after name (length history)) where
  placed_new : (q : Name) (same : Bool) → entry_named history q ≡ None → is_name name q ≡ same
      → IsPlaceOf (history ++ e ∷ []) q (if same then Some (length history) else None)
  placed_new q true unnamed is =
      (e, get_end history e, named_new history e q unnamed ∙ rw (has, is) refl)
  placed_new q false unnamed not = named_new history e q unnamed ∙ rw (has, not) refl

  placed_by : (q : Name) (o : Option ℕ) → IsPlaceOf history q o
      → IsPlaceOf (history ++ e ∷ []) q
      (option_or o (if is_name name q then Some (length history) else None))
  placed_by q None is = placed_new q (is_name name q) is refl
  placed_by q (Some k) is = place_stays history e q (Some k) is (λ gone. cc)

  pub placed_more : (q : Name) → IsPlaceOf (history ++ e ∷ []) q (get is_name after q)
  placed_more q =
      subst (λ (o : Option ℕ). IsPlaceOf (history ++ e ∷ []) q o) (sym (puts q))
      (placed_by q (get is_name before q) (places q))

-- an entry without a name leaves all places as they were
pub placed_same : (history : List Entry) (e : Entry) (q : Name) (o : Option ℕ)
    → e.name ≡ None → IsPlaceOf history q o → IsPlaceOf (history ++ e ∷ []) q o
placed_same history e q o none is = place_stays history e q o is (λ gone. rw none refl)

or_none : (o : Option TopOut) → or_else o None ≡ o
or_none None = refl
or_none (Some top) = refl

or_assoc : (a b c : Option TopOut) → or_else (or_else a b) c ≡ or_else a (or_else b c)
or_assoc None b c = refl
or_assoc (Some top) b c = refl

-- what replies tell of a packet, with one reply more
tops_more : (replies : List Reply) (reply : Reply) (n : ℕ)
    → top_out_of (replies ++ reply ∷ []) n
    ≡ or_else (top_out_of replies n) (top_out_in reply n)
tops_more [] reply n = or_none (top_out_in reply n)
tops_more (first ∷ replies) reply n =
    ap (λ (o : Option TopOut). or_else (top_out_in first n) o) (tops_more replies reply n)
    ∙ sym (or_assoc (top_out_in first n) (top_out_of replies n) (top_out_in reply n))

entries_more : (history : List Entry) (e : Entry) (n : ℕ)
    → top_out_of (replies_of (history ++ e ∷ [])) n
    ≡ or_else (top_out_of (replies_of history) n) (top_out_in e.reply n)
entries_more history e n =
    ap (λ (replies : List Reply). top_out_of replies n)
    (map-append (λ (x : Entry). x.reply) history (e ∷ []))
    ∙ tops_more (replies_of history) e.reply n

-- a reply tells of the packet that it names alone
untold : (reply : Reply) (n : ℕ) → told_top reply ≡ None → top_out_in reply n ≡ None
untold (Topped packet status info) n h = cc
untold _ n h = refl

told : (reply : Reply) (top : TopOut) (n : ℕ) → told_top reply ≡ Some top
    → top_out_in reply n ≡ (if nat_eq top.packet n then Some top else None)
told (Topped packet status info) top n h =
    let is : record { packet = packet; status = status; info = info } ≡ top = cc in
    subst (λ (t : TopOut). top_out_in (Topped packet status info) n
    ≡ (if nat_eq t.packet n then Some t else None)) is refl
told _ top n h = cc

or_same : (o other : Option TopOut) → option_or o other ≡ or_else o other
or_same None other = refl
or_same (Some top) other = refl

module _ (history : List Entry) (e : Entry) (before after : Noted ℕ TopOut)
    (tops : (n : ℕ) → get nat_eq before n ≡ top_out_of (replies_of history) n) where
  -- an entry that tells of no packet leaves them as they were
  pub tops_same : (n : ℕ) → told_top e.reply ≡ None
      → get nat_eq before n ≡ top_out_of (replies_of (history ++ e ∷ [])) n
  tops_same n none =
      tops n
      ∙ sym (entries_more history e n
      ∙ (ap (λ (o : Option TopOut). or_else (top_out_of (replies_of history) n) o)
      (untold e.reply n none)
      ∙ or_none _))

  module _ (top : TopOut) (tells : told_top e.reply ≡ Some top)
      (puts : Puts nat_eq before after top.packet top) where
    more_is : (n : ℕ) → top_out_of (replies_of (history ++ e ∷ [])) n
        ≡ or_else (get nat_eq before n) (if nat_eq top.packet n then Some top else None)
    more_is n =
        entries_more history e n
        ∙ (ap (λ (o : Option TopOut). or_else o (top_out_in e.reply n)) (sym (tops n))
        ∙ ap (λ (o : Option TopOut). or_else (get nat_eq before n) o) (told e.reply top n tells))

    pub tops_put : (n : ℕ)
        → get nat_eq after n ≡ top_out_of (replies_of (history ++ e ∷ [])) n
    tops_put n =
        puts n
        ∙ (or_same (get nat_eq before n) (if nat_eq top.packet n then Some top else None)
        ∙ sym (more_is n))

placed_noted : (history : List Entry) (e : Entry) (places places' : Noted Name ℕ)
    → ((q : Name) → IsPlaceOf history q (get is_name places q))
    → (o : Option Name) → e.name ≡ o
    → Notes is_name places places' (option_map (λ name. (name, length history)) o)
    → (q : Name) → IsPlaceOf (history ++ e ∷ []) q (get is_name places' q)
placed_noted history e places places' is None name notes q =
    subst (λ (o : Option ℕ). IsPlaceOf (history ++ e ∷ []) q o) (sym (notes q))
    (placed_same history e q (get is_name places q) name (is q))
placed_noted history e places places' is (Some x) name notes q =
    placed_more history e places places' x name is notes q

topped_noted : (history : List Entry) (e : Entry) (tops tops' : Noted ℕ TopOut)
    → ((n : ℕ) → get nat_eq tops n ≡ top_out_of (replies_of history) n)
    → (o : Option TopOut) → told_top e.reply ≡ o
    → Notes nat_eq tops tops' (option_map (λ (top : TopOut). (top.packet, top)) o)
    → (n : ℕ) → get nat_eq tops' n ≡ top_out_of (replies_of (history ++ e ∷ [])) n
topped_noted history e tops tops' is None tells notes n =
    notes n ∙ tops_same history e tops tops' is n tells
topped_noted history e tops tops' is (Some top) tells notes n =
    tops_put history e tops tops' is top tells notes n

-- the index, once the entry's name and its top-out are noted
pub indexed_more : (history : List Entry) (e : Entry)
    (places places' : Noted Name ℕ) (tops tops' : Noted ℕ TopOut)
    → IsIndexed history places tops
    → Notes is_name places places' (option_map (λ name. (name, length history)) e.name)
    → Notes nat_eq tops tops' (option_map (λ (top : TopOut). (top.packet, top)) (told_top e.reply))
    → IsIndexed (history ++ e ∷ []) places' tops'
indexed_more history e places places' tops tops' is names tells =
    record {
      placed = placed_noted history e places places' is.placed e.name refl names;
      topped = topped_noted history e tops tops' is.topped (told_top e.reply) refl tells;
    }
