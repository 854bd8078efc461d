-- A ledger knows on, action by action.
use Rattle.std.proofs.Common.{◌≡◌, ◌∙◌, ℕ, ◌+◌, ◌<◌, ◌≤◌, List, [], ◌∷◌, ◌++◌, Bool, false, Option, None, Some, refl, sym, ap, length, drop, inl, inr, arith}
use Rattle.std.specs.Prelude.{nat_eq, slice_get, if◌then◌else◌}
use Rattle.std.proofs.lemmas.Bool.Decides.{eqb_tells}
use Rattle.std.proofs.lemmas.List.{append-nil, length-append}
use Rattle.model.specs.declared.status.Status.{Status}
use Rattle.model.specs.Action.{Action, OnLocation, OfRoutine, Issue, Call, Up, Mark, Leave, Return, Executes, Issues, Marks, Leaves, Returns}
use Rattle.model.specs.PendingAgreement.{is_use, marks_left, serves, statuses_returned}
use Rattle.model.specs.Trace.{Activated, Actor, Entry, Managing, Serving, Tag, current_use, entry, opens, recorded, use_of, uses, uses_opened}
use Rattle.laws_runs.proofs.Tests.{and_false}
use Rattle.laws_runs.proofs.Uses.Traced.{opens_more, traced_entry}
use Rattle.tell_uses.specs.declared.uses.Note.{Note}
use Rattle.tell_uses.specs.Knowing.{Knows, note_of, note_with, notes_of}
use Rattle.tell_uses.specs.Pending.{opened_by, uses_of}
use Rattle.tell_uses.specs.Uses.{Does, DoesAll, UsesState, blank, current_at, left, marked, noted, noted_serving, returned, stack_at}
use Rattle.tell_uses.proofs.Noting.{Counted, Numbered, WasOpened, leaves_note, marks_note, notes_many, notes_more, notes_noted, notes_returned, notes_same, numbered_more, returns_note, same_note, served_by, when}

-- a use that wasn't opened yet is served by none
unserved : (opened : ℕ) (tag : Tag) (u : Serving) → WasOpened opened (served_by tag)
    → opened < u.«use» + 1 → serves tag u ≡ false
unserved opened Managing u h l = refl
unserved opened (Activated g driver routine None) u h l = refl
unserved opened (Activated g driver routine (Some w)) u h l =
    elim (eqb_tells w.«use» u.«use») [
      | inl e ↦ let below : w.«use» < opened = h in let same : w.«use» ≡ u.«use» = e.1 in
          absurd (omega arith)
      | inr e ↦ rw e.0 (and_false (nat_eq w.packet u.packet))
    ]

module _ (past : List Entry) (actor : Actor) (served : WasOpened (uses_opened past) (served_by actor.tag))
    (h : Counted past) where
  one_more : (n : ℕ) → Numbered 0 (uses_of past ++ record { packet = n; «use» = uses_opened past } ∷ [])
  one_more n =
      numbered_more 0 (uses_of past) (record { packet = n; «use» = uses_opened past }) h.numbered
      (omega (arith, h.many))

  as_many : (n : ℕ) → length (uses_of past ++ record { packet = n; «use» = uses_opened past } ∷ [])
      ≡ uses_opened past + 1
  as_many n =
      let long : length (uses_of past ++ record { packet = n; «use» = uses_opened past } ∷ [])
      ≡ length (uses_of past) + 1 =
      length-append (uses_of past) (record { packet = n; «use» = uses_opened past } ∷ []) in
      omega (arith, long, h.many)

  numbered_on : (action : Action)
      → Numbered 0 (uses_of past ++ opened_by action (use_of past action))
  numbered_on (OnLocation n (Issue stack)) = one_more n
  numbered_on (OnLocation n Call) = one_more n
  numbered_on _ = rw (append-nil (uses_of past)) h.numbered

  many_on : (action : Action)
      → length (uses_of past ++ opened_by action (use_of past action))
      ≡ opens action (uses_opened past)
  many_on (OnLocation n (Issue stack)) = as_many n
  many_on (OnLocation n Call) = as_many n
  many_on _ = rw (append-nil (uses_of past)) h.many

  pub counted_entry : (action : Action) → Counted (entry past actor action ∷ past)
  counted_entry action =
      record {
        traced = traced_entry past actor action h.traced;
        numbered = numbered_on action;
        many = many_on action;
        never_returned = λ u l.
            let more : uses_opened past ≤ opens action (uses_opened past) =
            opens_more action (uses_opened past) in
            let below : opens action (uses_opened past) < u.«use» + 1 = l in
            let late : uses_opened past < u.«use» + 1 = omega arith in
            rw (unserved (uses_opened past) actor.tag u served late)
            (h.never_returned u late);
      }

  module _ (l m : UsesState) (know : Knows past l) where
    opened_notes : length l.notes ≡ uses_opened past
    opened_notes =
        ap (λ (notes : List Note). length notes) know.notes ∙ notes_many past (uses_of past) ∙ h.many

    blank_note : (n : ℕ)
        → note_of past (record { packet = n; «use» = uses_opened past }) ≡ blank n
    blank_note n =
        let u : Serving = record { packet = n; «use» = uses_opened past } in
        let late : uses_opened past < u.«use» + 1 = omega arith in
        ap (λ (was : Bool). note_with n was (marks_left past u) (statuses_returned past u))
        (h.traced.never_marked u late)
        ∙ ap (λ (marks : List Bool). note_with n false marks (statuses_returned past u))
        (h.traced.never_left u late)
        ∙ ap (λ (statuses : List Status). note_with n false [] statuses) (h.never_returned u late)

    same_stack : (change : List ℕ → List ℕ) (n k : ℕ)
        → (if nat_eq n k then change (stack_at l n) else stack_at l k)
        ≡ (if nat_eq n k then change (uses past k) else uses past k)
    same_stack change n k =
        elim (eqb_tells n k) [
          | inl e ↦ rw (e.0, e.1) (ap change (know.stacks k))
          | inr e ↦ rw e.0 (know.stacks k)
        ]

    -- an action that is about no use
    notes_kept : notes_of past (uses_of past)
        ≡ notes_of (entry past actor Executes ∷ past) (uses_of past ++ [])
    notes_kept =
        sym (notes_same past (entry past actor Executes ∷ past) (uses_of past)
        (λ u. same_note past actor u))
        ∙ ap (λ (uses : List Serving). notes_of (entry past actor Executes ∷ past) uses)
        (sym (append-nil (uses_of past)))

    stacks_same : m.stacks ≡ l.stacks → (n : ℕ) → stack_at m n ≡ uses past n
    stacks_same is n =
        ap (λ (stacks : List (List ℕ)). stack_at (record { notes = []; stacks = stacks }) n) is
        ∙ know.stacks n

    -- one that opens a use
    knows_opened : (n : ℕ) → m.notes ≡ l.notes ++ blank n ∷ []
        → m.notes ≡ notes_of (entry past actor (Issues n 0) ∷ past)
        (uses_of past ++ record { packet = n; «use» = uses_opened past } ∷ [])
    knows_opened n is =
        let later : List Entry = entry past actor (Issues n 0) ∷ past in
        let u : Serving = record { packet = n; «use» = uses_opened past } in
        is
        ∙ ap (λ (notes : List Note). notes ++ blank n ∷ []) know.notes
        ∙ ap (λ (notes : List Note). notes ++ blank n ∷ [])
        (sym (notes_same past later (uses_of past) (λ u. same_note past actor u)))
        ∙ ap (λ (note : Note). notes_of later (uses_of past) ++ note ∷ [])
        (sym (same_note past actor u ∙ blank_note n))
        ∙ sym (notes_more later (uses_of past) u)

    opened_stack : (change : List ℕ → List ℕ) (n k : ℕ)
        → (if nat_eq n k then length l.notes ∷ change (stack_at l n) else stack_at l k)
        ≡ (if nat_eq n k then uses_opened past ∷ change (uses past k) else uses past k)
    opened_stack change n k =
        ap (λ (v : ℕ). if nat_eq n k then v ∷ change (stack_at l n) else stack_at l k) opened_notes
        ∙ same_stack (λ stack. uses_opened past ∷ change stack) n k

    current_same : (n : ℕ) → current_at l n ≡ current_use past n
    current_same n = ap (λ (stack : List ℕ). slice_get stack 0) (know.stacks n)

    -- one that changes the note of the current use of a packet's location, or of the one served
    knows_noted : (change : Note → Note) (n : ℕ) (later : List Entry)
        → ((u : Serving) → note_of later u
        ≡ when (is_use n (current_use past n) u) change (note_of past u))
        → m.notes ≡ noted change l.notes n (current_at l n)
        → m.notes ≡ notes_of later (uses_of past ++ [])
    knows_noted change n later at is =
        is
        ∙ ap (λ (location : Option ℕ). noted change l.notes n location) (current_same n)
        ∙ ap (λ (notes : List Note). noted change notes n (current_use past n)) know.notes
        ∙ sym (notes_noted past later change n (current_use past n) (uses_of past) at h.numbered)
        ∙ ap (λ (uses : List Serving). notes_of later uses) (sym (append-nil (uses_of past)))

    knows_returned : (status : Status)
        → m.notes ≡ noted_serving (returned status) l.notes (served_by actor.tag)
        → m.notes ≡ notes_of (entry past actor (Returns status) ∷ past) (uses_of past ++ [])
    knows_returned status is =
        let later : List Entry = entry past actor (Returns status) ∷ past in
        is
        ∙ ap (λ (notes : List Note). noted_serving (returned status) notes (served_by actor.tag))
        know.notes
        ∙ sym (notes_returned past later (returned status) actor.tag (uses_of past)
        (λ u. returns_note past actor u status) h.numbered)
        ∙ ap (λ (uses : List Serving). notes_of later uses) (sym (append-nil (uses_of past)))

    pub knows_entry : (action : Action) → Does (served_by actor.tag) action l m
        → Knows (entry past actor action ∷ past) m
    knows_entry (OnLocation n (Issue stack)) is =
        record {
          notes = knows_opened n is.0;
          stacks = λ k. is.1 k ∙ opened_stack (λ stack. []) n k;
        }
    knows_entry (OnLocation n Call) is =
        record {
          notes = knows_opened n is.0;
          stacks = λ k. is.1 k ∙ opened_stack (λ stack. stack) n k;
        }
    knows_entry (OnLocation n Up) is =
        record {
          notes = is.0 ∙ know.notes ∙ notes_kept;
          stacks = λ k. is.1 k ∙ same_stack (λ stack. drop 1 stack) n k;
        }
    knows_entry (OnLocation n Mark) is =
        record {
          notes = knows_noted marked n (entry past actor (Marks n) ∷ past)
              (λ u. marks_note past actor u n) is.0;
          stacks = stacks_same is.1;
        }
    knows_entry (OnLocation n Leave) is =
        record {
          notes = knows_noted left n (entry past actor (Leaves n) ∷ past)
              (λ u. leaves_note past actor u n) is.0;
          stacks = stacks_same is.1;
        }
    knows_entry (OfRoutine (Return status)) is =
        record { notes = knows_returned status is.0; stacks = stacks_same is.1 }
    knows_entry _ is =
        record {
          notes = ap (λ (x : UsesState). x.notes) is ∙ know.notes ∙ notes_kept;
          stacks = stacks_same (ap (λ (x : UsesState). x.stacks) is);
        }

-- the actions that are about uses, without the sizes of stacks
abbrev pub uses_in : List Action → List Action
uses_in [] = []
uses_in (OnLocation n (Issue stack) ∷ actions) = Issues n 0 ∷ uses_in actions
uses_in (OnLocation n act ∷ actions) = OnLocation n act ∷ uses_in actions
uses_in (OfRoutine (Return status) ∷ actions) = Returns status ∷ uses_in actions
uses_in (action ∷ actions) = uses_in actions

opened_more : (opened more : ℕ) (o : Option Serving) → opened ≤ more → WasOpened opened o
    → WasOpened more o
opened_more opened more None le h = tt
opened_more opened more (Some u) le h = let below : u.«use» < opened = h in omega arith

-- after the actions of an event
pub counted_all : (actor : Actor) (past : List Entry) (actions : List Action)
    → WasOpened (uses_opened past) (served_by actor.tag) → Counted past
    → Counted (recorded past actor actions)
counted_all actor past [] served h = h
counted_all actor past (action ∷ actions) served h =
    counted_all actor (entry past actor action ∷ past) actions
    (opened_more (uses_opened past) (opens action (uses_opened past)) (served_by actor.tag)
    (opens_more action (uses_opened past)) served)
    (counted_entry past actor served h action)

pub record KnownOn (past : List Entry) (l : UsesState) : Type 0 where
  pub counted : Counted past
  pub knows : Knows past l

module _ (actor : Actor) where
  -- one more
  record KnownNext (past : List Entry) (action : Action) (next : UsesState) : Type 0 where
    counted : Counted (entry past actor action ∷ past)
    knows : Knows (entry past actor action ∷ past) next
    served : WasOpened (opens action (uses_opened past)) (served_by actor.tag)

  known_next : (past : List Entry) (action : Action) (l next : UsesState)
      → WasOpened (uses_opened past) (served_by actor.tag) → Counted past → Knows past l
      → Does (served_by actor.tag) action l next → KnownNext past action next
  known_next past action l next served h know is =
      record {
        counted = counted_entry past actor served h action;
        knows = knows_entry past actor served h l next know action is;
        served = opened_more (uses_opened past) (opens action (uses_opened past))
            (served_by actor.tag) (opens_more action (uses_opened past)) served;
      }

  pub known_all : (past : List Entry) (actions : List Action) (l m : UsesState)
      → WasOpened (uses_opened past) (served_by actor.tag) → Counted past → Knows past l
      → DoesAll (served_by actor.tag) (uses_in actions) l m
      → KnownOn (recorded past actor actions) m
  known_all past [] l m served h know is =
      record {
        counted = h;
        knows = record {
          notes = ap (λ (x : UsesState). x.notes) is ∙ know.notes;
          stacks = λ n. ap (λ (x : UsesState). stack_at x n) is ∙ know.stacks n;
        };
      }
  known_all past (OnLocation n (Issue stack) ∷ actions) l m served h know (next, does, rest) =
      let on = known_next past (Issues n stack) l next served h know does in
      known_all (entry past actor (Issues n stack) ∷ past) actions next m on.served on.counted on.knows
      rest
  known_all past (OnLocation n act ∷ actions) l m served h know (next, does, rest) =
      let on = known_next past (OnLocation n act) l next served h know does in
      known_all (entry past actor (OnLocation n act) ∷ past) actions next m on.served on.counted
      on.knows rest
  known_all past (OfRoutine (Return status) ∷ actions) l m served h know (next, does, rest) =
      let on = known_next past (Returns status) l next served h know does in
      known_all (entry past actor (Returns status) ∷ past) actions next m on.served on.counted on.knows
      rest
  known_all past (action ∷ actions) l m served h know is =
      let on = known_next past action l l served h know refl in
      known_all (entry past actor action ∷ past) actions l m on.served on.counted on.knows is
