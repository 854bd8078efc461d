-- What an entry more in a trace says of the uses, and that a ledger knows it.
use Rattle.std.proofs.Common.{◌≡◌, ◌∙◌, ℕ, zero, suc, ◌+◌, ◌<◌, ◌≢◌, List, [], ◌∷◌, ◌++◌, Bool, true, false, Option, None, Some, refl, ap, length, inl, inr, arith}
use Rattle.std.specs.Prelude.{⊤, ◌&&◌, ◌||◌, nat_eq, slice_get, option_to_list, if◌then◌else◌}
use Rattle.std.proofs.lemmas.Bool.{eq-eqb}
use Rattle.std.proofs.lemmas.Bool.Decides.{eqb_tells}
use Rattle.model.specs.declared.status.Status.{Status}
use Rattle.model.specs.Action.{Executes, Marks, Leaves, Returns}
use Rattle.model.specs.PendingAgreement.{is_use, marks_left, serves, statuses_returned, was_marked}
use Rattle.model.specs.Trace.{Activated, Actor, Entry, Managing, Serving, Tag, current_use, entry, uses, uses_opened}
use Rattle.laws_runs.proofs.Tests.{and_false}
use Rattle.laws_runs.proofs.Uses.Fates.{Traced}
use Rattle.tell_uses.specs.declared.uses.Note.{Note}
use Rattle.tell_uses.specs.Knowing.{note_of, note_with, notes_of}
use Rattle.tell_uses.specs.Pending.{uses_of}
use Rattle.tell_uses.specs.Uses.{left, marked, note_of_packet, noted, noted_at, noted_serving, returned}

-- the use that a tag serves, if it serves one
abbrev pub served_by : Tag → Option Serving
served_by Managing = None
served_by (Activated g driver routine serving) = serving

-- uses are numbered from a number on
abbrev pub Numbered : ℕ → List Serving → Type 0
Numbered k [] = ⊤
Numbered k (u ∷ uses) = (u.«use» ≡ k) × Numbered (k + 1) uses

pub numbered_more : (k : ℕ) (uses : List Serving) (u : Serving) → Numbered k uses
    → u.«use» ≡ k + length uses → Numbered k (uses ++ u ∷ [])
numbered_more k [] u h is = (omega (arith, is), tt)
numbered_more k (v ∷ uses) u h is = (h.0, numbered_more (k + 1) uses u h.1 (omega (arith, is)))

-- a use that was opened
abbrev pub WasOpened : ℕ → Option Serving → Type 0
WasOpened opened None = ⊤
WasOpened opened (Some u) = u.«use» < opened

-- what a trace is, of any run
pub record Counted (past : List Entry) : Type 0 where
  pub traced : Traced past
  pub numbered : Numbered 0 (uses_of past)
  pub many : length (uses_of past) ≡ uses_opened past
  pub never_returned : (u : Serving) → uses_opened past < u.«use» + 1
      → statuses_returned past u ≡ []

pub counted_begun : Traced [] → Counted []
counted_begun traced =
    record { traced = traced; numbered = tt; many = refl; never_returned = λ u l. refl }

-- what an entry says of a use
abbrev pub when : Bool → (Note → Note) → Note → Note
when true change note = change note
when false change note = note

silent : (b : Bool) (statuses : List Status)
    → (if b then option_to_list None ++ statuses else statuses) ≡ statuses
silent true statuses = refl
silent false statuses = refl

marks_when : (b : Bool) (n : ℕ) (was : Bool) (marks : List Bool) (statuses : List Status)
    → note_with n (b || was) marks statuses ≡ when b marked (note_with n was marks statuses)
marks_when true n was marks statuses = refl
marks_when false n was marks statuses = refl

leaves_when : (b : Bool) (n : ℕ) (was : Bool) (marks : List Bool) (statuses : List Status)
    → note_with n was (if b then was ∷ marks else marks) statuses
    ≡ when b left (note_with n was marks statuses)
leaves_when true n was marks statuses = refl
leaves_when false n was marks statuses = refl

returns_when : (b : Bool) (status : Status) (n : ℕ) (was : Bool) (marks : List Bool)
    (statuses : List Status)
    → note_with n was marks (if b then option_to_list (Some status) ++ statuses else statuses)
    ≡ when b (returned status) (note_with n was marks statuses)
returns_when true status n was marks statuses = refl
returns_when false status n was marks statuses = refl

-- nothing of this use, and what was returned isn't of it
module _ (past : List Entry) (actor : Actor) (u : Serving) where
  unsaid : (was : Bool) (marks : List Bool)
      → note_with u.packet was marks
      (if serves actor.tag u then option_to_list None ++ statuses_returned past u
      else statuses_returned past u)
      ≡ note_with u.packet was marks (statuses_returned past u)
  unsaid was marks =
      ap (λ (statuses : List Status). note_with u.packet was marks statuses)
      (silent (serves actor.tag u) (statuses_returned past u))

  pub same_note : note_of (entry past actor Executes ∷ past) u ≡ note_of past u
  same_note = unsaid (was_marked past u) (marks_left past u)

  pub marks_note : (n : ℕ) → note_of (entry past actor (Marks n) ∷ past) u
      ≡ when (is_use n (current_use past n) u) marked (note_of past u)
  marks_note n =
      unsaid (is_use n (current_use past n) u || was_marked past u) (marks_left past u)
      ∙ marks_when (is_use n (current_use past n) u) u.packet (was_marked past u)
      (marks_left past u) (statuses_returned past u)

  pub leaves_note : (n : ℕ) → note_of (entry past actor (Leaves n) ∷ past) u
      ≡ when (is_use n (current_use past n) u) left (note_of past u)
  leaves_note n =
      unsaid (was_marked past u)
      (if is_use n (current_use past n) u then was_marked past u ∷ marks_left past u
      else marks_left past u)
      ∙ leaves_when (is_use n (current_use past n) u) u.packet (was_marked past u)
      (marks_left past u) (statuses_returned past u)

  pub returns_note : (status : Status) → note_of (entry past actor (Returns status) ∷ past) u
      ≡ when (serves actor.tag u) (returned status) (note_of past u)
  returns_note status =
      returns_when (serves actor.tag u) status u.packet (was_marked past u) (marks_left past u)
      (statuses_returned past u)

-- the notes of all uses, where none changes
pub notes_same : (past later : List Entry) (uses : List Serving)
    → ((u : Serving) → note_of later u ≡ note_of past u) → notes_of later uses ≡ notes_of past uses
notes_same past later [] h = refl
notes_same past later (u ∷ uses) h =
    ap (λ (note : Note). note ∷ notes_of later uses) (h u)
    ∙ ap (λ (notes : List Note). note_of past u ∷ notes) (notes_same past later uses h)

pub notes_more : (past : List Entry) (uses : List Serving) (u : Serving)
    → notes_of past (uses ++ u ∷ []) ≡ notes_of past uses ++ note_of past u ∷ []
notes_more past [] u = refl
notes_more past (v ∷ uses) u =
    ap (λ (notes : List Note). note_of past v ∷ notes) (notes_more past uses u)

pub notes_many : (past : List Entry) (uses : List Serving)
    → length (notes_of past uses) ≡ length uses
notes_many past [] = refl
notes_many past (u ∷ uses) = ap (λ (k : ℕ). suc k) (notes_many past uses)

head_note : (change : Note → Note) (b : Bool) (note : Note) (notes : List Note)
    → when (b && true) change note ∷ notes
    ≡ noted_at change (note ∷ notes) 0 (if b then Some note else None)
head_note change true note notes = refl
head_note change false note notes = refl

later_note : (change : Note → Note) (note : Note) (notes : List Note) (j : ℕ) (o : Option Note)
    → note ∷ noted_at change notes j o ≡ noted_at change (note ∷ notes) (suc j) o
later_note change note notes j None = refl
later_note change note notes j (Some x) = refl

-- and where that of one use does
module _ (past later : List Entry) (change : Note → Note) (n v : ℕ)
    (at : (u : Serving) → note_of later u
    ≡ when (is_use n (Some v) u) change (note_of past u)) where
  unlike : (u : Serving) → v ≢ u.«use» → note_of later u ≡ note_of past u
  unlike u apart =
      elim (eqb_tells v u.«use») [
        | inl e ↦ absurd (apart e.1)
        | inr e ↦
            at u
            ∙ ap (λ (b : Bool). when (nat_eq n u.packet && b) change (note_of past u)) e.0
            ∙ ap (λ (b : Bool). when b change (note_of past u)) (and_false (nat_eq n u.packet))
      ]

  beyond : (k : ℕ) (uses : List Serving) → Numbered k uses → v < k
      → notes_of later uses ≡ notes_of past uses
  beyond k [] h l = refl
  beyond k (u ∷ uses) h l =
      let is : u.«use» ≡ k = h.0 in
      ap (λ (note : Note). note ∷ notes_of later uses) (unlike u (λ same. absurd (omega arith)))
      ∙ ap (λ (notes : List Note). note_of past u ∷ notes)
      (beyond (k + 1) uses h.1 (omega arith))

  changed : (k i : ℕ) (uses : List Serving) → Numbered k uses → v ≡ k + i
      → notes_of later uses
      ≡ noted_at change (notes_of past uses) i
      (note_of_packet n (slice_get (notes_of past uses) i))
  changed k i [] h is = refl
  changed k zero (u ∷ uses) h is =
      let own : u.«use» ≡ k = h.0 in
      let same : nat_eq v u.«use» ≡ true = eq-eqb v u.«use» (omega (arith, is)) in
      ap (λ (note : Note). note ∷ notes_of later uses)
      (at u ∙ ap (λ (b : Bool). when (nat_eq n u.packet && b) change (note_of past u)) same)
      ∙ ap (λ (notes : List Note). when (nat_eq n u.packet && true) change (note_of past u) ∷ notes)
      (beyond (k + 1) uses h.1 (omega (arith, is)))
      ∙ head_note change (nat_eq n u.packet) (note_of past u) (notes_of past uses)
  changed k (suc j) (u ∷ uses) h is =
      let own : u.«use» ≡ k = h.0 in
      ap (λ (note : Note). note ∷ notes_of later uses)
      (unlike u (λ same. absurd (omega (arith, is, same))))
      ∙ ap (λ (notes : List Note). note_of past u ∷ notes)
      (changed (k + 1) j uses h.1 (omega (arith, is)))
      ∙ later_note change (note_of past u) (notes_of past uses) j
      (note_of_packet n (slice_get (notes_of past uses) j))

pub notes_noted : (past later : List Entry) (change : Note → Note) (n : ℕ) (location : Option ℕ)
    (uses : List Serving)
    → ((u : Serving) → note_of later u ≡ when (is_use n location u) change (note_of past u))
    → Numbered 0 uses → notes_of later uses ≡ noted change (notes_of past uses) n location
notes_noted past later change n None uses at h = notes_same past later uses at
notes_noted past later change n (Some v) uses at h =
    changed past later change n v at 0 v uses h (omega arith)

pub notes_returned : (past later : List Entry) (change : Note → Note) (tag : Tag)
    (uses : List Serving)
    → ((u : Serving) → note_of later u ≡ when (serves tag u) change (note_of past u))
    → Numbered 0 uses → notes_of later uses
    ≡ noted_serving change (notes_of past uses) (served_by tag)
notes_returned past later change Managing uses at h = notes_same past later uses at
notes_returned past later change (Activated g driver routine None) uses at h =
    notes_same past later uses at
notes_returned past later change (Activated g driver routine (Some w)) uses at h =
    notes_noted past later change w.packet (Some w.«use») uses at h
