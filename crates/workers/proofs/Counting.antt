-- What one entry more or one command more changes: in a count, in a list, in what a worker did.
use Rattle.std.proofs.Common.{◌≡◌, ◌≢◌, ℕ, zero, suc, ◌+◌, Bool, List, [], ◌∷◌, ◌++◌, Option, None, Some, cond, length, refl, ap, ◌∙◌, append_assoc, arith}
use Rattle.std.specs.Prelude.{is_some, nat_eq, slice_get, slice_index_or, slice_set}
use Rattle.std.proofs.lemmas.Bool.{eq-eqb, ne_eqb}
use Rattle.std.proofs.lemmas.List.{append-nil}
use Rattle.std.proofs.lemmas.List.Sums.{sum_by-set, sum_by_push}
use Rattle.std.proofs.lemmas.Option.{get_or_from_slice_get, slice_get_within}
use Rattle.model.specs.declared.history.Entry.{Entry}
use Rattle.model.specs.declared.history.Name.{Name}
use Rattle.model.specs.History.{NamedCommand}
use Rattle.hostcore.specs.Core.{counted, counted_at}
use Rattle.intake.specs.Ends.{TakerState}
use Rattle.workers.specs.Worked.{IsCommand, IsOwn, Worked, command, count_named, count_of_thread, count_taken, elsewhere, own}
use Rattle.workers.specs.Turned.{took}

-- one more in a count, or none
pub one_if : Bool → ℕ
one_if b = cond b 1 0

abbrev of_thread : ℕ → Entry → ℕ
of_thread t e = cond (nat_eq e.thread t) 1 0

abbrev with_name : Entry → ℕ
with_name e = cond (is_some e.name) 1 0

pub count_here : (t : ℕ) (new : List Entry) (e : Entry) → e.thread ≡ t
    → count_of_thread t (new ++ e ∷ []) ≡ count_of_thread t new + 1
count_here t new e same =
    sum_by_push (of_thread t) new e
    ∙ ap (λ (b : Bool). count_of_thread t new + cond b 1 0) (eq-eqb e.thread t same)

pub count_there : (t : ℕ) (new : List Entry) (e : Entry) → e.thread ≢ t
    → count_of_thread t (new ++ e ∷ []) ≡ count_of_thread t new
count_there t new e apart =
    let pushed : count_of_thread t (new ++ e ∷ []) ≡ count_of_thread t new + of_thread t e = sum_by_push (of_thread t) new e in
    let none : of_thread t e ≡ 0 = ap (λ (b : Bool). cond b 1 0) (ne_eqb e.thread t apart) in
    omega arith

pub named_more : (new : List Entry) (e : Entry) (name : Name) → e.name ≡ Some name
    → count_named (new ++ e ∷ []) ≡ count_named new + 1
named_more new e name same =
    sum_by_push with_name new e
    ∙ ap (λ (o : Option Name). count_named new + cond (is_some o) 1 0) same

pub named_same : (new : List Entry) (e : Entry) → e.name ≡ None
    → count_named (new ++ e ∷ []) ≡ count_named new
named_same new e same =
    let pushed : count_named (new ++ e ∷ []) ≡ count_named new + with_name e = sum_by_push with_name new e in
    let none : with_name e ≡ 0 = ap (λ (o : Option Name). cond (is_some o) 1 0) same in
    omega arith

abbrev taken_by : TakerState → ℕ
taken_by t = length t.taken

-- the commands that all took, where one of them took so many more
pub taken_at : (takers : List TakerState) (i : ℕ) (a after : TakerState) (n : ℕ)
    → slice_get takers i ≡ Some a → length after.taken ≡ length a.taken + n
    → count_taken (slice_set takers i after) ≡ count_taken takers + n
taken_at takers i a after n at more =
    let put = sum_by-set taken_by takers i after a (slice_get_within takers i a at) in
    let same : taken_by (slice_index_or takers i a) ≡ taken_by a = ap taken_by (get_or_from_slice_get takers i a a at) in
    omega arith

-- the seat of a thread counts one more
pub counted_here : (seats : List (Option ℕ)) (t n : ℕ) → slice_get seats t ≡ Some (Some n)
    → counted seats t ≡ slice_set seats t (Some (n + 1))
counted_here seats t n at = ap (counted_at seats t) at

-- what a worker did, after one entry more of another thread
pub worked_elsewhere : (before new : List Entry) (t : ℕ) (b a : TakerState)
    (kept : List NamedCommand) (e : Entry) → e.thread ≢ t → Worked before new t b a kept
    → Worked before (new ++ e ∷ []) t b a kept
worked_elsewhere before new t b a kept e apart w =
    record {
      queue = w.queue;
      share = w.share;
      done = w.done;
      performs = elsewhere new w.done e apart w.performs;
      taken = w.taken;
    }

-- the same after one entry more of its own
pub worked_own : (before new : List Entry) (t : ℕ) (b a : TakerState)
    (kept : List NamedCommand) (e : Entry) → IsOwn t e → Worked before new t b a kept
    → Worked before (new ++ e ∷ []) t b a kept
worked_own before new t b a kept e its w =
    record {
      queue = w.queue;
      share = w.share;
      done = w.done;
      performs = own new w.done e its w.performs;
      taken = w.taken;
    }

-- the same after a command more, which it performed or keeps
pub worked_command : (before new : List Entry) (t : ℕ) (b a : TakerState) (e : Entry)
    (asked : NamedCommand) → IsCommand (before ++ new) t asked e → Worked before new t b a []
    → Worked before (new ++ e ∷ []) t b (took a asked) []
worked_command before new t b a e asked its w =
    record {
      queue = w.queue;
      share = w.share;
      done = w.done ++ asked ∷ [];
      performs = command new w.done e asked its w.performs;
      taken = ap (λ (xs : List NamedCommand). xs ++ asked ∷ []) w.taken
          ∙ moved b.taken w.done (asked ∷ []);
    }
  where
    moved : (xs ys zs : List NamedCommand) → xs ++ ys ++ [] ++ zs ≡ xs ++ (ys ++ zs) ++ []
    moved xs ys zs = simp (append_assoc, append-nil)

pub worked_kept : (before new : List Entry) (t : ℕ) (b a : TakerState) (asked : NamedCommand)
    → Worked before new t b a [] → Worked before new t b (took a asked) (asked ∷ [])
worked_kept before new t b a asked w =
    record {
      queue = w.queue;
      share = w.share;
      done = w.done;
      performs = w.performs;
      taken = ap (λ (xs : List NamedCommand). xs ++ asked ∷ []) w.taken
          ∙ ap (λ (xs : List NamedCommand). xs ++ asked ∷ []) (append-nil (b.taken ++ w.done));
    }

-- lists with the same at each place are the same
pub same_by_get : {A : Type 0} (xs ys : List A) → ((i : ℕ) → slice_get xs i ≡ slice_get ys i)
    → xs ≡ ys
same_by_get [] [] h = refl
same_by_get [] (y ∷ ys) h = let none = h 0 in cc
same_by_get (x ∷ xs) [] h = let none = h 0 in cc
same_by_get (x ∷ xs) (y ∷ ys) h =
    let first = h 0 in
    let rest = same_by_get xs ys (λ i. h (suc i)) in
    cc

pub set_self : {A : Type 0} (xs : List A) (i : ℕ) (x : A) → slice_get xs i ≡ Some x
    → slice_set xs i x ≡ xs
set_self [] i x h = refl
set_self (y ∷ xs) zero x h = let same : y ≡ x = cc in rw same refl
set_self {A = A} (y ∷ xs) (suc i) x h = ap (λ (rest : List A). y ∷ rest) (set_self xs i x h)
