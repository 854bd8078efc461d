-- What threads did, thread by thread and all together.
use Rattle.std.proofs.Common.{◌≡◌, ◌≢◌, ◌<◌, ◌≤◌, ◌+◌, ◌++◌, ◌⊎◌, inl, inr, ⊎_elim, ℕ, zero, suc, List, [], ◌∷◌, Option, None, Some, cond, length, sum_by, refl, subst, ap, ◌∙◌, append_assoc, arith}
use Rattle.std.specs.Prelude.{All, Bool, count_by, nat_eq, slice_get}
use Rattle.std.proofs.lemmas.Bool.{eq-eqb, ne_eqb}
use Rattle.std.proofs.lemmas.Bool.Decides.{eqb_tells}
use Rattle.std.proofs.lemmas.List.Sums.{sum_by-append, sum_by-cons, sum_by_push}
use Rattle.model.specs.declared.history.Entry.{Entry}
use Rattle.model.specs.declared.history.Name.{Name}
use Rattle.model.specs.History.{NamedCommand, has_name, is_name}
use Rattle.intake.specs.Ends.{TakerState, weigh_taken}
use Rattle.intake.specs.Lists.{weigh}
use Rattle.intake.proofs.Lists.{get_push}
use Rattle.workers.specs.Worked.{IsCommand, IsOwn, Performs, Worked, command, elsewhere, nothing, own}
use Rattle.workers_script.proofs.Membership.{IsWeighed, one_if}

-- one, for an entry or a command of a name
abbrev pub entry_of : Name → Entry → ℕ
entry_of n e = one_if (has_name e.name n)

abbrev pub command_of : Name → NamedCommand → ℕ
command_of n asked = one_if (is_name asked.name n)

-- how many entries have a name, and how many such a thread has
abbrev pub count_entries : Name → List Entry → ℕ
count_entries n entries = count_by (λ (e : Entry). has_name e.name n) entries

abbrev entry_at : Name → ℕ → Entry → ℕ
entry_at n t e = cond (nat_eq e.thread t) (entry_of n e) 0

abbrev pub count_at : Name → List Entry → ℕ → ℕ
count_at n new t = sum_by (entry_at n t) new

here : (n : Name) (t : ℕ) (e : Entry) → e.thread ≡ t → entry_at n t e ≡ entry_of n e
here n t e same = ap (λ (b : Bool). cond b (entry_of n e) 0) (eq-eqb e.thread t same)

there : (n : Name) (t : ℕ) (e : Entry) → e.thread ≢ t → entry_at n t e ≡ 0
there n t e apart = ap (λ (b : Bool). cond b (entry_of n e) 0) (ne_eqb e.thread t apart)

named : (n : Name) (e : Entry) (o : Option Name) → e.name ≡ o
    → entry_of n e ≡ one_if (has_name o n)
named n e o same = ap (λ (x : Option Name). one_if (has_name x n)) same

-- a thread has as many entries of a name as commands of it that it performed
pub count_performed : (n : Name) (before : List Entry) (t : ℕ) (new : List Entry)
    (done : List NamedCommand) → Performs before t new done
    → count_at n new t ≡ weigh (command_of n) done
count_performed n before t _ _ nothing = refl
count_performed n before t _ _ (elsewhere new done e apart rest) =
    let less = count_performed n before t new done rest in
    omega (arith, less, sum_by_push (entry_at n t) new e, there n t e apart)
count_performed n before t _ _ (own new done e its rest) =
    let less = count_performed n before t new done rest in
    let none : entry_at n t e ≡ 0 = here n t e its.thread ∙ named n e None its.name in
    omega (arith, less, sum_by_push (entry_at n t) new e, none)
count_performed n before t _ _ (command new done e asked its rest) =
    let less = count_performed n before t new done rest in
    let one = here n t e its.thread ∙ named n e (Some asked.name) its.name in
    omega (
      arith,
      less,
      sum_by_push (entry_at n t) new e,
      one,
      sum_by_push (command_of n) done asked,
    )

-- an entry performs a command: the event that the command is after the entries before it
pub record Performed (before new : List Entry) (t : ℕ) (e : Entry) (done : List NamedCommand)
    : Type 0 where
  pub first : List Entry
  pub later : List Entry
  pub parts : new ≡ first ++ e ∷ later
  pub asked : NamedCommand
  pub its : IsCommand (before ++ first) t asked e
  pub weighed : IsWeighed asked done

-- it does so before one entry more, and among more commands
performed_more : (before new : List Entry) (t : ℕ) (e d : Entry) (done all : List NamedCommand)
    → ((h : NamedCommand → ℕ) → weigh h done ≤ weigh h all) → Performed before new t e done
    → Performed before (new ++ d ∷ []) t e all
performed_more before new t e d done all more p =
    record {
      first = p.first;
      later = p.later ++ d ∷ [];
      parts = ap (λ (xs : List Entry). xs ++ d ∷ []) p.parts
          ∙ append_assoc p.first (e ∷ p.later) (d ∷ []);
      asked = p.asked;
      its = p.its;
      weighed = λ h. omega (arith, p.weighed h, more h);
    }

performed_last : (before new : List Entry) (t : ℕ) (e : Entry) (done : List NamedCommand)
    (asked : NamedCommand) → IsCommand (before ++ new) t asked e
    → Performed before (new ++ e ∷ []) t e (done ++ asked ∷ [])
performed_last before new t e done asked its =
    record {
      first = new;
      later = [];
      parts = refl;
      asked = asked;
      its = its;
      weighed = λ h. omega (arith, sum_by_push h done asked);
    }

-- each entry of a thread is its own or performs one of its commands
pub performed_at : (before : List Entry) (t : ℕ) (new : List Entry) (done : List NamedCommand)
    → Performs before t new done → (i : ℕ) (e : Entry) → slice_get new i ≡ Some e → e.thread ≡ t
    → IsOwn t e ⊎ Performed before new t e done
performed_at before t _ _ nothing i e at same = cc
performed_at before t _ _ (elsewhere new done d apart rest) i e at same =
    elim (get_push new d e i at) [
      | inl earlier ↦ ⊎_elim (λ h. inl h)
          (λ h. inr (performed_more before new t e d done done (λ w. omega arith) h))
          (performed_at before t new done rest i e earlier same)
      | inr last ↦ absurd (apart (ap (λ (x : Entry). x.thread) last.1 ∙ same))
    ]
performed_at before t _ _ (own new done d its rest) i e at same =
    elim (get_push new d e i at) [
      | inl earlier ↦ ⊎_elim (λ h. inl h)
          (λ h. inr (performed_more before new t e d done done (λ w. omega arith) h))
          (performed_at before t new done rest i e earlier same)
      | inr last ↦ inl (subst (λ (x : Entry). IsOwn t x) last.1 its)
    ]
performed_at before t _ _ (command new done d asked its rest) i e at same =
    elim (get_push new d e i at) [
      | inl earlier ↦ ⊎_elim (λ h. inl h)
          (λ h. inr (performed_more before new t e d done (done ++ asked ∷ [])
          (λ w. omega (arith, sum_by_push w done asked)) h))
          (performed_at before t new done rest i e earlier same)
      | inr last ↦ inr (subst (λ (x : Entry).
          Performed before (new ++ d ∷ []) t x (done ++ asked ∷ [])) last.1
          (performed_last before new t d done asked its))
    ]

-- what a worker performed is among what its taker took
pub done_taken : (before new : List Entry) (t : ℕ) (b a : TakerState) (kept : List NamedCommand)
    (w : Worked before new t b a kept) (h : NamedCommand → ℕ) → weigh h w.done ≤ weigh h a.taken
done_taken before new t b a kept w h =
    let all : weigh h a.taken ≡ weigh h (b.taken ++ w.done ++ kept) = ap (weigh h) w.taken in
    omega (arith, all, sum_by-append h (b.taken ++ w.done) kept, sum_by-append h b.taken w.done)

-- numbers of threads, from one on, added up
abbrev pub over : (ℕ → ℕ) → ℕ → ℕ → ℕ
over f from zero = 0
over f from (suc count) = f from + over f (from + 1) count

over_nothing : (from count : ℕ) → over (λ t. 0) from count ≡ 0
over_nothing from zero = refl
over_nothing from (suc count) = omega (arith, over_nothing (from + 1) count)

over_both : (f g h : ℕ → ℕ) → ((t : ℕ) → f t ≡ g t + h t) → (from count : ℕ)
    → over f from count ≡ over g from count + over h from count
over_both f g h same from zero = refl
over_both f g h same from (suc count) =
    omega (arith, same from, over_both f g h same (from + 1) count)

abbrev at_thread : ℕ → ℕ → ℕ → ℕ
at_thread s weight t = cond (nat_eq s t) weight 0

elsewhere_none : (s weight t : ℕ) → s ≢ t → at_thread s weight t ≡ 0
elsewhere_none s weight t apart = ap (λ (b : Bool). cond b weight 0) (ne_eqb s t apart)

over_before : (s weight from count : ℕ) → s < from → over (at_thread s weight) from count ≡ 0
over_before s weight from zero before = refl
over_before s weight from (suc count) before =
    let apart : s ≢ from = λ same. omega (arith, before, same) in
    let none = elsewhere_none s weight from apart in
    omega (arith, none, over_before s weight (from + 1) count (omega (arith, before)))

over_one : (s weight from count : ℕ) → from ≤ s → s < from + count
    → over (at_thread s weight) from count ≡ weight
over_one s weight from zero low high = absurd (omega (arith, low, high))
over_one s weight from (suc count) low high =
    elim (eqb_tells s from) [
      | inl p ↦
          let one : at_thread s weight from ≡ weight = ap (λ (b : Bool). cond b weight 0) p.0 in
          omega (arith, one, over_before s weight (from + 1) count (omega (arith, p.1)))
      | inr p ↦
          let none = elsewhere_none s weight from p.1 in
          omega (
            arith,
            none,
            over_one s weight (from + 1) count (let apart = p.1 in omega arith)
                (omega (arith, high)),
          )
    ]

-- the entries of a name are those that the threads have
pub over_threads : (n : Name) (count : ℕ) (new : List Entry)
    → All (λ (e : Entry). e.thread < count) new
    → over (count_at n new) 0 count ≡ count_entries n new
over_threads n count [] all = over_nothing 0 count
over_threads n count (e ∷ new) all =
    let few : e.thread < count = all 0 e (omega arith) in
    let rest = over_threads n count new (λ k d within. all (suc k) d (omega (arith, within))) in
    let one = over_one e.thread (entry_of n e) 0 count (omega arith) (omega (arith, few)) in
    let its = at_thread e.thread (entry_of n e) in
    let more = λ (t : ℕ). sum_by-cons (entry_at n t) e new in
    let both = over_both (count_at n (e ∷ new)) its (count_at n new) more 0 count in
    omega (arith, rest, one, both, sum_by-cons (entry_of n) e new)

-- where each thread has no more than its taker took, all together have no more than all took
pub over_takers : (f : ℕ → ℕ) (h : NamedCommand → ℕ) (from : ℕ) (takers : List TakerState)
    → ((i t : ℕ) (a : TakerState) → t ≡ from + i → slice_get takers i ≡ Some a
    → f t ≤ weigh h a.taken)
    → over f from (length takers) ≤ weigh_taken h takers
over_takers f h from [] each = omega arith
over_takers f h from (a ∷ takers) each =
    let first = each zero from a (omega arith) refl in
    let rest = over_takers f h (from + 1) takers (λ i t b same.
    each (suc i) t b (omega (arith, same))) in
    omega (arith, first, rest, sum_by-cons (λ (t : TakerState). weigh h t.taken) a takers)
