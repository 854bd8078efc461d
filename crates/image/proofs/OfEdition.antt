-- What is read of an image of an edition is something that the edition has.
use Rattle.std.proofs.Common.{◌≡◌, ℕ, nat_eq, List, [], ◌∷◌, Option, None, Result, Ok, Err, refl, subst}
use Rattle.std.specs.Prelude.{is_some}
use Rattle.std.specs.List.{list_any}
use Rattle.image.specs.declared.edition.Edition.{Edition}
use Rattle.image.specs.declared.edition.Edition.TheVariants.{Former, Current}
use Rattle.image.specs.declared.fault.ImageFault.{ImageFault}
use Rattle.image.specs.declared.fault.ImageFault.TheVariants.{BadOpcode}
use Rattle.image.specs.declared.reading.Scope.{Scope}
use Rattle.image.specs.Reading.{◌>>=◌, all_at, at_most, byte_at, count_at, device_at, driver_at, instruction_at, instruction_in, none_or_below, queue_at, routine_at, scoped, sort_in, unused, waiting_in, word_at}
use Rattle.image.specs.Spelling.{HasSpelling}
use Rattle.image.proofs.Editions.{Has, EachHad, all_had, both_had, set_had}
use Rattle.image.proofs.Fields.{driver_lists, set_lists}
use Rattle.image.proofs.Numbers.{bind_ok, ok_is, one_ok, passed}
use Rattle.image.proofs.Words.{instruction_had}
use Rattle.model.specs.declared.limits.TheConstants.{MAX_QUEUES, MAX_ROUTINES}
use Rattle.model.specs.declared.set.Driver.{Driver}
use Rattle.model.specs.declared.set.Routine.{Routine}
use Rattle.model.specs.Edition.{dequeues, is_dequeue, is_of_second}
use Rattle.model.specs.Set.{Set}

read_had : (scope : Scope) → EachHad scope.edition (λ _. instruction_at scope) is_dequeue
read_had scope number bytes x e =
    let a = bind_ok (word_at bytes) _ x e in
    let i = one_ok (λ i. (i, a.0.1)) (instruction_in scope a.0.0) x a.2 in
    subst (λ y. Has scope.edition (is_dequeue y.0)) i.2 (instruction_had scope a.0.0 i.0 i.1)

routine_had : (edition : Edition) (routines queues : ℕ)
    → EachHad edition (λ _. routine_at edition routines queues) dequeues
unfolding routine_at
routine_had edition routines queues number bytes x e =
    let sort = bind_ok (byte_at sort_in bytes) _ x e in
    let zeroed = bind_ok (byte_at unused sort.0.1) _ x sort.2 in
    let count = bind_ok (count_at zeroed.0.1) _ x zeroed.2 in
    let scope = scoped edition routines queues count.0.0 in
    let code = bind_ok (all_at (λ _. instruction_at scope) 0 count.0.0 count.0.1) _ x count.2 in
    let made : Routine × List ℕ =
    (record { sort = sort.0.0; code = code.0.0 }, code.0.1) in
    subst (λ y. Has edition (dequeues y.0)) (ok_is made x code.2)
    (all_had edition (λ _. instruction_at scope) is_dequeue (read_had scope) 0 count.0.0 count.0.1
    code.0 code.1)

waiting_had : (edition : Edition) (routines n : ℕ) (a : Option ℕ)
    → waiting_in edition routines n ≡ Ok a → Has edition (is_some a)
waiting_had Former routines n a e =
    let is = (passed (nat_eq n 0) BadOpcode None a e).1 in rw (← is) refl
waiting_had Current routines n a e = tt

waiting_byte_had : (edition : Edition) (routines : ℕ) (bytes : List ℕ) (x : Option ℕ × List ℕ)
    → byte_at (waiting_in edition routines) bytes ≡ Ok x → Has edition (is_some x.0)
waiting_byte_had edition routines [] x e = absurd cc
waiting_byte_had edition routines (b ∷ bytes) x e =
    let a = one_ok (λ a. (a, bytes)) (waiting_in edition routines b) x e in
    subst (λ y. Has edition (is_some y.0)) a.2 (waiting_had edition routines b a.0 a.1)

-- a driver, by the lists behind its first eight fields
driver_lists_had : (edition : Edition) (routines queues : ℕ)
    (read write control startio dpc waiting : Option ℕ) (bytes : List ℕ) (x : Driver × List ℕ)
    → Has edition (is_some waiting)
    → driver_lists edition routines queues read write control startio dpc waiting bytes ≡ Ok x
    → Has edition (is_of_second x.0)
driver_lists_had edition routines queues read write control startio dpc waiting bytes x had e =
    let listed = bind_ok (all_at (λ _. queue_at routines) 0 queues bytes) _ x e in
    let coded = bind_ok
    (all_at (λ _. routine_at edition routines queues) 0 routines listed.0.1) _ x listed.2 in
    let made : Driver × List ℕ = (
      record {
        routines = coded.0.0;
        queues = listed.0.0;
        read = read;
        write = write;
        control = control;
        startio = startio;
        startio_cancel = waiting;
        dpc = dpc;
      },
      coded.0.1,
    ) in
    subst (λ y. Has edition (is_of_second y.0)) (ok_is made x coded.2)
    (both_had edition (is_some waiting) (list_any dequeues coded.0.0) had
    (all_had edition (λ _. routine_at edition routines queues) dequeues
    (routine_had edition routines queues) 0 routines listed.0.1 coded.0 coded.1))

-- one thing, and then what follows from it
bind_then : {A X P : Type 0} (r : Result A ImageFault) (f : A → Result X ImageFault) (x : X)
    → (r >>= f) ≡ Ok x → ((a : A) → r ≡ Ok a → f a ≡ Ok x → P) → P
bind_then (Ok a) f x e next = next a refl e
bind_then (Err fault) f x e next = absurd cc

driver_had : (edition : Edition) → EachHad edition (λ _. driver_at edition) is_of_second
unfolding driver_at
driver_had edition number bytes x e =
    bind_then (byte_at (at_most MAX_ROUTINES) bytes) _ x e (λ n e0 f0.
    bind_then (byte_at (at_most MAX_QUEUES) n.1) _ x f0 (λ m e1 f1.
    bind_then (byte_at (none_or_below n.0) m.1) _ x f1 (λ read e2 f2.
    bind_then (byte_at (none_or_below n.0) read.1) _ x f2 (λ write e3 f3.
    bind_then (byte_at (none_or_below n.0) write.1) _ x f3 (λ control e4 f4.
    bind_then (byte_at (none_or_below n.0) control.1) _ x f4 (λ startio e5 f5.
    bind_then (byte_at (none_or_below n.0) startio.1) _ x f5 (λ dpc e6 f6.
    bind_then (byte_at (waiting_in edition n.0) dpc.1) _ x f6 (λ waiting e7 f7.
    driver_lists_had edition n.0 m.0 read.0 write.0 control.0 startio.0 dpc.0 waiting.0 waiting.1 x
    (waiting_byte_had edition n.0 dpc.1 waiting e7) f7))))))))

-- a set, by the lists behind its first eight fields
pub set_lists_had : (edition : Edition) (drivers devices : ℕ) (bytes : List ℕ)
    (x : Set × List ℕ) → set_lists edition drivers devices bytes ≡ Ok x → HasSpelling edition x.0
set_lists_had edition drivers devices bytes x e =
    let a = bind_ok (all_at (λ _. driver_at edition) 0 drivers bytes) _ x e in
    let b = bind_ok (all_at (device_at drivers) 0 devices a.0.1) _ x a.2 in
    subst (λ y. HasSpelling edition y.0) (ok_is _ x b.2)
    (set_had edition (record { drivers = a.0.0; devices = b.0.0 })
    (all_had edition (λ _. driver_at edition) is_of_second (driver_had edition) 0 drivers bytes
    a.0 a.1))
