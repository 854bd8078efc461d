-- Slots of which none is used, with idle threads, mean the world before the first event.
use Rattle.std.proofs.Common.{◌≡◌, ℕ, zero, suc, true, false, [], None, refl, sym, ◌∙◌, ap, map, is_some, replicate}
use Rattle.model.specs.declared.limits.TheConstants.{MAX_QUEUES}
use Rattle.model.specs.Queues.{idle}
use Rattle.model.specs.Set.{Set}
use Rattle.model.specs.Shown.{ShowsThreads, whole_thread}
use Rattle.model.specs.World.{Shared, idle_thread, opening, unused}
use Rattle.laws_slots.specs.Rep.{EachThread, Means, MeansShared, meant_lists, meant_start, meant_thread, named}
use Rattle.laws_slots.specs.Slots.{SlotFrame, SlotShared, slot_at}
use Rattle.laws_slots.specs.SlotEvents.{idle_slots, opening_slots}

map_same : {A B : Type 0} (f : A → B) (n : ℕ) (x : A) (y : B) → f x ≡ y
    → map f (replicate n x) ≡ replicate n y
map_same f zero x y is = refl
map_same {B = B} f (suc n) x y is = rw (is, map_same f n x y is) refl

free_slot : (slots k : ℕ) → slot_at (replicate slots None) k ≡ None
free_slot zero k = refl
free_slot (suc slots) zero = refl
free_slot (suc slots) (suc k) = free_slot slots k

each_idle : (P : SlotFrame → Type 0) (threads : ℕ) → EachThread P (replicate threads idle_slots)
each_idle P zero = tt
each_idle P (suc threads) = (tt, each_idle P threads)

threads_idle : (set : Set) (s : Shared) (name : ℕ → ℕ) (threads : ℕ)
    → ShowsThreads set s (map whole_thread (map (meant_thread name) (replicate threads idle_slots)))
    (replicate threads idle_thread)
threads_idle set s name zero = tt
threads_idle set s name (suc threads) = ((refl, tt), threads_idle set s name threads)

shared_unused : (name : ℕ → ℕ) (devices threads slots : ℕ)
    → MeansShared name (opening_slots devices threads slots).shared (unused devices)
shared_unused name devices threads slots =
    record {
      packets = refl;
      issued = refl;
      locks = refl;
      cells = refl;
      queues = map_same (meant_lists name) devices (replicate MAX_QUEUES [])
          (replicate MAX_QUEUES []) refl;
      starts = map_same (meant_start name) devices idle idle refl;
      dpcs = refl;
    }

pub opening_means : (set : Set) (devices threads slots : ℕ)
    → Means set (opening_slots devices threads slots) (opening devices threads)
opening_means set devices threads slots =
    let s : SlotShared = (opening_slots devices threads slots).shared in
    record {
      shared = shared_unused (named s) devices threads slots;
      threads = threads_idle set (unused devices) (named s) threads;
      order = record {
        used = λ k linked. cc;
        listed = λ k used. (let no : false ≡ true =
            ap is_some (sym (free_slot slots k)) ∙ used in cc);
      };
      whole = each_idle _ threads;
      cancels = each_idle _ threads;
    }
