-- A packet stands at most once in all lists together, and in none where it isn't live: who has it
-- is a queue without a cancel routine, what a device has for StartIo, its cancel word, or a
-- register.
use Rattle.laws_runs.proofs.Common.{ap, arith, refl, None, Option, Some, if◌then◌else◌, ℕ, ◌+◌, ◌≡◌, ◌≤◌, Run, Set, World, packet_of, Packet, States, alive, frame_rights, is_live, thread_sum, times_listed, times_waiting}
use Rattle.laws_runs.proofs.Claims.Held.{none_alone, rights_cover}
use Rattle.laws_runs.proofs.Claims.Sums.{Claimed, takes_in}
use Rattle.laws_runs.proofs.Holders.Runs.{live_listed}
use Rattle.laws_runs.proofs.Holders.Sums.{Held, unheld}
use Rattle.laws_runs.proofs.Past.LivePackets.{find, find_place}
use Rattle.laws_runs.proofs.Past.Packets.{Tells}

module _ (set : Set) (states : States) (w : World) (kept : Held set states w)
    (claimed : Claimed set states w) (n : ℕ) where
  -- a packet that no register has a right to and that waits nowhere stands in no list
  gone_unlisted : unheld (find w.shared.packets n) ≡ 0 → times_listed w.shared n ≡ 0
  gone_unlisted nobody =
      let all : thread_sum (λ f. frame_rights states f n) w.threads + times_waiting set w.shared n
      ≡ unheld (find w.shared.packets n) = kept.rights n in
      let none : takes_in states n w.threads + times_listed w.shared n ≡ 0 =
      none_alone set states w kept n claimed.balanced (λ d q.
      omega (arith, rights_cover states d q n w.threads)) in
      omega arith

  pub listed_once : times_listed w.shared n ≤ 1
  listed_once =
      omega (arith, claimed.balanced.once n)

  alive_once : (o : Option Packet) → find w.shared.packets n ≡ o
      → times_listed w.shared n ≤ alive o
  alive_once None gone =
      omega (arith, gone_unlisted (ap unheld gone))
  alive_once (Some p) there = let one : times_listed w.shared n ≤ 1 = listed_once in omega arith

-- in the words of the law
pub lists_live : (set : Set) (states : States) (r : Run) → Tells r.world.shared r.past
    → Held set states r.world → Claimed set states r.world → (n : ℕ)
    → times_listed r.world.shared n ≤ (if is_live r n then 1 else 0)
lists_live set states r tells kept claimed n =
    let few : times_listed r.world.shared n ≤ alive (find r.world.shared.packets n) =
    alive_once set states r.world kept claimed n (find r.world.shared.packets n) refl in
    let same : alive (packet_of r.world.shared n) ≡ alive (find r.world.shared.packets n) =
    ap alive (find_place r.world.shared.packets n) in
    omega (arith, live_listed r tells n)
