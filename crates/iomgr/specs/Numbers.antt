-- The numbers of live packets.
use Rattle.std.specs.Prelude.{◌≤◌, ℕ, suc, List, [], ◌∷◌, map, nat_eq, if◌then◌else◌}
use Rattle.model.specs.declared.world.Packet.{Packet}

-- each number is above those before it; none is below the first bound, and each is below the second
abbrev pub Rising : ℕ → ℕ → List ℕ → Type 0
Rising low end [] = low ≤ end
Rising low end (n ∷ numbers) = (low ≤ n) × Rising (suc n) end numbers

-- the place of a number, or how many numbers there are
abbrev pub number_place : List ℕ → ℕ → ℕ
number_place [] n = 0
number_place (m ∷ numbers) n = if nat_eq m n then 0 else suc (number_place numbers n)

-- the numbers of packets
abbrev pub numbers_of : List Packet → List ℕ
numbers_of packets = map (λ p. p.number) packets
