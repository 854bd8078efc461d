-- What a handle owns.
use Rattle.std.specs.Prelude.{Bool, true, false}
use base.Fml.{Fml, ftrue}
use denote.RattleType.{RattleType}
use denote.RawPtr.{Ptr}
use Rattle.std.specs.Global.{Global}
use Rattle.std.specs.contracts.impls.GlobalAllocator.TheImpl.{ghosts}
use Rattle.std_alloc.specs.Box.Ownership.{box_owns}

-- the heap, of which there is one
abbrev pub the_heap : Global
the_heap = record { memory = record { seal = tt } }

-- where something of a type is there, its value at the pointer, and the right to free its block
abbrev pub holds : (R : RattleType) → Bool → Ptr → R.Denot → Fml
holds R false at value = ftrue
holds R true at value = box_owns (ghosts.dealloc_token the_heap) R at value
