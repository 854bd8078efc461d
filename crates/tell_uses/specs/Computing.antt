-- Steps that only compute: of a routine at an instruction that moves, counts or tests what its
-- registers have, or reads or writes a cell or a field of a packet. None of them is about where a
-- packet is, a lock, a list or a level.
use Rattle.std.specs.Prelude.{Bool, true, false, Option, None, Some}
use Rattle.model.specs.declared.instr.Instr.{Instr}
use Rattle.model.specs.declared.instr.Instr.TheVariants.{Acquire, AcquireCancel, Add, Arm, Begin, Call, Clear, Complete, Const, Dequeue, Disarm, End, Get, IfCancel, IfPending, Insert, Jump, JumpIfLess, JumpIfZero, Load, LoadPaged, Loop, Mark, Move, Next, Pass, Put, Release, ReleaseCancel, Remove, Ret, Start, Store, StorePaged, Subtract, Take, Unlink}
use Rattle.tell_uses.specs.declared.acting.Acting.{Acting}

-- such an instruction, where a routine stands at one: each is named, so that a new one says whether
-- it only computes
abbrev pub is_computing_at : Option Instr → Bool
is_computing_at None = false
is_computing_at (Some (Const r n)) = true
is_computing_at (Some (Move r s)) = true
is_computing_at (Some (Clear r)) = true
is_computing_at (Some (Add r s)) = true
is_computing_at (Some (Subtract r s)) = true
is_computing_at (Some (JumpIfZero r label)) = true
is_computing_at (Some (JumpIfLess r s label)) = true
is_computing_at (Some (Jump label)) = true
is_computing_at (Some (Loop turns)) = true
is_computing_at (Some End) = true
is_computing_at (Some (Load r c)) = true
is_computing_at (Some (Store c r)) = true
is_computing_at (Some (LoadPaged r c)) = true
is_computing_at (Some (StorePaged c r)) = true
is_computing_at (Some (Get r s field)) = true
is_computing_at (Some (Put s r)) = true
is_computing_at (Some (Mark r)) = false
is_computing_at (Some (Acquire l)) = false
is_computing_at (Some (Release l)) = false
is_computing_at (Some AcquireCancel) = false
is_computing_at (Some ReleaseCancel) = false
is_computing_at (Some (Insert r q)) = false
is_computing_at (Some (Remove r q label)) = false
is_computing_at (Some (Unlink r q)) = false
is_computing_at (Some (Arm r q)) = false
is_computing_at (Some (Disarm r label)) = false
is_computing_at (Some (IfCancel r label)) = false
is_computing_at (Some (Start r)) = false
is_computing_at (Some (Take r label)) = false
is_computing_at (Some (Begin r)) = false
is_computing_at (Some Next) = false
is_computing_at (Some (Dequeue r)) = false
is_computing_at (Some (Pass r)) = false
is_computing_at (Some (Call r routine)) = false
is_computing_at (Some (Complete r status)) = false
is_computing_at (Some (IfPending r label)) = true
is_computing_at (Some (Ret form)) = false

-- what acts in an event stands at one
abbrev pub computes : Option Acting → Bool
computes None = false
computes (Some acting) = is_computing_at acting.instruction
