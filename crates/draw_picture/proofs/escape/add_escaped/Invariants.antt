use Rattle.std.proofs.Common.{◌≡◌, ◌++◌, string_bytes, take}
use Rattle.draw_picture.specs.Escape.{escaped}
use Rattle.draw_picture.proofs.escape.add_escaped.Given as goal

abbrev pub invariant-loop-byte : goal.invariant-loop-byte
invariant-loop-byte l =
    string_bytes l.words ≡ string_bytes l.initial.words ++ escaped (take l.byte-index l.bytes)
