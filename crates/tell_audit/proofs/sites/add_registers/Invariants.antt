use Rattle.std.proofs.Common.{◌≡◌, ◌++◌}
use Rattle.tell_audit.specs.Sites.{registers_below}
use Rattle.tell_audit.proofs.sites.add_registers.Given as goal

abbrev pub invariant-loop-register : goal.invariant-loop-register
invariant-loop-register l = l.sites.items ≡ l.initial.sites.items ++ registers_below l.n l.thread l.frame l.a l.register
