use Rattle.std.proofs.Common.{◌≡◌, ◌++◌}
use Rattle.tell_audit.specs.Sites.{frames_below}
use Rattle.tell_audit.proofs.sites.add_frames.Given as goal

abbrev pub invariant-loop-place : goal.invariant-loop-place
invariant-loop-place l = l.sites.items ≡ l.initial.sites.items ++ frames_below l.machine.world l.n l.thread l.place
