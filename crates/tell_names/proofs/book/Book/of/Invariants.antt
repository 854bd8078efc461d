use Rattle.std.proofs.Common.{length}
use Rattle.tell_names.proofs.book.Book.of.Given as goal

abbrev pub decreases-loop-raw : goal.decreases-loop-raw
decreases-loop-raw l = length l.left.left
