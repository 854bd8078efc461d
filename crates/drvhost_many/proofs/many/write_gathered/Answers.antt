use Rattle.std.proofs.Common.{rules}
use Rattle.drvhost_many.proofs.many.write_gathered.Goals as goal

pub returns-in-Err-clause-lost : goal.returns-in-Err-clause-lost
returns-in-Err-clause-lost g c =
    record {
      some = search rules;
      more = search rules;
      taken = search rules;
      says = rw (c.as_bytes.ensures.value) at c.say_behind.ensures;
    }
