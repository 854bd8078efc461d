-- An answer in memory.
use Rattle.std.specs.Prelude.{ℕ, ◌≡◌, ◌≢◌, ◌++◌, List, max, Option, Some}
use Rattle.drvhost_devices.specs.Answer.{Answer}

-- all its bytes, those of the output first
abbrev pub bytes_of : Answer → List ℕ
bytes_of answer = answer.output ++ answer.told

-- two answers, one behind the other: the greater exit status
abbrev pub joined : Answer → Answer → Answer
joined first second =
    record {
      status = max first.status second.status;
      output = first.output ++ second.output;
      told = first.told ++ second.told;
    }

-- no read and no write failed, memory was found, and the answer is what was written
pub record Collects (exit unread unwritten : ℕ) (written : Option (List ℕ)) (untold : ℕ)
    (errors : Option (List ℕ)) (answer : Answer) : Type 0 where
  pub found : exit ≢ 3
  pub read : unread ≡ 0
  pub wrote : unwritten ≡ 0
  pub said : untold ≡ 0
  pub status : answer.status ≡ exit
  pub output : written ≡ Some answer.output
  pub words : errors ≡ Some answer.told
