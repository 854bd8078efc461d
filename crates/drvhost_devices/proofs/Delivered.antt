-- An answer in memory went to its writers.
use Rattle.std.proofs.Common.{◌≡◌, ◌+◌, ℕ, List, Option, arith, codes, refl}
use Rattle.std.specs.Io.KnownBytes.{Appends}
use Rattle.drvhost_devices.specs.Answer.{Answer}
use Rattle.drvhost_devices.specs.Device.{Says, TakesBeginning}
use Rattle.drvhost_devices.specs.Ends.{Answers, Rightly, WriteFailed}

-- an answer goes out
pub answer_written : (whole : Answer) (reads w x e f : ℕ) (b n p q : Option (List ℕ)) → x ≡ w
    → Appends b n whole.output → Says e f p q whole.told
    → Answers (λ answer. answer ≡ whole) reads reads w x b n (Says e f p q) whole.status
answer_written whole reads w x e f b n p q same out says =
    record {
      reads = 0;
      writes = 0;
      told = whole.told;
      reads_are = omega arith;
      writes_are = omega (arith, same);
      tells = says;
      ends = Rightly whole refl refl refl refl refl out;
    }

-- or a beginning of it
pub answer_broken : (whole : Answer) (reads w x e f : ℕ) (b n p q : Option (List ℕ)) → x ≡ w + 1
    → TakesBeginning b n whole.output → Says e f p q (codes "write failed\n")
    → Answers (λ answer. answer ≡ whole) reads reads w x b n (Says e f p q) 2
answer_broken whole reads w x e f b n p q more taken says =
    record {
      reads = 0;
      writes = 1;
      told = codes "write failed\n";
      reads_are = omega arith;
      writes_are = omega (arith, more);
      tells = says;
      ends = WriteFailed whole refl refl refl refl refl taken;
    }
