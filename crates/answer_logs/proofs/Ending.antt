-- How files are answered with one log.
use Rattle.std.proofs.Common.{◌≡◌, ◌+◌, ℕ, List, [], Option, Result, Ok, String, arith, codes, inl, inr, refl, subst}
use Rattle.std.specs.Global.{Global}
use Rattle.std.specs.Io.KnownBytes.{Appends}
use Rattle.report_sarif.specs.declared.log.Finding.{Finding}
use Rattle.drvhost_devices.specs.Device.{Says, Supply, TakesBeginning}
use Rattle.drvhost_devices.specs.Ends.{Answers, Ends, OutOfMemory, Rightly, WriteFailed}
use Rattle.drvhost_devices.proofs.Writing.{appends_none, keeps_same}
use Rattle.drvhost_many.specs.All.{Counted}
use Rattle.drvhost_devices.specs.declared.logging.Logging.{Logging}
use Rattle.answer_logs.specs.declared.found.Found.{Found}
use Rattle.answer_logs.specs.Found.{ReadsAll}
use Rattle.answer_logs.specs.Log.{FilesEnd, IsLogOf, IsLogged}

-- the log goes out
pub log_written : (status : ℕ) (findings : List Finding) (line : List ℕ) (reads w x e : ℕ)
    (b n p : Option (List ℕ)) → IsLogOf findings line → x ≡ w → Appends b n line
    → Answers (IsLogged status findings) reads reads w x b n (Says e e p p) status
log_written status findings line reads w x e b n p is same out =
    record {
      reads = 0;
      writes = 0;
      told = [];
      reads_are = omega arith;
      writes_are = omega (arith, same);
      tells = inl (refl, appends_none p p (keeps_same p));
      ends =
          Rightly (record { status = status; output = line; told = [] }) (line, is, refl) refl refl refl
          refl out;
    }

-- or a beginning of it
pub log_broken : (status : ℕ) (findings : List Finding) (line : List ℕ) (reads w x e f : ℕ)
    (b n p q : Option (List ℕ)) → IsLogOf findings line → x ≡ w + 1 → TakesBeginning b n line
    → Says e f p q (codes "write failed\n")
    → Answers (IsLogged status findings) reads reads w x b n (Says e f p q) 2
log_broken status findings line reads w x e f b n p q is more taken says =
    record {
      reads = 0;
      writes = 1;
      told = codes "write failed\n";
      reads_are = omega arith;
      writes_are = omega (arith, more);
      tells = says;
      ends =
          WriteFailed (record { status = status; output = line; told = [] }) (line, is, refl) refl refl
          refl refl taken;
    }

-- memory runs out before it
pub log_unmade : (status : ℕ) (findings : List Finding) (exit reads w e f : ℕ)
    (b p q : Option (List ℕ)) → exit ≡ 3 → Says e f p q (codes "out of memory\n")
    → Answers (IsLogged status findings) reads reads w w b b (Says e f p q) exit
log_unmade status findings exit reads w e f b p q is says =
    record {
      reads = 0;
      writes = 0;
      told = codes "out of memory\n";
      reads_are = omega arith;
      writes_are = omega arith;
      tells = says;
      ends = OutOfMemory refl refl is refl (keeps_same b);
    }

-- all files are read, and the log is made
pub files_end : {E : Type 0} (logging : Logging) (supply : List ℕ → Supply)
    (names : List (String Global)) (o p r s w x : ℕ) (b n : Option (List ℕ))
    (Tells : List ℕ → Type 0) (exit : ℕ) (found : Found)
    → ReadsAll {E = E} logging supply names o p r s (Ok found)
    → Answers (IsLogged found.status found.findings.items) 0 0 w x b n Tells exit
    → Counted (FilesEnd logging supply names) o p r s w x b n Tells exit
files_end logging supply names o p r s w x b n Tells exit found read told =
    let none : told.reads ≡ 0 = omega (arith, told.reads_are) in
    record {
      opened = read.opened;
      reads = read.reads;
      writes = told.writes;
      told = told.told;
      opened_are = read.opened_are;
      reads_are = read.reads_are;
      writes_are = told.writes_are;
      tells = told.tells;
      ends =
          inl (
            found.status,
            found.findings.items,
            read.found.1,
            read.found.0,
            subst (λ k. Ends (IsLogged found.status found.findings.items) k told.writes b n exit
                told.told) none told.ends,
          );
    }

-- memory runs out while they are
pub files_unread : {E : Type 0} (logging : Logging) (supply : List ℕ → Supply)
    (names : List (String Global)) (o p r s w e f : ℕ) (b t u : Option (List ℕ)) (exit : ℕ)
    (result : Result Found E) → ReadsAll logging supply names o p r s result → exit ≡ 3
    → Says e f t u (codes "out of memory\n")
    → Counted (FilesEnd logging supply names) o p r s w w b b (Says e f t u) exit
files_unread logging supply names o p r s w e f b t u exit result read is says =
    record {
      opened = read.opened;
      reads = read.reads;
      writes = 0;
      told = codes "out of memory\n";
      opened_are = read.opened_are;
      reads_are = read.reads_are;
      writes_are = omega arith;
      tells = says;
      ends =
          inr (
            read.few,
            read.fewer,
            record {
              opened_are = refl;
              reads_are = refl;
              writes_are = refl;
              status_is = is;
              told_is = refl;
              keeps = keeps_same b;
            },
          );
    }
