-- An answer told with the name of its file.
use Rattle.std.specs.Prelude.{ℕ, ◌++◌, List, [], ◌∷◌, Bool, true, false, codes, nat_eq}
use Rattle.cli.specs.declared.job.Judging.{Judging}
use Rattle.cli.specs.declared.job.Judging.TheVariants.{Check, CheckJson, Explain, ExplainJson}
use Rattle.drvhost_devices.specs.Answer.{Answer}

-- what stands between a name and what is told
abbrev pub gap : Judging → List ℕ
gap Check = codes ": "
gap CheckJson = codes ": "
gap (Explain extent coloring) = codes ":\n"
gap (ExplainJson extent) = codes ": "

-- a text with a name before each of its lines, by whether a line begins here
abbrev pub lines_named : List ℕ → Bool → List ℕ → List ℕ
lines_named name starts [] = []
lines_named name true (byte ∷ text) =
    (name ++ codes ": ") ++ byte ∷ lines_named name (nat_eq byte 0x0A) text
lines_named name false (byte ∷ text) = byte ∷ lines_named name (nat_eq byte 0x0A) text

-- a text, if there is one, below a line with a name
abbrev pub headed : List ℕ → List ℕ → List ℕ
headed name [] = []
headed name (byte ∷ text) = (name ++ codes ":\n") ++ byte ∷ text

-- what goes out: a verdict has the name before each line, an explanation above, and a line of JSON
-- has it in itself
abbrev pub marked : Judging → List ℕ → List ℕ → List ℕ
marked Check name text = lines_named name true text
marked CheckJson name text = text
marked (Explain extent coloring) name text = headed name text
marked (ExplainJson extent) name text = text

-- what is told besides, which is never JSON
abbrev pub noted : Judging → List ℕ → List ℕ → List ℕ
noted Check name text = lines_named name true text
noted CheckJson name text = lines_named name true text
noted (Explain extent coloring) name text = headed name text
noted (ExplainJson extent) name text = lines_named name true text

-- the answer for a file, told with its name
abbrev pub named_answer : Judging → List ℕ → Answer → Answer
named_answer judging name answer =
    record {
      status = answer.status;
      output = marked judging name answer.output;
      told = noted judging name answer.told;
    }
