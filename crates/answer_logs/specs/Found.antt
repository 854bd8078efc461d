-- What is found in a file, and in several.
use Rattle.std.specs.Prelude.{ℕ, ◌≡◌, ◌+◌, ◌≤◌, ◌++◌, ◌⊎◌, List, [], ◌∷◌, codes, decimal, IfOk, length, max, Option, None, Result, Ok, Err, String, string_bytes}
use Rattle.std.specs.Global.{Global}
use Rattle.std.specs.List.{AllZip}
use Rattle.asm.specs.declared.fault.AsmFault.{AsmFault}
use Rattle.image.specs.declared.fault.ImageFault.{ImageFault}
use Rattle.model.specs.declared.abs.Refusal.{Refusal}
use Rattle.model.specs.Set.{Set}
use Rattle.model.specs.Typable.{IsFirstFault, IsTypable}
use Rattle.model.specs.Words.{rule_text, rule_word}
use Rattle.report.specs.Fault.{image_fault_line, image_fault_name, text_fault_line, text_kind_name}
use Rattle.report_sarif.specs.declared.log.Finding.{Finding}
use Rattle.report_sarif.specs.declared.log.Kind.{Kind}
use Rattle.report_sarif.specs.declared.log.Kind.TheVariants.{Fail, Pass}
use Rattle.report_sarif.specs.declared.log.Region.{Region}
use Rattle.verifier_evidence.specs.declared.evidence.Evidence.{Evidence}
use Rattle.verifier_evidence.specs.Evidence.{IsEvidence}
use Rattle.verifier_words.specs.Faults.{AreFaults}
use Rattle.drvhost_devices.specs.Answer.{FileSays}
use Rattle.drvhost_devices.specs.Device.{Holds, Supply}
use Rattle.answer_explain.specs.Regions.{fault_region, refusal_region, text_end}
use Rattle.answer_explain.specs.Shown.{AreStepsOf, other_path, path_of, refused_lines}
use Rattle.answer_mends.specs.Fix.{IsFix}
use Rattle.drvhost_devices.specs.declared.extent.Extent.{Extent}
use Rattle.drvhost_devices.specs.declared.extent.Extent.TheVariants.{First, Each}
use Rattle.drvhost_devices.specs.declared.logging.Account.{Account}
use Rattle.drvhost_devices.specs.declared.logging.Account.TheVariants.{Verdict, Explanation}
use Rattle.drvhost_devices.specs.declared.logging.Logging.{Logging}
use Rattle.drvhost_devices.specs.declared.logging.Passes.{Passes}
use Rattle.drvhost_devices.specs.declared.logging.Passes.TheVariants.{Omitted, Listed}
use Rattle.answer_logs.specs.declared.found.Found.{Found}

-- the place of a refusal in words, and as a fingerprint: the same, wherever its lines were moved
abbrev pub refusal_words : Refusal → List ℕ
refusal_words refusal =
    rule_text refusal.rule ++ (codes ": driver " ++ (decimal refusal.driver
    ++ (codes ", routine " ++ (decimal refusal.routine
    ++ (codes ", position " ++ decimal refusal.at)))))

abbrev pub refusal_print : Refusal → List ℕ
refusal_print refusal =
    rule_word refusal.rule ++ (codes "/" ++ (decimal refusal.driver
    ++ (codes "/" ++ (decimal refusal.routine ++ (codes "/" ++ decimal refusal.at)))))

-- a result for the file of a name: whether something is wrong, what, where, and what is the same of
-- two that are one
pub record IsResult (kind : Kind) (name rule print : List ℕ) (place : Option Region)
    (finding : Finding) : Type 0 where
  pub file : string_bytes finding.file ≡ name
  pub is : finding.kind ≡ kind
  pub rule_is : string_bytes finding.rule ≡ rule
  pub region : finding.region ≡ place
  pub fingerprint : string_bytes finding.fingerprint ≡ print

-- one with this message alone
pub record IsPlain (kind : Kind) (name rule print message : List ℕ) (place : Option Region)
    (finding : Finding) : Type 0 where
  pub result : IsResult kind name rule print place finding
  pub message_is : string_bytes finding.message ≡ message
  pub path : finding.path.items ≡ []
  pub other : finding.other.items ≡ []
  pub fix : finding.fix ≡ []

-- that of an accepted set
abbrev pub IsPass : List ℕ → Finding → Type 0
IsPass name =
    IsPlain Pass name (codes "Accepted") (codes "Accepted") (codes "the set is accepted") None

-- that of a refusal of the set that the bytes of the file of a name are, whatever is told of it
abbrev pub IsRefusal : List ℕ → List ℕ → Refusal → Finding → Type 0
IsRefusal name bytes refusal =
    IsResult Fail name (rule_word refusal.rule) (refusal_print refusal)
    (refusal_region bytes refusal)

-- and where that is its place alone
abbrev pub IsRefusalFound : List ℕ → List ℕ → Refusal → Finding → Type 0
IsRefusalFound name bytes refusal =
    IsPlain Fail name (rule_word refusal.rule) (refusal_print refusal) (refusal_words refusal)
    (refusal_region bytes refusal)

-- that of a fault of a kind, with what is said of it behind
abbrev pub IsFault : List ℕ → List ℕ → List ℕ → Option Region → Finding → Type 0
IsFault name kind said place =
    IsPlain Fail name kind kind (codes "the file is faulty: " ++ (kind ++ said)) place

-- what is said of a faulty text: something where verdicts are explained, below the kind
abbrev pub IsSaid : Account → List ℕ → Type 0
IsSaid Verdict said = said ≡ []
IsSaid (Explanation extent) said = (words : List ℕ) × (said ≡ 10 ∷ words)

-- that of a refusal, explained: the paths of its evidence, behind its place some words, and edits
-- that mend it, or none
pub record IsExplained (name bytes : List ℕ) (set : Set) (refusal : Refusal) (finding : Finding)
    : Type 0 where
  pub result : IsRefusal name bytes refusal finding
  pub words : List ℕ
  pub message_is : string_bytes finding.message ≡ refusal_words refusal ++ 10 ∷ words
  pub evidence : Option Evidence
  pub shows : IsEvidence set refusal evidence
  pub path : AreStepsOf bytes (refused_lines bytes refusal) finding.path.items (path_of evidence)
  pub other : AreStepsOf bytes (refused_lines bytes refusal) finding.other.items
      (other_path evidence)
  pub fixed : IsFix refusal bytes finding.fix
  pub ends : finding.end ≡ text_end bytes

-- the refusals that are explained of a refused set: its first fault, or that of each routine
abbrev pub AreAsked : Extent → Set → Refusal → List Refusal → Type 0
AreAsked First set refusal all = all ≡ refusal ∷ []
AreAsked Each set refusal all = AreFaults set all

abbrev pub AreExplained : Extent → List ℕ → List ℕ → Set → Refusal → List Finding → Type 0
AreExplained extent name bytes set refusal findings =
    (all : List Refusal) × AreAsked extent set refusal all
    × AllZip (IsExplained name bytes set) all findings

-- what a log tells of a refused set
abbrev pub AreTold : Account → List ℕ → List ℕ → Set → Refusal → List Finding → Type 0
AreTold Verdict name bytes set refusal findings =
    (finding : Finding) × IsRefusalFound name bytes refusal finding × (findings ≡ finding ∷ [])
AreTold (Explanation extent) name bytes set refusal findings =
    AreExplained extent name bytes set refusal findings

-- what is found in a refused set that the bytes of the file of a name are
abbrev pub IsRefused : Account → List ℕ → List ℕ → Set → Found → Type 0
IsRefused account name bytes set found =
    (found.status ≡ 1)
    × ((refusal : Refusal) × IsFirstFault set refusal
    × AreTold account name bytes set refusal found.findings.items)

-- what is found in an accepted one
abbrev pub IsPassed : Passes → List ℕ → Found → Type 0
IsPassed Omitted name found = (found.status ≡ 0) × (found.findings.items ≡ [])
IsPassed Listed name found =
    (found.status ≡ 0)
    × ((finding : Finding) × IsPass name finding × (found.findings.items ≡ finding ∷ []))

-- what is found in any
abbrev pub IsVerdictFound : Logging → List ℕ → List ℕ → Set → Found → Type 0
IsVerdictFound logging name bytes set found =
    (IsTypable set × IsPassed logging.passes name found)
    ⊎ IsRefused logging.account name bytes set found

-- that the file of a name has a fault of a kind, with this behind
pub record IsFaultFound (name kind said : List ℕ) (region : Option Region) (found : Found) : Type 0
  where
    pub status : found.status ≡ 2
    pub finding : Finding
    pub fault : IsFault name kind said region finding
    pub alone : found.findings.items ≡ finding ∷ []

-- the fault of a text, at its line
abbrev pub IsTextFaultFound : Account → List ℕ → List ℕ → AsmFault → Found → Type 0
IsTextFaultFound account name bytes fault found =
    (said : List ℕ) × IsSaid account said
    × IsFaultFound name (text_kind_name fault.kind) said (fault_region bytes fault.line) found

-- what is found in the bytes of the file of a name: in the set that they are; or their first fault,
-- at its line in a text, and with no place in an image
abbrev pub IsFoundIn : Logging → List ℕ → List ℕ → Found → Type 0
IsFoundIn logging name bytes found =
    ((set : Set) × FileSays bytes (Ok set) × IsVerdictFound logging name bytes set found)
    ⊎ (((fault : AsmFault) × FileSays bytes (Err (text_fault_line fault))
    × IsTextFaultFound logging.account name bytes fault found)
    ⊎ ((fault : ImageFault) × FileSays bytes (Err (image_fault_line fault))
    × IsFaultFound name (image_fault_name fault) [] None found))

-- what is found in the file of a name that has this to give, of which so many reads failed: what is
-- in its bytes, or that it can't be read
abbrev pub IsFoundOf : Logging → List ℕ → Supply → ℕ → Found → Type 0
IsFoundOf logging name supply reads found =
    ((reads ≡ 0) × ((bytes : List ℕ) × Holds supply bytes × IsFoundIn logging name bytes found))
    ⊎ ((reads ≡ 1) × IsFaultFound name (codes "Unreadable") [] None found)

-- the same of a call, by the failed reads before and after it; or memory ran out
pub record ReadsOne {E : Type 0} (logging : Logging) (name : List ℕ) (supply : Supply)
    (before after : ℕ) (result : Result Found E) : Type 0 where
  pub reads : ℕ
  pub reads_are : after ≡ before + reads
  pub few : reads ≤ 1
  pub found : IfOk result (IsFoundOf logging name supply reads)

-- what is found in files, of which so many reads failed: the greatest exit status, and their
-- results, in order
abbrev pub AreFoundIn : Logging → (List ℕ → Supply) → List (String Global) → ℕ → ℕ → List Finding
    → Type 0
AreFoundIn logging supply [] reads status findings =
    (reads ≡ 0) × (status ≡ 0) × (findings ≡ [])
AreFoundIn logging supply (name ∷ names) reads status findings =
    (failed others worst : ℕ) × (found : Found) × (rest : List Finding)
    × IsFoundOf logging (string_bytes name) (supply (string_bytes name)) failed found
    × AreFoundIn logging supply names others worst rest × (reads ≡ failed + others)
    × (status ≡ max found.status worst) × (findings ≡ found.findings.items ++ rest)

-- the same of a call, by the opened files and the failed reads before and after it; or memory ran
-- out
pub record ReadsAll {E : Type 0} (logging : Logging) (supply : List ℕ → Supply)
    (names : List (String Global)) (opened_before opened_after reads_before reads_after : ℕ)
    (result : Result Found E) : Type 0 where
  pub opened : ℕ
  pub reads : ℕ
  pub opened_are : opened_after ≡ opened_before + opened
  pub reads_are : reads_after ≡ reads_before + reads
  pub few : opened ≤ length names
  pub fewer : reads ≤ opened
  pub found : IfOk result (λ all. (opened ≡ length names)
      × AreFoundIn logging supply names reads all.status all.findings.items)
