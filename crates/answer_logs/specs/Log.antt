-- The log of what is found in several files, and how they are answered with one.
use Rattle.std.specs.Prelude.{ℕ, ◌≡◌, ◌≤◌, ◌++◌, ◌⊎◌, List, [], ◌∷◌, codes, length, map, Option, String, string_bytes}
use Rattle.std.specs.Global.{Global}
use Rattle.model.specs.declared.abs.Rule.{Rule}
use Rattle.model.specs.declared.abs.Rule.TheVariants.{Malformed, Unreachable, StatesDiffer, WrongKind, DoubleCompletion, MarkIrpPending, CancelSpinLock, SpinLock, LockHeld, Level, Guard, CancelState, Dropped, Token, Sort, Completion, StackTooSmall, NoLower, TooLong, Memory}
use Rattle.model.specs.Words.{rule_word}
use Rattle.report.specs.Rule.{rule_name}
use Rattle.report_sarif.specs.declared.log.Finding.{Finding}
use Rattle.report_sarif.specs.declared.log.Kind.{Kind}
use Rattle.report_sarif.specs.declared.log.Kind.TheVariants.{Fail, Pass}
use Rattle.report_sarif.specs.declared.log.RuleText.{RuleText}
use Rattle.report_sarif.specs.Log.{log_data}
use Rattle.serde_json.specs.Written.{compact_text}
use Rattle.drvhost_devices.specs.Answer.{Answer}
use Rattle.drvhost_devices.specs.Device.{Supply}
use Rattle.drvhost_devices.specs.Ends.{Ends}
use Rattle.drvhost_files.specs.declared.find.Found.{Found}
use Rattle.drvhost_many.specs.All.{AreFound, IsUnfound}
use Rattle.drvhost_devices.specs.declared.logging.Logging.{Logging}
use Rattle.answer_logs.specs.Found.{AreFoundIn}

-- all rules, by their numbers
abbrev pub all_rules : List Rule
all_rules =
    Malformed ∷ Unreachable ∷ StatesDiffer ∷ WrongKind ∷ DoubleCompletion ∷ MarkIrpPending
    ∷ CancelSpinLock ∷ SpinLock ∷ LockHeld ∷ Level ∷ Guard ∷ CancelState ∷ Dropped ∷ Token ∷ Sort
    ∷ Completion ∷ StackTooSmall ∷ NoLower ∷ TooLong ∷ Memory ∷ []

-- all kinds of faults: of a text, of an image, and of a file that can't be read
abbrev pub all_kinds : List (List ℕ)
all_kinds =
    codes "Lex" ∷ codes "UnknownWord" ∷ codes "DuplicateName" ∷ codes "UnknownName"
    ∷ codes "OutOfRange" ∷ codes "Unclosed" ∷ codes "OverLimit" ∷ codes "Magic" ∷ codes "Truncated"
    ∷ codes "Trailing" ∷ codes "BadOpcode" ∷ codes "Unreadable" ∷ []

-- what can be told of a file, but for its page: under which word, its name, and whether it is wrong
pub record Entry : Type 0 where
  pub id : List ℕ
  pub name : List ℕ
  pub kind : Kind

abbrev pub entry_of : RuleText → Entry
entry_of text =
    record { id = string_bytes text.id; name = string_bytes text.name; kind = text.kind }

abbrev pub rule_entry : Rule → Entry
rule_entry rule = record { id = rule_word rule; name = rule_name rule; kind = Fail }

abbrev pub fault_entry : List ℕ → Entry
fault_entry word = record { id = word; name = word; kind = Fail }

abbrev pub pass_entry : Entry
pass_entry = record { id = codes "Accepted"; name = codes "Accepted"; kind = Pass }

abbrev pub all_entries : List Entry
all_entries = (map rule_entry all_rules ++ map fault_entry all_kinds) ++ pass_entry ∷ []

-- the line of a log of these findings, with words for all that can be told
abbrev pub IsLogOf : List Finding → List ℕ → Type 0
IsLogOf findings line =
    (texts : List RuleText) × (map entry_of texts ≡ all_entries)
    × (line ≡ compact_text (log_data texts findings) ++ 10 ∷ [])

-- an answer that is one, with this exit status
abbrev pub IsLogged : ℕ → List Finding → Answer → Type 0
IsLogged status findings answer =
    (line : List ℕ) × IsLogOf findings line
    × (answer ≡ record { status = status; output = line; told = [] })

-- how these files are answered with a log: all are read, and the log of what is found is the answer;
-- or memory runs out before
abbrev pub FilesEnd : Logging → (List ℕ → Supply) → List (String Global) → ℕ → ℕ → ℕ
    → Option (List ℕ) → Option (List ℕ) → ℕ → List ℕ → Type 0
FilesEnd logging supply names opened reads writes before after status told =
    ((worst : ℕ) × (findings : List Finding) × AreFoundIn logging supply names reads worst findings
    × (opened ≡ length names) × Ends (IsLogged worst findings) 0 writes before after status told)
    ⊎ ((opened ≤ length names) × (reads ≤ opened)
    × IsUnfound 0 0 writes before after status told)

-- how those are that paths stand for
abbrev pub PathsEnd : {P : Type 0} → Logging → (P → Found → Type 0) → (List ℕ → Supply) → List P
    → ℕ → ℕ → ℕ → Option (List ℕ) → Option (List ℕ) → ℕ → List ℕ → Type 0
PathsEnd logging Stands supply paths opened reads writes before after status told =
    ((names : List (String Global)) × AreFound Stands paths names
    × FilesEnd logging supply names opened reads writes before after status told)
    ⊎ IsUnfound opened reads writes before after status told
