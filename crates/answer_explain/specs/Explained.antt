-- What `explain` answers: the verdict, with words behind it.
use Rattle.std.specs.Prelude.{ℕ, ◌≡◌, ◌≢◌, ◌++◌, ◌⊎◌, List, [], ◌∷◌, Result, Ok, Err, codes}
use Rattle.verifier_words.specs.Faults.{AreFaults}
use Rattle.verifier_warnings.specs.Lines.{TellsEach}
use Rattle.verifier_warnings.specs.Orders.{TellsOrders}
use Rattle.drvhost_devices.specs.Answer.{Answer, FileSays, acceptance, ended, faulty}
use Rattle.drvhost_devices.specs.Device.{Holds, Supply}
use Rattle.drvhost_devices.specs.declared.fault.End.TheVariants.{Complete, Stopped}
use Rattle.model.specs.declared.abs.Refusal.{Refusal}
use Rattle.model.specs.Set.{Set}
use Rattle.model.specs.Typable.{IsFirstFault, IsTypable}
use Rattle.report.specs.Verdict.{refusal_line}
use Rattle.drvhost_devices.specs.declared.extent.Extent.{Extent}
use Rattle.drvhost_devices.specs.declared.extent.Extent.TheVariants.{First, Each}
use Rattle.answer_explain.specs.Quoting.{word_of}

-- words on one refusal: they end with a line feed, and have nowhere two in a row
abbrev pub IsBlock : List ℕ → Type 0
IsBlock words =
    ((text : List ℕ) × (words ≡ text ++ 0x0A ∷ []))
    × ((before behind : List ℕ) → words ≢ before ++ 0x0A ∷ 0x0A ∷ behind)

-- words on further refusals, in order: on each an empty line, its own line and a block
abbrev pub AreFurther : List Refusal → List ℕ → Type 0
AreFurther [] words = words ≡ []
AreFurther (refusal ∷ all) words =
    (block : List ℕ) × (further : List ℕ) × IsBlock block × AreFurther all further
    × (words ≡ (0x0A ∷ refusal_line refusal) ++ (block ++ further))

-- words on several refusals, where the line of the first stands before them
abbrev pub AreWordsOn : List Refusal → List ℕ → Type 0
AreWordsOn [] words = words ≡ []
AreWordsOn (first ∷ all) words =
    (block : List ℕ) × (further : List ℕ) × IsBlock block × AreFurther all further
    × (words ≡ block ++ further)

-- words on a refused set: on its first fault alone, or on that of each routine that has one
abbrev pub AreWordsOf : Extent → Set → List ℕ → Type 0
AreWordsOf First set words = IsBlock words
AreWordsOf Each set words = (all : List Refusal) × AreFaults set all × AreWordsOn all words

-- a refused set: the line of its first fault, with words behind it
abbrev pub IsRefusalExplained : Extent → Set → Answer → Type 0
IsRefusalExplained extent set answer =
    (refusal : Refusal) × (words : List ℕ) × IsFirstFault set refusal × AreWordsOf extent set words
    × (answer ≡ ended Stopped (refusal_line refusal ++ words))

-- words tell whether the drivers of a set take their locks in order, and of each in which
abbrev pub TellsLocks : Set → List ℕ → Type 0
TellsLocks set words = TellsOrders set words × TellsEach set words

-- an accepted set: what `check` says, with such words behind it
abbrev pub IsAcceptanceExplained : Set → Answer → Type 0
IsAcceptanceExplained set answer =
    IsTypable set
    × ((words : List ℕ) × TellsLocks set words
    × (answer ≡ ended Complete (acceptance set ++ words)))

-- the verdict on a set, with words behind it
abbrev pub IsExplained : Extent → Set → Answer → Type 0
IsExplained extent set answer =
    IsAcceptanceExplained set answer ⊎ IsRefusalExplained extent set answer

-- bytes that are no set: the line that tells their first fault, with some words behind it
abbrev pub IsFaultExplained : List ℕ → Answer → Type 0
IsFaultExplained bytes answer =
    (line words : List ℕ) × FileSays bytes (Err line) × (answer ≡ faulty (line ++ words))

-- what `explain` answers for what a file says: for the set that it names the verdict, with words
-- behind it; else the line that tells its first fault, with some words behind that
abbrev pub IsExplainedSaid : Extent → Result Set (List ℕ) → Answer → Type 0
IsExplainedSaid extent (Ok set) answer = IsExplained extent set answer
IsExplainedSaid extent (Err line) answer = (words : List ℕ) × (answer ≡ faulty (line ++ words))

-- what `explain` answers for what its source has
abbrev pub IsExplainedOf : Extent → Supply → Answer → Type 0
IsExplainedOf extent supply answer =
    (bytes : List ℕ) × Holds supply bytes
    × ((said : Result Set (List ℕ)) × FileSays bytes said × IsExplainedSaid extent said answer)

-- the command that looks for a run which shows what is wrong with the set of the file of a name
abbrev pub hunt_line : List ℕ → List ℕ
hunt_line name = codes "show it: drvhost hunt " ++ (word_of name ++ codes "\n")

-- an answer with that command behind it where its exit status says that the set is refused
abbrev pub IsShown : List ℕ → Answer → Answer → Type 0
IsShown name alone answer =
    ((alone.status ≡ 1)
    × (answer ≡ record alone { output = alone.output ++ hunt_line name }))
    ⊎ ((alone.status ≢ 1) × (answer ≡ alone))

-- a right answer for the file of a name, likewise
abbrev pub IsShownFor : List ℕ → (Answer → Type 0) → Answer → Type 0
IsShownFor name Right answer = (alone : Answer) × Right alone × IsShown name alone answer

-- what `explain` answers for the file of a name: of a refused set that command behind the words
abbrev pub IsFileExplained : Extent → List ℕ → Supply → Answer → Type 0
IsFileExplained extent name supply = IsShownFor name (IsExplainedOf extent supply)

-- what is answered of the warning on the order of locks: its name, with some words behind it
abbrev pub IsLockOrderExplained : Answer → Type 0
IsLockOrderExplained answer =
    (words : List ℕ) × (answer ≡ ended Complete (codes "LockOrder" ++ words))
