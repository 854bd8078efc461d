-- Which words of a command line have matches.
use Rattle.std.specs.Prelude.{◌≡◌, ◌≢◌, List, [], Option, true, ⊤}
use Rattle.clap.specs.Words.{IsAmong, Row, Text, fault_of, subcommand_of, takes}
use Rattle.clap.specs.declared.error.ErrorKind.{ErrorKind}
use Rattle.clap.specs.declared.error.ErrorKind.TheVariants.{DisplayHelp, DisplayVersion, OutOfMemory}
use Rattle.cli.specs.Program.{program}
use Rattle.cli.specs.declared.parsing.Unmatched.{Unmatched}
use Rattle.cli.specs.declared.parsing.Unmatched.TheVariants.{Version, Help, Usage, Memory}

-- the command line takes words, and these are the command and the rows that it finds in them
pub record IsMatched (words : List Text) (found : Option (Text × List Row)) : Type 0 where
  pub taken : fault_of program words ≡ []
  pub found_is : found ≡ subcommand_of program words

-- words ask which program this is, by `--version` or `-V`
abbrev pub AsksVersion : List Text → Type 0
AsksVersion words = IsAmong DisplayVersion (fault_of program words)

-- words ask for help, by `help`, `--help` or `-h`, on the program or on a command
abbrev pub AsksHelp : List Text → Type 0
AsksHelp words = IsAmong DisplayHelp (fault_of program words)

-- words that meet with an error of this kind have no matches for this reason
abbrev pub IsMetBy : ErrorKind → Unmatched → Type 0
IsMetBy kind Version = kind ≡ DisplayVersion
IsMetBy kind (Help text) = kind ≡ DisplayHelp
IsMetBy kind (Usage text) = kind ≢ OutOfMemory
IsMetBy kind Memory = ⊤

-- words have no matches for this reason
abbrev pub IsUnmatched : List Text → Unmatched → Type 0
IsUnmatched words Version = AsksVersion words
IsUnmatched words (Help text) = AsksHelp words
IsUnmatched words (Usage text) = takes program words ≡ true → ⊥
IsUnmatched words Memory = ⊤
