-- The program's command line in the terms of `clap`, and its commands by their names.
use Rattle.std.specs.Prelude.{◌-◌, ◌^◌, ℕ, List, [], ◌∷◌, Option, Some, true, codes, map, pos}
use Rattle.clap.specs.Lexer.{usize_max}
use Rattle.clap.specs.Words.{App, Rule, Text, new_app, new_rule, with_rule, with_subcommand}
use Rattle.clap.specs.declared.builder.ArgAction.TheVariants.{Append, Set, SetTrue}
use Rattle.clap.specs.declared.builder.value_parser.ValueParser.{ValueParser}
use Rattle.clap.specs.declared.builder.value_parser.ValueParser.TheVariants.{Signed, String as AnyText, Unsigned}
use Rattle.cli.specs.Choices.{named_in}
use Rattle.cli.specs.declared.table.Subcommand.{Subcommand}
use Rattle.cli.specs.declared.table.Subcommand.TheVariants.{Check, Explain, Mend, Trace, Tell, Draw, Test, Schedule, Hunt, Host, Stats, List as Listing, Rewrite, Version}
use Rattle.model.specs.declared.limits.TheConstants.{MAX_THREADS}
use Rattle.hunt_facts.specs.declared.reach.TheConstants.{MAX_PACKETS, MAX_WORLDS}
use Rattle.drvhost_devices.specs.declared.jobs.TheConstants.{MAX_JOBS}
use Rattle.drvhost_devices.specs.declared.tries.TheConstants.{MAX_TRIES}
use Rattle.drvhost_devices.specs.declared.wanted.TheConstants.{MAX_OFFERS}

-- an argument with a value
abbrev pub value_argument : Text → Rule
value_argument id = record (new_rule id) { action = Some Set }

-- one with a value or more, in each of its uses
abbrev pub values_argument : Text → Rule
values_argument id =
    record (new_rule id) {
      action = Some Append;
      range = Some (record { start_inclusive = 1; end_inclusive = usize_max });
    }

-- an argument that has to be there
abbrev pub required : Rule → Rule
required rule = record rule { required = true }

-- the name of a file, which has to be there
abbrev pub file_argument : Text → Rule
file_argument id = required (value_argument id)

-- `--NAME`
abbrev pub flag : Text → Rule
flag name = record (new_rule name) { long = Some name; action = Some SetTrue }

-- `--NAME VALUE`, the value by its own name
abbrev pub value_option : Text → Text → ValueParser → Rule
value_option id name parser =
    record (value_argument id) { long = Some name; parser = Some parser }

-- `--NAME N`, a number from 1 up to the most
abbrev pub number_option : Text → ℕ → Rule
number_option name most = value_option name name (Signed (pos 1) (pos most))

-- `--NAME N`, any number of 64 bits
abbrev pub any_number_option : Text → Rule
any_number_option name = value_option name name (Unsigned 0 (2 ^ 64 - 1))

-- with all of these, one after another
abbrev pub with_all : {B : Type 0} → (App → B → App) → App → List B → App
with_all step app [] = app
with_all step app (one ∷ others) = with_all step (step app one) others

-- a command with these arguments
abbrev pub command : Text → List Rule → App
command name rules = with_all with_rule (new_app name) rules

-- `NAME FILE ..`, for the driver set of a file
abbrev pub set_command : Text → List Rule → App
set_command name rules = command name (file_argument (codes "FILE") ∷ rules)

-- `NAME FILE INPUT [--unchecked] ..`, which runs it by an input
abbrev pub run_command : Text → Text → List Rule → App
run_command name input rules =
    set_command name (file_argument input ∷ flag (codes "unchecked") ∷ rules)

-- `NAME FILE SCHEDULE [--unchecked] ..`
abbrev pub schedule_command : Text → List Rule → App
schedule_command name rules = run_command name (codes "SCHEDULE") rules

-- `--format FORMAT`
abbrev pub format_option : Rule
format_option = value_option (codes "format") (codes "format") AnyText

-- `--jobs N`
abbrev pub jobs_option : Rule
jobs_option = number_option (codes "jobs") MAX_JOBS

-- `--color WHEN`
abbrev pub color_option : Rule
color_option = value_option (codes "color") (codes "color") AnyText

-- `check PATH.. [--format FORMAT] [--pass] [--jobs N]`
abbrev pub check_command : App
check_command =
    command (codes "check")
    (required (values_argument (codes "PATH")) ∷ format_option ∷ flag (codes "pass")
    ∷ jobs_option ∷ [])

-- `explain [PATH..] [--all] [--format FORMAT] [--pass] [--jobs N] [--color WHEN] [--rule RULE]`: what
-- goes with what is said where a job is named
abbrev pub explain_command : App
explain_command =
    command (codes "explain")
    (values_argument (codes "PATH") ∷ flag (codes "all") ∷ format_option ∷ flag (codes "pass")
    ∷ jobs_option ∷ color_option
    ∷ value_option (codes "RULE") (codes "rule") AnyText ∷ [])

-- `tell FILE SCHEDULE [--unchecked] [--quiet] [--every] [--strict] [--format FORMAT] [--color WHEN]`:
-- the second and the third don't go together, nor with JSON
abbrev pub tell_command : App
tell_command =
    schedule_command (codes "tell")
    (flag (codes "quiet") ∷ flag (codes "every") ∷ flag (codes "strict") ∷ format_option
    ∷ color_option ∷ [])

-- `hunt FILE [--threads N] [--packets N] [--states N] [--events N] [--argument N] [--stuck]
-- [--exact] [--scenario] [--format FORMAT]`: `--stuck` and `--exact` don't go together, nor a
-- scenario and JSON
abbrev pub hunt_command : App
hunt_command =
    set_command (codes "hunt")
    (number_option (codes "threads") MAX_THREADS
    ∷ number_option (codes "packets") MAX_PACKETS
    ∷ number_option (codes "states") MAX_WORLDS
    ∷ any_number_option (codes "events")
    ∷ any_number_option (codes "argument")
    ∷ flag (codes "stuck") ∷ flag (codes "exact") ∷ flag (codes "scenario") ∷ format_option ∷ [])

-- `host FILE SCRIPT --workers N [--format FORMAT] [--history OUT]`: JSON goes with no history
abbrev pub host_command : App
host_command =
    set_command (codes "host")
    (file_argument (codes "SCRIPT")
    ∷ required (number_option (codes "workers") MAX_THREADS) ∷ format_option
    ∷ value_option (codes "OUT") (codes "history") AnyText ∷ [])

-- `mend FILE [--tries N] [--apply] [--nth K] [--format FORMAT]`: JSON goes with none that is applied
abbrev pub mend_command : App
mend_command =
    set_command (codes "mend")
    (number_option (codes "tries") MAX_TRIES ∷ flag (codes "apply")
    ∷ number_option (codes "nth") MAX_OFFERS ∷ format_option ∷ [])

-- `test FILE SCENARIO.. [--unchecked] [--format FORMAT] [--verbose] [--jobs N]`
abbrev pub test_command : App
test_command =
    set_command (codes "test")
    (required (values_argument (codes "SCENARIO")) ∷ flag (codes "unchecked") ∷ format_option
    ∷ flag (codes "verbose") ∷ jobs_option ∷ [])

-- all commands, in the order of the texts of help
abbrev pub commands : List (Subcommand × App)
commands =
    (Check, check_command)
    ∷ (Explain, explain_command)
    ∷ (Mend, mend_command)
    ∷ (Trace, schedule_command (codes "trace") (format_option ∷ []))
    ∷ (Tell, tell_command)
    ∷ (Draw, schedule_command (codes "draw") (format_option ∷ []))
    ∷ (Test, test_command)
    ∷ (Schedule, run_command (codes "schedule") (codes "SCENARIO") [])
    ∷ (Hunt, hunt_command)
    ∷ (Host, host_command)
    ∷ (Stats, set_command (codes "stats") (format_option ∷ []))
    ∷ (Listing, set_command (codes "list") (format_option ∷ []))
    ∷ (Rewrite, set_command (codes "rewrite") (file_argument (codes "OUT") ∷ []))
    ∷ (Version, command (codes "version") [])
    ∷ []

-- the one of a name
abbrev pub command_named : Text → Option Subcommand
command_named name = named_in (map (λ one. (one.1.top.name, one.0)) commands) name

-- the program, whose own name isn't among the words
abbrev pub named_program : App
named_program = new_app (codes "drvhost")

abbrev pub bare_program : App
bare_program =
    record named_program {
      top = record named_program.top
          { has_version = true; no_binary_name = true; subcommand_required = true };
    }

-- with one command more, and with all
abbrev pub with_command : App → App → App
with_command program one = with_subcommand program one.top

abbrev pub program : App
program = with_all with_command bare_program (map (λ one. one.1) commands)
