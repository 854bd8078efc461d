-- What the table of commands says in the terms of `clap`.
use Rattle.std.specs.Borrow.{Bor}
use Rattle.std.specs.Prelude.{Option, None, Some, map, pos}
use Rattle.clap.specs.Words.{App, Rule, Text}
use Rattle.clap.specs.declared.builder.value_parser.ValueParser.TheVariants.{Signed, String as AnyText}
use Rattle.cli.specs.declared.argument.Argument.{Argument}
use Rattle.cli.specs.declared.argument.Argument.TheVariants.{File, Files, AnyFiles, Flag, Choice, Value, Number, WantedNumber, AnyNumber}
use Rattle.cli.specs.declared.table.Entry.{Entry}
use Rattle.cli.specs.declared.table.Subcommand.{Subcommand}
use Rattle.cli.specs.Program.{any_number_option, command, file_argument, flag, required, value_argument, value_option, values_argument}

-- an argument of it
abbrev pub rule_for : Argument → Rule
rule_for (File id help) = file_argument id.now
rule_for (Files id help) = required (values_argument id.now)
rule_for (AnyFiles id help) = values_argument id.now
rule_for (Flag name help) = flag name.now
rule_for (Choice name help) = value_option name.now name.now AnyText
rule_for (Value id name help) = value_option id.now name.now AnyText
rule_for (Number name most help) = value_option name.now name.now (Signed (pos 1) most)
rule_for (WantedNumber name most help) =
    required (value_option name.now name.now (Signed (pos 1) most))
rule_for (AnyNumber name help) = any_number_option name.now

-- a command of it
abbrev pub command_for : Entry → App
command_for entry = command entry.name.now (map rule_for entry.arguments.now)

-- the command that a word is for
abbrev pub word_for : Entry → Text × Subcommand
word_for entry = (entry.name.now, entry.command)

abbrev pub command_by : Option (Bor Entry) → Option Subcommand
command_by None = None
command_by (Some entry) = Some entry.now.command
