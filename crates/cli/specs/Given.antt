-- What the matches of a command give.
use Rattle.std.specs.Prelude.{Bool, List, None, Option, Some, bytes_eq, codes, false}
use Rattle.clap.specs.Words.{Row, Text, first_of, found_of, rows_of}
use Rattle.clap.specs.declared.parser.matches.ArgMatches.{ArgMatches}

-- the arguments that are given, with their values
abbrev pub given_by : ArgMatches → List Row
given_by matches = rows_of (found_of matches)

-- a flag with this value is
abbrev pub is_set : Option Text → Bool
is_set None = false
is_set (Some text) = bytes_eq text (codes "true")

-- a flag is
abbrev pub is_given : Text → List Row → Bool
is_given flag rows = is_set (first_of flag rows)
