-- The objects of commands that workers served, and of their history.
use Rattle.std.specs.Prelude.{ℕ, ◌+◌, ◌++◌, List, [], ◌∷◌, codes, decimal, Option, None, Some}
use Rattle.json.specs.Json.{Json, number, string, array, object, Items, no_items, item, Members, no_members, member}
use Rattle.model.specs.declared.event.Reply.{Reply}
use Rattle.report_json.specs.Event.{reply_members, reply_name}

-- the names of the shapes, and their editions
abbrev pub command_format : List ℕ
command_format = codes "pafteis.command/1"

abbrev pub history_format : List ℕ
history_format = codes "pafteis.history/1"

-- what came of a command: the reply that its line has, or that it was left
abbrev pub outcome_name : Option Reply → List ℕ
outcome_name None = codes "left"
outcome_name (Some reply) = reply_name reply

abbrev pub outcome_members : Option Reply → Members
outcome_members None = no_members
outcome_members (Some reply) = reply_members reply

-- the command of a number
abbrev pub command_json : ℕ → Option Reply → Json
command_json n told =
    object
    (member (codes "format") (string command_format)
    (member (codes "command") (number (decimal n))
    (member (codes "outcome") (string (outcome_name told))
    (outcome_members told))))

-- numbers, as of threads
abbrev pub numbers_json : List ℕ → Items
numbers_json [] = no_items
numbers_json (n ∷ numbers) = item (number (decimal n)) (numbers_json numbers)

-- a history of so many entries, with which the run of its events agrees, and the threads that wait
-- in a ring after it
abbrev pub history_json : ℕ → List ℕ → Json
history_json entries ringed =
    object
    (member (codes "format") (string history_format)
    (member (codes "entries") (number (decimal entries))
    (member (codes "verdict") (string (codes "agrees"))
    (member (codes "ring") (array (numbers_json ringed))
    no_members))))
