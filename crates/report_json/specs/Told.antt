-- The objects of the events of a run that is told.
use Rattle.std.specs.Prelude.{ℕ, List, codes, decimal, string_bytes, Option, None, Some}
use Rattle.json.specs.Json.{Json, null, number, string, object, member}
use Rattle.model.specs.declared.event.Reply.{Reply}
use Rattle.report_json.specs.declared.told.Circumstances.{Circumstances}
use Rattle.report_json.specs.Event.{reply_members, reply_name}
use Rattle.report_json.specs.Verdict.{name_json}

-- the name of the shape, and its edition
abbrev pub told_format : List ℕ
told_format = codes "pafteis.told/1"

-- a number that there may be
abbrev pub number_json : Option ℕ → Json
number_json None = null
number_json (Some n) = number (decimal n)

-- the event of a number, with its circumstances, and what the run answered to it
abbrev pub told_json : ℕ → Reply → Circumstances → Json
told_json event reply around =
    object
    (member (codes "format") (string told_format)
    (member (codes "event") (number (decimal event))
    (member (codes "thread") (number_json around.thread)
    (member (codes "routine") (name_json around.routine)
    (member (codes "line") (number_json around.line)
    (member (codes "changed") (string (string_bytes around.changed))
    (member (codes "reply") (string (reply_name reply))
    (reply_members reply))))))))
