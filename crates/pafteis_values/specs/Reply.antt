-- The numbers of replies in the header.
use Rattle.std.specs.Prelude.{ℕ}
use Rattle.model.specs.declared.event.Reply.{Reply}
use Rattle.model.specs.declared.event.Reply.TheVariants.{Started, Stepped, Finished, Topped, Waited, Idle, Refused, Bug, Wrong}
use Rattle.model.specs.Status.{status_code}
use Rattle.pafteis_values.specs.declared.reply.ReplyValue.{ReplyValue}

abbrev pub only_kind : ℕ → ReplyValue
only_kind kind = record { packet = 0; info = 0; kind = kind; status = 0 }

-- a reply as a value
abbrev pub reply_value : Reply → ReplyValue
reply_value (Started packet) = record { packet = packet; info = 0; kind = 1; status = 0 }
reply_value Stepped = only_kind 2
reply_value Finished = only_kind 3
reply_value (Topped packet status info) =
    record { packet = packet; info = info; kind = 4; status = status_code status }
reply_value Waited = only_kind 5
reply_value Idle = only_kind 6
reply_value Refused = only_kind 7
reply_value (Bug bug) = only_kind 8
reply_value (Wrong place) = only_kind 9
