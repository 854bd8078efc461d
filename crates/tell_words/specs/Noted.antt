-- What is noted of events for the audit of a run: the numbers of those that were refused.
use Rattle.std.specs.Prelude.{ℕ, ◌++◌, List, [], ◌∷◌, map}
use Rattle.model.specs.declared.event.Reply.{Reply}
use Rattle.model.specs.declared.event.Reply.TheVariants.{Started, Stepped, Finished, Topped, Waited, Idle, Refused, Bug, Wrong}
use Rattle.tell_words.specs.declared.audited.RefusedEvent.{RefusedEvent}

abbrev pub numbers : List RefusedEvent → List ℕ
numbers events = map (λ event. event.number) events

-- these numbers, with that of an event which has this reply, if it was refused
abbrev pub noted : List ℕ → ℕ → Reply → List ℕ
noted refused number Refused = refused ++ number ∷ []
noted refused number (Started packet) = refused
noted refused number Stepped = refused
noted refused number Finished = refused
noted refused number (Topped packet status info) = refused
noted refused number Waited = refused
noted refused number Idle = refused
noted refused number (Bug bug) = refused
noted refused number (Wrong place) = refused
