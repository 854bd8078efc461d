-- How a history is indexed.
use Rattle.std.specs.Prelude.{ℕ, ◌≡◌, Bool, List, Option, None, Some, nat_eq, slice_get, if◌then◌else◌}
use Rattle.std.specs.Option.{option_or}
use Rattle.hostcore.specs.Noted.{Noted, get}
use Rattle.model.specs.declared.event.Reply.{Reply}
use Rattle.model.specs.declared.event.Reply.TheVariants.{Started, Stepped, Finished, Topped, Waited, Idle, Refused, Bug, Wrong}
use Rattle.model.specs.declared.history.Entry.{Entry}
use Rattle.model.specs.declared.history.Name.{Name}
use Rattle.model.specs.declared.history.TopOut.{TopOut}
use Rattle.model.specs.History.{entry_named, is_name, replies_of, top_out_of}

-- the place of the first entry with a name, or that there is none
abbrev pub IsPlaceOf : List Entry → Name → Option ℕ → Type 0
IsPlaceOf history name None = entry_named history name ≡ None
IsPlaceOf history name (Some k) =
    (e : Entry) × (slice_get history k ≡ Some e) × (entry_named history name ≡ Some e)

-- the packet that topped out, if a reply says that one did
abbrev pub told_top : Reply → Option TopOut
told_top (Topped packet status info) =
    Some (record { packet = packet; status = status; info = info })
told_top (Started packet) = None
told_top Stepped = None
told_top Finished = None
told_top Waited = None
told_top Idle = None
told_top Refused = None
told_top (Bug bug) = None
told_top (Wrong place) = None

-- a value is noted of a key, and found where none was noted before
abbrev pub Puts : {K V : Type 0} → (K → K → Bool) → Noted K V → Noted K V → K → V → Type 0
Puts {K} eq before after key value =
    (q : K) → get eq after q
    ≡ option_or (get eq before q) (if eq key q then Some value else None)

abbrev pub Notes : {K V : Type 0} → (K → K → Bool) → Noted K V → Noted K V → Option (K × V)
    → Type 0
Notes {K} eq before after None = (q : K) → get eq after q ≡ get eq before q
Notes eq before after (Some note) = Puts eq before after note.0 note.1

-- the places of all names, and how all packets topped out
pub record IsIndexed (history : List Entry) (places : Noted Name ℕ) (tops : Noted ℕ TopOut)
    : Type 0 where
  pub placed : (name : Name) → IsPlaceOf history name (get is_name places name)
  pub topped : (n : ℕ) → get nat_eq tops n ≡ top_out_of (replies_of history) n
