-- What is expected of a run holds in it, or doesn't.
use Rattle.std.specs.Prelude.{ℕ, ◌&&◌, not, Bool, false, List, [], ◌∷◌, nat_eq, is_none, Option, None, Some}
use Rattle.std.specs.List.{list_any}
use Rattle.tell_audit.specs.Ends.{amiss_in}
use Rattle.model.specs.declared.event.Reply.{Reply}
use Rattle.model.specs.declared.event.Reply.TheVariants.{Started, Stepped, Finished, Topped as ToppedReply, Waited, Idle, Refused, Bug, Wrong}
use Rattle.model.specs.History.{top_out_of}
use Rattle.model.specs.Run.{Run}
use Rattle.model.specs.Set.{Set}
use Rattle.model.specs.View.{packet_at}
use Rattle.model.specs.Words.{bug_check_code}
use Rattle.model.specs.World.{World, owner_of, start_of}
use Rattle.scenario_run.specs.Playing.{Playing, number_of, replies_of, run_of, world_of}
use Rattle.scenario_expected.specs.Judged.{is_verdict}
use Rattle.scenario_expected.specs.declared.expectation.Expectation.{Expectation}
use Rattle.scenario_expected.specs.declared.expectation.Expectation.TheVariants.{Clean, Bug as BugCheck, Packet, Thread, Device, Lock, Listed, Verdict, Judged}
use Rattle.scenario_expected.specs.declared.expectation.PacketState.{PacketState}
use Rattle.scenario_expected.specs.declared.expectation.PacketState.TheVariants.{Live, Cancelled, Marked, Unmarked, Topped, In, Current, Held}
use Rattle.scenario_world.specs.States.{device_holds, is_cancelled, is_live, thread_holds, topped_as}
use Rattle.scenario_world.specs.Expected.{entries_of, has_entries, has_entry, is_current, is_held, is_marked, is_owned, is_unmarked}

-- nothing is amiss in a run that hasn't stopped
abbrev pub is_clean : Set → Run → Bool
is_clean set r = not r.stopped && is_none (amiss_in set r)

-- a bug check of this number has stopped a run
abbrev pub is_bug : ℕ → Reply → Bool
is_bug number (Bug bug) = nat_eq (bug_check_code bug.check) number
is_bug number (Started packet) = false
is_bug number Stepped = false
is_bug number Finished = false
is_bug number (ToppedReply packet status info) = false
is_bug number Waited = false
is_bug number Idle = false
is_bug number Refused = false
is_bug number (Wrong place) = false

abbrev pub packet_is : World → List Reply → ℕ → PacketState → Bool
packet_is w replies n Live = is_live (packet_at w n)
packet_is w replies n Cancelled = is_cancelled (packet_at w n)
packet_is w replies n (Topped status information) =
    topped_as status information (top_out_of replies n)
packet_is w replies n Marked = is_marked (packet_at w n)
packet_is w replies n Unmarked = is_unmarked (packet_at w n)
packet_is w replies n (In d list) = has_entry n (entries_of w.shared d list)
packet_is w replies n (Current d) = is_current n (start_of w.shared d)
packet_is w replies n (Held driver routine) = is_held w n driver routine

-- a packet that wasn't issued is nothing of that
abbrev pub packet_holds : World → List Reply → Option ℕ → PacketState → Bool
packet_holds w replies None state = false
packet_holds w replies (Some n) state = packet_is w replies n state

-- the numbers of the packets that a line names
abbrev pub numbers_of : Playing → List (Option ℕ) → List (Option ℕ)
numbers_of p [] = []
numbers_of p (None ∷ packets) = numbers_of p packets
numbers_of p (Some packet ∷ packets) = number_of p packet ∷ numbers_of p packets

-- what is expected holds
abbrev pub holds : Playing → Expectation → Bool
holds p Clean = is_clean p.set (run_of p)
holds p (BugCheck number) = list_any (is_bug number) (replies_of p)
holds p (Packet packet state) =
    packet_holds (world_of p) (replies_of p) (number_of p packet) state
holds p (Thread t state) = thread_holds p.set (world_of p) t state
holds p (Device d state) = device_holds (world_of p) d state
holds p (Lock lock owner) = is_owned owner (owner_of (world_of p).shared.locks lock)
holds p (Listed d list packets) =
    has_entries (numbers_of p packets) (entries_of (world_of p).shared d list)
holds p (Verdict expected) = false
holds p (Judged expected found) = is_verdict expected found
