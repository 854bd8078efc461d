-- The names of the standard library and of the model that proofs of laws cite, passed on
-- from one place. Declares nothing.
pub use Rattle.std.proofs.Common.{ap, append-nil, arith, cond, drop, eqb-true, get_or, inl, inr, map, refl, subst, sym, take, zero, ◌*◌, ◌-◌, ◌∙◌}
pub use Rattle.std.proofs.lemmas.Bool.{cases_Bool, cases_eq, cases_lt, cond_both, eq-eqb, leb-false, lt-ltb, ltb-false, ltb-true, ne_eqb}
pub use Rattle.std.proofs.lemmas.Bool.Decides.{eqb_tells, leb_tells}
pub use Rattle.std.proofs.lemmas.List.{append_assoc, get_or-set_other, get_or-set_same, length-append, length-replicate, length-set, set-get_or}
pub use Rattle.std.proofs.lemmas.List.Elements.{All-nil}
pub use Rattle.std.proofs.lemmas.Option.{get_or_from_slice_get, slice_get-get_or, slice_get_within}
pub use Rattle.std.specs.List.{list_any}
pub use Rattle.std.specs.Prelude.{All, Bool, IfSome, List, None, Option, Some, [], false, if◌then◌else◌, is_none, is_some, length, nat_eq, nat_le, nat_lt, not, option_and_then, option_map, remove, replicate, slice_get, slice_index_or, slice_set, suc, true, ℕ, ⊤, ◌&&◌, ◌++◌, ◌+◌, ◌<◌, ◌||◌, ◌∷◌, ◌≡◌, ◌≢◌, ◌≤◌, ◌⊎◌}
pub use Rattle.model.specs.Action.{Acquires, Action, Calls, Completes, Continues, Exchanges, Execute, Executes, GoWrong, GoesWrong, Issues, Leave, Lends, Marks, OfRoutine, OnLocation, OnLock, OnPacket, Releases, TopOut, TopsOut, Touch, TouchPaged, Touches, TouchesPaged, Up, Ups}
pub use Rattle.model.specs.Certificate.{certificate, certificate_of}
pub use Rattle.model.specs.Effect.{Outcome, acquire_effect, answered, answered_in, arm_effect, arm_packet, armer_of, armer_waiting, ask_effect, ask_packet, asks, begin_effect, call_effect, call_packet, cancel_step, complete_effect, complete_packet, completes_with, dequeue_effect, difference_of, disarm_effect, disarm_packet, dispatched, end_effect, frame_effect, get_effect, get_packet, goes_on, goes_on_cancelling, goes_wrong, insert_effect, instruction_effect, is_less_at, is_walk, is_zero_at, jump_effect, kept_below, leaves, let_on, load_effect, load_paged_effect, look_effect, look_packet, mark_effect, mark_packet, next_disarmed, next_effect, next_packet, next_waiting, number_effect, operand_of, pass_effect, pass_packet, put_effect, put_packet, release_effect, remove_effect, remove_from, return_effect, return_lower, returned, routine_effect, routine_of_device, set_by, sort_of_completion, spin_lock, start_effect, start_packet, start_waiting, store_effect, store_paged_effect, sum_of, take_effect, take_from, told_to, told_top, top_of, turned, unlink_effect, waits, walk_packet}
pub use Rattle.model.specs.Events.{Change, can_issue, dpc_activation, effect, finished_or, interrupt_on, interrupted, is_idle, issue_on, issued, root_over, serves_request, settled, standing, step_thread, top_effect, unchanged, with_new_packet, with_stack, with_thread}
pub use Rattle.model.specs.Fault.{acquired, armed, bug_if, completing, depth, depth_after, ends_armed, ends_completing, ends_held, fault_of, first_fault, first_or, holds, holds_any, is_lock, is_top_out, location_acts, lock_acts, packet_acts, stack_after, stack_size, topped, with_lock_act}
pub use Rattle.model.specs.Forwarding.{is_too_small, lacks_lower}
pub use Rattle.model.specs.History.{replies_of, request_started, top_out_of}
pub use Rattle.model.specs.Kinds.{all_let_go, duty_completed, is_at, is_blank, is_claim, is_exchanged, is_guard, is_kept, is_lower, is_name, is_new, is_packet, is_right, is_stage, is_view, kind_disarmed, kind_inserted, kind_removed, left_behind, let_go}
pub use Rattle.model.specs.LocalRule.{a_new_one, an_owned_one, broken_if, complete_kind, completion_sort_fault, demanded, duty_fault, entered_with, entry_of_cancel, entry_of_sort, entry_state, form_fault, forward_fault, forward_sort_fault, free_kind, given_down, gives_back, guard_fault, handed, handed_at_label, holds_lock, holds_spin_lock, is_completion, is_dropped, is_fresh, is_guarded, is_hold, is_pending, kept_fault, kind_of, least_of, level_fault, look_fault, mark_fault, marked, number_kind, one_handed_or_owned, outs, outs_by, queued_kind, refuses, rule_or, settled_fault, take_fault, unless, unlink_kind, with_kind}
pub use Rattle.model.specs.Loops.{loops_round, open_at, open_by}
pub use Rattle.model.specs.Machine.{reply_to}
pub use Rattle.model.specs.Paths.{Along, Arrives, HandsOn, LeadsFrom, goes_forward, is_malformed, is_misplaced, is_misplaced_by}
pub use Rattle.model.specs.PendingAgreement.{PendingAgree, is_use, marks_left, statuses_returned, was_marked}
pub use Rattle.model.specs.Queues.{StartState, dequeued, has_room_for_next, has_room_to_start, head_of, idle, inserted, is_full, next_of, next_started, started, unlinked, with_slot, without_first_to_start, without_head}
pub use Rattle.model.specs.Run.{Answered, Run, activations_after, actor_on, begun, counted_kept, frames_of, frames_on, goes, kept_tag, new_tag, refused, root_of, run, run_from, step, tags_after, tags_on, thread_of, top_tag}
pub use Rattle.model.specs.Set.{Branches, Closes, Flow, Jumps, Leaves, Member, Onward, Opens, Set, cancel_routine_named, cancel_routine_of, cancels_for, default_code, default_number, default_routine, dpc_of, flow_of, guard_named, has_cancel, instruction_at, label_in, label_of, lower_of, member, routine_of, sort_in, sort_of, startio_of}
pub use Rattle.model.specs.Shown.{MayBeTaken, Reads, ShowsWorld, blank_register, shown_packet, told_register, whole, whole_register}
pub use Rattle.model.specs.Sound.{DeviceFits, DriverFits, HasSort, IsSound, OperandFits, QueueFits, queue_named}
pub use Rattle.model.specs.Trace.{Activated, Actor, Entry, Managing, Serving, Tag, current_use, entry, recorded, uses, uses_opened}
pub use Rattle.model.specs.Typable.{ArrivesAlone, IsTypable, IsTypableRoutine, fault_in}
pub use Rattle.model.specs.World.{Locks, Shared, World, asked_of, at_label, blank_cells, cancelled, completed, completion_of, copied_location, current_location, entered, idle_thread, innermost, is_marked, is_queued, left_location, mark_current, marked_location, moved_up, new_packet, next, number_in, owner_of, packet_in, packet_of, place_of, queue_of, register, sent_down, shared_location, shared_with, start_of, status_in, unused_location, with_armer, with_dpc, with_info, with_locks, with_loops, with_owner, with_packet, with_queue, with_register, with_start, without_packet}
pub use Rattle.model.specs.declared.abs.Abs.{Abs}
pub use Rattle.model.specs.declared.abs.Duty.{Duty}
pub use Rattle.model.specs.declared.abs.Duty.TheVariants.{Finished, Fresh, GivenDown, NoDuty, Pending}
pub use Rattle.model.specs.declared.abs.Kind.{Kind}
pub use Rattle.model.specs.declared.abs.Kind.TheVariants.{Blank as BlankKind, Lower, Lower as LowerKind, New, Num as NumKind, Own, Queued, Queued as QueuedKind, View}
pub use Rattle.model.specs.declared.abs.Rule.{Rule}
pub use Rattle.model.specs.declared.abs.Rule.TheVariants.{CancelSpinLock, CancelState, Completion as CompletionRule, Dropped, Guard as GuardRule, SpinLock, Token}
pub use Rattle.model.specs.declared.abs.Settled.{Settled}
pub use Rattle.model.specs.declared.abs.Settled.TheVariants.{NeedMark, Open, Settled as SettledMark}
pub use Rattle.model.specs.declared.abs.Stage.{Stage}
pub use Rattle.model.specs.declared.abs.Stage.TheVariants.{Armed, Cancelling, Listed, Taken}
pub use Rattle.model.specs.declared.event.Bug.{Bug}
pub use Rattle.model.specs.declared.event.BugCheck.{BugCheck}
pub use Rattle.model.specs.declared.event.BugCheck.TheVariants.{IrqlNotLessOrEqual, SpinLockAlreadyOwned, SpinLockNotOwned}
pub use Rattle.model.specs.declared.event.Event.{Event}
pub use Rattle.model.specs.declared.event.Event.TheVariants.{Cancel as CancelEvent, Dpc as DpcEvent, Interrupt, Issue, StartIo as StartIoEvent, Step}
pub use Rattle.model.specs.declared.event.Lock.{Lock}
pub use Rattle.model.specs.declared.event.Lock.TheVariants.{Spin, SystemCancel}
pub use Rattle.model.specs.declared.event.OfDevice.{OfDevice}
pub use Rattle.model.specs.declared.event.Place.{Place}
pub use Rattle.model.specs.declared.event.Reply.{Reply}
pub use Rattle.model.specs.declared.event.Reply.TheVariants.{Bug as BugCheckReply, Idle, Refused, Started, Stepped, Topped, Waited, Wrong}
pub use Rattle.model.specs.declared.event.Subject.{Subject}
pub use Rattle.model.specs.declared.event.Subject.TheVariants.{Lock as LockSubject, Packet as PacketSubject}
pub use Rattle.model.specs.declared.instr.Field.{Field}
pub use Rattle.model.specs.declared.instr.Instr.{Instr}
pub use Rattle.model.specs.declared.instr.Instr.TheVariants.{Acquire, AcquireCancel, Add, Arm, Begin, Call, Clear, Complete, Const, Dequeue, Disarm, End, Get, IfCancel, IfPending, Insert, Jump, JumpIfLess, JumpIfZero, Load, LoadPaged, Loop, Mark, Move, Next, Pass, Put, Release, ReleaseCancel, Remove, Ret, Start, Store, StorePaged, Subtract, Take, Unlink}
pub use Rattle.model.specs.declared.instr.Return.{Return}
pub use Rattle.model.specs.declared.instr.Return.TheVariants.{Continue, Stop, Void, WithStatus}
pub use Rattle.model.specs.declared.limits.TheConstants.{MAX_FRAMES, MAX_LIVE_PACKETS, MAX_LOOPS, MAX_QUEUES, MAX_ROUTINES, REGISTERS, SPIN_LOCKS}
pub use Rattle.model.specs.declared.set.Device.{Device}
pub use Rattle.model.specs.declared.set.Driver.{Driver}
pub use Rattle.model.specs.declared.set.Guard.{Guard}
pub use Rattle.model.specs.declared.set.Guard.TheVariants.{CancelLock, DeviceLock}
pub use Rattle.model.specs.declared.set.Queue.{Queue}
pub use Rattle.model.specs.declared.set.QueueName.{QueueName}
pub use Rattle.model.specs.declared.set.QueueName.TheVariants.{Declared, DeviceQueue}
pub use Rattle.model.specs.declared.set.Routine.{Routine as RoutineOf}
pub use Rattle.model.specs.declared.set.Sort.{Sort}
pub use Rattle.model.specs.declared.set.Sort.TheVariants.{Cancel, Dispatch, Dpc, Hold, Propagate, StartIo}
pub use Rattle.model.specs.declared.status.Major.{Major}
pub use Rattle.model.specs.declared.status.Major.TheVariants.{Read}
pub use Rattle.model.specs.declared.status.Status.{Status}
pub use Rattle.model.specs.declared.status.Status.TheVariants.{Success}
pub use Rattle.model.specs.declared.world.Activation.{Activation}
pub use Rattle.model.specs.declared.world.Armer.{Armer}
pub use Rattle.model.specs.declared.world.CancelStep.{CancelStep}
pub use Rattle.model.specs.declared.world.CancelStep.TheVariants.{Acquire as AcquireStep, Exchange, SetFlag}
pub use Rattle.model.specs.declared.world.Canceller.{Canceller}
pub use Rattle.model.specs.declared.world.Cells.{Cells}
pub use Rattle.model.specs.declared.world.Completion.{Completion}
pub use Rattle.model.specs.declared.world.Frame.{Frame}
pub use Rattle.model.specs.declared.world.Frame.TheVariants.{Cancel as CancelFrame, Routine, Walk}
pub use Rattle.model.specs.declared.world.Irql.{Irql}
pub use Rattle.model.specs.declared.world.Irql.TheVariants.{Dispatch as DispatchLevel, Passive}
pub use Rattle.model.specs.declared.world.Location.{Location}
pub use Rattle.model.specs.declared.world.OpenLoop.{OpenLoop}
pub use Rattle.model.specs.declared.world.Packet.{Packet}
pub use Rattle.model.specs.declared.world.Thread.{Thread}
pub use Rattle.model.specs.declared.world.Value.{Value}
pub use Rattle.model.specs.declared.world.Value.TheVariants.{Blank, Num, Ref, Status as StatusValue}
