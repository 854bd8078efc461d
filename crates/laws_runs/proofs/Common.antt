-- The names that most proofs of laws cite, passed on from one place: those of `Prelude`, and of what
-- is known of lists, steps and states. Declares nothing.
pub use Rattle.laws_runs.proofs.Prelude.{ap, append-nil, arith, cond, drop, eqb-true, get_or, inl, inr, map, refl, subst, sym, take, zero, ◌*◌, ◌-◌, ◌∙◌, cases_Bool, cases_eq, cases_lt, cond_both, eq-eqb, leb-false, lt-ltb, ltb-false, ltb-true, ne_eqb, eqb_tells, leb_tells, append_assoc, get_or-set_other, get_or-set_same, length-append, length-replicate, length-set, set-get_or, All-nil, get_or_from_slice_get, slice_get-get_or, slice_get_within, list_any, All, Bool, IfSome, List, None, Option, Some, [], false, if◌then◌else◌, is_none, is_some, length, nat_eq, nat_le, nat_lt, not, option_and_then, option_map, remove, replicate, slice_get, slice_index_or, slice_set, suc, true, ℕ, ⊤, ◌&&◌, ◌++◌, ◌+◌, ◌<◌, ◌||◌, ◌∷◌, ◌≡◌, ◌≢◌, ◌≤◌, ◌⊎◌, Acquires, Action, Calls, Completes, Continues, Exchanges, Execute, Executes, GoWrong, GoesWrong, Issues, Leave, Lends, Marks, OfRoutine, OnLocation, OnLock, OnPacket, Releases, TopOut, TopsOut, Touch, TouchPaged, Touches, TouchesPaged, Up, Ups, certificate, certificate_of, Outcome, acquire_effect, answered, answered_in, arm_effect, arm_packet, armer_of, armer_waiting, ask_effect, ask_packet, asks, begin_effect, call_effect, call_packet, cancel_step, complete_effect, complete_packet, completes_with, dequeue_effect, difference_of, disarm_effect, disarm_packet, dispatched, end_effect, frame_effect, get_effect, get_packet, goes_on, goes_on_cancelling, goes_wrong, insert_effect, instruction_effect, is_less_at, is_walk, is_zero_at, jump_effect, kept_below, leaves, let_on, load_effect, load_paged_effect, look_effect, look_packet, mark_effect, mark_packet, next_disarmed, next_effect, next_packet, next_waiting, number_effect, operand_of, pass_effect, pass_packet, put_effect, put_packet, release_effect, remove_effect, remove_from, return_effect, return_lower, returned, routine_effect, routine_of_device, set_by, sort_of_completion, spin_lock, start_effect, start_packet, start_waiting, store_effect, store_paged_effect, sum_of, take_effect, take_from, told_to, told_top, top_of, turned, unlink_effect, waits, walk_packet, Change, can_issue, dpc_activation, effect, finished_or, interrupt_on, interrupted, is_idle, issue_on, issued, root_over, serves_request, settled, standing, step_thread, top_effect, unchanged, with_new_packet, with_stack, with_thread, acquired, armed, bug_if, completing, depth, fault_of, first_fault, first_or, holds, lock_acts, with_lock_act, ends_held, holds_any, is_lock, stack_size, topped, is_too_small, lacks_lower, replies_of, request_started, top_out_of, all_let_go, duty_completed, is_at, is_blank, is_claim, is_exchanged, is_guard, is_kept, is_lower, is_name, is_new, is_packet, is_right, is_stage, is_view, kind_disarmed, kind_inserted, kind_removed, left_behind, let_go, a_new_one, an_owned_one, broken_if, complete_kind, completion_sort_fault, demanded, duty_fault, entered_with, entry_of_cancel, entry_of_sort, entry_state, form_fault, forward_fault, forward_sort_fault, free_kind, given_down, gives_back, guard_fault, handed, handed_at_label, holds_lock, holds_spin_lock, is_completion, is_dropped, is_fresh, is_guarded, is_hold, is_pending, kept_fault, kind_of, least_of, level_fault, look_fault, mark_fault, marked, number_kind, one_handed_or_owned, outs, outs_by, queued_kind, refuses, rule_or, settled_fault, take_fault, unless, unlink_kind, with_kind, loops_round, open_at, open_by, reply_to, Along, Arrives, HandsOn, LeadsFrom, goes_forward, is_malformed, is_misplaced, is_misplaced_by, PendingAgree, is_use, marks_left, statuses_returned, was_marked, StartState, dequeued, has_room_for_next, has_room_to_start, head_of, idle, inserted, is_full, next_of, next_started, started, unlinked, with_slot, without_first_to_start, without_head, Answered, Run, activations_after, actor_on, begun, counted_kept, frames_of, frames_on, goes, kept_tag, new_tag, refused, root_of, run, run_from, step, tags_after, tags_on, thread_of, top_tag, Branches, Closes, Flow, Jumps, Leaves, Member, Onward, Opens, Set, cancel_routine_named, cancel_routine_of, cancels_for, default_code, default_number, default_routine, dpc_of, flow_of, guard_named, has_cancel, instruction_at, label_in, label_of, lower_of, member, routine_of, sort_in, sort_of, startio_of, MayBeTaken, Reads, ShowsWorld, blank_register, shown_packet, told_register, whole, whole_register, DeviceFits, DriverFits, HasSort, IsSound, OperandFits, QueueFits, queue_named, Activated, Actor, Entry, Managing, Serving, Tag, current_use, entry, recorded, uses, uses_opened, ArrivesAlone, IsTypable, IsTypableRoutine, fault_in, Locks, Shared, World, asked_of, at_label, blank_cells, cancelled, completed, completion_of, copied_location, current_location, entered, idle_thread, innermost, is_marked, is_queued, left_location, mark_current, marked_location, moved_up, new_packet, next, number_in, owner_of, packet_in, packet_of, place_of, queue_of, register, sent_down, shared_location, shared_with, start_of, status_in, unused_location, with_armer, with_dpc, with_info, with_locks, with_loops, with_owner, with_packet, with_queue, with_register, with_start, without_packet, Abs, Duty, Finished, Fresh, GivenDown, NoDuty, Pending, Kind, BlankKind, Lower, LowerKind, New, NumKind, Own, Queued, QueuedKind, View, Rule, CancelSpinLock, CancelState, CompletionRule, Dropped, GuardRule, SpinLock, Token, Settled, NeedMark, Open, SettledMark, Stage, Armed, Cancelling, Listed, Taken, Bug, BugCheck, IrqlNotLessOrEqual, SpinLockAlreadyOwned, SpinLockNotOwned, Event, CancelEvent, DpcEvent, Interrupt, Issue, StartIoEvent, Step, Lock, Spin, SystemCancel, OfDevice, Place, Reply, BugCheckReply, Idle, Refused, Started, Stepped, Topped, Waited, Wrong, Subject, LockSubject, PacketSubject, Field, Instr, Acquire, AcquireCancel, Add, Arm, Begin, Call, Clear, Complete, Const, Dequeue, Disarm, End, Get, IfCancel, IfPending, Insert, Jump, JumpIfLess, JumpIfZero, Load, LoadPaged, Loop, Mark, Move, Next, Pass, Put, Release, ReleaseCancel, Remove, Ret, Start, Store, StorePaged, Subtract, Take, Unlink, Return, Continue, Stop, Void, WithStatus, MAX_FRAMES, MAX_LIVE_PACKETS, MAX_LOOPS, MAX_QUEUES, MAX_ROUTINES, REGISTERS, SPIN_LOCKS, Device, Driver, Guard, CancelLock, DeviceLock, Queue, QueueName, Declared, DeviceQueue, RoutineOf, Sort, Cancel, Dispatch, Dpc, Hold, Propagate, StartIo, Major, Read, Status, Success, Activation, Armer, CancelStep, AcquireStep, Exchange, SetFlag, Canceller, Cells, Completion, Frame, CancelFrame, Routine, Walk, Irql, DispatchLevel, Passive, Location, OpenLoop, Packet, Thread, Value, Blank, Num, Ref, StatusValue}
pub use Rattle.laws_runs.specs.ArrivingStates.{States}
pub use Rattle.laws_runs.specs.Holder.{alive, all_walking, frame_rights, frame_walks, is_lent, is_live, named_as, named_in, names, right, rights, stack_sum, thread_sum, times_at, times_in, times_in_slot, times_listed, times_named, times_on, times_plain, times_plain_on, times_queued, times_started, times_to_start, times_waiting, waits_cancelable, walking}
pub use Rattle.laws_runs.specs.Lifetime.{AreOneRoutine, KeepsCertificate, executions}
pub use Rattle.laws_runs.specs.OneToken.{frame_tokens, slot_tokens, start_tokens, tokens}
pub use Rattle.laws_runs.specs.Rules.{Faultless}
pub use Rattle.laws_runs.specs.TopsOnce.{times_topped}
pub use Rattle.laws_runs.proofs.Lists.{Each, all_at, before_last, copied, each_after, each_append, each_before, get_at_length, last_of, set_other, set_same, sum_le, sum_put}
pub use Rattle.laws_runs.proofs.States.Along.{arrives_keep}
pub use Rattle.laws_runs.proofs.States.Begun.{RootFrame, root_cancels, root_enters, startio_enters}
pub use Rattle.laws_runs.proofs.States.Cancelled.{begins_called}
pub use Rattle.laws_runs.proofs.States.Entering.{Begins, Enters, IsCompleting, IsOfSort, begins_back, begins_cancelled, begins_dpc, begins_lent, begins_lower, begins_request, first_state, sort_there, startio_activation}
pub use Rattle.laws_runs.proofs.States.Fine.{StepLeaves, leaves_fine, not_gone, touch_top}
pub use Rattle.laws_runs.proofs.States.Fits.{ArmerLeads, queue_row, word_leads}
pub use Rattle.laws_runs.proofs.States.Follows.{arrives_alone}
pub use Rattle.laws_runs.proofs.States.Frames.{IsGood, Moved, Ready, Runs, Serves, state_of}
pub use Rattle.laws_runs.proofs.States.HandedOver.{HoldOf, goes_hold, hold_get, hold_none, hold_told, keeps_copies, next_hold, queued_hold}
pub use Rattle.laws_runs.proofs.States.Inside.{stands_inside, waits_under}
pub use Rattle.laws_runs.proofs.States.Kinds.{HasKinds, Suits, handed_long, kinds_get, kinds_set, label_kinds, number_kinds, packet_wanted}
pub use Rattle.laws_runs.proofs.States.Known.{IsKnown, led}
pub use Rattle.laws_runs.proofs.States.Lacking.{down, never_lacks}
pub use Rattle.laws_runs.proofs.States.Listed.{KindFits, named_same, stage_same}
pub use Rattle.laws_runs.proofs.States.LoopEnds.{moved_end, moved_loop}
pub use Rattle.laws_runs.proofs.States.Moves.{arrives, arrives_next, falls_next, has_next, onto}
pub use Rattle.laws_runs.proofs.States.NoViews.{HasNone, deferred_no_view, dispatch_no_view, handed_news, handed_views, hold_no_view, is_deferred, left_none, no_view_at}
pub use Rattle.laws_runs.proofs.States.Obeyed.{ReturnsBy, SendsDown, completes_one, inserts_right, returns_by, sends_down}
pub use Rattle.laws_runs.proofs.States.OnTop.{OnTop, runs, value_suits}
pub use Rattle.laws_runs.proofs.States.Queueing.{MovedOn, queue_moves, waits_move}
pub use Rattle.laws_runs.proofs.States.Roots.{Low}
pub use Rattle.laws_runs.proofs.States.Rules.{first_none, granted, second_none, unbroken}
pub use Rattle.laws_runs.proofs.States.Stacks.{Replaces, Stacked, Stands}
pub use Rattle.laws_runs.proofs.States.Standing.{Standing, on_top, right_event, root_there, standing_kept, stands_there}
pub use Rattle.laws_runs.proofs.States.StartsFit.{head_low, start_issued}
pub use Rattle.laws_runs.proofs.States.Told.{last_same, last_under, told_frame, told_is, told_last}
pub use Rattle.laws_runs.proofs.Steps.Below.{StopsBelow, cancel_takes, stood}
pub use Rattle.laws_runs.proofs.Steps.Comes.{Cancels, Comes, Exchanged, Executing, GoesTo, Waits, Written, arms_for, arms_waiting, awaits_cancel, awaits_lock, calls_cancel, calls_down, cancels, carries_up, completes_gone, completes_packet, computes, dequeues_packet, disarms, disarms_next, ends_cancel, ends_dpc, ends_startio, errs, exchanges, exchanges_gone, finds_empty, finds_none, flags_gone, frees_lock, inserts, jumping, keeps_all, lends_to, lets_go, lets_walk, looks_at, makes_blank, makes_number, marks_packet, moves_over, onward, opens_loop, pages, passes_down, puts_in, queued_to, removes, removes_none, resumes_gone, resumes_none, resumes_walk, retakes_cancel, retakes_lock, returns_status, sets_flag, starts_gone, starts_next, starts_packet, stops_none, stops_walk, takes_cancel, takes_lock, takes_none, takes_out, tops_out, touches_gone, turns_loop, unlinks, waited_to, waits_armed, walks_gone, walks_to, walks_up, works_on_queues, works_on_waiting, writes_info}
pub use Rattle.laws_runs.proofs.Steps.Faults.{fault_among, first_only, is_call, is_of_locks, is_touch, none_first, none_later, quiet_among, topped_faults}
pub use Rattle.laws_runs.proofs.Steps.Locking.{LockWord, freed_word, taken_word}
pub use Rattle.laws_runs.proofs.Steps.Onward.{SameRoutine, goes_device, goes_same, turned_device, turned_registers, turned_same}
pub use Rattle.laws_runs.proofs.Steps.Queues.{is_gone, queued_same, queued_touches, queued_work, waits_work}
pub use Rattle.laws_runs.proofs.Steps.Walk.{comes}
pub use Rattle.laws_runs.proofs.Steps.Words.{Forwarding, Locking, Work, goes_next, is_giving, is_touching, keeps_registers, lock_freed, lock_taken, number_operand, numbered_by, packet_operand, second_operand, work_of}
pub use Rattle.laws_runs.proofs.Tests.{and_false, and_left, and_right, if_le, if_none, if_one, not_at_most, not_false, or_left, or_right}
