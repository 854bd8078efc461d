-- How the lines of the commands of a script are added, and that they are right.
use Rattle.std.proofs.Common.{◌≡◌, ◌∙◌, ◌<◌, ℕ, ◌+◌, List, [], ◌++◌, drop, get_or, length, None, Option, Some, Ok, Err, refl, sym, ap, subst, append_assoc}
use Rattle.std.proofs.lemmas.List.{append-nil, at_drop_more}
use Rattle.model.specs.declared.event.Reply.{Reply}
use Rattle.model.specs.declared.history.Command.{Command}
use Rattle.model.specs.declared.history.Entry.{Entry}
use Rattle.model.specs.Machine.{Machine}
use Rattle.model.specs.Set.{Set}
use Rattle.model.specs.World.{World}
use Rattle.workers_script.specs.declared.hosted.Hosted.{Hosted}
use Rattle.workers_script.specs.Standing.{IsStanding}
use Rattle.workers_script.specs.Told.{Hosts, all_told}
use Rattle.tell_audit.specs.Findings.{ringed_threads}
use Rattle.model.specs.History.{events_of, world_after_all}
use Rattle.model.specs.Run.{run}
use Rattle.drvhost_devices.specs.declared.fault.End.{End}
use Rattle.drvhost_devices.specs.declared.fault.Fault.TheVariants.{Write}
use Rattle.drvhost_devices.specs.Answer.{Answer}
use Rattle.answer_runs.specs.Hosting.{GoesTold, ended_with}
use Rattle.report.specs.Host.{agrees_line}
use Rattle.answer_runs.proofs.Idling.{none_ringed}
use Rattle.answer_runs.specs.Served.{IsServed, TellsOfRing, command_line, command_lines, ringed_after, rings_in, served_as, served_end}
use Rattle.drvhost_devices.specs.Device.{Adds, TakesBeginning}
use Rattle.drvhost_devices.specs.Fault.{Goes}
use Rattle.drvhost_devices.proofs.Writing.{adds_breaks, adds_line, adds_more}

-- the next command's line
pub next_command : (commands : List (Option Reply)) (i : ℕ) (d : Option Reply)
    → i < length commands
    → command_lines i (drop i commands)
    ≡ command_line i (get_or commands i d) ++ command_lines (i + 1) (drop (i + 1) commands)
next_command commands i d within = at_drop_more (command_lines i) commands i d within

abbrev pub IsServedAs : Hosted → List ℕ → List ℕ → Answer → Type 0
IsServedAs hosted ringed words answer =
    answer ≡ served_as hosted.told.items hosted.entries ringed words

module _ (hosted : Hosted) (ringed words : List ℕ) where
  -- a write fails: among the lines of the commands, or after them
  pub served_broken : (b n : Option (List ℕ)) (l : List ℕ)
      → TakesBeginning b n (command_lines 0 hosted.told.items)
      → Goes (IsServedAs hosted ringed words) b n [] l (Err Write)
  served_broken b n l p =
      let line = agrees_line hosted.entries in (
        served_as hosted.told.items hosted.entries ringed words,
        refl,
        record {
          part = p.part;
          rest = p.rest ++ line;
          split = ap (λ x. x ++ line) p.split ∙ append_assoc p.part p.rest line;
          appended = p.appended;
        },
      )

  pub served_broken_late : (b m n : Option (List ℕ)) (k l : List ℕ)
      → Adds b m [] k (command_lines 0 hosted.told.items) → TakesBeginning m n k
      → Goes (IsServedAs hosted ringed words) b n [] l (Err Write)
  served_broken_late b m n k l a p = (
    served_as hosted.told.items hosted.entries ringed words,
    refl,
    adds_breaks b m n [] k (command_lines 0 hosted.told.items)
        (agrees_line hosted.entries) a p,
  )

  -- all lines are added
  pub served_told : (b m n : Option (List ℕ)) (k l left told : List ℕ) (end : End)
      → Adds b m [] k (command_lines 0 hosted.told.items) → Adds m n k l []
      → end ≡ served_end hosted.told.items hosted.entries ringed
      → left ≡ l ++ agrees_line hosted.entries → told ≡ words
      → GoesTold (IsServedAs hosted ringed words) told b n [] left (Ok end)
  served_told b m n k l left told end a d ends adds same =
      let text = command_lines 0 hosted.told.items in
      let line = agrees_line hosted.entries in
      let P : List ℕ → Type 0 = λ x. Adds b n [] l x in
      let gathered : Adds b n [] l text =
      subst P (append-nil text) (adds_more b m n [] k l text [] a d) in
      let Q : List ℕ → Type 0 = λ x. Adds b n [] x (text ++ line) in (
        text ++ line,
        ap (λ x. ended_with x (text ++ line) told) ends
            ∙ ap (λ x. ended_with (served_end hosted.told.items hosted.entries ringed)
            (text ++ line) x) same,
        subst Q (sym adds) (adds_line b n [] l text line gathered),
      )

-- the threads that wait in a ring after a history, by what stands
pub rings_after : (set : Set) (workers : ℕ) (history : List Entry) (standing : Option Machine)
    → IsStanding set workers history standing
    → rings_in standing ≡ ringed_after set workers history
rings_after set workers history None idle =
    sym (none_ringed set (world_after_all set workers history) idle)
rings_after set workers history (Some machine) h =
    ap (λ (w : World). ringed_threads machine.set w) h.run.world
    ∙ ap (λ (s : Set). ringed_threads s (run s workers (events_of history)).world) h.same_set

-- what is told of what was hosted is what the history of its core tells
module _ (set : Set) (workers : ℕ) (commands : List Command) (hosted : Hosted)
    (h : Hosts set workers commands hosted) where
  pub rings_there : rings_in hosted.standing ≡ ringed_after set workers hosted.core.history
  rings_there =
      rings_after set workers h.history hosted.standing h.standing
      ∙ ap (λ (xs : List Entry). ringed_after set workers xs) (sym h.stored)

  pub answered_there : (F : List (Option Reply) → ℕ → List ℕ → Answer)
      → F hosted.told.items hosted.entries (rings_in hosted.standing)
      ≡ F (all_told hosted.core.history (length commands)) (length hosted.core.history)
      (ringed_after set workers hosted.core.history)
  answered_there F =
      let history = hosted.core.history in
      let told : List (Option Reply) = all_told history (length commands) in
      let rings = rings_in hosted.standing in
      let told_is : hosted.told.items ≡ told =
      h.told ∙ ap (λ (xs : List Entry). all_told xs (length commands)) (sym h.stored) in
      let long : hosted.entries ≡ length history =
      h.entries ∙ ap (λ (xs : List Entry). length xs) (sym h.stored) in
      ap (λ x. F x hosted.entries rings) told_is ∙ ap (λ x. F told x rings) long
      ∙ ap (λ x. F told (length history) x) rings_there

-- and so is what is answered
module _ (set : Set) (workers : ℕ) (commands : List Command) (hosted : Hosted)
    (ringed words : List ℕ) (h : Hosts set workers commands hosted)
    (rings : ringed ≡ rings_in hosted.standing) where
  pub ringed_there : ringed ≡ ringed_after set workers hosted.core.history
  ringed_there = rings ∙ rings_there set workers commands hosted h

  pub served_there : served_as hosted.told.items hosted.entries ringed words
      ≡ served_as (all_told hosted.core.history (length commands)) (length hosted.core.history)
      (ringed_after set workers hosted.core.history) words
  served_there =
      ap (λ x. served_as hosted.told.items hosted.entries x words) rings
      ∙ answered_there set workers commands hosted h
      (λ told entries x. served_as told entries x words)

-- what was hosted is right for the commands of a script
pub served_right : (set : Set) (workers : ℕ) (commands : List Command) (hosted : Hosted)
    (ringed words : List ℕ) → Hosts set workers commands hosted
    → ringed ≡ rings_in hosted.standing → TellsOfRing ringed words
    → (answer : Answer) → IsServedAs hosted ringed words answer
    → IsServed workers set (Ok commands) answer
served_right set workers commands hosted ringed words h rings tells answer e =
    let same = ringed_there set workers commands hosted ringed words h rings in
    record {
      hosted = hosted;
      hosts = h;
      words = words;
      tells = subst (λ xs. TellsOfRing xs words) same tells;
      is = e ∙ served_there set workers commands hosted ringed words h rings;
    }
