-- How the lines of a trace are added.
use Rattle.std.proofs.Common.{◌≡◌, ◌∙◌, ◌⊎◌, ℕ, zero, suc, ◌+◌, ◌≤◌, codes, true, List, [], ◌++◌, Option, Result, Ok, Err, length, replicate, inl, inr, refl, sym, ap, arith, subst, append_assoc}
use Rattle.std.proofs.lemmas.List.{append-nil, length-append, length-replicate}
use Rattle.model.specs.declared.event.Event.{Event}
use Rattle.model.specs.declared.event.Reply.{Reply}
use Rattle.model.specs.declared.event.Reply.TheVariants.{Stepped}
use Rattle.model.specs.History.{replies, replies_from}
use Rattle.model.specs.Run.{begun, run}
use Rattle.model.specs.Set.{Set}
use Rattle.drvhost_devices.specs.declared.device.Sink as sink
use Rattle.drvhost_devices.specs.declared.fault.End.{End}
use Rattle.drvhost_devices.specs.declared.fault.Fault.{Fault}
use Rattle.drvhost_devices.specs.declared.fault.Fault.TheVariants.{Memory, Write}
use Rattle.drvhost_devices.specs.Answer.{Answer, ended, is_last, shown_replies}
use Rattle.drvhost_devices.specs.Device.{Adds, TakesBeginning}
use Rattle.drvhost_devices.specs.Fault.{failed_writes}
use Rattle.drvhost_devices.proofs.Writing.{Gathered, adds_more, appends_none, begins_before, gathered_broken, gathered_part, keeps_same}
use Rattle.answer_runs.specs.declared.lined.LineWriter.{LineWriter}
use Rattle.answer_runs.specs.declared.reply_lines.ReplyLines as reply_lines
use Rattle.answer_runs.specs.declared.running.Replies.{Replies}
use Rattle.answer_runs.specs.Lined.{Lines, LinesBreak}
use Rattle.answer_runs.specs.Repeats.{AreReplies, RepeatsBy, told_by}
use Rattle.answer_runs.specs.Traced.{Breaks, IsBeginning, IsOutOfMemory, IsTraceBy, Streams, lines_by, traced_by}
use Rattle.answer_runs.specs.Watching.{BreaksOff, Observes, RunsBy, Takes, TellsOn, UpToLast}
use Rattle.answer_runs.proofs.Following.{any_on, length_told, lines_on, none_last}
use Rattle.answer_runs.proofs.Observing.{any_same, length_replies, replies_on, replies_told, shown_past, shown_until, up_same}

-- replies of which none but the last one ends a run
up_behind : (count : ℕ) (later : List Reply) → UpToLast later
    → UpToLast (replicate count Stepped ++ later)
up_behind zero later up = up
up_behind (suc count) later up = (inr refl, up_behind count later up)

pub up_told : (r : Replies) → (is_last r.last ≡ true → r.times ≡ 1) → UpToLast (told_by r)
up_told r once =
    up_behind r.stepped (replicate r.times r.last) (up_same r.times r.last once)

-- what is told together was taken of an event
pub takes_told : {M : Type 0} (set_of : M → Set) (ShowsRun : M → ℕ → List Event → Type 0)
    (m n : M) (e : Event) (r : Replies) → RepeatsBy set_of ShowsRun m e n (told_by r)
    → 1 ≤ r.times → (is_last r.last ≡ true → r.times ≡ 1)
    → Takes set_of ShowsRun m e n (r.stepped + r.times) (is_last r.last)
takes_told set_of ShowsRun m n e r ran some once =
    record {
      told = told_by r;
      ran = ran;
      up = up_told r once;
      counted = length_told r;
      ends = any_on (replicate r.stepped Stepped) (replicate r.times r.last)
          (none_last r.stepped Stepped refl)
          ∙ any_same r.times r.last once some;
    }

-- memory ran out, and nothing more of what gathered went out
pub gathered_cut : (all later : List ℕ) (b n : Option (List ℕ)) (g l : List ℕ)
    → Gathered all later b n g l → TakesBeginning b n (g ++ all)
gathered_cut all later b n g l h =
    gathered_broken all later b n n g l h
    (record { part = []; rest = l; split = refl; appended = appends_none n n (keeps_same n) })

module _ {L O : Type 0} (page : reply_lines.Ghosts L) (output : sink.Ghosts O)
    {M : Type 0} (set_of : M → Set) (ShowsRun : M → ℕ → List Event → Type 0) (m : M) (e : Event)
    (old : LineWriter L O) where
  -- the lines of a run with some replies more
  lines_more : (threads : ℕ) (past : List Event) (told : List Reply)
      → AreReplies (set_of m) threads past e told → page.number old.page.now ≡ length past
      → lines_by page.line 0 (replies (set_of m) threads (past ++ replicate (length told) e))
      ≡ lines_by page.line 0 (replies (set_of m) threads past)
      ++ lines_by page.line (page.number old.page.now) told
  lines_more threads past told are numbered =
      let before = replies (set_of m) threads past in
      let long : length before ≡ page.number old.page.now =
      length_replies (set_of m) (begun (set_of m) threads) past ∙ sym numbered in
      ap (λ rs. lines_by page.line 0 rs) (replies_told (set_of m) threads e told past are)
      ∙ lines_on page.line 0 before told
      ∙ ap (λ k. lines_by page.line 0 before ++ lines_by page.line k told) (omega (arith, long))

  -- all lines of some replies were added
  pub lines_on_told : (next : LineWriter L O) (told : List Reply)
      → ((threads : ℕ) (past : List Event) → ShowsRun m threads past
      → AreReplies (set_of m) threads past e told)
      → next.page.ghost_name ≡ old.page.ghost_name → next.out.ghost_name ≡ old.out.ghost_name
      → output.failures next.out.now ≡ output.failures old.out.now + 0
      → page.number next.page.now ≡ page.number old.page.now + length told
      → Adds (output.contents old.out.now) (output.contents next.out.now)
      (page.gathered old.page.now) (page.gathered next.page.now)
      (lines_by page.line (page.number old.page.now) told)
      → TellsOn set_of ShowsRun (Lines page output) (Lines page output) m old next
      (replicate (length told) e)
  lines_on_told next told are same_page same_out fine number adds start threads past shows l =
      record {
        same_page = same_page ∙ l.same_page;
        same_out = same_out ∙ l.same_out;
        room = l.room;
        fine = omega (arith, fine, l.fine);
        numbered = omega (
          arith,
          number,
          l.numbered,
          length-append past (replicate (length told) e),
          length-replicate (length told) e,
        );
        adds =
            subst (λ x. Adds (output.contents start.out.now) (output.contents next.out.now)
            (page.gathered start.page.now) (page.gathered next.page.now) x)
            (sym (lines_more threads past told (are threads past shows) l.numbered))
            (adds_more _ _ _ _ _ _ _ _ l.adds adds);
      }

  -- or a write failed or memory ran out before all of them were
  pub lines_break : (next : LineWriter L O) (fault : Fault) (told : List Reply) (count : ℕ)
      → ((threads : ℕ) (past : List Event) → ShowsRun m threads past
      → AreReplies (set_of m) threads past e told)
      → UpToLast told → length told ≤ count
      → next.page.ghost_name ≡ old.page.ghost_name → next.out.ghost_name ≡ old.out.ghost_name
      → Breaks page.lacks fault
      → output.failures next.out.now ≡ output.failures old.out.now + failed_writes fault
      → TakesBeginning (output.contents old.out.now) (output.contents next.out.now)
      (page.gathered old.page.now ++ lines_by page.line (page.number old.page.now) told)
      → BreaksOff set_of ShowsRun (Lines page output)
      (λ start now. LinesBreak page output start now fault) m e old next count
  lines_break next fault told count are up few same_page same_out is failed takes =
      record {
        told = told;
        up = up;
        few = few;
        are = are;
        breaks = λ start threads past shows l.
            let before = lines_by page.line 0 (replies (set_of m) threads past) in
            let more = lines_by page.line (page.number old.page.now) told in
            let gathered : Gathered (before ++ more) more (output.contents start.out.now)
            (output.contents old.out.now) (page.gathered start.page.now) (page.gathered old.page.now) =
            record { text = before; whole = refl; adds = l.adds } in
            record {
              same_page = same_page ∙ l.same_page;
              same_out = same_out ∙ l.same_out;
              is = is;
              failed = failed ∙ ap (λ k. k + failed_writes fault) l.fine;
              takes =
                  subst (λ x. TakesBeginning (output.contents start.out.now)
                  (output.contents next.out.now) (page.gathered start.page.now ++ x))
                  (sym (lines_more threads past told (are threads past shows) l.numbered))
                  (gathered_part _ _ more [] _ _ _ _ _ gathered (sym (append-nil more)) takes);
            };
      }

-- the lines of a run that was observed
module _ {L O : Type 0} (page : reply_lines.Ghosts L) (output : sink.Ghosts O)
    (Shown : ℕ → List Event → Type 0) (start now : LineWriter L O) (set : Set) (threads : ℕ)
    (events : List Event) where
  abbrev Observed_so : Result End Fault → Type 0
  Observed_so result =
      Observes Shown (Lines page output start now set)
      (λ fault. LinesBreak page output start now fault set) set threads events result

  abbrev all_replies : List Reply
  all_replies = shown_replies set (begun set threads) events

  abbrev IsRun : Answer → Type 0
  IsRun = IsTraceBy page.lacks page.line all_replies

  pub observed_page : (result : Result End Fault) → Observed_so result
      → now.page.ghost_name ≡ start.page.ghost_name
  observed_page (Ok end) (past, runs, shown, lines) = lines.same_page
  observed_page (Err fault) (past, some, broken) = broken.same_page

  pub observed_out : (result : Result End Fault) → Observed_so result
      → now.out.ghost_name ≡ start.out.ghost_name
  observed_out (Ok end) (past, runs, shown, lines) = lines.same_out
  observed_out (Err fault) (past, some, broken) = broken.same_out

  pub observed_room : (end : End) → Observed_so (Ok end)
      → output.failures now.out.now ≡ output.failures start.out.now
  observed_room end (past, runs, shown, lines) = lines.fine

  pub observed_failed : (fault : Fault) → Observed_so (Err fault)
      → output.failures now.out.now ≡ output.failures start.out.now + failed_writes fault
  observed_failed fault (past, some, broken) = broken.failed

  either : (fault : Fault) → Breaks page.lacks fault → (fault ≡ Write) ⊎ (fault ≡ Memory)
  either fault (inl is) = inl is
  either fault (inr (is, lacks)) = inr is

  pub observed_fault : (fault : Fault) → Observed_so (Err fault)
      → (fault ≡ Write) ⊎ (fault ≡ Memory)
  observed_fault fault (past, some, broken) = either fault broken.is

  -- all of them were added
  pub observed_told : page.gathered start.page.now ≡ [] → (end : End) → Observed_so (Ok end)
      → (text : List ℕ) × IsRun (ended end text)
      × Adds (output.contents start.out.now) (output.contents now.out.now) []
      (page.gathered now.page.now) text
  observed_told empty end (past, runs, shown, lines) =
      let told = replies set threads past in
      let text = lines_by page.line 0 told in
      let all : all_replies ≡ told = shown_past set threads events past end runs in (
        text,
        inl (ap (λ e. ended e text) runs.ends ∙ ap (λ rs. traced_by page.line rs) (sym all)),
        subst (λ l. Adds (output.contents start.out.now) (output.contents now.out.now) l
            (page.gathered now.page.now) text) empty lines.adds,
      )

  -- or the telling broke off: so much of them went out
  broken_takes : (past : List Event) (fault : Fault) → page.gathered start.page.now ≡ []
      → RunsBy set threads events past
      → LinesBreak page output start now fault set threads past
      → TakesBeginning (output.contents start.out.now) (output.contents now.out.now)
      (lines_by page.line 0 all_replies)
  broken_takes past fault empty (later, split) broken =
      let told = replies set threads past in
      let behind = replies_from set (run set threads past) later in
      let lines = lines_by page.line 0 told in
      let more = lines_by page.line (0 + length told) behind in
      let all : all_replies ≡ told ++ behind =
      shown_until set (begun set threads) events
      ∙ ap (λ (es : List Event). replies set threads es) split
      ∙ replies_on set (begun set threads) past later in
      let P : List ℕ → Type 0 =
      TakesBeginning (output.contents start.out.now) (output.contents now.out.now) in
      subst (λ l. P (l ++ lines_by page.line 0 all_replies)) empty
      (subst (λ x. P (page.gathered start.page.now ++ x))
      (sym (ap (λ rs. lines_by page.line 0 rs) all ∙ lines_on page.line 0 told behind))
      (subst P (append_assoc (page.gathered start.page.now) lines more)
      (begins_before _ _ _ _ broken.takes)))

  broken_streams : (fault : Fault) → Breaks page.lacks fault
      → TakesBeginning (output.contents start.out.now) (output.contents now.out.now)
      (lines_by page.line 0 all_replies)
      → Streams IsRun (output.contents start.out.now) (output.contents now.out.now) (Err fault)
  broken_streams fault (inl is) takes =
      let P : Fault → Type 0 = λ f. Streams IsRun (output.contents start.out.now)
      (output.contents now.out.now) (Err f) in
      subst P (sym is) (traced_by page.line all_replies, inl refl, takes)
  broken_streams fault (inr (is, lacks)) takes =
      let P : Fault → Type 0 = λ f. Streams IsRun (output.contents start.out.now)
      (output.contents now.out.now) (Err f) in
      let short : Answer =
      record { status = 3; output = takes.part; told = codes "out of memory\n" } in
      let says : IsOutOfMemory short = record { status = refl; says = refl } in
      let begins : IsBeginning (traced_by page.line all_replies) short =
      record { rest = takes.rest; split = takes.split; short = says } in
      subst P (sym is) (inr (short, inr (lacks, begins), says, takes.appended))

  pub observed_broken : page.gathered start.page.now ≡ [] → (fault : Fault)
      → Observed_so (Err fault)
      → Streams IsRun (output.contents start.out.now) (output.contents now.out.now) (Err fault)
  observed_broken empty fault (past, some, broken) =
      broken_streams fault broken.is (broken_takes past fault empty some broken)
