-- How the lines of replies that are told together are added.
use Rattle.std.proofs.Common.{◌≡◌, ◌∙◌, ℕ, ◌+◌, List, [], ◌++◌, Option, replicate, refl, sym, ap, append_assoc}
use Rattle.std.proofs.lemmas.List.{append-nil, length-replicate}
use Rattle.model.specs.declared.event.Reply.{Reply}
use Rattle.model.specs.declared.event.Reply.TheVariants.{Stepped}
use Rattle.drvhost_devices.specs.Device.{Adds, TakesBeginning}
use Rattle.drvhost_devices.proofs.Writing.{Gathered, adds_more, begins_before, gathered_part}
use Rattle.answer_runs.specs.declared.running.Replies.{Replies}
use Rattle.answer_runs.specs.Repeats.{told_by}
use Rattle.answer_runs.specs.Traced.{lines_by}
use Rattle.answer_runs.proofs.Following.{lines_on}

module _ (line : ℕ → Reply → List ℕ) where
  -- the lines of what is told together
  pub lines_told : (number : ℕ) (r : Replies) → lines_by line number (told_by r)
      ≡ lines_by line number (replicate r.stepped Stepped)
      ++ lines_by line (number + r.stepped) (replicate r.times r.last)
  lines_told number r =
      lines_on line number (replicate r.stepped Stepped) (replicate r.times r.last)
      ∙ ap (λ k. lines_by line number (replicate r.stepped Stepped)
      ++ lines_by line (number + k) (replicate r.times r.last))
      (length-replicate r.stepped Stepped)

  pub told_added : (number next : ℕ) (r : Replies) (b m n : Option (List ℕ)) (g l k : List ℕ)
      → next ≡ number + r.stepped
      → Adds b m g l (lines_by line number (replicate r.stepped Stepped))
      → Adds m n l k (lines_by line next (replicate r.times r.last))
      → Adds b n g k (lines_by line number (told_by r))
  told_added number next r b m n g l k is first second =
      rw (lines_told number r, sym is) (adds_more _ _ _ _ _ _ _ _ first second)

  pub told_breaks : (number next : ℕ) (r : Replies) (b m n : Option (List ℕ)) (g l : List ℕ)
      → next ≡ number + r.stepped
      → Adds b m g l (lines_by line number (replicate r.stepped Stepped))
      → TakesBeginning m n (l ++ lines_by line next (replicate r.times r.last))
      → TakesBeginning b n (g ++ lines_by line number (told_by r))
  told_breaks number next r b m n g l is first second =
      let steps = lines_by line number (replicate r.stepped Stepped) in
      let others = lines_by line next (replicate r.times r.last) in
      let gathered : Gathered (steps ++ others) others b m g l =
      record { text = steps; whole = refl; adds = first } in
      rw (lines_told number r, sym is)
      (gathered_part _ _ others [] _ _ _ _ _ gathered (sym (append-nil others)) second)

  pub steps_break : (number : ℕ) (r : Replies) (b n : Option (List ℕ)) (g : List ℕ)
      → TakesBeginning b n (g ++ lines_by line number (replicate r.stepped Stepped))
      → TakesBeginning b n (g ++ lines_by line number (told_by r))
  steps_break number r b n g p =
      rw (
        lines_told number r,
        sym (append_assoc g
            (lines_by line number (replicate r.stepped Stepped))
            (lines_by line (number + r.stepped) (replicate r.times r.last))),
      )
      (begins_before _ _ _ _ p)
