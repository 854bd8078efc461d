use Rattle.std.proofs.Common.{◌≡◌, ◌∙◌, ◌+◌, ◌++◌, [], ℕ, suc, ap, append_assoc, arith, option_map, option_to_list, refl, subst, sym}
use Rattle.std.proofs.lemmas.List.{append-nil}
use Rattle.verifier_words.specs.Faults.{AreOfRoutines}
use Rattle.verifier_words.proofs.telling.add_faults.Goals as goal

pub loop-place-init : goal.loop-place-init
loop-place-init c = ([], refl, sym (append-nil _))

pub loop-place-preserved : goal.loop-place-preserved
loop-place-preserved c =
    let before = c.loop-place.invariant in
    let found = option_map (λ told. told.refusal) c.in_ok-found.found in
    let own = before.0 ++ option_to_list found in
    let next : c.loop-place.place + 1 ≡ suc c.loop-place.place = omega arith in
    let Of : ℕ → Type 0 = λ n. AreOfRoutines c.args.set.now c.args.number n own in (
      own,
      subst Of (sym next) (before.0, found, before.1, c.in_ok-found.ensures, refl),
      c.in_ok-add_told.ensures ∙ ap (λ x. x ++ option_to_list found) before.2
          ∙ append_assoc _ before.0 (option_to_list found),
    )
