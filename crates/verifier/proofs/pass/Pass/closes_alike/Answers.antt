use Rattle.std.proofs.Common.{◌≡◌, ◌∙◌, ◌+◌, ◌<◌, false, None, Some, length, arith, refl, true, sym, subst, ap}
use Rattle.std.specs.Prelude.{slice_get}
use Rattle.model.specs.declared.instr.Instr.TheVariants.{End}
use Rattle.model.specs.Paths.{is_malformed}
use Rattle.model.specs.Typable.{ClosesAlike, ClosesUnlike}
use Rattle.verifier.specs.declared.loops.Place.{Place}
use Rattle.verifier.specs.Pass.{Progress}
use Rattle.verifier.specs.Table.{seen_of}
use Rattle.verifier.proofs.Nesting.{first_open}
use Rattle.verifier.proofs.Closing.{opened_read, here_read, alike_there, unlike_there, never_unopened, other_there, false_isnt_true}
use Rattle.verifier.proofs.Fields.{member_of, within_fields}
use Rattle.verifier.proofs.pass.Pass.closes_alike.Goals as goal

pub is_only-requires : goal.is_only-requires
is_only-requires c =
    let within : c.self.inside.at < length c.self.inside.routine.now.code =
    within_fields c.self.inside c.args.self.now c.self.view_is c.requires.within in
    let long : length c.self.inside.table ≡ length c.self.inside.routine.now.code + 1 =
    c.self.invariant.known.long in
    let low : c.in-Some.q < c.self.inside.at =
    (first_open c.self.inside.routine.now.code c.self.inside.at c.in-Some.q
    (opened_read c.self.inside.routine.now.code c.self.inside.places.items c.self.inside.at
    c.index.result.now (Some c.in-Some.q) c.self.invariant.placed within
    (ap (λ (place : Place). place.opened) (sym c.index.ensures) ∙ c.in-Some.is))).0
    in
    omega arith

pub returns-in-Some-clause-alike : goal.returns-in-Some-clause-alike
returns-in-Some-clause-alike c = λ yes.
    let within : c.self.inside.at < length c.self.inside.routine.now.code =
    within_fields c.self.inside c.args.self.now c.self.view_is c.requires.within in
    subst (λ (g : Progress). ClosesAlike g.member g.at c.args.state.now
    (slice_get g.member.routine.code g.at)) c.self.view_is
    (alike_there (member_of c.self.inside) c.self.inside.at c.in-Some.q
    (seen_of c.self.inside.arrivals c.self.inside.state) c.self.inside.table
    c.args.state.now c.self.invariant.known
    (here_read c.self.inside.routine.now.code c.as_slice.result.now c.self.inside.at _ End
    c.as_slice.ensures within c.in-End.is)
    (opened_read c.self.inside.routine.now.code c.self.inside.places.items c.self.inside.at
    c.index.result.now (Some c.in-Some.q) c.self.invariant.placed within
    (ap (λ (place : Place). place.opened) (sym c.index.ensures) ∙ c.in-Some.is))
    (c.is_only.ensures.0 yes))

pub returns-in-Some-clause-unlike : goal.returns-in-Some-clause-unlike
returns-in-Some-clause-unlike c = λ no.
    let within : c.self.inside.at < length c.self.inside.routine.now.code =
    within_fields c.self.inside c.args.self.now c.self.view_is c.requires.within in
    subst (λ (g : Progress). ClosesUnlike g.member g.at c.args.state.now
    (slice_get g.member.routine.code g.at)) c.self.view_is
    (unlike_there (member_of c.self.inside) c.self.inside.at c.in-Some.q
    (seen_of c.self.inside.arrivals c.self.inside.state) c.self.inside.table
    c.args.state.now c.self.invariant.known
    (here_read c.self.inside.routine.now.code c.as_slice.result.now c.self.inside.at _ End
    c.as_slice.ensures within c.in-End.is)
    (opened_read c.self.inside.routine.now.code c.self.inside.places.items c.self.inside.at
    c.index.result.now (Some c.in-Some.q) c.self.invariant.placed within
    (ap (λ (place : Place). place.opened) (sym c.index.ensures) ∙ c.in-Some.is))
    (λ entry. false_isnt_true c.is_only.result no (c.is_only.ensures.1 entry)))

pub returns-in-None-clause-unlike : goal.returns-in-None-clause-unlike
returns-in-None-clause-unlike c = λ no.
    let within : c.self.inside.at < length c.self.inside.routine.now.code =
    within_fields c.self.inside c.args.self.now c.self.view_is c.requires.within in
    absurd (never_unopened c.self.inside.routine.now.code c.self.inside.at
    (subst (λ (g : Progress). is_malformed g.member.routine.code g.at ≡ false) (sym c.self.view_is)
    c.requires.formed)
    (here_read c.self.inside.routine.now.code c.as_slice.result.now c.self.inside.at _ End
    c.as_slice.ensures within c.in-End.is)
    (opened_read c.self.inside.routine.now.code c.self.inside.places.items c.self.inside.at
    c.index.result.now None c.self.invariant.placed within
    (ap (λ (place : Place). place.opened) (sym c.index.ensures) ∙ c.in-None.is)))

pub returns-in_default : goal.returns-in_default
returns-in_default c = record {
  alike = λ holds.
      let within : c.self.inside.at < length c.self.inside.routine.now.code =
      within_fields c.self.inside c.args.self.now c.self.view_is c.requires.within in
      subst (λ (g : Progress). ClosesAlike g.member g.at c.args.state.now
      (slice_get g.member.routine.code g.at)) c.self.view_is
      (other_there (member_of c.self.inside) c.self.inside.at c.args.state.now _
      (here_read c.self.inside.routine.now.code c.as_slice.result.now c.self.inside.at _ _
      c.as_slice.ensures within refl)
      c.in_default.not-End);
  unlike = λ fails. absurd (false_isnt_true true fails refl);
}
