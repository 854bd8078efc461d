use Rattle.std.proofs.Common.{◌≡◌, ◌∙◌, ◌+◌, ◌*◌, ◌<◌, ◌≤◌, ℕ, suc, length, slice_index_or, arith, refl, sym, subst, ap}
use Rattle.model.specs.declared.abs.Rule.TheVariants.{TooLong}
use Rattle.model.specs.declared.limits.TheConstants.{MAX_CERTIFICATE, MAX_TURNS}
use Rattle.model.specs.Certificate.{certificate_to}
use Rattle.model.specs.LocalRule.{handed}
use Rattle.model.specs.Set.{flow_of}
use Rattle.model.specs.Typable.{IsFaultAt, IsFirstFaultOf}
use Rattle.verifier.specs.declared.seen.Seen.{Seen}
use Rattle.verifier.specs.Pass.{Progress}
use Rattle.verifier.specs.Table.{IsArrived, seen_of}
use Rattle.verifier.proofs.Closing.{here_read}
use Rattle.verifier.proofs.Fields.{member_of, within_fields, passed_fields, read_as}
use Rattle.verifier.proofs.Judging.{long_there}
use Rattle.verifier.proofs.Steps.{right_more, sum_next}
use Rattle.verifier.proofs.pass.Pass.step.Goals as goal

pub returns-in-Err-clause-fault : goal.returns-in-Err-clause-fault
returns-in-Err-clause-fault c =
    subst (λ (g : Progress). IsFirstFaultOf g.member g.at c.in-Err.rule) c.self.view_is
    (record {
      before = c.self.invariant.known.fine;
      fault = subst (λ (g : Progress). IsFaultAt g.member g.at c.in-Err.rule) (sym c.self.view_is)
          (c.in-Err.ensures {u = tt}).fault;
    })

pub overflow_add-sum : goal.overflow_add-sum
overflow_add-sum c =
    let long : length c.self.inside.sums.items ≡ length c.self.inside.routine.now.code + 1 =
    c.self.invariant.summed.long in
    let within : c.self.inside.at < length c.self.inside.routine.now.code =
    within_fields c.self.inside c.args.self.now c.self.view_is c.requires.within in
    let read : slice_index_or c.self.inside.sums.items c.self.inside.at 0 ≡ c.index.result.now =
    read_as c.self.inside.sums.items c.self.inside.at c.index.result.now c.index.result.now 0
    (omega arith) c.index.ensures refl
    in
    let told : slice_index_or c.self.inside.sums.items c.self.inside.at 0
    ≡ certificate_to c.self.inside.routine.now.code c.self.inside.at =
    c.self.invariant.summed.each c.self.inside.at (omega arith)
    in
    let short : certificate_to c.self.inside.routine.now.code c.self.inside.at ≤ MAX_CERTIFICATE =
    c.self.invariant.summed.short c.self.inside.at (omega arith) in
    let few : c.turns_at.result ≤ MAX_TURNS * MAX_CERTIFICATE = c.turns_at.ensures.few in
    omega arith

pub returns-then-sum-gt-MAX_CERTIFICATE-clause-fault
    : goal.returns-then-sum-gt-MAX_CERTIFICATE-clause-fault
returns-then-sum-gt-MAX_CERTIFICATE-clause-fault c =
    let long : length c.self.inside.sums.items ≡ length c.self.inside.routine.now.code + 1 =
    c.self.invariant.summed.long in
    let within : c.self.inside.at < length c.self.inside.routine.now.code =
    within_fields c.self.inside c.args.self.now c.self.view_is c.requires.within in
    let read : slice_index_or c.self.inside.sums.items c.self.inside.at 0 ≡ c.index.result.now =
    read_as c.self.inside.sums.items c.self.inside.at c.index.result.now c.index.result.now 0
    (omega arith) c.index.ensures refl
    in
    let told : slice_index_or c.self.inside.sums.items c.self.inside.at 0 + c.turns_at.result
    ≡ certificate_to c.self.inside.routine.now.code (suc c.self.inside.at) =
    sum_next c.self.inside.routine.now.code c.as_slice-code.result.now c.self.inside.sums.items
    c.self.inside.at c.turns_at.result c.self.invariant.summed
    c.as_slice-code.ensures c.turns_at.ensures.turns
    in
    let over : MAX_CERTIFICATE < c.index.result.now + c.turns_at.result =
    c.if-sum-gt-MAX_CERTIFICATE.true in
    subst (λ (g : Progress). IsFirstFaultOf g.member g.at TooLong) c.self.view_is
    (record {
      before = c.self.invariant.known.fine;
      fault = long_there (member_of c.self.inside) c.self.inside.at
          (passed_fields c.self.inside c.args.self.now c.self.view_is
          (c.in-Ok.ensures {u = tt}).passed) within
          (subst (λ (n : ℕ). MAX_CERTIFICATE < n) (ap (λ (n : ℕ). n + c.turns_at.result) (sym read)
          ∙ told) over);
    })

pub invariant_of-self : goal.invariant_of-self
invariant_of-self c =
    let long : length c.self.inside.sums.items ≡ length c.self.inside.routine.now.code + 1 =
    c.self.invariant.summed.long in
    let within : c.self.inside.at < length c.self.inside.routine.now.code =
    within_fields c.self.inside c.args.self.now c.self.view_is c.requires.within in
    let read : slice_index_or c.self.inside.sums.items c.self.inside.at 0 ≡ c.index.result.now =
    read_as c.self.inside.sums.items c.self.inside.at c.index.result.now c.index.result.now 0
    (omega arith) c.index.ensures refl
    in
    let told : slice_index_or c.self.inside.sums.items c.self.inside.at 0 + c.turns_at.result
    ≡ certificate_to c.self.inside.routine.now.code (suc c.self.inside.at) =
    sum_next c.self.inside.routine.now.code c.as_slice-code.result.now c.self.inside.sums.items
    c.self.inside.at c.turns_at.result c.self.invariant.summed
    c.as_slice-code.ensures c.turns_at.ensures.turns
    in
    let short : c.index.result.now + c.turns_at.result ≤ MAX_CERTIFICATE =
    c.if-sum-gt-MAX_CERTIFICATE.false in
    right_more (member_of c.self.inside) c.self.inside.at c.index-code-self.result
    c.self.inside.arrivals c.arrive-self-inside.result c.self.inside.state
    c.arrive-self-inside.new.state c.self.inside.places.items c.self.inside.table
    c.keep.new.table c.self.inside.sums.items
    (c.index.result.now + c.turns_at.result) c.self.invariant within
    (passed_fields c.self.inside c.args.self.now c.self.view_is (c.in-Ok.ensures {u = tt}).passed)
    (here_read c.self.inside.routine.now.code c.as_slice-code.result.now c.self.inside.at _
    c.index-code-self.result c.as_slice-code.ensures within
    (sym c.index-code-self.is))
    c.keep.ensures
    (subst (λ (seen : Seen). IsArrived (flow_of c.index-code-self.result)
    (handed c.self.inside.set.now c.self.inside.driver c.self.inside.state
    c.index-code-self.result) seen
    (seen_of c.arrive-self-inside.result c.arrive-self-inside.new.state))
    c.at-there.ensures c.arrive-self-inside.ensures)
    (ap (λ (n : ℕ). n + c.turns_at.result) (sym read) ∙ told)
    short
