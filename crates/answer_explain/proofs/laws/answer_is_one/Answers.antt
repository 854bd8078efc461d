use Rattle.answer_explain.proofs.One.{check_once, list_once, rewrite_once, trace_once}
use Rattle.answer_explain.proofs.laws.answer_is_one.Goals as goal

pub returns-clause-check : goal.returns-clause-check
returns-clause-check c = λ set one other.
    check_once c.bytes_spell_one.ensures c.images_are_faultless.ensures c.fault_is_one.ensures
    c.first_fault_is_one.ensures.one c.first_fault_is_one.ensures.none set one other

pub returns-clause-trace : goal.returns-clause-trace
returns-clause-trace c = λ v set schedule one other.
    trace_once c.bytes_spell_one.ensures c.images_are_faultless.ensures c.fault_is_one.ensures
    c.first_fault_is_one.ensures.one c.first_fault_is_one.ensures.none v set schedule one other

pub returns-clause-list : goal.returns-clause-list
returns-clause-list c = λ set one other.
    list_once c.bytes_spell_one.ensures c.images_are_faultless.ensures c.fault_is_one.ensures set one
    other

pub returns-clause-rewrite : goal.returns-clause-rewrite
returns-clause-rewrite c = λ set one other.
    rewrite_once c.bytes_spell_one.ensures c.images_are_faultless.ensures c.fault_is_one.ensures set one
    other
