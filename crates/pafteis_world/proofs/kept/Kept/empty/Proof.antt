-- `empty` makes the struct, which owns nothing but itself.
use Rattle.std.proofs.Common.{◌≡◌, List, [], ◌∷◌, false, refl, lit<, w64}
use mir.Val.{Val, vint, vbool, vstruct, of_list}
use base.Logic.{emp}
use base.Fml.{ftrue}
use contract.Monad.{fact, fact_i}
use types.Kit.{‵, raw, ◌⊛◌, ◌$◌, ◌∵◌, !, qed, by, drop, keep, use0, fjoin, fpack, feq_i}
use types.Part.{agg}
use types.Run.{lit, no_more, and_then, enter, returns, false_lit}
use types.ByLocal.{alloc_all, pass_all, free_all, look_at, sets}
use denote.Builtin.{bool, RawPtr}
use denote.Plain.{bool_vals}
use denote.RattleType.{Valss}
use denote.RawPtr.{null_ptr, rawptr_vals}
use denote.Steps.{nothing}
use denote.Struct.Struct.{within}
use denote.Struct.Owning.{shape}
use denote.Triple.Walked.{Stays, walk_of}
use Rattle.std.proofs.raw_atomic.Walks.{proved, leaves}
use Rattle.pafteis_world.specs.contracts.kept.Kept as h
use Rattle.pafteis_world.specs.contracts.kept.Kept.empty as f
use Rattle.pafteis_world.proofs.kept.Kept.empty.Statement.{statement}
use Rattle.pafteis_world.proofs.kept.Kept.empty.Code as code

abbrev stayed : Stays f.ended.signature.params f.ended.kept
stayed = tt

pub empty_spec : {M : Type 1} → statement M
empty_spec 𝓤 𝓛 𝓜 𝓡 wired =
    let c = f.clauses 𝓛 𝓜.mem 𝓡.returns in let W = walk_of 𝓛 f.ended stayed c in
    proved 𝓛 f.ended stayed c 𝓜 𝓡 tt
    f.Key.name code.function (code.unfolded 𝓤 𝓛.H 𝓜 𝓡 wired)
    (λ κs. tt) (λ κs. tt) (λ κs qs bounds a g are.
    let y : W.Ghost = ((κs, qs, bounds, a, tt), g) in
    let v : Val = vstruct (of_list (vbool false ∷ vint w64 0 ∷ [])) in
    qed 𝓛 ((‵ ftrue ⊛ ‵ ftrue) ∷ ‵ ftrue ∷ []) ∵ drop ! $ drop ! $
    enter ! _ _ _ _ _ $ alloc_all ! (λ l. pass_all ! refl tt $
    sets ! (agg ! (and_then ! (false_lit !) (and_then ! (lit ! tt) (no_more !)))) refl (tt, (tt, (record { fits = lit< tt }, tt))) $
    nothing ! $ nothing ! $ feq_i ! (List Val) (rawptr_vals null_ptr) (rawptr_vals null_ptr) refl $ fjoin ! $
    feq_i ! (List Val) (bool_vals false) (bool_vals false) refl $ fjoin ! $
    feq_i ! (List Val) (v ∷ []) (v ∷ []) refl $ fjoin ! $
    fpack ! (Valss (bool ∷ RawPtr ∷ [])) (within (shape h.the_type) (false, (null_ptr, tt)) (v ∷ [])) (bool_vals false, (rawptr_vals null_ptr, tt)) $ fjoin ! $
    use0 𝓛 (raw (fact 𝓤 (false ≡ false))) (fact_i 𝓤 (false ≡ false) (emp 𝓤) refl) $ nothing ! $ nothing ! $
    returns ! (look_at ! 0 refl) $ free_all ! refl $ keep ! (0 ∷ 1 ∷ 3 ∷ 2 ∷ []) $
    by ! (leaves 𝓛 f.ended stayed c y v (record { live = false; at = null_ptr; bytes = [] }) tt tt)))
