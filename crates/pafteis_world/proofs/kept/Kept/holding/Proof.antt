-- `holding` takes what is left of a box, and holds its pointer.
use Rattle.std.proofs.Common.{◌≡◌, List, [], ◌∷◌, ◌++◌, true, refl, sym, subst}
use mir.Val.{Val, vptr, vbool, vstruct, of_list}
use base.Logic.{SProp, ent, emp, id⊢}
use base.Fml.{ftrue}
use prog.Wp.{WpFn}
use contract.Monad.{fact, fact_i}
use contract.Running.{tables}
use types.Kit.{‵, raw, ◌⊛◌, ◌$◌, ◌∵◌, !, qed, by, move, split, join, fsplit, keep, use0, fjoin, fpack, feq_i, suffices}
use types.Part.{agg, sub, whole}
use types.Run.{no_more, and_then, enter, returns, true_lit, of_opd, fld, stop}
use types.ByLocal.{alloc_all, pass_all, free_all, look_at, sets, get, get_in}
use denote.Builtin.{bool, RawPtr}
use denote.Exit.{yes}
use denote.Plain.{bool_vals}
use denote.RattleType.{RattleType, Valss, owns}
use denote.RawPtr.{block_ptr, rawptr_vals}
use denote.Signature.{types_at, plain}
use denote.Steps.{nothing}
use denote.Struct.Struct.{within}
use denote.Struct.Owning.{shape}
use denote.Triple.Walked.{Stays, walk_of, stay_dropped, Goes-dropped}
use Rattle.std.proofs.raw_atomic.Walks.{proved_at, leaves}
use Rattle.pafteis_world.specs.contracts.kept.Bytes as bytes
use Rattle.std.specs.contracts.alloc.Global as heap
use Rattle.std.proofs.alloc.Global.TheLaws as heap_laws
use Rattle.std.specs.contracts.impls.GlobalAllocator.TheImpl.{ghosts}
use Rattle.pafteis_world.proofs.LooseValues.{Loose, both, loose_good, loose_out}
use Rattle.pafteis_world.specs.contracts.kept.Kept as h
use Rattle.pafteis_world.specs.contracts.kept.Kept.holding as f
use Rattle.pafteis_world.proofs.kept.Kept.holding.Statement.{statement}
use Rattle.pafteis_world.proofs.kept.Kept.holding.Code as code

abbrev R : RattleType
R = bytes.the_row

abbrev Z : RattleType
Z = heap.the_row

abbrev P : RattleType
P = Loose R Z heap_laws.the_row_laws ghosts

abbrev stayed : Stays f.ended.signature.params f.ended.kept
stayed = (stay_dropped (plain (λ _. P)) yes, tt)

pub holding_spec : {M : Type 1} → statement M
holding_spec 𝓤 𝓛 𝓜 𝓡 wired =
    let c = f.clauses 𝓛 𝓜.mem 𝓡.returns in let H = 𝓛.H in let 𝓣 = tables 𝓤 H 𝓜 𝓡 𝓡.env in let LZ = heap_laws.the_row_laws in
    proved_at 𝓛 f.ended stayed c 𝓜 𝓡 (Goes-dropped 𝓛 0 (plain (λ _. P)) yes (λ κs x w. refl), tt)
    f.Key.name code.function (code.unfolded 𝓤 𝓛.H 𝓜 𝓡 wired) (λ z are.
    let v = z.0.3.0 in let Post : Val → SProp 𝓤 = (walk_of 𝓛 f.ended stayed c).post z in let Run : List Val → SProp 𝓤 = λ ws. WpFn 𝓤 H 𝓣.C 𝓣.Λ code.function ws Post in
    qed 𝓛 ((‵ ftrue ⊛ ‵ (owns (types_at f.signature.params z.0.0) z.0.3 z.0.4)) ∷ ‵ ftrue ∷ []) ∵ split ! $ move ! (1 ∷ []) $ fsplit ! $
    loose_out R Z LZ ghosts ! v z.0.4.0 (λ b o a e ws fits.
    let w : Val = both (vptr b o) a in let typed = loose_good R Z LZ ghosts b o a fits in
    let made : Val = vstruct (of_list (vbool true ∷ vptr b o ∷ [])) in
    suffices ! (Run (w ∷ [])) (subst (λ (us : List Val). ent 𝓤 (Run (w ∷ [])) (Run us)) (sym (λ i. ws i ++ [])) (id⊢ 𝓤 (Run (w ∷ [])))) $
    enter ! 𝓣.C 𝓣.Λ code.function (w ∷ []) Post $ alloc_all ! (λ l. pass_all ! refl (typed, tt) $
    sets ! (of_opd ! (get_in ! (fld ! refl (stop !)) (sub ! 0 refl (whole !)))) refl (tt, tt) $
    sets ! (of_opd ! (get ! refl)) refl (tt, tt) $
    sets ! (agg ! (and_then ! (true_lit !) (and_then ! (get ! refl) (no_more !)))) refl (tt, (tt, (tt, tt))) $
    nothing ! $ feq_i ! (List Val) (rawptr_vals (block_ptr b o)) (rawptr_vals (block_ptr b o)) refl $ fjoin ! $
    feq_i ! (List Val) (bool_vals true) (bool_vals true) refl $ fjoin ! $
    feq_i ! (List Val) (made ∷ []) (made ∷ []) refl $ fjoin ! $
    fpack ! (Valss (bool ∷ RawPtr ∷ [])) (within (shape h.the_type) (true, (block_ptr b o, tt)) (made ∷ [])) (bool_vals true, (rawptr_vals (block_ptr b o), tt)) $ fjoin ! $
    use0 𝓛 (raw (fact 𝓤 (v.value ≡ v.value))) (fact_i 𝓤 (v.value ≡ v.value) (emp 𝓤) refl) $
    use0 𝓛 (raw (fact 𝓤 (true ≡ true))) (fact_i 𝓤 (true ≡ true) (emp 𝓤) refl) $ join ! $
    nothing ! $ nothing ! $ fjoin ! $ nothing ! $
    returns ! (look_at ! 0 refl) $ free_all ! refl $ keep ! (0 ∷ 1 ∷ 3 ∷ 2 ∷ []) $
    by ! (leaves 𝓛 f.ended stayed c z made (record { live = true; at = block_ptr b o; bytes = v.value }) (tt, tt) (tt, tt)))))
