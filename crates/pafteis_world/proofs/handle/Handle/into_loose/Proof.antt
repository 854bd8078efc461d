-- `into_loose` gives up the pointer, with what it owns, if there is something.
use Rattle.std.proofs.Common.{◌≡◌, ◌∙◌, Bool, List, [], ◌∷◌, ◌++◌, true, false, refl, sym, ap, subst, lit<, inl, inr}
use Rattle.std.proofs.lemmas.Bool.{cases_Bool, false≢true}
use mir.Raw.{raw as bare}
use mir.Val.{Val, vcons, vnil, vptr, vbool, vstruct, of_list}
use base.Logic.{SProp, ent, emp, id⊢, fst∗, never}
use base.Fml.{ftrue}
use prog.Wp.{WpFn}
use contract.Monad.{fact, fact_i}
use contract.Running.{tables}
use types.Kit.{‵, raw, ◌⊛◌, at_ret, ◌$◌, ◌∵◌, !, qed, by, move, drop, split, join, fsplit, fpick, feq_l, keep, use0, use1, fjoin, rewrite, suffices}
use types.Logic.{sem}
use types.Match.{live}
use types.Part.{agg, sub, whole}
use types.Run.{no_more, and_then, enter, returns, returns_within, lit, of_opd, fld, stop, first, branches, skips, exec}
use types.ByLocal.{alloc_all, pass_all, free_all, look_at, sets, get, get_in, env}
use denote.Exit.{yes}
use denote.Memory.{lone}
use denote.Param.{layout}
use denote.RattleType.{RattleType, owns}
use denote.RawPtr.{Ptr, block_ptr, null_ptr, ptr_val, in_a_block}
use denote.Signature.{types_at, type_at, plain}
use denote.Steps.{nothing}
use denote.Triple.Walked.{Stays, walk_of, stay_dropped, Goes-dropped}
use Rattle.core.proofs.atomic.Steps.{Ptr-Good}
use Rattle.core.proofs.cell.Inside.{Good, one}
use Rattle.core.proofs.option.Made.{Some-of, none_of}
use Rattle.core.specs.declared.option.Option.{Option}
use Rattle.core.specs.declared.option.Option.TheVariants.{None, Some}
use Rattle.std.proofs.raw_atomic.Walks.{proved_at, leaves}
use Rattle.std.proofs.Common.{IsSome, IfSome}
use Rattle.std_alloc.proofs.ResultValues.{and_tt}
use Rattle.std_alloc.specs.Box.Ownership.{box_owns}
use Rattle.machine.specs.contracts.world.World as world
use Rattle.std.specs.contracts.alloc.Global as heap
use Rattle.std.proofs.alloc.Global.TheLaws as heap_laws
use Rattle.std.specs.contracts.impls.GlobalAllocator.TheImpl.{ghosts}
use Rattle.pafteis_world.specs.Held.{holds, the_heap}
use Rattle.pafteis_world.proofs.LooseValues.{Loose, both, loose_good, loose_in}
use Rattle.pafteis_world.specs.contracts.handle.Handle as h
use Rattle.pafteis_world.specs.contracts.handle.Handle.into_loose as f
use Rattle.pafteis_world.proofs.handle.Handle.into_loose.Statement.{statement}
use Rattle.pafteis_world.proofs.handle.Handle.into_loose.Code as code

abbrev R : RattleType
R = world.the_row

abbrev Z : RattleType
Z = heap.the_row

abbrev L : RattleType
L = Loose R Z heap_laws.the_row_laws ghosts

abbrev stayed : Stays f.ended.signature.params f.ended.kept
stayed = (stay_dropped (plain (λ _. h.the_row)) yes, (stay_dropped (plain (λ _. Z)) yes, tt))

abbrev absent : Option L.Denot
absent = None

abbrev word : Bool → Ptr → Val
word b p = vstruct (of_list (vbool b ∷ ptr_val p ∷ []))

pub into_loose_spec : {M : Type 1} → statement M
into_loose_spec 𝓤 𝓛 𝓜 𝓡 wired =
    let c = f.clauses 𝓛 𝓜.mem 𝓡.returns in let H = 𝓛.H in let 𝓣 = tables 𝓤 H 𝓜 𝓡 𝓡.env in let LZ = heap_laws.the_row_laws in let fn = code.function in
    proved_at 𝓛 f.ended stayed c 𝓜 𝓡 (Goes-dropped 𝓛 0 (plain (λ _. h.the_row)) yes (λ κs x w. refl), (Goes-dropped 𝓛 0 (plain (λ _. Z)) yes (λ κs x w. refl), tt))
    f.Key.name fn (code.unfolded 𝓤 𝓛.H 𝓜 𝓡 wired) (λ z are.
    let d = z.0.3.0 in let a = z.0.3.1.0 in let Out : RattleType = type_at f.signature.result z.0.0 in
    let Post : Val → SProp 𝓤 = (walk_of 𝓛 f.ended stayed c).post z in let Run : List Val → SProp 𝓤 = λ ws. WpFn 𝓤 H 𝓣.C 𝓣.Λ fn ws Post in
    let hv = one (layout Z) z.0.4.1.0 ((LZ.lawful 𝓛).typed a z.0.4.1.0 are.1.0) in let n : Val = hv.0 in
    qed 𝓛 ((‵ ftrue ⊛ ‵ (owns (types_at f.signature.params z.0.0) z.0.3 z.0.4)) ∷ ‵ ftrue ∷ []) ∵ split ! $ move ! (1 ∷ []) $ fsplit ! $
    fsplit ! $ fpick ! (λ vss. fsplit ! $ feq_l ! (λ ev. fsplit ! $ feq_l ! (λ eb. fsplit ! $ feq_l ! (λ ep. drop ! $
    move ! (1 ∷ []) $ fsplit ! $ rewrite ! 0 (λ (us : List Val). ‵ (Z.own_val a us)) hv.1 refl $ move ! (2 ∷ 0 ∷ []) $
    -- [what the handle owns; the allocator; nothing; the tokens; nothing]
    let is : z.0.4.0 ≡ word d.live d.at ∷ [] = ev ∙ (λ i. vstruct (of_list (eb i ++ (ep i ++ []))) ∷ []) in
    elim (cases_Bool d.live) [
      | inl e ↦
          rewrite ! 0 (λ (b : Bool). ‵ (holds R b d.at d.world)) e refl $
          in_a_block ! d.at (λ p. box_owns (ghosts.dealloc_token the_heap) R p d.world) (fst∗ 𝓤 (never 𝓤) (sem 𝓛 (ghosts.dealloc_token the_heap (bare (lone R.mir)) null_ptr))) (λ b o at.
          let w : Val = word true (block_ptr b o) in let made : Val = both (vptr b o) n in let typed = loose_good R Z LZ ghosts b o n hv.2 in
          let r : L.Denot = record { at = block_ptr b o; alloc = a; value = d.world } in let v : Val = live 1 (vcons made vnil) in
          let good : Good (layout Out) v = (and_tt _ typed.0, (record { fits = lit< tt }, (typed.1, tt))) in
          let ws : z.0.4.0 ≡ w ∷ [] = is ∙ ap (λ (x : Bool). word x d.at ∷ []) e ∙ ap (λ (p : Ptr). word true p ∷ []) at in
          suffices ! (Run (w ∷ n ∷ [])) (subst (λ (us : List Val). ent 𝓤 (Run (w ∷ n ∷ [])) (Run us)) (sym (λ i. ws i ++ (hv.1 i ++ []))) (id⊢ 𝓤 (Run (w ∷ n ∷ [])))) $
          enter ! 𝓣.C 𝓣.Λ fn (w ∷ n ∷ []) Post $ alloc_all ! (λ l. pass_all ! refl ((tt, (tt, (tt, tt))), (hv.2, tt)) $
          sets ! (of_opd ! (get_in ! (fld ! refl (stop !)) (sub ! 0 refl (whole !)))) refl (tt, tt) $
          sets ! (of_opd ! (get_in ! (fld ! refl (stop !)) (sub ! 1 refl (whole !)))) refl (tt, tt) $
          sets ! (of_opd ! (get ! refl)) refl (tt, tt) $
          first ! $ branches ! (get ! refl) (λ _.
          sets ! (of_opd ! (get ! refl)) refl (tt, tt) $
          sets ! (agg ! (and_then ! (get ! refl) (and_then ! (get ! refl) (no_more !)))) refl typed $
          sets ! (agg ! (and_then ! (lit ! tt) (and_then ! (get ! refl) (no_more !)))) refl good $
          loose_in R Z LZ ghosts ! b o n a d.world $ use1 𝓛 (‵ (Out.own_val (Some r) (v ∷ []))) (Some-of 𝓛 L r made) $
          use0 𝓛 (raw (fact 𝓤 (d.world ≡ d.world))) (fact_i 𝓤 (d.world ≡ d.world) (emp 𝓤) refl) $
          use0 𝓛 (raw (fact 𝓤 (d.live ≡ true → IsSome (Some r)))) (fact_i 𝓤 (d.live ≡ true → IsSome (Some r)) (emp 𝓤) (λ _. refl)) $ join ! $
          use0 𝓛 (raw (fact 𝓤 (d.live ≡ false → Some r ≡ None))) (fact_i 𝓤 (d.live ≡ false → Some r ≡ None) (emp 𝓤) (λ no. absurd (false≢true (sym no ∙ e)))) $ join ! $
          nothing ! $ nothing ! $ fjoin ! $ nothing ! $ fjoin ! $ nothing ! $
          returns_within ! Post refl (look_at ! 0 refl) $ free_all ! refl $ keep ! (0 ∷ 1 ∷ 3 ∷ 2 ∷ []) $
          by ! (leaves 𝓛 f.ended stayed c z v (Some r) (tt, (tt, tt)) (tt, (tt, tt)))) (λ wrong. absurd wrong)))
      | inr e ↦
          rewrite ! 0 (λ (b : Bool). ‵ (holds R b d.at d.world)) e refl $
          let w : Val = word false d.at in let fine = Ptr-Good d.at in let v : Val = live 0 vnil in
          let ws : z.0.4.0 ≡ w ∷ [] = is ∙ ap (λ (x : Bool). word x d.at ∷ []) e in
          suffices ! (Run (w ∷ n ∷ [])) (subst (λ (us : List Val). ent 𝓤 (Run (w ∷ n ∷ [])) (Run us)) (sym (λ i. ws i ++ (hv.1 i ++ []))) (id⊢ 𝓤 (Run (w ∷ n ∷ [])))) $
          enter ! 𝓣.C 𝓣.Λ fn (w ∷ n ∷ []) Post $ alloc_all ! (λ l. pass_all ! refl ((and_tt _ fine.0, (tt, (fine.1, tt))), (hv.2, tt)) $
          sets ! (of_opd ! (get_in ! (fld ! refl (stop !)) (sub ! 0 refl (whole !)))) refl (tt, tt) $
          sets ! (of_opd ! (get_in ! (fld ! refl (stop !)) (sub ! 1 refl (whole !)))) refl fine $
          sets ! (of_opd ! (get ! refl)) refl (tt, tt) $
          first ! $ branches ! (get ! refl) (λ wrong. absurd wrong) (λ _.
          skips ! $ exec ! 𝓣.C 𝓣.Λ (env code.Mir.locals l) code.Mir.t-5 (at_ret _ Post) $
          sets ! (agg ! (and_then ! (lit ! tt) (no_more !))) refl (tt, (record { fits = lit< tt }, tt)) $
          use0 𝓛 (‵ (Out.own_val None (v ∷ []))) (none_of 𝓛 L) $
          use0 𝓛 (raw (fact 𝓤 (IfSome {T = L.Denot} None (λ loose. loose.value ≡ d.world)))) (fact_i 𝓤 (IfSome {T = L.Denot} None (λ loose. loose.value ≡ d.world)) (emp 𝓤) tt) $
          use0 𝓛 (raw (fact 𝓤 (d.live ≡ true → IsSome {T = L.Denot} None))) (fact_i 𝓤 (d.live ≡ true → IsSome {T = L.Denot} None) (emp 𝓤) (λ on. sym e ∙ on)) $ join ! $
          use0 𝓛 (raw (fact 𝓤 (d.live ≡ false → absent ≡ absent))) (fact_i 𝓤 (d.live ≡ false → absent ≡ absent) (emp 𝓤) (λ _. refl)) $ join ! $
          nothing ! $ nothing ! $ fjoin ! $ nothing ! $ fjoin ! $ nothing ! $
          returns ! (look_at ! 0 refl) $ free_all ! refl $ keep ! (0 ∷ 1 ∷ 3 ∷ 2 ∷ []) $
          by ! (leaves 𝓛 f.ended stayed c z v None (tt, (tt, tt)) (tt, (tt, tt)))))
    ])))))
