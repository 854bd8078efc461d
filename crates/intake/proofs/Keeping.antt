-- What submitters and takers keep of their passes stays kept.
use Rattle.std.proofs.Common.{◌≡◌, ℕ, ◌+◌, ◌<◌, ⊎_elim, List, [], ◌∷◌, ◌++◌, length, sym, ap, ◌∙◌, subst, length-append}
use Rattle.std.proofs.lemmas.List.Quantifiers.{all_pairs_push}
use Rattle.crossbeam_queue.specs.Passes.{IsSamePass}
use Rattle.model.specs.declared.history.Name.{Name}
use Rattle.model.specs.History.{NamedCommand}
use Rattle.intake.specs.Kept.{KeepsSubmitter, KeepsTaker, Known, known}
use Rattle.intake.specs.declared.rule.Hand.{Hand}
use Rattle.intake.specs.Lists.{IsEarlier, IsInOrder, IsNumbered, name_of}
use Rattle.intake.specs.Rule.{Put, Take}
use Rattle.intake.proofs.Lists.{get_push}

numbered_push : (number : ℕ) (put : List NamedCommand) (x : NamedCommand) → IsNumbered number put
    → x.name ≡ name_of number (length put) → IsNumbered number (put ++ x ∷ [])
numbered_push number put x numbered named i y e =
    ⊎_elim (λ h. numbered i y h)
    (λ (h : (i ≡ length put) × (x ≡ y)).
    sym (ap (λ (z : NamedCommand). z.name) h.1) ∙ named ∙ ap (name_of number) (sym h.0))
    (get_push put x y i e)

-- a submitter whose pass put the command of the desk's last pair
pub put_kept : (next later : Name) (pass after : Known) (x : NamedCommand)
    → KeepsSubmitter next pass → IsSamePass pass after → Put (known pass) x (known after)
    → x.name ≡ next → later ≡ record next { count = next.count + 1 } → KeepsSubmitter later after
put_kept next later pass after x kept same put named counted =
    let v = known pass in
    let named_next : x.name ≡ name_of v.number (length v.put) = named ∙ kept.next_name in
    let long : length (v.put ++ x ∷ []) ≡ length v.put + 1 = length-append v.put (x ∷ []) in
    let grown : later ≡ name_of v.number (length v.put + 1) =
    counted ∙ ap (λ (n : Name). record n { count = n.count + 1 }) kept.next_name in
    record {
      home = same.2 ∙ kept.home;
      some_share = subst (λ w. 0 < w.shares) (sym put) kept.some_share;
      taken = ap (λ w. w.taken) put ∙ kept.taken;
      next_name = grown ∙ ap (name_of v.number) (sym long)
          ∙ sym (ap (λ w. name_of w.number (length w.put)) put);
      numbered = subst (λ (w : Hand). IsNumbered w.number w.put) (sym put)
          (numbered_push v.number v.put x kept.numbered named_next);
    }

pub numbered_kept : (next : Name) (pass : Known) → KeepsSubmitter next pass
    → IsNumbered next.submitter (known pass).put
numbered_kept next pass kept =
    subst (λ n. IsNumbered n (known pass).put) (sym (ap (λ (n : Name). n.submitter) kept.next_name))
    kept.numbered

-- a taker whose pass took a command
pub took_kept : (pass after : Known) (x : NamedCommand) → KeepsTaker pass → IsSamePass pass after
    → Take (known pass) x (known after) → KeepsTaker after
took_kept pass after x kept same took =
    let v = known pass in
    record {
      home = same.2 ∙ kept.home;
      some_share = subst (λ w. 0 < w.shares) (sym took.0) kept.some_share;
      put = ap (λ w. w.put) took.0 ∙ kept.put;
      in_order = subst IsInOrder (sym (ap (λ w. w.taken) took.0))
          (all_pairs_push IsEarlier v.taken x kept.in_order took.1);
    }
