-- What the instructions that name nothing are, wherever they are kept.
use Rattle.std.proofs.Common.{◌≡◌, ℕ, true, List, [], ◌∷◌, ◌++◌, Option, None, Some, refl, ◌∙◌, ap, append-nil}
use Rattle.std.specs.Prelude.{map}
use Rattle.std.proofs.lemmas.List.{map_push}
use Rattle.model.specs.declared.instr.Instr.{Instr}
use Rattle.model.specs.declared.instr.Instr.TheVariants.{Jump, Insert}
use Rattle.asm.specs.declared.draft.Linked.{Linked}
use Rattle.asm.specs.declared.draft.Step.{Step}
use Rattle.asm.specs.Bare.{bare_link, bare_step, is_bare, is_nameless, AreBare, AreNameless}
use Rattle.asm.specs.Outline.{Outline, called, earliest, missed_from, label_resolved, with_label, with_queue, with_routine}

pub one_more_bare : (is : List Instr) (i : Instr) → AreBare is → is_bare i ≡ true
    → AreBare (is ++ i ∷ [])
one_more_bare [] i all bare = (bare, all)
one_more_bare (j ∷ is) i all bare = (all.0, one_more_bare is i all.1 bare)

-- one that names nothing is read behind others that don't
pub bare_pushed : (is : List Instr) (rest : List Step) (i : Instr) → rest ≡ []
    → map bare_step (is ++ i ∷ []) ++ rest ≡ (map bare_step is ++ rest) ++ bare_step i ∷ []
bare_pushed is rest i none =
    rw (
      none,
      map_push bare_step is i,
      append-nil (map bare_step is ++ bare_step i ∷ []),
      append-nil (map bare_step is),
    ) refl

-- no label stands for another position in it
pub label_stays : (i : Instr) (label : ℕ) → is_bare i ≡ true → with_label i label ≡ i
label_stays (Jump old) label bare = cc
label_stays _ label bare = cc

-- what names nothing names no queue and no routine
nameless : (i : Instr) → is_bare i ≡ true → is_nameless i ≡ true
nameless (Insert r queue) bare = cc
nameless _ bare = cc

pub all_nameless : (is : List Instr) → AreBare is → AreNameless is
all_nameless [] all = all
all_nameless (i ∷ is) all = (nameless i all.0, all_nameless is all.1)

pub one_more_nameless : (is : List Instr) (i : Instr) → AreNameless is → is_nameless i ≡ true
    → AreNameless (is ++ i ∷ [])
one_more_nameless [] i all none = (none, all)
one_more_nameless (j ∷ is) i all none = (all.0, one_more_nameless is i all.1 none)

-- one that names no queue and no routine comes behind others that don't
pub nameless_pushed : (is : List Instr) (rest : List Linked) (i : Instr) → rest ≡ []
    → map bare_link (is ++ i ∷ []) ++ rest ≡ (map bare_link is ++ rest) ++ bare_link i ∷ []
nameless_pushed is rest i none =
    rw (
      none,
      map_push bare_link is i,
      append-nil (map bare_link is ++ bare_link i ∷ []),
      append-nil (map bare_link is),
    ) refl

-- no other routine or queue stands in it
pub names_stay : (i : Instr) (routine : Option ℕ) (queue : ℕ) → is_nameless i ≡ true
    → with_queue (with_routine i routine) queue ≡ i
names_stay (Insert r old) routine queue none = cc
names_stay _ routine queue none = cc

-- what names nothing is linked as it is
pub bare_resolved : (labels : List (List ℕ)) (positions : List ℕ) (s : Step) → s.label ≡ None
    → s.call ≡ None → s.queue ≡ None → is_bare s.instr ≡ true
    → bare_link s.instr ≡ label_resolved labels positions s
bare_resolved labels positions s label call queue bare =
    rw (label, call, queue, label_stays s.instr 0 bare) refl

-- a routine that is closed begins with what named nothing
bare_linked : (labels : List (List ℕ)) (positions : List ℕ) (is : List Instr)
    (rest : List Step) → AreBare is
    → map bare_link is ++ map (label_resolved labels positions) rest
    ≡ map (label_resolved labels positions) (map bare_step is ++ rest)
bare_linked labels positions [] rest all = refl
bare_linked labels positions (i ∷ is) rest all =
    let first : label_resolved labels positions (bare_step i) ≡ bare_link i =
    ap bare_link (label_stays i 0 all.0) in
    rw (first, bare_linked labels positions is rest all.1) refl

-- the code that it begins with, and what is linked behind that, are all its steps linked
pub linked_behind : (labels : List (List ℕ)) (positions : List ℕ) (is done : List Instr)
    (none : List Linked) (rest steps : List Step) → AreBare is → done ≡ is → none ≡ []
    → steps ≡ rest
    → (map bare_link done ++ none) ++ map (label_resolved labels positions) steps
    ≡ map (label_resolved labels positions) (map bare_step is ++ rest)
linked_behind labels positions is done none rest steps all same empty behind =
    rw (same, empty, behind, append-nil (map bare_link is)) (bare_linked labels positions is rest all)

pub nameless_called : (o : Outline) (is : List Instr) (rest : List Linked) → AreNameless is
    → map (called o) (map bare_link is ++ rest) ≡ is ++ map (called o) rest
nameless_called o [] rest all = refl
nameless_called o (i ∷ is) rest all =
    let first : called o (bare_link i) ≡ i = names_stay i None 0 all.0 in
    rw (first, nameless_called o is rest all.1) refl

earliest_none : (found : Option ℕ) → earliest found None ≡ found
earliest_none None = refl
earliest_none (Some line) = refl

-- they use no label, so none that isn't there
pub bare_missed : (labels : List (List ℕ)) (found : Option ℕ) (is : List Instr)
    (rest : List Step)
    → missed_from labels found (map bare_step is ++ rest) ≡ missed_from labels found rest
bare_missed labels found [] rest = refl
bare_missed labels found (i ∷ is) rest =
    ap (λ (line : Option ℕ). missed_from labels line (map bare_step is ++ rest))
    (earliest_none found)
    ∙ bare_missed labels found is rest
