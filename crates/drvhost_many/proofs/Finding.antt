-- The files that paths stand for, path by path.
use Rattle.std.proofs.Common.{◌≡◌, ◌∙◌, ◌+◌, ◌<◌, ◌≤◌, ℕ, List, [], ◌∷◌, ◌++◌, String, ap, append-nil, append_assoc, get_or, length, refl, subst, sym, take}
use Rattle.std.proofs.lemmas.List.{take_all, take_more}
use Rattle.std.specs.Global.{Global}
use Rattle.drvhost_files.specs.declared.find.Found.{Found}
use Rattle.drvhost_many.specs.All.{AreFound}

-- those of one path more
pub found_more : {P : Type 0} (Stands : P → Found → Type 0) (paths : List P) (path : P)
    (names : List (String Global)) (found : Found) → AreFound Stands paths names → Stands path found
    → AreFound Stands (paths ++ path ∷ []) ((names ++ found.files.items) ++ found.unread.items)
found_more Stands [] path names found none stands = (
  found,
  [],
  stands,
  refl,
  ap (λ n. (n ++ found.files.items) ++ found.unread.items) none
      ∙ sym (append-nil (found.files.items ++ found.unread.items)),
)
found_more Stands (one ∷ paths) path names found (first, others, is, more, whole) stands =
    let here = first.files.items ++ first.unread.items in (
      first,
      (others ++ found.files.items) ++ found.unread.items,
      is,
      found_more Stands paths path others found more stands,
      ap (λ n. (n ++ found.files.items) ++ found.unread.items) whole
          ∙ ap (λ n. n ++ found.unread.items) (append_assoc here others found.files.items)
          ∙ append_assoc here (others ++ found.files.items) found.unread.items,
    )

pub found_next : {P : Type 0} (Stands : P → Found → Type 0) (paths : List P) (i : ℕ) (d : P)
    (names second third : List (String Global)) (found : Found) → i < length paths
    → AreFound Stands (take i paths) names → Stands (get_or paths i d) found
    → second ≡ names ++ found.files.items → third ≡ second ++ found.unread.items
    → AreFound Stands (take (i + 1) paths) third
found_next Stands paths i d names second third found h so stands e f =
    let more = found_more Stands (take i paths) (get_or paths i d) names found so stands in
    let whole : third ≡ (names ++ found.files.items) ++ found.unread.items =
    f ∙ ap (λ n. n ++ found.unread.items) e in
    subst (AreFound Stands (take (i + 1) paths)) (sym whole)
    (subst (λ p. AreFound Stands p ((names ++ found.files.items) ++ found.unread.items))
    (sym (take_more paths i d h)) more)

pub found_end : {P : Type 0} (Stands : P → Found → Type 0) (paths : List P) (i : ℕ)
    (names : List (String Global)) → length paths ≤ i → AreFound Stands (take i paths) names
    → AreFound Stands paths names
found_end Stands paths i names h so =
    subst (λ p. AreFound Stands p names) (take_all i paths h) so
