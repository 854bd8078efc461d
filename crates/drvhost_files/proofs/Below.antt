-- Folders that were looked into, one after the other.
use Rattle.std.proofs.Common.{◌≡◌, ◌∙◌, ◌⊎◌, ℕ, List, [], ◌∷◌, ◌++◌, Option, None, Some, Result, Ok, Err, IfOk, String, ap, append-nil, append_assoc, arith, flat_map, inl, inr, length, refl, rules, string_bytes, subst, sym}
use Rattle.std.proofs.lemmas.Grind.{flat_map-append}
use Rattle.std.specs.Global.{Global}
use Rattle.std.specs.List.{Contains}
use Rattle.std.specs.List.Sorted.{IsPermutation}
use Rattle.std.proofs.lemmas.List.Elements.{Contains-append_cases, Contains-append_left, Contains-append_right, Contains-push, Contains-push_cases}
use Rattle.std.proofs.lemmas.List.Sorted.{Contains-permutation, IsPermutation-sym}
use Rattle.drvhost_files.specs.declared.folders.Listing.{Listing}
use Rattle.drvhost_files.specs.declared.find.Found.{Found}
use Rattle.drvhost_files.specs.declared.sought.Sought.{Sought}
use Rattle.drvhost_files.specs.Found.{IsAlone}
use Rattle.drvhost_files.specs.Below.{AreBelow, HasFolder, IsBelow, IsIn, IsWithin, Knows, Lists, files_of, folders_of}

some_same : {A : Type 0} (a b : A) → Some a ≡ Some b → a ≡ b
some_same a b e = search rules

in_none : {B : Type 0} (path : List ℕ) → IsIn path [] → B
in_none path (name, (i, less, at), is) = let no : ⊥ = omega (arith, less) in absurd no

in_left : (path : List ℕ) (xs ys : List (String Global)) → IsIn path xs → IsIn path (xs ++ ys)
in_left path xs ys (name, there, is) = (name, Contains-append_left xs ys name there, is)

in_right : (path : List ℕ) (xs ys : List (String Global)) → IsIn path ys → IsIn path (xs ++ ys)
in_right path xs ys (name, there, is) = (name, Contains-append_right xs ys name there, is)

in_either : {B : Type 0} (path : List ℕ) (xs ys : List (String Global)) → IsIn path (xs ++ ys)
    → (IsIn path xs → B) → (IsIn path ys → B) → B
in_either {B = B} path xs ys (name, there, is) left right =
    in_cases (Contains-append_cases xs ys name there)
  where
    in_cases : Contains xs name ⊎ Contains ys name → B
    in_cases (inl a) = left (name, a, is)
    in_cases (inr b) = right (name, b, is)

in_last : (folder : String Global) (rest : List (String Global))
    → IsIn (string_bytes folder) (rest ++ folder ∷ [])
in_last folder rest = (folder, Contains-push rest folder, refl)

-- of some that wait the last one is it, or one of the others
last_either : {B : Type 0} (path : List ℕ) (rest : List (String Global)) (folder : String Global)
    → IsIn path (rest ++ folder ∷ []) → (IsIn path rest → B) → (path ≡ string_bytes folder → B) → B
last_either {B = B} path rest folder (name, there, is) left right =
    last_cases (Contains-push_cases rest folder name there)
  where
    last_cases : Contains rest name ⊎ (folder ≡ name) → B
    last_cases (inl a) = left (name, a, is)
    last_cases (inr e) = right (sym is ∙ sym (ap (λ x. string_bytes x) e))

seen_either : {B : Type 0} (seen : List (List ℕ)) (last place : List ℕ)
    → Contains (seen ++ last ∷ []) place → (Contains seen place → B) → (last ≡ place → B) → B
seen_either {B = B} seen last place there left right =
    seen_cases (Contains-push_cases seen last place there)
  where
    seen_cases : Contains seen place ⊎ (last ≡ place) → B
    seen_cases (inl a) = left a
    seen_cases (inr e) = right e

module _ (sought : Sought) (has : List ℕ → Option Listing) (root : List ℕ) where
  -- a folder and one in it
  within : (folder path : List ℕ) → IsBelow has root folder → HasFolder has folder path
      → IsBelow has root path
  within folder path (above, is) there = (folder ∷ above, (there, is))

  -- a folder was looked into that is the first
  pub knows_first : (listing : Listing) → has root ≡ Some listing
      → Knows sought has root (folders_of listing) (files_of sought listing)
  knows_first listing e =
      record {
        seen = root ∷ [];
        root_seen = Contains-push [] root;
        found = λ path there. (root, ([], refl), (listing, e, there));
        below = λ path there. (root ∷ [], ((listing, e, there), refl));
        folders = λ place path at there.
            seen_either [] root place at (λ none. absurd (not_in none)) (λ same.
            inr (subst (λ l. IsIn path (folders_of l)) (listed place there.0 same there.1) there.2));
        sets = λ place path at there.
            seen_either [] root place at (λ none. absurd (not_in none)) (λ same.
            subst (λ l. IsIn path (files_of sought l)) (listed place there.0 same there.1) there.2);
      }
    where
      not_in : {place : List ℕ} → Contains [] place → ⊥
      not_in (i, less, at) = omega (arith, less)

      listed : (place : List ℕ) (other : Listing) → root ≡ place → has place ≡ Some other
          → other ≡ listing
      listed place other same is =
          some_same other listing (sym is ∙ sym (ap has same) ∙ e)

  module _ (rest files : List (String Global)) (folder : String Global)
      (k : Knows sought has root (rest ++ folder ∷ []) files) where
    -- one that waits was looked into
    pub knows_more : (listing : Listing) → has (string_bytes folder) ≡ Some listing
        → Knows sought has root (rest ++ folders_of listing) (files ++ files_of sought listing)
    knows_more listing e =
        record {
          seen = k.seen ++ string_bytes folder ∷ [];
          root_seen = Contains-append_left k.seen (string_bytes folder ∷ []) root k.root_seen;
          found = λ path there. in_either path files (files_of sought listing) there (k.found path)
              (λ here. (
                string_bytes folder,
                k.below (string_bytes folder) (in_last folder rest),
                (listing, e, here),
              ));
          below = λ path there. in_either path rest (folders_of listing) there
              (λ old. k.below path (in_left path rest (folder ∷ []) old))
              (λ here. within (string_bytes folder) path
              (k.below (string_bytes folder) (in_last folder rest)) (listing, e, here));
          folders = λ place path at there. seen_either k.seen (string_bytes folder) place at
              (λ old. moved path (k.folders place path old there))
              (λ same. inr (in_right path rest (folders_of listing)
              (subst (λ l. IsIn path (folders_of l)) (listed place there.0 same there.1) there.2)));
          sets = λ place path at there. seen_either k.seen (string_bytes folder) place at
              (λ old. in_left path files (files_of sought listing) (k.sets place path old there))
              (λ same. in_right path files (files_of sought listing)
              (subst (λ l. IsIn path (files_of sought l)) (listed place there.0 same there.1) there.2));
        }
      where
        listed : (place : List ℕ) (other : Listing) → string_bytes folder ≡ place
            → has place ≡ Some other → other ≡ listing
        listed place other same is = some_same other listing (sym is ∙ sym (ap has same) ∙ e)

        moved : (path : List ℕ) → Contains k.seen path ⊎ IsIn path (rest ++ folder ∷ [])
            → Contains (k.seen ++ string_bytes folder ∷ []) path ⊎ IsIn path (rest ++ folders_of listing)
        moved path (inl old) = inl (Contains-append_left k.seen (string_bytes folder ∷ []) path old)
        moved path (inr there) = last_either path rest folder there
            (λ old. inr (in_left path rest (folders_of listing) old))
            (λ same. inl (subst (λ p. Contains (k.seen ++ string_bytes folder ∷ []) p) (sym same)
            (Contains-push k.seen (string_bytes folder))))

    -- one that waits can't be opened
    pub knows_closed : has (string_bytes folder) ≡ None → Knows sought has root rest files
    knows_closed e =
        record {
          seen = k.seen ++ string_bytes folder ∷ [];
          root_seen = Contains-append_left k.seen (string_bytes folder ∷ []) root k.root_seen;
          found = k.found;
          below = λ path there. k.below path (in_left path rest (folder ∷ []) there);
          folders = λ place path at there. seen_either k.seen (string_bytes folder) place at
              (λ old. moved path (k.folders place path old there))
              (λ same. absurd (none place there.0 same there.1));
          sets = λ place path at there. seen_either k.seen (string_bytes folder) place at
              (λ old. k.sets place path old there) (λ same. absurd (none place there.0 same there.1));
        }
      where
        none : (place : List ℕ) (other : Listing) → string_bytes folder ≡ place
            → has place ≡ Some other → ⊥
        none place other same is =
            let no : Some other ≡ None = sym is ∙ sym (ap has same) ∙ e in cc

        moved : (path : List ℕ) → Contains k.seen path ⊎ IsIn path (rest ++ folder ∷ [])
            → Contains (k.seen ++ string_bytes folder ∷ []) path ⊎ IsIn path rest
        moved path (inl old) = inl (Contains-append_left k.seen (string_bytes folder ∷ []) path old)
        moved path (inr there) = last_either path rest folder there (λ old. inr old)
            (λ same. inl (subst (λ p. Contains (k.seen ++ string_bytes folder ∷ []) p) (sym same)
            (Contains-push k.seen (string_bytes folder))))

  -- none waits
  reached : (files : List (String Global)) (k : Knows sought has root [] files) (above : List (List ℕ))
      (path : List ℕ) → IsWithin has root above path → Contains k.seen path
  reached files k [] path is = subst (Contains k.seen) (sym is) k.root_seen
  reached files k (folder ∷ above) path (there, is) =
      either (k.folders folder path (reached files k above folder is) there)
    where
      either : Contains k.seen path ⊎ IsIn path [] → Contains k.seen path
      either (inl seen) = seen
      either (inr none) = in_none path none

  pub all_below : (files sorted : List (String Global)) → Knows sought has root [] files
      → IsPermutation files sorted → AreBelow sought has root sorted
  all_below files sorted k p = inr (λ path. (
    λ there. k.found path (permuted sorted files path (IsPermutation-sym files sorted p) there),
    λ there. permuted files sorted path p
        (k.sets there.0 path (reached files k there.1.0 there.0 there.1.1) there.2),
  ))
    where
      permuted : (xs ys : List (String Global)) (path : List ℕ) → IsPermutation xs ys → IsIn path xs
          → IsIn path ys
      permuted xs ys path p (name, there, is) = (name, Contains-permutation xs ys name p there, is)

-- a path that is no folder stands for itself
pub alone_below : {E : Type 0} (sought : Sought) (path : List ℕ) (May : List ℕ → Option Listing → Type 0)
    (result : Result Found E)
    → ((has : List ℕ → Option Listing) → Lists May has → has path ≡ None)
    → IfOk result (λ found. IsAlone path found.files.items)
    → IfOk result (λ found. (has : List ℕ → Option Listing) → Lists May has
    → AreBelow sought has path found.files.items)
alone_below sought path May (Ok found) none alone = λ has lists. inl (none has lists, alone)
alone_below sought path May (Err e) none alone = tt

-- one element more was gone through
pub more_gathered : {X A : Type 0} (f : X → List A) (start old new : List A) (done : List X) (x : X)
    → old ≡ start ++ flat_map f done → new ≡ old ++ f x → new ≡ start ++ flat_map f (done ++ x ∷ [])
more_gathered f start old new done x so is =
    is ∙ ap (λ l. l ++ f x) so ∙ append_assoc start (flat_map f done) (f x)
    ∙ ap (λ l. start ++ l) (ap (λ l. flat_map f done ++ l) (sym (append-nil (f x)))
    ∙ sym (flat_map-append f done (x ∷ [])))

-- all were
pub all_gathered : {X A : Type 0} (f : X → List A) (start new : List A) (all done rest : List X)
    → done ++ rest ≡ all → length rest ≡ 0 → new ≡ start ++ flat_map f done
    → new ≡ start ++ flat_map f all
all_gathered f start new all done [] split none is =
    is ∙ ap (λ l. start ++ flat_map f l) (sym (append-nil done) ∙ split)
all_gathered f start new all done (x ∷ rest) split none is = absurd (omega (arith, none))
