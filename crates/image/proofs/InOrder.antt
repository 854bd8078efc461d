-- Things of one kind read one after another, as a loop does.
use Rattle.std.proofs.Common.{◌≡◌, ℕ, suc, ◌-◌, ◌+◌, ◌≤◌, ◌<◌, List, [], ◌∷◌, ◌++◌, Result, Ok, Err, refl, sym, ap, ◌∙◌, append_assoc, arith}
use Rattle.std.proofs.lemmas.List.{append-nil}
use Rattle.image.specs.declared.fault.ImageFault.{ImageFault}
use Rattle.image.specs.declared.fault.ImageFault.TheVariants.{Magic, Truncated, Trailing, BadOpcode, OverLimit, Memory}
use Rattle.image.specs.Reading.{◌>>=◌, Fails, Read, all_at}

pub fails_as : {A B : Type 0} (fault : ImageFault) (said : Result A ImageFault)
    (other : Result B ImageFault) → ((f : ImageFault) → said ≡ Err f → other ≡ Err f)
    → Fails fault said → Fails fault other
fails_as Magic said other same e = same Magic e
fails_as Truncated said other same e = same Truncated e
fails_as Trailing said other same e = same Trailing e
fails_as BadOpcode said other same e = same BadOpcode e
fails_as OverLimit said other same e = same OverLimit e
fails_as Memory said other same e = tt

-- what was read before, and what is still read
abbrev pub with_front : {A : Type 0} → List A → Read (List A) → Read (List A)
with_front front read = read >>= λ x. Ok (front ++ x.0, x.1)

regroup : {A : Type 0} (front : List A) (a : A) (read : Read (List A))
    → with_front front (read >>= λ x. Ok (a ∷ x.0, x.1)) ≡ with_front (front ++ a ∷ []) read
regroup {A} front a (Ok x) = ap (λ (xs : List A). Ok (xs, x.1)) (simp append_assoc)
regroup front a (Err fault) = refl

pub goes_on : {A : Type 0} (item : ℕ → List ℕ → Read A) (front : List A) (count i : ℕ)
    (bytes : List ℕ) (a : A) (after : List ℕ) (total : Read (List A))
    → i < count → item i bytes ≡ Ok (a, after)
    → with_front front (all_at item i (count - i) bytes) ≡ total
    → with_front (front ++ a ∷ []) (all_at item (i + 1) (count - (i + 1)) after) ≡ total
unfolding all_at
goes_on item front count i bytes a after total lt h so_far =
    let k : count - i ≡ suc (count - (i + 1)) = omega arith in
    let next : suc i ≡ i + 1 = omega arith in
    let one : with_front front (all_at item i (count - i) bytes)
    ≡ with_front (front ++ a ∷ []) (all_at item (i + 1) (count - (i + 1)) after) =
    rw (k, h, next) (regroup front a (all_at item (i + 1) (count - (i + 1)) after)) in
    sym one ∙ so_far

stops : {A : Type 0} (item : ℕ → List ℕ → Read A) (front : List A) (count i : ℕ)
    (bytes : List ℕ) (fault : ImageFault) → i < count → item i bytes ≡ Err fault
    → with_front front (all_at item i (count - i) bytes) ≡ Err fault
unfolding all_at
stops item front count i bytes fault lt h =
    let k : count - i ≡ suc (count - (i + 1)) = omega arith in
    rw (k, h) refl

pub ends : {A : Type 0} (item : ℕ → List ℕ → Read A) (fault : ImageFault) (front : List A)
    (count i : ℕ) (bytes : List ℕ) (total : Read (List A)) → i < count → Fails fault (item i bytes)
    → with_front front (all_at item i (count - i) bytes) ≡ total → Fails fault total
ends item fault front count i bytes total lt h so_far =
    fails_as fault (item i bytes) total
    (λ f e. sym so_far ∙ stops item front count i bytes f lt e) h

pub is_done : {A : Type 0} (item : ℕ → List ℕ → Read A) (front : List A) (count i : ℕ)
    (bytes : List ℕ) (total : Read (List A)) → count ≤ i
    → with_front front (all_at item i (count - i) bytes) ≡ total → total ≡ Ok (front, bytes)
unfolding all_at
is_done {A} item front count i bytes total le so_far =
    let k : count - i ≡ 0 = omega arith in
    let one : with_front front (all_at item i (count - i) bytes) ≡ Ok (front, bytes) =
    rw k (ap (λ (xs : List A). Ok (xs, bytes)) (append-nil front)) in
    sym so_far ∙ one
