-- Lists that were written over.
use Rattle.std.proofs.Common.{◌≡◌, ◌∙◌, ◌+◌, ◌<◌, ℕ, suc, Bool, List, [], ◌∷◌, ◌++◌, String, ap, arith, drop, get_or, length, refl, subst, sym, take}
use Rattle.std.proofs.lemmas.List.Sums.{sum_by-cons}
use Rattle.std.specs.Global.{Global}
use Rattle.std.specs.List.{AllZip, sum_by}
use Rattle.drvhost_devices.specs.Device.{Supply, Unknown}
use Rattle.drvhost_files.specs.declared.reading.Answered.{Answered}
use Rattle.drvhost_files.specs.declared.reading.Held.{Held}
use Rattle.drvhost_files.specs.Reading.{IsAnswered, IsAnsweredBy, IsAnsweredFor, IsHeld, IsNamedSo, failed_reads, held_reads}

-- one of two lists that belong together was changed, element by element
pub zip_changed : {A B : Type 0} (P Q : A → B → Type 0) (S : B → B → Type 0) (names : List A)
    (old new : List B) → AllZip P names old → length new ≡ length old
    → ((i : ℕ) (d : B) → i < length old → S (get_or old i d) (get_or new i d))
    → ((a : A) (b c : B) → P a b → S b c → Q a c) → AllZip Q names new
zip_changed P Q S [] [] [] h same each k = tt
zip_changed P Q S [] [] (c ∷ new) h same each k =
    let no : ⊥ = omega (arith, same) in absurd no
zip_changed P Q S [] (b ∷ old) new h same each k = absurd h
zip_changed P Q S (a ∷ names) [] new h same each k = absurd h
zip_changed P Q S (a ∷ names) (b ∷ old) [] h same each k =
    let no : ⊥ = omega (arith, same) in absurd no
zip_changed P Q S (a ∷ names) (b ∷ old) (c ∷ new) (here, h) same each k = (
  k a b c here (each 0 b (omega arith)),
  zip_changed P Q S names old new h (omega (arith, same))
      (λ i d less. each (suc i) d (omega (arith, less))) k,
)

-- a list that was written over with one of its length
pub written_over : {A : Type 0} (xs ys : List A) (n : ℕ) → length ys ≡ length xs → n ≡ length xs
    → take n (ys ++ drop (length ys) xs) ≡ ys
written_over [] [] n same count = rw count refl
written_over [] (y ∷ ys) n same count = let no : ⊥ = omega (arith, same) in absurd no
written_over (x ∷ xs) [] n same count = let no : ⊥ = omega (arith, same) in absurd no
written_over (x ∷ xs) (y ∷ ys) n same count =
    rw count (ap (λ l. y ∷ l) (written_over xs ys (length xs) (omega (arith, same)) refl))

-- files that are answered were read, and as many reads of them failed
pub record WereHeld {A : Type 0} (is_told : Bool) (supply : List ℕ → Supply)
    (Answers : Held → A → Type 0) (names : List (String Global)) (answered : List (Answered A))
    : Type 0 where
  pub held : List Held
  pub are_held : AllZip (IsHeld is_told supply) names held
  pub are : AllZip (IsAnswered Answers) held answered
  pub reads : sum_by (λ (one : Answered A). failed_reads one.is_unread) answered
      ≡ sum_by held_reads held

pub were_held : {A : Type 0} (is_told : Bool) (supply : List ℕ → Supply)
    (Answers : Held → A → Type 0) (names : List (String Global)) (answered : List (Answered A))
    → AllZip (IsAnsweredFor is_told supply Answers) names answered
    → WereHeld is_told supply Answers names answered
were_held is_told supply Answers [] [] h =
    record { held = []; are_held = tt; are = tt; reads = refl }
were_held is_told supply Answers [] (one ∷ answered) h = absurd h
were_held is_told supply Answers (name ∷ names) [] h = absurd h
were_held {A} is_told supply Answers (name ∷ names) (one ∷ answered) (here, h) =
    let rest = were_held is_told supply Answers names answered h in
    let failed : Answered A → ℕ = λ o. failed_reads o.is_unread in
    record {
      held = here.held ∷ rest.held;
      are_held = (here.is_held, rest.are_held);
      are = (here.answered, rest.are);
      reads =
          sum_by-cons failed one answered
          ∙ ap (λ n. n + sum_by failed answered) here.answered.reads_are
          ∙ ap (λ n. held_reads here.held + n) rest.reads
          ∙ sym (sum_by-cons held_reads here.held rest.held);
    }

-- files that were to be answered, each of which was
abbrev pub Answered_so : {A : Type 0} (is_told : Bool) (Answers : Held → A → Type 0)
    → Answered A → Answered A → Type 0
Answered_so is_told Answers before after =
    (after.name ≡ before.name) × IsAnsweredBy is_told Unknown Answers after

pub answered_same : {A : Type 0} (is_told : Bool) (Answers : Held → A → Type 0)
    (before after x y : Answered A) → x ≡ before → y ≡ after → Answered_so is_told Answers x y
    → Answered_so is_told Answers before after
answered_same is_told Answers before after x y p q h =
    subst (λ b. Answered_so is_told Answers b after) p
    (subst (λ a. Answered_so is_told Answers x a) q h)

pub answered_all : {A : Type 0} (is_told : Bool) (Answers : Held → A → Type 0)
    (names : List (String Global)) (old new : List (Answered A)) → AllZip IsNamedSo names old
    → length new ≡ length old
    → ((i : ℕ) (d : Answered A) → i < length old
    → Answered_so is_told Answers (get_or old i d) (get_or new i d))
    → AllZip (IsAnsweredFor is_told (λ _. Unknown) Answers) names new
answered_all is_told Answers names old new named same each =
    zip_changed IsNamedSo (IsAnsweredFor is_told (λ _. Unknown) Answers)
    (Answered_so is_told Answers) names old new named same each
    (λ name before after is changed. record {
      held = changed.1.held;
      is_held = record {
        name_is = sym changed.1.answered.name_is ∙ ap (λ n. n.now) changed.0 ∙ is;
        read = changed.1.read;
      };
      answered = changed.1.answered;
    })
