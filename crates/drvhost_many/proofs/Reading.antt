-- Files that were read, and the answers for them.
use Rattle.std.proofs.Common.{◌≡◌, ◌∙◌, ◌+◌, ◌≤◌, ℕ, zero, suc, List, [], ◌∷◌, ◌++◌, ◌<◌, String, ap, arith, drop, get_or, inl, inr, length, refl, string_bytes, subst, sym, take}
use Rattle.std.specs.Global.{Global}
use Rattle.std.specs.List.{AllZip, sum_by}
use Rattle.std.proofs.lemmas.List.{drop_more, length-append, take-append-drop, take_more}
use Rattle.std.proofs.lemmas.List.Sums.{sum_by-append, sum_by-cons}
use Rattle.std.proofs.lemmas.Slice.Zip.{AllZip-long}
use Rattle.cli.specs.declared.job.Judging.{Judging}
use Rattle.drvhost_devices.specs.Answer.{Answer}
use Rattle.drvhost_devices.specs.Device.{Bytes, Closed, Holds, IsSuppliedAs, Supply, Unknown}
use Rattle.drvhost_files.specs.declared.reading.Contents.{Contents}
use Rattle.drvhost_files.specs.declared.reading.Contents.TheVariants.{Whole, Unread, Unopened, Lacking}
use Rattle.drvhost_files.specs.declared.reading.Answered.{Answered}
use Rattle.drvhost_files.specs.declared.reading.Held.{Held}
use Rattle.drvhost_files.specs.Reading.{IsAnswered, IsHeld, IsReadOf, held_reads, reads_of}
use Rattle.drvhost_devices.specs.Told.{joined}
use Rattle.drvhost_many.specs.All.{AreOf, IsAt, nothing}
use Rattle.drvhost_many.specs.Held.{AreJoined, AreToldOf, IsAmong, IsAnswerTo, IsToldOf}
use Rattle.drvhost_many.specs.Marked.{named_answer}
use Rattle.drvhost_many.specs.One.{IsOfOne, is_in_json}
use Rattle.drvhost_many.proofs.Known.{judged_known}
use Rattle.drvhost_many.proofs.Joining.{joined_assoc, joined_none}
use Rattle.drvhost_many.proofs.Judged.{unopened_in_json}

-- two lists that belong together, with one more each
pub zip_more : {A B : Type 0} (R : A → B → Type 0) (xs : List A) (ys : List B) (x : A) (y : B)
    → AllZip R xs ys → R x y → AllZip R (xs ++ x ∷ []) (ys ++ y ∷ [])
zip_more R [] [] x y h r = (r, tt)
zip_more R [] (b ∷ ys) x y h r = absurd h
zip_more R (a ∷ xs) [] x y h r = absurd h
zip_more R (a ∷ xs) (b ∷ ys) x y (here, h) r = (here, zip_more R xs ys x y h r)

-- and split at one
pub zip_split : {A B : Type 0} (R : A → B → Type 0) (xs : List A) (before : List B) (one : B)
    (behind : List B) → AllZip R xs (before ++ one ∷ behind)
    → (first : List A) × (x : A) × (rest : List A) × (xs ≡ first ++ x ∷ rest)
    × AllZip R first before × R x one × AllZip R rest behind
zip_split R [] [] one behind h = absurd h
zip_split R (x ∷ xs) [] one behind (r, h) = ([], x, xs, refl, tt, r, h)
zip_split R [] (b ∷ before) one behind h = absurd h
zip_split R (x ∷ xs) (b ∷ before) one behind (r, h) =
    let p = zip_split R xs before one behind h in
    (x ∷ p.0, p.1, p.2, ap (λ l. x ∷ l) p.3, (r, p.4), p.5, p.6)

-- a file that was read, for which this was answered, where it stands among several
pub record AnsweredAt (judging : Judging) (files : List Held) (i : ℕ) (one : Answered Answer)
    : Type 0 where
  pub held : Held
  pub inside : i < length files
  pub at : held ≡ get_or files i held
  pub answered : IsAnswered (IsToldOf judging) held one

pub answered_at : (judging : Judging) (files : List Held) (answered : List (Answered Answer))
    (i : ℕ) (one : Answered Answer) → AllZip (IsAnswered (IsToldOf judging)) files answered
    → i < length answered → one ≡ get_or answered i one → AnsweredAt judging files i one
answered_at judging [] [] i one h less is = let no : ⊥ = omega (arith, less) in absurd no
answered_at judging [] (a ∷ answered) i one h less is = absurd h
answered_at judging (f ∷ files) [] i one h less is = absurd h
answered_at judging (f ∷ files) (a ∷ answered) zero one (here, h) less is =
    record {
      held = f;
      inside = omega arith;
      at = refl;
      answered = subst (λ o. IsAnswered (IsToldOf judging) f o) (sym is) here;
    }
answered_at judging (f ∷ files) (a ∷ answered) (suc i) one (here, h) less is =
    let rest = answered_at judging files answered i one h (omega (arith, less)) is in
    record {
      held = rest.held;
      inside = omega (arith, rest.inside);
      at = rest.at;
      answered = rest.answered;
    }

-- a source that has bytes may be known by them
pub held_known : (supply : Supply) (bytes : List ℕ) → Holds supply bytes
    → IsSuppliedAs supply (Bytes bytes)
held_known Unknown bytes h = tt
held_known Closed bytes h = absurd h
held_known (Bytes held) bytes h = ap (λ b. Bytes b) h

of_contents : (judging : Judging) (name : List ℕ) (supply : Supply) (contents : Contents)
    (answer : Answer) → IsReadOf (is_in_json judging) supply contents → IsAnswerTo judging name contents answer
    → IsOfOne judging name supply (reads_of contents) answer
of_contents judging name supply (Whole bytes) answer holds is =
    inl (
      refl,
      inl (judged_known judging name supply (Bytes bytes.items)
          (held_known supply bytes.items holds) answer is),
    )
of_contents judging name supply Unread answer h is = inr (refl, is)
of_contents judging name supply Unopened answer (closed, json) is =
    inl (refl, inr (closed, unopened_in_json judging name answer json is))
of_contents judging name supply Lacking answer h is = absurd is

-- what is answered for what was read of a file is answered for the file
pub of_held : (judging : Judging) (supply : List ℕ → Supply) (name : String Global) (held : Held)
    (told : Answer) → IsHeld (is_in_json judging) supply name held → IsToldOf judging held told
    → (answer : Answer)
    × IsOfOne judging (string_bytes name) (supply (string_bytes name)) (held_reads held) answer
    × (told ≡ named_answer judging (string_bytes name) answer)
of_held judging supply name held told h (answer, is, same) = (
  answer,
  of_contents judging (string_bytes name) (supply (string_bytes name)) held.contents answer h.read
      (subst (λ n. IsAnswerTo judging n held.contents answer) h.name_is is),
  subst (λ n. told ≡ named_answer judging n answer) h.name_is same,
)

-- for several
pub of_all : (judging : Judging) (supply : List ℕ → Supply) (names : List (String Global))
    (files : List Held) (whole : Answer) → AllZip (IsHeld (is_in_json judging) supply) names files
    → AreToldOf judging files whole → AreOf judging supply names (sum_by held_reads files) whole
of_all judging supply [] [] whole h is = (refl, is)
of_all judging supply [] (file ∷ files) whole h is = absurd h
of_all judging supply (name ∷ names) [] whole h is = absurd h
of_all judging supply (name ∷ names) (file ∷ files) whole (here, h) (told, rest, one, more, is) =
    let o = of_held judging supply name file told here one in (
      held_reads file,
      sum_by held_reads files,
      o.0,
      rest,
      o.1,
      of_all judging supply names files rest h more,
      sum_by-cons held_reads file files,
      is ∙ ap (λ t. joined t rest) o.2,
    )

-- for one more
joined_more : (Is : Held → Answer → Type 0) (files : List Held) (file : Held) (first told : Answer)
    → AreJoined Is files first → Is file told
    → AreJoined Is (files ++ file ∷ []) (joined first told)
joined_more Is [] file first told none is =
    (told, nothing, is, refl, ap (λ a. joined a told) none ∙ joined_none told)
joined_more Is (one ∷ files) file first told (early, rest, here, more, whole) is = (
  early,
  joined rest told,
  here,
  joined_more Is files file rest told more is,
  ap (λ a. joined a told) whole ∙ joined_assoc early rest told,
)

-- those up to an index are answered, and the one there
pub joined_next : (Is : Held → Answer → Type 0) (files : List Held) (i : ℕ) (one : Held)
    (first told : Answer) → i < length files → one ≡ get_or files i one
    → AreJoined Is (take i files) first → Is one told
    → AreJoined Is (take (i + 1) files) (joined first told)
joined_next Is files i one first told h at are is =
    let next : take i files ++ one ∷ [] ≡ take (i + 1) files =
    ap (λ x. take i files ++ x ∷ []) at ∙ sym (take_more files i one h) in
    subst (λ l. AreJoined Is l (joined first told)) next
    (joined_more Is (take i files) one first told are is)

-- a list up to an element, that, and what is behind it
pub split_at : {A : Type 0} (xs : List A) (i : ℕ) (x : A) → i < length xs → x ≡ get_or xs i x
    → xs ≡ take i xs ++ x ∷ drop (i + 1) xs
split_at xs i x h is =
    sym (take-append-drop i xs)
    ∙ ap (λ l. take i xs ++ l) (drop_more xs i x h ∙ ap (λ y. y ∷ drop (i + 1) xs) (sym is))

pub among_at : (judging : Judging) (files : List Held) (i : ℕ) (one : Held) (first : Answer)
    → i < length files → one ≡ get_or files i one → AreToldOf judging (take i files) first
    → IsAmong judging files one first
among_at judging files i one first h at are =
    record {
      before = take i files;
      behind = drop (i + 1) files;
      split = split_at files i one h at;
      answers = are;
    }

-- one read at most fails of a file
pub reads_few : (contents : Contents) → reads_of contents ≤ 1
reads_few (Whole bytes) = omega arith
reads_few Unread = omega arith
reads_few Unopened = omega arith
reads_few Lacking = omega arith

pub sum_few : (files : List Held) → sum_by held_reads files ≤ length files
sum_few [] = omega arith
sum_few (file ∷ files) =
    let sum = sum_by-cons held_reads file files in
    let one = reads_few file.contents in
    let more = sum_few files in
    omega (arith, sum, one, more)

-- one of the files that were read, by its name, and where it stands among those that were named
pub record Placed (judging : Judging) (width : ℕ) (supply : List ℕ → Supply)
    (names : List (String Global)) (files : List Held) (one : Held) (first : Answer) : Type 0 where
  pub name : String Global
  pub others : ℕ
  pub held : IsHeld (is_in_json judging) supply name one
  pub at : IsAt judging width supply names (length names) (string_bytes name) others first
  pub sum : sum_by held_reads files ≡ others + held_reads one

module _ (judging : Judging) (width : ℕ) (supply : List ℕ → Supply) (names : List (String Global))
    (files : List Held) (held : AllZip (IsHeld (is_in_json judging) supply) names files)
    (few : length names ≤ width) where
  pub placed : (one : Held) (first : Answer) → IsAmong judging files one first
      → Placed judging width supply names files one first
  placed one first among =
      let R = IsHeld (is_in_json judging) supply in
      let p =
      zip_split R names among.before one among.behind
      (subst (λ f. AllZip R names f) among.split held) in
      let early = sum_by held_reads among.before in
      let later = sum_by held_reads among.behind in
      let whole : sum_by held_reads files ≡ early + (held_reads one + later) =
      ap (λ f. sum_by held_reads f) among.split
      ∙ sum_by-append held_reads among.before (one ∷ among.behind)
      ∙ ap (λ n. early + n) (sum_by-cons held_reads one among.behind) in
      let long : length files ≡ length among.before + (length among.behind + 1) =
      let all = ap (λ f. length f) among.split in
      let parts = length-append among.before (one ∷ among.behind) in
      omega (arith, all, parts) in
      let count = AllZip-long R names files held in
      let same = AllZip-long R p.0 among.before p.4 in
      let least = sum_few among.behind in
      record {
        name = p.1;
        others = early + later;
        held = p.5;
        at =
            record {
              before = p.0;
              one = p.1;
              behind = p.2;
              some = early;
              ahead = later;
              split = p.3;
              name_is = refl;
              answers = of_all judging supply p.0 among.before first p.4 among.answers;
              reads_are = refl;
              opened_some = omega (arith, same, least, long, count);
              opened_few = omega (arith, few);
              opened_most = omega arith;
            };
        sum = omega (arith, whole);
      }
