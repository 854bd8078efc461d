-- The answers for files, one after the other.
use Rattle.std.proofs.Common.{◌≡◌, ◌∙◌, ◌+◌, ◌≤◌, ℕ, List, [], ◌∷◌, ◌++◌, String, ap, append-nil, append_assoc, arith, inl, inr, length, max, string_bytes, subst, sym}
use Rattle.std.specs.Global.{Global}
use Rattle.drvhost_devices.specs.Answer.{Answer}
use Rattle.drvhost_devices.specs.Device.{Supply}
use Rattle.cli.specs.declared.job.Judging.{Judging}
use Rattle.drvhost_devices.specs.Told.{joined}
use Rattle.drvhost_many.specs.All.{AreOf, nothing}
use Rattle.drvhost_many.specs.Marked.{named_answer}
use Rattle.drvhost_many.specs.One.{IsOfOne}

max_assoc : (a b c : ℕ) → max (max a b) c ≡ max a (max b c)
max_assoc a b c = omega arith

max_none : (a : ℕ) → max 0 a ≡ max a 0
max_none a = omega arith

pub joined_assoc : (a b c : Answer) → joined (joined a b) c ≡ joined a (joined b c)
joined_assoc a b c =
    let status = max_assoc a.status b.status c.status in
    let output = append_assoc a.output b.output c.output in
    let told = append_assoc a.told b.told c.told in
    λ i. record { status = status i; output = output i; told = told i }

pub joined_none : (a : Answer) → joined nothing a ≡ joined a nothing
joined_none a =
    let status = max_none a.status in
    let output = sym (append-nil a.output) in
    let told = sym (append-nil a.told) in
    λ i. record { status = status i; output = output i; told = told i }

nothing_joined : (a : Answer) → joined nothing a ≡ a
nothing_joined a =
    let status : max 0 a.status ≡ a.status = omega arith in
    λ i. record { status = status i; output = a.output; told = a.told }

-- one read at most fails of a file
pub reads_most : (judging : Judging) (name : List ℕ) (supply : Supply) (reads : ℕ)
    (answer : Answer) → IsOfOne judging name supply reads answer → reads ≤ 1
reads_most judging name supply reads answer (inl (none, right)) = omega (arith, none)
reads_most judging name supply reads answer (inr (one, is)) = omega (arith, one)

pub of_few : (judging : Judging) (supply : List ℕ → Supply) (names : List (String Global))
    (reads : ℕ) (answer : Answer) → AreOf judging supply names reads answer
    → reads ≤ length names
of_few judging supply [] reads answer (none, empty) = omega (arith, none)
of_few judging supply (name ∷ names) reads answer (failed, others, one, rest, here, more, sum, whole) =
    let first =
    reads_most judging (string_bytes name) (supply (string_bytes name)) failed one here in
    let last = of_few judging supply names others rest more in
    omega (arith, sum, first, last)

-- the answers for some files and for others
pub of_append : (judging : Judging) (supply : List ℕ → Supply) (names others : List (String Global))
    (r s : ℕ) (first last : Answer) → AreOf judging supply names r first
    → AreOf judging supply others s last
    → AreOf judging supply (names ++ others) (r + s) (joined first last)
of_append judging supply [] others r s first last (none, empty) more =
    let sum : s ≡ r + s = omega (arith, none) in
    let same : last ≡ joined first last =
    sym (ap (λ a. joined a last) empty ∙ nothing_joined last) in
    subst (λ a. AreOf judging supply others (r + s) a) same
    (subst (λ k. AreOf judging supply others k last) sum more)
of_append judging supply (name ∷ names) others r s first last (failed, rest, answer, behind, here, so, sum, whole) more = (
  failed,
  rest + s,
  answer,
  joined behind last,
  here,
  of_append judging supply names others rest s behind last so more,
  omega (arith, sum),
  ap (λ a. joined a last) whole
      ∙ joined_assoc (named_answer judging (string_bytes name) answer) behind last,
)
