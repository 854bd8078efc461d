-- What is right in colour, or without.
use Rattle.std.proofs.Common.{◌≡◌, ◌∙◌, ℕ, List, [], IfOk, Result, Err, Ok, ap, inl, inr, refl, subst, sym}
use Rattle.drvhost_devices.specs.Answer.{Answer, faulty}
use Rattle.drvhost_devices.specs.Painted.{IsPainted, painted}
use Rattle.drvhost_devices.specs.declared.coloring.Coloring.{Coloring}
use Rattle.drvhost_devices.specs.declared.coloring.Coloring.TheVariants.{Auto, Always, Never}
use Rattle.answer_explain.specs.Explained.{IsShownFor}
use Rattle.drvhost_many.specs.Painted.{IsPaintedAs, IsShown}

-- where more answers are right
pub shown_rightly : (R Q : Answer → Type 0) (coloring : Coloring) (answer : Answer)
    → ((plain : Answer) → R plain → Q plain) → IsShown coloring R answer
    → IsShown coloring Q answer
shown_rightly R Q Auto answer on is = on answer is
shown_rightly R Q Always answer on (plain, right, is) = (plain, on plain right, is)
shown_rightly R Q Never answer on is = on answer is

-- an answer to which a file was faulty stays as it is: no command stands behind it
unhinted : (name line : List ℕ) (answer : Answer)
    → IsShownFor name (λ alone. alone ≡ faulty line) answer → answer ≡ faulty line
unhinted name line answer (alone, is, inl (one, shown)) =
    let no : 2 ≡ 1 = sym (ap (λ (a : Answer). a.status) is) ∙ one in cc
unhinted name line answer (alone, is, inr (other, same)) = same ∙ is

-- and there is no output to paint
blank : (line : List ℕ) (plain answer : Answer) → plain ≡ faulty line → IsPaintedAs plain answer
    → answer ≡ faulty line
blank line plain answer same is =
    let status : answer.status ≡ 2 = is.status ∙ ap (λ (a : Answer). a.status) same in
    let output : answer.output ≡ [] =
    is.output.is ∙ ap (λ (a : Answer). painted a.output) same in
    let said : answer.told ≡ line = is.told ∙ ap (λ (a : Answer). a.told) same in
    let whole : answer ≡ faulty line =
    λ i. record { status = status i; output = output i; told = said i } in
    whole

unpainted : (line : List ℕ) (coloring : Coloring) (answer : Answer)
    → IsShown coloring (λ plain. plain ≡ faulty line) answer → answer ≡ faulty line
unpainted line Auto answer is = is
unpainted line Always answer (plain, same, is) = blank line plain answer same is
unpainted line Never answer is = is

pub unshown : (name line : List ℕ) (coloring : Coloring) (answer : Answer)
    → IsShown coloring (IsShownFor name (λ alone. alone ≡ faulty line)) answer
    → answer ≡ faulty line
unshown name line coloring answer is =
    unpainted line coloring answer
    (shown_rightly (IsShownFor name (λ alone. alone ≡ faulty line)) (λ plain. plain ≡ faulty line)
    coloring answer (unhinted name line) is)

-- a right answer in colour, or without, is right so
pub painted_rightly : {E : Type 0} (r : Result Answer E) (Right : Answer → Type 0)
    (coloring : Coloring) (told : Answer) → Right told
    → IfOk r (IsShown coloring (λ answer. answer ≡ told)) → IfOk r (IsShown coloring Right)
painted_rightly (Ok answer) Right coloring told right is =
    shown_rightly (λ plain. plain ≡ told) Right coloring answer
    (λ plain same. subst Right (sym same) right) is
painted_rightly (Err e) Right coloring told right is = tt

-- an answer whose output was painted
pub painted_so : (told answer : Answer) (output : List ℕ) → IsPainted told.output output
    → answer ≡ record told { output = output } → IsPaintedAs told answer
painted_so told answer output is same =
    let shown : IsPaintedAs told (record told { output = output }) =
    record { status = refl; output = is; told = refl } in
    subst (IsPaintedAs told) (sym same) shown
