-- What a job with the set of a file answers for what is read of it.
use Rattle.std.proofs.Common.{◌≡◌, ◌+◌, ℕ, List, IfOk, Option, Result, Err, Ok, arith, codes, refl, subst, sym}
use Rattle.std.specs.Borrow.{Bor}
use Rattle.model.specs.Set.{Set}
use Rattle.drvhost_devices.specs.Answer.{Answer, faulty}
use Rattle.drvhost_devices.specs.Device.{Bytes, Holds, IsSuppliedAs, Says, Supply}
use Rattle.drvhost_devices.specs.Ends.{Answers}
use Rattle.drvhost_files.proofs.Known.{holds_known}
use Rattle.answer.specs.Delivered.{IsAnswerFor}
use Rattle.answer.specs.Judged.{IsOfBytes, IsOfContent}
use Rattle.answer.specs.declared.content.Content.{Content}
use Rattle.answer.specs.declared.content.Content.TheVariants.{Whole, Unread, Unopened}
use Rattle.answer.specs.declared.form.Form as says_form
use Rattle.answer.specs.declared.job.Job as job
use Rattle.answer.proofs.Delivering.{answers_rightly}
use Rattle.cli.specs.declared.job.Form.{Form}
use Rattle.drvhost_many.specs.All.{Counted}
use Rattle.drvhost_many.specs.One.{IsFrom, IsUnopenedIn}
use Rattle.drvhost_words.specs.Program.{IsOfFile, IsRightOf, WorkEnds}
use Rattle.drvhost_words.specs.Unread.{IsNamedUnread, SaysMore}
use Rattle.drvhost_words.proofs.Ending.{counted_telling}

-- what is said in a form that says so of bytes, and of a file that can't be read or opened
pub from_form : {E F : Type 0} (says : says_form.Ghosts F) (it : F) (form : Form) (name : List ℕ)
    (Of : Supply → Answer → Type 0) (Right : List ℕ → Set → Answer → Type 0) (content : Content)
    (r : Result Answer E)
    → ((bytes : List ℕ) (answer : Answer) → IsOfBytes says it name Right bytes answer
    → Of (Bytes bytes) answer)
    → ((answer : Answer) → says.is_unread it name answer
    → answer ≡ faulty (codes "read failed\n"))
    → ((answer : Answer) → says.is_unopened it name answer → IsUnopenedIn form name answer)
    → IfOk r (IsOfContent says it name Right content) → IfOk r (IsFrom form Of name content)
from_form says it form name Of Right (Whole bytes) (Ok answer) whole unread unopened is =
    whole bytes.now answer is
from_form says it form name Of Right Unread (Ok answer) whole unread unopened is = unread answer is
from_form says it form name Of Right Unopened (Ok answer) whole unread unopened is =
    unopened answer is
from_form says it form name Of Right content (Err e) whole unread unopened is = tt

-- what is right for a file that was read is so for what is known of it
pub read_known : {J : Type 0} (its : job.Ghosts J) (it : J) (name : List ℕ)
    (supplies : List ℕ → Supply) (supply : Supply) → IsSuppliedAs (supplies name) supply
    → (answer : Answer) → IsAnswerFor its it name supply answer
    → IsOfFile (IsRightOf its it) supplies name answer
read_known its it name supplies supply h answer (bytes, holds, (called, held, one, same, right)) =
    let has : Holds supply held.now = subst (λ (b : List ℕ). Holds supply b) (sym same) holds in
    (Whole held, holds_known (supplies name) supply held.now h has, (called, one, right))

-- a job is right for the name of its file alone
of_name : (Right : List ℕ → Content → Answer → Type 0) (supply : List ℕ → Supply) (name : List ℕ)
    (answer : Answer)
    → IsOfFile (λ n content told.
    (called : Bor (List ℕ)) × (called.now ≡ n) × Right called.now content told) supply name answer
    → IsOfFile Right supply name answer
of_name Right supply name answer (content, read, (called, one, right)) =
    (content, read, subst (λ (n : List ℕ). Right n content answer) one right)

-- so the job ends
pub work_ends : (Right : List ℕ → Content → Answer → Type 0) (supply : List ℕ → Supply)
    (name : List ℕ) (o p k m w x e f : ℕ) (b n c d : Option (List ℕ)) (status : ℕ) → p ≡ o + 1
    → Answers
    (IsOfFile (λ n content told.
    (called : Bor (List ℕ)) × (called.now ≡ n) × Right called.now content told) supply name) k m w x
    b n (SaysMore (IsNamedUnread (λ unread. unread ≡ name) k m) e f c d) status
    → Counted (WorkEnds Right supply name) o p k m w x b n (Says e f c d) status
work_ends Right supply name o p k m w x e f b n c d status are a =
    counted_telling (IsOfFile Right supply name) (λ unread. unread ≡ name) (λ count. count ≡ 1) 1
    o p k m w x e f b n c d status refl are
    (answers_rightly _ (IsOfFile Right supply name) k m k m w x b n _ status a
    (of_name Right supply name) (omega arith))
