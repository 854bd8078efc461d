-- What the file has that is for a history, and what is answered then.
use Rattle.std.proofs.Common.{◌≡◌, ◌+◌, ◌⊎◌, ℕ, List, [], Option, None, Some, ap, arith, inl, inr, refl, subst, sym}
use Rattle.std.proofs.lemmas.List.{append-nil}
use Rattle.std.specs.Io.KnownBytes.{Appends}
use Rattle.cli.specs.declared.job.Form.TheVariants.{Lines}
use Rattle.drvhost_devices.specs.Answer.{Answer}
use Rattle.drvhost_devices.specs.Device.{IsSuppliedAs, Supply}
use Rattle.drvhost_files.specs.Files.{IsWritten, blank, contents_of}
use Rattle.drvhost_files.proofs.Known.{holds_known}
use Rattle.answer_runs.specs.Keeping.{IsKeptOf, IsKeptWith, LeavesFor, TakesWith, Touches}
use Rattle.answer_runs.specs.Readiness.{AreWarningsOf}
use Rattle.drvhost_words.specs.Program.{KeepsHistory, WritesHistory}
use Rattle.drvhost_words.specs.Returned.{StoresIf, count_of}
use Rattle.drvhost_words.proofs.Answering.{warned_known}
use Rattle.drvhost_words.proofs.Mended.{written_none}
use Rattle.drvhost_words.proofs.Rewritten.{appends_as, has_part}

-- what is right for a file is right for what is known of it
kept_held : (workers : ℕ) (known supply script : Supply) → IsSuppliedAs known supply
    → (text : Option (List ℕ)) (answer : Answer) → IsKeptWith workers supply script text answer
    → IsKeptWith workers known script text answer
kept_held workers known supply script h None answer (bytes, holds, right) =
    (bytes, holds_known known supply bytes h holds, right)
kept_held workers known supply script h (Some text) answer (bytes, holds, right) =
    (bytes, holds_known known supply bytes h holds, right)

pub kept_known : (workers : ℕ) (known supply script other : Supply) → IsSuppliedAs known supply
    → other ≡ script → (text : Option (List ℕ)) (answer : Answer)
    → IsKeptWith workers supply other text answer → IsKeptWith workers known script text answer
kept_known workers known supply script other h e text answer right =
    let P : Supply → Type 0 = λ s. IsKeptWith workers known s text answer in
    subst P e (kept_held workers known supply other h text answer right)

pub keeping_known : (workers : ℕ) (known supply script other : Supply) → IsSuppliedAs known supply
    → other ≡ script → (answer : Answer) → IsKeptOf workers supply other answer
    → IsKeptOf workers known script answer
keeping_known workers known supply script other h e answer (text, right) =
    (text, kept_known workers known supply script other h e text answer right)

pub warnings_known : (known supply : Supply) → IsSuppliedAs known supply → (status : ℕ)
    (warnings : List ℕ) → AreWarningsOf supply status warnings → AreWarningsOf known status warnings
warnings_known known supply h status warnings warns =
    warned_known Lines known supply h status warnings warns

module _ (workers : ℕ) (set script : Supply) (name : List ℕ) (before after : List ℕ → Supply)
    (old new status : ℕ) (Right : Option (List ℕ) → Answer → Type 0)
    (on : (text : Option (List ℕ)) (answer : Answer) → Right text answer
    → IsKeptWith workers set script text answer)
    (shown_before shown_after b n : Option (List ℕ)) (first : b ≡ blank (before name)) where
  left_for : LeavesFor (Right None) shown_before shown_after status
      → (status ≡ 2) ⊎ (status ≡ 3)
      ⊎ ((answer : Answer) × IsKeptWith workers set script None answer
      × (status ≡ answer.status))
  left_for (inl two) = inl two
  left_for (inr (inl three)) = inr (inl three)
  left_for (inr (inr (answer, right, is, shown))) = inr (inr (answer, on None answer right, is))

  -- a text was written of which the file has so much as was taken
  writes_history : (new ≡ old) ⊎ (new ≡ old + 1)
      → ((other : List ℕ) → (other ≡ name → ⊥) → after other ≡ before other)
      → ((part : List ℕ) → Appends b n part → IsWritten (before name) (after name) (Some part))
      → TakesWith (λ text. Right (Some text)) shown_before shown_after b n status
      → WritesHistory workers set script name before after old new status
  writes_history one others has takes =
      elim takes.taken [
        | inl all ↦ record {
          one = one;
          answer = takes.answer;
          text = takes.text;
          right = on (Some takes.text) takes.answer takes.right;
          part = takes.text;
          rest = [];
          split = sym (append-nil takes.text);
          has = has takes.text all.1;
          others = others;
          status_is = inl (all.0, refl);
        }
        | inr some ↦ record {
          one = one;
          answer = takes.answer;
          text = takes.text;
          right = on (Some takes.text) takes.answer takes.right;
          part = some.1.part;
          rest = some.1.rest;
          split = some.1.split;
          has = has some.1.part some.1.appended;
          others = others;
          status_is = inr some.0;
        }
      ]

  -- by whether the file was opened
  pub keeps_history : {A Same : Type 0} (contents : A → Option (List ℕ)) (other : Supply)
      (file : Option A) → (Same → file ≡ None)
      → Touches Same Right shown_before shown_after b n status
      → n ≡ contents_of contents other file → StoresIf contents before after name file
      → new ≡ old + count_of file
      → KeepsHistory workers set script name before after old new status
  keeps_history contents other None never (inl left) last same none =
      inl (record { supply = same; none = omega (arith, none) }, left_for left.1)
  keeps_history contents other None never (inr takes) last same none =
      inr (writes_history (inl (omega (arith, none))) (λ x differs. ap (λ f. f x) same)
      (λ part a. written_none (before name) other (after name) part
      (appends_as b (blank (before name)) n (blank other) part first last a)
      (ap (λ f. f name) same)) takes)
  keeps_history contents other (Some file) never (inl left) last stores one =
      let gone : Some file ≡ None = never left.0 in cc
  keeps_history contents other (Some file) never (inr takes) last stores one =
      inr (writes_history (inr (omega (arith, one))) stores.others
      (λ part a. has_part (before name) (after name) (contents file) part
      (appends_as b (blank (before name)) n (contents file) part first last a) stores.written)
      takes)
