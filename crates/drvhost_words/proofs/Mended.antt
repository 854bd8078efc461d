-- What the file has to whose text a mend is applied.
use Rattle.std.proofs.Common.{◌≡◌, ◌∙◌, ◌+◌, ◌⊎◌, ℕ, List, [], Option, None, Some, ap, arith, inl, inr, refl, sym}
use Rattle.std.proofs.lemmas.List.{append-nil}
use Rattle.std.specs.Io.KnownBytes.{Appends}
use Rattle.drvhost_devices.specs.Answer.{Answer, IsUnopened}
use Rattle.drvhost_devices.specs.Device.{Bytes, Closed, IsSuppliedAs, Supply, Unknown}
use Rattle.drvhost_devices.specs.Ends.{Answers, Ends, OutOfMemory, ReadFailed, Rightly, WriteFailed}
use Rattle.drvhost_files.specs.Files.{IsWritten, Stores, blank}
use Rattle.drvhost_files.proofs.Known.{holds_known}
use Rattle.drvhost_many.proofs.Judged.{ends_rightly}
use Rattle.answer_mends.specs.declared.apply.ApplyOptions.{ApplyOptions}
use Rattle.answer_mends.specs.Apply.{IsApplyOf, IsApplyWith, LeavesFor, TakesMade}
use Rattle.drvhost_words.specs.Program.{MendsFile, WritesMend}
use Rattle.drvhost_words.proofs.Rewritten.{appends_as, has_part}

-- where more answers are right, and as many reads and writes failed by other counts
pub answers_moved : (R Q : Answer → Type 0) (k m i j w x u v : ℕ) (b n : Option (List ℕ))
    (Tells : List ℕ → Type 0) (status : ℕ) → Answers R k m w x b n Tells status
    → ((answer : Answer) → R answer → Q answer) → j + k ≡ i + m → v + w ≡ u + x
    → Answers Q i j u v b n Tells status
answers_moved R Q k m i j w x u v b n Tells status a on same moved =
    record {
      reads = a.reads;
      writes = a.writes;
      told = a.told;
      reads_are = let are : m ≡ k + a.reads = a.reads_are in omega arith;
      writes_are = let are : x ≡ w + a.writes = a.writes_are in omega arith;
      tells = a.tells;
      ends = ends_rightly R Q a.reads a.writes b n status a.told on a.ends;
    }

-- a file that can't be opened is told with status 2, or 3 where memory ran out
pub told_unopened : {A : Type 0} (name : List ℕ) (reads writes : ℕ) (b n : Option (List ℕ))
    (status : ℕ) (told : List ℕ) → Ends (IsUnopened name) reads writes b n status told
    → (status ≡ 2) ⊎ (status ≡ 3) ⊎ A
told_unopened name reads writes b n status told (Rightly answer right r w s t out) =
    inl (s ∙ ap (λ a. a.status) right)
told_unopened name reads writes b n status told (ReadFailed r w s t out) = inl s
told_unopened name reads writes b n status told (WriteFailed answer right r w s t out) = inl s
told_unopened name reads writes b n status told (OutOfMemory r w s t out) = inr (inl s)

module _ (asked : ApplyOptions) (known supply : Supply) (h : IsSuppliedAs known supply) where
  -- what is right for a file is right for what is known of it
  with_known : (written : Option (List ℕ)) (answer : Answer)
      → IsApplyWith asked supply written answer → IsApplyWith asked known written answer
  with_known None answer (bytes, holds, right) =
      (bytes, holds_known known supply bytes h holds, right)
  with_known (Some made) answer (bytes, holds, right) =
      (bytes, holds_known known supply bytes h holds, right)

  pub apply_known : (answer : Answer) → IsApplyOf asked supply answer → IsApplyOf asked known answer
  apply_known answer (written, right) = (written, with_known written answer right)

  left_for : (shown_before shown_after : Option (List ℕ)) (status : ℕ)
      → LeavesFor asked supply shown_before shown_after status
      → (status ≡ 2) ⊎ (status ≡ 3)
      ⊎ ((answer : Answer) × IsApplyWith asked known None answer × (status ≡ answer.status))
  left_for shown_before shown_after status (inl two) = inl two
  left_for shown_before shown_after status (inr (inl three)) = inr (inl three)
  left_for shown_before shown_after status (inr (inr (answer, right, is, shown))) =
      inr (inr (answer, with_known None answer right, is))

-- nothing was written to a file that wasn't opened
pub written_none : (before other after : Supply) (part : List ℕ)
    → Appends (blank before) (blank other) part → after ≡ before
    → IsWritten before after (Some part)
written_none Unknown other after part a same = inl tt
written_none Closed Unknown after part a same = absurd a
written_none Closed Closed after part a same = inr (sym a, same)
written_none Closed (Bytes there) after part a same = inr (sym a, same)
written_none (Bytes held) Unknown after part a same = absurd a
written_none (Bytes held) Closed after part a same = inr (sym a, same)
written_none (Bytes held) (Bytes there) after part a same = inr (sym a, same)

module _ (asked : ApplyOptions) (name : List ℕ) (before after : List ℕ → Supply) (supply : Supply)
    (h : IsSuppliedAs (before name) supply) (old new status : ℕ)
    (shown_before shown_after b n : Option (List ℕ)) where
  -- a text was written of which the file has so much as was taken
  writes_mend : (new ≡ old) ⊎ (new ≡ old + 1)
      → ((other : List ℕ) → (other ≡ name → ⊥) → after other ≡ before other)
      → ((part : List ℕ) → Appends b n part → IsWritten (before name) (after name) (Some part))
      → TakesMade asked supply shown_before shown_after b n status
      → WritesMend asked name before after old new status
  writes_mend one others has takes =
      elim takes.taken [
        | inl all ↦ record {
          one = one;
          answer = takes.answer;
          made = takes.made;
          right = with_known asked (before name) supply h (Some takes.made) takes.answer takes.right;
          part = takes.made;
          rest = [];
          split = sym (append-nil takes.made);
          has = has takes.made all.1;
          others = others;
          status_is = inl (all.0, refl);
        }
        | inr some ↦ record {
          one = one;
          answer = takes.answer;
          made = takes.made;
          right = with_known asked (before name) supply h (Some takes.made) takes.answer takes.right;
          part = some.1.part;
          rest = some.1.rest;
          split = some.1.split;
          has = has some.1.part some.1.appended;
          others = others;
          status_is = inr some.0;
        }
      ]

  -- the file was opened
  pub mends_some : (contents : Option (List ℕ)) → b ≡ blank (before name)
      → TakesMade asked supply shown_before shown_after b n status
      → n ≡ contents → Stores before after name contents → new ≡ old + 1
      → MendsFile asked name before after old new status
  mends_some contents first takes last stores one =
      inr (writes_mend (inr one) stores.others
      (λ part a. has_part (before name) (after name) contents part
      (appends_as b (blank (before name)) n contents part first last a) stores.written) takes)

  -- it was not
  pub mends_none : {A : Type 0} (other : Supply) → b ≡ blank (before name)
      → (A × LeavesFor asked supply shown_before shown_after status)
      ⊎ TakesMade asked supply shown_before shown_after b n status
      → n ≡ blank other → after ≡ before → new ≡ old
      → MendsFile asked name before after old new status
  mends_none other first (inl left) last same none =
      inl (
        record { supply = same; none = none },
        left_for asked (before name) supply h shown_before shown_after status left.1,
      )
  mends_none other first (inr takes) last same none =
      inr (writes_mend (inl none) (λ x differs. ap (λ f. f x) same)
      (λ part a. written_none (before name) other (after name) part
      (appends_as b (blank (before name)) n (blank other) part first last a)
      (ap (λ f. f name) same)) takes)
