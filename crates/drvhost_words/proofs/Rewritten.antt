-- What the file has that an image was written to.
use Rattle.std.proofs.Common.{◌≡◌, ◌∙◌, ◌+◌, ◌⊎◌, ℕ, List, [], Option, None, Some, ap, inl, inr, refl, subst, sym}
use Rattle.std.proofs.lemmas.List.{append-nil}
use Rattle.std.specs.Io.KnownBytes.{Appends}
use Rattle.drvhost_devices.specs.declared.fault.End.TheVariants.{Complete}
use Rattle.drvhost_devices.specs.Answer.{Answer, ended}
use Rattle.drvhost_devices.specs.Device.{Bytes, Closed, IsSuppliedAs, Supply, TakesBeginning, Unknown}
use Rattle.drvhost_devices.specs.Ends.{Ends, IsRewriteOf, OutOfMemory, ReadFailed, Rightly, TakesImage, WriteFailed}
use Rattle.answer_explain.proofs.Images.{image_some}
use Rattle.drvhost_files.specs.Files.{Has, IsWritten, Stores, blank, contents_of}
use Rattle.drvhost_words.specs.Program.{RewritesFile, WritesFile}
use Rattle.drvhost_words.proofs.Answering.{rewrite_known}

-- a command that succeeds has written a right answer
done : (R : Answer → Type 0) (reads writes : ℕ) (b n : Option (List ℕ)) (status : ℕ)
    (told : List ℕ) → Ends R reads writes b n status told → status ≡ 0
    → (answer : Answer) × R answer × (answer.status ≡ 0) × Appends b n answer.output
done R reads writes b n status told (Rightly answer right r w s t out) zero =
    (answer, right, sym s ∙ zero, out)
done R reads writes b n status told (ReadFailed r w s t out) zero =
    let no : 2 ≡ 0 = sym s ∙ zero in cc
done R reads writes b n status told (WriteFailed answer right r w s t out) zero =
    let no : 2 ≡ 0 = sym s ∙ zero in cc
done R reads writes b n status told (OutOfMemory r w s t out) zero =
    let no : 3 ≡ 0 = sym s ∙ zero in cc

-- what a file has to which this was written
pub has_part : (before after : Supply) (contents : Option (List ℕ)) (part : List ℕ)
    → Appends (blank before) contents part → IsWritten before after contents
    → Has before after part ⊎ ((part ≡ []) × (after ≡ before))
has_part Unknown after contents part a w = inl tt
has_part Closed after None part a w = absurd a
has_part Closed after (Some bytes) part a (inl has) = inl (has ∙ ap Bytes a)
has_part Closed after (Some bytes) part a (inr same) = inr (sym a ∙ same.0, same.1)
has_part (Bytes held) after None part a w = absurd a
has_part (Bytes held) after (Some bytes) part a (inl has) = inl (has ∙ ap Bytes a)
has_part (Bytes held) after (Some bytes) part a (inr same) = inr (sym a ∙ same.0, same.1)

has_or_same : (before after : Supply) (part : List ℕ)
    → Has before after part ⊎ ((part ≡ []) × (after ≡ before))
    → Has before after part ⊎ (after ≡ before)
has_or_same before after part (inl has) = inl has
has_or_same before after part (inr same) = inr same.1

has_all : (before after : Supply) (all : List ℕ) → (all ≡ [] → ⊥)
    → Has before after all ⊎ ((all ≡ []) × (after ≡ before)) → Has before after all
has_all before after all some (inl has) = has
has_all before after all some (inr same) = absurd (some same.0)

-- nothing was written, and yet so much
has_none : (before other after : Supply) (all : List ℕ) → (all ≡ [] → ⊥)
    → Appends (blank before) (blank other) all → Has before after all
has_none Unknown other after all some a = tt
has_none Closed Unknown after all some a = absurd a
has_none Closed Closed after all some a = absurd (some (sym a))
has_none Closed (Bytes there) after all some a = absurd (some (sym a))
has_none (Bytes held) Unknown after all some a = absurd a
has_none (Bytes held) Closed after all some a = absurd (some (sym a))
has_none (Bytes held) (Bytes there) after all some a = absurd (some (sym a))

pub appends_as : (b c n m : Option (List ℕ)) (bytes : List ℕ) → b ≡ c → n ≡ m → Appends b n bytes
    → Appends c m bytes
appends_as b c n m bytes p q a =
    subst (λ (x : Option (List ℕ)). Appends c x bytes) q
    (subst (λ (x : Option (List ℕ)). Appends x n bytes) p a)

-- one of two that can't be the first
pub then_other : {A B : Type 0} → A ⊎ B → (A → ⊥) → B
then_other (inl a) never = absurd (never a)
then_other (inr b) never = b

-- what was written to a file that wasn't opened yet, by what is known of its name
pub unopened_target : {A N M : Type 0} (f : A → Option (List ℕ)) (k : N → M → Supply) (a c : N)
    (b d : M) (file : Option A) → a ≡ c → b ≡ d → file ≡ None
    → contents_of f (k a b) file ≡ blank (k c d)
unopened_target f k a c b d file p q r =
    ap (contents_of f (k a b)) r ∙ ap (λ x. blank (k x b)) p ∙ ap (λ x. blank (k c x)) q

module _ (known supply : Supply) (h : IsSuppliedAs known supply) (name : List ℕ)
    (before after : List ℕ → Supply) (b n : Option (List ℕ)) (old new status : ℕ)
    (first : b ≡ blank (before name)) where
  -- the file was opened, and has an image, or a beginning of it
  writes_file : (contents : Option (List ℕ)) (image : List ℕ)
      → IsRewriteOf supply (ended Complete image)
      → ((status ≡ 0) × Appends b n image) ⊎ ((status ≡ 2) × TakesBeginning b n image)
      → n ≡ contents → Stores before after name contents → new ≡ old + 1
      → WritesFile known name before after old new status
  writes_file contents image right (inl all) last stores one =
      record {
        one = one;
        image = ended Complete image;
        right = rewrite_known known supply h (ended Complete image) right;
        is = refl;
        part = image;
        rest = [];
        split = sym (append-nil image);
        has = has_or_same (before name) (after name) image
            (has_part (before name) (after name) contents image
            (appends_as b (blank (before name)) n contents image first last all.1) stores.written);
        others = stores.others;
        status_is = inl all.0;
      }
  writes_file contents image right (inr some) last stores one =
      record {
        one = one;
        image = ended Complete image;
        right = rewrite_known known supply h (ended Complete image) right;
        is = refl;
        part = some.1.part;
        rest = some.1.rest;
        split = some.1.split;
        has = has_or_same (before name) (after name) some.1.part
            (has_part (before name) (after name) contents some.1.part
            (appends_as b (blank (before name)) n contents some.1.part first last some.1.appended)
            stores.written);
        others = stores.others;
        status_is = inr some.0;
      }

  module _ (reads writes : ℕ) (told : List ℕ)
      (ends : Ends (IsRewriteOf supply) reads writes b n status told) where
    pub rewrites_some : (contents : Option (List ℕ)) → TakesImage supply b n status
        → n ≡ contents → Stores before after name contents → new ≡ old + 1
        → RewritesFile known name before after old new status
    rewrites_some contents takes last stores one =
        record {
          whole = λ zero.
              let d = done (IsRewriteOf supply) reads writes b n status told ends zero in (
                d.0,
                rewrite_known known supply h d.0 d.1,
                d.2,
                has_all (before name) (after name) d.0.output
                    (image_some supply d.0 d.1 d.2)
                    (has_part (before name) (after name) contents d.0.output
                    (appends_as b (blank (before name)) n contents d.0.output first last d.3)
                    stores.written),
              );
          touched = inr (writes_file contents takes.image takes.right takes.taken last stores one);
        }

    pub rewrites_none : (other : Supply) → n ≡ blank other → after ≡ before → new ≡ old
        → RewritesFile known name before after old new status
    rewrites_none other last same none =
        record {
          whole = λ zero.
              let d = done (IsRewriteOf supply) reads writes b n status told ends zero in (
                d.0,
                rewrite_known known supply h d.0 d.1,
                d.2,
                has_none (before name) other (after name) d.0.output
                    (image_some supply d.0 d.1 d.2)
                    (appends_as b (blank (before name)) n (blank other) d.0.output first last d.3),
              );
          touched = inl (record { supply = same; none = none });
        }
