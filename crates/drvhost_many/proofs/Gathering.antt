-- Answers for several files, of which some are gathered before they go out.
use Rattle.std.proofs.Common.{◌≡◌, ◌∙◌, ◌⊎◌, ◌+◌, ◌<◌, ℕ, List, [], ◌++◌, Option, Result, Ok, Err, ap, append-nil, append_assoc, get_or, inl, inr, length, max, refl, subst, sym, take}
use Rattle.std.specs.Prelude.{codes}
use Rattle.std.specs.Io.KnownBytes.{Appends}
use Rattle.drvhost_devices.specs.Answer.{Answer}
use Rattle.drvhost_devices.specs.Device.{Says, SaysBehind, TakesBeginning}
use Rattle.drvhost_devices.specs.Told.{joined}
use Rattle.drvhost_devices.proofs.Writing.{appends_more, appends_none, behind_more, keeps_same, writes_behind}
use Rattle.cli.specs.declared.job.Judging.{Judging}
use Rattle.drvhost_files.specs.declared.reading.Held.{Held}
use Rattle.drvhost_many.specs.All.{nothing}
use Rattle.drvhost_many.specs.Held.{AreToldOf, DeliversEach, IsAmong, IsToldOf}
use Rattle.drvhost_many.specs.One.{Delivers, IsLost}
use Rattle.drvhost_many.specs.declared.many.Halt.TheVariants.{Write}
use Rattle.drvhost_many.proofs.Reading.{among_at, joined_next}

-- the last of the answers so far, which tells nothing
pub record Quiet (judging : Judging) (held : List Held) (first : Answer) : Type 0 where
  pub one : Held
  pub others : Answer
  pub told : Answer
  pub among : IsAmong judging held one others
  pub is : IsToldOf judging one told
  pub whole : first ≡ joined others told
  pub quiet : told.told ≡ []

-- so many files are answered: a part of the output went out, the rest of it is gathered, and all
-- that is told was told
pub record Gathers (judging : Judging) (held : List Held) (i status : ℕ) (left : List ℕ)
    (before after : Option (List ℕ)) (Tells : List ℕ → Type 0) : Type 0 where
  pub first : Answer
  pub sent : List ℕ
  pub answers : AreToldOf judging (take i held) first
  pub ended : status ≡ first.status
  pub whole : first.output ≡ sent ++ left
  pub out : Appends before after sent
  pub tells : Tells first.told
  pub last : (left ≡ []) ⊎ Quiet judging held first

-- nothing more is told
behind_none : (failures e : ℕ) (p : Option (List ℕ)) → SaysBehind failures e e p p []
behind_none failures e p start told says =
    subst (Says failures e start p) (sym (append-nil told)) says

-- none is answered so far
pub gathers_none : (judging : Judging) (held : List Held) (failures e : ℕ) (b p : Option (List ℕ))
    → Gathers judging held 0 0 [] b b (SaysBehind failures e e p p)
gathers_none judging held failures e b p =
    record {
      first = nothing;
      sent = [];
      answers = refl;
      ended = refl;
      whole = refl;
      out = appends_none b b (keeps_same b);
      tells = behind_none failures e p;
      last = inl refl;
    }

-- one more, which tells nothing, is gathered
pub gathers_one : (judging : Judging) (held : List Held) (i status : ℕ) (one : Held)
    (told : Answer) (left : List ℕ) (b m : Option (List ℕ)) (Tells : List ℕ → Type 0)
    → i < length held → one ≡ get_or held i one → IsToldOf judging one told → told.told ≡ []
    → Gathers judging held i status left b m Tells
    → Gathers judging held (i + 1) (max status told.status) (left ++ told.output) b m Tells
gathers_one judging held i status one told left b m Tells less at is quiet g =
    record {
      first = joined g.first told;
      sent = g.sent;
      answers = joined_next (IsToldOf judging) held i one g.first told less at g.answers is;
      ended = ap (λ s. max s told.status) g.ended;
      whole = ap (λ o. o ++ told.output) g.whole ∙ append_assoc g.sent left told.output;
      out = g.out;
      tells = subst Tells
          (sym (append-nil g.first.told) ∙ ap (λ t. g.first.told ++ t) (sym quiet)) g.tells;
      last = inr (record {
        one = one;
        others = g.first;
        told = told;
        among = among_at judging held i one g.first less at g.answers;
        is = is;
        whole = refl;
        quiet = quiet;
      });
    }

-- one more goes out by itself
pub gathers_apart : (judging : Judging) (held : List Held) (i status s : ℕ) (one : Held)
    (told : Answer) (failures e f h w x : ℕ) (b m n p q t : Option (List ℕ))
    → i < length held → one ≡ get_or held i one → IsToldOf judging one told
    → Gathers judging held i status [] b m (SaysBehind failures e f p q)
    → Delivers told w x m n (SaysBehind failures f h q t) (Ok s)
    → Gathers judging held (i + 1) (max status told.status) [] b n (SaysBehind failures e h p t)
gathers_apart judging held i status s one told failures e f h w x b m n p q t less at is g came =
    record {
      first = joined g.first told;
      sent = g.sent ++ told.output;
      answers = joined_next (IsToldOf judging) held i one g.first told less at g.answers is;
      ended = ap (λ s. max s told.status) g.ended;
      whole = ap (λ o. o ++ told.output) (g.whole ∙ append-nil g.sent)
          ∙ sym (append-nil (g.sent ++ told.output));
      out = appends_more b m n g.sent told.output g.out came.2;
      tells = behind_more failures e f h p q t g.first.told told.told g.tells came.3;
      last = inl refl;
    }

-- what is gathered goes out
pub gathers_written : (judging : Judging) (held : List Held) (i status : ℕ) (left l : List ℕ)
    (failures e f k : ℕ) (b m n p q r : Option (List ℕ)) → l ≡ left → k ≡ f → r ≡ q
    → Gathers judging held i status left b m (SaysBehind failures e f p q) → Appends m n l
    → Gathers judging held i status [] b n (SaysBehind failures e k p r)
gathers_written judging held i status left l failures e f k b m n p q r same counts contents g more =
    record {
      first = g.first;
      sent = g.sent ++ left;
      answers = g.answers;
      ended = g.ended;
      whole = g.whole ∙ sym (append-nil (g.sent ++ left));
      out = appends_more b m n g.sent left g.out (subst (Appends m n) same more);
      tells = subst (λ x. SaysBehind failures e x p r g.first.told) (sym counts)
          (subst (λ x. SaysBehind failures e f p x g.first.told) (sym contents) g.tells);
      last = inl refl;
    }

-- where nothing is gathered, all of it went out
pub all_out : (judging : Judging) (held : List Held) (i status : ℕ) (b n : Option (List ℕ))
    (Tells : List ℕ → Type 0) (g : Gathers judging held i status [] b n Tells)
    → Appends b n g.first.output
all_out judging held i status b n Tells g =
    subst (Appends b n) (sym (g.whole ∙ append-nil g.sent)) g.out

-- the same of what is equal
pub gathers_same : (judging : Judging) (held : List Held) (i status s : ℕ) (left l : List ℕ)
    (failures e f k : ℕ) (b n o p q r : Option (List ℕ)) → s ≡ status → l ≡ left → k ≡ f → o ≡ n
    → r ≡ q → Gathers judging held i status left b n (SaysBehind failures e f p q)
    → Gathers judging held i s l b o (SaysBehind failures e k p r)
gathers_same judging held i status s left l failures e f k b n o p q r ended same counts out contents g =
    let one = subst (λ x. Gathers judging held i x left b n (SaysBehind failures e f p q)) (sym ended) g in
    let two = subst (λ x. Gathers judging held i s x b n (SaysBehind failures e f p q)) (sym same) one in
    let three = subst (λ x. Gathers judging held i s l b n (SaysBehind failures e x p q)) (sym counts) two in
    let four = subst (λ x. Gathers judging held i s l b x (SaysBehind failures e k p q)) (sym out) three in
    subst (λ x. Gathers judging held i s l b o (SaysBehind failures e k p x)) (sym contents) four

-- its write fails, behind the last that was gathered
lost_behind : (judging : Judging) (held : List Held) (first : Answer) (sent left : List ℕ)
    (failures e f h w x : ℕ) (b m n p q t : Option (List ℕ))
    → first.output ≡ sent ++ left → Appends b m sent → SaysBehind failures e f p q first.told
    → (left ≡ []) ⊎ Quiet judging held first
    → IsLost left w x m n (SaysBehind failures f h q t)
    → DeliversEach judging held w x b n (SaysBehind failures e h p t) (Err Write)
lost_behind judging held first sent left failures e f h w x b m n p q t whole out tells (inl none) lost =
    absurd (lost.some none)
lost_behind judging held first sent left failures e f h w x b m n p q t whole out tells (inr last) lost =
    let output : sent ++ left ≡ last.others.output ++ last.told.output =
    sym whole ∙ ap (λ (a : Answer). a.output) last.whole in
    let words : first.told ≡ last.others.told =
    ap (λ (a : Answer). a.told) last.whole ∙ ap (λ l. last.others.told ++ l) last.quiet
    ∙ append-nil last.others.told in
    let none : Result ℕ ℕ = Err 0 in
    let P : List ℕ → Type 0 = λ l. SaysBehind failures e h p t (l ++ codes "write failed\n") in (
      last.one,
      last.others,
      last.told,
      last.among,
      last.is,
      lost.more,
      subst (TakesBeginning b n) output (writes_behind none b m n sent left out lost.taken),
      subst P words
          (behind_more failures e f h p q t first.told (codes "write failed\n") tells lost.says),
    )

pub gathers_lost : (judging : Judging) (held : List Held) (i status : ℕ) (left l : List ℕ)
    (failures e f h w v x : ℕ) (b m n p q t : Option (List ℕ)) → l ≡ left → v ≡ w
    → Gathers judging held i status left b m (SaysBehind failures e f p q)
    → IsLost l v x m n (SaysBehind failures f h q t)
    → DeliversEach judging held w x b n (SaysBehind failures e h p t) (Err Write)
gathers_lost judging held i status left l failures e f h w v x b m n p q t same counts g lost =
    let one = subst (λ y. IsLost y v x m n (SaysBehind failures f h q t)) same lost in
    let two = subst (λ y. IsLost left y x m n (SaysBehind failures f h q t)) counts one in
    lost_behind judging held g.first g.sent left failures e f h w x b m n p q t g.whole g.out
    g.tells g.last two
