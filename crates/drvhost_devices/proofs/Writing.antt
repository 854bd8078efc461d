-- What a source gave and a sink took, call after call.
use Rattle.std.proofs.Common.{◌≡◌, ◌∙◌, ℕ, List, [], ◌++◌, Option, Some, None, Result, Ok, Err, refl, sym, ap, subst, append_assoc}
use Rattle.std.proofs.lemmas.List.{append-nil}
use Rattle.std.specs.Io.KnownBytes.{Appends, Keeps}
use Rattle.drvhost_devices.specs.Device.{Adds, Says, SaysBehind, TakesBeginning, Writes}

pub keeps_same : (a : Option (List ℕ)) → Keeps a a
keeps_same None = tt
keeps_same (Some xs) = refl

pub appends_none : (a b : Option (List ℕ)) → Keeps a b → Appends a b []
appends_none None b h = tt
appends_none (Some xs) None h = h
appends_none (Some xs) (Some ys) h = h ∙ sym (append-nil xs)

pub appends_more : (a b c : Option (List ℕ)) (xs ys : List ℕ) → Appends a b xs → Appends b c ys
    → Appends a c (xs ++ ys)
appends_more None b c xs ys p q = tt
appends_more (Some l) None c xs ys p q = absurd p
appends_more (Some l) (Some m) None xs ys p q = q
appends_more (Some l) (Some m) (Some n) xs ys p q = q ∙ ap (λ t. t ++ ys) p ∙ append_assoc l xs ys

-- of some bytes and more behind them a beginning is taken
pub begins_before : (b n : Option (List ℕ)) (xs ys : List ℕ) → TakesBeginning b n xs
    → TakesBeginning b n (xs ++ ys)
begins_before b n xs ys p =
    record {
      part = p.part;
      rest = p.rest ++ ys;
      split = ap (λ x. x ++ ys) p.split ∙ append_assoc p.part p.rest ys;
      appended = p.appended;
    }

begins_behind : (b m n : Option (List ℕ)) (xs ys : List ℕ) → Appends b m xs
    → TakesBeginning m n ys → TakesBeginning b n (xs ++ ys)
begins_behind b m n xs ys a p =
    record {
      part = xs ++ p.part;
      rest = p.rest;
      split = ap (λ y. xs ++ y) p.split ∙ sym (append_assoc xs p.part p.rest);
      appended = appends_more b m n xs p.part a p.appended;
    }

pub writes_behind : {T E : Type 0} (r : Result T E) (b m n : Option (List ℕ)) (xs ys : List ℕ)
    → Appends b m xs → Writes m r n ys → Writes b r n (xs ++ ys)
writes_behind (Ok x) b m n xs ys a w = appends_more b m n xs ys a w
writes_behind (Err e) b m n xs ys a w = begins_behind b m n xs ys a w

-- two texts are said behind, one after the other
pub behind_more : (failures old mid new : ℕ) (b m n : Option (List ℕ)) (xs ys : List ℕ)
    → SaysBehind failures old mid b m xs → SaysBehind failures mid new m n ys
    → SaysBehind failures old new b n (xs ++ ys)
behind_more failures old mid new b m n xs ys first second start told says =
    let P : List ℕ → Type 0 = Says failures new start n in
    subst P (append_assoc told xs ys) (second start (told ++ xs) (first start told says))

-- lines that gather
pub adds_none : (b : Option (List ℕ)) (l : List ℕ) → Adds b b l l []
adds_none b l =
    record { written = []; appended = appends_none b b (keeps_same b); whole = append-nil l }

pub adds_line : (b m : Option (List ℕ)) (g l t line : List ℕ) → Adds b m g l t
    → Adds b m g (l ++ line) (t ++ line)
adds_line b m g l t line a =
    record {
      written = a.written;
      appended = a.appended;
      whole = sym (append_assoc g t line) ∙ ap (λ x. x ++ line) a.whole
          ∙ append_assoc a.written l line;
    }

pub adds_more : (b m n : Option (List ℕ)) (g l k t u : List ℕ) → Adds b m g l t → Adds m n l k u
    → Adds b n g k (t ++ u)
adds_more b m n g l k t u a d =
    record {
      written = a.written ++ d.written;
      appended = appends_more b m n a.written d.written a.appended d.appended;
      whole = sym (append_assoc g t u) ∙ ap (λ x. x ++ u) a.whole ∙ append_assoc a.written l u
          ∙ ap (λ x. a.written ++ x) d.whole ∙ sym (append_assoc a.written d.written k);
    }

-- where the gathered lines are all written, or a beginning of them
pub adds_all : (b m n : Option (List ℕ)) (g l t : List ℕ) → Adds b m g l t → Appends m n l
    → Adds b n g [] t
adds_all b m n g l t a p =
    record {
      written = a.written ++ l;
      appended = appends_more b m n a.written l a.appended p;
      whole = a.whole ∙ sym (append-nil (a.written ++ l));
    }

pub adds_breaks : (b m n : Option (List ℕ)) (g l t more : List ℕ) → Adds b m g l t
    → TakesBeginning m n l → TakesBeginning b n (g ++ (t ++ more))
adds_breaks b m n g l t more a p =
    record {
      part = a.written ++ p.part;
      rest = p.rest ++ more;
      split = sym (append_assoc g t more)
          ∙ ap (λ x. x ++ more) (a.whole ∙ ap (λ x. a.written ++ x) p.split
          ∙ sym (append_assoc a.written p.part p.rest))
          ∙ append_assoc (a.written ++ p.part) p.rest more;
      appended = appends_more b m n a.written p.part a.appended p.appended;
    }

-- of a text, what was added so far and what is still to come
pub record Gathered (all later : List ℕ) (b n : Option (List ℕ)) (gathered left : List ℕ) : Type 0
  where
    pub text : List ℕ
    pub whole : all ≡ text ++ later
    pub adds : Adds b n gathered left text

-- some of the lines are written
pub gathered_room : (all later : List ℕ) (b m n : Option (List ℕ)) (g l k : List ℕ)
    → Gathered all later b m g l → Adds m n l k [] → Gathered all later b n g k
gathered_room all later b m n g l k h a =
    let P : List ℕ → Type 0 = Adds b n g k in
    record {
      text = h.text;
      whole = h.whole;
      adds =
          subst P (append-nil h.text) (adds_more b m n g l k h.text [] h.adds a);
    }

-- one line more
pub gathered_line : (all later line after : List ℕ) (b n : Option (List ℕ)) (g l : List ℕ)
    → Gathered all later b n g l → later ≡ line ++ after
    → Gathered all after b n g (l ++ line)
gathered_line all later line after b n g l h e =
    record {
      text = h.text ++ line;
      whole = h.whole ∙ ap (λ x. h.text ++ x) e ∙ sym (append_assoc h.text line after);
      adds = adds_line b n g l h.text line h.adds;
    }

-- a write fails
pub gathered_broken : (all later : List ℕ) (b m n : Option (List ℕ)) (g l : List ℕ)
    → Gathered all later b m g l → TakesBeginning m n l → TakesBeginning b n (g ++ all)
gathered_broken all later b m n g l h p =
    let P : List ℕ → Type 0 = λ x. TakesBeginning b n (g ++ x) in
    subst P (sym h.whole) (adds_breaks b m n g l h.text later h.adds p)

pub gathered_part : (all later lines after : List ℕ) (b m n : Option (List ℕ)) (g l : List ℕ)
    → Gathered all later b m g l → later ≡ lines ++ after
    → TakesBeginning m n (l ++ lines) → TakesBeginning b n (g ++ all)
gathered_part all later lines after b m n g l h e p =
    gathered_broken all after b m n g (l ++ lines)
    (gathered_line all later lines after b m g l h e) p
