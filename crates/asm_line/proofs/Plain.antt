-- Lines of instructions in their usual form are read as the exact reading says.
use Rattle.std.proofs.Common.{◌≡◌, ℕ, ◌+◌, ◌-◌, ◌<◌, ◌≤◌, ◌^◌, nat_eq, nat_le, true, ◌||◌, List, [], ◌∷◌, ◌++◌, length, is_some, Option, Some, None, Ok, refl, sym, arith, append_assoc, codes, length-append}
use Rattle.std.proofs.Math.Seq.{get_or-append_seam, take-append_seam}
use Rattle.std.proofs.lemmas.List.Folds.{list_all-append}
use Rattle.std.proofs.lemmas.Bool.{and_from, ne_eqb, lt-ltb, le-leb, or_right}
use Rattle.std.proofs.lemmas.Bool.Decides.{nat_tests}
use Rattle.std.specs.List.{list_all}
use Rattle.std.specs.Option.{ok_or}
use Rattle.std.specs.Str.Parse.{digits_value}
use Rattle.model.specs.declared.instr.Instr.{Instr}
use Rattle.model.specs.declared.instr.Instr.TheVariants.{Call, Ret}
use Rattle.model.specs.declared.instr.Field.{Field}
use Rattle.model.specs.declared.instr.Field.TheVariants.{Major as MajorField, Argument, Info}
use Rattle.model.specs.declared.instr.Return.TheVariants.{WithStatus, Lower, Continue, Stop, Void}
use Rattle.model.specs.declared.status.Status.{Status}
use Rattle.model.specs.declared.status.Status.TheVariants.{Success, Pending, Busy, Unsuccessful, InvalidParameter, InvalidDeviceRequest, Cancelled}
use Rattle.text.specs.Class.{is_name, is_name_start, is_word, is_number, label_name}
use Rattle.text.specs.Number.{numbered_in}
use Rattle.text.specs.Digits.{BeginsWith, Digits}
use Rattle.text.specs.Spaced.{is_inner, spaced, ArePlain, IsPlain}
use Rattle.text.proofs.Digits.{all_digits, all_inner, digits_number, digits_plain, some_bytes}
use Rattle.text.proofs.Spaced.{plain_word, plain_lexical, plain_tokens}
use Rattle.text.proofs.Words.{name_plain}
use Rattle.text.specs.declared.class.TheConstants.{MAX_NAME}
use Rattle.asm_line.specs.Cursor.{Reading, called, capped, cell, cell_of, constant, constant_of, field, label, lock_of, number, numbered, one, paged_cell, queue, ranged, register, register_of, returned, returned_by, so_far, spin_lock, status, then_read, three, turns, turns_of, two}
use Rattle.asm_line.specs.Line.{body, if_in_range, line_of, read_line}
use Rattle.asm_line.specs.Plain.{unnamed}
use Rattle.asm_line.specs.Usual.{at, same, with_label, with_queue, with_routine, HasOne, HasTwo, Reads, ReadsStep, Takes, TakesName, TakesStatus}
use Rattle.asm_line.specs.Words.{field_of, field_text, status_of, status_text}
use Rattle.asm_line.specs.declared.cursor.Cursor.{Cursor}
use Rattle.asm_line.specs.declared.line.Body.{Body}
use Rattle.asm_line.specs.declared.line.Body.TheVariants.{Step}
use Rattle.asm_line.specs.declared.line.LineFault.TheVariants.{UnknownWord}
use Rattle.asm_line.specs.declared.line.UsedNames.{UsedNames}
use Rattle.asm_line.proofs.Usual.{digits_are_name_bytes}

-- a word and words after it are the tokens of the line
read_plain : (word : List ℕ) (words : List (List ℕ)) → IsPlain word → ArePlain words
    → read_line (word ++ spaced words) ≡ ok_or (line_of (word ∷ words)) UnknownWord
read_plain word words is are =
    rw (plain_lexical word words is are, plain_tokens word words is are) refl

-- a step without a label
step_of : (line : List ℕ) (step : Body) (is : ReadsStep line step)
    → line_of (is.word ∷ is.words) ≡ Some (record { label = None; body = step })
step_of line step is = rw (is.unlabelled, is.says) refl

pub unlabelled_line : (line : List ℕ) (step : Body) → ReadsStep line step
    → read_line line ≡ Ok (record { label = None; body = step })
unlabelled_line line step is =
    rw (is.parts, read_plain is.word is.words is.first is.plain, step_of line step is) refl

-- a step with a label
label_is : (name : List ℕ) → is_name name ≡ true → label_name (name ++ 58 ∷ []) ≡ Some name
label_is name is =
    let long : length (name ++ 58 ∷ []) - 1 ≡ length name =
    omega (arith, length-append name (58 ∷ [])) in
    rw (long, get_or-append_seam name 58 [] 0, take-append_seam name (58 ∷ []), is) refl

label_plain : (name : List ℕ) → is_name name ≡ true → IsPlain (name ++ 58 ∷ [])
label_plain name is = record {
  some = ne_eqb (length (name ++ 58 ∷ [])) 0
      (λ e. omega (arith, e, length-append name (58 ∷ [])));
  inner = rw (list_all-append is_inner name (58 ∷ []), (name_plain name is).inner) refl;
  token = or_right (is_name (name ++ 58 ∷ []) || is_word (name ++ 58 ∷ [])
      || is_number (name ++ 58 ∷ [])) (is_some (label_name (name ++ 58 ∷ [])))
      (rw (label_is name is) refl);
}

pub labelled_line : {raw name rest after : List ℕ} {step : Body} → raw ≡ name ++ rest
    → is_name name ≡ true → rest ≡ codes ": " ++ after → ReadsStep after step
    → read_line raw ≡ Ok (record { label = Some name; body = step })
labelled_line {raw} {name} {rest} {after} {step} parts named behind is =
    let whole : raw ≡ (name ++ 58 ∷ []) ++ spaced (is.word ∷ is.words) =
    rw (parts, behind, is.parts, append_assoc name (58 ∷ []) (spaced (is.word ∷ is.words))) refl in
    let tokens : line_of ((name ++ 58 ∷ []) ∷ is.word ∷ is.words)
    ≡ Some (record { label = Some name; body = step }) =
    rw (label_is name named, is.says, is.labelled name) refl in
    rw (
      whole,
      read_plain (name ++ 58 ∷ []) (is.word ∷ is.words) (label_plain name named)
          (is.first, is.plain),
      tokens,
    ) refl

-- a word's operands, and nothing behind them
pub has_one : {A : Type 0} {read : Cursor → Reading A} {word bytes operands rest : List ℕ} {x : A}
    → bytes ≡ word ++ operands → Takes read same operands x rest → rest ≡ []
    → HasOne read word bytes x
has_one {operands = operands} {rest = rest} parts first done = record {
  operands = operands;
  rest = rest;
  parts = parts;
  first = first;
  done = done;
}

pub has_two : {A B : Type 0} {read : Cursor → Reading A} {next : Cursor → Reading B}
    {note : UsedNames → UsedNames} {word bytes operands between rest : List ℕ} {x : A} {y : B}
    → bytes ≡ word ++ operands → Takes read same operands x between
    → Takes next note between y rest → rest ≡ [] → HasTwo read next note word bytes x y
has_two {operands = operands} {between = between} {rest = rest} parts first second done = record {
  operands = operands;
  between = between;
  rest = rest;
  parts = parts;
  first = first;
  second = second;
  done = done;
}

-- operands of which an instruction is made
pub one_read : {A : Type 0} (f : A → Instr) {first : Cursor → Reading A} {note : UsedNames → UsedNames}
    {a e : List ℕ} {x : A} → Takes first note a x e → e ≡ []
    → Reads (one f first) a (f x) (note unnamed)
one_read f {first} {note} {a} {e} {x} p done = record {
  words = p.word ∷ [];
  parts = rw (p.parts, done) refl;
  plain = (p.plain, tt);
  says = rw (p.reads [] unnamed) refl;
}

pub two_read : {A B : Type 0} (f : A → B → Instr) {first : Cursor → Reading A}
    {second : Cursor → Reading B} {note more : UsedNames → UsedNames} {a b e : List ℕ} {x : A}
    {y : B} → Takes first note a x b → Takes second more b y e → e ≡ []
    → Reads (two f first second) a (f x y) (more (note unnamed))
two_read f {first} {second} {note} {more} {a} {b} {e} {x} {y} p q done = record {
  words = p.word ∷ q.word ∷ [];
  parts = rw (p.parts, q.parts, done) refl;
  plain = (p.plain, (q.plain, tt));
  says = rw (p.reads (q.word ∷ []) unnamed, q.reads [] (note unnamed)) refl;
}

pub three_read : {A B C : Type 0} (f : A → B → C → Instr) {first : Cursor → Reading A}
    {second : Cursor → Reading B} {third : Cursor → Reading C}
    {note more last : UsedNames → UsedNames} {a b c e : List ℕ} {x : A} {y : B} {z : C}
    → Takes first note a x b → Takes second more b y c → Takes third last c z e → e ≡ []
    → Reads (three f first second third) a (f x y z) (last (more (note unnamed)))
three_read f {first} {second} {third} {note} {more} {last} {a} {b} {c} {e} {x} {y} {z} p q r done =
    record {
      words = p.word ∷ q.word ∷ r.word ∷ [];
      parts = rw (p.parts, q.parts, r.parts, done) refl;
      plain = (p.plain, (q.plain, (r.plain, tt)));
      says = rw (
        p.reads (q.word ∷ r.word ∷ []) unnamed,
        q.reads (r.word ∷ []) (note unnamed),
        r.reads [] (more (note unnamed)),
      ) refl;
    }

pub nothing_read : (i : Instr) {e : List ℕ} → e ≡ [] → Reads (so_far i) e i unnamed
nothing_read i done = record { words = []; parts = done; plain = tt; says = refl }

-- what is read of an instruction, as a line
abbrev as_step : Reading Instr → Reading Body
as_step reading =
    then_read reading (λ i rest. so_far (Step (if_in_range rest.in_range i) rest.used) rest)

pub step_read : (word : List ℕ) (reading : Cursor → Reading Instr) → IsPlain word
    → label_name word ≡ None → ((c : Cursor) → body word c ≡ as_step (reading c))
    → {line a : List ℕ} {i : Instr} {used : UsedNames} → line ≡ word ++ a → Reads reading a i used
    → ReadsStep line (Step (Some i) used)
step_read word reading is own begins {line} {a} {i} {used} parts reads = record {
  word = word;
  words = reads.words;
  parts = rw (parts, reads.parts) refl;
  first = is;
  plain = reads.plain;
  says = rw (begins (at reads.words unnamed), reads.says) refl;
  unlabelled = own;
  labelled = λ label. refl;
}

-- a number that is in range
number_taken : {most : ℕ} {line a e : List ℕ} {n : ℕ} (stand_in : ℕ) (of : ℕ → Option ℕ)
    → line ≡ 32 ∷ a → BeginsWith most a n e → n < 2 ^ 64 → of n ≡ Some n
    → Takes (λ c. then_read (number c) (λ n rest. ranged stand_in (of n) rest)) same line n e
number_taken {most} {line} {a} {e} {n} stand_in of parts is small fits = record {
  word = is.digits;
  parts = rw (parts, is.parts) refl;
  plain = digits_plain is.digits is.some is.all;
  reads = λ tokens used. rw (digits_number is.digits n is.some is.all is.writes small, fits) refl;
}

pub turns_taken : {most : ℕ} {line a e : List ℕ} {n : ℕ} → line ≡ codes " " ++ a
    → BeginsWith most a n e → 1 ≤ n → n ≤ 1000 → Takes turns same line n e
turns_taken {n = n} parts is some few =
    number_taken 1 turns_of parts is (omega (arith, few))
    (rw (le-leb 1 n some, le-leb n 1000 few) refl)

pub constant_taken : {most : ℕ} {line a e : List ℕ} {n : ℕ} → line ≡ codes " " ++ a
    → BeginsWith most a n e → n ≤ 4294967295 → Takes constant same line n e
constant_taken {n = n} parts is few =
    number_taken 0 constant_of parts is (omega (arith, few))
    (rw (lt-ltb n (2 ^ 32) (omega (arith, few))) refl)

-- a letter and digits are a name
numbered_token : (letter : ℕ) (ds : List ℕ) → is_name_start letter ≡ true → Digits ds
    → length ds ≤ 2 → is_name (letter ∷ ds) ≡ true
numbered_token letter ds start digits few =
    let fits : nat_le (length (letter ∷ ds)) MAX_NAME ≡ true = grind (arith, nat_tests) in
    rw (start, fits, digits_are_name_bytes ds (all_digits ds digits)) refl

numbered_plain : (letter : ℕ) (ds : List ℕ) → is_name_start letter ≡ true
    → is_inner letter ≡ true → Digits ds → length ds ≤ 2 → IsPlain (letter ∷ ds)
numbered_plain letter ds start inner digits few = record {
  some = some_bytes (letter ∷ ds) (omega arith);
  inner = and_from (is_inner letter) (list_all is_inner ds) inner (all_inner ds digits);
  token = rw (numbered_token letter ds start digits few) refl;
}

numbered_says : (letter : ℕ) (ds : List ℕ) (n : ℕ) → nat_eq letter letter ≡ true → 0 < length ds
    → Digits ds → n ≡ digits_value 10 ds → n < 2 ^ 64
    → capped (numbered_in letter (letter ∷ ds)) ≡ Some n
numbered_says letter ds n same some digits writes small =
    rw (
      same,
      all_digits ds digits,
      some_bytes ds some,
      sym writes,
      lt-ltb n (2 ^ 64) small,
    ) refl

-- a letter and a number that is in range
numbered_taken : {line a e : List ℕ} {n : ℕ} (letter : ℕ) (of : ℕ → Option ℕ)
    → is_name_start letter ≡ true → is_inner letter ≡ true → nat_eq letter letter ≡ true
    → line ≡ 32 ∷ letter ∷ a → BeginsWith 2 a n e → n < 2 ^ 64 → of n ≡ Some n
    → Takes (λ c. then_read (numbered letter c) (λ n rest. ranged 0 (of n) rest)) same line n e
numbered_taken {line} {a} {e} {n} letter of start inner equal parts is small fits = record {
  word = letter ∷ is.digits;
  parts = rw (parts, is.parts) refl;
  plain = numbered_plain letter is.digits start inner is.all is.few;
  reads = λ tokens used.
      rw (numbered_says letter is.digits n equal is.some is.all is.writes small, fits) refl;
}

pub register_taken : {line a e : List ℕ} {n : ℕ} → line ≡ codes " r" ++ a → BeginsWith 2 a n e
    → n < 16 → Takes register same line n e
register_taken {n = n} parts is few =
    numbered_taken 114 register_of refl refl refl parts is (omega (arith, few))
    (rw (lt-ltb n 16 few) refl)

pub spin_lock_taken : {line a e : List ℕ} {n : ℕ} → line ≡ codes " l" ++ a → BeginsWith 2 a n e
    → n < 8 → Takes spin_lock same line n e
spin_lock_taken {n = n} parts is few =
    numbered_taken 108 lock_of refl refl refl parts is (omega (arith, few))
    (rw (lt-ltb n 8 few) refl)

pub cell_taken : {line a e : List ℕ} {n : ℕ} → line ≡ codes " c" ++ a → BeginsWith 2 a n e
    → n < 16 → Takes cell same line n e
cell_taken {n = n} parts is few =
    numbered_taken 99 cell_of refl refl refl parts is (omega (arith, few))
    (rw (lt-ltb n 16 few) refl)

pub paged_cell_taken : {line a e : List ℕ} {n : ℕ} → line ≡ codes " p" ++ a → BeginsWith 2 a n e
    → n < 16 → Takes paged_cell same line n e
paged_cell_taken {n = n} parts is few =
    numbered_taken 112 cell_of refl refl refl parts is (omega (arith, few))
    (rw (lt-ltb n 16 few) refl)

-- names
pub name_taken : {line a name rest : List ℕ} → line ≡ codes " " ++ a → a ≡ name ++ rest
    → is_name name ≡ true → TakesName line name rest
name_taken parts more is = record { parts = rw (parts, more) refl; named = is }

pub label_taken : {line name rest : List ℕ} → TakesName line name rest
    → Takes label (with_label name) line 0 rest
label_taken {line} {name} {rest} is = record {
  word = name;
  parts = is.parts;
  plain = name_plain name is.named;
  reads = λ tokens used. rw is.named refl;
}

pub queue_taken : {line name rest : List ℕ} → TakesName line name rest
    → Takes queue (with_queue name) line 0 rest
queue_taken {line} {name} {rest} is = record {
  word = name;
  parts = is.parts;
  plain = name_plain name is.named;
  reads = λ tokens used. rw is.named refl;
}

pub called_taken : {line name rest : List ℕ} → TakesName line name rest
    → Takes called (with_routine name) line None rest
called_taken {line} {name} {rest} is = record {
  word = name;
  parts = is.parts;
  plain = name_plain name is.named;
  reads = λ tokens used. rw is.named refl;
}

pub none_called : {a e : List ℕ} {x : ℕ} → Takes register same a x e → e ≡ []
    → Reads (two Call register called) a (Call x None) unnamed
none_called {a} {e} {x} p done = record {
  words = p.word ∷ [];
  parts = rw (p.parts, done) refl;
  plain = (p.plain, tt);
  says = rw (p.reads [] unnamed) refl;
}

-- words
status_plain : (s : Status) → IsPlain (status_text s) × (status_of (status_text s) ≡ Some s)
status_plain Success = (plain_word _ refl refl refl, refl)
status_plain Pending = (plain_word _ refl refl refl, refl)
status_plain Busy = (plain_word _ refl refl refl, refl)
status_plain Unsuccessful = (plain_word _ refl refl refl, refl)
status_plain InvalidParameter = (plain_word _ refl refl refl, refl)
status_plain InvalidDeviceRequest = (plain_word _ refl refl refl, refl)
status_plain Cancelled = (plain_word _ refl refl refl, refl)

pub status_taken : {line rest : List ℕ} {s : Status} → TakesStatus line s rest
    → Takes status same line s rest
status_taken {line} {rest} {s} parts = record {
  word = status_text s;
  parts = parts;
  plain = (status_plain s).0;
  reads = λ tokens used. rw ((status_plain s).1) refl;
}

field_plain : (f : Field) → IsPlain (field_text f) × (field_of (field_text f) ≡ Some f)
field_plain MajorField = (plain_word _ refl refl refl, refl)
field_plain Argument = (plain_word _ refl refl refl, refl)
field_plain Info = (plain_word _ refl refl refl, refl)

pub field_taken : {line rest : List ℕ} {f : Field} → line ≡ 32 ∷ field_text f ++ rest
    → Takes field same line f rest
field_taken {line} {rest} {f} parts = record {
  word = field_text f;
  parts = parts;
  plain = (field_plain f).0;
  reads = λ tokens used. rw ((field_plain f).1) refl;
}

-- what `ret` returns
returns_status : (s : Status) (c : Cursor)
    → returned_by (status_text s) c ≡ so_far (WithStatus s) c
returns_status Success c = refl
returns_status Pending c = refl
returns_status Busy c = refl
returns_status Unsuccessful c = refl
returns_status InvalidParameter c = refl
returns_status InvalidDeviceRequest c = refl
returns_status Cancelled c = refl

pub returned_status : {line rest : List ℕ} {s : Status} → TakesStatus line s rest
    → Takes returned same line (WithStatus s) rest
returned_status {line} {rest} {s} parts = record {
  word = status_text s;
  parts = parts;
  plain = (status_plain s).0;
  reads = λ tokens used. returns_status s (at tokens used);
}

pub returns_continue : {line rest : List ℕ} → line ≡ codes " continue" ++ rest
    → Takes returned same line Continue rest
returns_continue parts = record {
  word = codes "continue";
  parts = parts;
  plain = plain_word (codes "continue") refl refl refl;
  reads = λ tokens used. refl;
}

pub returns_stop : {line rest : List ℕ} → line ≡ codes " stop" ++ rest
    → Takes returned same line Stop rest
returns_stop parts = record {
  word = codes "stop";
  parts = parts;
  plain = plain_word (codes "stop") refl refl refl;
  reads = λ tokens used. refl;
}

pub returns_void : {line rest : List ℕ} → line ≡ codes " void" ++ rest
    → Takes returned same line Void rest
returns_void parts = record {
  word = codes "void";
  parts = parts;
  plain = plain_word (codes "void") refl refl refl;
  reads = λ tokens used. refl;
}

pub lower_taken : {a e : List ℕ} {x : ℕ} → Takes register same a x e → e ≡ []
    → Reads (one Ret returned) (codes " lower" ++ a) (Ret (Lower x)) unnamed
lower_taken {a} {e} {x} p done = record {
  words = codes "lower" ∷ p.word ∷ [];
  parts = rw (p.parts, done) refl;
  plain = (plain_word (codes "lower") refl refl refl, (p.plain, tt));
  says = rw (p.reads [] unnamed) refl;
}
