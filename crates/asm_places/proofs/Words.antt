-- A line whose first word is another begins and ends no driver and no routine, and adds no queue
-- and no device.
use Rattle.std.proofs.Common.{◌≡◌, ◌≢◌, ◌∙◌, ◌++◌, ℕ, zero, suc, Bool, true, false, List, [], ◌∷◌, Option, Some, None, refl, sym, take}
use Rattle.std.specs.Prelude.{⊤, ◌||◌, bytes_eq, codes, if◌then◌else◌, nat_eq, option_and_then, option_map, Err}
use Rattle.std.specs.Option.{ok_or}
use Rattle.std.proofs.lemmas.Bool.{cond_both}
use Rattle.std.proofs.lemmas.Slice.Eq.{bytes_eq-Decides}
use Rattle.text.specs.Class.{label_name}
use Rattle.text.specs.Cut.{before, closed, comment_at, is_blank, parts_from, tokens_of}
use Rattle.text.specs.Lexical.{is_lexical}
use Rattle.asm_line.specs.declared.cursor.Cursor.{Cursor}
use Rattle.asm_line.specs.declared.line.Body.{Body}
use Rattle.asm_line.specs.declared.line.Body.TheVariants.{Blank, OpenDriver, CloseDriver, AddQueue, Handle, HandleStartIo, HandleDpc, OpenRoutine, CloseRoutine, AddDevice, Step}
use Rattle.asm_line.specs.declared.line.Line.{Line}
use Rattle.asm_line.specs.declared.line.LineFault.TheVariants.{Lex, UnknownWord}
use Rattle.asm_line.specs.Cursor.{Reading, beginning, major, name, one, optional_name, so_far, then_read, two}
use Rattle.asm_line.specs.Instruction.{instruction}
use Rattle.asm_line.specs.Line.{body, body_of, ended, if_ended, if_in_range, labelled, line_of, line_with, step}
use Rattle.asm_places.specs.Outline.{begins_outline, is_outline_word, outlines}
use Rattle.asm_places.specs.Source.{body_in, body_on}

-- what was read, if anything was, is no such line
abbrev Quiet : Reading Body → Type 0
Quiet None = ⊤
Quiet (Some read) = outlines read.0 ≡ false

abbrev QuietBody : Option Body → Type 0
QuietBody None = ⊤
QuietBody (Some b) = outlines b ≡ false

abbrev QuietLine : Option Line → Type 0
QuietLine None = ⊤
QuietLine (Some l) = outlines l.body ≡ false

then_quiet : {A : Type 0} (r : Reading A) (next : A → Cursor → Reading Body)
    → ((a : A) (c : Cursor) → Quiet (next a c)) → Quiet (then_read r next)
then_quiet None next h = tt
then_quiet (Some read) next h = h read.0 read.1

one_quiet : {A : Type 0} (f : A → Body) → ((a : A) → outlines (f a) ≡ false)
    → (first : Cursor → Reading A) (c : Cursor) → Quiet (one f first c)
one_quiet f q first c = then_quiet (first c) (λ a rest. so_far (f a) rest) (λ a rest. q a)

two_quiet : {A B : Type 0} (f : A → B → Body) → ((a : A) (b : B) → outlines (f a b) ≡ false)
    → (first : Cursor → Reading A) (second : Cursor → Reading B) (c : Cursor)
    → Quiet (two f first second c)
two_quiet f q first second c =
    then_quiet (first c) (λ a rest. one (f a) second rest)
    (λ a rest. one_quiet (f a) (λ b. q a b) second rest)

step_quiet : (t : List ℕ) (c : Cursor) → Quiet (step t c)
step_quiet t c =
    then_quiet (instruction t c)
    (λ i rest. so_far (Step (if_in_range rest.in_range i) rest.used) rest) (λ i rest. refl)

-- neither of two
or_left : (a b : Bool) → (a || b) ≡ false → a ≡ false
or_left true b e = cc
or_left false b e = refl

or_right : (a b : Bool) → (a || b) ≡ false → b ≡ false
or_right true b e = cc
or_right false b e = e

unless : (b : Bool) (x y : Reading Body) → b ≡ false → Quiet y → Quiet (if b then x else y)
unless true x y e q = cc
unless false x y e q = q

either : (b : Bool) (x y : Reading Body) → Quiet x → Quiet y → Quiet (if b then x else y)
either true x y p q = p
either false x y p q = q

-- what another word begins
body_quiet : (t : List ℕ) (c : Cursor) → is_outline_word t ≡ false → Quiet (body t c)
body_quiet t c e =
    let not_driver = or_left (bytes_eq t (codes "driver")) _ e in
    let e1 = or_right (bytes_eq t (codes "driver")) _ e in
    let not_endd = or_left (bytes_eq t (codes "endd")) _ e1 in
    let e2 = or_right (bytes_eq t (codes "endd")) _ e1 in
    let not_queue = or_left (bytes_eq t (codes "queue")) _ e2 in
    let e3 = or_right (bytes_eq t (codes "queue")) _ e2 in
    let not_routine = or_left (bytes_eq t (codes "routine")) _ e3 in
    let e4 = or_right (bytes_eq t (codes "routine")) _ e3 in
    let not_endr = or_left (bytes_eq t (codes "endr")) _ e4 in
    let not_device = or_right (bytes_eq t (codes "endr")) _ e4 in
    unless _ _ _ not_driver
    (unless _ _ _ not_endd
    (unless _ _ _ not_queue
    (either (bytes_eq t (codes "dispatch")) _ _
    (two_quiet (λ m h. Handle m h) (λ m h. refl) major name c)
    (either (bytes_eq t (codes "startio")) _ _
    (two_quiet (λ h k. HandleStartIo h k) (λ h k. refl) name optional_name c)
    (either (bytes_eq t (codes "dpc")) _ _ (one_quiet (λ h. HandleDpc h) (λ h. refl) name c)
    (unless _ _ _ not_routine
    (unless _ _ _ not_endr (unless _ _ _ not_device (step_quiet t c)))))))))

if_ended_quiet : (ts : List (List ℕ)) (b : Body) → outlines b ≡ false → QuietBody (if_ended ts b)
if_ended_quiet [] b q = q
if_ended_quiet (t ∷ ts) b q = tt

ended_quiet : (r : Reading Body) → Quiet r → QuietBody (ended r)
ended_quiet None q = tt
ended_quiet (Some read) q = if_ended_quiet read.1.tokens read.0 q

labelled_quiet : (label : List ℕ) (b : Body) → QuietLine (labelled label b)
labelled_quiet label Blank = tt
labelled_quiet label (OpenDriver name) = tt
labelled_quiet label CloseDriver = tt
labelled_quiet label (AddQueue name guard cancel) = tt
labelled_quiet label (Handle major handler) = tt
labelled_quiet label (HandleStartIo handler cancel) = tt
labelled_quiet label (HandleDpc handler) = tt
labelled_quiet label (OpenRoutine name sort) = tt
labelled_quiet label CloseRoutine = tt
labelled_quiet label (AddDevice name driver stack lower) = tt
labelled_quiet label (Step instr used) = refl

with_label : (label : List ℕ) (o : Option Body)
    → QuietLine (option_and_then (labelled label) o)
with_label label None = tt
with_label label (Some b) = labelled_quiet label b

without_label : (o : Option Body) → QuietBody o
    → QuietLine (option_map (λ b. record { label = None; body = b }) o)
without_label None q = tt
without_label (Some b) q = q

line_quiet : (t : List ℕ) (ts : List (List ℕ)) (label : Option (List ℕ))
    → is_outline_word t ≡ false → QuietLine (line_with (t ∷ ts) label ts)
line_quiet t ts (Some label) e = with_label label (body_of ts)
line_quiet t ts None e =
    without_label (body_of (t ∷ ts))
    (ended_quiet (body t (beginning ts)) (body_quiet t (beginning ts) e))

read_quiet : (fine : Bool) (o : Option Line) → QuietLine o
    → outlines (body_in (if fine then ok_or o UnknownWord else Err Lex)) ≡ false
read_quiet true None q = refl
read_quiet true (Some l) q = q
read_quiet false o q = refl

pub other_word : (raw t : List ℕ) (ts : List (List ℕ)) → tokens_of raw ≡ t ∷ ts
    → is_outline_word t ≡ false → outlines (body_on raw) ≡ false
other_word raw t ts tokens e =
    read_quiet (is_lexical raw) (line_of (tokens_of raw))
    (rw tokens (line_quiet t ts (label_name t) e))

pub no_word : (raw : List ℕ) → tokens_of raw ≡ [] → outlines (body_on raw) ≡ false
no_word raw tokens = read_quiet (is_lexical raw) (line_of (tokens_of raw)) (rw tokens refl)

-- these bytes, if there are any, begin with this one
abbrev Begins : ℕ → List ℕ → Type 0
Begins b [] = ⊤
Begins b (x ∷ xs) = x ≡ b

abbrev FirstBegins : ℕ → List (List ℕ) → Type 0
FirstBegins b [] = ⊤
FirstBegins b (t ∷ ts) = Begins b t

held_first : (h : ℕ) (hs cs : List ℕ) → FirstBegins h (parts_from (h ∷ hs) cs)
held_first h hs [] = refl
held_first h hs (c ∷ cs) =
    cond_both (is_blank c) (closed (h ∷ hs) ++ parts_from [] cs)
    (parts_from (h ∷ (hs ++ c ∷ [])) cs) (λ parts. FirstBegins h parts) (λ is. refl) (λ other. held_first h (hs ++ c ∷ []) cs)

code_first : (o : Option ℕ) (b : ℕ) (bs : List ℕ) → is_blank b ≡ false
    → FirstBegins b (parts_from [] (before o (b ∷ bs)))
code_first None b bs e = rw e (held_first b [] bs)
code_first (Some zero) b bs e = tt
code_first (Some (suc n)) b bs e = rw e (held_first b [] (take n bs))

-- bytes that begin with another one are others
others : (b : Bool) (xs ys : List ℕ) → bytes_eq xs ys ≡ b → xs ≢ ys → bytes_eq xs ys ≡ false
others true xs ys is other = absurd (other ((bytes_eq-Decides xs ys).0 is))
others false xs ys is other = is

apart : (x w : ℕ) (xs ws : List ℕ) → x ≢ w → bytes_eq (x ∷ xs) (w ∷ ws) ≡ false
apart x w xs ws other =
    others (bytes_eq (x ∷ xs) (w ∷ ws)) (x ∷ xs) (w ∷ ws) refl
    (λ same. let heads : x ≡ w = cc in other heads)

-- none of the words begins with another byte
byte_other : (b : ℕ) (t : List ℕ) → Begins b t → nat_eq b 100 ≡ false → nat_eq b 101 ≡ false
    → nat_eq b 113 ≡ false → nat_eq b 114 ≡ false → is_outline_word t ≡ false
byte_other b [] h d e q r = refl
byte_other b (x ∷ xs) h d e q r =
    let not_d : x ≢ 100 = λ is. let never = rw (sym h ∙ is) at d in cc in
    let not_e : x ≢ 101 = λ is. let never = rw (sym h ∙ is) at e in cc in
    let not_q : x ≢ 113 = λ is. let never = rw (sym h ∙ is) at q in cc in
    let not_r : x ≢ 114 = λ is. let never = rw (sym h ∙ is) at r in cc in
    let driver : bytes_eq (x ∷ xs) (codes "driver") ≡ false =
    apart x 100 xs (codes "river") not_d in
    let endd : bytes_eq (x ∷ xs) (codes "endd") ≡ false = apart x 101 xs (codes "ndd") not_e in
    let queue : bytes_eq (x ∷ xs) (codes "queue") ≡ false = apart x 113 xs (codes "ueue") not_q in
    let routine : bytes_eq (x ∷ xs) (codes "routine") ≡ false =
    apart x 114 xs (codes "outine") not_r in
    let endr : bytes_eq (x ∷ xs) (codes "endr") ≡ false = apart x 101 xs (codes "ndr") not_e in
    let device : bytes_eq (x ∷ xs) (codes "device") ≡ false =
    apart x 100 xs (codes "evice") not_d in
    rw (driver, endd, queue, routine, endr, device) refl

tokens_other : (raw : List ℕ) (b : ℕ) (ts : List (List ℕ)) → tokens_of raw ≡ ts
    → FirstBegins b ts → nat_eq b 100 ≡ false → nat_eq b 101 ≡ false → nat_eq b 113 ≡ false
    → nat_eq b 114 ≡ false → outlines (body_on raw) ≡ false
tokens_other raw b [] tokens h d e q r = no_word raw tokens
tokens_other raw b (t ∷ ts) tokens h d e q r =
    other_word raw t ts tokens (byte_other b t h d e q r)

pub other_byte : (raw : List ℕ) → begins_outline raw ≡ false → outlines (body_on raw) ≡ false
other_byte [] e = no_word [] refl
other_byte (b ∷ bs) e =
    let not_blank = or_left (is_blank b) _ e in
    let e1 = or_right (is_blank b) _ e in
    let not_d = or_left (nat_eq b 100) _ e1 in
    let e2 = or_right (nat_eq b 100) _ e1 in
    let not_e = or_left (nat_eq b 101) _ e2 in
    let e3 = or_right (nat_eq b 101) _ e2 in
    let not_q = or_left (nat_eq b 113) _ e3 in
    let not_r = or_right (nat_eq b 113) _ e3 in
    tokens_other (b ∷ bs) b (tokens_of (b ∷ bs)) refl
    (code_first (comment_at (b ∷ bs)) b bs not_blank) not_d not_e not_q not_r
