-- The lines of a listing are read back.
use Rattle.std.proofs.Common.{◌≡◌, ℕ, List, [], ◌∷◌, Option, Some, None, refl, ap, ◌∙◌, map, arith}
use Rattle.std.specs.Prelude.{⊤, option_and_then, option_map, Ok}
use Rattle.std.specs.Fmt.{decimal}
use Rattle.text.specs.Cut.{lines_of}
use Rattle.model.specs.declared.instr.Instr.{Instr}
use Rattle.model.specs.declared.instr.Instr.TheVariants.{End}
use Rattle.asm_line.specs.Cursor as reads
use Rattle.asm_line.specs.Cursor.{Reading, beginning, one, then_read, three}
use Rattle.asm_line.specs.Line.{body_of, ended, if_in_range, labelled, line_of, line_with, read_line}
use Rattle.asm_line.specs.declared.cursor.Cursor.{Cursor}
use Rattle.asm_line.specs.declared.line.Body.{Body}
use Rattle.asm_line.specs.declared.line.Body.TheVariants.{OpenDriver, AddQueue, Handle, HandleStartIo, HandleDpc, OpenRoutine, AddDevice}
use Rattle.asm_line.specs.declared.line.Line.{Line}
use Rattle.asm_line.specs.declared.entry.Entry.{Entry}
use Rattle.asm_line.specs.declared.entry.Entry.TheVariants as line
use Rattle.asm_line.specs.ListedWords.{device, driver, instruction_words, joined, label, major_text, optional, queue, routine, sort_text, spin_lock, words_of}
use Rattle.asm_line.specs.Listing.{text_of}
use Rattle.asm_line.proofs.Digits.{named}
use Rattle.asm_line.proofs.Digits as digits
use Rattle.asm_line.proofs.Instructions.{instruction_back}
use Rattle.asm_line.proofs.Meaning.{meant, EntryFits}
use Rattle.asm_line.proofs.ListedOperands.{at, decimal_back, major_back, name_back, one_read, optional_back, sort_back, spin_lock_back, three_read, two_read}
use Rattle.asm_line.proofs.ListedPlain.{append_plain, decimal_plain, instruction_plain, label_plain, major_plain, numbered_plain, optional_plain, plain_word, sort_plain}
use Rattle.text.specs.Spaced.{ArePlain}
use Rattle.asm_line.proofs.Tokens.{is_lexical_line, joined_clean, line_back, tokens_back}

-- before the first operand, where nothing is noted
abbrev start : Cursor
start = beginning []

pub words_plain : (e : Entry) → EntryFits e → ArePlain (words_of e)
words_plain (line.Driver n) fits =
    (plain_word _ _ refl refl, (numbered_plain 100 n refl refl fits, tt))
words_plain (line.Queue n q) fits = (
  plain_word _ _ refl refl,
  (
    numbered_plain 113 n refl refl fits.0,
    (
      numbered_plain 108 q.guard refl refl (omega (arith, fits.1.0)),
      optional_plain 102 q.cancel refl refl fits.1.1,
    ),
  ),
)
words_plain (line.Handler major n) fits =
    (plain_word _ _ refl refl, (major_plain major, (numbered_plain 102 n refl refl fits, tt)))
words_plain (line.StartIo n cancel) fits = (
  plain_word _ _ refl refl,
  (numbered_plain 102 n refl refl fits.0, optional_plain 102 cancel refl refl fits.1),
)
words_plain (line.Dpc n) fits =
    (plain_word _ _ refl refl, (numbered_plain 102 n refl refl fits, tt))
words_plain (line.Routine n sort) fits =
    (plain_word _ _ refl refl, (numbered_plain 102 n refl refl fits, (sort_plain sort, tt)))
words_plain (line.Step position i) fits =
    append_plain _ _ (label_plain position fits.0) (instruction_plain i fits.1)
words_plain line.EndRoutine fits = (plain_word _ _ refl refl, tt)
words_plain line.EndDriver fits = (plain_word _ _ refl refl, tt)
words_plain (line.Device n d) fits = (
  plain_word _ _ refl refl,
  (
    numbered_plain 118 n refl refl fits.0,
    (
      numbered_plain 100 d.driver refl refl fits.1.0,
      (decimal_plain d.stack fits.1.1.0, optional_plain 118 d.lower refl refl fits.1.1.1),
    ),
  ),
)

-- a line without a label
abbrev unlabelled : Body → Line
unlabelled b = record { label = None; body = b }

-- the word of an instruction is no label
no_label : (i : Instr) → line_of (instruction_words i)
    ≡ option_map unlabelled (body_of (instruction_words i))
no_label End = refl
no_label _ = refl

step_back : (position : Option ℕ) (i : Instr) → EntryFits (line.Step position i)
    → line_of (words_of (line.Step position i)) ≡ Some (meant (line.Step position i))
step_back None i fits =
    no_label i
    ∙ ap (λ (o : Option Body). option_map unlabelled o)
    (instruction_back i fits.1)
step_back (Some n) i fits =
    ap (λ (o : Option (List ℕ)). line_with (words_of (line.Step (Some n) i)) o
    (instruction_words i))
    (digits.label_back (label n) (named 97 n refl fits.0))
    ∙ ap (λ (o : Option Body). option_and_then (labelled (label n)) o) (instruction_back i fits.1)

-- a line that has no label
bodied : (r s : Reading Body) → r ≡ s
    → option_map unlabelled (ended r) ≡ option_map unlabelled (ended s)
bodied r s h = ap (λ (r : Reading Body). option_map unlabelled (ended r)) h

pub words_back : (e : Entry) → EntryFits e → line_of (words_of e) ≡ Some (meant e)
words_back (line.Driver n) fits =
    bodied _ _ (one_read (λ n. OpenDriver n) reads.name (at (driver n ∷ []) start) start (driver n)
    (name_back 100 n [] start refl fits))
words_back (line.Queue n q) fits =
    let cancel = optional routine q.cancel in
    bodied _ _ (ap (λ (r : Reading (List ℕ)). then_read r
    (λ n rest. then_read (reads.spin_lock rest)
    (λ lock rest. one (AddQueue n (if_in_range rest.in_range lock)) reads.optional_name rest)))
    (name_back 113 n (spin_lock q.guard ∷ cancel) start refl fits.0)
    ∙ ap (λ (r : Reading ℕ). then_read r
    (λ lock rest. one (AddQueue (queue n) (if_in_range rest.in_range lock)) reads.optional_name
    rest)) (spin_lock_back q.guard cancel start fits.1.0)
    ∙ one_read (λ c. AddQueue (queue n) (Some q.guard) c) reads.optional_name
    (at cancel start) start
    (option_map routine q.cancel) (optional_back 102 q.cancel start refl fits.1.1))
words_back (line.Handler major n) fits =
    bodied _ _ (two_read Handle reads.major reads.name
    (at (major_text major ∷ routine n ∷ []) start) (at (routine n ∷ []) start) start
    major (routine n)
    (major_back major (routine n ∷ []) start) (name_back 102 n [] start refl fits))
words_back (line.StartIo n cancel) fits =
    let behind = optional routine cancel in
    bodied _ _ (two_read HandleStartIo reads.name reads.optional_name
    (at (routine n ∷ behind) start) (at behind start) start (routine n) (option_map routine cancel)
    (name_back 102 n behind start refl fits.0) (optional_back 102 cancel start refl fits.1))
words_back (line.Dpc n) fits =
    bodied _ _ (one_read (λ n. HandleDpc n) reads.name (at (routine n ∷ []) start) start (routine n)
    (name_back 102 n [] start refl fits))
words_back (line.Routine n sort) fits =
    bodied _ _ (two_read OpenRoutine reads.name reads.sort
    (at (routine n ∷ sort_text sort ∷ []) start) (at (sort_text sort ∷ []) start) start (routine n)
    sort (name_back 102 n (sort_text sort ∷ []) start refl fits) (sort_back sort [] start))
words_back (line.Step position i) fits = step_back position i fits
words_back line.EndRoutine fits = refl
words_back line.EndDriver fits = refl
words_back (line.Device n d) fits =
    let lower = optional device d.lower in
    bodied _ _ (ap (λ (r : Reading (List ℕ)). then_read r
    (λ n rest. three (AddDevice n) reads.name reads.number reads.optional_name rest))
    (name_back 118 n (driver d.driver ∷ decimal d.stack ∷ lower) start refl fits.0)
    ∙ three_read (AddDevice (device n)) reads.name reads.number reads.optional_name
    (at (driver d.driver ∷ decimal d.stack ∷ lower) start) (at (decimal d.stack ∷ lower) start)
    (at lower start) start (driver d.driver) d.stack (option_map device d.lower)
    (name_back 100 d.driver (decimal d.stack ∷ lower) start refl fits.1.0)
    (decimal_back d.stack lower start fits.1.1.0)
    (optional_back 118 d.lower start refl fits.1.1.1))

-- a line is read back
pub entry_back : (e : Entry) → EntryFits e → read_line (joined (words_of e)) ≡ Ok (meant e)
entry_back e fits =
    let plain = words_plain e fits in
    rw (is_lexical_line (words_of e) plain, tokens_back (words_of e) plain, words_back e fits) refl

-- each line of a listing has numbers of a set
abbrev pub AllFit : List Entry → Type 0
AllFit [] = ⊤
AllFit (e ∷ es) = EntryFits e × AllFit es

-- the lines of a listing are those of its text
pub lines_back : (es : List Entry) → AllFit es
    → lines_of (text_of es) ≡ map (λ e. joined (words_of e)) es
lines_back [] fits = refl
lines_back (e ∷ es) fits =
    line_back (joined (words_of e)) (text_of es) (joined_clean (words_of e) (words_plain e fits.0))
    ∙ ap (λ (ls : List (List ℕ)). joined (words_of e) ∷ ls) (lines_back es fits.1)
