-- The text of a message (3.11). A message that has placeholders has them in braces, so that a brace
-- that stands for itself is doubled (3.11.5). A message in plain text has links in square brackets,
-- in which a backslash escapes such a bracket, or another backslash (3.11.6).
use Rattle.std.specs.Prelude.{ℕ, ◌++◌, ◌||◌, Bool, chars, codes, encode_utf8, if◌then◌else◌, List, [], ◌∷◌, nat_eq, Option, None, Some}
use Rattle.report_sarif.specs.declared.message.Form.{Form}
use Rattle.report_sarif.specs.declared.message.Form.TheVariants.{Markdown, Plain}

-- `{` or `}`
abbrev pub is_brace : ℕ → Bool
is_brace c = nat_eq c 123 || nat_eq c 125

-- `[`, `\` or `]`
abbrev pub is_of_link : ℕ → Bool
is_of_link c = nat_eq c 91 || (nat_eq c 92 || nat_eq c 93)

-- what is put before a character: a brace before a brace, and, in plain text, `\` before one of a
-- link
abbrev pub escape_in : Form → Option ℕ
escape_in Plain = Some 92
escape_in Markdown = None

abbrev pub mark_of_link : Form → ℕ → Option ℕ
mark_of_link form c = if is_of_link c then escape_in form else None

abbrev pub mark_before : Form → ℕ → Option ℕ
mark_before form c = if is_brace c then Some c else mark_of_link form c

-- characters, each behind what is put before it, in UTF-8
abbrev pub marked : Option ℕ → ℕ → List ℕ
marked None c = encode_utf8 c
marked (Some mark) c = encode_utf8 mark ++ encode_utf8 c

abbrev pub all_marked : Form → List ℕ → List ℕ
all_marked form [] = []
all_marked form (c ∷ cs) = marked (mark_before form c) c ++ all_marked form cs

-- the message that shows a text
abbrev pub message_of : Form → List ℕ → List ℕ
message_of form text = all_marked form (chars text)

-- a page in Markdown: the lines of a block of code, as they are
abbrev pub markdown_of : List ℕ → List ℕ
markdown_of page = codes "```text\n" ++ (message_of Markdown page ++ codes "\n```\n")
