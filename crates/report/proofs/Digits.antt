-- The block of a number when the number goes up.
use Rattle.std.proofs.Common.{◌≡◌, ◌≤◌, ◌<◌, ℕ, subst, ◌+◌, ◌-◌, ◌*◌, ◌/◌, ◌%◌, ◌^◌, List, [], ◌∷◌, ◌++◌, length, get_or, slice_set, take, drop, arith, ap, sym, refl, ◌∙◌, inl, inr, append_assoc, length-append, take_at}
use Rattle.std.proofs.lemmas.Bool.{cases_lt}
use Rattle.std.proofs.lemmas.Fmt.{decimal_digit, decimal_step, decimal_step_wide, length-decimal-le_wide}
use Rattle.std.proofs.lemmas.List.{get_or_at, same_from_push, set_at, take-append-drop}
use Rattle.std.specs.Fmt.{decimal}
use Rattle.report.specs.ReadyLine.{IsReady}

-- two numbers that differ in their last digit alone
record Differ (m n : ℕ) : Type 0 where
  front : List ℕ
  one : decimal m ≡ front ++ (48 + m % 10) ∷ []
  other : decimal n ≡ front ++ (48 + n % 10) ∷ []

differ : (m n : ℕ) → m / 10 ≡ n / 10 → m < 2 ^ 65 → n < 2 ^ 65 → Differ m n
differ m n same one other = elim (cases_lt n 10) [
  | inl low ↦
      let m_is : m % 10 ≡ m = omega arith in
      let n_is : n % 10 ≡ n = omega arith in
      record {
        front = [];
        one = decimal_digit m (omega arith) ∙ ap (λ d. (48 + d) ∷ []) (sym m_is);
        other = decimal_digit n low ∙ ap (λ d. (48 + d) ∷ []) (sym n_is);
      }
  | inr high ↦
      record {
        front = decimal (n / 10);
        one = decimal_step_wide m (omega arith) (omega arith)
            ∙ ap (λ q. decimal q ++ (48 + m % 10) ∷ []) same;
        other = decimal_step_wide n high (omega arith);
      }
]

-- how many digits there are
pub digits_long : (n place : ℕ) (text block : List ℕ) → IsReady n place text block
    → length (decimal n) ≡ place + 1
digits_long n place text block r =
    let whole : length (decimal n) ≡ length (r.front ++ (48 + n % 10) ∷ []) = ap length r.digits in
    omega (arith, length-append r.front ((48 + n % 10) ∷ []), r.long, whole)

pub place_short : (n place : ℕ) (text block : List ℕ) → IsReady n place text block → n < 2 ^ 65
    → place + 1 ≤ 20
place_short n place text block r small =
    omega (
      arith,
      digits_long n place text block r,
      length-decimal-le_wide 20 n (omega arith) (omega arith) (omega arith),
    )

-- the block serves each number that differs in its last digit alone
pub ready_other : (m n place : ℕ) (text block : List ℕ) → IsReady m place text block
    → m / 10 ≡ n / 10 → m < 2 ^ 65 → n < 2 ^ 65 → IsReady n place text block
ready_other m n place text block r same one other =
    let d = differ m n same one other in
    let fronts = same_from_push d.front r.front (48 + m % 10) (48 + m % 10)
    (sym d.one ∙ r.digits) in
    record {
      front = r.front;
      other = r.other;
      behind = r.behind;
      digits = d.other ∙ ap (λ f. f ++ (48 + n % 10) ∷ []) fronts.0;
      long = r.long;
      begins = r.begins;
    }

-- a number's digits stand at the beginning of a block, and a text behind them
pub record IsWritten (n count : ℕ) (text block : List ℕ) : Type 0 where
  pub line : take (count + length text) block ≡ decimal n ++ text
  pub digits : count ≡ length (decimal n)
  pub short : count ≤ 20

written : (n place : ℕ) (text block : List ℕ) → IsReady n place text block → place + 1 ≤ 20
    → IsWritten n (place + 1) text (slice_set block place (48 + n % 10))
written n place text block r short =
    let last : List ℕ = (48 + n % 10) ∷ [] in
    let line : decimal n ++ text ≡ r.front ++ (48 + n % 10) ∷ text =
    ap (λ ds. ds ++ text) r.digits ∙ append_assoc r.front last text in
    let whole : slice_set block place (48 + n % 10) ≡ (decimal n ++ text) ++ r.behind =
    ap (λ b. slice_set b place (48 + n % 10)) r.begins
    ∙ set_at r.front r.other (text ++ r.behind) (48 + n % 10) place r.long
    ∙ sym (append_assoc r.front ((48 + n % 10) ∷ text) r.behind)
    ∙ ap (λ l. l ++ r.behind) (sym line) in
    let long : length (decimal n ++ text) ≡ place + 1 + length text =
    omega (arith, digits_long n place text block r, length-append (decimal n) text) in
    record {
      line = ap (take (place + 1 + length text)) whole
          ∙ take_at (decimal n ++ text) r.behind _ long;
      digits = sym (digits_long n place text block r);
      short = short;
    }

-- with another last digit
pub written_as : (n digit place : ℕ) (text block : List ℕ) → IsReady n place text block
    → n < 2 ^ 64 → digit < 10
    → IsWritten (n / 10 * 10 + digit) (place + 1) text (slice_set block place (48 + digit))
written_as n digit place text block r small low =
    let m = n / 10 * 10 + digit in
    let same : m % 10 ≡ digit = omega arith in
    let P : ℕ → Type 0 = λ d. IsWritten m (place + 1) text (slice_set block place (48 + d)) in
    let ready = ready_other n m place text block r (omega arith) (omega arith) (omega arith) in
    subst P same (written m place text block ready (place_short m place text block ready (omega arith)))

-- the block of a number whose line it begins with
pub ready_line : (n : ℕ) (text block : List ℕ) → n < 2 ^ 64
    → take (length (decimal n) + length text) block ≡ decimal n ++ text
    → IsReady n (length (decimal n) - 1) text block
ready_line n text block small line =
    let last : List ℕ = (48 + n % 10) ∷ [] in
    let count = length (decimal n) + length text in
    let behind = drop count block in
    let d = differ n n refl (omega arith) (omega arith) in
    let long : length (decimal n) ≡ length (d.front ++ last) = ap length d.one in
    record {
      front = d.front;
      other = 48 + n % 10;
      behind = behind;
      digits = d.one;
      long = omega (arith, long, length-append d.front last);
      begins =
          sym (take-append-drop count block) ∙ ap (λ l. l ++ behind) line
          ∙ append_assoc (decimal n) text behind ∙ ap (λ l. l ++ (text ++ behind)) d.one
          ∙ append_assoc d.front last (text ++ behind);
    }

-- what stands up to the place of the last digit
begin_of : (n place : ℕ) (text block : List ℕ) (r : IsReady n place text block)
    → take (place + 1) block ≡ r.front ++ r.other ∷ []
begin_of n place text block r =
    let last : List ℕ = r.other ∷ [] in
    let long : length (r.front ++ last) ≡ place + 1 =
    omega (arith, r.long, length-append r.front last) in
    ap (take (place + 1)) (r.begins ∙ sym (append_assoc r.front last (text ++ r.behind)))
    ∙ take_at (r.front ++ last) (text ++ r.behind) _ long

-- another text behind the digits
pub ready_with : (n place : ℕ) (text other block now : List ℕ) → IsReady n place text block
    → take (place + 1 + length other) now ≡ take (place + 1) block ++ other
    → IsReady n place other now
ready_with n place text other block now r line =
    let last : List ℕ = r.other ∷ [] in
    let count = place + 1 + length other in
    let behind = drop count now in
    record {
      front = r.front;
      other = r.other;
      behind = behind;
      digits = r.digits;
      long = r.long;
      begins =
          sym (take-append-drop count now)
          ∙ ap (λ l. l ++ behind) (line ∙ ap (λ l. l ++ other) (begin_of n place text block r))
          ∙ append_assoc (r.front ++ last) other behind
          ∙ append_assoc r.front last (other ++ behind);
    }

many_digits : (n place : ℕ) (text block : List ℕ) → IsReady n place text block → 0 < place → 10 ≤ n
many_digits n place text block r some = elim (cases_lt n 10) [
  | inl low ↦
      let one : length (decimal n) ≡ 1 = ap length (decimal_digit n low) in
      absurd (omega (arith, one, digits_long n place text block r, some))
  | inr high ↦ high
]

-- a number's digits at the beginning of a block, where the last one stands
record Last (q place : ℕ) (rest block : List ℕ) (front : List ℕ) : Type 0 where
  long : length front ≡ place - 1
  here : block ≡ front ++ (48 + q % 10) ∷ rest

last_of : (q place : ℕ) (rest block front : List ℕ) → block ≡ decimal q ++ rest
    → length (decimal q) ≡ place → decimal q ≡ front ++ (48 + q % 10) ∷ []
    → Last q place rest block front
last_of q place rest block front is long digits =
    let last : List ℕ = (48 + q % 10) ∷ [] in
    let whole : length (decimal q) ≡ length (front ++ last) = ap length digits in
    record {
      long = omega (arith, whole, long, length-append front last);
      here = is ∙ ap (λ l. l ++ rest) digits ∙ append_assoc front last rest;
    }

last_byte : (q place : ℕ) (rest block : List ℕ) → block ≡ decimal q ++ rest
    → length (decimal q) ≡ place → q < 2 ^ 64 → get_or block (place - 1) 0 ≡ 48 + q % 10
last_byte q place rest block is long small =
    let d = differ q q refl (omega arith) (omega arith) in
    let last = last_of q place rest block d.front is long d.one in
    ap (λ b. get_or b (place - 1) 0) last.here
    ∙ get_or_at d.front (48 + q % 10) rest 0 (place - 1) last.long

-- the last of them goes up
record Raised (q place : ℕ) (rest block : List ℕ) : Type 0 where
  begins : block ≡ decimal (q + 1) ++ rest
  long : length (decimal (q + 1)) ≡ place

raised : (q place : ℕ) (rest block : List ℕ) → block ≡ decimal q ++ rest
    → length (decimal q) ≡ place → q + 1 < 2 ^ 64 → 0 < place → get_or block (place - 1) 0 < 57
    → Raised q place rest
    (slice_set block (place - 1) (get_or block (place - 1) 0 + 1))
raised q place rest block is long small some below =
    let byte = last_byte q place rest block is long (omega arith) in
    let same : q / 10 ≡ (q + 1) / 10 = omega (arith, byte, below) in
    let up : get_or block (place - 1) 0 + 1 ≡ 48 + (q + 1) % 10 = omega (arith, byte, below) in
    let d = differ q (q + 1) same (omega arith) (omega arith) in
    let last = last_of q place rest block d.front is long d.one in
    let digit : List ℕ = (48 + (q + 1) % 10) ∷ [] in
    let whole : length (decimal (q + 1)) ≡ length (d.front ++ digit) = ap length d.other in
    record {
      begins =
          ap (λ byte. slice_set block (place - 1) byte) up
          ∙ ap (λ b. slice_set b (place - 1) (48 + (q + 1) % 10)) last.here
          ∙ set_at d.front (48 + q % 10) rest (48 + (q + 1) % 10) (place - 1) last.long
          ∙ sym (append_assoc d.front digit rest) ∙ ap (λ l. l ++ rest) (sym d.other);
      long = omega (arith, whole, some, last.long, length-append d.front digit);
    }

-- the last digit but one goes up, and the last one becomes 0
pub ready_ten : (n place : ℕ) (text block : List ℕ) → IsReady n place text block
    → n + 1 < 2 ^ 64
    → n % 10 ≡ 9 → 0 < place → get_or block (place - 1) 0 < 57
    → IsReady (n + 1) place text (slice_set block (place - 1) (get_or block (place - 1) 0 + 1))
ready_ten n place text block r small nine some below =
    let q = n / 10 in
    let rest = r.other ∷ (text ++ r.behind) in
    let high : 10 ≤ n = many_digits n place text block r some in
    let fronts = same_from_push r.front (decimal q) (48 + n % 10) (48 + n % 10)
    (sym r.digits ∙ decimal_step n high (omega arith)) in
    let tens : block ≡ decimal q ++ rest = r.begins ∙ ap (λ f. f ++ rest) fronts.0 in
    let long : length (decimal q) ≡ place = sym (ap length fronts.0) ∙ r.long in
    let up = raised q place rest block tens long (omega arith) some below in
    let next : (n + 1) / 10 ≡ q + 1 = omega arith in
    record {
      front = decimal (q + 1);
      other = r.other;
      behind = r.behind;
      digits = decimal_step (n + 1) (omega arith) small
          ∙ ap (λ k. decimal k ++ (48 + (n + 1) % 10) ∷ []) next;
      long = up.long;
      begins = up.begins;
    }

-- a block that begins with the same line
pub ready_as : (n place : ℕ) (text block now : List ℕ) → IsReady n place text block
    → take (place + 1 + length text) now ≡ take (place + 1 + length text) block
    → IsReady n place text now
ready_as n place text block now r same =
    let first = take (place + 1) block in
    let begins : block ≡ (first ++ text) ++ r.behind =
    r.begins ∙ sym (append_assoc r.front (r.other ∷ []) (text ++ r.behind))
    ∙ sym (append_assoc (r.front ++ r.other ∷ []) text r.behind)
    ∙ ap (λ l. (l ++ text) ++ r.behind) (sym (begin_of n place text block r)) in
    let long : length (first ++ text) ≡ place + 1 + length text =
    omega (
      arith,
      length-append first text,
      ap length (begin_of n place text block r),
      length-append r.front (r.other ∷ []),
      r.long,
    ) in
    ready_with n place text text block now r
    (same ∙ ap (take (place + 1 + length text)) begins ∙ take_at (first ++ text) r.behind _ long)
