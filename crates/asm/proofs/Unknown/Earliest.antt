-- The earliest of lines.
use Rattle.std.proofs.Common.{◌≡◌, ℕ, ◌+◌, ◌<◌, ◌≤◌, Bool, true, false, ◌&&◌, Option, Some, None, IfSome, refl, ap, sym, ◌∙◌, arith}
use Rattle.std.specs.Prelude.{min, if◌then◌else◌}
use Rattle.asm.specs.Outline.{earliest}

pub earliest_none : (a : Option ℕ) → earliest a None ≡ a
earliest_none None = refl
earliest_none (Some a) = refl

pub earliest_assoc : (a b c : Option ℕ) → earliest (earliest a b) c ≡ earliest a (earliest b c)
earliest_assoc None b c = refl
earliest_assoc (Some a) None c = refl
earliest_assoc (Some a) (Some b) None = refl
earliest_assoc (Some a) (Some b) (Some c) = let same : min (min a b) c ≡ min a (min b c) =
    omega arith in ap (λ (n : ℕ). Some n) same

pub earliest_comm : (a b : Option ℕ) → earliest a b ≡ earliest b a
earliest_comm None None = refl
earliest_comm None (Some b) = refl
earliest_comm (Some a) None = refl
earliest_comm (Some a) (Some b) = let same : min a b ≡ min b a =
    omega arith in ap (λ (n : ℕ). Some n) same

-- a line is earlier than what comes after it
pub earliest_first : (n : ℕ) (later : Option ℕ) → IfSome later (λ m. n < m)
    → earliest (Some n) later ≡ Some n
earliest_first n None after = refl
earliest_first n (Some m) after = let same : min n m ≡ n =
    omega arith in ap (λ (k : ℕ). Some k) same

-- one line is earlier than another in a list of them
pub earliest_swap : (a b c : Option ℕ) → earliest a (earliest b c) ≡ earliest b (earliest a c)
earliest_swap a b c = sym (earliest_assoc a b c)
    ∙ ap (λ (x : Option ℕ). earliest x c) (earliest_comm a b) ∙ earliest_assoc b a c

pub weaken : (n : ℕ) (o : Option ℕ) → IfSome o (λ m. n < m) → IfSome o (λ m. n ≤ m)
weaken n None h = tt
weaken n (Some m) h = omega arith

pub next_later : (n : ℕ) (o : Option ℕ) → IfSome o (λ m. n + 1 ≤ m) → IfSome o (λ m. n < m)
next_later n None h = tt
next_later n (Some m) h = omega arith

pub chosen_line : (b : Bool) (n : ℕ) (after : Option ℕ) → IfSome after (λ m. n < m)
    → IfSome (if b then after else Some n) (λ m. n ≤ m)
chosen_line true n after h = weaken n after h
chosen_line false n after h = omega arith

-- a use is weighed now or when its driver or routine is closed
pub use_counts : (b : Bool) (n : ℕ) (x after : Option ℕ) → IfSome after (λ m. n < m)
    → earliest (earliest (if b then None else Some n) x) after
    ≡ earliest x (if b then after else Some n)
use_counts true n x after later = refl
use_counts false n x after later =
    ap (λ (y : Option ℕ). earliest y after) (earliest_comm (Some n) x)
    ∙ earliest_assoc x (Some n) after
    ∙ ap (λ (y : Option ℕ). earliest x y) (earliest_first n after later)

pub used_now : (b : Bool) (n : ℕ) (after : Option ℕ) → IfSome after (λ m. n < m)
    → earliest (if b then None else Some n) after ≡ (if b then after else Some n)
used_now true n after later = refl
used_now false n after later = earliest_first n after later

-- two names of a line are weighed at once
pub both_count : (driver lower : Bool) (n : ℕ)
    → earliest (if driver then None else Some n) (if lower then None else Some n)
    ≡ (if driver && lower then None else Some n)
both_count true lower n = refl
both_count false true n = refl
both_count false false n = let same : min n n ≡ n = omega arith in ap (λ (k : ℕ). Some k) same

-- a line is as early as itself
or_line : (known : Bool) (n : ℕ) (x : Option ℕ) → x ≡ Some n
    → earliest (if known then None else Some n) x ≡ Some n
or_line true n x is = is
or_line false n x is = let same : min n n ≡ n =
    omega arith in ap (earliest (Some n)) is ∙ ap (λ (k : ℕ). Some k) same

-- three names of a line are weighed at once
pub three_count : (label routine queue : Bool) (n : ℕ) (after : Option ℕ)
    → IfSome after (λ m. n < m)
    → earliest (if queue then None else Some n)
    (earliest (if routine then None else Some n)
    (earliest (if label then None else Some n) after))
    ≡ (if label && (routine && queue) then after else Some n)
three_count false routine queue n after later =
    let last = earliest_first n after later in
    or_line queue n (earliest (if routine then None else Some n) (earliest (Some n) after))
    (or_line routine n (earliest (Some n) after) last)
three_count true false queue n after later =
    or_line queue n (earliest (Some n) after) (earliest_first n after later)
three_count true true false n after later = earliest_first n after later
three_count true true true n after later = refl

-- two lines that are found at once, in order
weighed_apart : (calls call handlers jumps jump rest : Option ℕ)
    → earliest (earliest (earliest calls call) handlers) (earliest (earliest jumps jump) rest)
    ≡ earliest (earliest calls handlers) (earliest jumps (earliest call (earliest jump rest)))
weighed_apart calls call handlers jumps jump rest =
    earliest_assoc (earliest calls call) handlers (earliest (earliest jumps jump) rest)
    ∙ earliest_assoc calls call (earliest handlers (earliest (earliest jumps jump) rest))
    ∙ ap (earliest calls) (
    earliest_swap call handlers (earliest (earliest jumps jump) rest)
    ∙ ap (earliest handlers) (
    ap (earliest call) (earliest_assoc jumps jump rest)
    ∙ earliest_swap call jumps (earliest jump rest)))
    ∙ sym (earliest_assoc calls handlers (earliest jumps (earliest call (earliest jump rest))))

-- so are three
pub weighed_all : (queues queue calls call handlers jumps jump rest : Option ℕ)
    → earliest (earliest (earliest queues queue) (earliest (earliest calls call) handlers))
    (earliest (earliest jumps jump) rest)
    ≡ earliest (earliest queues (earliest calls handlers))
    (earliest jumps (earliest queue (earliest call (earliest jump rest))))
weighed_all queues queue calls call handlers jumps jump rest =
    let before = earliest calls handlers in
    let after = earliest call (earliest jump rest) in
    earliest_assoc (earliest queues queue) (earliest (earliest calls call) handlers)
    (earliest (earliest jumps jump) rest)
    ∙ ap (earliest (earliest queues queue))
    (weighed_apart calls call handlers jumps jump rest)
    ∙ earliest_assoc queues queue (earliest before (earliest jumps after))
    ∙ ap (earliest queues) (
    earliest_swap queue before (earliest jumps after)
    ∙ ap (earliest before) (earliest_swap queue jumps after))
    ∙ sym (earliest_assoc queues before (earliest jumps (earliest queue after)))
