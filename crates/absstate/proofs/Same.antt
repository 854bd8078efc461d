-- Two numbers tell a kind.
use Rattle.std.proofs.Common.{◌≡◌, ℕ, zero, suc, ◌<◌, ◌≤◌, Bool, true, false, ◌&&◌, ◌||◌, List, [], ◌∷◌, length, drop, set, get_or, eq-eqb, eqb-true, refl, sym, subst, ◌∙◌, ap, arith}
use Rattle.std.proofs.Math.Seq.{drop-cons}
use Rattle.std.proofs.lemmas.List.{drop_all}
use Rattle.std.specs.List.{list_any}
use Rattle.std.specs.Prelude.{nat_eq, nat_le, ◌-◌, if◌then◌else◌}
use Rattle.model.specs.declared.abs.Kind.{Kind}
use Rattle.model.specs.declared.abs.Kind.TheVariants.{Blank, Num, Lower, New, Own, Queued, View}
use Rattle.model.specs.declared.abs.Stage.TheVariants.{Listed, Armed, Taken, Cancelling}
use Rattle.model.specs.declared.abs.Stage.{Stage}
use Rattle.model.specs.declared.set.QueueName.{QueueName}
use Rattle.model.specs.declared.set.QueueName.TheVariants.{Declared, DeviceQueue}
use Rattle.absstate.specs.Same.{has_list, name_number, queue_number, same_queues, same_shapes, shape}

-- the list of this number
abbrev name_of_number : ℕ → QueueName
name_of_number zero = DeviceQueue
name_of_number (suc queue) = Declared queue

name_told : (name : QueueName) → name_of_number (name_number name) ≡ name
name_told DeviceQueue = refl
name_told (Declared queue) = refl

-- the stage of this number
abbrev stage_of_number : ℕ → Stage
stage_of_number number =
    if nat_eq number 0 then Listed else
    (if nat_eq number 1 then Armed else
    (if nat_eq number 2 then Taken else Cancelling))

-- the kind of these numbers
abbrev kind_of_numbers : ℕ → ℕ → Kind
kind_of_numbers shape queue =
    if nat_eq shape 0 then Blank else
    (if nat_eq shape 1 then Num else
    (if nat_eq shape 2 then Lower else
    (if nat_eq shape 3 then New else
    (if nat_eq shape 4 then Own else
    (if nat_eq shape 5 then View else
    Queued (name_of_number queue) (stage_of_number (shape - 6)))))))

told : (kind : Kind) → kind_of_numbers (shape kind) (queue_number kind) ≡ kind
told Blank = refl
told Num = refl
told Lower = refl
told New = refl
told Own = refl
told (Queued name Listed) = ap (λ (x : QueueName). Queued x Listed) (name_told name)
told (Queued name Armed) = ap (λ (x : QueueName). Queued x Armed) (name_told name)
told (Queued name Taken) = ap (λ (x : QueueName). Queued x Taken) (name_told name)
told (Queued name Cancelling) = ap (λ (x : QueueName). Queued x Cancelling) (name_told name)
told View = refl

pub same_kind : (a b : Kind) → shape a ≡ shape b → queue_number a ≡ queue_number b → a ≡ b
same_kind a b shapes queues =
    sym (told a)
    ∙ (ap (λ (s : ℕ). kind_of_numbers s (queue_number a)) shapes
    ∙ (ap (λ (q : ℕ). kind_of_numbers (shape b) q) queues ∙ told b))

-- two lists of kinds by these numbers
truth : (a b : Bool) → (a && b) ≡ true → (a ≡ true) × (b ≡ true)
truth true true both = record { 0 = refl; 1 = refl }
truth true false both = cc
truth false b both = cc

pub kinds_same : (xs ys : List Kind) → same_shapes xs ys ≡ true → same_queues xs ys ≡ true
    → xs ≡ ys
kinds_same [] [] shapes queues = refl
kinds_same [] (b ∷ ys) shapes queues = cc
kinds_same (a ∷ xs) [] shapes queues = cc
kinds_same (a ∷ xs) (b ∷ ys) shapes queues =
    let first = truth (nat_eq (shape a) (shape b)) (same_shapes xs ys) shapes in
    let number = truth (nat_eq (queue_number a) (queue_number b)) (same_queues xs ys) queues in
    let one : a ≡ b = same_kind a b (eqb-true (shape a) (shape b) first.0)
    (eqb-true (queue_number a) (queue_number b) number.0) in
    rw (one, kinds_same xs ys first.1 number.1) refl

shapes_alike : (xs : List Kind) → same_shapes xs xs ≡ true
shapes_alike [] = refl
shapes_alike (a ∷ xs) = rw (eq-eqb (shape a) (shape a) refl, shapes_alike xs) refl

queues_alike : (xs : List Kind) → same_queues xs xs ≡ true
queues_alike [] = refl
queues_alike (a ∷ xs) = rw (eq-eqb (queue_number a) (queue_number a) refl, queues_alike xs) refl

pub kinds_alike : (xs ys : List Kind) → xs ≡ ys
    → (same_shapes xs ys ≡ true) × (same_queues xs ys ≡ true)
kinds_alike xs ys same =
    subst (λ (zs : List Kind). (same_shapes xs zs ≡ true) × (same_queues xs zs ≡ true)) same
    (record { 0 = shapes_alike xs; 1 = queues_alike xs })

-- a kind names a list if its shape says so
abbrev lists : ℕ → Bool
lists shape = nat_le 6 shape

has_list_told : (kind : Kind) → has_list kind ≡ lists (shape kind)
has_list_told Blank = refl
has_list_told Num = refl
has_list_told Lower = refl
has_list_told New = refl
has_list_told Own = refl
has_list_told (Queued name Listed) = refl
has_list_told (Queued name Armed) = refl
has_list_told (Queued name Taken) = refl
has_list_told (Queued name Cancelling) = refl
has_list_told View = refl

unlisted : (kind : Kind) → has_list kind ≡ false → queue_number kind ≡ 0
unlisted (Queued name stage) none = cc
unlisted _ none = refl

neither : (a b : Bool) → (a || b) ≡ false → (a ≡ false) × (b ≡ false)
neither true b none = cc
neither false b none = record { 0 = refl; 1 = none }

or_true : (a : Bool) → (a || true) ≡ true
or_true true = refl
or_true false = refl

-- a kind that is put into a register: it names a list, or none does, or it takes the place of one
-- that names none
pub list_put : (kinds : List Kind) (i : ℕ) (kind : Kind) → i < length kinds
    → has_list kind ≡ true → true ≡ list_any has_list (set kinds i kind)
list_put [] i kind within new = absurd (omega (arith, within))
list_put (k ∷ kinds) zero kind within new = rw new refl
list_put (k ∷ kinds) (suc i) kind within new =
    let rest : true ≡ list_any has_list (set kinds i kind) =
    list_put kinds i kind (omega (arith, within)) new in
    sym (or_true (has_list k)) ∙ ap (λ (b : Bool). has_list k || b) rest

pub none_put : (kinds : List Kind) (i : ℕ) (kind : Kind) → has_list kind ≡ false
    → list_any has_list kinds ≡ false → list_any has_list (set kinds i kind) ≡ false
none_put [] i kind new none = none
none_put (k ∷ kinds) zero kind new none =
    let both = neither (has_list k) (list_any has_list kinds) none in rw (new, both.1) refl
none_put (k ∷ kinds) (suc i) kind new none =
    let both = neither (has_list k) (list_any has_list kinds) none in
    rw (both.0, none_put kinds i kind new both.1) refl

pub none_left : (kinds : List Kind) (i : ℕ) (kind d : Kind) → has_list kind ≡ false
    → has_list (get_or kinds i d) ≡ false
    → list_any has_list (set kinds i kind) ≡ list_any has_list kinds
none_left [] i kind d new old = refl
none_left (k ∷ kinds) zero kind d new old = rw (new, old) refl
none_left (k ∷ kinds) (suc i) kind d new old =
    ap (λ (b : Bool). has_list k || b) (none_left kinds i kind d new old)

-- kinds that say the same name no queue where the first ones name none
pub no_queues : (xs ys : List Kind) → same_shapes xs ys ≡ true → list_any has_list xs ≡ false
    → same_queues xs ys ≡ true
no_queues [] [] shapes none = refl
no_queues [] (b ∷ ys) shapes none = cc
no_queues (a ∷ xs) [] shapes none = cc
no_queues (a ∷ xs) (b ∷ ys) shapes none =
    let first = truth (nat_eq (shape a) (shape b)) (same_shapes xs ys) shapes in
    let free = neither (has_list a) (list_any has_list xs) none in
    let other : has_list b ≡ false =
    has_list_told b ∙ ap lists (sym (eqb-true (shape a) (shape b) first.0))
    ∙ sym (has_list_told a) ∙ free.0 in
    rw (
      eq-eqb (queue_number a) (queue_number b) (unlisted a free.0 ∙ sym (unlisted b other)),
      no_queues xs ys first.1 free.1,
    ) refl

-- when none was compared, all are the same
pub shapes_over : (xs ys : List Kind) (n : ℕ) → length xs ≤ n → length ys ≤ n
    → true ≡ same_shapes (drop n xs) (drop n ys)
shapes_over xs ys n here there = rw (drop_all n xs here, drop_all n ys there) refl

pub queues_over : (xs ys : List Kind) (n : ℕ) → length xs ≤ n → length ys ≤ n
    → true ≡ same_queues (drop n xs) (drop n ys)
queues_over xs ys n here there = rw (drop_all n xs here, drop_all n ys there) refl

-- one more of them is compared, from the last one on
pub shapes_next : (xs ys : List Kind) (i : ℕ) (d e : Kind) → i < length xs → i < length ys
    → same_shapes (drop i xs) (drop i ys)
    ≡ (nat_eq (shape (get_or xs i d)) (shape (get_or ys i e))
    && same_shapes (drop (suc i) xs) (drop (suc i) ys))
shapes_next xs ys i d e here there = rw (drop-cons xs i d here, drop-cons ys i e there) refl

pub queues_next : (xs ys : List Kind) (i : ℕ) (d e : Kind) → i < length xs → i < length ys
    → same_queues (drop i xs) (drop i ys)
    ≡ (nat_eq (queue_number (get_or xs i d)) (queue_number (get_or ys i e))
    && same_queues (drop (suc i) xs) (drop (suc i) ys))
queues_next xs ys i d e here there = rw (drop-cons xs i d here, drop-cons ys i e there) refl

pub lists_next : (xs : List Kind) (i : ℕ) (d : Kind) → i < length xs
    → list_any has_list (drop i xs)
    ≡ (has_list (get_or xs i d) || list_any has_list (drop (suc i) xs))
lists_next xs i d here = rw (drop-cons xs i d here) refl
