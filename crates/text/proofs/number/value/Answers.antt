use Rattle.std.proofs.Common.{ℕ, List, ◌≡◌, ◌≤◌, ◌<◌, ◌+◌, ◌*◌, length, take, get_or, arith}
use Rattle.std.proofs.lemmas.Grind.{common_steps}
use Rattle.std.proofs.lemmas.Int.Digits.{digits_value_more}
use Rattle.std.proofs.lemmas.Str.Parse.{digits_value-take-le}
use Rattle.std.proofs.lemmas.List.{drop_more, take_all}
use Rattle.std.specs.Str.Parse.{digits_value}
use Rattle.std.specs.Char.{digit_value}
use Rattle.text.proofs.number.value.Goals as goal

-- the value with one digit more is no more than the value of all
one_more : (radix : ℕ) (ds : List ℕ) (i v : ℕ) → 2 ≤ radix → i < length ds
    → v ≡ digits_value radix (take i ds)
    → v * radix + digit_value (get_or ds i 0) ≤ digits_value radix ds
one_more radix ds i v low inside is =
    let more = digits_value_more radix ds i inside in
    let least = digits_value-take-le radix ds (i + 1) (omega arith) in
    grind arith

pub returns-in_err-checked_mul : goal.returns-in_err-checked_mul
returns-in_err-checked_mul c =
    let most = one_more c.args.radix c.args.digits.now c.loop-byte.byte-index c.loop-byte.value
    c.requires.low c.loop-byte-test.true c.loop-byte.invariant.same in
    grind (arith, common_steps)

pub returns-in_err-value : goal.returns-in_err-value
returns-in_err-value c =
    let most = one_more c.args.radix c.args.digits.now c.loop-byte.byte-index c.loop-byte.value
    c.requires.low c.loop-byte-test.true c.loop-byte.invariant.same in
    grind (arith, common_steps)

pub loop-byte-preserved : goal.loop-byte-preserved
loop-byte-preserved c =
    let more = digits_value_more c.args.radix c.args.digits.now c.loop-byte.byte-index
    c.loop-byte-test.true in
    let all = drop_more c.args.digits.now c.loop-byte.byte-index 0 c.loop-byte-test.true in
    record {
      fits = grind (arith, common_steps);
      same = grind (arith, common_steps);
      digits = grind (arith, common_steps);
    }

pub returns : goal.returns
returns c = let all = take_all c.loop-byte.byte-index c.args.digits.now c.loop-byte-test.false
    in grind (arith, common_steps)
