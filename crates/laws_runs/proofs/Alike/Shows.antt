-- What shows a world of a run of an accepted set, and shows another one, can't tell them apart; and
-- the other way round.
use Rattle.laws_runs.proofs.Common.{ap, map, refl, sym, zero, ◌∙◌, get_or-set_other, Bool, List, None, Option, Some, [], false, length, slice_index_or, slice_set, suc, true, ℕ, ◌∷◌, ◌≡◌, ◌≢◌, answered_in, is_blank, kind_of, Set, MayBeTaken, Reads, blank_register, told_register, whole_register, register, Kind, BlankKind, Status, Success, Activation, Frame, Value, Blank, Num, Ref, StatusValue, States, IsGood, Ready, state_of, Suits, kinds_get}
use Rattle.laws_runs.proofs.Alike.Frames.{waiting_for}
use Rattle.laws_runs.proofs.Alike.Registers.{SameRegisters}

-- a register that is shown whole, and read
abbrev pub is_value : Value → Bool
is_value Blank = false
is_value _ = true

pub whole_get : (us : List Value) (r : ℕ)
    → slice_index_or (map whole_register us) r blank_register
    ≡ whole_register (slice_index_or us r Blank)
whole_get [] r = refl
whole_get (u ∷ us) zero = refl
whole_get (u ∷ us) (suc r) = whole_get us r

pub reads_same : (u v : Value) → is_value v ≡ true → Reads (whole_register u) v → u ≡ v
reads_same u Blank is h = cc
reads_same (Num m) (Num n) is h = let same : m ≡ n = cc in ap (λ (x : ℕ). Num x) same
reads_same (Ref m) (Ref n) is h = let same : m ≡ n = cc in ap (λ (x : ℕ). Ref x) same
reads_same (StatusValue one) (StatusValue other) is h =
    let same : one ≡ other = cc in ap (λ (x : Status). StatusValue x) same
reads_same _ _ is h = cc

pub reads_self : (v : Value) → Reads (whole_register v) v
reads_self Blank = tt
reads_self _ = refl

suits_value : (issued : ℕ) (k : Kind) (v : Value) → is_blank k ≡ false → Suits issued k v
    → is_value v ≡ true
suits_value issued BlankKind v is h = cc
suits_value issued _ v is h = ap is_value h.1

-- registers that are read alike
pub same_all : (kinds : List Kind) (us vs : List Value) → length us ≡ length vs
    → ((r : ℕ) → is_blank (slice_index_or kinds r BlankKind) ≡ false
    → slice_index_or us r Blank ≡ slice_index_or vs r Blank)
    → SameRegisters kinds us vs
same_all [] us vs long h = tt
same_all (k ∷ kinds) [] [] long h = tt
same_all (k ∷ kinds) (u ∷ us) (v ∷ vs) long h =
    (h 0, same_all kinds us vs (let less : length us ≡ length vs = cc in less) (λ r. h (suc r)))
same_all (k ∷ kinds) _ _ long h = cc

-- one register waits
pub set_some : (kinds : List Kind) (q r : ℕ)
    → is_blank (slice_index_or (slice_set kinds q BlankKind) r BlankKind) ≡ false
    → (q ≢ r) × (is_blank (slice_index_or kinds r BlankKind) ≡ false)
set_some [] q r h = cc
set_some (k ∷ kinds) zero zero h = cc
set_some (k ∷ kinds) zero (suc r) h = ((λ e. cc), h)
set_some (k ∷ kinds) (suc q) zero h = ((λ e. cc), h)
set_some (k ∷ kinds) (suc q) (suc r) h =
    let inner : (q ≢ r) × (is_blank (slice_index_or kinds r BlankKind) ≡ false) =
    set_some kinds q r h in
    ((λ e. inner.0 (let same : q ≡ r = cc in same)), inner.1)

-- a routine's frame
module _ (set : Set) (states : States) (good : IsGood set states) (issued : ℕ) where
  -- what may be taken from has a value
  pub value_there : (a : Activation) (q : Option ℕ)
      → Ready set states issued (answered_in a Success q)
      → (r : ℕ) → is_blank (slice_index_or (waiting_for q (state_of states a).kinds) r BlankKind)
      ≡ false
      → is_value (register a r) ≡ true
  value_there a None ready r some =
      suits_value issued (kind_of (state_of states a) r) (register a r) some
      (kinds_get issued (state_of states a).kinds a.registers r ready.1.kinds)
  value_there a (Some q) ready r some =
      let both : (q ≢ r) × (is_blank (kind_of (state_of states a) r) ≡ false) =
      set_some (state_of states a).kinds q r some in
      suits_value issued (kind_of (state_of states a) r) (register a r) both.1
      (rw (get_or-set_other a.registers q r (StatusValue Success) Blank (λ e. both.0 (sym e))) at
      (kinds_get issued (state_of states a).kinds (slice_set a.registers q (StatusValue Success)) r
      ready.1.kinds))

  pub may_be_taken : (above : Option Frame) (a : Activation) (q : Option ℕ)
      → told_register set above a ≡ q → Ready set states issued (answered_in a Success q)
      → (r : ℕ) → is_blank (slice_index_or (waiting_for q (state_of states a).kinds) r BlankKind)
      ≡ false
      → MayBeTaken set above a r
  may_be_taken above a None told ready r some =
      record {
        routine = ready.0;
        state = state_of states a;
        is_of = ready.1.is_of;
        arrives = (good.led.known a.driver a.routine ready.0 ready.1.is_of).follows.arrives
            a.position ready.1.within;
        kind = some;
        untold = λ is. (let no : None ≡ Some r = sym told ∙ is in cc);
      }
  may_be_taken above a (Some q) told ready r some =
      let both : (q ≢ r) × (is_blank (kind_of (state_of states a) r) ≡ false) =
      set_some (state_of states a).kinds q r some in
      record {
        routine = ready.0;
        state = state_of states a;
        is_of = ready.1.is_of;
        arrives = (good.led.known a.driver a.routine ready.0 ready.1.is_of).follows.arrives
            a.position ready.1.within;
        kind = both.1;
        untold = λ is. both.0 (let one : Some q ≡ Some r = sym told ∙ is in
            let same : q ≡ r = cc in same);
      }
