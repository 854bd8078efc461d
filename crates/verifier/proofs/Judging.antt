-- What the pass finds at a position.
use Rattle.std.proofs.Common.{◌≡◌, ℕ, suc, ◌<◌, ◌≤◌, inl, inr, false, Bool, List, length, None, Some, refl, sym, subst, ◌∙◌, ap}
use Rattle.std.specs.Prelude.{slice_get}
use Rattle.model.specs.declared.abs.Abs.{Abs}
use Rattle.model.specs.declared.abs.Rule.{Rule}
use Rattle.model.specs.declared.abs.Rule.TheVariants.{Unreachable, StatesDiffer, TooLong}
use Rattle.model.specs.declared.instr.Instr.{Instr}
use Rattle.model.specs.declared.limits.TheConstants.{MAX_CERTIFICATE}
use Rattle.model.specs.Certificate.{certificate_to}
use Rattle.model.specs.LocalRule.{refuses}
use Rattle.model.specs.Paths.{Arrives, is_malformed}
use Rattle.model.specs.Set.{Member}
use Rattle.model.specs.Typable.{ArrivesAlone, ClosesAlike, ClosesUnlike, IsFineAt, IsFaultAt, fault_in}
use Rattle.verifier.specs.declared.seen.Seen.{Seen}
use Rattle.verifier.specs.declared.seen.Seen.TheVariants.{Nothing, One, Several}
use Rattle.verifier.specs.Pass.{Knows, IsPassed}
use Rattle.verifier.specs.Table.{Describes}
use Rattle.verifier.proofs.Closing.{seen_there, alone_there}

pub formed_read : (code read : List Instr) (at : ℕ) (test : Bool) → read ≡ code
    → test ≡ is_malformed read at → test ≡ false → is_malformed code at ≡ false
formed_read code read at test same tells fails =
    ap (λ (list : List Instr). is_malformed list at) (sym same) ∙ sym tells ∙ fails

pub unreachable_there : (m : Member) (at : ℕ) (here : Seen) (table : List Seen)
    → Knows m at here table → at < length m.routine.code
    → is_malformed m.routine.code at ≡ false → here ≡ Nothing → IsFaultAt m at Unreachable
unreachable_there m at here table known within formed is =
    let never : Describes Nothing (Arrives m at) =
    subst (λ (seen : Seen). Describes seen (Arrives m at)) is
    (seen_there m at here table known within)
    in
    inr (inl (
      record {
        within = within;
        formed = formed;
        entry = known.entry;
        entered = known.entered;
        never = never;
      },
      refl,
    ))

pub several_there : (m : Member) (at : ℕ) (here : Seen) (table : List Seen) → Knows m at here table
    → at < length m.routine.code
    → is_malformed m.routine.code at ≡ false → here ≡ Several → IsFaultAt m at StatesDiffer
several_there m at here table known within formed is =
    let several : Describes Several (Arrives m at) =
    subst (λ (seen : Seen). Describes seen (Arrives m at)) is
    (seen_there m at here table known within)
    in
    inr (inr (inl (
      inl (record {
        within = within;
        formed = formed;
        one = several.0;
        other = several.1;
        one_arrives = several.2;
        other_arrives = several.3;
        differ = several.4;
      }),
      refl,
    )))

pub unlike_fault : (m : Member) (at : ℕ) (here : Seen) (table : List Seen) (s : Abs)
    → Knows m at here table → at < length m.routine.code
    → is_malformed m.routine.code at ≡ false → here ≡ One s
    → ClosesUnlike m at s (slice_get m.routine.code at) → IsFaultAt m at StatesDiffer
unlike_fault m at here table s known within formed is closes =
    inr (inr (inl (
      inr (record {
        within = within;
        formed = formed;
        state = s;
        arrival = alone_there m at here table s known within is;
        closes = closes;
      }),
      refl,
    )))

-- an instruction that breaks a rule in the one state that arrives, and one that doesn't
pub broken_there : (m : Member) (at : ℕ) (i : Instr) (s : Abs) (rule : Rule)
    → refuses s i m.routine.sort m.set m.driver ≡ Some rule
    → at < length m.routine.code → is_malformed m.routine.code at ≡ false
    → slice_get m.routine.code at ≡ Some i → ArrivesAlone m at s
    → ClosesAlike m at s (slice_get m.routine.code at) → IsFaultAt m at rule
broken_there m at i s rule breaks within formed here arrival closes =
    inr (inr (inr (inl (record {
      within = within;
      formed = formed;
      state = s;
      arrival = arrival;
      closes = closes;
      breaks = ap (fault_in m s) here ∙ breaks;
    }))))

pub passed_there : (m : Member) (at : ℕ) (i : Instr) (s : Abs)
    → refuses s i m.routine.sort m.set m.driver ≡ None
    → is_malformed m.routine.code at ≡ false → slice_get m.routine.code at ≡ Some i
    → ArrivesAlone m at s
    → ClosesAlike m at s (slice_get m.routine.code at) → IsPassed m at
passed_there m at i s keeps formed here arrival closes =
    record {
      formed = formed;
      instr = i;
      here = here;
      state = s;
      arrival = arrival;
      closes =
          closes;
      keeps = keeps;
    }

keeps_there : (m : Member) (at : ℕ) (h : IsPassed m at)
    → fault_in m h.state (slice_get m.routine.code at) ≡ None
keeps_there m at h = ap (fault_in m h.state) h.here ∙ h.keeps

-- a position without a fault, and one at which the certificate passes the limit
pub fine_there : (m : Member) (at : ℕ) → IsPassed m at
    → certificate_to m.routine.code (suc at) ≤ MAX_CERTIFICATE → IsFineAt m at
fine_there m at h short = record {
  formed = h.formed;
  state = h.state;
  arrival = h.arrival;
  closes = h.closes;
  keeps = keeps_there m at h;
  short = short;
}

pub long_there : (m : Member) (at : ℕ) → IsPassed m at → at < length m.routine.code
    → MAX_CERTIFICATE < certificate_to m.routine.code (suc at)
    → IsFaultAt m at TooLong
long_there m at h within long = inr (inr (inr (inr (inr (
  record {
    within = within;
    formed = h.formed;
    state = h.state;
    arrival = h.arrival;
    closes = h.closes;
    keeps = keeps_there m at h;
    long = long;
  },
  refl,
)))))
