use Rattle.std.proofs.Common.{◌≡◌, ◌∙◌, inl, inr, ap, sym, refl, List, subst, true}
use Rattle.clap.proofs.OnLiterals.{clap_on_literals}
use Rattle.clap.specs.Words.{App, HasKind, IsAmong, Kinds, Text, app_of, fault_of, is_simple, is_simple_and_free, kind_of, subcommand_of, takes}
use Rattle.clap.specs.declared.error.Error.{Error}
use Rattle.clap.specs.declared.error.ErrorKind.{ErrorKind}
use Rattle.clap.specs.declared.error.ErrorKind.TheVariants.{DisplayHelp, DisplayVersion, OutOfMemory}
use Rattle.cli.specs.declared.parsing.Unmatched.{Unmatched}
use Rattle.cli.specs.declared.parsing.Unmatched.TheVariants.{Version, Help, Usage, Memory}
use Rattle.cli.specs.Matched.{IsMetBy, IsUnmatched}
use Rattle.cli.specs.Program.{program}
use Rattle.cli.proofs.parsing.matches_of.Goals as goal

-- `clap` says exactly which words the command line takes
is_exact : is_simple_and_free program ≡ true
unfolding clap_on_literals
is_exact = refl

same_faults : (a : App) (words : List Text) → a ≡ program
    → fault_of a words ≡ fault_of program words
same_faults a words e = ap (λ (b : App). fault_of b words) e

same_taken : (a : App) (words : List Text) → a ≡ program → takes a words ≡ takes program words
same_taken a words e = ap (λ (b : App). takes b words) e

-- and which of them its matches name
is_of_form : is_simple program ≡ true
unfolding clap_on_literals
is_of_form = refl

form_of : (a : App) → a ≡ program → is_simple a ≡ true
form_of a e = ap is_simple e ∙ is_of_form

same_subcommand : (a : App) (words : List Text) → a ≡ program
    → subcommand_of a words ≡ subcommand_of program words
same_subcommand a words e = ap (λ (b : App). subcommand_of b words) e

-- an error of another kind than memory's is one of those that the words may meet
is_among : (asked : ErrorKind) (kinds : Kinds) (error : Error) → (OutOfMemory ≡ asked → ⊥)
    → kind_of error ≡ asked → HasKind kinds error → IsAmong asked kinds
is_among asked kinds error other is (inl memory) = absurd (other (sym memory ∙ is))
is_among asked kinds error other is (inr among) =
    subst (λ (kind : ErrorKind). IsAmong kind kinds) is among

not_version : OutOfMemory ≡ DisplayVersion → ⊥
not_version e = cc

not_help : OutOfMemory ≡ DisplayHelp → ⊥
not_help e = cc

-- words that are taken meet with no error but memory's
unmatched : (words : List Text) (error : Error) (reason : Unmatched)
    → HasKind (fault_of program words) error
    → (takes program words ≡ true → kind_of error ≡ OutOfMemory)
    → IsMetBy (kind_of error) reason → IsUnmatched words reason
unmatched words error Version has memory is = is_among DisplayVersion _ error not_version is has
unmatched words error (Help text) has memory is = is_among DisplayHelp _ error not_help is has
unmatched words error (Usage text) has memory is = λ taken. is (memory taken)
unmatched words error Memory has memory is = tt

pub returns-in-Ok-clause-matched : goal.returns-in-Ok-clause-matched
returns-in-Ok-clause-matched g c =
    let app = c.in_ok-program.ensures in
    let exact : is_simple_and_free (app_of c.in_ok-program.program) ≡ true =
    ap is_simple_and_free app ∙ is_exact in
    record {
      taken = sym (same_faults _ _ app) ∙ c.in-Ok.ensures.kinds exact;
      found_is = (c.in-Ok.ensures.ok.2 (form_of _ app)).1 ∙ same_subcommand _ _ app;
    }

pub returns-clause-unmatched : goal.returns-clause-unmatched
returns-clause-unmatched g c =
    let app = c.in_ok-program.ensures in
    let exact : is_simple_and_free (app_of c.in_ok-program.program) ≡ true =
    ap is_simple_and_free app ∙ is_exact in
    unmatched _ c.in-Err.error _
    (subst (λ (kinds : Kinds). HasKind kinds c.in-Err.error) (same_faults _ _ app)
    (c.in-Err.ensures.kinds exact))
    (λ taken. c.in-Err.ensures.passes (same_taken _ _ app ∙ taken)) c.unmatched_by.ensures
