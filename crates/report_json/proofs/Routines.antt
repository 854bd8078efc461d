-- The members of a routine, before others.
use Rattle.std.proofs.Common.{◌≡◌, ◌∙◌, ◌++◌, List, [], ◌∷◌, ap, append_assoc}
use Rattle.std.specs.Prelude.{codes, decimal}
use Rattle.json.specs.Json.{Members, object}
use Rattle.json.specs.Token.{Token, begin_object, key, number, string}
use Rattle.json.specs.Tree.{json_tokens, members_tokens}
use Rattle.model.specs.Words.{sort_text}
use Rattle.report_json.specs.declared.verdict.CertifiedRoutine.{CertifiedRoutine}
use Rattle.report_json.specs.Verdict.{name_json, routine_members}

-- those up to the name, and those behind it
abbrev pub first_tokens : CertifiedRoutine → List Token
first_tokens routine =
    key (codes "driver") ∷ number (decimal routine.driver)
    ∷ key (codes "routine") ∷ number (decimal routine.routine)
    ∷ key (codes "name") ∷ json_tokens (name_json routine.name)

abbrev pub last_tokens : CertifiedRoutine → List Token
last_tokens routine =
    key (codes "sort") ∷ string (sort_text routine.sort)
    ∷ key (codes "certificate") ∷ number (decimal routine.certificate) ∷ []

pub members_put : (routine : CertifiedRoutine) (t u v : List Token)
    → u ≡ t ++ first_tokens routine → v ≡ u ++ last_tokens routine → (others : Members)
    → v ++ members_tokens others ≡ t ++ members_tokens (routine_members routine others)
members_put routine t u v e f others =
    let rest = last_tokens routine ++ members_tokens others in
    ap (λ x. x ++ members_tokens others) f
    ∙ append_assoc u (last_tokens routine) (members_tokens others)
    ∙ ap (λ x. x ++ rest) e
    ∙ append_assoc t (first_tokens routine) rest

-- an object of these
pub object_put : (routine : CertifiedRoutine) (others : Members) (t u v w : List Token)
    → u ≡ t ++ begin_object ∷ []
    → ((more : Members)
    → v ++ members_tokens more ≡ u ++ members_tokens (routine_members routine more))
    → w ≡ v ++ members_tokens others
    → w ≡ t ++ json_tokens (object (routine_members routine others))
object_put routine others t u v w e f g =
    let all = members_tokens (routine_members routine others) in
    g ∙ f others ∙ ap (λ x. x ++ all) e ∙ append_assoc t (begin_object ∷ []) all
