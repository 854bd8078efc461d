-- The text of a value is that value, by the grammar of JSON.
use Rattle.std.proofs.Common.{◌≡◌, ◌≤◌, [], Some, ap, ◌∙◌, sym, append-nil, option_and_then}
use Rattle.json.specs.Json as json
use Rattle.json.specs.Json.{Json, document, max_depth}
use Rattle.json.specs.Lex.{tokens}
use Rattle.json.specs.Tree.{depth, json_tokens}
use Rattle.json.proofs.Printed.Trees.{value-json_tokens}
use Rattle.report_json.specs.Line.{json_text}

pub reads_back : (value : Json) → depth value ≤ max_depth
    → tokens (json_text value) ≡ json_tokens value → document (json_text value) ≡ Some value
reads_back value nests same =
    ap (option_and_then (λ p. json.if_last p.0 p.1))
    (ap (json.value max_depth) (same ∙ sym (append-nil _))
    ∙ value-json_tokens value max_depth [] nests)
