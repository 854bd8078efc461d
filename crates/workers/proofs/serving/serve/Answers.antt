use Rattle.std.proofs.Common.{◌∙◌, ap, List, None, Option, ℕ, arith}
use Rattle.std.specs.Prelude.{slice_get}
use Rattle.workers.proofs.Totals.{get_replicate}
use Rattle.workers.proofs.serving.serve.Goals as goal

pub serve_from-requires-clause-free : goal.serve_from-requires-clause-free
serve_from-requires-clause-free g c κs within =
    λ i few. ap (λ (xs : List (Option ℕ)). slice_get xs i) c.requires.free
    ∙ get_replicate None c.args.core.threads i (omega (arith, few, c.requires.few))
