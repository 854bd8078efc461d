use Rattle.std.proofs.Common.{◌≡◌, ◌∙◌, ap, arith, length, refl, replicate, ℕ}
use Rattle.workers.proofs.Closing.{unserved}
use Rattle.workers.proofs.serving.unserved.Goals as goal

pub returns : goal.returns
returns c =
    let count : c.len.result ≡ length c.args.takers.items = omega arith in
    unserved c.args.core c.args.takers.items _ refl refl
    (c.no_counts-counts.ensures ∙ ap (λ (n : ℕ). replicate {A = ℕ} n 0) count)
    c.requires.none refl c.of.ensures refl
