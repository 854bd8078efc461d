use Rattle.std.proofs.Common.{◌≡◌, drop, map}
use Rattle.drvhost_devices.specs.Forms.{has_any}
use Rattle.drvhost_devices.proofs.form.has_any.Given as goal

abbrev pub invariant-loop-words : goal.invariant-loop-words
invariant-loop-words l =
    has_any l.line (map (λ words. words.now) (drop l.words-index l.all))
    ≡ has_any l.line (map (λ words. words.now) l.all)
