use Rattle.std.proofs.Common.{◌≡◌, drop, map}
use Rattle.drvhost_devices.specs.Forms.{beginning_in}
use Rattle.drvhost_devices.proofs.form.beginning_in.Given as goal

abbrev pub invariant-loop-words : goal.invariant-loop-words
invariant-loop-words l =
    beginning_in l.line (map (λ words. words.now) (drop l.words-index l.all))
    ≡ beginning_in l.line (map (λ words. words.now) l.all)
