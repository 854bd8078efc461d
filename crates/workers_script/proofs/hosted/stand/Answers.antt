use Rattle.std.proofs.Common.{◌∙◌, ℕ, ◌≤◌, List, ap, length, refl, subst}
use Rattle.model.specs.declared.history.Entry.{Entry}
use Rattle.model.specs.History.{IsLegal}
use Rattle.model.specs.Set.{Set}
use Rattle.hostcore.specs.Core.{CoreState}
use Rattle.workers_script.proofs.hosted.stand.Goals as goal

pub returns : goal.returns
returns c =
    let before = c.args.told.core in
    let after = c.standing_in.new.core in
    let same = c.standing_in.ensures.same in
    let kept = ap (λ (core : CoreState). core.history) same in
    let set = ap (λ (core : CoreState). core.set) same ∙ c.requires.set in
    let threads = ap (λ (core : CoreState). core.threads) same ∙ c.requires.threads in
    let S : Set → Type 0 = λ s. IsLegal s after.threads after.history in
    let T : ℕ → Type 0 = λ n. IsLegal c.args.set n after.history in
    let H : List Entry → Type 0 = IsLegal c.args.set c.args.workers in
    let R : List Entry → Type 0 = λ xs. length xs ≤ after.log in
    let L : ℕ → Type 0 = λ n. length before.history ≤ n in
    record {
      legal = subst H kept (subst T threads (subst S set c.history-entries.ensures.legal));
      room = subst L (ap (λ (core : CoreState). core.log) same)
          (subst R kept c.history-entries.ensures.room);
      told = refl;
      ends = refl;
      entries = ap length c.history-entries.ensures.entries ∙ ap length kept;
      standing = c.in_ok-standing.ensures.standing;
      stored = kept;
    }
