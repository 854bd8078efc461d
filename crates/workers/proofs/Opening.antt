-- What a station keeps when it begins.
use Rattle.std.proofs.Common.{◌≡◌, ℕ, false, List, [], ◌++◌, None, length, refl, sym, subst, ap, ◌∙◌, arith}
use Rattle.std.specs.List.{range_with_len}
use Rattle.std.proofs.lemmas.List.{append-nil}
use Rattle.model.specs.declared.history.Entry.{Entry}
use Rattle.hostcore.specs.Core.{CoreState}
use Rattle.intake.specs.Ends.{TakerState}
use Rattle.workers.specs.Kept.{AreGiven, Keeps, station}
use Rattle.workers.specs.Worked.{Worked, nothing}

-- a worker that did nothing
pub idle : (before : List Entry) (t : ℕ) (a : TakerState) → Worked before [] t a a []
idle before t a = record {
  queue = refl;
  share = refl;
  done = [];
  performs = nothing;
  taken = sym (append-nil (a.taken ++ []) ∙ append-nil a.taken);
}

pub opened : (began core : CoreState) (takers : List TakerState) (seats : List ℕ)
    → AreGiven (length takers) began core → seats ≡ range_with_len 0 (length takers)
    → Keeps began takers (station core seats takers 0 None false)
opened began core takers seats are in_order = record {
  new = [];
  set = ap (λ (c : CoreState). c.set) are.same;
  threads = ap (λ (c : CoreState). c.threads) are.same;
  log = ap (λ (c : CoreState). c.log) are.same;
  history = ap (λ (c : CoreState). c.history) are.same ∙ sym (append-nil began.history);
  seats = in_order;
  seated = are.given;
  unseated = are.others;
  started = omega arith;
  workers = λ i d few. absurd (omega (arith, few));
  count = refl;
  untaken = λ i past. refl;
  each = λ i b a first last.
      let same : b ≡ a = cc in
      subst (λ (x : TakerState). Worked began.history [] i b x []) same (idle began.history i b);
  taken = omega arith;
  holder = tt;
  holds = λ _. refl;
  full = λ no. cc;
}
