-- How often a packet stands in what devices have for StartIo, but for their current slots; and that
-- it stands in one list alone after it is put into one.
use Rattle.laws_runs.proofs.Common.{arith, inl, inr, refl, subst, eqb_tells, List, Some, [], if◌then◌else◌, nat_eq, slice_get, slice_set, ℕ, ◌+◌, ◌∷◌, ◌≡◌, ◌≤◌, StartState, without_first_to_start, times_to_start, sum_put}
use Rattle.laws_runs.proofs.Holders.Started.{waits_in}

pub to_start_put : (starts : List StartState) (d : ℕ) (before after : StartState) (n : ℕ)
    → slice_get starts d ≡ Some before
    → times_to_start (slice_set starts d after) n + waits_in before n
    ≡ times_to_start starts n + waits_in after n
to_start_put starts d before after n there =
    sum_put (λ start. waits_in start n) (λ starts. times_to_start starts n) (λ x xs. refl) starts d
    before after there

first_waits : (start : StartState) (entries : List ℕ) (n : ℕ) → start.start_list ≡ entries
    → waits_in (without_first_to_start start) n ≤ waits_in start n
first_waits start [] n is = rw is (omega arith)
first_waits start (k ∷ entries) n is = rw is (omega arith)

pub waits_first : (start : StartState) (n : ℕ)
    → waits_in (without_first_to_start start) n ≤ waits_in start n
waits_first start n = first_waits start start.start_list n refl

-- one packet stands in one place more, which stood in none
pub once_more : (m : ℕ) (before after : ℕ → ℕ) → ((n : ℕ) → before n ≤ 1) → before m ≡ 0
    → ((n : ℕ) → after n ≡ before n + (if nat_eq m n then 1 else 0)) → (n : ℕ) → after n ≤ 1
once_more m before after few none more n =
    let least : before n ≤ 1 = few n in
    elim (eqb_tells m n) [
      | inl same ↦
          let here : before n ≡ 0 = subst (λ (x : ℕ). before x ≡ 0) same.1 none in
          let sum : after n ≡ before n + 1 = rw same.0 at (more n) in
          omega arith
      | inr apart ↦
          let sum : after n ≡ before n + 0 = rw apart.0 at (more n) in
          omega arith
    ]
