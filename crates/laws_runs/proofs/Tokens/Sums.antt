-- What a run keeps of the tokens of devices: a busy one has one, an idle one none and nothing that
-- waits.
use Rattle.laws_runs.proofs.Common.{arith, refl, eq-eqb, List, None, Option, Some, [], false, if◌then◌else◌, length, true, ℕ, ◌+◌, ◌∷◌, ◌≡◌, ◌≤◌, StartState, Set, Shared, World, start_of, Activation, Frame, Routine, States, frame_tokens, slot_tokens, start_tokens, tokens, state_of, if_one}
use Rattle.laws_runs.proofs.Holders.Sums.{top_le}
use Rattle.laws_runs.proofs.Runs.Events.{StepsFrame}

pub record OneTokenEach (states : States) (w : World) : Type 0 where
  pub one : (d : ℕ) (start : StartState) → start_of w.shared d ≡ Some start
      → tokens states w.threads d start ≡ (if start.busy then 1 else 0)
  pub idle : (d : ℕ) (start : StartState) → start_of w.shared d ≡ Some start → start.busy ≡ false
      → start.device_queue ≡ []

-- a frame whose state has the token has one of its own device
pub own_token : (states : States) (a : Activation) → (state_of states a).token ≡ true
    → frame_tokens states a.device (Routine a) ≡ 1
own_token states a has = rw (eq-eqb a.device a.device refl, has) refl

no_slot : (slot : Option ℕ) → slot_tokens slot ≡ 0 → slot ≡ None
no_slot None h = refl
no_slot (Some n) h = cc

no_entries : (entries : List ℕ) → length entries ≡ 0 → entries ≡ []
no_entries [] h = refl
no_entries (n ∷ entries) h = cc

-- a device has no more tokens than one where it is busy, those of a frame among them
abbrev pub FewTokens : States → Shared → Frame → Type 0
FewTokens states s f =
    (d : ℕ) (start : StartState) → start_of s d ≡ Some start
    → frame_tokens states d f + start_tokens start ≤ (if start.busy then 1 else 0)

pub few_tokens : (set : Set) (states : States) (w : World) → OneTokenEach states w → (t : ℕ)
    (h : StepsFrame set w t) → FewTokens states w.shared h.frame
few_tokens set states w each t h d start there =
    omega (
      arith,
      top_le (λ f. frame_tokens states d f) w.threads t h.thread h.below h.frame h.found h.frames,
      each.one d start there,
    )

-- Where the top frame of a thread that steps has the token of its device, the current slot is
-- empty, and StartIo has to begin for no packet.
pub token_slot : (set : Set) (states : States) (w : World) → OneTokenEach states w → (t : ℕ)
    (h : StepsFrame set w t) (a : Activation)
    → h.frame ≡ Routine a → (state_of states a).token ≡ true
    → (start : StartState) → start_of w.shared a.device ≡ Some start
    → (start.slot ≡ None) × (start.start_list ≡ [])
token_slot set states w each t h a is has start there =
    let here : frame_tokens states a.device (Routine a) ≡ 1 = own_token states a has in
    let top : frame_tokens states a.device h.frame ≡ 1 = rw is here in
    let all : frame_tokens states a.device h.frame + start_tokens start
    ≤ (if start.busy then 1 else 0) = few_tokens set states w each t h a.device start there in
    let few : (if start.busy then 1 else 0) ≤ 1 = if_one start.busy in
    let both : start_tokens start ≡ length start.start_list + slot_tokens start.slot = refl in
    let none : slot_tokens start.slot ≡ 0 = omega arith in
    let empty : length start.start_list ≡ 0 = omega arith in
    (no_slot start.slot none, no_entries start.start_list empty)
