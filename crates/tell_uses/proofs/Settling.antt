-- The frames of a thread stand, place by place.
use Rattle.std.proofs.Common.{◌≡◌, ◌∙◌, ℕ, zero, suc, ◌+◌, ◌≤◌, ◌<◌, List, [], ◌∷◌, ◌++◌, Bool, true, false, Option, None, Some, refl, sym, ap, drop, length, take, arith}
use Rattle.std.specs.Prelude.{slice_get, slice_set, if◌then◌else◌}
use Rattle.std.proofs.lemmas.List.{append-nil, drop_all}
use Rattle.model.specs.declared.world.Frame.{Frame}
use Rattle.model.specs.Set.{Set}
use Rattle.tell_uses.specs.declared.ledger.Server.{Server}
use Rattle.tell_uses.specs.Ledger.{new_server, settled, settled_as, settled_at, settled_place, stays}
use Rattle.tell_uses.specs.Uses.{UsesState}

module _ (set : Set) (l : UsesState) where
  kept_or : (b : Bool) (server new : Server) (servers : List Server) (k : ℕ)
      → (if b then server ∷ servers else server ∷ slice_set servers k new)
      ≡ server ∷ (if b then servers else slice_set servers k new)
  kept_or true server new servers k = refl
  kept_or false server new servers k = refl

  at_later : (server : Server) (servers : List Server) (k : ℕ) (f : Frame) (o : Option Server)
      → settled_at set l (server ∷ servers) (suc k) f o ≡ server ∷ settled_at set l servers k f o
  at_later server servers k f None = refl
  at_later server servers k f (Some x) = kept_or (stays x f) server (new_server set l f) servers k

  one_long : (b : Bool) (server new : Server) (servers : List Server)
      → 1 ≤ length (if b then server ∷ servers else new ∷ servers)
  one_long true server new servers = omega arith
  one_long false server new servers = omega arith

  reaches_on : (servers : List Server) (k : ℕ) (f : Frame) → k ≤ length servers
      → suc k ≤ length (settled_at set l servers k f (slice_get servers k))
  reaches_on [] zero f h = omega arith
  reaches_on [] (suc k) f h = absurd (omega (arith, h))
  reaches_on (server ∷ servers) zero f h = one_long (stays server f) server (new_server set l f) servers
  reaches_on (server ∷ servers) (suc k) f h =
      let less : k ≤ length servers = omega (arith, h) in
      let more : suc k ≤ length (settled_at set l servers k f (slice_get servers k)) =
      reaches_on servers k f less in
      rw (at_later server servers k f (slice_get servers k)) (omega (arith, more))

  first_place : (b : Bool) (server new : Server) (servers : List Server) (frames : List Frame)
      → (if b then server else new) ∷ settled set l servers frames
      ≡ take 1 (if b then server ∷ servers else new ∷ servers)
      ++ settled set l (drop 1 (if b then server ∷ servers else new ∷ servers)) frames
  first_place true server new servers frames = refl
  first_place false server new servers frames = refl

  settled_on : (servers : List Server) (frames : List Frame) (k : ℕ) (f : Frame)
      → slice_get frames k ≡ Some f → k ≤ length servers
      → take k servers ++ settled set l (drop k servers) (drop k frames)
      ≡ take (suc k) (settled_at set l servers k f (slice_get servers k))
      ++ settled set l (drop (suc k) (settled_at set l servers k f (slice_get servers k)))
      (drop (suc k) frames)
  settled_on servers [] k f there h = cc
  settled_on [] (g ∷ frames) zero f there h = let same : g ≡ f = cc in rw same refl
  settled_on (server ∷ servers) (g ∷ frames) zero f there h =
      let same : g ≡ f = cc in
      rw same
      (first_place (stays server f) server (new_server set l f) servers frames)
  settled_on [] (g ∷ frames) (suc k) f there h = absurd (omega (arith, h))
  settled_on (server ∷ servers) (g ∷ frames) (suc k) f there h =
      rw (at_later server servers k f (slice_get servers k))
      (ap (λ (xs : List Server). server ∷ xs)
      (settled_on servers frames k f there (omega (arith, h))))

  -- a frame stands at each place
  frame_there : (frames : List Frame) (k : ℕ) → k < length frames → (f : Frame)
      × (slice_get frames k ≡ Some f)
  frame_there [] k h = absurd (omega (arith, h))
  frame_there (f ∷ frames) zero h = (f, refl)
  frame_there (f ∷ frames) (suc k) h = frame_there frames k (omega (arith, h))

  pub reaches_next : (servers : List Server) (frames : List Frame) (k : ℕ) → k < length frames
      → k ≤ length servers
      → k + 1 ≤ length (settled_place set l servers k (slice_get frames k))
  reaches_next servers frames k within h =
      let there = frame_there frames k within in
      let more : suc k ≤ length (settled_at set l servers k there.0 (slice_get servers k)) =
      reaches_on servers k there.0 h in
      rw there.1 (omega (arith, more))

  pub settled_next : (servers : List Server) (frames : List Frame) (k : ℕ) → k < length frames
      → k ≤ length servers
      → take k servers ++ settled set l (drop k servers) (drop k frames)
      ≡ take (k + 1) (settled_place set l servers k (slice_get frames k))
      ++ settled set l (drop (k + 1) (settled_place set l servers k (slice_get frames k)))
      (drop (k + 1) frames)
  settled_next servers frames k within h =
      let there = frame_there frames k within in
      let next : suc k ≡ k + 1 = omega arith in
      let after : List Server = settled_at set l servers k there.0 (slice_get servers k) in
      rw there.1
      (settled_on servers frames k there.0 there.1 h
      ∙ ap (λ (j : ℕ). take j after ++ settled set l (drop j after) (drop j frames)) next)

  pub settled_all : (servers others : List Server) (frames : List Frame)
      → settled set l servers frames
      ≡ take (length frames) others
      ++ settled set l (drop (length frames) others) (drop (length frames) frames)
      → settled set l servers frames ≡ take (length frames) others
  settled_all servers others frames h =
      h
      ∙ ap (λ (rest : List Frame). take (length frames) others
      ++ settled set l (drop (length frames) others) rest)
      (drop_all (length frames) frames (omega arith))
      ∙ append-nil (take (length frames) others)
