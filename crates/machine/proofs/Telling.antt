-- What is told of a world that is kept whole is told of each that it shows.
use Rattle.std.proofs.Common.{◌≡◌, ℕ, zero, suc, true, List, [], ◌∷◌, map, length, Option, None, Some, refl, ap, ◌∙◌}
use Rattle.std.specs.Prelude.{is_some, option_map, slice_get}
use Rattle.model.specs.declared.event.Event.{Event}
use Rattle.model.specs.declared.instr.Field.{Field}
use Rattle.model.specs.declared.instr.Field.TheVariants.{Major as MajorField, Argument as ArgumentField, Info as InfoField}
use Rattle.model.specs.declared.world.Frame.{Frame}
use Rattle.model.specs.declared.world.Frame.TheVariants.{Routine, Walk, Cancel as CancelFrame}
use Rattle.model.specs.declared.world.Packet.{Packet}
use Rattle.model.specs.declared.world.Thread.{Thread}
use Rattle.model.specs.Effect.{top_of}
use Rattle.model.specs.Run.{run}
use Rattle.model.specs.Set.{Set}
use Rattle.model.specs.Shown.{ShowsFrame, ShowsFrames, ShowsThread, ShowsThreads, ShowsWorld, ShownPacket, shown_packet, whole, whole_frame, whole_thread}
use Rattle.model.specs.View.{due_at, frame_view, packet_at, thread_at, thread_view, view_of}
use Rattle.model.specs.World.{Shared, World, field_of, packet_of, place_of}
use Rattle.machine.specs.Read.{field_at}
use Rattle.machine.proofs.Walking.{top_above, top_walk_live}
use Rattle.laws_runs.specs.ArrivingStates.{States}
use Rattle.laws_runs.specs.Holder.{HasOneHolder}

-- the I/O manager's packet, where its frame is on top, is live
abbrev TopLive : Shared → List Frame → Type 0
TopLive s frames = (n : ℕ) → top_of frames ≡ Some (Walk n) → is_some (packet_of s n) ≡ true

module _ (set : Set) (s : Shared) where
  top_told : (f g : Frame) → ShowsFrame set s None (whole_frame f) g → TopLive s (g ∷ [])
      → frame_view f ≡ frame_view g
  top_told (Routine a) (Routine b) h live = rw (h.driver, h.routine, h.device, h.position) refl
  top_told (Walk m) (Walk n) h live = rw (h (live n refl)) refl
  top_told (CancelFrame b) (CancelFrame c) h live = rw h refl
  top_told (Routine a) (Walk n) h live = absurd h
  top_told (Routine a) (CancelFrame c) h live = absurd h
  top_told (Walk m) (Routine b) h live = absurd h
  top_told (Walk m) (CancelFrame c) h live = absurd h
  top_told (CancelFrame b) (Routine a) h live = absurd h
  top_told (CancelFrame b) (Walk n) h live = absurd h

  frames_told : (frames others : List Frame) → ShowsFrames set s (map whole_frame frames) others
      → TopLive s others
      → (length frames ≡ length others)
      × (option_map frame_view (top_of frames) ≡ option_map frame_view (top_of others))
  frames_told [] [] h live = (refl, refl)
  frames_told [] (g ∷ others) h live = absurd h
  frames_told (f ∷ frames) [] h live = absurd h
  frames_told (f ∷ []) (g ∷ []) h live = (refl, ap Some (top_told f g h.0 live))
  frames_told (f ∷ []) (g ∷ e ∷ others) h live = absurd h.1
  frames_told (f ∷ d ∷ frames) (g ∷ []) h live = absurd h.1
  frames_told (f ∷ d ∷ frames) (g ∷ e ∷ others) h live =
      let above : (length (d ∷ frames) ≡ length (e ∷ others))
      × (option_map frame_view (top_of (d ∷ frames))
      ≡ option_map frame_view (top_of (e ∷ others))) =
      frames_told (d ∷ frames) (e ∷ others) h.1
      (λ n top. live n (top_above g e others ∙ top)) in
      (ap suc above.0, rw (top_above f d frames, top_above g e others) above.1)

  thread_told : (thread other : Thread) → ShowsThread set s (whole_thread thread) other
      → TopLive s other.frames.items
      → thread_view thread ≡ thread_view other
  thread_told thread other h live =
      let told : (length thread.frames.items ≡ length other.frames.items)
      × (option_map frame_view (top_of thread.frames.items)
      ≡ option_map frame_view (top_of other.frames.items)) =
      frames_told thread.frames.items other.frames.items h.1 live in
      rw (h.0, told.1, told.0) refl

  threads_told : (threads others : List Thread) (t : ℕ)
      → ShowsThreads set s (map whole_thread threads) others
      → ((thread : Thread) → slice_get others t ≡ Some thread → TopLive s thread.frames.items)
      → option_map thread_view (slice_get threads t) ≡ option_map thread_view (slice_get others t)
  threads_told [] [] t h live = refl
  threads_told [] (other ∷ others) t h live = absurd h
  threads_told (thread ∷ threads) [] t h live = absurd h
  threads_told (thread ∷ threads) (other ∷ others) zero h live =
      ap Some (thread_told thread other h.0 (live other refl))
  threads_told (thread ∷ threads) (other ∷ others) (suc t) h live =
      threads_told threads others t h.1 live

-- packets that show the same
module _ (first second : Shared)
    (packets : map shown_packet first.packets ≡ map shown_packet second.packets)
    (issued : first.issued ≡ second.issued) where
  places_same : (ps qs : List Packet) (n : ℕ) → map shown_packet ps ≡ map shown_packet qs
      → place_of ps n ≡ place_of qs n
  places_same [] [] n h = refl
  places_same [] (q ∷ qs) n h = cc
  places_same (p ∷ ps) [] n h = cc
  places_same (p ∷ ps) (q ∷ qs) n h =
      let same : shown_packet p ≡ shown_packet q = cc in
      let others : map shown_packet ps ≡ map shown_packet qs = cc in
      let number : p.number ≡ q.number = ap (λ (x : ShownPacket). x.number) same in
      rw (number, places_same ps qs n others) refl

  found_same : (ps qs : List Packet) (k : ℕ) → map shown_packet ps ≡ map shown_packet qs
      → option_map shown_packet (slice_get ps k) ≡ option_map shown_packet (slice_get qs k)
  found_same [] [] k h = refl
  found_same [] (q ∷ qs) k h = cc
  found_same (p ∷ ps) [] k h = cc
  found_same (p ∷ ps) (q ∷ qs) zero h =
      let same : shown_packet p ≡ shown_packet q = cc in ap Some same
  found_same (p ∷ ps) (q ∷ qs) (suc k) h =
      let others : map shown_packet ps ≡ map shown_packet qs = cc in found_same ps qs k others

  viewed : (n : ℕ) (o other : Option Packet) → option_map shown_packet o
      ≡ option_map shown_packet other
      → view_of first n o ≡ view_of second n other
  viewed n None None h = rw issued refl
  viewed n None (Some q) h = cc
  viewed n (Some p) None h = cc
  viewed n (Some p) (Some q) h =
      let same : shown_packet p ≡ shown_packet q = cc in
      let depth : p.depth ≡ q.depth = ap (λ (x : ShownPacket). x.depth) same in
      let cancel : p.cancel ≡ q.cancel = ap (λ (x : ShownPacket). x.cancel) same in
      let locations : p.locations.items ≡ q.locations.items =
      ap (λ (x : ShownPacket). x.locations) same in
      let armer : p.armer ≡ q.armer = ap (λ (x : ShownPacket). x.armer) same in
      rw (depth, cancel, locations, armer) refl

  packet_viewed : (n : ℕ) → view_of first n (packet_of first n)
      ≡ view_of second n (packet_of second n)
  packet_viewed n =
      viewed n (packet_of first n) (packet_of second n)
      (rw (places_same first.packets second.packets n packets)
      (found_same first.packets second.packets (place_of second.packets n) packets))

  of_field : (field : Field) (p q : Packet) → p.depth ≡ q.depth → p.info ≡ q.info
      → p.locations.items ≡ q.locations.items → field_of p field ≡ field_of q field
  of_field MajorField p q depth info locations = rw (depth, locations) refl
  of_field ArgumentField p q depth info locations = rw (depth, locations) refl
  of_field InfoField p q depth info locations = info

  fields : (field : Field) (o other : Option Packet) → option_map shown_packet o
      ≡ option_map shown_packet other
      → option_map (λ p. field_of p field) o ≡ option_map (λ p. field_of p field) other
  fields field None None h = refl
  fields field None (Some q) h = cc
  fields field (Some p) None h = cc
  fields field (Some p) (Some q) h =
      let same : shown_packet p ≡ shown_packet q = cc in
      ap Some (of_field field p q (ap (λ (x : ShownPacket). x.depth) same)
      (ap (λ (x : ShownPacket). x.info) same) (ap (λ (x : ShownPacket). x.locations) same))

  packet_fields : (n : ℕ) (field : Field)
      → option_map (λ p. field_of p field) (packet_of first n)
      ≡ option_map (λ p. field_of p field) (packet_of second n)
  packet_fields n field =
      fields field (packet_of first n) (packet_of second n)
      (rw (places_same first.packets second.packets n packets)
      (found_same first.packets second.packets (place_of second.packets n) packets))

-- what is told of a world of a run
module _ (set : Set) (w : World) (threads : ℕ) (events : List Event)
    (shows : ShowsWorld (whole set w) (run set threads events).world) where
  pub tells_thread : (states : States) → HasOneHolder set states threads events → (t : ℕ)
      → thread_at w t ≡ thread_at (run set threads events).world t
  tells_thread states holder t =
      let after : World = (run set threads events).world in
      threads_told set after.shared w.threads after.threads t shows.threads
      (λ thread there n top. top_walk_live set states threads events holder t thread n there top)

  pub tells_packet : (n : ℕ) → packet_at w n ≡ packet_at (run set threads events).world n
  tells_packet n =
      packet_viewed w.shared (run set threads events).world.shared shows.packets shows.issued n

  pub tells_due : (d : ℕ) → due_at w d ≡ due_at (run set threads events).world d
  tells_due d = rw (shows.starts, shows.dpcs) refl

-- what is read of what threads share, where it shows as that of a run
module _ (s : Shared) (w : World) (packets : map shown_packet s.packets
    ≡ map shown_packet w.shared.packets) (issued : s.issued ≡ w.shared.issued) where
  pub tells_field : (n : ℕ) (field : Field)
      → option_map (λ p. field_of p field) (packet_of s n) ≡ field_at w n field
  tells_field n field = packet_fields s w.shared packets issued n field
