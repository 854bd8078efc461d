-- Of an accepted set's run nothing that is lost or left behind is found.
use Rattle.std.proofs.Common.{◌≡◌, ◌∙◌, ℕ, List, [], ap, length}
use Rattle.model.specs.Set.{Set}
use Rattle.model.specs.World.{World}
use Rattle.tell_audit.specs.declared.left.LeftLock.{LeftLock}
use Rattle.tell_audit.specs.Findings.{IsOfAccepted}
use Rattle.tell_audit.specs.Laws.{AcceptedRunsLeaveNoLock, AcceptedRunsLoseNoPacket}
use Rattle.tell_audit.specs.Left.{left_locks}
use Rattle.tell_audit.specs.Naming.{lost_packets}

pub none_lost : AcceptedRunsLoseNoPacket → (set : Set) (w : World) (lost : List ℕ)
    → lost ≡ lost_packets w → IsOfAccepted set w → lost ≡ []
none_lost law set w lost is h =
    is ∙ ap (λ (w : World). lost_packets w) h.of ∙ law set h.typable h.sound h.threads h.events

pub none_left : AcceptedRunsLeaveNoLock → (set : Set) (w : World) (left : List LeftLock)
    → left ≡ left_locks w (length set.devices) → IsOfAccepted set w → left ≡ []
none_left law set w left is h =
    is ∙ ap (λ (w : World). left_locks w (length set.devices)) h.of
    ∙ law set h.typable h.sound h.threads h.events
