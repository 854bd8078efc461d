-- Frames are the same where what they show is.
use Rattle.laws_runs.proofs.Prelude.{ap, sym, ◌∙◌, Some, ◌≡◌, Activation, Frame, CancelFrame, Routine, Walk}
use Rattle.checked_parts.specs.declared.frame.Managing.{Managing}
use Rattle.checked_parts.specs.declared.frame.Managing.TheVariants.{Cancels, Completes}
use Rattle.checked_parts.specs.Frames.{activation_of, manager_frame, manager_of}

routine_is : (f : Frame) (a : Activation) → activation_of f ≡ Some a → f ≡ Routine a
routine_is (Routine b) a h = let same : b ≡ a = cc in ap (λ (x : Activation). Routine x) same
routine_is (Walk n) a h = cc
routine_is (CancelFrame b) a h = cc

pub routines_same : (f g : Frame) (a b : Activation) → activation_of f ≡ Some a
    → activation_of g ≡ Some b → a ≡ b → f ≡ g
routines_same f g a b h k same =
    routine_is f a h ∙ ap (λ (x : Activation). Routine x) same ∙ sym (routine_is g b k)

manager_is : (f : Frame) (m : Managing) → manager_of f ≡ Some m → f ≡ manager_frame m
manager_is (Routine a) m h = cc
manager_is (Walk n) m h =
    let same : Completes n ≡ m = cc in ap (λ (x : Managing). manager_frame x) same
manager_is (CancelFrame b) m h =
    let same : Cancels b ≡ m = cc in ap (λ (x : Managing). manager_frame x) same

pub managers_same : (f g : Frame) (m n : Managing) → manager_of f ≡ Some m
    → manager_of g ≡ Some n → m ≡ n → f ≡ g
managers_same f g m n h k same =
    manager_is f m h ∙ ap (λ (x : Managing). manager_frame x) same ∙ sym (manager_is g n k)
