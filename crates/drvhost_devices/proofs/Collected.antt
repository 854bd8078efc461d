-- What was written in memory, where nothing failed there, is the answer.
use Rattle.std.proofs.Common.{◌≡◌, ◌≢◌, ◌+◌, ◌∙◌, ℕ, List, [], Option, Some, IfOk, Result, Ok, Err, arith, inl, inr, subst, sym}
use Rattle.std.specs.Io.KnownBytes.{Appends}
use Rattle.drvhost_devices.specs.Answer.{Answer}
use Rattle.drvhost_devices.specs.Device.{Says}
use Rattle.drvhost_devices.specs.Ends.{Answers, Ends, OutOfMemory, ReadFailed, Rightly, WriteFailed}
use Rattle.drvhost_devices.specs.Told.{Collects}

not_both : (n : ℕ) → n ≡ 1 → n ≡ 0 → ⊥
not_both n one none = omega (arith, one, none)

-- what was appended to nothing
appended : (n : Option (List ℕ)) (text taken : List ℕ) → Appends (Some []) n text
    → n ≡ Some taken → text ≡ taken
appended n text taken a e =
    let P : Option (List ℕ) → Type 0 = λ x. Appends (Some []) x text in sym (subst P e a)

pub said_in : (v : ℕ) (errors : Option (List ℕ)) (told taken : List ℕ)
    → Says 0 v (Some []) errors told → v ≡ 0 → errors ≡ Some taken → told ≡ taken
said_in v errors told taken (inl (same, a)) none e = appended errors told taken a e
said_in v errors told taken (inr (more, a)) none e = absurd (not_both v more none)

-- the answer is right that a call gave which failed nowhere
pub right_end : (Right : Answer → Type 0) (reads writes : ℕ) (n : Option (List ℕ)) (status : ℕ)
    (told : List ℕ) (answer : Answer) → Ends Right reads writes (Some []) n status told
    → reads ≡ 0 → writes ≡ 0 → status ≢ 3 → answer.status ≡ status → n ≡ Some answer.output
    → told ≡ answer.told → Right answer
right_end Right reads writes n status told answer (Rightly other right r w s t out) read none found is written words =
    let output : other.output ≡ answer.output = appended n other.output answer.output out written in
    let ended : other.status ≡ answer.status = sym s ∙ sym is in
    let spoken : other.told ≡ answer.told = sym t ∙ words in
    let same : other ≡ answer = λ i. record { status = ended i; output = output i; told = spoken i } in
    subst Right same right
right_end Right reads writes n status told answer (ReadFailed r w s t k) read none found is written words =
    absurd (not_both reads r read)
right_end Right reads writes n status told answer (WriteFailed other right r w s t out) read none found is written words =
    absurd (not_both writes w none)
right_end Right reads writes n status told answer (OutOfMemory r w s t k) read none found is written words =
    absurd (found s)

-- what was collected of it is right, where its writers were empty before
pub collected_right : {E : Type 0} (Right : Answer → Type 0)
    (status start end w u e v : ℕ) (b n p errors : Option (List ℕ)) (r : Result Answer E)
    → Answers Right start end w u b n (Says e v p errors) status
    → IfOk r (Collects status end u n v errors) → start ≡ 0 → w ≡ 0 → e ≡ 0 → b ≡ Some []
    → p ≡ Some [] → IfOk r Right
collected_right Right status start end w u e v b n p errors (Ok answer) a c none wrote said first second =
    let one = subst (λ x. Answers Right x end w u b n (Says e v p errors) status) none a in
    let two = subst (λ x. Answers Right 0 end x u b n (Says e v p errors) status) wrote one in
    let three = subst (λ x. Answers Right 0 end 0 u b n (Says x v p errors) status) said two in
    let four = subst (λ x. Answers Right 0 end 0 u x n (Says 0 v p errors) status) first three in
    let five = subst (λ x. Answers Right 0 end 0 u (Some []) n (Says 0 v x errors) status) second four in
    right_end Right five.reads five.writes n status five.told answer five.ends
    (omega (arith, five.reads_are, c.read)) (omega (arith, five.writes_are, c.wrote)) c.found
    c.status c.output
    (said_in v errors five.told answer.told five.tells c.said c.words)
collected_right Right status start end w u e v b n p errors (Err x) a c none wrote said first second = tt

-- what was collected is right, where the reads of neither failed
pub both_right : {E : Type 0} (Right : Answer → Type 0)
    (status start first second w u e v : ℕ) (b n p errors : Option (List ℕ)) (r : Result Answer E)
    → Answers Right start (first + second) w u b n (Says e v p errors) status
    → first ≡ 0 → second ≡ 0 → IfOk r (Collects status 0 u n v errors) → start ≡ 0 → w ≡ 0 → e ≡ 0
    → b ≡ Some [] → p ≡ Some [] → IfOk r Right
both_right Right status start first second w u e v b n p errors r a one two c none wrote said out err =
    let unread : first + second ≡ 0 = omega (arith, one, two) in
    let answers =
    subst (λ (x : ℕ). Answers Right start x w u b n (Says e v p errors) status) unread a in
    collected_right Right status start 0 w u e v b n p errors r answers c none wrote said out err
