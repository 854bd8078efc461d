-- What a step does to the numbers of claims: one register's packet becomes of another kind, and
-- with it the packet's word may change, and whether it stands in a queue of the device. Each kind
-- of step keeps the balance.
use Rattle.laws_runs.proofs.Common.{ap, arith, inl, inr, refl, subst, sym, ◌∙◌, eqb_tells, Bool, false, if◌then◌else◌, nat_eq, true, ℕ, ◌+◌, ◌≡◌, ◌≢◌, ◌≤◌, ◌⊎◌, is_at, is_claim, is_name, Set, Kind, BlankKind, Own, Queued, Stage, Armed, Cancelling, Listed, Taken, QueueName, Declared, DeviceQueue, Ref, named_as}
use Rattle.std.proofs.Common.{eq-eqb}
use Rattle.model.specs.Kinds.{stage_number}
use Rattle.laws_runs.proofs.Claims.Sums.{Balanced, Numbers, is_cancelable, was_taken, is_declared}

-- two names are of one list or not
pub names_tell : (one other : QueueName)
    → ((is_name one other ≡ true) × (one ≡ other)) ⊎ ((is_name one other ≡ false) × (one ≢ other))
names_tell (Declared q) (Declared p) =
    elim (eqb_tells q p) [
      | inl same ↦ inl (same.0, ap (λ (x : ℕ). Declared x) same.1)
      | inr apart ↦ inr (apart.0, λ h. (let same : q ≡ p = cc in apart.1 same))
    ]
names_tell (Declared q) DeviceQueue = inr (refl, λ h. cc)
names_tell DeviceQueue (Declared p) = inr (refl, λ h. cc)
names_tell DeviceQueue DeviceQueue = inl (refl, refl)

pub name_same : (q : QueueName) → is_name q q ≡ true
name_same (Declared q) = eq-eqb q q refl
name_same DeviceQueue = refl

pub at_same : (stage : Stage) (q : QueueName) → is_at stage q (Queued q stage) ≡ true
at_same stage q = rw (eq-eqb (stage_number stage) (stage_number stage) refl, name_same q) refl

-- a claim is armed or taken
pub claim_le : (stage : Stage) → is_claim stage ≡ true → (f : Stage → ℕ)
    → f stage ≤ f Armed + f Taken
claim_le Armed is f = omega arith
claim_le Taken is f = omega arith
claim_le _ is f = cc

-- 1 for one device, list and packet, 0 for others
abbrev pub hit : ℕ → QueueName → ℕ → ℕ → QueueName → ℕ → ℕ
hit d q n e p m =
    if is_name q p then (if nat_eq d e then (if nat_eq n m then 1 else 0) else 0) else 0

pub hit_elsewhere : (d : ℕ) (q : QueueName) (n e : ℕ) (p : QueueName) (m : ℕ) → nat_eq d e ≡ false
    → hit d q n e p m ≡ 0
hit_elsewhere d q n e p m far =
    rw far (elim (names_tell q p) [
      | inr other ↦ rw other.0 refl
      | inl its ↦ rw its.0 refl
    ])

module _ (P : ℕ → QueueName → ℕ → Type 0) (d : ℕ) (q : QueueName) (n : ℕ) (h : P d q n) where
  hit_tells : (e : ℕ) (p : QueueName) (m : ℕ) → (hit d q n e p m ≡ 0)
      ⊎ ((hit d q n e p m ≡ 1) × P e p m)
  hit_tells e p m =
      elim (names_tell q p) [
        | inr far ↦ inl (rw far.0 refl)
        | inl its ↦ elim (eqb_tells d e) [
          | inr far ↦ inl (rw (its.0, far.0) refl)
          | inl there ↦ elim (eqb_tells n m) [
            | inr far ↦ inl (rw (its.0, there.0, far.0) refl)
            | inl same ↦ inr (
              rw (its.0, there.0, same.0) refl,
              subst (λ (x : ℕ). P e p x) same.1
                  (subst (λ (x : QueueName). P e x n) its.1 (subst (λ (x : ℕ). P x q n) there.1 h)),
            )
          ]
        ]
      ]

-- a packet in a register of a kind, of a frame for a device
abbrev pub at_kind : (Kind → Bool) → (ℕ → Bool) → ℕ → Kind → ℕ → ℕ → ℕ
at_kind f on d k m n = if f k then (if on d then (if nat_eq m n then 1 else 0) else 0) else 0

pub at_swapped : (b on : Bool) (one : ℕ) → (if on then (if b then one else 0) else 0)
    ≡ (if b then (if on then one else 0) else 0)
at_swapped true on one = refl
at_swapped false true one = refl
at_swapped false false one = refl

-- as many registers of a kind as before, but for the packet of one, which became of another kind
abbrev pub OneTurns : (QueueName → Kind → Bool) → (one other : ℕ → QueueName → ℕ → ℕ) → Kind → Kind
    → ℕ → ℕ
    → Type 0
OneTurns f one other j k e m =
    (d : ℕ) (q : QueueName) (n : ℕ) → other d q n + at_kind (f q) (λ c. nat_eq c d) e j m n
    ≡ one d q n + at_kind (f q) (λ c. nat_eq c d) e k m n

pub record KindTurns (x y : Numbers) (j k : Kind) (e m : ℕ) : Type 0 where
  pub staged : (stage : Stage) → OneTurns (is_at stage) (x.staged stage) (y.staged stage) j k e m
  pub takes : (n : ℕ)
      → y.takes n + named_as was_taken j (Ref m) n ≡ x.takes n + named_as was_taken k (Ref m) n

-- where no packet is taken off a list then, each still stands in one or was taken off one
pub once_turned : (x y : Numbers) (j k : Kind) (e m : ℕ) → KindTurns x y j k e m
    → was_taken k ≡ false → ((n : ℕ) → x.takes n + y.lists n ≤ 1)
    → (n : ℕ) → y.takes n + y.lists n ≤ 1
once_turned x y j k e m turns none once n =
    let nothing : named_as was_taken k (Ref m) n ≡ 0 = rw none refl in
    omega (arith, turns.takes n, once n)

-- a number stays, or has one more or one fewer at one place
abbrev pub Same : (ℕ → QueueName → ℕ → ℕ) → (ℕ → QueueName → ℕ → ℕ) → Type 0
Same one other = (d : ℕ) (q : QueueName) (n : ℕ) → other d q n ≡ one d q n

abbrev pub More : ℕ → QueueName → ℕ → (ℕ → QueueName → ℕ → ℕ) → (ℕ → QueueName → ℕ → ℕ) → Type 0
More e p m one other = (d : ℕ) (q : QueueName) (n : ℕ) → other d q n ≡ one d q n + hit e p m d q n

abbrev pub Fewer : ℕ → QueueName → ℕ → (ℕ → QueueName → ℕ → ℕ) → (ℕ → QueueName → ℕ → ℕ) → Type 0
Fewer e p m one other = (d : ℕ) (q : QueueName) (n : ℕ) → other d q n + hit e p m d q n ≡ one d q n

-- what went and what came
abbrev Moves : (one other out into : ℕ → QueueName → ℕ → ℕ) → Type 0
Moves one other out into =
    (d : ℕ) (q : QueueName) (n : ℕ) → other d q n + out d q n ≡ one d q n + into d q n

abbrev none : ℕ → QueueName → ℕ → ℕ
none d q n = 0

by_same : (one other : ℕ → QueueName → ℕ → ℕ) → Same one other → Moves one other none none
by_same one other h d q n = omega (arith, h d q n)

by_more : (e : ℕ) (p : QueueName) (m : ℕ) (one other : ℕ → QueueName → ℕ → ℕ) → More e p m one other
    → Moves one other none (hit e p m)
by_more e p m one other h d q n =
    omega (arith, h d q n)

by_fewer : (e : ℕ) (p : QueueName) (m : ℕ) (one other : ℕ → QueueName → ℕ → ℕ)
    → Fewer e p m one other
    → Moves one other (hit e p m) none
by_fewer e p m one other h d q n =
    omega (arith, h d q n)

module _ (set : Set) (x y : Numbers) (b : Balanced set x)
    (once : (n : ℕ) → y.takes n + y.lists n ≤ 1) where
  -- claims are given up, or nothing changes
  pub balanced_less : ((stage : Stage) → is_claim stage ≡ true → (d : ℕ) (q : QueueName) (n : ℕ)
      → y.staged stage d q n ≤ x.staged stage d q n)
      → ((stage : Stage) → is_claim stage ≡ false → Same (x.staged stage) (y.staged stage))
      → Same x.word y.word
      → ((d : ℕ) (q : QueueName) (n : ℕ) → is_declared q ≡ true → y.entries d q n ≡ x.entries d q n)
      → ((d : ℕ) (q : QueueName) (n : ℕ) → is_cancelable set d q ≡ true
      → y.entries d q n ≤ x.entries d q n)
      → Balanced set y
  balanced_less less same word declared entries =
      record {
        backed = λ d q n.
            omega (
              arith,
              less Armed refl d q n,
              less Taken refl d q n,
              same Cancelling refl d q n,
              word d q n,
              b.backed d q n,
            );
        entered = λ d q n is.
            omega (
              arith,
              same Listed refl d q n,
              same Cancelling refl d q n,
              word d q n,
              entries d q n is,
              b.entered d q n is,
            );
        standing = λ d q n is.
            omega (
              arith,
              same Listed refl d q n,
              less Armed refl d q n,
              declared d q n is,
              b.standing d q n is,
            );
        once = once;
      }

  module _ (j k : Kind) (e m : ℕ) (turns : KindTurns x y j k e m)
      (word_out word_in out into : ℕ → QueueName → ℕ → ℕ)
      (word : Moves x.word y.word word_out word_in)
      (entries : Moves x.entries y.entries out into) where
    module _ (d : ℕ) (q : QueueName) (n : ℕ) where
      abbrev of : Stage → Kind → ℕ
      of stage i = at_kind (is_at stage q) (λ c. nat_eq c d) e i m n

      -- the changes alone keep a side of the balance
      by_backed : of Armed k + of Taken k + word_out d q n + of Cancelling j
          ≤ of Armed j + of Taken j + word_in d q n + of Cancelling k
          → y.staged Armed d q n + y.staged Taken d q n ≤ y.word d q n + y.staged Cancelling d q n
      by_backed fair =
          omega (
            arith,
            turns.staged Armed d q n,
            turns.staged Taken d q n,
            turns.staged Cancelling d q n,
            word d q n,
            b.backed d q n,
          )

      by_entered : is_cancelable set d q ≡ true
          → into d q n + word_out d q n + of Cancelling j + of Listed j
          ≤ out d q n + word_in d q n + of Cancelling k + of Listed k
          → y.entries d q n ≤ y.word d q n + y.staged Cancelling d q n + y.staged Listed d q n
      by_entered is fair =
          omega (
            arith,
            turns.staged Listed d q n,
            turns.staged Cancelling d q n,
            word d q n,
            entries d q n,
            b.entered d q n is,
          )

      by_standing : is_declared q ≡ true → of Listed k + of Armed k + out d q n
          ≤ of Listed j + of Armed j + into d q n
          → y.staged Listed d q n + y.staged Armed d q n ≤ y.entries d q n
      by_standing is fair =
          omega (
            arith,
            turns.staged Listed d q n,
            turns.staged Armed d q n,
            entries d q n,
            b.standing d q n is,
          )

    -- and so all of it
    by_turn : ((d : ℕ) (q : QueueName) (n : ℕ)
        → of d q n Armed k + of d q n Taken k + word_out d q n
        + of d q n Cancelling j
        ≤ of d q n Armed j + of d q n Taken j + word_in d q n + of d q n Cancelling k)
        → ((d : ℕ) (q : QueueName) (n : ℕ) → into d q n + word_out d q n + of d q n Cancelling j
        + of d q n Listed j
        ≤ out d q n + word_in d q n + of d q n Cancelling k + of d q n Listed k)
        → ((d : ℕ) (q : QueueName) (n : ℕ) → of d q n Listed k + of d q n Armed k + out d q n
        ≤ of d q n Listed j + of d q n Armed j + into d q n)
        → Balanced set y
    by_turn backed entered standing =
        record {
          backed = λ d q n. by_backed d q n (backed d q n);
          entered = λ d q n is. by_entered d q n is (entered d q n);
          standing = λ d q n is. by_standing d q n is (standing d q n);
          once = once;
        }

  -- a claim is given up
  pub balanced_gives : (j : Kind) (e m : ℕ)
      → ((q : QueueName) → (is_at Listed q j ≡ false) × (is_at Cancelling q j ≡ false))
      → KindTurns x y j BlankKind e m → Same x.word y.word → Same x.entries y.entries
      → Balanced set y
  balanced_gives j e m plain turns word entries =
      let no_right : (d : ℕ) (q : QueueName) (n : ℕ)
      → at_kind (is_at Listed q) (λ c. nat_eq c d) e j m n
      + at_kind (is_at Cancelling q) (λ c. nat_eq c d) e j m n ≡ 0 =
      λ d q n. rw ((plain q).0, (plain q).1) refl in
      by_turn j BlankKind e m turns none none none none (by_same x.word y.word word)
      (by_same x.entries y.entries entries)
      (λ d q n. omega (arith, no_right d q n))
      (λ d q n. omega (arith, no_right d q n))
      (λ d q n. omega arith)

  -- for one packet and one queue of a device
  module _ (e : ℕ) (p : QueueName) (m : ℕ) where
    abbrev at : ℕ → QueueName → ℕ → ℕ
    at = hit e p m

    -- where nobody names an entry at that place, and nobody comes to, one may go there
    one_gone : (j k : Kind) → KindTurns x y j k e m → x.staged Armed e p m ≡ 0
        → x.staged Listed e p m ≡ 0
        → ((d : ℕ) (q : QueueName) (n : ℕ) → at_kind (is_at Listed q) (λ c. nat_eq c d) e k m n
        + at_kind (is_at Armed q) (λ c. nat_eq c d) e k m n ≡ 0)
        → ((d : ℕ) (q : QueueName) (n : ℕ) → is_declared q ≡ true → at d q n ≡ 0
        → y.staged Listed d q n + y.staged Armed d q n ≤ y.entries d q n)
        → (d : ℕ) (q : QueueName) (n : ℕ) → is_declared q ≡ true
        → y.staged Listed d q n + y.staged Armed d q n ≤ y.entries d q n
    one_gone j k turns no_armed no_listed nobody elsewhere d q n is =
        elim (hit_tells (λ d q n. (x.staged Armed d q n ≡ 0) × (x.staged Listed d q n ≡ 0)) e p m
        (no_armed, no_listed) d q n) [
          | inl far ↦ elsewhere d q n is far
          | inr here ↦
              let no_a : x.staged Armed d q n ≡ 0 = here.1.0 in
              let no_l : x.staged Listed d q n ≡ 0 = here.1.1 in
              omega (arith, nobody d q n, turns.staged Armed d q n, turns.staged Listed d q n)
        ]

    -- a packet is put into a queue with a cancel routine, or into one without
    pub balanced_inserts : KindTurns x y Own (Queued p Listed) e m → Same x.word y.word
        → More e p m x.entries y.entries → Balanced set y
    balanced_inserts turns word entries =
        by_turn Own (Queued p Listed) e m turns none none none at
        (by_same x.word y.word word) (by_more e p m x.entries y.entries entries)
        (λ d q n. omega arith) (λ d q n. omega arith) (λ d q n. omega arith)

    pub balanced_joins : is_cancelable set e p ≡ false → KindTurns x y Own BlankKind e m
        → Same x.word y.word → More e p m x.entries y.entries → Balanced set y
    balanced_joins plain turns word entries =
        let words : Moves x.word y.word none none = by_same x.word y.word word in
        let more : Moves x.entries y.entries none at = by_more e p m x.entries y.entries entries in
        record {
          backed = λ d q n.
              by_backed Own BlankKind e m turns none none none at words more d q n (omega arith);
          entered = λ d q n is.
              elim (hit_tells (λ d q n. is_cancelable set d q ≡ false) e p m plain d q n) [
                | inl far ↦
                    let nothing : at d q n ≡ 0 = far in
                    by_entered Own BlankKind e m turns none none none at words more d q n is
                    (omega arith)
                | inr here ↦ let no : true ≡ false = sym is ∙ here.1 in cc
              ];
          standing = λ d q n is.
              by_standing Own BlankKind e m turns none none none at words more d q n is
              (omega arith);
          once = once;
        }

    -- the first packet of a queue is taken off, by the one that holds its guard: it has no register
    -- that names an entry, and nobody else has
    pub balanced_removes : is_cancelable set e p ≡ true
        → x.staged Armed e p m ≡ 0 → x.staged Taken e p m ≡ 0 → x.staged Listed e p m ≡ 0
        → KindTurns x y BlankKind (Queued p Taken) e m → Same x.word y.word
        → Fewer e p m x.entries y.entries → Balanced set y
    balanced_removes may no_armed no_taken no_listed turns word entries =
        let words : Moves x.word y.word none none = by_same x.word y.word word in
        let less : Moves x.entries y.entries at none = by_fewer e p m x.entries y.entries entries in
        record {
          backed = λ d q n.
              elim (hit_tells
              (λ d q n. (is_cancelable set d q ≡ true) × (x.staged Armed d q n ≡ 0)
              × (x.staged Taken d q n ≡ 0)
              × (x.staged Listed d q n ≡ 0)) e p m (may, no_armed, no_taken, no_listed) d q n) [
                | inl far ↦
                    let nothing : at d q n ≡ 0 = far in
                    by_backed BlankKind (Queued p Taken) e m turns none none at none words less
                    d q n (omega arith)
                | inr here ↦
                    let one : at d q n ≡ 1 = here.0 in
                    let no_a : x.staged Armed d q n ≡ 0 = here.1.1 in
                    let no_t : x.staged Taken d q n ≡ 0 = here.1.2 in
                    let no_l : x.staged Listed d q n ≡ 0 = here.1.3 in
                    omega (
                      arith,
                      turns.staged Armed d q n,
                      turns.staged Taken d q n,
                      turns.staged Cancelling d q n,
                      word d q n,
                      entries d q n,
                      b.entered d q n here.1.0,
                    )
              ];
          entered = λ d q n is.
              by_entered BlankKind (Queued p Taken) e m turns none none at none words less d q n
              is (omega arith);
          standing = one_gone BlankKind (Queued p Taken) turns no_armed no_listed
              (λ d q n. refl)
              (λ d q n is far.
              let nothing : at d q n ≡ 0 = far in
              by_standing BlankKind (Queued p Taken) e m turns none none at none words less d q
              n is (omega arith));
          once = once;
        }

    -- off one without a cancel routine it is the routine's own
    pub balanced_leaves : x.staged Armed e p m ≡ 0 → x.staged Listed e p m ≡ 0
        → KindTurns x y BlankKind Own e m → Same x.word y.word → Fewer e p m x.entries y.entries
        → Balanced set y
    balanced_leaves no_armed no_listed turns word entries =
        let words : Moves x.word y.word none none = by_same x.word y.word word in
        let less : Moves x.entries y.entries at none = by_fewer e p m x.entries y.entries entries in
        record {
          backed = λ d q n.
              by_backed BlankKind Own e m turns none none at none words less d q n (omega arith);
          entered = λ d q n is.
              by_entered BlankKind Own e m turns none none at none words less d q n is
              (omega arith);
          standing = one_gone BlankKind Own turns no_armed no_listed (λ d q n. refl)
              (λ d q n is far.
              let nothing : at d q n ≡ 0 = far in
              by_standing BlankKind Own e m turns none none at none words less d q n is
              (omega arith));
          once = once;
        }

    -- a packet is unlinked that no cancel routine was set for; or by its cancel routine, where it
    -- stands in the queue no more, and nobody has a claim
    pub balanced_unlinks : KindTurns x y (Queued p Listed) Own e m → Same x.word y.word
        → Fewer e p m x.entries y.entries → Balanced set y
    balanced_unlinks turns word entries =
        by_turn (Queued p Listed) Own e m turns none none at none
        (by_same x.word y.word word) (by_fewer e p m x.entries y.entries entries)
        (λ d q n. omega arith) (λ d q n. omega arith) (λ d q n. omega arith)

    pub balanced_cancels : x.staged Armed e p m ≡ 0 → x.staged Taken e p m ≡ 0
        → x.staged Listed e p m ≡ 0
        → y.entries e p m ≡ 0
        → ((d : ℕ) (q : QueueName) (n : ℕ) → hit e p m d q n ≡ 0
        → y.entries d q n ≡ x.entries d q n)
        → KindTurns x y (Queued p Cancelling) Own e m → Same x.word y.word → Balanced set y
    balanced_cancels no_armed no_taken no_listed no_entry others turns word =
        let words : Moves x.word y.word none none = by_same x.word y.word word in
        let changed : Moves x.entries y.entries x.entries y.entries = λ d q n. omega arith in
        record {
          backed = λ d q n.
              elim (hit_tells (λ d q n. (x.staged Armed d q n ≡ 0) × (x.staged Taken d q n ≡ 0))
              e p m
              (no_armed, no_taken) d q n) [
                | inl far ↦
                    let nothing : at d q n ≡ 0 = far in
                    by_backed (Queued p Cancelling) Own e m turns none none x.entries y.entries
                    words changed d q n (omega arith)
                | inr here ↦
                    let no_a : x.staged Armed d q n ≡ 0 = here.1.0 in
                    let no_t : x.staged Taken d q n ≡ 0 = here.1.1 in
                    omega (arith, turns.staged Armed d q n, turns.staged Taken d q n)
              ];
          entered = λ d q n is.
              elim (hit_tells (λ d q n. y.entries d q n ≡ 0) e p m no_entry d q n) [
                | inl far ↦
                    let nothing : at d q n ≡ 0 = far in
                    let s : y.entries d q n ≡ x.entries d q n = others d q n far in
                    by_entered (Queued p Cancelling) Own e m turns none none x.entries y.entries
                    words changed d q n is (omega arith)
                | inr here ↦ let nothing : y.entries d q n ≡ 0 = here.1 in omega arith
              ];
          standing = one_gone (Queued p Cancelling) Own turns no_armed no_listed
              (λ d q n. refl)
              (λ d q n is far.
              let s : y.entries d q n ≡ x.entries d q n = others d q n far in
              by_standing (Queued p Cancelling) Own e m turns none none x.entries y.entries
              words changed d q n is (omega arith));
          once = once;
        }

    -- a cancel routine is set; or the word is emptied, where the packet stands in the queue, or was
    -- taken off it
    pub balanced_arms : KindTurns x y (Queued p Listed) (Queued p Armed) e m
        → More e p m x.word y.word → Same x.entries y.entries → Balanced set y
    balanced_arms turns word entries =
        by_turn (Queued p Listed) (Queued p Armed) e m turns none at none none
        (by_more e p m x.word y.word word) (by_same x.entries y.entries entries)
        (λ d q n. omega arith) (λ d q n. omega arith) (λ d q n. omega arith)

    pub balanced_disarms : KindTurns x y (Queued p Armed) (Queued p Listed) e m
        → Fewer e p m x.word y.word → Same x.entries y.entries → Balanced set y
    balanced_disarms turns word entries =
        by_turn (Queued p Armed) (Queued p Listed) e m turns at none none none
        (by_fewer e p m x.word y.word word) (by_same x.entries y.entries entries)
        (λ d q n. omega arith) (λ d q n. omega arith) (λ d q n. omega arith)

    pub balanced_keeps_taken : x.entries e p m ≡ 0
        → KindTurns x y (Queued p Taken) Own e m → Fewer e p m x.word y.word
        → Same x.entries y.entries → Balanced set y
    balanced_keeps_taken no_entry turns word entries =
        let words : Moves x.word y.word at none = by_fewer e p m x.word y.word word in
        let stay : Moves x.entries y.entries none none = by_same x.entries y.entries entries in
        record {
          backed = λ d q n.
              by_backed (Queued p Taken) Own e m turns at none none none words stay d q n
              (omega arith);
          entered = λ d q n is.
              elim (hit_tells (λ d q n. x.entries d q n ≡ 0) e p m no_entry d q n) [
                | inl far ↦
                    let nothing : at d q n ≡ 0 = far in
                    by_entered (Queued p Taken) Own e m turns at none none none words stay d q n
                    is (omega arith)
                | inr here ↦
                    let nothing : x.entries d q n ≡ 0 = here.1 in
                    omega (arith, entries d q n)
              ];
          standing = λ d q n is.
              by_standing (Queued p Taken) Own e m turns at none none none words stay d q n is
              (omega arith);
          once = once;
        }

    -- the cancel routine begins: it has the right that the word had
    pub balanced_calls : KindTurns x y BlankKind (Queued p Cancelling) e m
        → Fewer e p m x.word y.word → Same x.entries y.entries → Balanced set y
    balanced_calls turns word entries =
        by_turn BlankKind (Queued p Cancelling) e m turns at none none none
        (by_fewer e p m x.word y.word word) (by_same x.entries y.entries entries)
        (λ d q n. omega arith) (λ d q n. omega arith) (λ d q n. omega arith)

    -- IoStartPacket puts a packet into a list with its cancel routine set at once;
    -- IoStartNextPacket takes one off it and empties its word, while nobody has a claim to it there
    pub balanced_waits : KindTurns x y Own BlankKind e m → More e p m x.word y.word
        → More e p m x.entries y.entries → Balanced set y
    balanced_waits turns word entries =
        by_turn Own BlankKind e m turns none at none at
        (by_more e p m x.word y.word word) (by_more e p m x.entries y.entries entries)
        (λ d q n. omega arith) (λ d q n. omega arith) (λ d q n. omega arith)

    pub balanced_starts : is_declared p ≡ false → x.staged Armed e p m ≡ 0
        → x.staged Taken e p m ≡ 0
        → ((stage : Stage) → Same (x.staged stage) (y.staged stage)) → Fewer e p m x.word y.word
        → Fewer e p m x.entries y.entries → Balanced set y
    balanced_starts waits no_armed no_taken same word entries =
        record {
          backed = λ d q n.
              elim (hit_tells (λ d q n. (x.staged Armed d q n ≡ 0) × (x.staged Taken d q n ≡ 0))
              e p m
              (no_armed, no_taken) d q n) [
                | inl far ↦
                    let nothing : at d q n ≡ 0 = far in
                    omega (
                      arith,
                      same Armed d q n,
                      same Taken d q n,
                      same Cancelling d q n,
                      word d q n,
                      b.backed d q n,
                    )
                | inr here ↦
                    let no_a : x.staged Armed d q n ≡ 0 = here.1.0 in
                    let no_t : x.staged Taken d q n ≡ 0 = here.1.1 in
                    omega (arith, same Armed d q n, same Taken d q n)
              ];
          entered = λ d q n is.
              omega (
                arith,
                same Listed d q n,
                same Cancelling d q n,
                word d q n,
                entries d q n,
                b.entered d q n is,
              );
          standing = λ d q n is.
              elim (hit_tells (λ d q n. is_declared q ≡ false) e p m waits d q n) [
                | inl far ↦
                    let nothing : at d q n ≡ 0 = far in
                    omega (
                      arith,
                      same Listed d q n,
                      same Armed d q n,
                      entries d q n,
                      b.standing d q n is,
                    )
                | inr here ↦ let no : true ≡ false = sym is ∙ here.1 in cc
              ];
          once = once;
        }
