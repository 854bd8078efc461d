-- The live packets tell what the past tells: which packets have topped out, and of each live one
-- whether the I/O manager has it, whether it has a cancel routine, how many locations it has and
-- how far down it was sent.
use Rattle.laws_runs.proofs.Prelude.{ap, arith, inl, inr, refl, subst, sym, ◌∙◌, cases_lt, eq-eqb, eqb_tells, leb_tells, Bool, List, None, Option, Some, [], false, if◌then◌else◌, is_none, is_some, nat_eq, nat_lt, suc, true, ℕ, ◌&&◌, ◌++◌, ◌+◌, ◌<◌, ◌||◌, ◌∷◌, ◌≡◌, ◌≢◌, ◌≤◌, list_any, armed, completing, depth, is_top_out, location_acts, packet_acts, stack_size, topped, Entry, Shared, new_packet, packet_in, packet_of, with_packet, without_packet, Major, Packet, Value, Ref}
use Rattle.laws_runs.proofs.Past.LivePackets.{find, Rises, find_place, find_number, find_above, find_set, rises_set, find_remove, rises_remove, find_push, rises_push}
use Rattle.laws_runs.proofs.Past.Stacks.{Measured, Changed, measured_new}
use Rattle.laws_runs.proofs.Tests.{and_false}

-- a packet was issued and isn't live
abbrev pub absent : List Packet → ℕ → ℕ → Bool
absent packets issued n = nat_lt n issued && is_none (find packets n)

-- what the live packets tell, of as many as were issued: those that topped out, those that the I/O
-- manager has, those that have a cancel routine, and the stacks of the live ones
pub record Told (packets : List Packet) (issued : ℕ) (tops ends arms : ℕ → Bool)
    (sizes deeps : ℕ → ℕ) : Type 0 where
  pub rises : Rises 0 packets issued
  pub gone : (n : ℕ) → tops n ≡ absent packets issued n
  pub live : (n : ℕ) (p : Packet) → find packets n ≡ Some p
      → Measured p (ends n) (arms n) (sizes n) (deeps n)
  pub fresh : (n : ℕ) → issued ≤ n → (ends n ≡ false) × (arms n ≡ false)

abbrev pub Tells : Shared → List Entry → Type 0
Tells s past =
    Told s.packets s.issued (topped past) (completing past) (armed past) (stack_size past)
    (depth past)

pub found : (s : Shared) (n : ℕ) (o : Option Packet) → packet_of s n ≡ o → find s.packets n ≡ o
found s n o h = sym (find_place s.packets n) ∙ h

pub numbered : (s : Shared) (n : ℕ) (p : Packet) → packet_of s n ≡ Some p → p.number ≡ n
numbered s n p h = find_number s.packets n p (found s n (Some p) h)

pub lt_true : (a b : ℕ) → a < b → nat_lt a b ≡ true
lt_true a b l =
    elim (leb_tells (suc a) b) [
      | inl h ↦ h.0
      | inr h ↦ let k : b < suc a =
          h.1 in absurd (omega arith)
    ]

pub lt_false : (a b : ℕ) → b ≤ a → nat_lt a b ≡ false
lt_false a b l =
    elim (leb_tells (suc a) b) [
      | inl h ↦ let k : suc a ≤ b =
          h.1 in absurd (omega arith)
      | inr h ↦ h.0
    ]

-- a number that isn't the last one is below the next exactly where it is below the last
pub lt_more : (m n : ℕ) → n ≢ m → nat_lt m (n + 1) ≡ nat_lt m n
lt_more m n h =
    elim (cases_lt m n) [
      | inl l ↦ lt_true m (n + 1) (omega arith) ∙ sym (lt_true m n l)
      | inr l ↦ lt_false m (n + 1) (omega arith) ∙ sym (lt_false m n l)
    ]

-- the packet that a value refers to was issued
pub named : (s : Shared) (v : Value) (n : ℕ) → packet_in s v ≡ Some n → n < s.issued
named s (Ref k) n h =
    elim (cases_lt k s.issued) [
      | inl low ↦ let same : Some k ≡ Some n = rw (lt_true k s.issued low) at h in let one : k ≡ n =
          cc in rw (← one) low
      | inr high ↦ let no : None ≡ Some n = rw (lt_false k s.issued high) at h in cc
    ]
named s _ n h = cc

-- what is found was issued, and hasn't topped out
pub found_lt : (s : Shared) (n : ℕ) (p : Packet) → Rises 0 s.packets s.issued
    → find s.packets n ≡ Some p → n < s.issued
found_lt s n p o h =
    elim (cases_lt n s.issued) [
      | inl l ↦ l
      | inr l ↦
          let none : find s.packets n ≡ None = find_above 0 s.packets s.issued n o l in
          let no : None ≡ Some p = sym none ∙ h in
          cc
    ]

pub untopped : (s : Shared) (past : List Entry) (n : ℕ) (p : Packet) → Tells s past
    → find s.packets n ≡ Some p
    → topped past n ≡ false
untopped s past n p tells there = tells.gone n ∙ (rw there (and_false (nat_lt n s.issued)))

-- what was issued and isn't found has
pub gone_topped : (s : Shared) (past : List Entry) (n : ℕ) → Tells s past → n < s.issued
    → packet_of s n ≡ None
    → topped past n ≡ true
gone_topped s past n tells low none =
    tells.gone n ∙ (rw (found s n None none, lt_true n s.issued low) refl)

-- what is told of one packet
record ToldOf (o : Option Packet) (n issued : ℕ) (top end arm : Bool) (size deep : ℕ) : Type 0 where
  gone : top ≡ (nat_lt n issued && is_none o)
  live : (p : Packet) → o ≡ Some p → Measured p end arm size deep
  fresh : issued ≤ n → (end ≡ false) × (arm ≡ false)

told_of : (s : Shared) (past : List Entry) → Tells s past → (n : ℕ)
    → ToldOf (find s.packets n) n s.issued (topped past n) (completing past n) (armed past n)
    (stack_size past n) (depth past n)
told_of s past tells n = record { gone = tells.gone n; live = tells.live n; fresh = tells.fresh n }

-- one packet changes
module _ (after : List Packet) (issued : ℕ) (later : List Entry) where
  abbrev Of : Option Packet → ℕ → Type 0
  Of o n = ToldOf o n issued (topped later n) (completing later n) (armed later n)
      (stack_size later n) (depth later n)

  told_where : (before : ℕ → Option Packet) (n : ℕ) (o : Option Packet)
      → ((m : ℕ) → find after m ≡ (if nat_eq n m then o else before m)) → Rises 0 after issued
      → Of o n
      → ((m : ℕ) → nat_eq n m ≡ false → n ≢ m → Of (before m) m)
      → Told after issued (topped later) (completing later) (armed later) (stack_size later)
      (depth later)
  told_where before n o finds rises here others =
      let every : (m : ℕ) → Of (find after m) m =
      λ m. rw (finds m) (elim (eqb_tells n m) [
        | inl same ↦ rw same.0 (subst (λ (k : ℕ). Of o k) same.1 here)
        | inr other ↦ rw other.0 (others m other.0 other.1)
      ]) in
      record {
        rises = rises;
        gone = λ m. (every m).gone;
        live = λ m. (every m).live;
        fresh = λ m. (every m).fresh;
      }

-- what was done between two pasts was done with one packet alone
abbrev pub Others : List Entry → List Entry → ℕ → Type 0
Others past later n =
    (m : ℕ) → nat_eq n m ≡ false → (packet_acts later m ≡ packet_acts past m)
    × (location_acts later m ≡ location_acts past m)

-- and this is what the later one tells of that packet, where the earlier one told what it shows
pub record Shows (past later : List Entry) (n : ℕ) (p : Packet) (has held : Bool) (deep : ℕ)
    : Type 0 where
  pub untopped : topped later n ≡ topped past n
  pub taken : completing past n ≡ p.completing → completing later n ≡ has
  pub armed : armed past n ≡ is_some p.armer → armed later n ≡ held
  pub count : stack_size later n ≡ stack_size past n
  pub place : depth past n ≡ p.depth → depth later n ≡ deep

-- a packet changes, and with it whether the I/O manager has it, whether it has a cancel routine,
-- and its depth
module _ (s : Shared) (past : List Entry) (tells : Tells s past) (n : ℕ) (p q : Packet)
    (there : packet_of s n ≡ Some p) where
  pub tells_changed : (later : List Entry) (taken held : Bool) (place : ℕ)
      → Changed p q taken held place → Shows past later n p taken held place
      → Others past later n → Tells (with_packet s n q) later
  tells_changed later taken held place changed shows others =
      let at : find s.packets n ≡ Some p = found s n (Some p) there in
      let same : q.number ≡ n = changed.number ∙ numbered s n p there in
      let low : n < s.issued = found_lt s n p tells.rises at in
      let before = tells.live n p at in
      told_where (with_packet s n q).packets s.issued later (find s.packets) n
      (Some q) (find_set s.packets n p q at same)
      (rises_set 0 s.packets s.issued n p q at same tells.rises)
      (record {
        gone = shows.untopped ∙ (rw at at (tells.gone n));
        live = λ r is. let one : q ≡ r = cc in
            subst (λ (x : Packet). Measured x (completing later n) (armed later n)
            (stack_size later n) (depth later n)) one
            (record {
              taken = shows.taken before.taken ∙ sym changed.taken;
              armed = shows.armed before.armed ∙ sym changed.armed;
              count = shows.count ∙ before.count ∙ sym changed.count;
              place = shows.place before.place ∙ sym changed.place;
            });
        fresh = λ high. absurd (omega arith);
      })
      (λ m other apart. rw ((others m other).0, (others m other).1) (told_of s past tells m))

  pub tells_kept : Changed p q p.completing (is_some p.armer) p.depth
      → Tells (with_packet s n q) past
  tells_kept changed =
      tells_changed past p.completing (is_some p.armer) p.depth changed
      (record {
        untopped = refl;
        taken = λ is. is;
        armed = λ is. is;
        count = refl;
        place = λ is. is;
      })
      (λ m other. (refl, refl))

module _ (s : Shared) (past : List Entry) (tells : Tells s past) (later : List Entry) (n : ℕ)
    (others : Others past later n) where
  -- a packet is completed, or its completion goes on, that has topped out
  pub tells_late : n < s.issued → packet_of s n ≡ None → topped later n ≡ topped past n
      → Tells s later
  tells_late low none same_top =
      let at : find s.packets n ≡ None = found s n None none in
      record {
        rises = tells.rises;
        gone = λ m. elim (eqb_tells n m) [
          | inl same ↦ subst (λ (k : ℕ). topped later k ≡ absent s.packets s.issued k) same.1
              (same_top ∙ tells.gone n)
          | inr other ↦ rw (others m other.0).0 (tells.gone m)
        ];
        live = λ m p there. elim (eqb_tells n m) [
          | inl same ↦ let no : None ≡ Some p = sym at ∙ (rw same.1 there) in cc
          | inr other ↦ rw ((others m other.0).0, (others m other.0).1) (tells.live m p there)
        ];
        fresh = λ m high. elim (eqb_tells n m) [
          | inl same ↦ let k : n ≡ m = same.1 in absurd (omega arith)
          | inr other ↦ rw (others m other.0).0 (tells.fresh m high)
        ];
      }

  -- a packet tops out
  pub tells_top : (p : Packet) → packet_of s n ≡ Some p → topped later n ≡ true
      → Tells (without_packet s n) later
  tells_top p there now =
      let low : n < s.issued = found_lt s n p tells.rises (found s n (Some p) there) in
      told_where (without_packet s n).packets s.issued later (find s.packets) n None
      (find_remove 0 s.packets s.issued n tells.rises)
      (rises_remove 0 s.packets s.issued n tells.rises)
      (record {
        gone = rw (now, lt_true n s.issued low) refl;
        live = λ q no. cc;
        fresh = λ high. absurd (omega arith);
      })
      (λ m other apart. rw ((others m other).0, (others m other).1) (told_of s past tells m))

module _ (s : Shared) (past : List Entry) (tells : Tells s past) (later : List Entry) where
  -- a packet is issued
  pub tells_issue : (d : ℕ) (major : Major) (argument stack : ℕ) → 1 ≤ stack
      → Others past later s.issued → packet_acts later s.issued ≡ packet_acts past s.issued
      → stack_size later s.issued ≡ stack → depth later s.issued ≡ 1
      → Told (s.packets ++ new_packet s.issued d major argument stack ∷ []) (s.issued + 1)
      (topped later) (completing later) (armed later) (stack_size later) (depth later)
  tells_issue d major argument stack low others unmoved sized placed =
      let n : ℕ = s.issued in
      let p : Packet = new_packet n d major argument stack in
      let new : (completing past n ≡ false) × (armed past n ≡ false) = tells.fresh n (omega arith)
      in
      let unseen : topped past n ≡ false = tells.gone n ∙ (rw (lt_false n n (omega arith)) refl) in
      told_where (s.packets ++ p ∷ []) (n + 1) later
      (find s.packets) n (Some p) (find_push 0 s.packets n p tells.rises refl)
      (rises_push 0 s.packets n p tells.rises refl)
      (record {
        gone = ap (list_any is_top_out) unmoved ∙ unseen ∙ sym (and_false (nat_lt n (n + 1)));
        live = λ q is. let one : p ≡ q = cc in
            rw (← one, unmoved, new.0, new.1, sized, placed)
            (measured_new n d major argument stack low);
        fresh = λ high. absurd (omega arith);
      })
      (λ m other apart. rw ((others m other).0, (others m other).1) (record {
        gone = rw (lt_more m n apart) (tells.gone m);
        live = tells.live m;
        fresh = λ high. tells.fresh m (omega arith);
      }))

-- before the first event
pub tells_nothing : Told [] 0 (topped []) (completing []) (armed []) (stack_size []) (depth [])
tells_nothing =
    record {
      rises = omega arith;
      gone = λ n. rw (lt_false n 0 (omega arith)) refl;
      live = λ n p there. cc;
      fresh = λ n high. (refl, refl);
    }
