-- The index of the packets that lines issue.
use Rattle.std.proofs.Common.{◌≡◌, ◌∙◌, ◌+◌, ◌++◌, ℕ, suc, Bool, true, false, List, [], ◌∷◌, length, bytes_eq, Option, Some, None, refl, sym, ap, arith, if◌then◌else◌, true≢false}
use Rattle.std.proofs.lemmas.Slice.Eq.{bytes_eq-Decides}
use Rattle.indexmap.specs.IndexMap.{IndexMap, IsEmpty, Updates, get}
use Rattle.scenario_names.specs.Issued.{IsIndex}
use Rattle.scenario_names.specs.Operands.{last_after, last_named}

-- which of two texts is compared with the other doesn't matter
same_way : (a b : List ℕ) (x y : Bool) → bytes_eq a b ≡ x → bytes_eq b a ≡ y → x ≡ y
same_way a b true true p q = refl
same_way a b false false p q = refl
same_way a b true false p q =
    absurd (true≢false (sym ((bytes_eq-Decides b a).1 (sym ((bytes_eq-Decides a b).0 p))) ∙ q))
same_way a b false true p q =
    absurd (true≢false (sym ((bytes_eq-Decides a b).1 (sym ((bytes_eq-Decides b a).0 q))) ∙ p))

turned : (a b : List ℕ) → bytes_eq a b ≡ bytes_eq b a
turned a b = same_way a b (bytes_eq a b) (bytes_eq b a) refl refl

-- one packet more
after_more : (packets : List (List ℕ)) (found : Option ℕ) (n : ℕ) (packet name : List ℕ)
    → last_after found n (packets ++ packet ∷ []) name
    ≡ (if bytes_eq name packet then Some (n + length packets) else last_after found n packets name)
after_more [] found n packet name =
    ap (λ (k : ℕ). if bytes_eq name packet then Some k else found) (omega arith)
after_more (x ∷ packets) found n packet name =
    after_more packets (if bytes_eq name x then Some n else found) (n + 1) packet name
    ∙ ap (λ (k : ℕ). if bytes_eq name packet then Some k else
    last_after found n (x ∷ packets) name) (omega arith)

pub index_empty : {S : Type 0} (places : IndexMap (List ℕ) ℕ S) → IsEmpty places
    → IsIndex places []
index_empty places none name = rw (none) refl

pub index_more : {S : Type 0} (before after : IndexMap (List ℕ) ℕ S) (packets : List (List ℕ))
    (packet : List ℕ) → IsIndex before packets
    → Updates bytes_eq before after packet (Some (length packets))
    → IsIndex after (packets ++ packet ∷ [])
index_more before after packets packet is updated name =
    updated.0 name
    ∙ ap (λ (b : Bool). if b then Some (length packets) else get bytes_eq before name) (turned packet name)
    ∙ ap (λ (k : ℕ). if bytes_eq name packet then Some k else get bytes_eq before name) (omega arith)
    ∙ ap (λ (o : Option ℕ). if bytes_eq name packet then Some (0 + length packets) else o) (is name)
    ∙ sym (after_more packets None 0 packet name)
