-- What is found in files, file after file.
use Rattle.std.proofs.Common.{◌≡◌, ◌∙◌, ◌+◌, ◌<◌, ◌≤◌, ◌++◌, ℕ, List, [], ◌∷◌, Err, String, ap, append-nil, append_assoc, arith, get_or, length, max, refl, string_bytes, subst, sym, take}
use Rattle.std.proofs.lemmas.List.{take_all, take_more}
use Rattle.std.specs.Global.{Global}
use Rattle.report_sarif.specs.declared.log.Finding.{Finding}
use Rattle.drvhost_devices.specs.Device.{Supply}
use Rattle.drvhost_devices.specs.declared.logging.Logging.{Logging}
use Rattle.answer_logs.specs.declared.found.Found.{Found}
use Rattle.answer_logs.specs.Found.{AreFoundIn, IsFoundOf, ReadsAll}

max_assoc : (a b c : ℕ) → max (max a b) c ≡ max a (max b c)
max_assoc a b c = omega arith

max_none : (a : ℕ) → max 0 a ≡ max a 0
max_none a = omega arith

-- what is found in one, by what is known of its name
pub read_as : (logging : Logging) (supply known : List ℕ → Supply) (name other : List ℕ) (reads : ℕ)
    (found : Found) → known ≡ supply → other ≡ name
    → IsFoundOf logging other (known other) reads found
    → IsFoundOf logging name (supply name) reads found
read_as logging supply known name other reads found same is here =
    subst (λ s. IsFoundOf logging name (s name) reads found) same
    (subst (λ n. IsFoundOf logging n (known n) reads found) is here)

module _ (logging : Logging) (supply : List ℕ → Supply) where
  found_more : (names : List (String Global)) (name : String Global) (r s worst : ℕ)
      (findings : List Finding) (found : Found)
      → AreFoundIn logging supply names r worst findings
      → IsFoundOf logging (string_bytes name) (supply (string_bytes name)) s found
      → AreFoundIn logging supply (names ++ name ∷ []) (r + s) (max worst found.status)
      (findings ++ found.findings.items)
  found_more [] name r s worst findings found (none, least, empty) is =
      let more = found.findings.items in (
        s,
        0,
        0,
        found,
        [],
        is,
        (refl, refl, refl),
        omega (arith, none),
        ap (λ w. max w found.status) least ∙ max_none found.status,
        ap (λ l. l ++ more) empty ∙ sym (append-nil more),
      )
  found_more (one ∷ names) name r s worst findings found (failed, others, most, early, rest, here, later, sum, greatest, whole) is =
      let more = found.findings.items in (
        failed,
        others + s,
        max most found.status,
        early,
        rest ++ more,
        here,
        found_more names name others s most rest found later is,
        omega (arith, sum),
        ap (λ w. max w found.status) greatest ∙ max_assoc early.status most found.status,
        ap (λ l. l ++ more) whole ∙ append_assoc early.findings.items rest more,
      )

  -- in those up to an index and in the next
  pub found_next : (names : List (String Global)) (i : ℕ) (one : String Global)
      (r s worst status : ℕ) (findings all : List Finding) (found : Found)
      → i < length names → one ≡ get_or names i one
      → AreFoundIn logging supply (take i names) r worst findings
      → IsFoundOf logging (string_bytes one) (supply (string_bytes one)) s found
      → status ≡ max worst found.status → all ≡ findings ++ found.findings.items
      → AreFoundIn logging supply (take (i + 1) names) (r + s) status all
  found_next names i one r s worst status findings all found h is so here greatest whole =
      let Are : List (String Global) → ℕ → List Finding → Type 0 =
      λ some w l. AreFoundIn logging supply some (r + s) w l in
      let next : take i names ++ one ∷ [] ≡ take (i + 1) names =
      ap (λ x. take i names ++ x ∷ []) is ∙ sym (take_more names i one h) in
      subst (Are (take (i + 1) names) status) (sym whole)
      (subst (λ w. Are (take (i + 1) names) w (findings ++ found.findings.items)) (sym greatest)
      (subst (λ some. Are some (max worst found.status) (findings ++ found.findings.items)) next
      (found_more (take i names) one r s worst findings found so here)))

  -- in all of them
  pub found_all : (names : List (String Global)) (i reads status : ℕ) (findings : List Finding)
      → length names ≤ i → AreFoundIn logging supply (take i names) reads status findings
      → AreFoundIn logging supply names reads status findings
  found_all names i reads status findings h so =
      subst (λ some. AreFoundIn logging supply some reads status findings) (take_all i names h) so

  -- memory runs out behind the file of an index
  pub unfinished : {E : Type 0} (names : List (String Global))
      (i r s o m p reads_start reads_mid reads_end : ℕ) (e : E) → i < length names → m ≡ o + i
      → p ≡ m + 1 → reads_mid ≡ reads_start + r → reads_end ≡ reads_mid + s → r ≤ i → s ≤ 1
      → ReadsAll logging supply names o p reads_start reads_end (Err e)
  unfinished names i r s o m p reads_start reads_mid reads_end e h opened more reads again few one =
      record {
        opened = i + 1;
        reads = r + s;
        opened_are = omega (arith, opened, more);
        reads_are = omega (arith, reads, again);
        few = omega (arith, h);
        fewer = omega (arith, few, one);
        found = tt;
      }
