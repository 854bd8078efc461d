-- How commands end, with all that they tell.
use Rattle.std.proofs.Common.{◌≡◌, ◌+◌, ◌++◌, ℕ, List, Option, append_assoc, arith, codes, inl, inr, refl, subst}
use Rattle.std.proofs.KnownBytes.{Keeps-refl}
use Rattle.drvhost_devices.specs.Answer.{Answer}
use Rattle.drvhost_devices.specs.Device.{Says}
use Rattle.drvhost_devices.specs.Ends.{Answers, Ends}
use Rattle.drvhost_many.specs.All.{Counted, IsUnfound}
use Rattle.drvhost_words.specs.Program.{EndsTelling, EndsWarned}
use Rattle.drvhost_words.specs.Unread.{IsNamedUnread, SaysAround, SaysMore}

-- where nothing was written to the files beside
pub counted_beside : (E : ℕ → ℕ → ℕ → Option (List ℕ) → Option (List ℕ) → ℕ → List ℕ → Type 0)
    (o p k m w x u v : ℕ) (b n : Option (List ℕ)) (Tells : List ℕ → Type 0) (status : ℕ)
    → Counted E o p k m w x b n Tells status → v ≡ u
    → Counted E o p k m (u + w) (v + x) b n Tells status
counted_beside E o p k m w x u v b n Tells status a same =
    record {
      opened = a.opened;
      reads = a.reads;
      writes = a.writes;
      told = a.told;
      opened_are = a.opened_are;
      reads_are = a.reads_are;
      writes_are = let are : x ≡ w + a.writes = a.writes_are in omega (arith, same, are);
      tells = a.tells;
      ends = a.ends;
    }

-- by another account of the end
pub counted_as : (E D : ℕ → ℕ → ℕ → Option (List ℕ) → Option (List ℕ) → ℕ → List ℕ → Type 0)
    (o p k m w x : ℕ) (b n : Option (List ℕ)) (Tells : List ℕ → Type 0) (status : ℕ)
    → ((opened reads writes : ℕ) (told : List ℕ) → E opened reads writes b n status told
    → D opened reads writes b n status told)
    → Counted E o p k m w x b n Tells status → Counted D o p k m w x b n Tells status
counted_as E D o p k m w x b n Tells status on a =
    record {
      opened = a.opened;
      reads = a.reads;
      writes = a.writes;
      told = a.told;
      opened_are = a.opened_are;
      reads_are = a.reads_are;
      writes_are = a.writes_are;
      tells = a.tells;
      ends = on a.opened a.reads a.writes a.told a.ends;
    }

-- an answer with nothing beside, for so many files opened
pub counted_alone : (R : Answer → Type 0) (Opens : ℕ → Type 0) (count o p k m w x : ℕ)
    (b n : Option (List ℕ)) (Tells : List ℕ → Type 0) (status : ℕ) → Opens count → p ≡ o + count
    → Answers R k m w x b n Tells status
    → Counted (λ opened reads writes before after s told.
    Opens opened × Ends R reads writes before after s told) o p k m w x b n Tells status
counted_alone R Opens count o p k m w x b n Tells status opens are a =
    record {
      opened = count;
      reads = a.reads;
      writes = a.writes;
      told = a.told;
      opened_are = are;
      reads_are = a.reads_are;
      writes_are = a.writes_are;
      tells = a.tells;
      ends = (opens, a.ends);
    }

unread_from : (Such : List ℕ → Type 0) (reads before after : ℕ) (text : List ℕ)
    → after ≡ before + reads → IsNamedUnread Such before after text
    → IsNamedUnread Such 0 reads text
unread_from Such reads before after text are (inl (none, empty)) =
    inl (omega (arith, are, none), empty)
unread_from Such reads before after text are (inr (some, named)) =
    inr (λ same. some (omega (arith, are, same)), named)

-- the name of a file that can't be read is told behind
pub counted_telling : (R : Answer → Type 0) (Such : List ℕ → Type 0) (Opens : ℕ → Type 0)
    (count o p k m w x e f : ℕ) (b n c d : Option (List ℕ)) (status : ℕ) → Opens count
    → p ≡ o + count
    → Answers R k m w x b n (SaysMore (IsNamedUnread Such k m) e f c d) status
    → Counted (λ opened reads writes before after s told.
    Opens opened × EndsTelling (IsNamedUnread Such 0 reads) R reads writes before after s told)
    o p k m w x b n (Says e f c d) status
counted_telling R Such Opens count o p k m w x e f b n c d status opens are a =
    let more = a.tells in
    record {
      opened = count;
      reads = a.reads;
      writes = a.writes;
      told = a.told ++ more.0;
      opened_are = are;
      reads_are = a.reads_are;
      writes_are = a.writes_are;
      tells = more.2;
      ends = (
        opens,
        record {
          said = a.told;
          text = more.0;
          tells = unread_from Such a.reads k m more.0 a.reads_are more.1;
          ends = a.ends;
          told_is = refl;
        },
      );
    }

-- and warnings before
pub counted_warned : (R : Answer → Type 0) (Warns : ℕ → List ℕ → Type 0) (Such : List ℕ → Type 0)
    (Opens : ℕ → Type 0) (count o p k m w x e f : ℕ) (b n c d : Option (List ℕ)) (status : ℕ)
    → Opens count → p ≡ o + count
    → Answers R k m w x b n (SaysAround (Warns status) (IsNamedUnread Such k m) e f c d) status
    → Counted (λ opened reads writes before after s told.
    Opens opened
    × EndsWarned (Warns s) (IsNamedUnread Such 0 reads) R reads writes before after s told)
    o p k m w x b n (Says e f c d) status
counted_warned R Warns Such Opens count o p k m w x e f b n c d status opens are a =
    let around = a.tells in
    let text = around.1 in
    let whole = append_assoc around.0 a.told text in
    let P : List ℕ → Type 0 = Says e f c d in
    record {
      opened = count;
      reads = a.reads;
      writes = a.writes;
      told = around.0 ++ (a.told ++ text);
      opened_are = are;
      reads_are = a.reads_are;
      writes_are = a.writes_are;
      tells = subst P whole around.4;
      ends = (
        opens,
        record {
          warnings = around.0;
          rest = a.told ++ text;
          warns = around.2;
          ends =
              record {
                said = a.told;
                text = text;
                tells = unread_from Such a.reads k m text a.reads_are around.3;
                ends = a.ends;
                told_is = refl;
              };
          told_is = refl;
        },
      );
    }

-- memory ran out before a file was opened
pub counted_unfound
    : (E : ℕ → ℕ → ℕ → Option (List ℕ) → Option (List ℕ) → ℕ → List ℕ → Type 0) (o k w : ℕ)
    (b : Option (List ℕ)) (Tells : List ℕ → Type 0) (status : ℕ) → status ≡ 3
    → Tells (codes "out of memory\n")
    → (IsUnfound 0 0 0 b b status (codes "out of memory\n")
    → E 0 0 0 b b status (codes "out of memory\n"))
    → Counted E o o k k w w b b Tells status
counted_unfound E o k w b Tells status is tells on =
    record {
      opened = 0;
      reads = 0;
      writes = 0;
      told = codes "out of memory\n";
      opened_are = omega arith;
      reads_are = omega arith;
      writes_are = omega arith;
      tells = tells;
      ends =
          on (record {
            opened_are = refl;
            reads_are = refl;
            writes_are = refl;
            status_is = is;
            told_is = refl;
            keeps = Keeps-refl b;
          });
    }
