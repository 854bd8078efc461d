-- How the judging of several files comes to its end.
use Rattle.std.proofs.Common.{◌≡◌, ◌∙◌, ◌+◌, ◌≤◌, ◌<◌, ℕ, List, [], ◌∷◌, ◌++◌, true, false, Option, Result, Ok, Err, String, ap, append-nil, append_assoc, arith, codes, get_or, inl, length, max, refl, string_bytes, subst, sym}
use Rattle.std.proofs.lemmas.List.{length-append}
use Rattle.std.proofs.Math.Dec.{eqb-suc-zero}
use Rattle.std.specs.Bool.{◌==◌}
use Rattle.std.specs.Global.{Global}
use Rattle.std.specs.Io.KnownBytes.{Appends, Keeps}
use Rattle.drvhost_devices.specs.Answer.{Answer}
use Rattle.drvhost_devices.specs.Device.{Says, SaysBehind, Supply, TakesBeginning}
use Rattle.drvhost_devices.proofs.Writing.{appends_more, appends_none, behind_more, keeps_same, writes_behind}
use Rattle.cli.specs.declared.job.Judging.{Judging}
use Rattle.cli.specs.declared.job.Judging.TheVariants.{Check, CheckJson, Explain, ExplainJson}
use Rattle.drvhost_files.specs.declared.reading.Held.{Held}
use Rattle.drvhost_files.specs.Reading.{AreHeld, Opens, held_reads}
use Rattle.drvhost_many.specs.declared.many.Halt.{Halt}
use Rattle.drvhost_many.specs.declared.many.Halt.TheVariants.{Memory, Write}
use Rattle.drvhost_devices.specs.Told.{joined}
use Rattle.drvhost_many.specs.All.{Answered, AreOf, Counted, EachEnds, EachGoes, IsAt, IsNext, NoRoom, OutOfMemory, WriteFailed, end_status, nothing}
use Rattle.drvhost_many.specs.Held.{DeliversEach, IsAmong, IsToldOf, TellsLost}
use Rattle.drvhost_many.specs.Marked.{gap, marked, noted}
use Rattle.drvhost_many.specs.One.{Delivers, halt_status, is_in_json}
use Rattle.drvhost_many.proofs.Reading.{of_all, of_held, placed}
use Rattle.drvhost_many.proofs.Joining.{of_append, of_few}

-- the answers for some files have gone out
pub record SoFar (judging : Judging) (supply : List ℕ → Supply) (names : List (String Global))
    (reads status : ℕ) (before after : Option (List ℕ)) (Tells : List ℕ → Type 0) : Type 0 where
  pub answer : Answer
  pub are : AreOf judging supply names reads answer
  pub status_is : status ≡ answer.status
  pub appended : Appends before after answer.output
  pub tells : Tells answer.told

-- what is said behind nothing is said
behind_says : (failures e h : ℕ) (p t : Option (List ℕ)) (told : List ℕ) → failures ≡ e
    → SaysBehind failures e h p t told → Says e h p t told
behind_says failures e h p t told same behind =
    let P : ℕ → Type 0 = λ x. Says x h p t told in
    subst P same (behind p [] (inl (sym same, appends_none p p (keeps_same p))))

-- none is left
pub none_left : {A : Type 0} (xs : List A) → (length xs == 0) ≡ true → xs ≡ []
none_left [] e = refl
none_left (x ∷ xs) e = let no : false ≡ true = sym (eqb-suc-zero (length xs)) ∙ e in cc

ok_never : (status : ℕ) (halt : Halt) → Ok status ≡ Err halt → ⊥
ok_never status halt e = cc

-- an answer behind others can't be delivered
pub delivers_halt : (judging : Judging) (files : List Held) (one : Held) (first told : Answer)
    (failures e f h w x : ℕ) (b m n p q t : Option (List ℕ)) (halt : Halt)
    → IsAmong judging files one first → IsToldOf judging one told → Appends b m first.output
    → SaysBehind failures e f p q first.told
    → Delivers told w x m n (SaysBehind failures f h q t) (Err halt)
    → DeliversEach judging files w x b n (SaysBehind failures e h p t) (Err halt)
delivers_halt judging files one first told failures e f h w x b m n p q t Write among is out tells (wrote, takes, more) =
    let none : Result ℕ ℕ = Err 0 in (
      one,
      first,
      told,
      among,
      is,
      wrote,
      writes_behind none b m n first.output told.output out takes,
      behind_more failures e f h p q t first.told (codes "write failed\n") tells more,
    )
delivers_halt judging files one first told failures e f h w x b m n p q t Memory among is out tells never =
    absurd never

-- there was no memory for one behind others
pub delivers_none : (judging : Judging) (files : List Held) (one : Held) (first : Answer)
    (failures e f h w x : ℕ) (b n p q t : Option (List ℕ)) (name : List ℕ)
    → IsAmong judging files one first → name ≡ one.name.now → x ≡ w → Appends b n first.output
    → SaysBehind failures e f p q first.told
    → SaysBehind failures f h q t (noted judging name (codes "out of memory\n"))
    → DeliversEach judging files w x b n (SaysBehind failures e h p t) (Err Memory)
delivers_none judging files one first failures e f h w x b n p q t name among same wrote out tells more =
    let text = noted judging one.name.now (codes "out of memory\n") in
    let said : SaysBehind failures f h q t text =
    subst (λ m. SaysBehind failures f h q t (noted judging m (codes "out of memory\n"))) same more in (
      one,
      first,
      among,
      wrote,
      out,
      behind_more failures e f h p q t first.told text tells said,
    )

-- it is told that memory ran out for the first of some files
pub tells_lost : (judging : Judging) (names : List (String Global)) (one : String Global)
    (name : List ℕ) (Tells : List ℕ → Type 0) → 0 < length names → one ≡ get_or names 0 one
    → name ≡ string_bytes one → Tells (noted judging name (codes "out of memory\n"))
    → TellsLost judging names Tells
tells_lost judging [] one name Tells less is same tells =
    let no : ⊥ = omega (arith, less) in absurd no
tells_lost judging (first ∷ names) one name Tells less is same tells =
    let P : List ℕ → Type 0 = λ m. Tells (noted judging m (codes "out of memory\n")) in
    subst P (same ∙ ap string_bytes is) tells

-- some files are answered at once
module _ (judging : Judging) (width : ℕ) (supply : List ℕ → Supply) (names : List (String Global))
    (held : List Held) (o p r s w x : ℕ) (b n : Option (List ℕ))
    (read : Opens (length names) o p r s
    (λ opened reads. AreHeld (is_in_json judging) supply names opened reads held))
    (few : length names ≤ width) where
  -- all of them
  window_answered : (Tells : List ℕ → Type 0) (status : ℕ)
      → DeliversEach judging held w x b n Tells (Ok status)
      → Counted (EachGoes judging width supply names (Ok status)) o p r s w x b n Tells status
  window_answered Tells status (whole, are, is, wrote, out, tells) =
      record {
        opened = read.opened;
        reads = read.reads;
        writes = 0;
        told = whole.told;
        opened_are = read.opened_are;
        reads_are = read.reads_are;
        writes_are = omega (arith, wrote);
        tells = tells;
        ends =
            Answered whole
            (subst (λ k. AreOf judging supply names k whole) (sym read.so.reads_are)
            (of_all judging supply names held whole read.so.are are))
            read.so.opened_are refl refl is refl out;
      }

  -- something keeps from going on
  window_halts : (Tells : List ℕ → Type 0) (halt : Halt)
      → DeliversEach judging held w x b n Tells (Err halt)
      → Counted (EachGoes judging width supply names (Err halt)) o p r s w x b n Tells
      (halt_status halt)
  window_halts Tells Write (one, first, told, among, is, wrote, takes, tells) =
      let at = placed judging width supply names held read.so.are few one first among in
      let answer = of_held judging supply at.name one told at.held is in
      record {
        opened = read.opened;
        reads = read.reads;
        writes = 1;
        told = first.told ++ codes "write failed\n";
        opened_are = read.opened_are;
        reads_are = read.reads_are;
        writes_are = wrote;
        tells = tells;
        ends =
            WriteFailed (string_bytes at.name) at.others (held_reads one) first answer.0
            (subst (λ k. IsAt judging width supply names k (string_bytes at.name) at.others first)
            (sym read.so.opened_are) at.at)
            answer.1 (read.so.reads_are ∙ at.sum) refl refl refl refl
            (subst (λ a. TakesBeginning b n (first.output ++ a)) (ap (λ a. a.output) answer.2) takes);
      }
  window_halts Tells Memory (one, first, among, wrote, out, tells) =
      let at = placed judging width supply names held read.so.are few one first among in
      let text = codes "out of memory\n" in
      record {
        opened = read.opened;
        reads = read.reads;
        writes = 0;
        told = first.told ++ noted judging one.name.now text;
        opened_are = read.opened_are;
        reads_are = read.reads_are;
        writes_are = omega (arith, wrote);
        tells = tells;
        ends =
            OutOfMemory (string_bytes at.name) at.others (held_reads one) first
            (subst (λ k. IsAt judging width supply names k (string_bytes at.name) at.others first)
            (sym read.so.opened_are) at.at)
            (read.so.reads_are ∙ at.sum) refl refl refl
            (ap (λ m. first.told ++ noted judging m text) at.held.name_is) out;
      }

  -- either, by how the answers went out
  pub window_goes : (Tells : List ℕ → Type 0) (end : Result ℕ Halt)
      → DeliversEach judging held w x b n Tells end
      → Counted (EachGoes judging width supply names end) o p r s w x b n Tells (end_status end)
  window_goes Tells (Ok status) delivered = window_answered Tells status delivered
  window_goes Tells (Err halt) delivered = window_halts Tells halt delivered

-- memory ran out before one of some files was opened
pub window_unopened : (judging : Judging) (width : ℕ) (supply : List ℕ → Supply)
    (names : List (String Global)) (o p r s w x : ℕ) (b n : Option (List ℕ))
    (Tells : List ℕ → Type 0) → p ≡ o → s ≡ r → TellsLost judging names Tells → x ≡ w → Keeps b n
    → Counted (EachGoes judging width supply names (Err Memory)) o p r s w x b n Tells
    (halt_status Memory)
window_unopened judging width supply [] o p r s w x b n Tells opened read tells wrote keep =
    absurd tells
window_unopened judging width supply (one ∷ names) o p r s w x b n Tells opened read tells wrote keep =
    record {
      opened = 0;
      reads = 0;
      writes = 0;
      told = noted judging (string_bytes one) (codes "out of memory\n");
      opened_are = omega (arith, opened);
      reads_are = omega (arith, read);
      writes_are = omega (arith, wrote);
      tells = tells;
      ends =
          NoRoom (string_bytes one) nothing
          (record {
            before = [];
            one = one;
            behind = names;
            split = refl;
            name_is = refl;
            answers = (refl, refl);
            opened_are = refl;
          })
          refl refl refl refl (appends_none b n keep);
    }

-- files that are answered, and some more behind them
module _ (judging : Judging) (width : ℕ) (supply : List ℕ → Supply)
    (done window : List (String Global)) (r status failures e f h : ℕ)
    (b m n p q t : Option (List ℕ)) (o_mid o_new reads_mid reads_new w x : ℕ)
    (so : SoFar judging supply done r status b m (SaysBehind failures e f p q)) where
  -- these are answered too
  pub so_far_window : (answered : ℕ)
      → Counted (EachGoes judging width supply window (Ok answered)) o_mid o_new reads_mid reads_new w
      x m n (SaysBehind failures f h q t) answered
      → (s : ℕ) × (reads_new ≡ reads_mid + s) × (s ≤ length window)
      × (o_new ≡ o_mid + length window) × (x ≡ w)
      × SoFar judging supply (done ++ window) (r + s) (max status answered) b n
      (SaysBehind failures e h p t)
  so_far_window answered c = more c.ends
    where
      more : EachGoes judging width supply window (Ok answered) c.opened c.reads c.writes m n answered
          c.told
          → (s : ℕ) × (reads_new ≡ reads_mid + s) × (s ≤ length window)
          × (o_new ≡ o_mid + length window) × (x ≡ w)
          × SoFar judging supply (done ++ window) (r + s) (max status answered) b n
          (SaysBehind failures e h p t)
      more (Answered answer are opened wrote end ended told out) = (
        c.reads,
        c.reads_are,
        of_few judging supply window c.reads answer are,
        omega (arith, c.opened_are, opened),
        omega (arith, c.writes_are, wrote),
        record {
          answer = joined so.answer answer;
          are = of_append judging supply done window r c.reads so.answer answer so.are are;
          status_is = rw (so.status_is, ended) refl;
          appended = appends_more b m n so.answer.output answer.output so.appended out;
          tells =
              behind_more failures e f h p q t so.answer.told answer.told so.tells
              (subst (SaysBehind failures f h q t) told c.tells);
        },
      )
      more (WriteFailed name some one first answer at is reads wrote end ended told takes) =
          absurd (ok_never answered Write end)
      more (OutOfMemory name some one first at reads wrote end ended told out) =
          absurd (ok_never answered Memory end)
      more (NoRoom name first next wrote end ended told out) =
          absurd (ok_never answered Memory end)

  module _ (names behind : List (String Global)) (o reads_start w_start : ℕ)
      (split : names ≡ done ++ (window ++ behind)) (same : failures ≡ e)
      (opened : o_mid ≡ o + length done) (start : reads_mid ≡ reads_start + r)
      (writes : w ≡ w_start) where
    split_behind : (first : List (String Global)) (one : String Global)
        (others : List (String Global)) → window ≡ first ++ one ∷ others
        → names ≡ (done ++ first) ++ one ∷ (others ++ behind)
    split_behind first one others at =
        split
        ∙ ap (λ l. done ++ (l ++ behind)) at
        ∙ ap (λ l. done ++ l) (append_assoc first (one ∷ others) behind)
        ∙ sym (append_assoc done first (one ∷ (others ++ behind)))

    -- where one of these stands among all
    at_behind : (name : List ℕ) (count some : ℕ) (first : Answer)
        → IsAt judging width supply window count name some first
        → IsAt judging width supply names (length done + count) name (r + some)
        (joined so.answer first)
    at_behind name count some first at =
        let long : length names ≡ length done + (length window + length behind) =
        let all = ap (λ l. length l) split in
        let front = length-append done (window ++ behind) in
        let back = length-append window behind in
        omega (arith, all, front, back) in
        let early = length-append done at.before in
        record {
          before = done ++ at.before;
          one = at.one;
          behind = at.behind ++ behind;
          some = r + at.some;
          ahead = at.ahead;
          split = split_behind at.before at.one at.behind at.split;
          name_is = at.name_is;
          answers =
              of_append judging supply done at.before r at.some so.answer first so.are at.answers;
          reads_are = omega (arith, at.reads_are);
          opened_some = omega (arith, early, at.opened_some);
          opened_few = omega (arith, early, at.opened_few);
          opened_most = omega (arith, long, at.opened_most);
        }

    -- where the next one stands among all
    next_behind : (name : List ℕ) (count some : ℕ) (first : Answer)
        → IsNext judging supply window count name some first
        → IsNext judging supply names (length done + count) name (r + some) (joined so.answer first)
    next_behind name count some first next =
        let early = length-append done next.before in
        record {
          before = done ++ next.before;
          one = next.one;
          behind = next.behind ++ behind;
          split = split_behind next.before next.one next.behind next.split;
          name_is = next.name_is;
          answers =
              of_append judging supply done next.before r some so.answer first so.are next.answers;
          opened_are = omega (arith, early, next.opened_are);
        }

    -- something keeps from going on
    pub halts : (halt : Halt)
        → Counted (EachGoes judging width supply window (Err halt)) o_mid o_new reads_mid reads_new w x
        m n (SaysBehind failures f h q t) (halt_status halt)
        → Counted (EachGoes judging width supply names (Err halt)) o o_new reads_start reads_new w_start
        x b n (Says e h p t) (halt_status halt)
    halts halt c =
        record {
          opened = length done + c.opened;
          reads = r + c.reads;
          writes = c.writes;
          told = so.answer.told ++ c.told;
          opened_are = omega (arith, opened, c.opened_are);
          reads_are = omega (arith, start, c.reads_are);
          writes_are = omega (arith, c.writes_are, writes);
          tells =
              behind_says failures e h p t (so.answer.told ++ c.told) same
              (behind_more failures e f h p q t so.answer.told c.told so.tells c.tells);
          ends = more c.ends;
        }
      where
        more : EachGoes judging width supply window (Err halt) c.opened c.reads c.writes m n
            (halt_status halt) c.told
            → EachGoes judging width supply names (Err halt) (length done + c.opened) (r + c.reads)
            c.writes b n (halt_status halt) (so.answer.told ++ c.told)
        more (Answered answer are opened wrote end ended told out) =
            absurd (ok_never (halt_status halt) halt (sym end))
        more (WriteFailed name some one first answer at is reads wrote end ended told takes) =
            let text = marked judging name answer.output in
            let none : Result ℕ ℕ = Err 0 in
            WriteFailed name (r + some) one (joined so.answer first) answer
            (at_behind name c.opened some first at) is (omega (arith, reads)) wrote end ended
            (ap (λ l. so.answer.told ++ l) told
            ∙ sym (append_assoc so.answer.told first.told (codes "write failed\n")))
            (subst (TakesBeginning b n) (sym (append_assoc so.answer.output first.output text))
            (writes_behind none b m n so.answer.output (first.output ++ text) so.appended takes))
        more (OutOfMemory name some one first at reads wrote end ended told out) =
            OutOfMemory name (r + some) one (joined so.answer first)
            (at_behind name c.opened some first at) (omega (arith, reads)) wrote end ended
            (ap (λ l. so.answer.told ++ l) told
            ∙ sym (append_assoc so.answer.told first.told (noted judging name (codes "out of memory\n"))))
            (appends_more b m n so.answer.output first.output so.appended out)
        more (NoRoom name first next wrote end ended told out) =
            NoRoom name (joined so.answer first) (next_behind name c.opened c.reads first next) wrote end
            ended
            (ap (λ l. so.answer.told ++ l) told
            ∙ sym (append_assoc so.answer.told first.told (noted judging name (codes "out of memory\n"))))
            (appends_more b m n so.answer.output first.output so.appended out)

-- all files are answered
pub ends_all : (judging : Judging) (width : ℕ) (supply : List ℕ → Supply)
    (done names rest : List (String Global)) (r status failures e h o o_new reads_start reads_new w x : ℕ)
    (b n p t : Option (List ℕ)) → SoFar judging supply done r status b n (SaysBehind failures e h p t)
    → names ≡ done ++ rest → rest ≡ [] → failures ≡ e → o_new ≡ o + length done
    → reads_new ≡ reads_start + r → x ≡ w
    → Counted (EachGoes judging width supply names (Ok status)) o o_new reads_start reads_new w x b n
    (Says e h p t) status
ends_all judging width supply done names rest r status failures e h o o_new reads_start reads_new w x b n p t so split none same opened reads writes =
    let all : names ≡ done = split ∙ ap (λ l. done ++ l) none ∙ append-nil done in
    record {
      opened = length done;
      reads = r;
      writes = 0;
      told = so.answer.told;
      opened_are = opened;
      reads_are = reads;
      writes_are = omega (arith, writes);
      tells = behind_says failures e h p t so.answer.told same so.tells;
      ends =
          Answered so.answer (subst (λ l. AreOf judging supply l r so.answer) (sym all) so.are)
          (ap (λ l. length l) (sym all)) refl refl so.status_is refl so.appended;
    }

-- by its exit status
pub ends_with : (judging : Judging) (width : ℕ) (supply : List ℕ → Supply)
    (names : List (String Global)) (o o_new r r_new w x : ℕ) (b n : Option (List ℕ))
    (Tells : List ℕ → Type 0) (end : Result ℕ Halt) (status : ℕ)
    → Counted (EachGoes judging width supply names end) o o_new r r_new w x b n Tells (end_status end)
    → status ≡ end_status end
    → Counted (EachEnds judging width supply names) o o_new r r_new w x b n Tells status
ends_with judging width supply names o o_new r r_new w x b n Tells end status c is =
    subst (λ k. Counted (EachEnds judging width supply names) o o_new r r_new w x b n Tells k) (sym is)
    (record {
      opened = c.opened;
      reads = c.reads;
      writes = c.writes;
      told = c.told;
      opened_are = c.opened_are;
      reads_are = c.reads_are;
      writes_are = c.writes_are;
      tells = c.tells;
      ends = (end, c.ends);
    })

-- what is told where memory runs out for a file
pub no_memory_told : (judging : Judging) (name a d text : List ℕ) → a ≡ name → d ≡ gap judging
    → text ≡ codes "out of memory\n"
    → (a ++ d) ++ text ≡ noted judging name (codes "out of memory\n")
no_memory_told judging name a d text p q r =
    ap (λ x. (x ++ d) ++ text) p ∙ ap (λ x. (name ++ x) ++ text) q
    ∙ ap (λ x. (name ++ gap judging) ++ x) r ∙ no_memory_noted judging name
  where
    no_memory_noted : (judging : Judging) (name : List ℕ)
        → (name ++ gap judging) ++ codes "out of memory\n" ≡ noted judging name (codes "out of memory\n")
    no_memory_noted Check name = refl
    no_memory_noted CheckJson name = refl
    no_memory_noted (Explain extent coloring) name = refl
    no_memory_noted (ExplainJson extent) name = refl
