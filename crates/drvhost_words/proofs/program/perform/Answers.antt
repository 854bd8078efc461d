use Rattle.std.proofs.Common.{◌≡◌, Ok, arith, refl, string_bytes}
use Rattle.answer.proofs.Delivering.{answers_rightly, found}
use Rattle.drvhost_words.specs.Program.{IsHelp, IsPage, IsTaskFrom}
use Rattle.drvhost_words.proofs.Tasks.{work_ends}
use Rattle.drvhost_words.proofs.Ending.{counted_alone, counted_beside, counted_telling, counted_warned}
use Rattle.drvhost_words.proofs.program.perform.Goals as goal

pub returns-in-Page-clause-answers : goal.returns-in-Page-clause-answers
returns-in-Page-clause-answers g c =
    rw c.in-Page.is
    (counted_beside _ _ _ _ _ _ _ _ _ _ _ _ _
    (counted_alone _ (λ n. n ≡ 0) 0 _ _ _ _ _ _ _ _ _ _ refl (omega arith)
    (answers_rightly (λ told. c.answer_page.result ≡ Ok told) (IsPage c.in-Page.page)
    (g.F.Files.failures c.args.files.now) _ _ _ _ _ _ _ _ _
    (c.write_answer.ensures (g.F.Files.failures c.args.files.now))
    (λ told is. found _ c.answer_page.result told c.answer_page.ensures is) (omega arith))) refl)

pub returns-in-Page-clause-stores : goal.returns-in-Page-clause-stores
returns-in-Page-clause-stores g c = rw c.in-Page.is (record { supply = refl; none = refl })

pub returns-in-Help-clause-answers : goal.returns-in-Help-clause-answers
returns-in-Help-clause-answers g c =
    rw c.in-Help.is
    (counted_beside _ _ _ _ _ _ _ _ _ _ _ _ _
    (counted_alone _ (λ n. n ≡ 0) 0 _ _ _ _ _ _ _ _ _ _ refl (omega arith)
    (answers_rightly (λ told. c.answer_help.result ≡ Ok told) (IsHelp (string_bytes c.in-Help.text))
    (g.F.Files.failures c.args.files.now) _ _ _ _ _ _ _ _ _
    (c.write_answer-in-Help.ensures (g.F.Files.failures c.args.files.now))
    (λ told is. found _ c.answer_help.result told c.answer_help.ensures is) (omega arith))) refl)

pub returns-in-Help-clause-stores : goal.returns-in-Help-clause-stores
returns-in-Help-clause-stores g c = rw c.in-Help.is (record { supply = refl; none = refl })

pub returns-in-OnPaths-clause-answers : goal.returns-in-OnPaths-clause-answers
returns-in-OnPaths-clause-answers g c =
    rw c.in-OnPaths.is
    (counted_beside _ _ _ _ _ _ _ _ _ _ _ _ _
    c.judge_paths.ensures.answers c.judge_paths.ensures.kept.unwritten)

pub returns-in-OnPaths-clause-stores : goal.returns-in-OnPaths-clause-stores
returns-in-OnPaths-clause-stores g c =
    rw c.in-OnPaths.is
    (record { supply = c.judge_paths.ensures.kept.supply; none = c.judge_paths.ensures.kept.created })

pub returns-in-Log-clause-answers : goal.returns-in-Log-clause-answers
returns-in-Log-clause-answers g c =
    rw c.in-Log.is
    (counted_beside _ _ _ _ _ _ _ _ _ _ _ _ _
    (rw c.as_slice.ensures.value at c.log_paths.ensures.answers)
    c.log_paths.ensures.kept.unwritten)

pub returns-in-Log-clause-stores : goal.returns-in-Log-clause-stores
returns-in-Log-clause-stores g c =
    rw c.in-Log.is
    (record { supply = c.log_paths.ensures.kept.supply; none = c.log_paths.ensures.kept.created })

pub returns-in-Test-clause-answers : goal.returns-in-Test-clause-answers
returns-in-Test-clause-answers g c =
    rw c.in-Test.is
    (counted_beside _ _ _ _ _ _ _ _ _ _ _ _ _
    (rw c.tests_of.ensures at c.test.ensures.answers)
    c.test.ensures.kept.unwritten)

pub returns-in-Test-clause-stores : goal.returns-in-Test-clause-stores
returns-in-Test-clause-stores g c =
    rw c.in-Test.is (record { supply = c.test.ensures.kept.supply; none = c.test.ensures.kept.created })

pub returns-in-Rewrite-clause-answers : goal.returns-in-Rewrite-clause-answers
returns-in-Rewrite-clause-answers g c =
    rw c.in-Rewrite.is
    (counted_alone _ (λ n. n ≡ 1) 1 _ _ _ _ _ _ _ _ _ _ refl c.rewrite_file.ensures.opened
    (c.rewrite_file.ensures.answers (g.O.Sink.failures c.args.out.now)
    (g.O.Sink.contents c.args.out.now)))

pub returns-in-Rewrite-clause-stores : goal.returns-in-Rewrite-clause-stores
returns-in-Rewrite-clause-stores g c = rw c.in-Rewrite.is c.rewrite_file.ensures.stores

pub returns-in-Apply-clause-answers : goal.returns-in-Apply-clause-answers
returns-in-Apply-clause-answers g c =
    rw c.in-Apply.is
    (counted_telling _ _ (λ n. n ≡ 1) 1 _ _ _ _ _ _ _ _ _ _ _ _ _ refl c.mend_file.ensures.opened
    c.mend_file.ensures.answers)

pub returns-in-Apply-clause-stores : goal.returns-in-Apply-clause-stores
returns-in-Apply-clause-stores g c = rw c.in-Apply.is c.mend_file.ensures.stores

pub returns-in-OnSet-clause-answers : goal.returns-in-OnSet-clause-answers
returns-in-OnSet-clause-answers g c =
    rw c.in-OnSet.is
    (counted_beside _ _ _ _ _ _ _ _ _ _ _ _ _
    (work_ends (IsTaskFrom c.in-OnSet.task) (g.F.Files.supply c.args.files.now)
    c.in-OnSet.set.now _ _ _ _ _ _ _ _ _ _ _ _ _ c.answer_file.ensures.opened
    c.answer_file.ensures.answers)
    c.answer_file.ensures.kept.unwritten)

pub returns-in-OnSet-clause-stores : goal.returns-in-OnSet-clause-stores
returns-in-OnSet-clause-stores g c =
    rw c.in-OnSet.is
    (record { supply = c.answer_file.ensures.kept.supply; none = c.answer_file.ensures.kept.created })

pub returns-in-OnRun-clause-answers : goal.returns-in-OnRun-clause-answers
returns-in-OnRun-clause-answers g c =
    let opened = rw c.settled_way-way.ensures at c.run_files.ensures.opened in
    rw c.in-OnRun.is
    (counted_beside _ _ _ _ _ _ _ _ _ _ _ _ _
    (counted_telling _ _ _ opened.0 _ _ _ _ _ _ _ _ _ _ _ _ _ opened.1 opened.2
    (rw c.settled_way-way.ensures at c.run_files.ensures.answers))
    c.run_files.ensures.kept.unwritten)

pub returns-in-OnRun-clause-stores : goal.returns-in-OnRun-clause-stores
returns-in-OnRun-clause-stores g c =
    rw c.in-OnRun.is
    (record { supply = c.run_files.ensures.kept.supply; none = c.run_files.ensures.kept.created })

pub returns-in-Host-clause-answers : goal.returns-in-Host-clause-answers
returns-in-Host-clause-answers g c =
    let opened = c.host_files.ensures.opened in
    rw c.in-Host.is
    (counted_beside _ _ _ _ _ _ _ _ _ _ _ _ _
    (counted_warned _ _ _ _ opened.0 _ _ _ _ _ _ _ _ _ _ _ _ _ opened.1 opened.2
    c.host_files.ensures.answers)
    c.host_files.ensures.kept.unwritten)

pub returns-in-Host-clause-stores : goal.returns-in-Host-clause-stores
returns-in-Host-clause-stores g c =
    rw c.in-Host.is
    (record { supply = c.host_files.ensures.kept.supply; none = c.host_files.ensures.kept.created })

pub returns-in-Keep-clause-answers : goal.returns-in-Keep-clause-answers
returns-in-Keep-clause-answers g c =
    let opened = c.keep_files.ensures.opened in
    rw c.in-Keep.is
    (counted_warned _ _ _ _ opened.0 _ _ _ _ _ _ _ _ _ _ _ _ _ opened.1 opened.2
    c.keep_files.ensures.answers)

pub returns-in-Keep-clause-stores : goal.returns-in-Keep-clause-stores
returns-in-Keep-clause-stores g c = rw c.in-Keep.is c.keep_files.ensures.stores
