-- How what tests answer is reported: in lines, or in the forms of TAP and of JUnit.
use Rattle.std.specs.Prelude.{ℕ, ◌+◌, ◌++◌, Bool, List, [], ◌∷◌, bytes_eq, codes, count_by, decimal, if◌then◌else◌, length, map, nat_eq, nat_lt}
use Rattle.cli.specs.declared.job.Report.{Report}
use Rattle.cli.specs.declared.job.Report.TheVariants.{Lines, Tap13, Tap14, JUnit}
use Rattle.drvhost_devices.specs.Answer.{Answer}
use Rattle.drvhost_devices.specs.Told.{joined}
use Rattle.drvhost_many.specs.All.{nothing}
use Rattle.text.specs.Cut.{lines_of}
use Rattle.drvhost_tests.specs.declared.written.Place.{Place}
use Rattle.drvhost_tests.specs.declared.written.Place.TheVariants.{Description, Comment, Xml}
use Rattle.drvhost_tests.specs.Test.{Test}
use Rattle.drvhost_tests.specs.Written.{lines_written, written}

-- all lines that are answered, each behind these words
abbrev pub answer_lines : Place → List ℕ → Answer → List ℕ
answer_lines place before answer =
    lines_written place before (lines_of answer.output)
    ++ lines_written place before (lines_of answer.told)

-- TAP: whether a test went well
abbrev pub verdict : Answer → List ℕ
verdict answer = if nat_eq answer.status 0 then codes "ok " else codes "not ok "

-- what was answered to a test that didn't, as comments
abbrev pub comments : Answer → List ℕ
comments answer =
    if nat_eq answer.status 0 then [] else answer_lines Comment (codes "# drvhost: ") answer

-- a test point is a line, `ok` or `not ok`, its number, and its name as the description; and its
-- comments
abbrev pub point_line : ℕ → Test → List ℕ
point_line number test =
    verdict test.answer
    ++ (decimal number ++ (codes " - " ++ written Description test.name))

abbrev pub test_point : ℕ → Test → List ℕ
test_point number test = point_line number test ++ (codes "\n" ++ comments test.answer)

-- those of tests, the first of which has this number
abbrev pub test_points : ℕ → List Test → List ℕ
test_points number [] = []
test_points number (test ∷ tests) = test_point number test ++ test_points (number + 1) tests

-- a version of TAP: that version, the plan of all tests, and their points
abbrev pub tap : ℕ → List Test → List ℕ
tap version tests =
    codes "TAP version " ++ (decimal version ++ (codes "\n1.." ++ (decimal (length tests)
    ++ (codes "\n" ++ test_points 1 tests))))

-- the lines of it: no byte of a name or of an answer ends one, or begins another
abbrev pub commented : List (List ℕ) → List (List ℕ)
commented lines = map (λ line. codes "# drvhost: " ++ written Comment line) lines

abbrev pub comment_lines : Answer → List (List ℕ)
comment_lines answer =
    if nat_eq answer.status 0 then []
    else commented (lines_of answer.output) ++ commented (lines_of answer.told)

abbrev pub point_lines : ℕ → List Test → List (List ℕ)
point_lines number [] = []
point_lines number (test ∷ tests) =
    point_line number test ∷ (comment_lines test.answer ++ point_lines (number + 1) tests)

abbrev pub tap_lines : ℕ → List Test → List (List ℕ)
tap_lines version tests =
    (codes "TAP version " ++ decimal version)
    ∷ (codes "1.." ++ decimal (length tests)) ∷ point_lines 1 tests

-- JUnit: a step or the set fails, or a file is faulty
abbrev pub is_failure : Test → Bool
is_failure test = nat_eq test.answer.status 1

abbrev pub is_error : Test → Bool
is_error test = nat_lt 1 test.answer.status

abbrev pub problem : ℕ → List ℕ
problem status = if nat_eq status 1 then codes "failure" else codes "error"

-- the first line that is answered
abbrev pub first_of : List (List ℕ) → List ℕ → List ℕ
first_of [] other = other
first_of (line ∷ lines) other = line

abbrev pub first_line : Answer → List ℕ
first_line answer = first_of (lines_of answer.output) (first_of (lines_of answer.told) [])

-- what was answered to a test that didn't go well: the first line as the message
abbrev pub outcome : Answer → List ℕ
outcome answer =
    if nat_eq answer.status 0 then []
    else codes "<" ++ (problem answer.status ++ (codes " message=\""
    ++ (written Xml (first_line answer) ++ (codes "\">" ++ (answer_lines Xml [] answer
    ++ (codes "</" ++ (problem answer.status ++ codes ">")))))))

-- how many of these tests have a name; behind the second such name, and each later one, stands
-- which it is, so that it is none of the others: in a name two digits stand behind `%`
abbrev pub times : List ℕ → List Test → ℕ
times name tests = count_by (λ test. bytes_eq test.name name) tests

abbrev pub turn : ℕ → List ℕ
turn times = if nat_lt 1 times then codes " %#" ++ decimal times else []

-- a test case of a set. Its time is 0, since what is answered doesn't depend on the time
abbrev pub test_case : List ℕ → ℕ → Test → List ℕ
test_case set times test =
    codes "<testcase classname=\"" ++ (written Xml set ++ (codes "\" name=\""
    ++ (written Xml test.name ++ (turn times ++ (codes "\" time=\"0\">"
    ++ (outcome test.answer ++ codes "</testcase>\n"))))))

-- those of tests, behind these
abbrev pub test_cases : List ℕ → List Test → List Test → List ℕ
test_cases set before [] = []
test_cases set before (test ∷ tests) =
    test_case set (times test.name (before ++ test ∷ [])) test
    ++ test_cases set (before ++ test ∷ []) tests

-- the suite of a set: how many tests it has, and how many of them didn't go well
abbrev pub suite_head : List ℕ → List Test → List ℕ
suite_head set tests =
    codes "<?xml version=\"1.0\" encoding=\"UTF-8\"?>\n<testsuite name=\"" ++ (written Xml set
    ++ (codes "\" tests=\"" ++ (decimal (length tests) ++ (codes "\" failures=\""
    ++ (decimal (count_by is_failure tests) ++ (codes "\" errors=\""
    ++ (decimal (count_by is_error tests) ++ codes "\" skipped=\"0\" time=\"0\">\n")))))))

abbrev pub suite : List ℕ → List Test → List ℕ
suite set tests = suite_head set tests ++ (test_cases set [] tests ++ codes "</testsuite>\n")

-- the answers to tests as one
abbrev pub all_answers : List Test → Answer
all_answers [] = nothing
all_answers (test ∷ tests) = joined test.answer (all_answers tests)

-- the answer to the tests of a set, as it is reported
abbrev pub reported : Report → List ℕ → List Test → Answer
reported Lines set tests = all_answers tests
reported Tap13 set tests = record (all_answers tests) { output = tap 13 tests }
reported Tap14 set tests = record (all_answers tests) { output = tap 14 tests }
reported JUnit set tests = record (all_answers tests) { output = suite set tests }

-- a set that isn't played, as the one test that there is
abbrev pub alone : Report → List ℕ → Answer → Answer
alone report set answer = reported report set (record { name = set; answer = answer } ∷ [])
