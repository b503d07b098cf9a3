-- The report of a run of an algorithm: its deeds and answers, the shared words at the end, and the verdict.
use Rattle.std.specs.Prelude.{ℕ, List, [], ◌∷◌, ◌++◌, take, codes, Option, Some, None, slice_get, slice_index_or, ◌+◌, String, string_bytes, Bool, true, false}
use Rattle.std.specs.List.{flat_map}
use Rattle.std.specs.Fmt.{decimal}
use Rattle.std.specs.declared.alloc.Global.{Global}
use Rattle.judge.specs.Table.{State, empty_state_of}
use Rattle.redomail.specs.declared.deed.Deed.TheVariants.{Outer}
use Rattle.rmecore.specs.Simulated.{one_more}
use Rattle.rmecore.specs.declared.fault.Fault.TheVariants.{BrokenClaim}
use Rattle.schedule.specs.Deeds.{words_of_deed}
use Rattle.schedule.specs.Reports.{verdict_line}
use Rattle.schedule.specs.Verdicts.{verdict_on}
use Rattle.schedule.specs.Words.{line_of, spaced_numbers}
use Rattle.schedule.specs.declared.replays.verdict.Verdict.{Verdict}
use Rattle.algorithms.specs.Extents.{extent_length}
use Rattle.schedule.specs.declared.replays.verdict.Verdict.TheVariants.{Fine, Against}
use Rattle.algorithms.specs.Worlds.{AlgorithmWorldState}
use Rattle.algorithms.specs.declared.algorithm.Algorithm.{Algorithm}
use Rattle.algorithms.specs.declared.algorithm.Declaration.{Declaration}
use Rattle.algorithm_lab.specs.declared.run_report.TextReport.{TextReport}
use Rattle.algorithm_lab.specs.declared.run_report.TextReport.TheVariants.{Did, Answered, Exceeded, Broken}
use Rattle.algorithm_lab.specs.declared.section.BoundedSection.{BoundedSection}
use Rattle.algorithm_lab.specs.declared.section.BoundedSection.TheVariants.{Exit, Recovery, Doorway}
use Rattle.algorithm_lab.specs.Sections.{excess_fault}
use Rattle.algorithm_lab.specs.Runs.{AlgorithmRun, deeds_of}
use Rattle.algorithm_lab.specs.declared.run_refusal.RunRefusal.{RunRefusal}

-- the words of an answer. One without words, or that is not among those of the algorithm, is `done`
abbrev pub words_of_text : List ℕ → List ℕ
words_of_text [] = codes "done"
words_of_text text = text

abbrev pub words_of_answer : Option (String Global) → List ℕ
words_of_answer None = codes "done"
words_of_answer (Some text) = words_of_text (string_bytes text)

abbrev pub word_of_section : BoundedSection → List ℕ
word_of_section Exit = codes "exit"
word_of_section Recovery = codes "recovery"
word_of_section Doorway = codes "doorway"

-- the line of a deed, of an answer or of a breach
abbrev pub line_of_report : Algorithm → TextReport → List ℕ
line_of_report a (Did outer) = line_of (words_of_deed (Outer outer))
line_of_report a (Answered p answer) = codes "answer" ++ 32 ∷ decimal p ++ 32 ∷ words_of_answer (slice_get a.answers.items answer) ++ 10 ∷ []
line_of_report a (Exceeded p section) = codes "exceeds" ++ 32 ∷ decimal p ++ 32 ∷ word_of_section section ++ 10 ∷ []
line_of_report a (Broken line) = codes "breaks" ++ 32 ∷ decimal line ++ 10 ∷ []

-- the lines of what a run reports
abbrev pub reports_text : Algorithm → List TextReport → List ℕ
reports_text a reports = flat_map (line_of_report a) reports

-- how many of the words of a row a declaration uses
abbrev pub words_used : ℕ → ℕ → Declaration → ℕ
words_used procs limit declaration = extent_length procs limit declaration.extent

-- the line `words NAME V..` of a declaration
abbrev pub words_line : ℕ → ℕ → Declaration → List ℕ → List ℕ
words_line procs limit declaration row =
    codes "words " ++ string_bytes declaration.name ++ spaced_numbers (take (words_used procs limit declaration) row) ++ 10 ∷ []

-- the lines of declarations, of which the first has the row at this place
abbrev pub words_text : ℕ → ℕ → List (List ℕ) → ℕ → List Declaration → List ℕ
words_text procs limit rows at [] = []
words_text procs limit rows at (declaration ∷ declarations) =
    words_line procs limit declaration (slice_index_or rows at []) ++ words_text procs limit rows (at + 1) declarations

-- a promise on own steps, or a claim, is broken
abbrev pub is_breach : TextReport → Bool
is_breach (Did outer) = false
is_breach (Answered p answer) = false
is_breach (Exceeded p section) = true
is_breach (Broken line) = true

-- the verdict on own steps and claims: against the first breach, by the number of the deed that comes next
abbrev pub promises_verdict : ℕ → List TextReport → Verdict
promises_verdict k [] = Fine
promises_verdict k (Did outer ∷ reports) = promises_verdict (one_more k) reports
promises_verdict k (Answered p answer ∷ reports) = promises_verdict k reports
promises_verdict k (Exceeded p section ∷ reports) = Against k (excess_fault section)
promises_verdict k (Broken line ∷ reports) = Against k BrokenClaim

abbrev pub is_against : Verdict → Bool
is_against Fine = false
is_against (Against at fault) = true

-- where one verdict is fine, the other
abbrev pub or_verdict : Verdict → Verdict → Verdict
or_verdict Fine other = other
or_verdict (Against at fault) other = Against at fault

-- the state of a judge of a new lock of the algorithm, which lets as many be inside as it promises at most
abbrev pub first_judge : Algorithm → ℕ → State
first_judge a procs = empty_state_of a.promises.most_inside procs 1

-- the verdict on what is reported: that of a judge of a new lock on the deeds, and where it allows all of them, that on own steps
-- and claims
abbrev pub verdict_of : Algorithm → ℕ → List TextReport → Verdict
verdict_of a procs reports = or_verdict (verdict_on (first_judge a procs) (deeds_of reports)) (promises_verdict 1 reports)

-- the verdict on a run of this many processes
abbrev pub run_verdict : ℕ → AlgorithmRun (ℕ × RunRefusal) → Verdict
run_verdict procs run = verdict_of run.left.world.algorithm procs run.reports

-- the end of the report of a run that reports this, and leaves this world: the shared words, and the verdict
abbrev pub report_end : AlgorithmWorldState → List TextReport → List ℕ
report_end w reports = words_text w.procs w.limit w.words 0 w.algorithm.declarations.items ++ verdict_line (verdict_of w.algorithm w.procs reports)

-- its report
abbrev pub report_text : AlgorithmWorldState → List TextReport → List ℕ
report_text w reports = reports_text w.algorithm reports ++ report_end w reports
