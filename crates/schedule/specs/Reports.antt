-- The report of a run: its deeds and answers, the last words, the mailbox, and the verdict (the specification's Report).
use Rattle.std.specs.Prelude.{◌≡◌, ℕ, ◌+◌, List, [], ◌∷◌, ◌++◌, map, slice_index, ◌⊎◌, codes}
use Rattle.std.specs.List.{flat_map}
use Rattle.std.specs.Fmt.{decimal}
use Rattle.rmecore.specs.declared.own.Own.{Own}
use Rattle.rmecore.specs.declared.fault.Fault.{Fault}
use Rattle.rmecore.specs.declared.fault.Fault.TheVariants.{Overtaken}
use Rattle.redomail.specs.declared.layout.Layout.{Layout}
use Rattle.redomail.specs.declared.message.Message.{Message}
use Rattle.redomail.specs.Layout.{words_of}
use Rattle.redomail.specs.Shape.{entries}
use Rattle.redomail.specs.Content.{IsContent}
use Rattle.rmeworld.specs.declared.image.Image.{Image}
use Rattle.rmeworld.specs.ImageRules.{layout_of}
use Rattle.judge.specs.Table.{State}
use Rattle.schedule.specs.declared.replays.verdict.Verdict.{Verdict}
use Rattle.schedule.specs.declared.replays.verdict.Verdict.TheVariants.{Fine, Against}
use Rattle.schedule.specs.Words.{line_of}
use Rattle.schedule.specs.Deeds.{words_of_deed}
use Rattle.schedule.specs.Answers.{words_of_answer}
use Rattle.schedule.specs.Verdicts.{number_of_fault, verdict_on}
use Rattle.schedule.specs.Runs.{LockReport, Did, Answered, deeds_of}

-- ---- what a run reports

-- the line of a deed or of an answer
abbrev pub line_of_report : LockReport → List ℕ
line_of_report (Did deed) = line_of (words_of_deed deed)
line_of_report (Answered p answer) = line_of (codes "answer" ∷ decimal p ∷ words_of_answer answer)

-- the lines of what a run reports
abbrev pub reports_text : List LockReport → List ℕ
reports_text reports = flat_map line_of_report reports

-- ---- the last words

-- the line `words P C N I`
abbrev pub own_line : ℕ → Own → List ℕ
own_line p own = line_of (codes "words" ∷ decimal p ∷ decimal own.choosing ∷ decimal own.number ∷ decimal own.inside ∷ [])

-- the lock words of each process, by rising number from p on
abbrev pub owns_text : ℕ → List Own → List ℕ
owns_text p [] = []
owns_text p (own ∷ owns) = own_line p own ++ owns_text (p + 1) owns

-- ---- the mailbox

-- the line `message AT SENDER SEQ VALUE..`
abbrev pub message_line : ℕ → Message → List ℕ
message_line at m = line_of (codes "message" ∷ decimal at ∷ decimal m.sender ∷ decimal m.seq ∷ map decimal m.value)

-- messages, by rising place from this one on
abbrev pub messages_text : ℕ → List Message → List ℕ
messages_text at [] = []
messages_text at (m ∷ ms) = message_line at m ++ messages_text (at + 1) ms

-- the line `mail COUNT closed C ruined R`
abbrev pub count_line : List ℕ → List ℕ
count_line cells =
    line_of
    (codes "mail" ∷ decimal (slice_index cells 2) ∷ codes "closed" ∷ decimal (slice_index cells 1)
    ∷ codes "ruined" ∷ decimal (slice_index cells 0) ∷ [])

-- the content of the mailbox
abbrev pub content_text : Layout → List ℕ → List ℕ
content_text layout cells = count_line cells ++ messages_text 0 (entries layout (words_of cells) (slice_index cells 2))

-- the line `mail broken`
abbrev pub broken_text : List ℕ
broken_text = line_of (codes "mail" ∷ codes "broken" ∷ [])

-- the mailbox's part: its content, or that the data words break the content's rules
abbrev pub IsMailText : Layout → List ℕ → List ℕ → Type 0
IsMailText layout cells text =
    (IsContent layout cells × (text ≡ content_text layout cells)) ⊎ ((IsContent layout cells → ⊥) × (text ≡ broken_text))

-- ---- the verdict

-- the words after fault 4: who came before whom
abbrev pub words_of_overtaking : Fault → List (List ℕ)
words_of_overtaking (Overtaken by of) = codes "by" ∷ decimal by ∷ codes "of" ∷ decimal of ∷ []
words_of_overtaking _ = []

-- the words of a verdict
abbrev pub words_of_verdict : Verdict → List (List ℕ)
words_of_verdict Fine = codes "verdict" ∷ codes "fine" ∷ []
words_of_verdict (Against at fault) =
    codes "verdict" ∷ codes "against" ∷ decimal (number_of_fault fault) ∷ codes "at" ∷ decimal at ∷ words_of_overtaking fault

-- the last line of a report
abbrev pub verdict_line : Verdict → List ℕ
verdict_line verdict = line_of (words_of_verdict verdict)

-- ---- the whole

-- the lines at the end
abbrev pub IsEnd : Image → Verdict → List ℕ → Type 0
IsEnd image verdict text =
    (mail : List ℕ) × IsMailText (layout_of image) image.cells mail × (text ≡ owns_text 0 image.lock ++ mail ++ verdict_line verdict)

-- the report of a run without a refusal: judged from this state of the judge table, with the last words of this image
abbrev pub IsReport : State → Image → List LockReport → List ℕ → Type 0
IsReport start image reports text =
    (end : List ℕ) × IsEnd image (verdict_on start (deeds_of reports)) end × (text ≡ reports_text reports ++ end)
