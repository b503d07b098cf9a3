-- What a row of a drawing shows, whatever world its process is of.
use Rattle.std.specs.Prelude.{ℕ, ◌==◌, List, [], Option, Some, None, if◌then◌else◌}
use Rattle.redomail.specs.declared.deed.Deed.{Deed}
use Rattle.redomail.specs.declared.layout.Layout.{Layout}
use Rattle.rmeworld.specs.declared.answer.Answer.{Answer}
use Rattle.schedule.specs.Reports.{line_of_report}
use Rattle.schedule.specs.Runs.{Answered}
use Rattle.diagram.specs.declared.act.RowAct.{RowAct}
use Rattle.diagram.specs.declared.act.RowAct.TheVariants.{Silent, Fell}
use Rattle.diagram.specs.declared.act.DiagramRow.{DiagramRow}
use Rattle.diagram.specs.declared.mark.Mark.{Mark}
use Rattle.diagram.specs.declared.mark.Mark.TheVariants.{Step, Crash}
use Rattle.diagram.specs.declared.phase.LifelinePhase.{LifelinePhase}
use Rattle.diagram.specs.Phases.{phase_shown}
use Rattle.diagram.specs.Rows.{deed_of, answer_of}
use Rattle.diagram.specs.Signs.{sign}

-- what process p does, by a sign, which has `wide` bytes in a column, and by a mark; the phase that it shows, if it shows one;
-- its deed; and the line of its answer, which is empty where it ends no call
pub record ShownRowState : Type 0 where
  pub p : ℕ
  pub sign : List ℕ
  pub wide : ℕ
  pub mark : Mark
  pub phase : Option LifelinePhase
  pub deed : Option Deed
  pub answer : List ℕ

-- ---- a row of a run of the lock

-- the number of bytes of a cell's sign, of what is done this often. The sign of a repetition is one character of two bytes
abbrev pub sign_width : ℕ → ℕ
sign_width times = if times == 1 then 24 else 25

abbrev pub wide_of : RowAct → ℕ
wide_of (Silent happened times) = sign_width times
wide_of act = sign_width 1

abbrev pub mark_of : RowAct → Mark
mark_of (Fell deed) = Crash
mark_of act = Step

abbrev pub answer_line : ℕ → Option Answer → List ℕ
answer_line p None = []
answer_line p (Some answer) = line_of_report (Answered p answer)

abbrev pub shown_of : Layout → DiagramRow → ShownRowState
shown_of l row =
    record {
      p = row.p;
      sign = sign l row.p row.act;
      wide = wide_of row.act;
      mark = mark_of row.act;
      phase = phase_shown row.act;
      deed = deed_of row.act;
      answer = answer_line row.p (answer_of row.act);
    }
