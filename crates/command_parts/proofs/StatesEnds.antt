-- How a tool over lines of states ends.
use Rattle.std.proofs.Common.{◌≡◌, ◌≤◌, ℕ, ◌+◌, ◌^◌, List, Result, sym, inr, subst, arith, le-mul_of_pos_right}
use Rattle.cli.specs.declared.arguments.args.StatesTool.{StatesTool}
use Rattle.schedule.specs.Tapes.{Tape, Reading}
use Rattle.command_parts.specs.Endings.{CommandFault, Ending, Prints}
use Rattle.command_parts.specs.StateTexts.{StateLines, StatesRun, EndsOfTool, FindsWalk, WalkEnds, IsForm, ToolEnds}

-- a tool ends as that of its name
pub tool_ends : {S M : Type 0} (run : StatesRun S M) (tool : StatesTool) (old new : Reading) (before now : Tape) (end : Result Ending CommandFault) → run.stream.tool ≡ tool → EndsOfTool tool run old new before now end → ToolEnds run old new before now end
tool_ends run tool old new before now end is ends = subst (λ (t : StatesTool). EndsOfTool t run old new before now end) (sym is) ends

-- the moves of a walk that was found were written, or not
pub walk_written : {S M : Type 0} (lines : StateLines S M) (spelled : List M → List ℕ) (path : List M) (text : List ℕ) (old new : Reading) (before now : Tape) (end : Result Ending CommandFault) → FindsWalk lines old new path → text ≡ spelled path → Prints 1 text before now end → WalkEnds lines spelled old new before now end
walk_written lines spelled path text old new before now end found same prints =
    inr (inr (inr (record { path = path; found = found; prints = subst (λ (ts : List ℕ). Prints 1 ts before now end) same prints })))

-- more words than there are numbers are no form
pub wide_form : (words digits : ℕ) → 2 ^ 64 ≤ words → IsForm words digits → ⊥
wide_form words digits wide form = omega (arith, wide, form.narrow, le-mul_of_pos_right {m = digits} (words + 1) form.some)
