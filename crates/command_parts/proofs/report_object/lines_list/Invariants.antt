use Rattle.std.proofs.Common.{◌≡◌, map}
use Rattle.command_parts.specs.ReportObjects.{list_text}
use Rattle.command_parts.proofs.report_object.lines_list.Given as goal

-- the list of the lines so far
abbrev pub invariant-loop-line : goal.invariant-loop-line
invariant-loop-line l = l.list.items ≡ list_text (map (λ line. line.now) l.yielded)
