use Rattle.std.proofs.Common.{◌≤◌, length, map, sym, ap, ◌∙◌, arith, rules}
use Rattle.std.proofs.lemmas.Grind.{common_steps}
use Rattle.std.proofs.lemmas.List.{length-map}
use Rattle.std.proofs.lemmas.Option.{gets}
use Rattle.algorithm_texts.specs.Drafts.{line_of}
use Rattle.algorithm_texts.specs.FinishedDrafts.{is_in}
use Rattle.algorithm_texts.specs.UnreachedLines.{ended_line}
use Rattle.algorithm_texts.proofs.Endings.{end_set, end_past}
use Rattle.algorithm_texts.proofs.marks.end_at.Goals as goal

pub returns-in-Some : goal.returns-in-Some
returns-in-Some c =
    end_set (is_in c.args.marks.now c.args.place) c.args.lines.now.items c.args.place c.in-Some.line.now c.end_way.new.line c.in-Some.ensures.value
    (c.end_way.ensures ∙ ap (λ b. ended_line b (line_of c.in-Some.line.now)) c.is_in-mark.ensures)

pub returns-in_default : goal.returns-in_default
returns-in_default c =
    let lines = c.args.lines.now.items in
    let past : length lines ≤ c.args.place = first_of (search rules, grind (arith, common_steps), grind (arith, common_steps, gets)) in
    let size = length-map lines line_of in
    sym (end_past (is_in c.args.marks.now c.args.place) (map line_of lines) c.args.place (omega (arith, past, size)))
