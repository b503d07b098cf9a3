use Rattle.std.proofs.Common.{◌≡◌, ◌<◌, ◌≤◌, length, get_or, refl, ◌∙◌, arith, rules}
use Rattle.std.proofs.lemmas.Grind.{common_steps}
use Rattle.std.proofs.lemmas.Option.{slice_get_read, slice_get_past, gets}
use Rattle.algorithm_texts.specs.Runs.{is_access}
use Rattle.algorithm_texts.proofs.Uses.{passes_line, passes_none}
use Rattle.algorithm_texts.proofs.RoundMarks.{access_same}
use Rattle.algorithm_texts.proofs.lines.Draft.is_access_at.Goals as goal

pub returns-in-Some : goal.returns-in-Some
returns-in-Some c =
    let lines = c.args.self.now.algorithm.lines.items in
    let within : c.args.place < length lines = first_of (search rules, grind (arith, common_steps), grind (arith, common_steps, gets)) in
    let at : c.in-Some.line.now ≡ get_or lines c.args.place c.in-Some.line.now = first_of (search rules, grind (arith, common_steps), grind (arith, common_steps, gets)) in
    c.is_access.ensures ∙ passes_line (is_access) (access_same) lines c.args.place c.in-Some.line.now (slice_get_read lines (length lines) c.args.place c.in-Some.line.now refl within at)

pub returns-in-None : goal.returns-in-None
returns-in-None c =
    let lines = c.args.self.now.algorithm.lines.items in
    let past : length lines ≤ c.args.place = first_of (search rules, grind (arith, common_steps), grind (arith, common_steps, gets)) in
    passes_none (is_access) lines c.args.place (slice_get_past lines c.args.place past)
