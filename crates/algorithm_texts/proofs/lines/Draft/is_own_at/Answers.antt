use Rattle.std.proofs.Common.{◌≡◌, ◌<◌, ◌≤◌, length, get_or, refl, ap, ◌∙◌, arith, rules}
use Rattle.std.proofs.lemmas.Grind.{common_steps}
use Rattle.std.proofs.lemmas.Option.{slice_get_read, slice_get_past, gets}
use Rattle.algorithm_texts.specs.Drafts.{form_of}
use Rattle.algorithm_texts.specs.Runs.{is_own}
use Rattle.algorithm_texts.proofs.Uses.{passes_line, passes_none, own_same}
use Rattle.algorithm_texts.proofs.lines.Draft.is_own_at.Goals as goal

pub returns-in-Some : goal.returns-in-Some
returns-in-Some c =
    let lines = c.args.self.now.algorithm.lines.items in
    let within : c.args.place < length lines = first_of (search rules, grind (arith, common_steps), grind (arith, common_steps, gets)) in
    let at : c.in-Some.line.now ≡ get_or lines c.args.place c.in-Some.line.now = first_of (search rules, grind (arith, common_steps), grind (arith, common_steps, gets)) in
    c.is_own.ensures ∙ ap (λ js. is_own js c.args.place (form_of c.in-Some.line.now.form)) c.as_slice.ensures.value ∙ passes_line (is_own c.args.self.now.jumps.items c.args.place) (own_same c.args.self.now.jumps.items c.args.place) lines c.args.place c.in-Some.line.now (slice_get_read lines (length lines) c.args.place c.in-Some.line.now refl within at)

pub returns-in-None : goal.returns-in-None
returns-in-None c =
    let lines = c.args.self.now.algorithm.lines.items in
    let past : length lines ≤ c.args.place = first_of (search rules, grind (arith, common_steps), grind (arith, common_steps, gets)) in
    passes_none (is_own c.args.self.now.jumps.items c.args.place) lines c.args.place (slice_get_past lines c.args.place past)
