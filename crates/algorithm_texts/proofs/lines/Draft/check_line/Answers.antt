use Rattle.std.proofs.Common.{◌≡◌, ℕ, ◌<◌, ◌≤◌, length, get_or, refl, sym, ap, ◌∙◌, arith, rules}
use Rattle.std.proofs.lemmas.Grind.{common_steps}
use Rattle.std.proofs.lemmas.Option.{slice_get_read, slice_get_past, gets}
use Rattle.algorithms.specs.Faults.{fault_of}
use Rattle.algorithm_texts.specs.Drafts.{draft_view}
use Rattle.algorithm_texts.specs.Usage.{uses}
use Rattle.algorithm_texts.proofs.CallFaults.{line_number}
use Rattle.algorithm_texts.proofs.Fits.{no_line_fits}
use Rattle.algorithm_texts.proofs.Uses.{use_at, no_use_at}
use Rattle.algorithm_texts.proofs.lines.Draft.check_line.Goals as goal

pub check_form-requires-clause-there : goal.check_form-requires-clause-there
check_form-requires-clause-there c =
    let lines = c.args.self.now.algorithm.lines.items in
    let within : c.args.place < length lines = first_of (search rules, grind (arith, common_steps), grind (arith, common_steps, gets)) in
    let at : c.in-Some.line.now ≡ get_or lines c.args.place c.in-Some.line.now = first_of (search rules, grind (arith, common_steps), grind (arith, common_steps, gets)) in
    use_at lines c.args.place c.in-Some.line.now (slice_get_read lines (length lines) c.args.place c.in-Some.line.now refl within at)

pub returns-in-None-clause-ok : goal.returns-in-None-clause-ok
returns-in-None-clause-ok c =
    let lines = c.args.self.now.algorithm.lines.items in
    let d = draft_view c.args.self.now in
    let past : length lines ≤ c.args.place = first_of (search rules, grind (arith, common_steps), grind (arith, common_steps, gets)) in
    no_line_fits (uses d.lines) d.head.promises d.lasting (length d.names) c.args.call c.args.place (no_use_at lines c.args.place (slice_get_past lines c.args.place past))

pub returns-in-Err-clause-named : goal.returns-in-Err-clause-named
returns-in-Err-clause-named c =
    let lines = c.args.self.now.algorithm.lines.items in
    let line = c.in-Some.line.now in
    let within : c.args.place < length lines = first_of (search rules, grind (arith, common_steps), grind (arith, common_steps, gets)) in
    let at : line ≡ get_or lines c.args.place line = first_of (search rules, grind (arith, common_steps), grind (arith, common_steps, gets)) in
    let here = line_number lines c.args.place line (slice_get_read lines (length lines) c.args.place line refl within at) in
    (c.in-Err.fault, c.in-Err.ensures.named, c.at.ensures ∙ ap (λ (n : ℕ). fault_of n c.in-Err.fault) (sym here))
