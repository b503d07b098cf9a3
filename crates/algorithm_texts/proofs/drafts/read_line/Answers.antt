use Rattle.std.proofs.Common.{sym, subst}
use Rattle.algorithm_texts.specs.Parts.{◌>>=◌}
use Rattle.algorithm_texts.specs.Drafts.{draft_view}
use Rattle.algorithm_texts.specs.LineDrafts.{Drafts}
use Rattle.algorithm_texts.specs.LineFaults.{line_fault}
use Rattle.algorithm_texts.specs.TextLines.{RefusesLines}
use Rattle.algorithm_texts.specs.TextDrafts.{with_number, read_line, read_lines}
use Rattle.algorithm_texts.proofs.FormFaults.{stops_at}
use Rattle.algorithm_texts.proofs.RefusedLines.{refuses_at, refuses_after}
use Rattle.algorithm_texts.proofs.drafts.read_line.Goals as goal

pub returns-in-Err-clause-err : goal.returns-in-Err-clause-err
returns-in-Err-clause-err c = λ ss.
    let d = draft_view c.args.draft.now in
    let line = c.args.line.now in
    let o = read_line (with_number line.number d) line.tokens.all.items line.tokens.answer.items d.number in
    let kind = line_fault (with_number line.number d) line.tokens.all.items d.number in
    subst (λ f. RefusesLines f (o >>= (λ n. read_lines n ss))) (sym c.at.ensures)
    (refuses_after (λ n. read_lines n ss)
    (refuses_at line.number c.in-Err.fault o kind (subst (λ r. Drafts (draft_view c.line.new.self) r o kind) c.in-Err.is c.line.ensures)))

pub returns-in-Err-clause-first : goal.returns-in-Err-clause-first
returns-in-Err-clause-first c =
    let d = draft_view c.args.draft.now in
    let line = c.args.line.now in
    let o = read_line (with_number line.number d) line.tokens.all.items line.tokens.answer.items d.number in
    let kind = line_fault (with_number line.number d) line.tokens.all.items d.number in
    stops_at line.number c.in-Err.fault kind c.at.result o c.at.ensures (subst (λ r. Drafts (draft_view c.line.new.self) r o kind) c.in-Err.is c.line.ensures)
