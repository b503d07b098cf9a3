use Rattle.std.proofs.Common.{◌≡◌, ◌+◌, ◌++◌, ◌∷◌, [], take, refl, sym, ap, ◌∙◌, arith}
use Rattle.diagram.proofs.Common.{take_more, take_all, first_running_verdict, deeds_of, verdict_on, hears_none, reports_in, events_in}
use Rattle.schedule.proofs.Closing.{ruled_on}
use Rattle.diagram.proofs.Heard.{hears_row}
use Rattle.diagram.proofs.deed_verdict.verdict_on.Goals as goal

pub loop-row-init : goal.loop-row-init
loop-row-init c = hears_none _

pub loop-row-preserved : goal.loop-row-preserved
loop-row-preserved c =
    let i = c.loop-row.row-index in
    let rows = c.args.rows.now in
    let item = c.row-item.result in
    let more : take (i + 1) rows ≡ take i rows ++ item ∷ [] = take_more rows i item c.loop-row-test.true ∙ ap (λ row. take i rows ++ row ∷ []) (sym c.row-item.is) in
    rw more (hears_row _ _ _ (take i rows) item c.loop-row.invariant c.hear.ensures)

pub returns : goal.returns
returns c start keeps =
    let all : take c.loop-row.row-index c.args.rows.now ≡ c.args.rows.now = take_all c.loop-row.row-index c.args.rows.now (omega (arith, c.loop-row-test.false)) in
    c.verdict.ensures ∙ ruled_on c.args.judge.now c.loop-row.judge first_running_verdict c.loop-row.running_verdict _ start refl c.loop-row.invariant keeps
    ∙ ap (λ rows. verdict_on start (deeds_of (reports_in (events_in rows)))) all
