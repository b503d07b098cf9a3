use Rattle.std.proofs.Common.{◌≡◌, ◌+◌, List, ◌++◌, length, ap, subst}
use Rattle.diagram.proofs.Common.{Line}
use Rattle.diagram.proofs.Watching.{fault_reported}
use Rattle.diagram.specs.Sessions.{request_in, text_of_request}
use Rattle.diagram.proofs.session.opened.Session.answer.Goals as goal

pub returns-in_ok-put_fault-in-Err-clause-text : goal.returns-in_ok-put_fault-in-Err-clause-text
returns-in_ok-put_fault-in-Err-clause-text g c =
    let b = g.S.Simulation.semantics in
    let inside = c.self.inside in
    let line = c.args.line.now in
    let old = c.args.out.now.items in
    let new = c.put_fault.new.out.items in
    subst (λ s. new ≡ old ++ text_of_request b s (request_in s line)) c.self.view_is
    (fault_reported b (record { schedule = inside.schedule; undone = inside.undone.items; simulation = inside.simulation }) line c.in-Err.fault old new c.head-head.result.width _ _
    c.in-Err.ensures (ap (λ h. h.width) c.head-head.ensures) (ap (λ (lines : List Line). length lines + 2) c.lines.ensures) c.number.ensures c.in_ok-put_fault-in-Err.ensures)
