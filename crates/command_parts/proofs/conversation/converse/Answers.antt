use Rattle.std.proofs.Common.{◌∙◌, List, ℕ}
use Rattle.std.proofs.lemmas.Result.{err_from_is_err_and}
use Rattle.command_parts.proofs.Holding.{answer_breaks, ends_here, flush_breaks, goes_by, goes_on, got_line, got_none, line_breaks, memory_breaks, read_breaks, wrote_page}
use Rattle.command_parts.proofs.conversation.converse.Goals as goal

-- the input ends
pub returns-in_default-clause-holds : goal.returns-in_default-clause-holds
returns-in_default-clause-holds g c =
    got_none g.V.Simulation.semantics c.args.session.now c.loop.session c.args.buffer.now.items c.loop.buffer.items c.next_line.new.buffer.items
    (g.S.Source.reading c.args.r.now)
    (g.S.Source.reading c.loop.r)
    (g.S.Source.reading c.next_line.new.source)
    (g.F.Folder.used c.args.folder.now)
    (g.F.Folder.used c.loop.folder)
    (g.W.Sink.tape c.args.w.now)
    (g.W.Sink.tape c.loop.w)
    (g.W.Sink.tape c.flush.new.self)
    (g.W.Sink.tape c.write_last.new.w)
    c.in_ok-line.field-0 c.write_last.result c.in_default.is c.loop.invariant.0 c.in_ok-flush.ensures.taken c.in_ok-flush.ensures.fine
    c.in_ok-line.ensures.given c.in_ok-line.ensures.ended c.in_ok-line.ensures.fine (rw (← c.deref.ensures.value) c.write_last.ensures)

-- the line ends the session
pub returns-then-ends-clause-holds : goal.returns-then-ends-clause-holds
returns-then-ends-clause-holds g c =
    let line : List ℕ = c.deref-in-loop.result.now in
    let got = got_line g.V.Simulation.semantics c.args.session.now c.loop.session c.args.buffer.now.items c.loop.buffer.items c.next_line.new.buffer.items line
    (g.S.Source.reading c.args.r.now)
    (g.S.Source.reading c.loop.r)
    (g.S.Source.reading c.next_line.new.source)
    (g.F.Folder.used c.args.folder.now)
    (g.F.Folder.used c.loop.folder)
    (g.W.Sink.tape c.args.w.now)
    (g.W.Sink.tape c.loop.w)
    (g.W.Sink.tape c.flush.new.self)
    c.in_ok-line.field-0 c.in-Some.line c.in-Some.is c.deref-in-loop.ensures.value c.loop.invariant.0 c.in_ok-flush.ensures.taken c.in_ok-flush.ensures.fine
    c.in_ok-line.ensures.given c.in_ok-line.ensures.fine in
    ends_here g.V.Simulation.semantics c.args.session.now c.loop.session c.args.buffer.now.items line c.next_line.new.buffer.items c.reply.new.page.items
    (g.S.Source.reading c.args.r.now)
    (g.S.Source.reading c.next_line.new.source)
    (g.F.Folder.used c.args.folder.now)
    (g.F.Folder.used c.loop.folder)
    (g.F.Folder.used c.reply.new.folder)
    (g.W.Sink.tape c.args.w.now)
    (g.W.Sink.tape c.flush.new.self)
    (g.W.Sink.tape c.write_all.new.sink)
    got (c.in_ok-ends.ensures.ends.0 c.if-ends.true) c.in_ok-ends.ensures.answer
    (wrote_page (g.W.Sink.tape c.flush.new.self) (g.W.Sink.tape c.write_all.new.sink) c.deref-in-loop-2.result.now c.reply.new.page.items
    c.deref-in-loop-2.ensures.value c.in_ok-write_all.ensures.all c.in_ok-write_all.ensures.fine)

-- the line is answered, and the session goes on
pub loop-preserved : goal.loop-preserved
loop-preserved g c =
    let line : List ℕ = c.deref-in-loop.result.now in
    let got = got_line g.V.Simulation.semantics c.args.session.now c.loop.session c.args.buffer.now.items c.loop.buffer.items c.next_line.new.buffer.items line
    (g.S.Source.reading c.args.r.now)
    (g.S.Source.reading c.loop.r)
    (g.S.Source.reading c.next_line.new.source)
    (g.F.Folder.used c.args.folder.now)
    (g.F.Folder.used c.loop.folder)
    (g.W.Sink.tape c.args.w.now)
    (g.W.Sink.tape c.loop.w)
    (g.W.Sink.tape c.flush.new.self)
    c.in_ok-line.field-0 c.in-Some.line c.in-Some.is c.deref-in-loop.ensures.value c.loop.invariant.0 c.in_ok-flush.ensures.taken c.in_ok-flush.ensures.fine
    c.in_ok-line.ensures.given c.in_ok-line.ensures.fine in (
      goes_on g.V.Simulation.semantics c.args.session.now c.loop.session c.reply.new.session c.args.buffer.now.items line c.next_line.new.buffer.items c.reply.new.page.items
          (g.S.Source.reading c.args.r.now)
          (g.S.Source.reading c.next_line.new.source)
          (g.F.Folder.used c.args.folder.now)
          (g.F.Folder.used c.loop.folder)
          (g.F.Folder.used c.reply.new.folder)
          (g.W.Sink.tape c.args.w.now)
          (g.W.Sink.tape c.flush.new.self)
          (g.W.Sink.tape c.write_all.new.sink)
          got (goes_by c.in_ok-ends.ends _ c.in_ok-ends.ensures.ends c.if-ends.false) c.in_ok-ends.ensures.answer c.in_ok-ends.ensures.after
          (wrote_page (g.W.Sink.tape c.flush.new.self) (g.W.Sink.tape c.write_all.new.sink) c.deref-in-loop-2.result.now c.reply.new.page.items
          c.deref-in-loop-2.ensures.value c.in_ok-write_all.ensures.all c.in_ok-write_all.ensures.fine),
      c.in_ok-ends.ensures.opened ∙ c.loop.invariant.1,
    )

-- the flush fails
pub returns-in_err-flush-clause-holds : goal.returns-in_err-flush-clause-holds
returns-in_err-flush-clause-holds g c =
    let p = err_from_is_err_and c.from_residual.result c.from_residual.ensures.1 in
    rw (p.1, p.2) (
    flush_breaks g.V.Simulation.semantics c.args.session.now c.loop.session c.args.buffer.now.items c.loop.buffer.items
    (g.S.Source.reading c.args.r.now)
    (g.S.Source.reading c.loop.r)
    (g.F.Folder.used c.args.folder.now)
    (g.F.Folder.used c.loop.folder)
    (g.W.Sink.tape c.args.w.now)
    (g.W.Sink.tape c.loop.w)
    (g.W.Sink.tape c.flush.new.self)
    c.loop.invariant.0 c.flush.ensures.taken c.in_err-flush.ensures.failed
    )

-- no line is read
pub returns-in_err-line-clause-holds : goal.returns-in_err-line-clause-holds
returns-in_err-line-clause-holds g c =
    let p = err_from_is_err_and c.from_residual-in_err-line.result c.from_residual-in_err-line.ensures.1 in
    rw (p.1, p.2) (
    read_breaks g.V.Simulation.semantics c.args.session.now c.loop.session c.args.buffer.now.items c.loop.buffer.items
    (g.S.Source.reading c.args.r.now)
    (g.S.Source.reading c.loop.r)
    (g.S.Source.reading c.next_line.new.source)
    (g.F.Folder.used c.args.folder.now)
    (g.F.Folder.used c.loop.folder)
    (g.W.Sink.tape c.args.w.now)
    (g.W.Sink.tape c.loop.w)
    (g.W.Sink.tape c.flush.new.self)
    _ c.loop.invariant.0 c.in_ok-flush.ensures.taken c.in_ok-flush.ensures.fine c.in_err-line.ensures.broken c.in_err-line.ensures.fault
    )

-- there is no memory for the answer
pub returns-in_err-ends-clause-holds : goal.returns-in_err-ends-clause-holds
returns-in_err-ends-clause-holds g c =
    let line : List ℕ = c.deref-in-loop.result.now in
    let p = err_from_is_err_and c.from_residual-in_err-ends.result c.from_residual-in_err-ends.ensures.1 in
    let got = got_line g.V.Simulation.semantics c.args.session.now c.loop.session c.args.buffer.now.items c.loop.buffer.items c.next_line.new.buffer.items line
    (g.S.Source.reading c.args.r.now)
    (g.S.Source.reading c.loop.r)
    (g.S.Source.reading c.next_line.new.source)
    (g.F.Folder.used c.args.folder.now)
    (g.F.Folder.used c.loop.folder)
    (g.W.Sink.tape c.args.w.now)
    (g.W.Sink.tape c.loop.w)
    (g.W.Sink.tape c.flush.new.self)
    c.in_ok-line.field-0 c.in-Some.line c.in-Some.is c.deref-in-loop.ensures.value c.loop.invariant.0 c.in_ok-flush.ensures.taken c.in_ok-flush.ensures.fine
    c.in_ok-line.ensures.given c.in_ok-line.ensures.fine in
    rw (p.1, p.2) (
    line_breaks g.V.Simulation.semantics c.args.session.now c.loop.session c.args.buffer.now.items line c.next_line.new.buffer.items
    (g.S.Source.reading c.args.r.now)
    (g.S.Source.reading c.next_line.new.source)
    (g.F.Folder.used c.args.folder.now)
    (g.F.Folder.used c.loop.folder)
    (g.F.Folder.used c.reply.new.folder)
    (g.W.Sink.tape c.args.w.now)
    (g.W.Sink.tape c.flush.new.self)
    got c.in_err-ends.ensures.broken
    )

-- the answer is not written whole
pub returns-in_err-write_all-clause-holds : goal.returns-in_err-write_all-clause-holds
returns-in_err-write_all-clause-holds g c =
    let line : List ℕ = c.deref-in-loop.result.now in
    let p = err_from_is_err_and c.from_residual-in_err-write_all.result c.from_residual-in_err-write_all.ensures.1 in
    let got = got_line g.V.Simulation.semantics c.args.session.now c.loop.session c.args.buffer.now.items c.loop.buffer.items c.next_line.new.buffer.items line
    (g.S.Source.reading c.args.r.now)
    (g.S.Source.reading c.loop.r)
    (g.S.Source.reading c.next_line.new.source)
    (g.F.Folder.used c.args.folder.now)
    (g.F.Folder.used c.loop.folder)
    (g.W.Sink.tape c.args.w.now)
    (g.W.Sink.tape c.loop.w)
    (g.W.Sink.tape c.flush.new.self)
    c.in_ok-line.field-0 c.in-Some.line c.in-Some.is c.deref-in-loop.ensures.value c.loop.invariant.0 c.in_ok-flush.ensures.taken c.in_ok-flush.ensures.fine
    c.in_ok-line.ensures.given c.in_ok-line.ensures.fine in
    rw (p.1, p.2) (
    answer_breaks g.V.Simulation.semantics c.args.session.now c.loop.session c.args.buffer.now.items line c.next_line.new.buffer.items c.reply.new.page.items
    (g.S.Source.reading c.args.r.now)
    (g.S.Source.reading c.next_line.new.source)
    (g.F.Folder.used c.args.folder.now)
    (g.F.Folder.used c.loop.folder)
    (g.F.Folder.used c.reply.new.folder)
    (g.W.Sink.tape c.args.w.now)
    (g.W.Sink.tape c.flush.new.self)
    (g.W.Sink.tape c.write_all.new.sink)
    got c.in_ok-ends.ensures.answer (rw (← c.deref-in-loop-2.ensures.value) c.in_err-write_all.ensures.beginning) c.in_err-write_all.ensures.failed
    )

-- no input has as many lines
pub returns-clause-holds : goal.returns-clause-holds
returns-clause-holds g c =
    memory_breaks g.V.Simulation.semantics c.args.session.now c.loop.session c.args.buffer.now.items c.loop.buffer.items
    (g.S.Source.reading c.args.r.now)
    (g.S.Source.reading c.loop.r)
    (g.F.Folder.used c.args.folder.now)
    (g.F.Folder.used c.loop.folder)
    (g.W.Sink.tape c.args.w.now)
    (g.W.Sink.tape c.loop.w)
    c.loop.invariant.0
