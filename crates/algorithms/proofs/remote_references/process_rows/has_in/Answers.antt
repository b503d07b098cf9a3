use Rattle.algorithms.proofs.remote_references.process_rows.has_in.Goals as goal

pub returns-in-Some : goal.returns-in-Some
returns-in-Some c = λ holds rows within l.
    let placed = c.in-Some.ensures.some in
    c.has_process.ensures (holds c.args.word) (rw placed.0 (rows c.args.word within)) l

pub returns-in-None : goal.returns-in-None
returns-in-None c = λ holds rows within l. absurd (c.in-None.ensures.none within)
