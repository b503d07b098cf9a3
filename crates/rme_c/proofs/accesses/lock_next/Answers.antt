use Rattle.rme_c.proofs.Common.{place_of, orderly, within}
use Rattle.rme_c.proofs.Locks.{words_of}
use Rattle.rme_c.proofs.accesses.lock_next.Goals as goal

pub returns-clause-word : goal.returns-clause-word
returns-clause-word c =
    let p = c.args.p.now in
    rw c.access_at.ensures.next (words_of p.procs _ (within p.procs p.limit p.index (place_of p.procs p.index c.args.stage) c.requires.0 (orderly p.procs p.index c.args.stage)))
