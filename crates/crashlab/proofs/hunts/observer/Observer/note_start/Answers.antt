use Rattle.std.proofs.Common.{◌∷◌, sym, subst}
use Rattle.std.proofs.lemmas.Option.{get_or_from_slice_get}
use Rattle.crashlab.specs.hunts.Draws.{Begins}
use Rattle.crashlab.specs.hunts.Observed.{Observes}
use Rattle.crashlab.proofs.hunts.Observed.{observes_at, observes_past}
use Rattle.crashlab.proofs.hunts.observer.Observer.note_start.Goals as goal

pub returns-then-p-lt-PROCS : goal.returns-then-p-lt-PROCS
returns-then-p-lt-PROCS c = λ seen observes.
    let here = subst (Observes seen) (sym c.self.view_is) observes in
    observes_at c.args.p (λ s. Begins c.args.next_call ∷ s) seen c.self.inside.observer _ here c.if-p-lt-PROCS.true
    (c.note_start.ensures (seen c.args.p) (get_or_from_slice_get c.self.inside.observer c.args.p _ _ (here c.args.p c.if-p-lt-PROCS.true)))

pub returns-else-p-lt-PROCS : goal.returns-else-p-lt-PROCS
returns-else-p-lt-PROCS c = λ seen observes. observes_past c.args.p (λ s. Begins c.args.next_call ∷ s) seen c.args.self.now observes c.if-p-lt-PROCS.false
