use Rattle.std.proofs.lemmas.Bool.{cond_above}
use Rattle.std.proofs.Common.{◌<◌, nat_lt, arith, ap, sym, ◌∙◌, lt-ltb, refl}
use Rattle.judge.proofs.Common.{cond-true, doer, lock_doer}
use Rattle.judge.proofs.judge.Judge.fault.Goals as goal

pub returns-in-Commit-clause-fault : goal.returns-in-Commit-clause-fault
returns-in-Commit-clause-fault c = λ s k.
    let e = c.commit_fault.ensures.fault s c.in-Commit.v k in
    let same = c.doer-p.ensures ∙ ap doer c.in-Commit.is in
    let below : c.in-Commit.p < s.procs = omega (arith, c.if-p-self.false, k.procs, same, ap (λ j. j.procs) c.self.view_is) in
    rw c.in-Commit.is (e ∙ sym (cond-true (nat_lt c.in-Commit.p s.procs) _ _ (lt-ltb c.in-Commit.p s.procs below)))

pub returns-then-p-self-clause-fault : goal.returns-then-p-self-clause-fault
returns-then-p-self-clause-fault c = λ s k.
    cond_above (doer c.args.deed.now) s.procs _ _ _ (omega (arith, c.if-p-self.true, k.procs, c.doer-p.ensures, ap (λ j. j.procs) c.self.view_is)) refl

pub returns-in-Outer-clause-fault : goal.returns-in-Outer-clause-fault
returns-in-Outer-clause-fault c = λ s k.
    let e = c.lock_fault.ensures s k in
    let same = c.doer-p.ensures ∙ ap doer c.in-Outer.is in
    let below : lock_doer c.in-Outer.outer < s.procs = omega (arith, c.if-p-self.false, k.procs, same, ap (λ j. j.procs) c.self.view_is) in
    rw c.in-Outer.is (e ∙ sym (cond-true (nat_lt (lock_doer c.in-Outer.outer) s.procs) _ _ (lt-ltb (lock_doer c.in-Outer.outer) s.procs below)))
