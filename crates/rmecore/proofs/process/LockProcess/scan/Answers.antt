use Rattle.std.proofs.Common.{◌≡◌, Option, Some, None, IfSome, subst}
use Rattle.rmecore.proofs.Common.{Access, word_of, Standing, next_access, InLock, IsLeast, IsAllowed, StoresOwn}
use Rattle.rmecore.specs.declared.scan.Scan.{Scan}
use Rattle.rmecore.proofs.Accesses.{orderly, all_allowed, all_least, within, stores_own}
use Rattle.rmecore.proofs.process.LockProcess.scan.Goals as goal

-- a fact about the next access is a fact about the scan's access, since they are the same
reports : (n : Option Access) (Q : Access → Type 0) → IfSome n Q → (o : Option (Scan × Access)) → IfSome o (λ r. n ≡ Some r.1) → IfSome o (λ r. Q r.1)
reports n Q h None k = tt
reports n Q h (Some r) k = subst (λ m. IfSome m Q) k h

pub returns-clause-allowed : goal.returns-clause-allowed
returns-clause-allowed c = reports (next_access c.args.self.now) (IsAllowed c.args.self.now) (all_allowed c.args.self.now) c.scan_access.result c.scan_access.ensures.next

pub returns-clause-least : goal.returns-clause-least
returns-clause-least c =
    let h = all_least _ (orderly c.self.inside.procs c.self.inside.index c.self.inside.stage) in
    reports (next_access c.args.self.now) (IsLeast c.args.self.now) (subst (λ (s : Standing). IfSome (next_access s) (IsLeast s)) c.self.view_is h) c.scan_access.result c.scan_access.ensures.next

pub returns-clause-within : goal.returns-clause-within
returns-clause-within c =
    let h = within c.self.inside.procs c.self.inside.limit c.self.inside.index _ c.self.invariant (orderly c.self.inside.procs c.self.inside.index c.self.inside.stage) in
    reports (next_access c.args.self.now) (λ a. InLock c.args.self.now.procs (word_of a)) (subst (λ (s : Standing). IfSome (next_access s) (λ a. InLock s.procs (word_of a))) c.self.view_is h) c.scan_access.result c.scan_access.ensures.next

pub returns-clause-own : goal.returns-clause-own
returns-clause-own c = reports (next_access c.args.self.now) (StoresOwn c.args.self.now.index) (stores_own _ _ c.args.self.now.place) c.scan_access.result c.scan_access.ensures.next
