use Rattle.judge.proofs.Common.{outers}
use Rattle.judge.proofs.Steps.{Allowed-from_leads}
use Rattle.judge.proofs.Halves.{Allowed-halves, Leads-allowed, lock_half, mail_half}
use Rattle.judge.proofs.Agreement.{Legal-agree, MailAllows-agree}
use Rattle.judge.proofs.Exclusion.{LockAllows-agree}
use Rattle.judge.proofs.laws.only_the_processes_count.Goals as goal

pub returns-clause-lock : goal.returns-clause-lock
returns-clause-lock c = Legal-agree

pub returns-clause-history : goal.returns-clause-history
returns-clause-history c s t b history agree leads =
    let ok = Allowed-from_leads s t history leads in
    let lock = LockAllows-agree s.most_inside s.procs s.lock b (outers history) agree (lock_half s history ok) in
    let mail = MailAllows-agree s.procs s.cap s.lock b s.mail history agree (mail_half s history ok) in
    Leads-allowed _ history (Allowed-halves (record s { lock = b }) history lock mail)
