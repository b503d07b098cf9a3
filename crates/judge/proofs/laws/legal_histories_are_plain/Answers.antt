-- Each law holds from any state in which at most one process holds the lock, so also from the empty one.
use Rattle.judge.proofs.Common.{empty_state}
use Rattle.judge.proofs.Steps.{Allowed-from_leads}
use Rattle.judge.proofs.Inside.{Sole-empty, NoTwoInside-from_allowed, DeadReenters-from_allowed}
use Rattle.judge.proofs.Order.{FirstComeFirstServed-from_allowed}
use Rattle.judge.proofs.Mail.{MailInOrder-from_allowed}
use Rattle.judge.proofs.laws.legal_histories_are_plain.Goals as goal

pub returns : goal.returns
returns c procs cap deeds legal =
    let ok = Allowed-from_leads (empty_state procs cap) legal.0 deeds legal.1 in
    let sole = Sole-empty procs cap in
    record {
      lock = record {
        no_two_inside = NoTwoInside-from_allowed (empty_state procs cap) deeds sole ok;
        dead_reenters = DeadReenters-from_allowed (empty_state procs cap) deeds sole ok;
        first_come = FirstComeFirstServed-from_allowed (empty_state procs cap) deeds ok;
      };
      mail = MailInOrder-from_allowed procs cap deeds ok;
    }
