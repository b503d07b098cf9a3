-- The histories that lead to a judge's state (the judge's part of "Definitions met").
use Rattle.std.specs.Prelude.{◌≡◌, List, length, count_by}
use Rattle.redomail.specs.declared.deed.Deed.{Deed}
use Rattle.redomail.specs.Mailbox.{is_by}
use Rattle.judge.specs.Table.{State}
use Rattle.judge.specs.Legal.{Leads}
use Rattle.judge.specs.Kept.{Kept, Lists, HasRows}

-- the judge's state is this one: phases, ahead sets, pending, closed, ruined and the number shown of each sender
pub record Keeps (judge : Kept) (s : State) : Type 0 where
  pub procs : judge.procs ≡ s.procs
  pub cap : judge.cap ≡ s.cap
  pub most_inside : judge.most_inside ≡ s.most_inside
  pub phases : Lists judge.phases s.procs s.lock.phase
  pub ahead : HasRows judge.ahead s.procs s.lock.ahead
  pub counts : Lists judge.counts s.procs (λ p. count_by (is_by p) s.mail.shown)
  pub shown : judge.shown ≡ length s.mail.shown
  pub pending : judge.pending ≡ s.mail.pending
  pub closed : judge.closed ≡ s.mail.closed
  pub ruined : judge.ruined ≡ s.mail.ruined

-- the history is legal from this start, and the judge's state is the one after it
pub record StandsAfter (start : State) (history : List Deed) (judge : Kept) : Type 0 where
  pub state : State
  pub legal : Leads start history state
  pub kept : Keeps judge state
