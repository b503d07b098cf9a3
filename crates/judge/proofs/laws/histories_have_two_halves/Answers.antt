use Rattle.judge.proofs.Steps.{Allowed-from_leads}
use Rattle.judge.proofs.Halves.{Allowed-halves, Leads-allowed, lock_half, mail_half, LockAllows-legal, Legal-allowed, state_led}
use Rattle.judge.proofs.laws.histories_have_two_halves.Goals as goal

pub returns-clause-together : goal.returns-clause-together
returns-clause-together c s history lock mail = Leads-allowed s history (Allowed-halves s history lock mail)

pub returns-clause-lock : goal.returns-clause-lock
returns-clause-lock c s t history leads = lock_half s history (Allowed-from_leads s t history leads)

pub returns-clause-mail : goal.returns-clause-mail
returns-clause-mail c s t history leads = mail_half s history (Allowed-from_leads s t history leads)

pub returns-clause-state : goal.returns-clause-state
returns-clause-state c s t history leads = state_led s t history leads

pub returns-clause-one : goal.returns-clause-one
returns-clause-one c n a deeds = (Legal-allowed n a deeds, LockAllows-legal n a deeds)
