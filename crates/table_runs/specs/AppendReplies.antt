-- What the reply of an append says about the mailbox.
use Rattle.std.specs.Prelude.{◌≡◌, ℕ, List, ◌++◌}
use Rattle.redomail.specs.declared.reply.Reply.{Reply}
use Rattle.rmeworld.specs.Sent.{ReplyTells}
use Rattle.table_runs.specs.declared.entry.TakenStep.{TakenStep}
use Rattle.table_runs.specs.Headline.{judged_by}
use Rattle.table_runs.specs.WorkingMembers.{Seated}

-- What the reply says holds at one point of the call: the run up to that point begins with all that the caller had seen, and
-- is a prefix of what the caller has seen after the call.
pub record ReportedIn (x : Seated) (seq : ℕ) (reply : Reply) (y : Seated) : Type 0 where
  pub since : List TakenStep
  pub later : List TakenStep
  pub seen : y.seat_view.seen ≡ (x.seat_view.seen ++ since) ++ later
  pub tells : ReplyTells x.seat_view.setup.layout x.seat_view.by seq reply (judged_by x.seat_view.setup (x.seat_view.seen ++ since)).mail
