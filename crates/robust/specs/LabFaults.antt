-- What may end a lab early, and which worker's fault it answers.
use Rattle.std.specs.Prelude.{◌≡◌, ℕ, ◌*◌, ◌<◌, ◌≤◌, ◌⊎◌, List, ◌∷◌, ◌++◌, Some, All}
use Rattle.redomail.specs.declared.reply.Reply.{Reply}
use Rattle.redomail.specs.declared.reply.Reply.TheVariants.{Full, Closed}
use Rattle.rmeworld.specs.Sent.{ReplyTells}
use Rattle.rmeworld.specs.declared.answer.Answer.{Answer}
use Rattle.rmeworld.specs.declared.answer.Answer.TheVariants.{NumbersSpent as SpentAnswer}
use Rattle.rmeworld.specs.ProcessState.{at_rest}
use Rattle.table_runs.specs.declared.entry.TakenStep.{TakenStep}
use Rattle.table_runs.specs.declared.setup.Setup.{Setup}
use Rattle.table_runs.specs.declared.lock_fault.LockFault.TheVariants as fault
use Rattle.table_runs.specs.declared.lab.lab_fault.LabFault.{LabFault}
use Rattle.table_runs.specs.declared.lab.lab_fault.LabFault.TheVariants.{BadSpec, OutOfMemory, Member, Reply as Replied}
use Rattle.table_runs.specs.declared.lab.spec.Spec.{Spec}
use Rattle.robust.specs.declared.lab.worker.Done.{Done}
use Rattle.table_runs.specs.declared.lab.worker_end.WorkerEnd.{WorkerEnd}
use Rattle.table_runs.specs.declared.lab.worker_end.WorkerEnd.TheVariants.{AllSent, Fault, Refused}
use Rattle.table_runs.specs.Endings.{fault_by}
use Rattle.table_runs.specs.Lab.{setup_of, messages_by, messages_sent}
use Rattle.table_runs.specs.Calls.{answers_from}
use Rattle.table_runs.specs.Headline.{judged_by, shown_by}
use Rattle.table_runs.specs.SeatView.{own_of}
use Rattle.table_runs.specs.Ruins.{HasReadRuin}
use Rattle.table_runs.specs.WorkingMembers.{Seated}
use Rattle.table_runs.specs.Runs.{entries_of}
use Rattle.robust.specs.LabRuns.{IsLabRun}
use Rattle.robust.specs.WorkerSends.{HasShown}

-- the fault is that of the first of these workers that ended early
pub record IsFirstWorkerFault (ended : List Done) (cause : LabFault) : Type 0 where
  pub front : List Done
  pub done : Done
  pub back : List Done
  pub are : ended ≡ front ++ done ∷ back
  pub sent : All (λ (d : Done). d.ending ≡ AllSent) front
  pub below : done.member.seat_view.by < done.member.seat_view.setup.layout.procs
  pub cause_is : fault_by done.member.seat_view.by done.ending ≡ Some cause

-- at one point of the run that the member has seen, what the reply of an append with this number says of the mailbox held
pub record RefusedAt (x : Seated) (seq : ℕ) (reply : Reply) : Type 0 where
  pub front : List TakenStep
  pub later : List TakenStep
  pub seen : x.seat_view.seen ≡ front ++ later
  pub tells : ReplyTells x.seat_view.setup.layout x.seat_view.by seq reply (judged_by x.seat_view.setup front).mail

-- one of these entries of a process was answered NumbersSpent: it read the limit in its doorway
abbrev pub NumbersWereSpent : Setup → List TakenStep → Type 0
NumbersWereSpent z es = (front : List Answer) × (back : List Answer) × (answers_from z at_rest es ≡ front ++ SpentAnswer ∷ back)

-- How a worker ends: its last message is shown; or it was answered NumbersSpent, or has read that the lock is ruined; or one
-- of its messages was answered Full or Closed.
abbrev pub EndsSo : Spec → Seated → WorkerEnd → Type 0
EndsSo s x AllSent = HasShown s.messages x
EndsSo s x (Fault purpose) = ((purpose ≡ fault.NumbersSpent) × NumbersWereSpent x.seat_view.setup (own_of x.seat_view)) ⊎ ((purpose ≡ fault.NotRecoverable) × HasReadRuin (own_of x.seat_view))
EndsSo s x (Refused reply) = ((reply ≡ Full) ⊎ (reply ≡ Closed)) × ((seq : ℕ) × (1 ≤ seq) × (seq ≤ s.messages) × RefusedAt x seq reply)

-- this run shows the messages of each worker with a number below p: all that it sends, once and in order
abbrev pub HaveSentBelow : Spec → ℕ → List TakenStep → Type 0
HaveSentBelow s p es = (q : ℕ) → q < p → messages_by q (shown_by (setup_of s) es) ≡ messages_sent s.width q s.messages

-- What may end a lab early: out of memory; a worker that was answered NumbersSpent in a run of such workers; or a mailbox
-- that was full when one of the messages was to be stored, in such a run, with less room than there are messages. It is the
-- worker with the least number of those that ended early: that run shows all messages of those below it.
abbrev pub EndsLab : Spec → LabFault → Type 0
EndsLab s BadSpec = ⊥
EndsLab s OutOfMemory = Unit {0}
EndsLab s (Member p purpose) =
    (p < s.procs) × (purpose ≡ fault.NumbersSpent)
    × ((es : List TakenStep) × IsLabRun s es × HaveSentBelow s p es × NumbersWereSpent (setup_of s) (entries_of p es))
EndsLab s (Replied p reply) =
    (p < s.procs) × (reply ≡ Full) × (s.cap < s.procs * s.messages)
    × ((es : List TakenStep) × IsLabRun s es × HaveSentBelow s p es × ((seq : ℕ) × (1 ≤ seq) × (seq ≤ s.messages) × ReplyTells (setup_of s).layout p seq reply (judged_by (setup_of s) es).mail))
