-- The verdict on a list of deeds: the first that is not allowed, with its number (the specification's Trace).
use Rattle.std.specs.Prelude.{ℕ, List, [], ◌∷◌, Result, Ok, Err}
use Rattle.rmecore.specs.declared.fault.Fault.{Fault}
use Rattle.rmecore.specs.declared.fault.Fault.TheVariants.{OutOfPlace, TwoInside, NotReentered, Overtaken, NotInside, MailOrder, AfterClose, LongExit, LongRecovery, LongDoorway, BrokenClaim}
use Rattle.redomail.specs.declared.deed.Deed.{Deed}
use Rattle.judge.specs.Table.{State, state_after_deed}
use Rattle.rmecore.specs.Simulated.{one_more}
use Rattle.schedule.specs.declared.replays.verdict.Verdict.{Verdict}
use Rattle.schedule.specs.declared.replays.verdict.Verdict.TheVariants.{Fine, Against}

-- the number of a fault, from 1 to 11. The last four are of what texts promise beside, and no judge's
abbrev pub number_of_fault : Fault → ℕ
number_of_fault OutOfPlace = 1
number_of_fault TwoInside = 2
number_of_fault NotReentered = 3
number_of_fault (Overtaken by of) = 4
number_of_fault NotInside = 5
number_of_fault MailOrder = 6
number_of_fault AfterClose = 7
number_of_fault LongExit = 8
number_of_fault LongRecovery = 9
number_of_fault LongDoorway = 10
number_of_fault BrokenClaim = 11

-- the verdict where deed k is refused, or the rest after it
abbrev pub verdict_at : ℕ → Result State Fault → (State → Verdict) → Verdict
verdict_at k (Ok s) rest = rest s
verdict_at k (Err fault) rest = Against k fault

-- the verdict on deeds, from a state of the judge table on. The first has number k; numbers stop at the greatest u64
abbrev pub verdict_from : ℕ → State → List Deed → Verdict
verdict_from k s [] = Fine
verdict_from k s (d ∷ ds) = verdict_at k (state_after_deed s d) (λ t. verdict_from (one_more k) t ds)

-- the verdict on all deeds of a run
abbrev pub verdict_on : State → List Deed → Verdict
verdict_on s ds = verdict_from 1 s ds
