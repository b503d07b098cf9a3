-- A world's counts agree with the table of own steps: the table's number plus the blocked steps.
use Rattle.std.specs.Prelude.{◌≡◌, ℕ, ◌+◌, ◌<◌, List, Some}
use Rattle.rmecore.specs.Simulated.{tally_at}
use Rattle.rmecore.specs.Tallied.{IsExact, IsRereading}
use Rattle.rmecore.specs.declared.own.Own.{Own}
use Rattle.rmecore.specs.declared.tally.Tally.{Tally}
use Rattle.redomail.specs.declared.layout.Layout.{Layout}
use Rattle.rmeworld.specs.OwnSteps.{own_steps}
use Rattle.rmeworld.specs.Paid.{PaysAt}
use Rattle.rmeworld.specs.ProcessState.{ProcessState}
use Rattle.rmeworld.specs.UnderWay.{call_at}
use Rattle.rmeworld.specs.World.{GlobalState}
use Rattle.rmeworld.specs.declared.answer.Answer.{Answer}
use Rattle.rmeworld.specs.declared.call.Call.{Call}

-- a call that ended with this answer, by a step from this process state, took exactly the table's steps and the blocked ones
abbrev pub HasTaken : Layout → ProcessState → Tally → Answer → Type 0
HasTaken l process_state t a =
    (call : Call) × (call_at process_state ≡ Some call) × ((x : ℕ) × (own_steps l t.began process_state.mended call a ≡ Some x) × (t.steps ≡ x + t.blocked))

-- a call under way in this process state has taken exactly the steps before it and the blocked ones
abbrev pub IsTaking : Layout → ProcessState → Tally → Type 0
IsTaking l process_state t = (x : ℕ) × PaysAt l t.began process_state x × (t.steps ≡ x + t.blocked)

-- the invariant of a process's counts, with these words in this process state
pub record IsTallied (l : Layout) (own : Own) (process_state : ProcessState) (t : Tally) : Type 0 where
  pub began : IsRereading process_state.lock → t.began ≡ own
  pub taking : IsExact t → IsTaking l process_state t

-- the invariant of the counts of all processes
abbrev pub AllTallied : Layout → GlobalState → List Tally → Type 0
AllTallied l w tallies = (p : ℕ) → p < l.procs → IsTallied l (w.words p) (w.process_states p) (tally_at tallies p)
