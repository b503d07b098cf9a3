-- A member at work: its view, the own steps of its call, and one step of its machine.
use Rattle.std.specs.Prelude.{◌≡◌, ℕ, true, Option, Some, None, IsSome}
use Rattle.rmecore.specs.Simulated.{one_more}
use Rattle.rmecore.specs.Machine.{kind_of, word_of, carried_value}
use Rattle.rmecore.specs.declared.access.Access.{Access}
use Rattle.rmeworld.specs.declared.call.Call.{Call}
use Rattle.rmeworld.specs.declared.outcome.Outcome.{Outcome}
use Rattle.rmeworld.specs.Answered.{answer_at}
use Rattle.rmeworld.specs.MachineState.{MachineState, process_state_of as standing_at, access_by, progress_by}
use Rattle.table_runs.specs.SeatView.{SeatView, process_state_now, moved_process_state, CarriesPending}

-- what contracts see of a member: its view, and the number of own steps of its last call
pub record Seated : Type 0 where
  pub seat_view : SeatView
  pub steps : ℕ

-- the machine's state is the one that follows from the view
pub record IsRunBy (x : SeatView) (s : MachineState) : Type 0 where
  pub layout : s.layout ≡ x.setup.layout
  pub limit : s.limit ≡ x.setup.limit
  pub index : s.index ≡ x.by
  pub process_state : standing_at s ≡ process_state_now x

-- the next step
abbrev pub next_of : SeatView → Option Access
next_of x = access_by x.setup.limit x.by (process_state_now x).lock (process_state_now x).script_state

-- what a step means for others and for its call
abbrev pub outcome_of : SeatView → Access → ℕ → Outcome
outcome_of x a v = record { progress = progress_by x.by (process_state_now x) a v; answer = answer_at (process_state_now x) (kind_of a) (carried_value a v) }

-- one step of the machine, as one load or store of the table
pub record TakesStep (x : Seated) (outcome : Outcome) (y : Seated) : Type 0 where
  pub access : Access
  pub value : ℕ
  pub next : next_of x.seat_view ≡ Some access
  pub may : IsSome (moved_process_state x.seat_view (kind_of access) (word_of access) (carried_value access value))
  pub advances : CarriesPending x.seat_view (kind_of access) (word_of access) (carried_value access value) y.seat_view
  pub reports : outcome ≡ outcome_of x.seat_view access value
  pub steps : y.steps ≡ one_more x.steps

-- after a crash
abbrev pub fell : Seated → Seated
fell x = record x { seat_view = record x.seat_view { fallen = true; start = None } }

-- after the start of a call that follows another one in the same whole call: its steps are counted on
abbrev pub after_further_start : Seated → Call → Seated
after_further_start x call = record x { seat_view = record x.seat_view { start = Some call } }

-- after the start of a call
abbrev pub began : Seated → Call → Seated
began x call = record { seat_view = record x.seat_view { start = Some call }; steps = 0 }
