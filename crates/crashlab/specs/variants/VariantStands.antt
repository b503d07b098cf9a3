-- The machine state of one process of a variant, and what its machine does next: that of the world's process, with what the
-- variant changes.
use Rattle.std.specs.Prelude.{◌≡◌, ℕ, zero, suc, Bool, true, false, ◌||◌, ◌==◌, if◌then◌else◌, [], ◌∷◌, Option, Some, None}
use Rattle.rmecore.specs.Place.{Place, Reread, Door, Wait, Unmarking, without, others, is_before}
use Rattle.rmecore.specs.Machine.{kind_of}
use Rattle.rmecore.specs.declared.access.Access.{Access}
use Rattle.rmecore.specs.declared.access.Access.TheVariants.{Load, Store}
use Rattle.rmecore.specs.declared.core_call.CoreCall.TheVariants as core
use Rattle.rmecore.specs.declared.kind.Kind.{Kind}
use Rattle.rmecore.specs.declared.kind.Kind.TheVariants.{Take as Takes, Shut as Shuts, Look as Looks, Weigh as Weighs, Drop as Drops, Get as Gets, Put as Puts}
use Rattle.rmecore.specs.declared.word.Word.TheVariants.{Choosing as ChoosingOf, Number as NumberOf, Data as DataAt}
use Rattle.redomail.specs.declared.layout.Layout.{Layout}
use Rattle.redomail.specs.declared.reply.Reply.{Reply}
use Rattle.redomail.specs.Layout.{last_at}
use Rattle.redomail.specs.Script.{Script, Put as Writes}
use Rattle.rmeworld.specs.declared.answer.Answer.{Answer}
use Rattle.rmeworld.specs.declared.call.Call.{Call}
use Rattle.rmeworld.specs.declared.call.Call.TheVariants as call
use Rattle.rmeworld.specs.declared.script_state.ScriptState.{ScriptState as Chore}
use Rattle.rmeworld.specs.declared.script_state.ScriptState.TheVariants.{Free as IsFree}
use Rattle.rmeworld.specs.declared.outcome.Outcome.{Outcome}
use Rattle.rmeworld.specs.declared.purpose.Purpose.TheVariants.{Mending}
use Rattle.rmeworld.specs.ProcessState.{ScriptState, Doing}
use Rattle.rmeworld.specs.MachineState.{MachineState, resting, machine_after_crash, next_access, outcome, machine_after_step, machine_after_start}
use Rattle.rmeworld.specs.ScriptStates.{script_state_of}
use Rattle.crashlab.specs.declared.variants.change.Change.{Change}
use Rattle.crashlab.specs.declared.variants.change.Change.TheVariants.{Nothing, LeavesOut, Counts, Counted}
use Rattle.crashlab.specs.declared.variants.deviation.Deviation.{Deviation}
use Rattle.crashlab.specs.declared.variants.deviation.Deviation.TheVariants.{Straight, Dropping, Over}
use Rattle.crashlab.specs.declared.variants.variant.Variant.{Variant}
use Rattle.crashlab.specs.declared.variants.variant.Variant.TheVariants.{Right, NoLook, NoTies, Renumber, ExitOnCrash, CountUp, LastSkipped}
use Rattle.crashlab.specs.variants.Variants.{lock_or_recover}
use Rattle.crashlab.specs.variants.VariantScripts.{leaving_out, raised_count, counting_up}
use Rattle.crashlab.specs.variants.VariantProcessStates.{VariantProcessState}

-- the machine state of one process of a variant
pub record VariantMachineState : Type 0 where
  pub variant : Variant
  -- the world's process, which goes by the lock's rows
  pub machine_state : MachineState
  pub deviation : Deviation
  pub change : Change

-- a process of Right, with nothing changed
pub record IsRightProcess (s : VariantMachineState) : Type 0 where
  pub variant : s.variant ≡ Right
  pub deviation : s.deviation ≡ Straight
  pub change : s.change ≡ Nothing

-- a process at rest
abbrev pub variant_resting : Variant → Layout → ℕ → ℕ → VariantMachineState
variant_resting variant l limit p = record { variant = variant; machine_state = resting l limit p; deviation = Straight; change = Nothing }

-- a process after a crash
abbrev pub variant_crashed : VariantMachineState → VariantMachineState
variant_crashed s = record { variant = s.variant; machine_state = machine_after_crash s.machine_state; deviation = Straight; change = Nothing }

-- the process state, as the variant's definition has it

-- what is left of a repair's script, with this change
abbrev pub changed_script : Change → Layout → ℕ → Script Reply → Script Reply
changed_script Nothing l p script = script
changed_script LeavesOut l p script = leaving_out (last_at l p) script
changed_script Counts l p script = counting_up l.cap script
changed_script (Counted v) l p (Writes i x rest) = Writes i v rest
changed_script (Counted v) l p script = script

-- the script state with this change of a repair
abbrev pub changed_script_state : Change → Layout → ℕ → ScriptState → ScriptState
changed_script_state change l p (Doing Mending left) = Doing Mending (changed_script change l p left)
changed_script_state change l p script_state = script_state

-- the process state that a machine state has
abbrev pub variant_process_state_of : VariantMachineState → VariantProcessState
variant_process_state_of s =
    record {
      process_state = record { lock = s.machine_state.lock; mended = s.machine_state.mended; barred = s.machine_state.barred; script_state = changed_script_state s.change s.machine_state.layout s.machine_state.index (script_state_of s.machine_state.script_state) };
      deviation = s.deviation;
    }

-- The machine itself, exactly.

-- the next step
abbrev pub changed_access : Change → Option Access → Option Access
changed_access Counts (Some (Store Puts (DataAt i) v)) = if i == 2 then Some (Load Gets (DataAt 2)) else Some (Store Puts (DataAt i) v)
changed_access (Counted count) (Some (Store Puts (DataAt i) v)) = if i == 2 then Some (Store Puts (DataAt 2) count) else Some (Store Puts (DataAt i) v)
changed_access _ a = a

-- no look: a weigh, where the lock would look
abbrev pub weigh_for_look : Option Access → Option Access
weigh_for_look (Some (Load Looks (ChoosingOf j))) = Some (Load Weighs (NumberOf j))
weigh_for_look a = a

-- exit on crash: a drop, outside any script
abbrev pub dropping_access : MachineState → Chore → Option Access
dropping_access s IsFree = Some (Store Drops (NumberOf s.index) 0)
dropping_access s _ = next_access s

-- the next step of a process of this variant
abbrev pub access_beside : Variant → Deviation → Change → MachineState → Option Access
access_beside NoLook d change s = weigh_for_look (next_access s)
access_beside ExitOnCrash Dropping change s = dropping_access s s.script_state
access_beside CountUp d change s = changed_access change (next_access s)
access_beside _ d change s = next_access s

-- the next step
abbrev pub variant_next_access : VariantMachineState → Option Access
variant_next_access s = access_beside s.variant s.deviation s.change s.machine_state

-- The rows that are changed of the lock's part: where the next step leads, and with which variant state.

-- no look: a weigh in place of a look, which passes or stays
abbrev pub weighing_row : ℕ → Place → Option Access → ℕ → Option (Place × Deviation)
weighing_row p (Wait k unpassed looked) (Some (Load Looks (ChoosingOf j))) v = Some (if (v == 0) || is_before k p v j then Wait k (without j unpassed) None else Wait k unpassed looked, Straight)
weighing_row p place a v = None

-- no ties: a weigh of an equal number passes
abbrev pub tied_row : Place → Option Access → ℕ → Option (Place × Deviation)
tied_row (Wait k unpassed looked) (Some (Load Weighs (NumberOf j))) v = if k == v then Some (Wait k (without j unpassed) None, Straight) else None
tied_row place a v = None

-- renumber: a lock whose third reread finds a number taken in the doorway scans again
abbrev pub taken_row : ℕ → ℕ → Place → Option (Place × Deviation)
taken_row n p (Reread core.Lock (suc c ∷ suc k ∷ [])) = Some (Door (others n p) 0, Over (suc k))
taken_row n p place = None

-- exit on crash: a process that the third reread finds inside drops its number, and goes on as if it was found leaving
abbrev pub inside_row : Place → ℕ → Option (Place × Deviation)
inside_row (Reread call (zero ∷ suc k ∷ [])) (suc i) = Some (Unmarking (lock_or_recover call), Dropping)
inside_row place v = None

-- the changed row that the next step is by, if there is one
abbrev pub changed_row : Variant → MachineState → ℕ → Option (Place × Deviation)
changed_row NoLook s v = weighing_row s.index s.lock (next_access s) v
changed_row NoTies s v = tied_row s.lock (next_access s) v
changed_row Renumber s v = taken_row s.layout.procs s.index s.lock
changed_row ExitOnCrash s v = inside_row s.lock v
changed_row _ s v = None

-- outside the section, with nothing to mend
abbrev pub outside_at : MachineState → Place → MachineState
outside_at s t = record s { lock = t; mended = true; barred = false; script_state = IsFree }

-- a process that goes where a changed row leads
abbrev pub process_led_to : VariantMachineState → Place → Deviation → VariantMachineState
process_led_to s t Straight = record s { machine_state = record s.machine_state { lock = t } }
process_led_to s t d = record s { machine_state = outside_at s.machine_state t; deviation = d }

-- a process after a step by a changed row, or else by the lock's
abbrev pub by_row : VariantMachineState → Option (Place × Deviation) → ℕ → VariantMachineState
by_row s None v = record s { machine_state = machine_after_step s.machine_state v }
by_row s (Some to) v = process_led_to s to.0 to.1

-- a step of the lock with a variant state, which stays outside
abbrev pub beside_way : VariantMachineState → Deviation → ℕ → VariantMachineState
beside_way s d v = record s { machine_state = outside_at (machine_after_step s.machine_state v) (machine_after_step s.machine_state v).lock; deviation = d }

-- renumber: a scan that finds no number left waits with the number that it keeps. A take ends the variant state
abbrev pub over_by : VariantMachineState → ℕ → Kind → ℕ → VariantMachineState
over_by s k Shuts v = record s { machine_state = outside_at s.machine_state (Wait k (others s.machine_state.layout.procs s.machine_state.index) None); deviation = Straight }
over_by s k Takes v = beside_way s Straight v
over_by s k kind v = beside_way s (Over k) v

-- the same for a step that there may not be
abbrev pub over_way : VariantMachineState → ℕ → Option Access → ℕ → VariantMachineState
over_way s k None v = s
over_way s k (Some a) v = over_by s k (kind_of a) v

-- a step of the lock's part. A process that drops its number stays where it is
abbrev pub lock_beside : Deviation → VariantMachineState → ℕ → VariantMachineState
lock_beside Straight s v = by_row s (changed_row s.variant s.machine_state v) v
lock_beside (Over k) s v = over_way s k (next_access s.machine_state) v
lock_beside Dropping s v = record s { machine_state = outside_at s.machine_state s.machine_state.lock; deviation = Straight }

-- a step of a script is the world's
abbrev pub part_beside : Chore → Deviation → VariantMachineState → ℕ → VariantMachineState
part_beside IsFree d s v = lock_beside d s v
part_beside _ d s v = record s { machine_state = machine_after_step s.machine_state v }

-- a repair that is changed, until the change is made or the call is answered
abbrev pub is_put : ℕ → Option Access → Bool
is_put j (Some (Store Puts (DataAt i) v)) = i == j
is_put j _ = false

-- the change, until the call is answered
abbrev pub unless_answered : Option Answer → Change → Change
unless_answered None change = change
unless_answered (Some answer) change = Nothing

-- the lock's step, which keeps the change until the answer
abbrev pub going_on : VariantMachineState → Change → ℕ → VariantMachineState
going_on s change v = record s { machine_state = machine_after_step s.machine_state v; change = unless_answered (outcome s.machine_state (next_access s.machine_state) v).answer change }

-- count up: the get of count, or the lock's step
abbrev pub counted_up : VariantMachineState → Change → ℕ → VariantMachineState
counted_up s Counts v =
    if is_put 2 (next_access s.machine_state) then record s { change = Counted (raised_count s.machine_state.layout.cap v) } else going_on s Counts v
counted_up s _ v = going_on s Nothing v

-- the put of the sender's last number is the next step
abbrev pub last_put_next : MachineState → Bool
last_put_next s = is_put (last_at s.layout s.index) (next_access s)

-- last skipped: a step that also passes over that put, or the lock's step
abbrev pub left_out : VariantMachineState → Change → ℕ → VariantMachineState
left_out s LeavesOut v =
    if last_put_next (machine_after_step s.machine_state v) then record s { machine_state = machine_after_step (machine_after_step s.machine_state v) 0; change = Nothing } else going_on s LeavesOut v
left_out s change v = going_on s Nothing v

-- after the next step, with the value that it read
abbrev pub stepped_beside : Variant → Deviation → VariantMachineState → ℕ → VariantMachineState
stepped_beside Right d s v = record s { machine_state = machine_after_step s.machine_state v }
stepped_beside CountUp d s v = counted_up s s.change v
stepped_beside LastSkipped d s v = left_out s s.change v
stepped_beside _ d s v = part_beside s.machine_state.script_state d s v

-- the process after its next step, with the value that it read
abbrev pub variant_stepped : VariantMachineState → ℕ → VariantMachineState
variant_stepped s v = stepped_beside s.variant s.deviation s v

-- the outcome of a step, for others and for its call
abbrev pub silent_outcome : Outcome
silent_outcome = record { progress = record { outer = None; done = None; blocked = false }; answer = None }

-- the outcome of the lock's step
abbrev pub plain_outcome : MachineState → ℕ → Outcome
plain_outcome s v = outcome s (next_access s) v

-- count up: the get of count is silent
abbrev pub counting_outcome : VariantMachineState → Change → ℕ → Outcome
counting_outcome s Counts v = if is_put 2 (next_access s.machine_state) then silent_outcome else plain_outcome s.machine_state v
counting_outcome s _ v = plain_outcome s.machine_state v

-- last skipped: the outcome of a step that passes over the put is that of the put
abbrev pub leaving_outcome : VariantMachineState → Change → ℕ → Outcome
leaving_outcome s LeavesOut v = if last_put_next (machine_after_step s.machine_state v) then plain_outcome (machine_after_step s.machine_state v) 0 else plain_outcome s.machine_state v
leaving_outcome s _ v = plain_outcome s.machine_state v

-- a step by a changed row is silent, and so is one with a variant state
abbrev pub unless_changed : Option (Place × Deviation) → Outcome → Outcome
unless_changed None reports = reports
unless_changed (Some to) reports = silent_outcome

-- the outcome of a step of the lock's part
abbrev pub lock_outcome : Deviation → VariantMachineState → ℕ → Outcome
lock_outcome Straight s v = unless_changed (changed_row s.variant s.machine_state v) (plain_outcome s.machine_state v)
lock_outcome _ s v = silent_outcome

-- the outcome of a step of the lock's part, or of a script
abbrev pub part_outcome : Chore → Deviation → VariantMachineState → ℕ → Outcome
part_outcome IsFree d s v = lock_outcome d s v
part_outcome _ d s v = plain_outcome s.machine_state v

-- the outcome of a step of a process of this variant
abbrev pub outcome_beside : Variant → Deviation → VariantMachineState → ℕ → Outcome
outcome_beside Right d s v = plain_outcome s.machine_state v
outcome_beside CountUp d s v = counting_outcome s s.change v
outcome_beside LastSkipped d s v = leaving_outcome s s.change v
outcome_beside _ d s v = part_outcome s.machine_state.script_state d s v

-- the outcome of the next step, with the value that it read
abbrev pub variant_outcome : VariantMachineState → ℕ → Outcome
variant_outcome s v = outcome_beside s.variant s.deviation s v

-- after a start that is not refused
abbrev pub repair_change : Variant → Change
repair_change CountUp = Counts
repair_change LastSkipped = LeavesOut
repair_change _ = Nothing

-- the change that a call starts with
abbrev pub change_of : Variant → Call → Change
change_of variant call.Consistent = repair_change variant
change_of variant _ = Nothing

-- the process after a start
abbrev pub variant_started : VariantMachineState → Call → VariantMachineState
variant_started s call = record s { machine_state = machine_after_start s.machine_state call; change = change_of s.variant call }
