-- How a session begins.
use Rattle.std.proofs.Common.{◌≡◌, ◌⊎◌, ℕ, List, sym, subst, ap, Option, Result, Ok, Err, Some, None, refl, inl, inr}
use Rattle.schedule.specs.declared.replays.replay_fault.ReplayFault.{ReplayFault}
use Rattle.schedule.specs.Schedules.{Scheduled, schedule_at}
use Rattle.schedule.specs.Tapes.{Reading, Tape, Writes}
use Rattle.command_parts.specs.declared.fault.CommandFault.TheVariants.{OutOfMemory}
use Rattle.command_parts.specs.Conversations.{BeginsWith, CantBegin, HasNoSchedule, HeldSessionEnds, HoldsSession, OpensSession, SessionEnds, SessionMachine}
use Rattle.command_parts.specs.Devices.{Devices, devices}
use Rattle.command_parts.specs.Endings.{CommandFault, Ending, FailsIn, FailsToRead}
use Rattle.command_parts.specs.Folders.{Used}
use Rattle.command_parts.specs.ScheduleTexts.{IsNoSchedule}
use Rattle.command_parts.specs.Statuses.{fault_of_replay}
use Rattle.diagram.specs.Semantics.{Semantics}
use Rattle.diagram.specs.Sessions.{SessionState, standing_text}

-- memory has run out, and no read has failed
no_memory : (start : Option (List ℕ)) (old now : Reading) (buffer text : List ℕ) (fault : CommandFault) → BeginsWith start old now buffer text
    → fault ≡ OutOfMemory → FailsToRead old now fault
no_memory (Some given) old now buffer text fault begins is =
    subst (λ (f : CommandFault). FailsToRead old now f) (sym is) (ap (λ (r : Reading). r.failures) begins.0)
no_memory None old now buffer text fault begins is = subst (λ (f : CommandFault). FailsToRead old now f) (sym is) begins.2

-- the text is no schedule
pub cant_read : (start : Option (List ℕ)) (old now : Reading) (buffer text : List ℕ) (fault : CommandFault) → BeginsWith start old now buffer text
    → (fault ≡ OutOfMemory) ⊎ IsNoSchedule text fault → FailsToRead old now fault ⊎ HasNoSchedule start old now fault
cant_read start old now buffer text fault begins (inl memory) = inl (no_memory start old now buffer text fault begins memory)
cant_read start old now buffer text fault begins (inr cant) = inr (text, buffer, begins, cant)

module _ {S : Type 0} (machine : SessionMachine S) where
  pub without_schedule : (start : Option (List ℕ)) (old now : Reading) (fault : CommandFault) → FailsToRead old now fault ⊎ HasNoSchedule start old now fault
      → FailsToRead old now fault ⊎ CantBegin machine start old now fault
  without_schedule start old now fault (inl fails) = inl fails
  without_schedule start old now fault (inr none) = inr (inl none)

  -- the machine refuses the schedule
  pub cant_play : (start : Option (List ℕ)) (old now : Reading) (buffer text : List ℕ) (schedule : Scheduled) (fault : CommandFault) → BeginsWith start old now buffer text
      → schedule_at text ≡ Ok schedule → (fault ≡ OutOfMemory) ⊎ machine.refuses schedule fault → FailsToRead old now fault ⊎ CantBegin machine start old now fault
  cant_play start old now buffer text schedule fault begins reads (inl memory) = inl (no_memory start old now buffer text fault begins memory)
  cant_play start old now buffer text schedule fault begins reads (inr cant) = inr (inr (buffer, schedule, (text, begins, reads), cant))

  -- a session that doesn't begin has written nothing
  pub not_begun : (start : Option (List ℕ)) (old now : Reading) (used : Used) (tape : Tape) (fault : CommandFault)
      → FailsToRead old now fault ⊎ CantBegin machine start old now fault
      → SessionEnds machine start (devices old used tape) (devices now used tape) (Err fault)
  not_begun start old now used tape fault why = inl (why, record { taken = refl; fine = refl }, refl)

  -- the state at its begin was not written
  pub cut_at_start : (start : Option (List ℕ)) (old opened : Reading) (used : Used) (blank written : Tape) (buffer : List ℕ) (schedule : Scheduled) (fault : CommandFault)
      → OpensSession start old opened buffer schedule → machine.accepts schedule
      → FailsIn (standing_text machine.semantics (machine.session schedule)) blank written fault
      → SessionEnds machine start (devices old used blank) (devices opened used written) (Err fault)
  cut_at_start start old opened used blank written buffer schedule fault opens accepted fails =
      inr (record { schedule = schedule; opened = opened; buffer = buffer; opens = opens; accepted = accepted; breaks = inl (refl, refl, fails) })

  -- it was held
  pub held_from : (start : Option (List ℕ)) (old opened : Reading) (used : Used) (blank : Tape) (now : Devices) (buffer : List ℕ) (schedule : Scheduled) (end : Result Ending CommandFault)
      → OpensSession start old opened buffer schedule → machine.accepts schedule
      → HeldSessionEnds machine.semantics (machine.session schedule) buffer (devices opened used blank) now end → SessionEnds machine start (devices old used blank) now end
  held_from start old opened used blank now buffer schedule (Ok ending) opens accepted ends = (
    ends.1,
    record {
      schedule = schedule;
      opened = opened;
      buffer = buffer;
      opens = opens;
      accepted = accepted;
      opening = ends.0;
      first = ends.2;
      holds = ends.3;
    },
  )
  held_from start old opened used blank now buffer schedule (Err fault) opens accepted breaks =
      inr (record { schedule = schedule; opened = opened; buffer = buffer; opens = opens; accepted = accepted; breaks = breaks })

-- a session has broken off after the state at its begin was written
pub broken_off : {S : Type 0} (b : Semantics S) (session : SessionState S) (buffer : List ℕ) (before now : Devices) (opening : Tape) (fault : ReplayFault)
    → Writes before.output opening (standing_text b session) → HoldsSession b session buffer (devices before.input before.files opening) now (Err fault)
    → HeldSessionEnds b session buffer before now (Err (fault_of_replay fault))
broken_off b session buffer before now opening fault wrote holds = inr (opening, wrote, (fault, refl, holds))
