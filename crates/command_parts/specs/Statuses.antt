-- Exit statuses: 0 is fine, 1 a verdict against, 2 a fault of the input, 3 a fault of a device, of memory or of a member, or
-- too many states in a search.
use Rattle.std.specs.Prelude.{ℕ, Vec, Option, Some, None, Result, Ok, Err}
use Rattle.std.specs.declared.alloc.Global.{Global}
use Rattle.schedule.specs.declared.texts.fault.TextFault.{TextFault}
use Rattle.schedule.specs.declared.texts.fault.TextFault.TheVariants as of_text
use Rattle.schedule.specs.declared.replays.replay_fault.ReplayFault.{ReplayFault}
use Rattle.schedule.specs.declared.replays.replay_fault.ReplayFault.TheVariants as of_replay
use Rattle.schedule.specs.declared.replays.verdict.Verdict.{Verdict}
use Rattle.schedule.specs.declared.replays.verdict.Verdict.TheVariants.{Fine, Against}
use Rattle.rmecore.specs.declared.refusal.Refusal.{Refusal}
use Rattle.rmecore.specs.declared.refusal.Refusal.TheVariants.{BadImage}
use Rattle.command_parts.specs.declared.fault.CommandFault.TheVariants.{Text, Refused, Image, Read, Write, OutOfMemory, Member, TooManyStates}
use Rattle.command_parts.specs.Endings.{CommandFault, Ending}

-- 3 for a fault of a device, of memory or of a member, and for too many states in a search; 2 for one of the input
abbrev pub status_of : CommandFault → ℕ
status_of Read = 3
status_of Write = 3
status_of OutOfMemory = 3
status_of (Member p) = 3
status_of TooManyStates = 3
status_of _ = 2

-- the exit status after a verdict
abbrev pub status_after : Verdict → ℕ
status_after Fine = 0
status_after (Against at fault) = 1

-- the program's fault for a fault of a replay, or of the judging of a trace
abbrev pub fault_of_replay : ReplayFault → CommandFault
fault_of_replay (of_replay.Text line number) = Text line number
fault_of_replay (of_replay.Refused line number) = Refused line number
fault_of_replay of_replay.Read = Read
fault_of_replay of_replay.Write = Write
fault_of_replay of_replay.OutOfMemory = OutOfMemory

-- the fault of a replay whose report goes to a page in memory first: the page refuses a write only when it is out of memory
abbrev pub fault_in_memory : ReplayFault → ReplayFault
fault_in_memory of_replay.Write = of_replay.OutOfMemory
fault_in_memory fault = fault

-- the program's fault for it
abbrev pub fault_on_page : ReplayFault → CommandFault
fault_on_page of_replay.Write = OutOfMemory
fault_on_page fault = fault_of_replay fault

-- the fault for the refusal of a header, by the refusal's number: it names line 1
abbrev pub fault_of_header : Option ℕ → CommandFault
fault_of_header None = OutOfMemory
fault_of_header (Some number) = Refused 1 number

-- the fault for the refusal of an image's text
abbrev pub fault_of_image : Refusal → CommandFault
fault_of_image (BadImage rule) = Image rule
fault_of_image _ = OutOfMemory

-- the fault for the fault of a text
abbrev pub fault_of_text : TextFault → CommandFault
fault_of_text (of_text.At line number) = Text line number
fault_of_text of_text.OutOfMemory = OutOfMemory

-- the exit status of a command with this result
abbrev pub status_ended : Result Ending CommandFault → ℕ
status_ended (Ok ending) = ending.status
status_ended (Err fault) = status_of fault

-- the image to be saved. After a fault there is none
abbrev pub save_ended : Result Ending CommandFault → Option (Vec ℕ Global)
save_ended (Ok ending) = ending.save
save_ended (Err fault) = None

-- the program's result for the result of a replay
abbrev pub answer_of_replay : Result Verdict ReplayFault → Result Verdict CommandFault
answer_of_replay (Ok verdict) = Ok verdict
answer_of_replay (Err fault) = Err (fault_of_replay fault)

-- the exit status, or the fault
abbrev pub outcome : Result Ending CommandFault → Result ℕ CommandFault
outcome (Ok ending) = Ok ending.status
outcome (Err fault) = Err fault

-- the exit status, or the fault, of a replay or of the judging of a trace
abbrev pub replay_status : Result Verdict ReplayFault → Result ℕ CommandFault
replay_status (Ok verdict) = Ok (status_after verdict)
replay_status (Err fault) = Err (fault_of_replay fault)
