-- What the program does with files, and when it writes to standard error.
use Rattle.std.specs.Prelude.{◌≡◌, ◌≤◌, ◌⊎◌, ℕ, ◌+◌, ◌-◌, ◌^◌, min, List, ◌++◌, [], true, false, String, string_bytes, Vec, Option, None, is_some, option_to_list, Result, Ok, Err, IfOk, OnOk}
use Rattle.std.specs.declared.alloc.Global.{Global}
use Rattle.command_parts.specs.declared.fault.CommandFault.TheVariants.{BadVariant, BadSize, Read, Write, OutOfMemory}
use Rattle.schedule.specs.Tapes.{Tape, Writes, Reading}
use Rattle.cli.specs.declared.arguments.args.Command.{Command}
use Rattle.cli.specs.declared.arguments.words.WordsFault.{WordsFault}
use Rattle.cli.specs.declared.arguments.words.WordsFault.TheVariants as words
use Rattle.commands.specs.Commands.{CommandEnds, SessionEndsOf}
use Rattle.command_parts.specs.Devices.{Devices, devices}
use Rattle.command_parts.specs.declared.ending.Ending.{Ending}
use Rattle.command_parts.specs.declared.fault.CommandFault.{CommandFault}
use Rattle.command_parts.specs.Endings.{IsEnded}
pub use Rattle.command_parts.specs.Folders.{Used, is_session}
use Rattle.cli.specs.FilesNamed.{image_of, input_of, save_of, start_of}
use Rattle.command_parts.specs.Lines.{fault_line, IsLineWritten}
use Rattle.cli.specs.Sizes.{IsInRanges}
use Rattle.cli.specs.ReadWords.{IsCommand, IsWordsRefusal, TakesWords, texts_of}
use Rattle.command_parts.specs.Statuses.{save_ended, status_ended}

-- ---- files

-- the image is opened, or what else the command starts from
abbrev pub opens_image : Command → List (String Global) → List (String Global)
opens_image command before = before ++ option_to_list (image_of command)

-- then the schedule that a session on an algorithm begins with
abbrev pub opens_start : Command → List (String Global) → List (String Global)
opens_start command before = opens_image command before ++ option_to_list (start_of command)

-- then the file to be read, and no other
abbrev pub opens_all : Command → List (String Global) → List (String Global)
opens_all command before = opens_start command before ++ option_to_list (input_of command)

-- if one can't be read, those after it aren't opened
abbrev pub OpensSome : Command → List (String Global) → List (String Global) → Type 0
OpensSome command before now = (now ≡ opens_all command before) ⊎ ((now ≡ opens_start command before) ⊎ (now ≡ opens_image command before))

-- the file for the last image is written, and no other
abbrev pub saves_all : Command → List (String Global) → List (String Global)
saves_all command before = before ++ option_to_list (save_of command)

-- these bytes are written to the file that the command names; without an image nothing is written
pub record SavesAll (command : Command) (before now : Used) (save : Option (Vec ℕ Global)) : Type 0 where
  pub names : now.saved ≡ saves_all command before.saved
  pub texts : now.texts ≡ before.texts ++ option_to_list save

-- nothing is written to any file
pub record SavesNone (before now : Used) : Type 0 where
  pub names : now.saved ≡ before.saved
  pub texts : now.texts ≡ before.texts

-- ---- what is read and written

-- the command ends like this, with the text of an image if the command names one
abbrev pub EndsBeside : Command → Reading → Reading → Tape → Tape → Result Ending CommandFault → Type 0
EndsBeside command old new before now end =
    (image : Option (List ℕ)) × (is_some image ≡ is_some (image_of command)) × CommandEnds command image old new before now end

-- a file that the command names can't be read, and nothing was written
pub record CantOpen (before now : Tape) (end : Result Ending CommandFault) : Type 0 where
  pub fault : (end ≡ Err Read) ⊎ (end ≡ Err OutOfMemory)
  pub unwritten : now ≡ before

-- nothing was read before
abbrev pub nothing_read : Reading
nothing_read = record { given = []; ended = false; failures = 0 }

-- on standard input. The image is read first
abbrev pub EndsOnInput : Command → Reading → Reading → Tape → Tape → Result Ending CommandFault → Type 0
EndsOnInput command old new before now end = CantOpen before now end × (new ≡ old) ⊎ EndsBeside command old new before now end

-- the contract on a file is the one on standard input
abbrev pub EndsOnFile : Command → Tape → Tape → Result Ending CommandFault → Type 0
EndsOnFile command before now end = CantOpen before now end ⊎ ((last : Reading) × EndsBeside command nothing_read last before now end)

-- a session on standard input, which begins where nothing was written to any file
abbrev pub SessionEndsIn : Command → Devices → Devices → Result Ending CommandFault → Type 0
SessionEndsIn command before now end =
    CantOpen before.output now.output end × (now.input ≡ before.input) × SavesNone before.files now.files
    ⊎ ((image : Option (List ℕ)) × (is_some image ≡ is_some (image_of command)) × (start : Option (List ℕ)) × (is_some start ≡ is_some (start_of command))
    × (first : Used) × SavesNone before.files first × SessionEndsOf command image start (devices before.input first before.output) now end)

-- without a fault, no write and no flush has failed
abbrev pub IsFullyWritten : Tape → Tape → Result Ending CommandFault → Type 0
IsFullyWritten before now (Ok ending) = (ending.status ≤ 1) × (now.failures ≡ before.failures)
IsFullyWritten before now (Err fault) = Unit {0}

-- ---- the end of a command: its output is flushed, then its image is saved

-- the output could not be flushed: that is the fault, and nothing is saved
pub record CantFlush (before now : Used) (output written : Tape) (end : Result Ending CommandFault) : Type 0 where
  pub taken : written.taken ≡ output.taken
  pub failed : written.failures ≡ min (output.failures + 1) (2 ^ 64 - 1)
  pub fault : end ≡ Err Write
  pub unsaved : SavesNone before now

-- the command has a fault, and nothing is saved
pub record KeepsFault (before now : Used) (ended end : Result Ending CommandFault) : Type 0 where
  pub fault : CommandFault
  pub is : ended ≡ Err fault
  pub same : end ≡ Err fault
  pub unsaved : SavesNone before now

-- the image that is to be saved was saved, or that has failed
pub record SavesImage (command : Command) (before now : Used) (ended end : Result Ending CommandFault) : Type 0 where
  pub ending : Ending
  pub is : ended ≡ Ok ending
  pub saves : SavesAll command before now ending.save
  pub ends : (end ≡ Ok ending) ⊎ (is_some (save_of command) ≡ true) × ((end ≡ Err Write) ⊎ (end ≡ Err OutOfMemory))

abbrev pub Finishes : Command → Used → Used → Tape → Tape → Result Ending CommandFault → Result Ending CommandFault → Type 0
Finishes command before now output written ended end =
    CantFlush before now output written end
    ⊎ (written ≡ output) × (KeepsFault before now ended end ⊎ SavesImage command before now ended end)

-- what is done for a command: standard input is read if and only if no file is named
pub record ExecutesCommand (command : Command) (before now : Devices) (end : Result Ending CommandFault) : Type 0 where
  -- how it ended before its output was flushed, and what was kept and written by then
  pub used : Used
  pub output : Tape
  pub ended : Result Ending CommandFault
  pub opens_all : OnOk end (now.files.opened ≡ opens_all command before.files.opened)
  pub opens_some : OpensSome command before.files.opened now.files.opened
  pub unsaved : is_session command ≡ false → SavesNone before.files used
  pub session : is_session command ≡ true → SessionEndsIn command before (devices now.input used output) ended
  pub whole : IsFullyWritten before.output now.output end
  pub apart : is_some (input_of command) ≡ true → now.input ≡ before.input
  pub on_input : input_of command ≡ None → EndsOnInput command before.input now.input before.output output ended
  pub on_file : is_some (input_of command) ≡ true → EndsOnFile command before.output output ended
  pub finishes : Finishes command used now.files output now.output ended end

-- the line of a fault, or nothing
abbrev pub WritesFault : Tape → Tape → Result Ending CommandFault → Type 0
WritesFault said says (Ok ending) = says ≡ said
WritesFault said says (Err fault) = IsLineWritten said says (fault_line fault)

-- the line of a fault is written if there is one, and the status is that of the result
pub record EndsWithStatus (said says : Tape) (end : Result Ending CommandFault) (status : ℕ) : Type 0 where
  pub status_is : status ≡ status_ended end
  pub tells : WritesFault said says end

-- a command is carried out over a reader and a writer
pub record CarriesOut (command : Command) (image : Option (List ℕ)) (old new : Reading) (before now : Tape) (end : Result Ending CommandFault) : Type 0 where
  pub ends : CommandEnds command image old new before now end
  pub ended : IfOk end (IsEnded (is_some (save_of command)) before.failures now.failures)

-- its fault is reported. What is to be saved is the save of its end
pub record IsReported (said says : Tape) (end : Result Ending CommandFault) (ending : Ending) : Type 0 where
  pub closes : EndsWithStatus said says end ending.status
  pub save_is : ending.save ≡ save_ended end

-- a command is carried out, and its fault reported
abbrev pub Obeys : Command → Devices → Devices → Tape → Tape → ℕ → Type 0
Obeys command before now said says status =
    (end : Result Ending CommandFault) × ExecutesCommand command before now end × EndsWithStatus said says end status

-- ---- words that are no command

-- the help is printed, or the fault that it can't be is written
abbrev pub PrintsHelp : List ℕ → Tape → Tape → Tape → Tape → ℕ → Type 0
PrintsHelp text blank written said says status =
    (Writes blank written text × (says ≡ said) × (status ≡ 0)) ⊎ (IsLineWritten said says (fault_line Write) × (status ≡ 3))

-- the error text for the words is written
abbrev pub PrintsUsageError : List ℕ → Tape → Tape → ℕ → Type 0
PrintsUsageError text said says status = IsLineWritten said says text × (status ≡ 2)

-- what is reported for words that are no command
abbrev pub ReportsWordsFault : WordsFault → Tape → Tape → Tape → Tape → ℕ → Type 0
ReportsWordsFault (words.Help text) blank written said says status = PrintsHelp (string_bytes text) blank written said says status
ReportsWordsFault (words.Refused text) blank written said says status = PrintsUsageError (string_bytes text) said says status
ReportsWordsFault words.Unreadable blank written said says status = (text : List ℕ) × PrintsUsageError text said says status
ReportsWordsFault words.BadVariant blank written said says status = IsLineWritten said says (fault_line BadVariant) × (status ≡ 2)
ReportsWordsFault words.BadSize blank written said says status = IsLineWritten said says (fault_line BadSize) × (status ≡ 2)
ReportsWordsFault words.OutOfMemory blank written said says status = IsLineWritten said says (fault_line OutOfMemory) × (status ≡ 3)

-- the words of a command line, or why they can't be read
abbrev pub GivenWords : Type 0
GivenWords = Result (Vec (String Global) Global) WordsFault

-- the words spell this command
abbrev pub IsCommandAsked : GivenWords → Command → Type 0
IsCommandAsked (Ok words) command = TakesWords (texts_of words.items) (λ name given. IsCommand name given command) × IsInRanges command
IsCommandAsked (Err fault) command = ⊥

-- why the words spell no command
abbrev pub IsUnasked : GivenWords → WordsFault → Type 0
IsUnasked (Ok words) fault = IsWordsRefusal (texts_of words.items) fault
IsUnasked (Err nothing_read) fault = fault ≡ nothing_read

-- the command that the words spell is carried out, or only the fault of the words is reported
abbrev pub IsProgram : GivenWords → Devices → Devices → Tape → Tape → ℕ → Type 0
IsProgram words before now said says status =
    ((command : Command) × IsCommandAsked words command × Obeys command before now said says status)
    ⊎ ((fault : WordsFault) × IsUnasked words fault × ReportsWordsFault fault before.output now.output said says status
    × (now.files ≡ before.files) × (now.input ≡ before.input))

-- ---- a process

-- the program over the input and the outputs of a process, of which nothing was read before
pub record RunsWords (words : GivenWords) (before now : Used) (status : ℕ) : Type 0 where
  pub new : Reading
  pub blank : Tape
  pub written : Tape
  pub said : Tape
  pub says : Tape
  pub is : IsProgram words (devices nothing_read before blank) (devices new now written) said says status

-- the output has no buffer: only that is reported
pub record CantBuffer (before now : Used) (status : ℕ) : Type 0 where
  pub same : now ≡ before
  pub status_is : status ≡ 3
  pub said : Tape
  pub says : Tape
  pub reports : IsLineWritten said says (fault_line OutOfMemory)
