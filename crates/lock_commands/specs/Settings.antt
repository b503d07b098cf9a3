-- Why a schedule isn't played: its header, or the image that it starts from. And the machine that a session on the lock plays.
use Rattle.std.specs.Prelude.{◌≡◌, ◌⊎◌, ℕ, ◌-◌, Bool, List, Option, Some, None, ◌≤◌, length}
use Rattle.command_parts.specs.Conversations.{SessionMachine}
use Rattle.schedule.specs.Schedules.{Scheduled}
use Rattle.command_parts.specs.Statuses.{fault_of_header, fault_of_image}
use Rattle.command_parts.specs.declared.fault.CommandFault.TheVariants.{Refused}
use Rattle.rmecore.specs.declared.refusal.Refusal.{Refusal}
use Rattle.rmecore.specs.Refused.{number_of}
use Rattle.schedule.specs.Wholes.{world_run, layout_of}
use Rattle.diagram.specs.LockSimulations.{LockSimulationState, lock_semantics, lock_session}
use Rattle.rmecore.specs.Simulated.{cause}
use Rattle.rmeworld.specs.declared.image.Image.{Image}
use Rattle.rmeworld.specs.ImageText.{Spells, version_of, IsUnread as IsNoImage}
use Rattle.rmeworld.specs.ImageWiden.{IsUnwidened, IsWider}
use Rattle.rmeworld.specs.WorldState.{new_refusal}
use Rattle.command_parts.specs.declared.fault.CommandFault.{CommandFault}

-- the image that a text spells. No text spells two images
abbrev pub IsImageOfText : List ℕ → Image → Type 0
IsImageOfText text image = (wide : Bool) × Spells text wide image × (image.version ≡ version_of wide)

-- the image of the text that is given, or none if no text is
abbrev pub IsPicture : Option (List ℕ) → Option Image → Type 0
IsPicture None None = Unit {0}
IsPicture (Some text) (Some image) = IsImageOfText text image
IsPicture _ _ = ⊥

-- the text that is given isn't an image
abbrev pub IsWrongImage : Option (List ℕ) → CommandFault → Type 0
IsWrongImage None fault = ⊥
IsWrongImage (Some text) fault = (refusal : Refusal) × IsNoImage text refusal × (fault ≡ fault_of_image refusal)

-- no world has the header's sizes, or it was out of memory
abbrev pub IsUnmade : Scheduled → CommandFault → Type 0
IsUnmade schedule fault =
    (refusal : Refusal) × (new_refusal (layout_of schedule) schedule.limit ≡ cause refusal) × (fault ≡ fault_of_header (number_of refusal))

-- the schedule's header names the image's sizes, and a width that isn't smaller
abbrev pub CanFit : Image → Scheduled → Type 0
CanFit image schedule =
    (length image.lock ≡ schedule.procs) × (image.limit ≡ schedule.limit) × (image.cap ≡ schedule.cap) × (image.width ≤ schedule.width)

-- the image has the sizes that the schedule's header names
abbrev pub IsFitting : Image → Scheduled → Type 0
IsFitting image schedule =
    (length image.lock ≡ schedule.procs) × (image.limit ≡ schedule.limit) × (image.cap ≡ schedule.cap) × (image.width ≡ schedule.width)

-- the image itself if its values have this width, or the image widened to it
abbrev pub IsMadeFit : ℕ → Image → Image → Type 0
IsMadeFit width image fitted = ((image.width ≡ width) × (fitted ≡ image)) ⊎ IsWider width image fitted

-- the header names other sizes than the image has, or the image can't be widened
abbrev pub IsMisfit : Image → Scheduled → CommandFault → Type 0
IsMisfit image schedule fault =
    ((CanFit image schedule → ⊥) × (fault ≡ Refused 1 9))
    ⊎ ((refusal : Refusal) × IsUnwidened schedule.width image refusal × (fault ≡ fault_of_header (number_of refusal)))

-- the world refuses this line of the schedule
abbrev pub IsRefusedLine : Scheduled → CommandFault → Type 0
IsRefusedLine schedule fault =
    (line : ℕ) × (refusal : Refusal) × (number : ℕ) × ((world_run schedule).refused ≡ Some (line, refusal)) × (number_of refusal ≡ Some number) × (fault ≡ Refused line number)

-- the schedule can't be played: no world has its sizes, or a line of it is refused
abbrev pub CantPlay : Scheduled → CommandFault → Type 0
CantPlay schedule fault = IsUnmade schedule fault ⊎ IsRefusedLine schedule fault

-- a session plays the schedule that it begins with
abbrev pub lock_machine : SessionMachine LockSimulationState
lock_machine =
    record {
      semantics = lock_semantics;
      session = lock_session;
      accepts = λ schedule. (world_run schedule).refused ≡ None;
      refuses = CantPlay;
    }
