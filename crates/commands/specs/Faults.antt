-- The fault of a command for the fault of a file.
use Rattle.command_parts.specs.declared.fault.CommandFault.TheVariants.{Read, Write, OutOfMemory}
use Rattle.command_parts.specs.declared.folder.FileFault.{FileFault}
use Rattle.command_parts.specs.declared.folder.FileFault.TheVariants as of_file
use Rattle.command_parts.specs.declared.fault.CommandFault.{CommandFault}

-- the fault for a file that wasn't opened, or wasn't written
abbrev pub fault_of_opening : FileFault → CommandFault
fault_of_opening of_file.Failed = Read
fault_of_opening of_file.OutOfMemory = OutOfMemory

-- the same for a file that wasn't written
abbrev pub fault_of_saving : FileFault → CommandFault
fault_of_saving of_file.Failed = Write
fault_of_saving of_file.OutOfMemory = OutOfMemory
