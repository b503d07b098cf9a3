-- The numbers of the faults of a text.
use Rattle.std.specs.Prelude.{ℕ}
use Rattle.algorithms.specs.declared.fault.AlgorithmFault.{AlgorithmFault}
use Rattle.algorithms.specs.declared.fault.AlgorithmFault.TheVariants.{At, OutOfMemory as NoMemory}
use Rattle.algorithms.specs.declared.fault.ReadFault.{ReadFault}
use Rattle.algorithms.specs.declared.fault.ReadFault.TheVariants.{NoHeader, BadCharacter, NoNewline, BadForm, NameTaken, UnknownName, TwoAccesses, NotAssignable, BadBlock, BadLabel, Unset, Endless, NoStep, FallsOff, BadDeed, TooBig, BadCall, NeverReached, OutOfMemory}

-- a fault of a line, as the text's. Out of memory is of no line
abbrev pub fault_of : ℕ → ReadFault → AlgorithmFault
fault_of line NoHeader = At line 1
fault_of line BadCharacter = At line 2
fault_of line NoNewline = At line 3
fault_of line BadForm = At line 4
fault_of line NameTaken = At line 5
fault_of line UnknownName = At line 6
fault_of line TwoAccesses = At line 7
fault_of line NotAssignable = At line 8
fault_of line BadBlock = At line 9
fault_of line BadLabel = At line 10
fault_of line Unset = At line 11
fault_of line Endless = At line 12
fault_of line NoStep = At line 13
fault_of line FallsOff = At line 14
fault_of line BadDeed = At line 15
fault_of line TooBig = At line 16
fault_of line BadCall = At line 17
fault_of line NeverReached = At line 18
fault_of line OutOfMemory = NoMemory
