-- Whether the core's answer is an entry.
use Rattle.std.specs.Prelude.{Bool, true, false, Option, Some}
use Rattle.rmecore.specs.Place.{Place, Reread, Wait, Inside}
use Rattle.rmecore.specs.declared.core_call.CoreCall.TheVariants.{Lock}
use Rattle.rmecore.specs.declared.core_done.CoreDone.{CoreDone}
use Rattle.rmecore.specs.declared.core_done.CoreDone.TheVariants.{In, InAgain, Found as Finds}
use Rattle.rmecore.specs.declared.found.Found.TheVariants.{Inside as FoundInside}

-- an entry by a lock, from the place after the step and the place before it
abbrev pub is_entry_at : Place → Place → Bool
is_entry_at Inside (Wait k unpassed looked) = true
is_entry_at Inside (Reread Lock seen) = true
is_entry_at _ _ = false

abbrev pub is_entry : Place → Place → Bool
is_entry s t = is_entry_at t s

-- the same from the core's answer: the ruin check comes after it, and the holder is mended
abbrev pub checks_done : Option CoreDone → Bool
checks_done (Some In) = true
checks_done (Some InAgain) = true
checks_done _ = false

abbrev pub mended_done : Bool → Option CoreDone → Bool
mended_done b (Some In) = true
mended_done b (Some InAgain) = false
mended_done b (Some (Finds FoundInside)) = false
mended_done b _ = b
