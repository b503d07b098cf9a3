-- The move that a hunt makes of a drawn word (the hunt's drawing rule of docs/dev/surface.md), given what is seen of the
-- processes in the round so far: the calls that they started, the answers of these, and the crashes.
use Rattle.std.specs.Prelude.{ℕ, ◌+◌, ◌/◌, ◌%◌, ◌^◌, ◌-◌, nat_lt, Bool, true, false, ◌==◌, if◌then◌else◌, min, List, [], ◌∷◌, Option, Some, None}
use Rattle.redomail.specs.declared.reply.Reply.TheVariants.{Mended, Stored, Already}
use Rattle.rmeworld.specs.declared.answer.Answer.{Answer}
use Rattle.rmeworld.specs.declared.answer.Answer.TheVariants.{Clean, OwnerDied, NotRecoverable, Mail}
use Rattle.crashlab.specs.declared.hunts.moves.NextCall.{NextCall}
use Rattle.crashlab.specs.declared.hunts.moves.NextCall.TheVariants.{Lock, Consistent, Append, Unlock}
use Rattle.crashlab.specs.declared.hunts.moves.DrawnMove.{DrawnMove}
use Rattle.crashlab.specs.declared.hunts.moves.DrawnMove.TheVariants.{Start, Step, Crash, CrashAll}
use Rattle.crashlab.specs.variants.VariantWorlds.{VariantState, variant_step_report}

-- what is seen of a process: a call under way, a call with its answer, a crash. Lists of these begin with the newest
pub data Sight : Type 0 where
  Begins : (next_call : NextCall) → Sight
  Ends : (next_call : NextCall) → (answer : Answer) → Sight
  Falls : Sight

-- the process is inside after this answer; a `consistent` whose answer is that the lock is ruined leaves it there
abbrev pub is_held : NextCall → Answer → Bool
is_held next_call Clean = true
is_held next_call OwnerDied = true
is_held next_call (Mail reply) = true
is_held Consistent NotRecoverable = true
is_held _ _ = false

-- it is inside, with no call under way
abbrev pub is_inside : List Sight → Bool
is_inside (Ends next_call answer ∷ seen) = is_held next_call answer
is_inside _ = false

-- it has nothing to mend: the newest of its entries and repairs is a clean entry or a repair
abbrev pub is_mended : List Sight → Bool
is_mended [] = true
is_mended (Ends next_call Clean ∷ seen) = true
is_mended (Ends next_call OwnerDied ∷ seen) = false
is_mended (Ends next_call (Mail (Mended interrupted)) ∷ seen) = true
is_mended (_ ∷ seen) = is_mended seen

-- an append was answered since its entry or re-entry
abbrev pub is_appended : List Sight → Bool
is_appended [] = false
is_appended (Ends next_call Clean ∷ seen) = false
is_appended (Ends next_call OwnerDied ∷ seen) = false
is_appended (Ends next_call (Mail (Mended interrupted)) ∷ seen) = is_appended seen
is_appended (Ends next_call (Mail reply) ∷ seen) = true
is_appended (_ ∷ seen) = is_appended seen

-- how many of its appends were answered stored or already
abbrev pub stored_count : List Sight → ℕ
stored_count [] = 0
stored_count (Ends next_call (Mail Stored) ∷ seen) = 1 + stored_count seen
stored_count (Ends next_call (Mail Already) ∷ seen) = 1 + stored_count seen
stored_count (_ ∷ seen) = stored_count seen

-- the number of its next message, held at the greatest u64
abbrev pub next_number : List Sight → ℕ
next_number seen = min (1 + stored_count seen) (2 ^ 64 - 1)

-- the call that it starts next
abbrev pub call_after : List Sight → NextCall
call_after seen =
    if is_inside seen then (if is_mended seen then (if is_appended seen then Unlock else Append (next_number seen)) else Consistent) else Lock

-- a step where a call is under way, else the start of the next call
abbrev pub move_onward : ℕ → List Sight → DrawnMove
move_onward p (Begins next_call ∷ seen) = Step p
move_onward p seen = Start p (call_after seen)

-- the move of one process of a word, given what is seen of each process
abbrev pub move_of_word : (ℕ → List Sight) → ℕ → DrawnMove
move_of_word seen word = if word / 64 % 16 == 0 then Crash (word % 3) else move_onward (word % 3) (seen (word % 3))

-- the word is a crash of all, where there are this many in 1,000 moves
abbrev pub is_system_crash : ℕ → ℕ → Bool
is_system_crash system_crashes word = nat_lt (word / 4096 % 1000) system_crashes

-- the move of a word, where there are this many crashes of all in 1,000 moves
abbrev pub drawn_move : ℕ → (ℕ → List Sight) → ℕ → DrawnMove
drawn_move system_crashes seen word = if is_system_crash system_crashes word then CrashAll else move_of_word seen word

-- the call under way ends with this answer
abbrev pub seen_after_answer : Answer → List Sight → List Sight
seen_after_answer answer (Begins next_call ∷ seen) = Ends next_call answer ∷ seen
seen_after_answer answer seen = seen

-- the same for an answer that there may not be
abbrev pub answered_if : Option Answer → List Sight → List Sight
answered_if None seen = seen
answered_if (Some answer) seen = seen_after_answer answer seen

-- a change at process p alone
abbrev pub at_process : ℕ → (List Sight → List Sight) → (ℕ → List Sight) → ℕ → List Sight
at_process p change seen q = if q == p then change (seen q) else seen q

-- what is seen of each process, after a move
abbrev pub seen_after_move : VariantState → DrawnMove → (ℕ → List Sight) → ℕ → List Sight
seen_after_move s (Start p next_call) seen = at_process p (λ before. Begins next_call ∷ before) seen
seen_after_move s (Step p) seen = at_process p (answered_if (variant_step_report s p).answer) seen
seen_after_move s (Crash p) seen = at_process p (λ before. Falls ∷ before) seen
seen_after_move s CrashAll seen = λ p. Falls ∷ seen p
