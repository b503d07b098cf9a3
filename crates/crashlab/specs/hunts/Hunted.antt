-- What a hunt answers: the schedule of the first round, by number, in which the judge refuses a deed (the
-- hunt's drawing rule of docs/dev/surface.md).
use Rattle.std.specs.Prelude.{ℕ, zero, suc, ◌+◌, ◌*◌, Bool, if◌then◌else◌, List, [], ◌∷◌, ◌++◌, map, is_err, Option, Some, None}
use Rattle.rand_core.specs.Pcg32Seed.{pcg32_seed}
use Rattle.rand_core.specs.Steps.{first_words}
use Rattle.rand_pcg.specs.Lcg.{Lcg, advance}
use Rattle.rand_pcg.specs.Pcg.{multiplier_64, pcg32, pcg32_of_seed}
use Rattle.rmecore.specs.declared.refusal.Refusal.{Refusal}
use Rattle.judge.specs.Legal.{judged_all}
use Rattle.judge.specs.Table.{empty_state}
use Rattle.schedule.specs.Schedules.{Scheduled}
use Rattle.crashlab.specs.declared.variants.variant.Variant.{Variant}
use Rattle.crashlab.specs.declared.hunts.moves.DrawnMove.{DrawnMove}
use Rattle.crashlab.specs.declared.hunts.moves.DrawnMove.TheVariants.{Start, Step, Crash, CrashAll}
use Rattle.crashlab.specs.declared.hunts.random_moves.RandomMoves.{RandomMoves}
use Rattle.crashlab.specs.declared.variants.judge_feed.MoveOutcome.{MoveOutcome}
use Rattle.crashlab.specs.declared.variants.judge_feed.MoveOutcome.TheVariants.{On, Caught}
use Rattle.crashlab.specs.hunts.Draws.{Sight, seen_after_move, drawn_move}
use Rattle.crashlab.specs.hunts.Found.{call_by, line_by, drawn_moves_of}
use Rattle.crashlab.specs.hunts.Hunts.{first_world, after_line, after_lines, deeds_of_lines}
use Rattle.crashlab.specs.variants.VariantWorlds.{VariantState, start_refusal, advance_refusal, crash_refusal}

-- the world after the moves of a round
abbrev pub world_after : Variant → List DrawnMove → VariantState
world_after variant moves = after_lines (first_world variant) (map line_by moves)

-- what is seen of each process after moves, from a world on
abbrev pub seen_from : VariantState → (ℕ → List Sight) → List DrawnMove → ℕ → List Sight
seen_from s seen [] = seen
seen_from s seen (made ∷ moves) = seen_from (after_line s (line_by made)) (seen_after_move s made seen) moves

-- what is seen of each process in a round
abbrev pub seen_after : Variant → List DrawnMove → ℕ → List Sight
seen_after variant moves = seen_from (first_world variant) (λ p. []) moves

-- why the world refuses a move; a crash of all never is refused
abbrev pub refusal_of : VariantState → DrawnMove → Option Refusal
refusal_of s (Start p next_call) = start_refusal s p (call_by next_call)
refusal_of s (Step p) = advance_refusal s p
refusal_of s (Crash p) = crash_refusal s p
refusal_of s CrashAll = None

-- one more move, unless it is refused
abbrev pub unless_refused : Option Refusal → DrawnMove → List DrawnMove → List DrawnMove
unless_refused None made moves = moves ++ made ∷ []
unless_refused (Some refusal) made moves = moves

-- the moves of a round, with that of one more word, where there are this many crashes of all in 1,000 moves; a move that the world
-- refuses is left out
abbrev pub with_word : Variant → ℕ → List DrawnMove → ℕ → List DrawnMove
with_word variant system_crashes moves word =
    let made = drawn_move system_crashes (seen_after variant moves) word in
    unless_refused (refusal_of (world_after variant moves) made) made moves

-- the judge refuses a deed of these moves
abbrev pub is_refused : Variant → List DrawnMove → Bool
is_refused variant moves = is_err (judged_all (empty_state 3 64) (deeds_of_lines (first_world variant) (map line_by moves)))

-- the moves up to the first deed that the judge refuses, if these words come to one
unfoldable pub found_after : Variant → ℕ → List DrawnMove → List ℕ → Option Scheduled
found_after variant system_crashes moves [] = None
found_after variant system_crashes moves (word ∷ words) =
    let next = with_word variant system_crashes moves word in
    if is_refused variant next then Some (drawn_moves_of next) else found_after variant system_crashes next words

-- the generator of a hunt, after this many words
abbrev pub generator_after : ℕ → ℕ → Lcg
generator_after seed words = advance 64 multiplier_64 words (pcg32_of_seed (pcg32_seed 16 seed))

-- what the round finds that begins with this generator. It has as many words as moves
abbrev pub round_result : Variant → RandomMoves → Lcg → Option Scheduled
round_result variant asked generator = found_after variant asked.system_crashes [] (first_words pcg32 asked.steps generator)

-- what a round finds, by its number; each round goes on where the one before it ends
abbrev pub found_in : Variant → RandomMoves → ℕ → Option Scheduled
found_in variant asked round = round_result variant asked (generator_after asked.seed (round * asked.steps))

-- what the last move of a round ends in
abbrev pub outcome_of_round : Option Scheduled → MoveOutcome
outcome_of_round None = On
outcome_of_round (Some schedule) = Caught

-- the first that there is
abbrev pub or_else : {A : Type 0} → Option A → Option A → Option A
or_else None later = later
or_else (Some found) later = Some found

-- what the first of these rounds finds that finds something: `rounds` of them, from a round on
unfoldable pub found_from : Variant → RandomMoves → ℕ → ℕ → Option Scheduled
found_from variant asked round zero = None
found_from variant asked round (suc rounds) = or_else (found_in variant asked round) (found_from variant asked (round + 1) rounds)

-- what a hunt answers that draws no crash of all
abbrev pub hunt_result : Variant → ℕ → ℕ → ℕ → Option Scheduled
hunt_result variant seed rounds steps = found_from variant (record { seed = seed; steps = steps; system_crashes = 0 }) 0 rounds
