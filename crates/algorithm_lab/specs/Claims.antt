-- Never claims: conditions on shared words, places and phases that a text promises never to hold, for no different processes. They are
-- state invariants (Lamport 1977), said by what would break them ("never claim", Holzmann 1997).
use Rattle.std.specs.Prelude.{ℕ, zero, suc, ◌==◌, Bool, true, false, not, ◌&&◌, ◌||◌, if◌then◌else◌, List, [], ◌∷◌, replicate, slice_get, slice_set, Option, Some, None}
use Rattle.rmecore.specs.Simulated.{one_more}
use Rattle.rmecore.specs.declared.phase.Phase.{Phase}
use Rattle.rmecore.specs.declared.phase.Phase.TheVariants as phases
use Rattle.algorithms.specs.Claims.{is_satisfied, known_name, known_word, sizes_of}
use Rattle.algorithms.specs.Worlds.{AlgorithmWorldState}
use Rattle.algorithms.specs.declared.never_claim.ClaimedPhase.{ClaimedPhase}
use Rattle.algorithms.specs.declared.never_claim.ClaimedPhase.TheVariants.{Out, Doorway, Waiting, Inside, Dead}
use Rattle.algorithms.specs.declared.never_claim.NeverClaim.{NeverClaim}
use Rattle.algorithms.specs.declared.never_claim.StateFact.{StateFact}
use Rattle.algorithms.specs.declared.never_claim.StateFact.TheVariants.{Word, Phase as PhaseOf, Place}
use Rattle.algorithms.specs.declared.process.AlgorithmPlace.{AlgorithmPlace}
use Rattle.algorithms.specs.declared.process.AlgorithmPlace.TheVariants.{Rest, Dead as DeadPlace, At}
use Rattle.algorithms.specs.declared.process.AlgorithmProcess.{AlgorithmProcess}

-- ---- what a claim looks at

-- a process in this phase is in the one that a claim names
abbrev pub is_in_phase : ClaimedPhase → Phase → Bool
is_in_phase Out phases.Out = true
is_in_phase Doorway phases.Door = true
is_in_phase Waiting phases.Ready = true
is_in_phase Inside phases.Inside = true
is_in_phase Dead phases.DeadIn = true
is_in_phase named phase = false

-- 1 for what is so, else 0
abbrev pub truth_value : Bool → Option ℕ
truth_value true = Some 1
truth_value false = Some 0

-- a process is there, and is in the phase that a claim names
abbrev pub stands_in : ClaimedPhase → Option Phase → Bool
stands_in named None = false
stands_in named (Some phase) = is_in_phase named phase

abbrev pub phase_fact : List Phase → ClaimedPhase → Option ℕ → Option ℕ
phase_fact ps named None = None
phase_fact ps named (Some p) = truth_value (stands_in named (slice_get ps p))

-- the next access is the line at this place
abbrev pub is_next_at : ℕ → AlgorithmPlace → Bool
is_next_at place Rest = false
is_next_at place DeadPlace = false
is_next_at place (At at) = at == place

abbrev pub stands_at : Option ℕ → Option AlgorithmProcess → Bool
stands_at None process = false
stands_at (Some place) None = false
stands_at (Some place) (Some process) = is_next_at place process.place

abbrev pub place_fact : AlgorithmWorldState → ℕ → Option ℕ → Option ℕ
place_fact w label None = None
place_fact w label (Some p) = truth_value (stands_at (slice_get w.algorithm.label_places.items label) (slice_get w.processes p))

-- the value of a fact, by the names before it
abbrev pub fact_value : AlgorithmWorldState → List Phase → List (Option ℕ) → StateFact → Option ℕ
fact_value w ps names (Word word) = known_word w names word
fact_value w ps names (PhaseOf name phase) = phase_fact ps phase (known_name (slice_get names name))
fact_value w ps names (Place name label) = place_fact w label (known_name (slice_get names name))

-- the names once the facts from this name on have their values
abbrev pub with_facts : AlgorithmWorldState → List Phase → ℕ → List (Option ℕ) → List StateFact → List (Option ℕ)
with_facts w ps at names [] = names
with_facts w ps at names (fact ∷ facts) = with_facts w ps (one_more at) (slice_set names at (fact_value w ps names fact)) facts

-- ---- claims

-- the first two names are these processes
abbrev pub names_of_two : Option ℕ → Option ℕ → List (Option ℕ)
names_of_two first second = slice_set (slice_set (replicate 64 None) 0 first) 1 second

-- the condition of a claim holds of these processes
abbrev pub holds_of : AlgorithmWorldState → List Phase → NeverClaim → Option ℕ → Option ℕ → Bool
holds_of w ps claim first second =
    is_satisfied (sizes_of w) (with_facts w ps claim.processes (names_of_two first second) claim.facts.items) claim.condition

-- the test holds of a number below this one
abbrev pub any_below : (ℕ → Bool) → ℕ → Bool
any_below test zero = false
any_below test (suc n) = any_below test n || test n

abbrev pub holds_beside : AlgorithmWorldState → List Phase → NeverClaim → ℕ → ℕ → Bool
holds_beside w ps claim p q = not (q == p) && holds_of w ps claim (Some p) (Some q)

-- the condition of a claim holds of some processes, which differ
abbrev pub is_broken : AlgorithmWorldState → List Phase → NeverClaim → Bool
is_broken w ps claim =
    if claim.processes == 0 then holds_of w ps claim None None
    else if claim.processes == 1 then any_below (λ p. holds_of w ps claim (Some p) None) w.procs
    else any_below (λ p. any_below (holds_beside w ps claim p) w.procs) w.procs

-- the line of the first of these claims whose condition holds
abbrev pub first_broken : AlgorithmWorldState → List Phase → List NeverClaim → Option ℕ
first_broken w ps [] = None
first_broken w ps (claim ∷ claims) = if is_broken w ps claim then Some claim.number else first_broken w ps claims

-- the same of all claims of the text
abbrev pub claim_broken : AlgorithmWorldState → List Phase → Option ℕ
claim_broken w ps = first_broken w ps w.algorithm.claims.items

-- the first line, where there is one, else the second
abbrev pub or_line : Option ℕ → Option ℕ → Option ℕ
or_line None other = other
or_line (Some line) other = Some line
