-- Runs of a call, from line to line. Which way a branch goes is not asked.
use Rattle.std.specs.Prelude.{◌≡◌, ◌⊎◌, ℕ, zero, suc, ◌+◌, ◌≤◌, ◌<◌, nat_eq, nat_lt, Bool, true, false, not, ◌&&◌, ◌||◌, List, [], ◌∷◌, slice_get, length, Option, Some, None, if◌then◌else◌}
use Rattle.std.specs.List.{list_all, list_any}
use Rattle.algorithms.specs.declared.algorithm.AlgorithmCall.{AlgorithmCall}
use Rattle.algorithm_texts.specs.declared.flow.RunKind.{RunKind}
use Rattle.algorithm_texts.specs.declared.flow.RunKind.TheVariants.{All, Silent, Forward, Without}
use Rattle.algorithm_texts.specs.declared.lines.CallRead.{CallRead}
use Rattle.algorithm_texts.specs.declared.lines.Jump.{Jump}
use Rattle.algorithm_texts.specs.Drafts.{LineForm, Accessing, Noting, Going, Beginning, Repeating, Ending, PlacedLine, Drafted}
use Rattle.algorithm_texts.specs.FinishedDrafts.{loop_has_round, call_in, is_within, ways}
use Rattle.algorithm_texts.specs.Usage.{reads, sets, begins_loop, ends_loop, uses, passes_at}

-- ---- ways

abbrev pub is_access : LineForm → Bool
is_access (Accessing a) = true
is_access other = false

-- whether a run of this kind goes on after a line: all do, those without an access, such within a round of each loop, or those that
-- do not set a name
abbrev pub goes_on : RunKind → LineForm → Bool
goes_on All form = true
goes_on Silent form = not (is_access form)
goes_on Forward form = not (is_access form)
goes_on (Without name) form = not (sets name form || (begins_loop name form || ends_loop name form))

-- the places to which a line leads but for the way back to the next round of a loop
abbrev pub forward_ways : ℕ → ℕ → LineForm → List ℕ
forward_ways least next (Repeating name members body) = next ∷ []
forward_ways least next other = ways least next other

-- the places to which a line leads runs of this kind
abbrev pub kind_ways : RunKind → ℕ → ℕ → LineForm → List ℕ
kind_ways All least next form = ways least next form
kind_ways Silent least next form = ways least next form
kind_ways Forward least next form = forward_ways least next form
kind_ways (Without name) least next form = ways least next form

abbrev pub ways_after : ℕ → RunKind → ℕ → Option PlacedLine → List ℕ
ways_after least runs at None = []
ways_after least runs at (Some line) = if goes_on runs line.form then kind_ways runs least (at + 1) line.form else []

-- the places to which a line of the call leads
abbrev pub ways_from : Drafted → CallRead → RunKind → ℕ → List ℕ
ways_from d call runs at = if is_within (call.«from», call.to) at then ways_after d.head.least runs at (slice_get d.lines at) else []

abbrev pub leads_to : List ℕ → ℕ → Bool
leads_to places at = list_any (λ place. nat_eq place at) places

-- ---- runs

-- a run over that many lines comes to this place
abbrev pub ComesOver : Drafted → CallRead → RunKind → (ℕ → Type 0) → ℕ → ℕ → Type 0
ComesOver d call runs Start zero at = Start at
ComesOver d call runs Start (suc n) at =
    (before : ℕ) × ComesOver d call runs Start n before × (leads_to (ways_from d call runs before) at ≡ true)

-- a run comes to this place
abbrev pub RunComesTo : Drafted → CallRead → RunKind → (ℕ → Type 0) → ℕ → Type 0
RunComesTo d call runs Start at = (n : ℕ) × ComesOver d call runs Start n at

-- a run of the call comes to this place
abbrev pub IsPlaceReached : Drafted → CallRead → ℕ → Type 0
IsPlaceReached d call at = RunComesTo d call All (λ first. first ≡ call.«from») at

-- a run of the call comes to this place before its first access
abbrev pub IsReachedSilently : Drafted → CallRead → ℕ → Type 0
IsReachedSilently d call at = RunComesTo d call Silent (λ first. first ≡ call.«from») at

-- the place after a loop with this name, at the lines from which a run can go on there
abbrev pub way_past : ℕ → ℕ → ℕ → LineForm → Option ℕ
way_past name least next (Beginning k members after) = if nat_eq k name then (if loop_has_round least members then None else Some after) else None
way_past name least next (Repeating k members body) = if nat_eq k name then Some next else None
way_past name least next other = None

abbrev pub past_where : ℕ → ℕ → ℕ → Option PlacedLine → Option ℕ
past_where name least next None = None
past_where name least next (Some line) = way_past name least next line.form

-- where a run comes that leaves a loop with this name
abbrev pub past_from : Drafted → CallRead → ℕ → ℕ → Option ℕ
past_from d call name at = if is_within (call.«from», call.to) at then past_where name d.head.least (at + 1) (slice_get d.lines at) else None

-- here a run has not set the name: at its first line, unless the name lasts, and after a loop with this name
abbrev pub HasNot : Drafted → CallRead → ℕ → ℕ → Type 0
HasNot d call name at =
    ((at ≡ call.«from») × (d.lasting ≤ name)) ⊎ ((before : ℕ) × IsPlaceReached d call before × (past_from d call name before ≡ Some at))

-- a run of the call comes to this place and has not set the name
abbrev pub IsReachedWithout : Drafted → CallRead → ℕ → ℕ → Type 0
IsReachedWithout d call name at = RunComesTo d call (Without name) (HasNot d call name) at

-- ---- what runs may do

-- a goto of the text stands at this place
abbrev pub has_jump : List Jump → ℕ → Bool
has_jump jumps at = list_any (λ jump. nat_eq jump.place at) jumps

-- a line that the text has: not the way past an `else`, and not the way back to the head of a loop
abbrev pub is_own : List Jump → ℕ → LineForm → Bool
is_own jumps at (Going place) = has_jump jumps at
is_own jumps at (Repeating name members body) = false
is_own jumps at other = true

-- an end or a deed, which others see
abbrev pub is_seen : LineForm → Bool
is_seen (Noting deed) = true
is_seen (Ending answer) = true
is_seen other = false

-- a line of the call stands at this place
abbrev pub is_line_in : Drafted → CallRead → ℕ → Bool
is_line_in d call at = is_within (call.«from», call.to) at && nat_lt at (length d.lines)

-- the line at a place leads to lines of the call alone
abbrev pub leads_in : Drafted → CallRead → ℕ → Bool
leads_in d call at = list_all (is_line_in d call) (ways_from d call All at)

-- from this place a run comes, without an access and within a round of each loop, to a line that leads back to it: a ring of gotos
abbrev pub ReturnsByGoto : Drafted → CallRead → ℕ → Type 0
ReturnsByGoto d call at =
    (before : ℕ) × RunComesTo d call Forward (λ first. first ≡ at) before × (leads_to (ways_from d call Forward before) at ≡ true)

-- runs of a call come to the line at this place, if the text has it
abbrev pub LineReachedAt : Drafted → CallRead → ℕ → Type 0
LineReachedAt d call at =
    is_within (call.«from», call.to) at ≡ true → passes_at (is_own d.jumps at) (uses d.lines) at ≡ true → IsPlaceReached d call at

-- so they do to each line of the text
abbrev pub EachIsReached : Drafted → CallRead → Type 0
EachIsReached d call = (at : ℕ) → LineReachedAt d call at

-- runs of a call come to its lines alone
abbrev pub RunsStay : Drafted → CallRead → Type 0
RunsStay d call = (at : ℕ) → IsPlaceReached d call at → is_line_in d call at ≡ true

-- at this place a line of the call may read a name that is not set
pub record ReadsUnset (d : Drafted) (call : CallRead) (name at : ℕ) : Type 0 where
  pub within : is_within (call.«from», call.to) at ≡ true
  pub reads_it : passes_at (reads name) (uses d.lines) at ≡ true
  pub unset : IsReachedWithout d call name at

-- runs of a call that come to this place have set each name that it reads
abbrev pub NamesSetAt : Drafted → CallRead → ℕ → Type 0
NamesSetAt d call at = (name : ℕ) → name < length d.names → ReadsUnset d call name at → ⊥

-- runs of a call have set each name before they read it
abbrev pub RunsSet : Drafted → CallRead → Type 0
RunsSet d call = (name at : ℕ) → name < length d.names → ReadsUnset d call name at → ⊥

-- no run of a call comes to this place, and back to it by gotos without an access
abbrev pub NotOnRound : Drafted → CallRead → ℕ → Type 0
NotOnRound d call at = IsPlaceReached d call at → ReturnsByGoto d call at → ⊥

-- runs of a call come to no line again by gotos without an access
abbrev pub NoneReturns : Drafted → CallRead → Type 0
NoneReturns d call = (at : ℕ) → NotOnRound d call at

-- runs of a call make an access before the end or the deed at this place, if one stands there
abbrev pub StepFirstAt : Drafted → CallRead → ℕ → Type 0
StepFirstAt d call at = is_within (call.«from», call.to) at ≡ true → passes_at is_seen (uses d.lines) at ≡ true → IsReachedSilently d call at → ⊥

-- so they do before the first end or deed
abbrev pub StepsComeFirst : Drafted → CallRead → Type 0
StepsComeFirst d call = (at : ℕ) → StepFirstAt d call at

pub record RunsFit (d : Drafted) (call : CallRead) : Type 0 where
  pub reached : EachIsReached d call
  pub stays : RunsStay d call
  pub set : RunsSet d call
  pub returns : NoneReturns d call
  pub steps : StepsComeFirst d call

-- ---- calls by their kinds

-- the runs of the call of this kind do what they may, if it is there
abbrev pub KindRuns : Drafted → AlgorithmCall → Type 0
KindRuns d kind = (call : CallRead) → call_in kind d.calls ≡ Some call → RunsFit d call

abbrev pub AllRuns : Drafted → Type 0
AllRuns d = (kind : AlgorithmCall) → KindRuns d kind

-- a run of the call of this kind comes to this place
abbrev pub KindComesTo : Drafted → AlgorithmCall → ℕ → Type 0
KindComesTo d kind at = (call : CallRead) × (call_in kind d.calls ≡ Some call) × IsPlaceReached d call at

-- a run of one of the calls comes to this place
abbrev pub RunsComeTo : Drafted → ℕ → Type 0
RunsComeTo d at = (kind : AlgorithmCall) × KindComesTo d kind at
