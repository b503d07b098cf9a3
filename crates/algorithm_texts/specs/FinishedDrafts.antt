-- A draft that was read becomes an algorithm: gotos lead to their labels, calls begin at their lines.
use Rattle.std.specs.Prelude.{ℕ, nat_lt, nat_le, Bool, true, false, ◌&&◌, List, [], ◌∷◌, slice_get, Option, Some, None, if◌then◌else◌, bytes_eq, position}
use Rattle.algorithms.specs.Ranked.{least_joined, is_at_most}
use Rattle.algorithms.specs.declared.algorithm.AlgorithmCall.{AlgorithmCall}
use Rattle.algorithms.specs.declared.algorithm.AlgorithmCall.TheVariants.{Lock, Unlock, Recover, Withdraw}
use Rattle.algorithm_texts.specs.declared.lines.CallRead.{CallRead}
use Rattle.algorithm_texts.specs.declared.lines.Jump.{Jump}
use Rattle.algorithm_texts.specs.declared.lines.Label.{Label}
use Rattle.algorithm_texts.specs.Parts.{Term, Number, Private, Element, Me, Procs, Limit, Joined, ◌>>=◌}
use Rattle.algorithm_texts.specs.Drafts.{DraftMembers, AllProcesses, OtherProcesses, LowerProcesses, HigherProcesses, Rising, Falling, LineForm, Accessing, Assigning, SettingRow, Noting, Going, Branching, Beginning, Repeating, Ending, PlacedLine, leading, Drafted}
use Rattle.algorithm_texts.specs.TextDrafts.{is_call}

-- ---- gotos

-- a label stands in this call
abbrev pub is_label_in : CallRead → Label → Bool
is_label_in call label = nat_lt call.number label.number && nat_le label.number call.last

-- the label of a call that has this name
abbrev pub label_named : List Label → CallRead → List ℕ → Option Label
label_named labels call name = do
  k ← position (λ label. bytes_eq label.name name && is_label_in call label) labels
  slice_get labels k

-- a place is in a block, from its first place to the place after it
abbrev pub is_within : ℕ × ℕ → ℕ → Bool
is_within block at = nat_le block.0 at && nat_lt at block.1

-- a label in no block can be reached from all places, one in a block from places in it
abbrev pub reachable_place : List (ℕ × ℕ) → ℕ → ℕ → Option ℕ → Option ℕ
reachable_place blocks at place None = Some place
reachable_place blocks at place (Some k) = do
  block ← slice_get blocks k
  if is_within block at then Some place else None

abbrev pub target_of : List Label → List (ℕ × ℕ) → CallRead → Jump → Option ℕ
target_of labels blocks call jump = do
  label ← label_named labels call jump.name
  reachable_place blocks jump.place label.place label.block

-- a goto leads to its label
abbrev pub jump_led : List Label → List (ℕ × ℕ) → CallRead → List PlacedLine → Jump → Option (List PlacedLine)
jump_led labels blocks call lines jump = do
  target ← target_of labels blocks call jump
  Some (leading lines jump.place target (slice_get lines jump.place))

-- the gotos of a call lead to their labels
abbrev pub jumps_led : List Label → List (ℕ × ℕ) → CallRead → List Jump → List PlacedLine → Option (List PlacedLine)
jumps_led labels blocks call [] lines = Some lines
jumps_led labels blocks call (jump ∷ jumps) lines =
    if is_within (call.«from», call.to) jump.place then (jump_led labels blocks call lines jump >>= jumps_led labels blocks call jumps)
    else jumps_led labels blocks call jumps lines

abbrev pub with_lines : List PlacedLine → Drafted → Drafted
with_lines lines d = record d { lines = lines }

abbrev pub call_led : Drafted → CallRead → Option Drafted
call_led d call = do
  lines ← jumps_led d.labels d.blocks call d.jumps d.lines
  Some (with_lines lines d)

-- ---- calls

abbrev pub first_of : Option CallRead → Option CallRead → Option CallRead
first_of None second = second
first_of (Some first) second = Some first

-- the call of this kind that was read first
abbrev pub call_in : AlgorithmCall → List CallRead → Option CallRead
call_in call [] = None
call_in call (c ∷ cs) = first_of (call_in call cs) (if is_call call c then Some c else None)

abbrev pub led_where : Drafted → Option CallRead → Option Drafted
led_where d None = Some d
led_where d (Some call) = call_led d call

abbrev pub kind_led : AlgorithmCall → Drafted → Option Drafted
kind_led kind d = led_where d (call_in kind d.calls)

abbrev pub begins_of : Option CallRead → Option ℕ
begins_of None = None
begins_of (Some call) = Some call.«from»

-- where calls begin
abbrev pub with_entries : Drafted → Option Drafted
with_entries d = do
  lock ← call_in Lock d.calls
  unlock ← call_in Unlock d.calls
  Some (record d {
    head = record d.head {
      entries = record {
        lock = lock.«from»;
        unlock = unlock.«from»;
        recover = begins_of (call_in Recover d.calls);
        withdraw = begins_of (call_in Withdraw d.calls);
      };
    };
  })

-- all calls have their beginnings, and their gotos lead to labels
abbrev pub finished_draft : Drafted → Option Drafted
finished_draft d = do
  begun ← with_entries d
  lock ← kind_led Lock begun
  unlock ← kind_led Unlock lock
  recover ← kind_led Recover unlock
  kind_led Withdraw recover

-- ---- lines without text of their own

-- the way past an `else`, or back to the head of a loop
abbrev pub is_way : LineForm → Bool
is_way (Going place) = true
is_way (Repeating name members body) = true
is_way other = false

-- whether a place is among those that are marked
abbrev pub is_marked : Option Bool → Bool
is_marked None = false
is_marked (Some mark) = mark

abbrev pub is_in : List Bool → ℕ → Bool
is_in marks place = is_marked (slice_get marks place)

-- a number that is written as one
abbrev pub literal_in : Term → Option ℕ
literal_in (Number n) = Some n
literal_in (Private k) = None
literal_in (Element row i) = None
literal_in Me = None
literal_in Procs = None
literal_in Limit = None
literal_in (Joined o a b) = None

-- a value is not below this number where there are at least so few processes
abbrev pub least_term : ℕ → Term → ℕ
least_term least (Number n) = n
least_term least (Private k) = 0
least_term least (Element row i) = 0
least_term least Me = 0
least_term least Procs = least
least_term least Limit = 0
least_term least (Joined o a b) = least_joined o (least_term least a) (literal_in b)

-- whether a loop over these has a round in each world of an algorithm for this least number of processes
abbrev pub loop_has_round : ℕ → DraftMembers → Bool
loop_has_round least AllProcesses = true
loop_has_round least OtherProcesses = nat_le 2 least
loop_has_round least LowerProcesses = false
loop_has_round least HigherProcesses = false
loop_has_round least (Rising a b) = is_at_most (literal_in a) (least_term least b)
loop_has_round least (Falling a b) = is_at_most (literal_in b) (least_term least a)

-- the places to which a line leads, with the place of the line after it
abbrev pub ways : ℕ → ℕ → LineForm → List ℕ
ways least next (Accessing a) = next ∷ []
ways least next (Assigning name value) = next ∷ []
ways least next (SettingRow row elements value) = next ∷ []
ways least next (Noting deed) = next ∷ []
ways least next (Going place) = place ∷ []
ways least next (Branching condition otherwise) = next ∷ (otherwise ∷ [])
ways least next (Beginning name members after) = if loop_has_round least members then next ∷ [] else next ∷ (after ∷ [])
ways least next (Repeating name members body) = body ∷ (next ∷ [])
ways least next (Ending answer) = []
