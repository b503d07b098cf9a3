-- What a text may not do wrong, apart from its form: labels, names, deeds, withdraws, and what runs may do.
use Rattle.std.specs.Prelude.{◌≡◌, ◌⊎◌, ℕ, ◌≤◌, ◌<◌, Bool, true, List, length, slice_get, Some, bytes_eq, is_some}
use Rattle.std.specs.List.{All, list_any}
use Rattle.algorithms.specs.declared.algorithm.AlgorithmCall.{AlgorithmCall}
use Rattle.algorithms.specs.declared.algorithm.AlgorithmCall.TheVariants.{Withdraw}
use Rattle.algorithms.specs.declared.algorithm.Promises.{Promises}
use Rattle.algorithms.specs.declared.line.AlgorithmDeed.{AlgorithmDeed}
use Rattle.algorithms.specs.declared.line.AlgorithmDeed.TheVariants.{Enter, Leave}
use Rattle.algorithms.specs.Deeds.{IsLineOf}
use Rattle.algorithm_texts.specs.declared.lines.CallRead.{CallRead}
use Rattle.algorithm_texts.specs.declared.lines.Label.{Label}
use Rattle.algorithm_texts.specs.Drafts.{LineForm, Noting, PlacedLine, Drafted}
use Rattle.algorithm_texts.specs.FinishedDrafts.{is_label_in, is_within, call_in}
use Rattle.algorithm_texts.specs.Usage.{reads, sets, begins_loop, ends_loop, fits, may_withdraw, uses, passes_at}
use Rattle.algorithm_texts.specs.Runs.{AllRuns}

-- ---- labels

-- two labels of a call have different names
abbrev pub LabelsDiffer : List Label → CallRead → Type 0
LabelsDiffer labels call = (i j : ℕ) (a b : Label) → i < j → slice_get labels i ≡ Some a → slice_get labels j ≡ Some b
    → is_label_in call a ≡ true → is_label_in call b ≡ true → bytes_eq a.name b.name ≡ true → ⊥

-- ---- names

-- a line of the call passes the test
abbrev pub HasLine : List LineForm → CallRead → (LineForm → Bool) → Type 0
HasLine forms call test = (at : ℕ) × (is_within (call.«from», call.to) at ≡ true) × (passes_at test forms at ≡ true)

-- the call has a loop with this name
abbrev pub HasLoop : List LineForm → CallRead → ℕ → Type 0
HasLoop forms call name = HasLine forms call (begins_loop name)

-- a place is in a loop with this name: it begins there or before, and does not end before
pub record IsInLoop (forms : List LineForm) (call : CallRead) (name at : ℕ) : Type 0 where
  pub first : ℕ
  pub «from» : call.«from» ≤ first
  pub before : first ≤ at
  pub begins : passes_at (begins_loop name) forms first ≡ true
  pub goes_on : (place : ℕ) → first ≤ place → place < at → passes_at (ends_loop name) forms place ≡ true → ⊥

-- a place knows a name: that of a loop within the loop alone, another where it lasts from call to call or a line of the call sets it
abbrev pub IsKnown : List LineForm → CallRead → ℕ → ℕ → ℕ → Type 0
IsKnown forms call lasting name at =
    (HasLoop forms call name × IsInLoop forms call name at)
    ⊎ ((HasLoop forms call name → ⊥) × ((name < lasting) ⊎ HasLine forms call (sets name)))

-- a line knows the names that it reads
abbrev pub KnowsRead : List LineForm → ℕ → ℕ → CallRead → ℕ → Type 0
KnowsRead forms lasting names call at = (name : ℕ) → name < names → passes_at (reads name) forms at ≡ true → IsKnown forms call lasting name at

-- a line sets no name of a loop
abbrev pub SetsNoLoop : List LineForm → ℕ → CallRead → ℕ → Type 0
SetsNoLoop forms names call at = (name : ℕ) → name < names → passes_at (sets name) forms at ≡ true → HasLoop forms call name → ⊥

-- the names, the deeds and the withdraws of a line: it reads names that it knows, and sets no name of a loop
pub record LineFits (forms : List LineForm) (promises : Promises) (lasting names : ℕ) (call : CallRead) (at : ℕ) : Type 0 where
  pub known : KnowsRead forms lasting names call at
  pub free : SetsNoLoop forms names call at
  pub deed : (form : LineForm) → slice_get forms at ≡ Some form → fits promises call.call form ≡ true

-- ---- texts

-- these of the line at a place of a draft
abbrev pub ReadsKnown : Drafted → CallRead → ℕ → Type 0
ReadsKnown d call at = KnowsRead (uses d.lines) d.lasting (length d.names) call at

abbrev pub SetsFree : Drafted → CallRead → ℕ → Type 0
SetsFree d call at = SetsNoLoop (uses d.lines) (length d.names) call at

abbrev pub LineFitsAt : Drafted → CallRead → ℕ → Type 0
LineFitsAt d call at = LineFits (uses d.lines) d.head.promises d.lasting (length d.names) call at

-- the line at a place is so, if it is one of the call
abbrev pub LineFitsIn : Drafted → CallRead → ℕ → Type 0
LineFitsIn d call at = is_within (call.«from», call.to) at ≡ true → LineFitsAt d call at

-- each line of the call is so
abbrev pub AllLinesFit : Drafted → CallRead → Type 0
AllLinesFit d call = (at : ℕ) → LineFitsIn d call at

pub record LinesFit (d : Drafted) (call : CallRead) : Type 0 where
  pub labels : LabelsDiffer d.labels call
  pub lines : AllLinesFit d call

-- the call of this kind is as is asked of it
abbrev pub KindFits : Drafted → AlgorithmCall → Type 0
KindFits d kind = (call : CallRead) → call_in kind d.calls ≡ Some call → LinesFit d call

-- the calls of a draft whose gotos lead to their labels have lines, which are as is asked of them. There is a withdraw just where a
-- line may withdraw
pub record CallsFit (d : Drafted) : Type 0 where
  pub filled : All (λ call. call.«from» < call.to) d.calls
  pub lines : (kind : AlgorithmCall) → KindFits d kind
  pub withdraw : is_some (call_in Withdraw d.calls) ≡ list_any (λ line. may_withdraw line.form) d.lines

-- a line of the call that begins at `entry` notes this deed
pub record NotesDeed (d : Drafted) (entry : ℕ) (deed : AlgorithmDeed) : Type 0 where
  pub at : ℕ
  pub line : PlacedLine
  pub there : slice_get d.lines at ≡ Some line
  pub within : IsLineOf d.head.entries entry at
  pub notes : line.form ≡ Noting deed

-- what is asked of a draft whose gotos lead to their labels: that its calls fit, that their runs do what they may, and that its lock
-- notes that it enters, and its unlock that it leaves
pub record IsLawfulDraft (d : Drafted) : Type 0 where
  pub calls : CallsFit d
  pub runs : AllRuns d
  pub enters : NotesDeed d d.head.entries.lock Enter
  pub leaves : NotesDeed d d.head.entries.unlock Leave
