-- The fault of a text: the first rule that it breaks, and the line that breaks it. Rules are looked at in rounds, and in each round in
-- an order: docs/use/algorithms.md, Faults of a text.
use Rattle.std.specs.Prelude.{◌≡◌, ◌⊎◌, ℕ, ◌<◌, ◌≤◌, nat_le, Bool, true, false, not, ◌&&◌, List, [], ◌∷◌, ◌++◌, length, drop, reverse, slice_get, bytes_eq, Option, Some, None, is_some, Ok, Err}
use Rattle.std.specs.List.{All, find, list_all}
use Rattle.algorithms.specs.Faults.{fault_of}
use Rattle.algorithms.specs.declared.algorithm.AlgorithmCall.{AlgorithmCall}
use Rattle.algorithms.specs.declared.algorithm.AlgorithmCall.TheVariants.{Lock, Unlock, Recover, Withdraw}
use Rattle.algorithms.specs.declared.fault.AlgorithmFault.{AlgorithmFault}
use Rattle.algorithms.specs.declared.fault.AlgorithmFault.TheVariants.{OutOfMemory}
use Rattle.algorithms.specs.declared.fault.ReadFault.{ReadFault}
use Rattle.algorithms.specs.declared.fault.ReadFault.TheVariants.{NoHeader, NoNewline, TooBig, NameTaken, UnknownName, NotAssignable, BadBlock, BadLabel, Unset, Endless, NoStep, FallsOff, BadDeed, BadCall, NeverReached}
use Rattle.algorithms.specs.declared.line.AlgorithmDeed.TheVariants.{Enter, Leave}
use Rattle.algorithm_texts.specs.declared.lines.CallRead.{CallRead}
use Rattle.algorithm_texts.specs.declared.lines.ClaimLabel.{ClaimLabel}
use Rattle.algorithm_texts.specs.declared.lines.Jump.{Jump}
use Rattle.algorithm_texts.specs.declared.lines.Label.{Label}
use Rattle.algorithm_texts.specs.declared.tokens.Token.{Token}
use Rattle.algorithm_texts.specs.Drafts.{LineForm, Accessing, PlacedLine, Drafted}
use Rattle.algorithm_texts.specs.FinishedDrafts.{is_label_in, is_within, target_of, call_in, finished_draft}
use Rattle.algorithm_texts.specs.Lawful.{LabelsDiffer, ReadsKnown, SetsFree, LineFitsIn, AllLinesFit, CallsFit, NotesDeed}
use Rattle.algorithm_texts.specs.LineFaults.{promises_fault, head_fault, line_fault}
use Rattle.algorithm_texts.specs.NeverClaims.{claimed_places, has_no_place}
use Rattle.algorithm_texts.specs.TextDrafts.{PromisesSaid, Spoken, read_head, read_promises, read_line, read_text, empty_draft, end_call, with_number}
use Rattle.algorithm_texts.specs.TextLines.{SaysBefore, SaysUpTo, TextSays, IsFirstFaultyLine, and_line, is_no_feed}
use Rattle.algorithm_texts.specs.Tokens.{LineSays}
use Rattle.algorithm_texts.specs.UnreachedLines.{EndUnreached}
use Rattle.algorithm_texts.specs.Usage.{fits, may_withdraw, uses, passes_at}
use Rattle.algorithm_texts.specs.Runs.{LineReachedAt, EachIsReached, RunsStay, NamesSetAt, RunsSet, NotOnRound, NoneReturns, StepFirstAt, KindRuns, AllRuns}

-- this is so, or memory ran out
abbrev pub OrMemory : AlgorithmFault → Type 0 → Type 0
OrMemory fault IsSo = (fault ≡ OutOfMemory) ⊎ IsSo

-- ---- the first place

-- the first place at which this is not so
pub record FailsFirst (Holds : ℕ → Type 0) (at : ℕ) : Type 0 where
  pub fails : Holds at → ⊥
  pub before : (k : ℕ) → k < at → Holds k

abbrev pub number_where : Option PlacedLine → ℕ
number_where None = 0
number_where (Some line) = line.number

-- the number of the line at a place, or 0 where there is none
abbrev pub number_at : List PlacedLine → ℕ → ℕ
number_at lines at = number_where (slice_get lines at)

-- the fault is of this kind, at the first of these lines that breaks a rule
pub record IsFaultAtFirst (lines : List PlacedLine) (kind : ReadFault) (Holds : ℕ → Type 0) (fault : AlgorithmFault) : Type 0 where
  pub at : ℕ
  pub first : FailsFirst Holds at
  pub named : fault ≡ fault_of (number_at lines at) kind

-- ---- the first call

-- calls are looked at in this order
abbrev pub all_kinds : List AlgorithmCall
all_kinds = Lock ∷ (Unlock ∷ (Recover ∷ (Withdraw ∷ [])))

-- the fault is of the first of these kinds that breaks a rule
abbrev pub IsOfFirst : (AlgorithmCall → Type 0) → (AlgorithmCall → Type 0) → List AlgorithmCall → Type 0
IsOfFirst Holds IsFaultOf [] = ⊥
IsOfFirst Holds IsFaultOf (kind ∷ kinds) = IsFaultOf kind ⊎ (Holds kind × IsOfFirst Holds IsFaultOf kinds)

-- ---- round one: lines, their characters and their tokens

-- a line has a number, or a length, above the most
abbrev pub IsPastLimit : ℕ → List ℕ → Type 0
IsPastLimit number line = (4096 < number) ⊎ (1000 < length line)

-- a line is past a limit, or else a byte of it, a token or its answer is at fault
abbrev pub IsFaultOfTokens : ℕ → List ℕ → AlgorithmFault → Type 0
IsFaultOfTokens number line fault =
    (IsPastLimit number line × (fault ≡ fault_of number TooBig))
    ⊎ ((number ≤ 4096) × (length line ≤ 1000) × (kind : ReadFault) × LineSays line (Err kind) × (fault ≡ fault_of number kind))

-- a line says tokens, and with it there are too many lines that do
abbrev pub IsFaultOfCount : ℕ → List ℕ → List Spoken → AlgorithmFault → Type 0
IsFaultOfCount number line said fault =
    (number ≤ 4096) × (length line ≤ 1000) × (tokens : List Token) × (answer : List ℕ) × LineSays line (Ok (tokens, answer))
    × (1024 < length (said ++ and_line number tokens answer [])) × (fault ≡ fault_of number TooBig)

-- what comes after lines that say tokens: bytes without a line feed, or a line that is at fault
abbrev pub IsFaultOfNext : ℕ → List ℕ → List Spoken → AlgorithmFault → Type 0
IsFaultOfNext number rest said fault =
    ((0 < length rest) × (list_all is_no_feed rest ≡ true) × (fault ≡ fault_of number NoNewline))
    ⊎ ((line after : List ℕ) × (rest ≡ line ++ (10 ∷ after)) × (list_all is_no_feed line ≡ true)
    × (IsFaultOfTokens number line fault ⊎ IsFaultOfCount number line said fault))

-- the fault of the first line that says no tokens within the limits
pub record IsFaultOfLines (text : List ℕ) (fault : AlgorithmFault) : Type 0 where
  pub number : ℕ
  pub rest : List ℕ
  pub said : List Spoken
  pub before : SaysBefore text rest number said
  pub next : IsFaultOfNext number rest said fault

-- such a fault is at the first line with which the lines of a text no longer say tokens
abbrev pub NamesFirstLine : Type 0
NamesFirstLine = (text : List ℕ) (fault : AlgorithmFault) → IsFaultOfLines text fault → IsFirstFaultyLine fault (SaysUpTo text)

-- ---- round two: forms, declared names and blocks. Which of them a line breaks: specs/LineFaults.antt

-- nothing is made here, and the fault is of this kind, at this line
abbrev pub StopsOnLine : {A : Type 0} → ℕ → Option A → ReadFault → AlgorithmFault → Type 0
StopsOnLine line made kind fault = (made ≡ None) × (fault ≡ fault_of line kind)

-- the second line names no promises, or is not there
abbrev pub IsFaultOfSecond : ℕ → Option Spoken → AlgorithmFault → Type 0
IsFaultOfSecond first None fault = fault ≡ fault_of first NoHeader
IsFaultOfSecond first (Some second) fault = StopsOnLine second.number (read_promises second.tokens) (promises_fault second.tokens) fault

-- the first line is no header, or is not there, or else the second line is at fault
abbrev pub IsFaultOfHead : Option Spoken → Option Spoken → AlgorithmFault → Type 0
IsFaultOfHead None second fault = fault ≡ fault_of 1 NoHeader
IsFaultOfHead (Some first) second fault =
    StopsOnLine first.number (read_head first.tokens) (head_fault first.tokens) fault
    ⊎ ((head : List ℕ × ℕ × ℕ) × (read_head first.tokens ≡ Some head) × IsFaultOfSecond first.number second fault)

-- the first line, from a draft on, with which no draft is made, or the last one, where a block is open at the end
abbrev pub IsFaultOfForms : Drafted → List Spoken → AlgorithmFault → Type 0
IsFaultOfForms d [] fault = StopsOnLine d.number (end_call d.number d) BadBlock fault
IsFaultOfForms d (s ∷ ss) fault =
    StopsOnLine s.number (read_line (with_number s.number d) s.tokens s.answer d.number) (line_fault (with_number s.number d) s.tokens d.number) fault
    ⊎ ((now : Drafted) × (read_line (with_number s.number d) s.tokens s.answer d.number ≡ Some now) × IsFaultOfForms now ss fault)

-- the draft with which the lines after the first two begin
pub record BeginsDraft (spoken : List Spoken) (d : Drafted) : Type 0 where
  pub first : Spoken
  pub second : Spoken
  pub one : slice_get spoken 0 ≡ Some first
  pub two : slice_get spoken 1 ≡ Some second
  pub head : List ℕ × ℕ × ℕ
  pub promises : PromisesSaid
  pub says_head : read_head first.tokens ≡ Some head
  pub says_promises : read_promises second.tokens ≡ Some promises
  pub is : d ≡ empty_draft head promises second.number

-- the first line of a text with which no draft is made
abbrev pub IsFaultOfReading : List Spoken → AlgorithmFault → Type 0
IsFaultOfReading spoken fault =
    IsFaultOfHead (slice_get spoken 0) (slice_get spoken 1) fault
    ⊎ ((d : Drafted) × BeginsDraft spoken d × IsFaultOfForms d (drop 2 spoken) fault)

-- ---- round two, at its end: which calls there are

abbrev pub has_no_line : CallRead → Bool
has_no_line call = nat_le call.to call.«from»

-- a call has no lines: the first such of the text is named by the line that begins it
abbrev pub IsFaultOfEmptyCall : Drafted → AlgorithmFault → Type 0
IsFaultOfEmptyCall d fault = (call : CallRead) × (find has_no_line (reverse d.calls) ≡ Some call) × (fault ≡ fault_of call.number FallsOff)

abbrev pub has_both_calls : Drafted → Bool
has_both_calls d = is_some (call_in Lock d.calls) && is_some (call_in Unlock d.calls)

-- there is no lock or no unlock: the text's last line is named
abbrev pub IsFaultOfNoCall : Drafted → AlgorithmFault → Type 0
IsFaultOfNoCall d fault = (has_both_calls d ≡ false) × (fault ≡ fault_of d.number BadCall)

-- ---- round three: labels, names, deeds and withdraws

-- no label of the call before the one at this place has its name
abbrev pub LabelNewAt : List Label → CallRead → ℕ → Type 0
LabelNewAt labels call j = (i : ℕ) (a b : Label) → i < j → slice_get labels i ≡ Some a → slice_get labels j ≡ Some b
    → is_label_in call a ≡ true → is_label_in call b ≡ true → bytes_eq a.name b.name ≡ true → ⊥

-- the first label of the call that has the name of one before it
pub record IsFaultOfLabel (labels : List Label) (call : CallRead) (fault : AlgorithmFault) : Type 0 where
  pub at : ℕ
  pub label : Label
  pub there : slice_get labels at ≡ Some label
  pub first : FailsFirst (LabelNewAt labels call) at
  pub named : fault ≡ fault_of label.number NameTaken

-- a goto of the call leads to no label
abbrev pub leads_nowhere : List Label → List (ℕ × ℕ) → CallRead → Jump → Bool
leads_nowhere labels blocks call jump = is_within (call.«from», call.to) jump.place && not (is_some (target_of labels blocks call jump))

-- the first such goto
abbrev pub lost_jump : Drafted → CallRead → Option Jump
lost_jump d call = find (leads_nowhere d.labels d.blocks call) d.jumps

abbrev pub IsFaultOfJump : Drafted → CallRead → AlgorithmFault → Type 0
IsFaultOfJump d call fault = (jump : Jump) × (lost_jump d call ≡ Some jump) × (fault ≡ fault_of (number_at d.lines jump.place) BadLabel)

-- a withdraw that is not in the lock, or a deed that is not promised
abbrev pub unfit_kind : LineForm → ReadFault
unfit_kind (Accessing a) = BadCall
unfit_kind other = BadDeed

abbrev pub IsDeedUnfit : Drafted → CallRead → ℕ → ReadFault → Type 0
IsDeedUnfit d call at kind =
    (form : LineForm)
    × (slice_get (uses d.lines) at ≡ Some form)
    × (fits d.head.promises call.call form ≡ false)
    × (kind ≡ unfit_kind form)

-- what is wrong with the line at a place: it reads a name that it does not know, or it sets that of a loop, or its deed does not fit
abbrev pub IsUnfit : Drafted → CallRead → ℕ → ReadFault → Type 0
IsUnfit d call at kind =
    ((ReadsKnown d call at → ⊥) × (kind ≡ UnknownName))
    ⊎ ((ReadsKnown d call at × (SetsFree d call at → ⊥) × (kind ≡ NotAssignable))
    ⊎ (ReadsKnown d call at × SetsFree d call at × IsDeedUnfit d call at kind))

-- the first line of the call that does not fit
pub record IsFaultOfLine (d : Drafted) (call : CallRead) (fault : AlgorithmFault) : Type 0 where
  pub at : ℕ
  pub first : FailsFirst (LineFitsIn d call) at
  pub kind : ReadFault
  pub unfit : IsUnfit d call at kind
  pub named : fault ≡ fault_of (number_at d.lines at) kind

-- labels come first, then gotos, then lines
abbrev pub IsFaultOfCall : Drafted → CallRead → AlgorithmFault → Type 0
IsFaultOfCall d call fault =
    IsFaultOfLabel d.labels call fault
    ⊎ (LabelsDiffer d.labels call × (IsFaultOfJump d call fault ⊎ ((lost_jump d call ≡ None) × IsFaultOfLine d call fault)))

-- labels of the call differ, its gotos lead to labels, and its lines fit
pub record CallFits (d : Drafted) (call : CallRead) : Type 0 where
  pub labels : LabelsDiffer d.labels call
  pub jumps : lost_jump d call ≡ None
  pub lines : AllLinesFit d call

-- the same of the call of a kind, if it is there
abbrev pub KindCallFits : Drafted → AlgorithmCall → Type 0
KindCallFits d kind = (call : CallRead) → call_in kind d.calls ≡ Some call → CallFits d call

abbrev pub IsFaultOfKindCall : Drafted → AlgorithmFault → AlgorithmCall → Type 0
IsFaultOfKindCall d fault kind = (call : CallRead) × (call_in kind d.calls ≡ Some call) × IsFaultOfCall d call fault

-- the line at a place may not withdraw
abbrev pub StaysAt : List PlacedLine → ℕ → Type 0
StaysAt lines at = passes_at may_withdraw (uses lines) at ≡ false

-- no call withdraw is there: the first line that may withdraw is named. Or it is there and no line may: the call is named
abbrev pub IsFaultOfWithdraw : Drafted → AlgorithmFault → Type 0
IsFaultOfWithdraw d fault =
    ((call_in Withdraw d.calls ≡ None) × IsFaultAtFirst d.lines BadCall (StaysAt d.lines) fault)
    ⊎ ((call : CallRead) × (call_in Withdraw d.calls ≡ Some call) × ((at : ℕ) → StaysAt d.lines at) × (fault ≡ fault_of call.number BadCall))

-- the calls of a draft that was read: which there are, then each of them, then whether lines may withdraw
abbrev pub IsFaultOfAllCalls : Drafted → AlgorithmFault → Type 0
IsFaultOfAllCalls d fault =
    IsFaultOfEmptyCall d fault
    ⊎ (All (λ call. call.«from» < call.to) d.calls × (IsFaultOfNoCall d fault
    ⊎ ((has_both_calls d ≡ true) × (IsOfFirst (KindCallFits d) (IsFaultOfKindCall d fault) all_kinds
    ⊎ (((kind : AlgorithmCall) → KindCallFits d kind) × IsFaultOfWithdraw d fault)))))

-- ---- round three, at its end: the labels that claims name

-- the first of them that is in no call, or in two, by the line of its claim
abbrev pub IsFaultOfClaims : Drafted → AlgorithmFault → Type 0
IsFaultOfClaims d fault = (claimed : ClaimLabel) × (find (has_no_place d) d.claim_labels ≡ Some claimed) × (fault ≡ fault_of claimed.number BadLabel)

abbrev pub ClaimsHavePlaces : Drafted → Type 0
ClaimsHavePlaces d = (places : List ℕ) × (claimed_places d ≡ Some places)

-- ---- round four: what runs may do

-- a run goes on past the call's lines: the last of them is named
abbrev pub IsFaultOfEnd : Drafted → CallRead → AlgorithmFault → Type 0
IsFaultOfEnd d call fault = (RunsStay d call → ⊥) × (fault ≡ fault_of call.last FallsOff)

-- the first rule that the runs of a call break: a line that is never reached, a run past the end, a name that is not set, a line
-- on a round, an end or a deed before the first access
abbrev pub IsFaultOfRuns : Drafted → CallRead → AlgorithmFault → Type 0
IsFaultOfRuns d call fault =
    IsFaultAtFirst d.lines NeverReached (LineReachedAt d call) fault
    ⊎ (EachIsReached d call × (IsFaultOfEnd d call fault
    ⊎ (RunsStay d call × (IsFaultAtFirst d.lines Unset (NamesSetAt d call) fault
    ⊎ (RunsSet d call × (IsFaultAtFirst d.lines Endless (NotOnRound d call) fault
    ⊎ (NoneReturns d call × IsFaultAtFirst d.lines NoStep (StepFirstAt d call) fault)))))))

abbrev pub IsFaultOfKindRuns : Drafted → AlgorithmFault → AlgorithmCall → Type 0
IsFaultOfKindRuns d fault kind = (call : CallRead) × (call_in kind d.calls ≡ Some call) × IsFaultOfRuns d call fault

-- the same of all calls
abbrev pub IsFaultOfAllRuns : Drafted → AlgorithmFault → Type 0
IsFaultOfAllRuns d fault = IsOfFirst (KindRuns d) (IsFaultOfKindRuns d fault) all_kinds

-- ---- round four, at its end: ways and deeds

-- lines to which no run comes can not end their calls. No text that was read is known to be so
abbrev pub IsFaultOfWays : Drafted → AlgorithmFault → Type 0
IsFaultOfWays d fault = ((lines : List PlacedLine) → EndUnreached d lines → ⊥) × (fault ≡ fault_of d.number Endless)

abbrev pub number_begun : ℕ → Option CallRead → ℕ
number_begun last None = last
number_begun last (Some call) = call.number

-- the number of the line that begins the call of this kind, or of the text's last line where there is none
abbrev pub number_of_kind : Drafted → AlgorithmCall → ℕ
number_of_kind d kind = number_begun d.number (call_in kind d.calls)

-- the lock does not enter, or else the unlock does not leave
abbrev pub IsFaultOfEither : Drafted → Type 0 → Type 0 → AlgorithmFault → Type 0
IsFaultOfEither d Enters Leaves fault =
    ((Enters → ⊥) × (fault ≡ fault_of (number_of_kind d Lock) BadDeed))
    ⊎ (Enters × (Leaves → ⊥) × (fault ≡ fault_of (number_of_kind d Unlock) BadDeed))

abbrev pub IsFaultOfDeeds : Drafted → AlgorithmFault → Type 0
IsFaultOfDeeds d fault = IsFaultOfEither d (NotesDeed d d.head.entries.lock Enter) (NotesDeed d d.head.entries.unlock Leave) fault

-- ---- all rounds

-- round four, in a draft whose calls fit: the runs of all calls, then the deeds that a lock and an unlock have to say
abbrev pub IsFaultOfFlow : Drafted → AlgorithmFault → Type 0
IsFaultOfFlow d fault = IsFaultOfAllRuns d fault ⊎ (AllRuns d × (IsFaultOfWays d fault ⊎ IsFaultOfDeeds d fault))

-- in a draft whose calls fit: the labels of its claims, then round four
abbrev pub IsFaultOfFitting : Drafted → AlgorithmFault → Type 0
IsFaultOfFitting d fault = IsFaultOfClaims d fault ⊎ (ClaimsHavePlaces d × IsFaultOfFlow d fault)

-- rounds three and four, in the draft that was read: its calls, then its claims, and what the runs of the draft that is made of it do
abbrev pub IsFaultOfDraft : Drafted → AlgorithmFault → Type 0
IsFaultOfDraft d fault = IsFaultOfAllCalls d fault ⊎ ((now : Drafted) × (finished_draft d ≡ Some now) × CallsFit now × IsFaultOfFitting now fault)

-- the lines of a text make this draft
abbrev pub MakesDraft : List ℕ → Drafted → Type 0
MakesDraft text d = (spoken : List Spoken) × TextSays text spoken × (read_text spoken ≡ Some d)

-- the lines of a text say tokens, and the fault is of the first with which no draft is made
abbrev pub IsFaultOfLater : List ℕ → AlgorithmFault → Type 0
IsFaultOfLater text fault = (spoken : List Spoken) × TextSays text spoken × IsFaultOfReading spoken fault

-- the fault of a text: that of its first line that says no tokens, or with which no draft is made, or of the draft that its lines make
abbrev pub IsFaultOfText : List ℕ → AlgorithmFault → Type 0
IsFaultOfText text fault =
    IsFaultOfLines text fault
    ⊎ (IsFaultOfLater text fault ⊎ ((d : Drafted) × MakesDraft text d × IsFaultOfDraft d fault))
