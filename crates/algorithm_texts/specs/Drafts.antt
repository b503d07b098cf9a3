-- Lines of an algorithm, and drafts of one, without their memory.
use Rattle.std.specs.Prelude.{ℕ, ◌+◌, nat_lt, Bool, true, List, [], ◌∷◌, ◌++◌, length, map, reverse, slice_set, Option, Some, None, if◌then◌else◌, string_bytes}
use Rattle.algorithms.specs.FirstWords.{values_to}
use Rattle.std.specs.Option.{option_map}
use Rattle.algorithms.specs.declared.algorithm.Algorithm.{Algorithm}
use Rattle.algorithms.specs.declared.algorithm.Entries.{Entries}
use Rattle.algorithms.specs.declared.algorithm.Extent.{Extent}
use Rattle.algorithms.specs.declared.algorithm.Extent.TheVariants.{One, Each, Array, Table}
use Rattle.algorithms.specs.declared.algorithm.Promises.{Promises}
use Rattle.algorithms.specs.declared.algorithm.StepBounds.{StepBounds}
use Rattle.algorithms.specs.declared.expression.Expression.{Expression}
use Rattle.algorithms.specs.declared.line.AccessLine.{AccessLine}
use Rattle.algorithms.specs.declared.line.Action.{Action}
use Rattle.algorithms.specs.declared.line.Action.TheVariants.{Load, Store, Await, Swap}
use Rattle.algorithms.specs.declared.line.AlgorithmDeed.{AlgorithmDeed}
use Rattle.algorithms.specs.declared.line.Elements.{Elements}
use Rattle.algorithms.specs.declared.line.Elements.TheVariants as which
use Rattle.algorithms.specs.declared.line.LineKind.{LineKind}
use Rattle.algorithms.specs.declared.line.LineKind.TheVariants.{Access, Local, Done}
use Rattle.algorithms.specs.declared.line.AlgorithmLine.{AlgorithmLine}
use Rattle.algorithms.specs.declared.line.LocalLine.{LocalLine}
use Rattle.algorithms.specs.declared.line.LocalLine.TheVariants.{Assign, AssignRow, Note, Goto, Branch, First, Next}
use Rattle.algorithms.specs.declared.line.Members.{Members}
use Rattle.algorithms.specs.declared.line.Members.TheVariants.{All, Others, Lower, Higher, Up, Down}
use Rattle.algorithms.specs.declared.line.WordOf.{WordOf}
use Rattle.algorithms.specs.declared.never_claim.ClaimedPhase.{ClaimedPhase}
use Rattle.algorithms.specs.declared.never_claim.NeverClaim.{NeverClaim}
use Rattle.algorithms.specs.declared.never_claim.StateFact.{StateFact}
use Rattle.algorithms.specs.declared.never_claim.StateFact.TheVariants.{Word as WordFact, Phase as PhaseFact, Place as PlaceFact}
use Rattle.algorithm_texts.specs.declared.lines.CallRead.{CallRead}
use Rattle.algorithm_texts.specs.declared.lines.ClaimLabel.{ClaimLabel}
use Rattle.algorithm_texts.specs.declared.lines.Draft.{Draft}
use Rattle.algorithm_texts.specs.declared.lines.Jump.{Jump}
use Rattle.algorithm_texts.specs.declared.lines.Label.{Label}
use Rattle.algorithm_texts.specs.declared.lines.Opened.{Opened}
use Rattle.algorithm_texts.specs.Parts.{Term, Formula, term_of, formula_of}
use Rattle.algorithm_texts.specs.Grammar.{DraftRow}
use Rattle.algorithm_texts.specs.Operands.{names_of, rows_of, declared_of, named_constants}

-- ---- lines

-- a shared word, with its place where it is one of an array
pub record SharedWord : Type 0 where
  pub declaration : ℕ
  pub index : Option Term

-- what an access does with its word
pub data DraftAction : Type 0 where
  Loading : ℕ → DraftAction
  Storing : Term → DraftAction
  Awaiting : ℕ → Formula → DraftAction
  Swapping : ℕ → Term → Option Formula → Option Formula → DraftAction

pub record AccessForm : Type 0 where
  pub word : SharedWord
  pub act : DraftAction
  pub may_withdraw : Bool

-- what a loop goes over: processes, or numbers between two ends
pub data DraftMembers : Type 0 where
  AllProcesses : DraftMembers
  OtherProcesses : DraftMembers
  LowerProcesses : DraftMembers
  HigherProcesses : DraftMembers
  Rising : Term → Term → DraftMembers
  Falling : Term → Term → DraftMembers

-- which values of a row a line sets: all, by the row's size, or the one at an index
pub data DraftElements : Type 0 where
  AllElements : Term → DraftElements
  ElementAt : Term → DraftElements

-- what a line is
pub data LineForm : Type 0 where
  Accessing : AccessForm → LineForm
  Assigning : ℕ → Term → LineForm
  SettingRow : ℕ → DraftElements → Term → LineForm
  Noting : AlgorithmDeed → LineForm
  Going : ℕ → LineForm
  Branching : Formula → ℕ → LineForm
  Beginning : ℕ → DraftMembers → ℕ → LineForm
  Repeating : ℕ → DraftMembers → ℕ → LineForm
  Ending : ℕ → LineForm

-- a line, with its number in the text
pub record PlacedLine : Type 0 where
  pub number : ℕ
  pub form : LineForm

abbrev pub word_of : WordOf → SharedWord
word_of w = record { declaration = w.declaration; index = option_map (λ i. term_of i) w.index }

abbrev pub act_of : Action → DraftAction
act_of (Load name) = Loading name
act_of (Store value) = Storing (term_of value)
act_of (Await name until) = Awaiting name (formula_of until)
act_of (Swap name value guard until) = Swapping name (term_of value) (option_map (λ c. formula_of c) guard) (option_map (λ c. formula_of c) until)

abbrev pub access_of : AccessLine → AccessForm
access_of a = record { word = word_of a.word; act = act_of a.action; may_withdraw = a.may_withdraw }

abbrev pub members_form : Members → DraftMembers
members_form All = AllProcesses
members_form Others = OtherProcesses
members_form Lower = LowerProcesses
members_form Higher = HigherProcesses
members_form (Up a b) = Rising (term_of a) (term_of b)
members_form (Down a b) = Falling (term_of a) (term_of b)

abbrev pub elements_form : Elements → DraftElements
elements_form (which.All size) = AllElements (term_of size)
elements_form (which.At index) = ElementAt (term_of index)

abbrev pub local_form : LocalLine → LineForm
local_form (Assign name value) = Assigning name (term_of value)
local_form (AssignRow row elements value) = SettingRow row (elements_form elements) (term_of value)
local_form (Note deed) = Noting deed
local_form (Goto place) = Going place
local_form (Branch condition otherwise) = Branching (formula_of condition) otherwise
local_form (First name members after) = Beginning name (members_form members) after
local_form (Next name members body) = Repeating name (members_form members) body

abbrev pub form_of : LineKind → LineForm
form_of (Access a) = Accessing (access_of a)
form_of (Local l) = local_form l
form_of (Done answer) = Ending answer

abbrev pub line_of : AlgorithmLine → PlacedLine
line_of l = record { number = l.number; form = form_of l.form }

abbrev pub lines_of : Algorithm → List PlacedLine
lines_of a = map line_of a.lines.items

abbrev pub answers_of : Algorithm → List (List ℕ)
answers_of a = map (λ answer. string_bytes answer) a.answers.items

-- how many words a declaration has: one, one for each process, or as many as a size. A table also has a number of words in a row
pub data DraftExtent : Type 0 where
  OneWord : DraftExtent
  OfProcesses : DraftExtent
  OfSize : Term → DraftExtent
  OfRows : Term → Term → DraftExtent

abbrev pub extent_of : Extent → DraftExtent
extent_of One = OneWord
extent_of Each = OfProcesses
extent_of (Array size) = OfSize (term_of size)
extent_of (Table size columns) = OfRows (term_of size) (term_of columns)

abbrev pub extents_of : Algorithm → List DraftExtent
extents_of a = map (λ d. extent_of d.extent) a.declarations.items

-- a line that leads past a block, or a goto, leads to this place
abbrev pub form_with_place : ℕ → LineForm → LineForm
form_with_place place (Accessing a) = Accessing a
form_with_place place (Assigning name value) = Assigning name value
form_with_place place (SettingRow row elements value) = SettingRow row elements value
form_with_place place (Noting deed) = Noting deed
form_with_place place (Going target) = Going place
form_with_place place (Branching condition otherwise) = Branching condition place
form_with_place place (Beginning name members after) = Beginning name members place
form_with_place place (Repeating name members body) = Repeating name members body
form_with_place place (Ending answer) = Ending answer

abbrev pub leading : List PlacedLine → ℕ → ℕ → Option PlacedLine → List PlacedLine
leading lines at place None = lines
leading lines at place (Some line) = slice_set lines at (record { number = line.number; form = form_with_place place line.form })

-- ---- claims

-- what a claim looks at: a word, the phase of the process of a name, or its place at a label of the claims
pub data FactForm : Type 0 where
  OfWord : SharedWord → FactForm
  OfPhase : ℕ → ClaimedPhase → FactForm
  OfPlace : ℕ → ℕ → FactForm

-- a claim, by its line, how many processes it names, and what it looks at
pub record ClaimForm : Type 0 where
  pub number : ℕ
  pub processes : ℕ
  pub facts : List FactForm
  pub condition : Formula

abbrev pub fact_form : StateFact → FactForm
fact_form (WordFact word) = OfWord (word_of word)
fact_form (PhaseFact name phase) = OfPhase name phase
fact_form (PlaceFact name label) = OfPlace name label

abbrev pub claim_form : NeverClaim → ClaimForm
claim_form c = record { number = c.number; processes = c.processes; facts = map fact_form c.facts.items; condition = formula_of c.condition }

abbrev pub claims_of : Algorithm → List ClaimForm
claims_of a = map claim_form a.claims.items

-- ---- drafts

-- the first value of a word, where it is said
abbrev pub start_term : Option Expression → Option Term
start_term start = option_map (λ v. term_of v) start

-- the bounds on own steps, where they are said
pub record StepTerms : Type 0 where
  pub exit : Option Term
  pub recovery : Option Term
  pub doorway : Option Term

abbrev pub step_terms : StepBounds → StepTerms
step_terms b = record {
  exit = option_map (λ v. term_of v) b.exit;
  recovery = option_map (λ v. term_of v) b.recovery;
  doorway = option_map (λ v. term_of v) b.doorway;
}

-- what the lines of a call leave alone
pub record DraftHead : Type 0 where
  pub name : List ℕ
  pub least : ℕ
  pub most : ℕ
  pub promises : Promises
  pub step_bounds : StepTerms
  pub constants : List (List ℕ × Term)
  pub rows : List DraftRow
  pub bounds : List (Option Term)
  pub homes : List (Option Term)
  pub entries : Entries

abbrev pub head_of : Algorithm → DraftHead
head_of a = record {
  name = string_bytes a.name;
  least = a.least;
  most = a.most;
  promises = a.promises;
  step_bounds = step_terms a.step_bounds;
  constants = named_constants a;
  rows = rows_of a;
  bounds = map (λ d. option_map (λ b. term_of b) d.bound) a.declarations.items;
  homes = map (λ d. option_map (λ h. term_of h) d.home) a.declarations.items;
  entries = a.entries;
}

-- what was read so far: also the first value of the words of each declaration, where one is said, whether a first value, a constant
-- or a size is, and the labels that claims name
pub record Drafted : Type 0 where
  pub head : DraftHead
  pub declared : List (List ℕ)
  pub extents : List DraftExtent
  pub starts : List (Option Term)
  pub says_values : Bool
  pub lasting : ℕ
  pub number : ℕ
  pub names : List (List ℕ)
  pub answers : List (List ℕ)
  pub lines : List PlacedLine
  pub opened : List Opened
  pub blocks : List (ℕ × ℕ)
  pub labels : List Label
  pub jumps : List Jump
  pub calls : List CallRead
  pub claims : List ClaimForm
  pub claim_labels : List ClaimLabel

abbrev pub draft_view : Draft → Drafted
draft_view d = record {
  head = head_of d.algorithm;
  declared = declared_of d.algorithm;
  extents = extents_of d.algorithm;
  starts = map start_term d.starts.items;
  says_values = d.says_values;
  lasting = d.algorithm.lasting;
  number = d.number;
  names = names_of d.algorithm;
  answers = answers_of d.algorithm;
  lines = lines_of d.algorithm;
  opened = reverse d.opened.items;
  blocks = d.blocks.items;
  labels = d.labels.items;
  jumps = d.jumps.items;
  calls = reverse d.calls.items;
  claims = claims_of d.algorithm;
  claim_labels = d.claim_labels.items;
}

-- ---- rows of private names

-- a number below 20 in decimal
abbrev pub index_letters : ℕ → List ℕ
index_letters k = if nat_lt k 10 then (48 + k) ∷ [] else 49 ∷ ((38 + k) ∷ [])

-- the name at an index of a row. No name of a text has a bracket
abbrev pub element_letters : List ℕ → ℕ → List ℕ
element_letters name k = name ++ (91 ∷ (index_letters k ++ (93 ∷ [])))

-- the names of a row
abbrev pub names_of_row : List ℕ → List (List ℕ)
names_of_row name = values_to (element_letters name) 16

abbrev pub with_row : List ℕ → Term → Drafted → Drafted
with_row name size d = record d {
  names = d.names ++ names_of_row name;
  lasting = length d.names + 16;
  says_values = true;
  head = record d.head { rows = d.head.rows ++ record { name = name; first = length d.names; size = size } ∷ [] };
}
