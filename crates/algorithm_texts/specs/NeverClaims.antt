-- Reading `never CONDITION`. A condition may name shared words, and places and phases of processes. Each of these is a fact, which stands
-- in the condition as a name of its own after those of the processes: a shared word in the place of its value, and `p is PHASE` and
-- `p at LABEL` as `(NAME = 1)`. Facts are read from the last token back, so that the index of a word has no word in it that is not read.
use Rattle.std.specs.Prelude.{◌≡◌, ℕ, ◌+◌, ◌/◌, ◌%◌, ◌==◌, nat_lt, Bool, true, false, not, ◌||◌, List, [], ◌∷◌, ◌++◌, length, map, drop, slice_get, Option, Some, None, is_some, Result, Ok, Err, if◌then◌else◌, codes, bytes_eq, position}
use Rattle.std.specs.List.{list_any}
use Rattle.algorithms.specs.declared.condition.Comparison.TheVariants.{Equal}
use Rattle.algorithms.specs.declared.fault.ReadFault.{ReadFault}
use Rattle.algorithms.specs.declared.never_claim.ClaimedPhase.{ClaimedPhase}
use Rattle.algorithms.specs.declared.never_claim.ClaimedPhase.TheVariants.{Out, Doorway, Waiting, Inside, Dead}
use Rattle.algorithm_texts.specs.declared.claims.ClaimReading.{ClaimReading}
use Rattle.algorithm_texts.specs.declared.lines.ClaimLabel.{ClaimLabel}
use Rattle.algorithm_texts.specs.declared.lines.Label.{Label}
use Rattle.algorithm_texts.specs.declared.tokens.Sign.TheVariants.{Close, Colon, Comma, Comparison, Open}
use Rattle.algorithm_texts.specs.declared.tokens.Token.{Token}
use Rattle.algorithm_texts.specs.declared.tokens.Token.TheVariants.{Number, Word, Sign}
use Rattle.algorithm_texts.specs.Parts.{Formula, ◌>>=◌}
use Rattle.algorithm_texts.specs.Grammar.{Scope, is_among}
use Rattle.algorithm_texts.specs.Fronts.{is_me, is_the_word, is_the_sign, letters_of, named_by, past_sign, value_if}
use Rattle.algorithm_texts.specs.Operands.{RefusesAs}
use Rattle.algorithm_texts.specs.Drafts.{Drafted, FactForm, OfWord, OfPhase, OfPlace, LineForm, Accessing, PlacedLine, fact_form}
use Rattle.algorithm_texts.specs.LineDrafts.{new_name, read_condition, read_word, scope_in, with_names}
use Rattle.algorithm_texts.specs.NewNames.{undeclared_name}

-- ---- processes

-- a second process and the colon after it, with the names and the tokens after it
abbrev pub read_second_process : Scope → List (List ℕ) → List Token → Option (List (List ℕ) × List Token)
read_second_process scope names tokens = do
  rest ← past_sign tokens Comma
  name ← undeclared_name scope names (slice_get rest 0)
  end ← past_sign (drop 1 rest) Colon
  Some (names ++ name ∷ [], end)

-- one process or two, up to a colon
abbrev pub read_named_processes : Scope → List Token → Option (List (List ℕ) × List Token)
read_named_processes scope tokens = do
  name ← undeclared_name scope [] (slice_get tokens 0)
  if is_the_sign (slice_get tokens 1) Colon then Some (name ∷ [], drop 2 tokens) else read_second_process scope (name ∷ []) (drop 1 tokens)

-- `for NAME:` or `for NAME, NAME:`, where it comes next, and the tokens after it
abbrev pub read_processes : Scope → List Token → Option (List (List ℕ) × List Token)
read_processes scope tokens = if is_the_word (slice_get tokens 0) (codes "for") then read_named_processes scope (drop 1 tokens) else Some ([], tokens)

-- ---- facts

-- the tokens from some token on, in which each fact stands as a name, with the facts, the names and the labels so far
pub record FactsRead : Type 0 where
  pub tokens : List Token
  pub facts : List FactForm
  pub names : List (List ℕ)
  pub labels : List ClaimLabel

abbrev pub facts_of : ClaimReading → Drafted → FactsRead
facts_of r d = record { tokens = r.tokens.items; facts = map fact_form r.facts.items; names = d.names; labels = d.claim_labels }

-- a draft with these names and labels
abbrev pub with_facts_read : FactsRead → Drafted → Drafted
with_facts_read r d = record d { names = r.names; claim_labels = r.labels }

-- what a function makes of what is read is what the definition gives, where that is something. Else its fault is of this kind
abbrev pub MakesFacts : {A : Type 0} → FactsRead → Result A ReadFault → Option FactsRead → ReadFault → Type 0
MakesFacts now (Ok x) o kind = o ≡ Some now
MakesFacts now (Err fault) o kind = RefusesAs fault o kind

-- the name of a fact is the number of its name, in two digits: no name of a text begins with a digit
abbrev pub fact_letters : ℕ → List ℕ
fact_letters k = (48 + k / 10 % 10) ∷ (48 + k % 10) ∷ []

-- one fact more, whose name stands before these tokens
abbrev pub with_fact : FactForm → List Token → FactsRead → Option FactsRead
with_fact fact tokens r =
    if nat_lt (length r.names) 64
    then Some (record {
      tokens = Word (fact_letters (length r.names)) ∷ tokens;
      facts = r.facts ++ fact ∷ [];
      names = r.names ++ fact_letters (length r.names) ∷ [];
      labels = r.labels;
    })
    else None

abbrev pub with_token : Token → FactsRead → FactsRead
with_token token r = record r { tokens = token ∷ r.tokens }

-- a fact that is so, before these tokens. It stands in brackets, so that nothing beside it is read with it
abbrev pub with_test : FactForm → List Token → FactsRead → Option FactsRead
with_test fact tokens r = do
  now ← with_fact fact (Sign (Comparison Equal) ∷ (Number 1 ∷ (Sign Close ∷ tokens))) r
  Some (with_token (Sign Open) now)

abbrev pub begins_shared_word : List (List ℕ) → Option Token → Bool
begins_shared_word declared None = false
begins_shared_word declared (Some (Number n)) = false
begins_shared_word declared (Some (Word word)) = is_among declared word
begins_shared_word declared (Some (Sign sign)) = false

abbrev pub with_read_names : List (List ℕ) → FactsRead → FactsRead
with_read_names names r = record r { names = names }

-- the value of a shared word, with its index. An index has no name in it but those that are there
abbrev pub read_word_fact : Drafted → FactsRead → Option FactsRead
read_word_fact d r = do
  word ← read_word (scope_in d) d.extents r.names r.tokens
  value_if (length word.2 == length r.names) (with_fact (OfWord word.0) word.1 (with_read_names word.2 r))

abbrev pub read_value_fact : Drafted → FactsRead → Option FactsRead
read_value_fact d r = if begins_shared_word d.declared (slice_get r.tokens 0) then read_word_fact d r else Some r

-- the name that stands first
abbrev pub first_name : FactsRead → Option ℕ
first_name r = do
  word ← letters_of (slice_get r.tokens 0)
  position (λ name. bytes_eq name word) r.names

abbrev pub phase_words : List (List ℕ × ClaimedPhase)
phase_words =
    (codes "out", Out)
    ∷ (codes "doorway", Doorway)
    ∷ (codes "waiting", Waiting)
    ∷ (codes "inside", Inside)
    ∷ (codes "dead", Dead)
    ∷ []

-- `NAME is PHASE`
abbrev pub read_phase_fact : FactsRead → Option FactsRead
read_phase_fact r = do
  name ← first_name r
  phase ← named_by phase_words (slice_get r.tokens 2)
  with_test (OfPhase name phase) (drop 3 r.tokens) r

abbrev pub with_label : ℕ → List ℕ → FactsRead → FactsRead
with_label number name r = record r { labels = r.labels ++ record { name = name; number = number } ∷ [] }

-- `NAME at LABEL`
abbrev pub read_place_fact : ℕ → FactsRead → Option FactsRead
read_place_fact number r = do
  name ← first_name r
  label ← new_name (slice_get r.tokens 2)
  with_test (OfPlace name (length r.labels)) (drop 3 r.tokens) (with_label number label r)

-- A test begins with a name. Before a sign, such as the end of an index, and before a number none is read
abbrev pub read_test_fact : ℕ → FactsRead → Option FactsRead
read_test_fact number r =
    if not (is_some (letters_of (slice_get r.tokens 0))) then Some r
    else if is_the_word (slice_get r.tokens 1) (codes "is") then read_phase_fact r
    else if is_the_word (slice_get r.tokens 1) (codes "at") then read_place_fact number r
    else Some r

-- after `is` and `at` stands the name of a phase or of a label
abbrev pub begins_test : Token → Bool
begins_test token = is_the_word (Some token) (codes "is") || is_the_word (Some token) (codes "at")

-- one token more, before those that are read. One that is the name of a phase or of a label is no fact
abbrev pub read_fact : Drafted → Bool → Token → FactsRead → Option FactsRead
read_fact d true token r = Some (with_token token r)
read_fact d false token r = read_value_fact d (with_token token r) >>= read_test_fact d.number

-- All tokens, from the last one back. Whether the first is the name of a phase or of a label, the token before it says
abbrev pub read_facts : Drafted → FactsRead → Bool → List Token → Option FactsRead
read_facts d r names [] = Some r
read_facts d r names (token ∷ tokens) = read_facts d r (begins_test token) tokens >>= read_fact d names token

-- ---- claims

abbrev pub no_facts : Drafted → FactsRead
no_facts d = record { tokens = []; facts = []; names = d.names; labels = d.claim_labels }

-- a condition that names nothing but processes and facts
abbrev pub read_claimed_condition : Drafted → FactsRead → Option Formula
read_claimed_condition d r = do
  c ← read_condition (scope_in d) r.names r.tokens
  value_if (length c.1 == length r.names) (Some c.0)

-- the condition of a claim, in a draft whose names are its processes. There is no process of its own, so no `me`
abbrev pub read_claim : Drafted → List Token → Option (FactsRead × Formula)
read_claim d tokens = do
  r ← if list_any is_me tokens then None else read_facts d (no_facts d) false tokens
  c ← read_claimed_condition d r
  Some (r, c)

abbrev pub with_claim : ℕ → FactsRead → Formula → Drafted → Drafted
with_claim processes r condition d = record d {
  claims = d.claims ++ record { number = d.number; processes = processes; facts = r.facts; condition = condition } ∷ [];
  claim_labels = r.labels;
}

-- a claim names no row of private names
abbrev pub without_rows : Drafted → Drafted
without_rows d = record d { head = record d.head { rows = [] } }

-- `CONDITION`, or `for NAMES: CONDITION`, after `never`
abbrev pub read_never : Drafted → List Token → Option Drafted
read_never d tokens = do
  processes ← read_processes (scope_in (without_rows d)) tokens
  claim ← read_claim (with_names processes.0 (without_rows d)) processes.1
  Some (with_claim (length processes.0) claim.0 claim.1 d)

-- ---- the labels that claims name

abbrev pub has_name : List ℕ → Label → Bool
has_name name label = bytes_eq label.name name

-- the label of this name, where there is just one in the text
abbrev pub only_label : List Label → List ℕ → Option Label
only_label labels name = do
  k ← position (has_name name) labels
  label ← slice_get labels k
  if list_any (has_name name) (drop (k + 1) labels) then None else Some label

abbrev pub is_access_form : LineForm → Bool
is_access_form (Accessing a) = true
is_access_form other = false

abbrev pub is_access_line : PlacedLine → Bool
is_access_line line = is_access_form line.form

abbrev pub place_from : List PlacedLine → ℕ → Option ℕ → ℕ
place_from lines place None = length lines
place_from lines place (Some k) = place + k

-- the place of the first access from a place on, or how many lines there are
abbrev pub access_below : List PlacedLine → ℕ → ℕ
access_below lines place = place_from lines place (position is_access_line (drop place lines))

-- where a process is that is at a label which claims name
abbrev pub claimed_place : Drafted → ClaimLabel → Option ℕ
claimed_place d claimed = do
  label ← only_label d.labels claimed.name
  Some (access_below d.lines label.place)

abbrev pub claimed_places_of : Drafted → List ClaimLabel → Option (List ℕ)
claimed_places_of d [] = Some []
claimed_places_of d (claimed ∷ all) = do
  place ← claimed_place d claimed
  places ← claimed_places_of d all
  Some (place ∷ places)

-- the places of all labels that claims name
abbrev pub claimed_places : Drafted → Option (List ℕ)
claimed_places d = claimed_places_of d d.claim_labels

abbrev pub has_no_place : Drafted → ClaimLabel → Bool
has_no_place d claimed = not (is_some (claimed_place d claimed))
