-- What a line does with private names, with the deeds and with a withdraw, wherever it leads.
use Rattle.std.specs.Prelude.{ℕ, nat_eq, Bool, true, false, not, ◌&&◌, ◌||◌, List, map, slice_get, Option, Some, None}
use Rattle.algorithms.specs.declared.algorithm.AlgorithmCall.{AlgorithmCall}
use Rattle.algorithms.specs.declared.algorithm.AlgorithmCall.TheVariants.{Lock}
use Rattle.algorithms.specs.declared.algorithm.Promises.{Promises}
use Rattle.algorithms.specs.declared.line.AlgorithmDeed.{AlgorithmDeed}
use Rattle.algorithms.specs.declared.line.AlgorithmDeed.TheVariants.{Begin, Ready, Enter, Reenter, Leave, Quit}
use Rattle.algorithm_texts.specs.declared.usage.Usage.{Usage}
use Rattle.algorithm_texts.specs.declared.usage.Usage.TheVariants.{Reads, Sets, Begins, Ends}
use Rattle.algorithm_texts.specs.Parts.{Term, Private, Element, Joined, Formula, Compare, ComparePairs, Both, Either, Negated}
use Rattle.algorithm_texts.specs.Drafts.{DraftAction, Loading, Storing, Awaiting, Swapping, LineForm, Accessing, DraftElements, AllElements, ElementAt, Assigning, SettingRow, Noting, Branching, Beginning, Repeating, PlacedLine, form_with_place}
use Rattle.algorithm_texts.specs.TextDrafts.{call_number}

-- ---- names

abbrev pub term_reads : ℕ → Term → Bool
term_reads name (Private k) = nat_eq k name
term_reads name (Element row i) = term_reads name i
term_reads name (Joined o a b) = term_reads name a || term_reads name b
term_reads name other = false

abbrev pub formula_reads : ℕ → Formula → Bool
formula_reads name (Compare c a b) = term_reads name a || term_reads name b
formula_reads name (ComparePairs c a b x y) = (term_reads name a || term_reads name b) || (term_reads name x || term_reads name y)
formula_reads name (Both a b) = formula_reads name a || formula_reads name b
formula_reads name (Either a b) = formula_reads name a || formula_reads name b
formula_reads name (Negated a) = formula_reads name a

abbrev pub index_reads : ℕ → Option Term → Bool
index_reads name None = false
index_reads name (Some index) = term_reads name index

abbrev pub formula_reads_if : ℕ → Option Formula → Bool
formula_reads_if name None = false
formula_reads_if name (Some condition) = formula_reads name condition

-- an `await` and a `swap` read their name after they have set it
abbrev pub act_reads : ℕ → DraftAction → Bool
act_reads name (Loading k) = false
act_reads name (Storing value) = term_reads name value
act_reads name (Awaiting k until) = not (nat_eq k name) && formula_reads name until
act_reads name (Swapping k value guard until) =
    not (nat_eq k name) && (term_reads name value || formula_reads_if name guard || formula_reads_if name until)

-- a line that sets values of a row reads these names of their indexes
abbrev pub elements_read : ℕ → DraftElements → Bool
elements_read name (AllElements size) = term_reads name size
elements_read name (ElementAt index) = term_reads name index

-- a line reads this name before it sets it
abbrev pub reads : ℕ → LineForm → Bool
reads name (Accessing a) = index_reads name a.word.index || act_reads name a.act
reads name (Assigning k value) = term_reads name value
reads name (SettingRow row elements value) = elements_read name elements || term_reads name value
reads name (Branching condition otherwise) = formula_reads name condition
reads name (Repeating k members body) = nat_eq k name
reads name other = false

abbrev pub act_sets : ℕ → DraftAction → Bool
act_sets name (Loading k) = nat_eq k name
act_sets name (Storing value) = false
act_sets name (Awaiting k until) = nat_eq k name
act_sets name (Swapping k value guard until) = nat_eq k name

-- a line sets this name, which is not that of its loop
abbrev pub sets : ℕ → LineForm → Bool
sets name (Accessing a) = act_sets name a.act
sets name (Assigning k value) = nat_eq k name
sets name other = false

-- a loop with this name begins here
abbrev pub begins_loop : ℕ → LineForm → Bool
begins_loop name (Beginning k members after) = nat_eq k name
begins_loop name other = false

-- a loop with this name ends here
abbrev pub ends_loop : ℕ → LineForm → Bool
ends_loop name (Repeating k members body) = nat_eq k name
ends_loop name other = false

-- a line uses this name so
abbrev pub has_usage : Usage → ℕ → LineForm → Bool
has_usage Reads = reads
has_usage Sets = sets
has_usage Begins = begins_loop
has_usage Ends = ends_loop

-- ---- deeds and withdraws

-- without order there are `enter` and `leave` alone, and `reenter` needs re-entry too
abbrev pub deed_fits : Promises → AlgorithmDeed → Bool
deed_fits promises Enter = true
deed_fits promises Leave = true
deed_fits promises Begin = promises.order
deed_fits promises Ready = promises.order
deed_fits promises Quit = promises.order
deed_fits promises Reenter = promises.order && promises.reentry

abbrev pub may_withdraw : LineForm → Bool
may_withdraw (Accessing a) = a.may_withdraw
may_withdraw other = false

-- the deed of a line fits the promises, and it may withdraw in the lock alone
abbrev pub fits : Promises → AlgorithmCall → LineForm → Bool
fits promises call (Accessing a) = not a.may_withdraw || nat_eq (call_number call) (call_number Lock)
fits promises call (Noting deed) = deed_fits promises deed
fits promises call other = true

-- ---- lines

-- lines, wherever they lead
abbrev pub uses : List PlacedLine → List LineForm
uses lines = map (λ line. form_with_place 0 line.form) lines

-- whether there is a line at a place that passes the test
abbrev pub passes_where : (LineForm → Bool) → Option LineForm → Bool
passes_where test None = false
passes_where test (Some form) = test form

abbrev pub passes_at : (LineForm → Bool) → List LineForm → ℕ → Bool
passes_at test forms at = passes_where test (slice_get forms at)
