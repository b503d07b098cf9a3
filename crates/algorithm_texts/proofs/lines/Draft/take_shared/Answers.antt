use Rattle.std.proofs.Common.{◌≡◌, ◌<◌, ℕ, nat_lt, Bool, List, length, map, drop, slice_get, Option, Some, None, Result, if◌then◌else◌, string_bytes, sym, ap, subst, ◌∙◌, arith, rules}
use Rattle.std.proofs.lemmas.Bool.{lt-ltb}
use Rattle.std.proofs.lemmas.List.{length-map}
use Rattle.algorithms.specs.declared.algorithm.Declaration.{Declaration}
use Rattle.algorithms.specs.declared.fault.ReadFault.{ReadFault}
use Rattle.algorithms.specs.declared.fault.ReadFault.TheVariants.{TooBig}
use Rattle.algorithm_texts.specs.declared.tokens.Token.{Token}
use Rattle.algorithm_texts.specs.Parts.{◌>>=◌}
use Rattle.algorithm_texts.specs.Drafts.{Drafted, DraftExtent, draft_view, extent_of}
use Rattle.algorithm_texts.specs.LineDrafts.{Drafts, scope_in, with_names}
use Rattle.algorithm_texts.specs.LineFaults.{fault_from, undeclared_name_fault, extent_fault, word_values_fault, shared_fault}
use Rattle.algorithm_texts.specs.TextDrafts.{undeclared_name, is_array, read_extent, read_declared_words, read_shared}
use Rattle.algorithm_texts.proofs.lines.Draft.take_shared.Goals as goal

-- after a name that fits and its sizes, the line makes what the rest of it makes
read_as : (d now : Drafted) (tokens rest : List Token) (name : List ℕ) (extent : DraftExtent) → undeclared_name (scope_in d) d.names (slice_get tokens 0) ≡ Some name → length d.declared < 64
    → read_extent (scope_in d) d.names (drop 1 tokens) ≡ Some (extent, rest, now.names) → now ≡ with_names now.names d
    → read_shared d tokens ≡ read_declared_words now name extent rest
read_as d now tokens rest name extent named few sizes kept =
    ap (λ (o : Option (List ℕ)). o >>= (λ word. (if nat_lt (length d.declared) 64 then read_extent (scope_in d) d.names (drop 1 tokens) else None)
    >>= (λ e. read_declared_words (with_names e.2 d) word e.0 e.1))) named
    ∙ ap (λ (b : Bool). (if b then read_extent (scope_in d) d.names (drop 1 tokens) else None) >>= (λ e. read_declared_words (with_names e.2 d) name e.0 e.1)) (lt-ltb (length d.declared) 64 few)
    ∙ ap (λ (o : Option (DraftExtent × List Token × List (List ℕ))). o >>= (λ e. read_declared_words (with_names e.2 d) name e.0 e.1)) sizes
    ∙ ap (λ (x : Drafted). read_declared_words x name extent rest) (sym kept)

-- the fault of the line is that of the rest of it
rest_fault : (d now : Drafted) (tokens rest : List Token) (name : List ℕ) (extent : DraftExtent) → undeclared_name (scope_in d) d.names (slice_get tokens 0) ≡ Some name → length d.declared < 64
    → read_extent (scope_in d) d.names (drop 1 tokens) ≡ Some (extent, rest, now.names) → now ≡ with_names now.names d
    → shared_fault d tokens ≡ word_values_fault (scope_in now) (is_array extent) now.names rest
rest_fault d now tokens rest name extent named few sizes kept =
    let after : ReadFault = fault_from (read_extent (scope_in d) d.names (drop 1 tokens)) (extent_fault (scope_in d) d.names (drop 1 tokens))
    (λ e. word_values_fault (scope_in d) (is_array e.0) e.2 e.1) in
    ap (λ (o : Option (List ℕ)). fault_from o (undeclared_name_fault (slice_get tokens 0)) (λ word. if nat_lt (length d.declared) 64 then after else TooBig)) named
    ∙ ap (λ (b : Bool). if b then after else TooBig) (lt-ltb (length d.declared) 64 few)
    ∙ ap (λ (o : Option (DraftExtent × List Token × List (List ℕ))). fault_from o (extent_fault (scope_in d) d.names (drop 1 tokens)) (λ e. word_values_fault (scope_in d) (is_array e.0) e.2 e.1)) sizes
    ∙ ap (λ (x : Drafted). word_values_fault (scope_in x) (is_array extent) x.names rest) (sym kept)

carried : {A : Type 0} (now : Drafted) (r : Result A ReadFault) (o p : Option Drafted) (kind other : ReadFault) → o ≡ p → kind ≡ other → Drafts now r p other → Drafts now r o kind
carried now r o p kind other e f h = subst (λ k. Drafts now r o k) (sym f) (subst (λ x. Drafts now r x other) (sym e) h)

pub returns : goal.returns
returns c =
    let d = draft_view c.args.self.now in
    let now = draft_view c.extent.new.self in
    let tokens = c.args.tokens.now in
    let name = c.in_ok-name.name in
    let extent = extent_of c.in_ok-extent.extent in
    let rest = c.in_ok-extent.rest.now in
    let named : undeclared_name (scope_in d) d.names (slice_get tokens 0) ≡ Some name = search rules in
    let declarations = c.args.self.now.algorithm.declarations.items in
    let few : length (map (λ (x : Declaration). string_bytes x.name) declarations) < 64 =
    omega (arith, length-map declarations (λ (x : Declaration). string_bytes x.name), c.if-len-ge-MOST_DECLARATIONS.false, c.len.ensures) in
    let sizes : read_extent (scope_in d) d.names (drop 1 tokens) ≡ Some (extent, rest, now.names) =
    ap (read_extent (scope_in d) d.names) (sym c.after.ensures) ∙ c.in_ok-extent.ensures.extent in
    let kept : now ≡ with_names now.names d = c.in_ok-extent.ensures.kept in
    carried (draft_view c.declare_words.new.self) c.declare_words.result (read_shared d tokens) (read_declared_words now c.as_bytes.result.now extent rest) (shared_fault d tokens) (word_values_fault (scope_in now) (is_array extent) now.names rest)
    (read_as d now tokens rest name extent named few sizes kept ∙ ap (λ (w : List ℕ). read_declared_words now w extent rest) (sym c.as_bytes.ensures.letters))
    (rest_fault d now tokens rest name extent named few sizes kept)
    c.declare_words.ensures
