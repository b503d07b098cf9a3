use Rattle.std.proofs.Common.{◌≡◌, ℕ, ◌+◌, true, List, [], ◌∷◌, ◌++◌, length, map, String, string_bytes, ap, sym, ◌∙◌, length-append, arith}
use Rattle.std.specs.declared.alloc.Global.{Global}
use Rattle.std.proofs.lemmas.List.{length-map, map-append}
use Rattle.std.proofs.lemmas.Str.{IsUtf8-from_ascii}
use Rattle.algorithms.specs.declared.algorithm.Algorithm.{Algorithm}
use Rattle.algorithms.specs.declared.algorithm.NamedRow.{NamedRow}
use Rattle.algorithms.proofs.FirstWords.{values_length}
use Rattle.algorithm_texts.specs.Grammar.{DraftRow}
use Rattle.algorithm_texts.specs.Operands.{names_of, row_of, rows_of}
use Rattle.algorithm_texts.specs.Parts.{Term, term_of}
use Rattle.algorithm_texts.specs.Drafts.{Drafted, draft_view, element_letters, names_of_row}
use Rattle.algorithm_texts.proofs.lines.Draft.declare_row.Goals as goal

mapped : {A B : Type 0} (f : A → B) (now items : List A) (x : A) → now ≡ items ++ x ∷ [] → map f now ≡ map f items ++ f x ∷ []
mapped f now items x e = ap (map f) e ∙ map-append f items (x ∷ [])

abbrev rowed : List ℕ → ℕ → Term → DraftRow
rowed name first size = record { name = name; first = first; size = size }

-- a draft with these names and rows
abbrev with_names_and_rows : Drafted → List (List ℕ) → ℕ → List DraftRow → Drafted
with_names_and_rows d names lasting rows = record d { names = names; lasting = lasting; says_values = true; head = record d.head { rows = rows } }

more_names : (names : List (List ℕ)) (name : List ℕ) → length (names ++ names_of_row name) ≡ length names + 16
more_names names name =
    let all = length-append names (names_of_row name) in
    let sixteen = values_length (element_letters name) 16 in
    omega (arith, all, sixteen)

pub returns-clause-ok : goal.returns-clause-ok
returns-clause-ok c =
    let self = c.args.self.now in
    let d = draft_view self in
    let before = self.algorithm in
    let between = c.push_names.new.algorithm in
    let bytes : String Global → List ℕ = λ text. string_bytes text in
    let names : names_of between ≡ d.names ++ names_of_row c.args.name.now = c.in_ok-push_names.ensures.ok in
    let first : c.len-first.result ≡ length d.names = c.len-first.ensures ∙ before.names.ok.0 ∙ sym (length-map before.names.items bytes) in
    let lasting : c.len-self.result ≡ length d.names + 16 =
    c.len-self.ensures ∙ between.names.ok.0 ∙ sym (length-map between.names.items bytes) ∙ ap length names ∙ more_names d.names c.args.name.now in
    let row : NamedRow = record { name = c.in_ok-name.name; first = c.len-first.result; size = c.args.size } in
    let name = c.in_ok-name.ensures.ok (IsUtf8-from_ascii c.args.name.now c.requires) in
    let old : rows_of between ≡ d.head.rows = ap (λ (a : Algorithm). rows_of a) c.push_names.ensures.kept in
    let rows : map row_of c.push.new.self.items ≡ d.head.rows ++ rowed c.args.name.now (length d.names) (term_of c.args.size) ∷ [] =
    mapped row_of c.push.new.self.items between.rows.items row c.in_ok-push.ensures.items
    ∙ ap (λ (rs : List DraftRow). rs ++ row_of row ∷ []) old
    ∙ (λ i. d.head.rows ++ rowed (name i) (first i) (term_of c.args.size) ∷ []) in
    ap (λ (a : Algorithm). draft_view (record self { algorithm = record a { lasting = c.len-self.result; rows = c.push.new.self }; says_values = true })) c.push_names.ensures.kept
    ∙ (λ i. with_names_and_rows d (names i) (lasting i) (rows i))
