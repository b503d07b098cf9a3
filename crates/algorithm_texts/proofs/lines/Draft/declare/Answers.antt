use Rattle.std.proofs.Common.{◌≡◌, ℕ, List, [], ◌∷◌, ◌++◌, map, Option, string_bytes, ap, ◌∙◌}
use Rattle.std.proofs.lemmas.List.{map-append}
use Rattle.std.proofs.lemmas.Str.{IsUtf8-from_ascii}
use Rattle.std.specs.Option.{option_map}
use Rattle.algorithms.specs.declared.algorithm.Declaration.{Declaration}
use Rattle.algorithm_texts.specs.Parts.{Term, term_of}
use Rattle.algorithm_texts.specs.Drafts.{Drafted, DraftExtent, draft_view, extent_of}
use Rattle.algorithm_texts.proofs.lines.Draft.declare.Goals as goal

mapped : {A B : Type 0} (f : A → B) (now items : List A) (x : A) → now ≡ items ++ x ∷ [] → map f now ≡ map f items ++ f x ∷ []
mapped f now items x e = ap (map f) e ∙ map-append f items (x ∷ [])

abbrev with_columns : Drafted → List (List ℕ) → List DraftExtent → List (Option Term) → List (Option Term) → Drafted
with_columns d names extents bounds homes = record d { declared = names; extents = extents; head = record d.head { bounds = bounds; homes = homes } }

pub returns-clause-ok : goal.returns-clause-ok
returns-clause-ok c =
    let old = c.args.self.now.algorithm.declarations.items in
    let now = c.push.new.self.items in
    let x : Declaration = record { name = c.in_ok-name.name; extent = c.args.extent; bound = c.args.bound; home = c.args.home } in
    let name = c.in_ok-name.ensures.ok (IsUtf8-from_ascii c.args.name.now c.requires) in
    let names : map (λ d. string_bytes d.name) now ≡ map (λ d. string_bytes d.name) old ++ c.args.name.now ∷ [] =
    mapped (λ d. string_bytes d.name) now old x c.in_ok-push.ensures.items ∙ ap (λ n. map (λ d. string_bytes d.name) old ++ n ∷ []) name in
    let extents = mapped (λ (d : Declaration). extent_of d.extent) now old x c.in_ok-push.ensures.items in
    let bounds = mapped (λ (d : Declaration). option_map (λ v. term_of v) d.bound) now old x c.in_ok-push.ensures.items in
    let homes = mapped (λ (d : Declaration). option_map (λ v. term_of v) d.home) now old x c.in_ok-push.ensures.items in
    λ i. with_columns (draft_view c.args.self.now) (names i) (extents i) (bounds i) (homes i)
