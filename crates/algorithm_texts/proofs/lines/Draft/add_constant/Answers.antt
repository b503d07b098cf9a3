use Rattle.std.proofs.Common.{◌≡◌, ℕ, true, List, [], ◌∷◌, ◌++◌, map, string_bytes, ap, ◌∙◌}
use Rattle.std.proofs.lemmas.List.{map-append}
use Rattle.std.proofs.lemmas.Str.{IsUtf8-from_ascii}
use Rattle.algorithms.specs.declared.algorithm.NamedConstant.{NamedConstant}
use Rattle.algorithm_texts.specs.Parts.{Term, term_of}
use Rattle.algorithm_texts.specs.Drafts.{Drafted, draft_view}
use Rattle.algorithm_texts.proofs.lines.Draft.add_constant.Goals as goal

mapped : {A B : Type 0} (f : A → B) (now items : List A) (x : A) → now ≡ items ++ x ∷ [] → map f now ≡ map f items ++ f x ∷ []
mapped f now items x e = ap (map f) e ∙ map-append f items (x ∷ [])

abbrev named : NamedConstant → List ℕ × Term
named k = (string_bytes k.name, term_of k.value)

abbrev with_constants : Drafted → List (List ℕ × Term) → Drafted
with_constants d constants = record d { says_values = true; head = record d.head { constants = constants } }

pub returns-clause-ok : goal.returns-clause-ok
returns-clause-ok c =
    let old = c.args.self.now.algorithm.constants.items in
    let now = c.push.new.self.items in
    let x : NamedConstant = record { name = c.in_ok-name.name; value = c.args.value } in
    let name = c.in_ok-name.ensures.ok (IsUtf8-from_ascii c.args.name.now c.requires) in
    let constants : map named now ≡ map named old ++ (c.args.name.now, term_of c.args.value) ∷ [] =
    mapped named now old x c.in_ok-push.ensures.items ∙ ap (λ n. map named old ++ (n, term_of c.args.value) ∷ []) name in
    ap (λ ks. with_constants (draft_view c.args.self.now) ks) constants
