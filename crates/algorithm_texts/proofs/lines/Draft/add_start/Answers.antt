use Rattle.std.proofs.Common.{◌≡◌, Bool, ◌||◌, List, [], ◌∷◌, ◌++◌, map, Option, is_some, ap, ◌∙◌}
use Rattle.std.proofs.lemmas.List.{map-append}
use Rattle.algorithm_texts.specs.Parts.{Term}
use Rattle.algorithm_texts.specs.Drafts.{Drafted, draft_view, start_term}
use Rattle.algorithm_texts.proofs.lines.Draft.add_start.Goals as goal

mapped : {A B : Type 0} (f : A → B) (now items : List A) (x : A) → now ≡ items ++ x ∷ [] → map f now ≡ map f items ++ f x ∷ []
mapped f now items x e = ap (map f) e ∙ map-append f items (x ∷ [])

abbrev with_starts : Drafted → List (Option Term) → Bool → Drafted
with_starts d starts says = record d { starts = starts; says_values = says }

pub returns-clause-ok : goal.returns-clause-ok
returns-clause-ok c =
    let d = draft_view c.args.self.now in
    let starts : map start_term c.push.new.self.items ≡ d.starts ++ start_term c.args.start ∷ [] = mapped start_term c.push.new.self.items c.args.self.now.starts.items c.args.start c.in_ok-push.ensures.items in
    ap (λ (says : Bool). with_starts d (map start_term c.push.new.self.items) says) c.or_some-self.ensures
    ∙ ap (λ ss. with_starts d ss (is_some (start_term c.args.start) || d.says_values)) starts
