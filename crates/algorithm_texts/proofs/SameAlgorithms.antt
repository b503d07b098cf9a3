-- A text spells one algorithm, and each that is the same in all that a text says.
use Rattle.std.proofs.Common.{◌≡◌, refl, ℕ, ◌+◌, Bool, true, false, List, [], ◌∷◌, Some, sym, ap, ◌∙◌, subst}
use Rattle.std.proofs.lemmas.Option.{same_Some}
use Rattle.algorithms.specs.declared.first_values.InitializedAlgorithm.{InitializedAlgorithm}
use Rattle.algorithm_texts.specs.Drafts.{PlacedLine, Drafted}
use Rattle.algorithm_texts.specs.FinishedDrafts.{is_in}
use Rattle.algorithm_texts.specs.UnreachedLines.{EndUnreached, ended_line, ended_from}
use Rattle.algorithm_texts.specs.Programs.{SpellsAlgorithm}
use Rattle.algorithm_texts.specs.Likeness.{AreSpelledAlike, SpellAlike}
use Rattle.algorithm_texts.proofs.OneDraft.{spell_one}

-- what a text spells, it spells of each algorithm that is the same
pub alike_spelled : (text : List ℕ) (a b : InitializedAlgorithm) → AreSpelledAlike a b → SpellsAlgorithm text b → SpellsAlgorithm text a
alike_spelled text a b same s = record {
  program = s.program;
  says = s.says;
  draft = s.draft;
  means = s.means;
  lawful = s.lawful;
  is_of = record {
    algorithm = record {
      head = same.algorithm.head ∙ s.is_of.algorithm.head;
      declared = same.algorithm.declared ∙ s.is_of.algorithm.declared;
      extents = same.algorithm.extents ∙ s.is_of.algorithm.extents;
      lasting = same.algorithm.lasting ∙ s.is_of.algorithm.lasting;
      names = same.algorithm.names ∙ s.is_of.algorithm.names;
      answers = same.algorithm.answers ∙ s.is_of.algorithm.answers;
      lines = subst (λ lines. EndUnreached s.draft lines) (sym same.algorithm.lines) s.is_of.algorithm.lines;
      claims = same.algorithm.claims.claims ∙ s.is_of.algorithm.claims;
      label_places = ap Some same.algorithm.claims.label_places ∙ s.is_of.algorithm.label_places;
    };
    first_values = same.first_values ∙ s.is_of.first_values;
  };
}

same_mark : (a b : Bool) → (a ≡ true → b ≡ true) → (b ≡ true → a ≡ true) → a ≡ b
same_mark true b to «from» = sym (to refl)
same_mark false true to «from» = «from» refl
same_mark false false to «from» = refl

same_ended : (marks others : List Bool) → ((at : ℕ) → is_in marks at ≡ is_in others at) → (place : ℕ) (lines : List PlacedLine)
    → ended_from marks place lines ≡ ended_from others place lines
same_ended marks others same place [] = refl
same_ended marks others same place (line ∷ lines) =
    ap (λ mark. ended_line mark line ∷ ended_from marks (place + 1) lines) (same place)
    ∙ ap (λ rest. ended_line (is_in others place) line ∷ rest) (same_ended marks others same (place + 1) lines)

-- the lines to which no run comes end in one way
same_lines : (d : Drafted) (lines others : List PlacedLine) → EndUnreached d lines → EndUnreached d others → lines ≡ others
same_lines d lines others e f =
    e.ended
    ∙ same_ended e.marks f.marks (λ at. same_mark (is_in e.marks at) (is_in f.marks at) (λ h. f.exact.all at (e.exact.comes at h)) (λ h. e.exact.all at (f.exact.comes at h))) 0 d.lines
    ∙ sym f.ended

pub spell_alike : SpellAlike
spell_alike = λ text a b s t.
    let one = spell_one text a b s t in
    let of_a = one.1.algorithm in
    let of_b = one.2.algorithm in
    record {
      algorithm = record {
        head = of_a.head ∙ sym of_b.head;
        declared = of_a.declared ∙ sym of_b.declared;
        extents = of_a.extents ∙ sym of_b.extents;
        lasting = of_a.lasting ∙ sym of_b.lasting;
        names = of_a.names ∙ sym of_b.names;
        answers = of_a.answers ∙ sym of_b.answers;
        claims = record {
          claims = of_a.claims ∙ sym of_b.claims;
          label_places = same_Some a.algorithm.label_places.items b.algorithm.label_places.items (of_a.label_places ∙ sym of_b.label_places);
        };
        lines = same_lines one.0 _ _ of_a.lines of_b.lines;
      };
      first_values = one.1.first_values ∙ sym one.2.first_values;
    }
