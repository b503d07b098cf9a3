use Rattle.std.proofs.Common.{false, map, reverse, string_bytes, ap}
use Rattle.std.specs.Option.{option_map}
use Rattle.algorithms.specs.declared.algorithm.NamedConstant.{NamedConstant}
use Rattle.algorithms.specs.declared.algorithm.Declaration.{Declaration}
use Rattle.algorithm_texts.specs.Operands.{row_of}
use Rattle.algorithm_texts.specs.Parts.{term_of}
use Rattle.algorithm_texts.specs.Drafts.{claim_form, line_of, extent_of, start_term, step_terms}
use Rattle.algorithm_texts.proofs.drafts.new_draft.Goals as goal

pub returns : goal.returns
returns c = λ h e i. record {
  head = record {
    name = e.named i;
    least = e.least_is i;
    most = e.most_is i;
    promises = c.args.said.promises;
    step_bounds = step_terms c.args.said.step_bounds;
    constants = ap (map (λ (k : NamedConstant). (string_bytes k.name, term_of k.value))) e.no_constants i;
    rows = ap (map row_of) e.no_rows i;
    bounds = ap (map (λ (d : Declaration). option_map (λ b. term_of b) d.bound)) e.no_declarations i;
    homes = ap (map (λ (d : Declaration). option_map (λ h. term_of h) d.home)) e.no_declarations i;
    entries = e.no_entries i;
  };
  declared = ap (map (λ (d : Declaration). string_bytes d.name)) e.no_declarations i;
  extents = ap (map (λ (d : Declaration). extent_of d.extent)) e.no_declarations i;
  starts = ap (map start_term) c.new-7.ensures.items i;
  says_values = false;
  lasting = e.none_last i;
  number = c.args.number;
  names = ap (map (λ name. string_bytes name)) e.no_names i;
  answers = ap (map (λ answer. string_bytes answer)) e.no_answers i;
  lines = ap (map line_of) e.no_lines i;
  opened = ap reverse c.new.ensures.items i;
  blocks = c.new-2.ensures.items i;
  labels = c.new-3.ensures.items i;
  jumps = c.new-4.ensures.items i;
  calls = ap reverse c.new-5.ensures.items i;
  claims = ap (map claim_form) e.no_claims i;
  claim_labels = c.new-6.ensures.items i;
}
