use Rattle.std.proofs.Common.{◌≡◌, ℕ, List, [], map, string_bytes, Result, Ok, Err, IfOk, ap}
use Rattle.algorithms.specs.declared.algorithm.Algorithm.{Algorithm}
use Rattle.algorithms.specs.declared.algorithm.Declaration.{Declaration}
use Rattle.algorithms.specs.declared.algorithm.NamedConstant.{NamedConstant}
use Rattle.algorithms.specs.declared.fault.ReadFault.{ReadFault}
use Rattle.algorithm_texts.specs.Operands.{names_of, reserved, row_of, scope_of}
use Rattle.algorithm_texts.specs.Parts.{term_of}
use Rattle.algorithm_texts.specs.PromiseLines.{empty_scope}
use Rattle.algorithm_texts.specs.TextDrafts.{IsEmpty}
use Rattle.algorithm_texts.proofs.promises.nothing_declared.Goals as goal

empty_scoped : (r : Result Algorithm ReadFault) (name : List ℕ) (least most : ℕ) → IfOk r (λ a. IsEmpty a name least most) → IfOk r (λ a. (scope_of a ≡ empty_scope) × (names_of a ≡ []))
empty_scoped (Ok a) name least most e = (
  (λ i. record {
    reserved = reserved;
    constants = ap (map (λ (k : NamedConstant). (string_bytes k.name, term_of k.value))) e.no_constants i;
    rows = ap (map row_of) e.no_rows i;
    declared = ap (map (λ (d : Declaration). string_bytes d.name)) e.no_declarations i;
    most = 64;
  }),
  ap (map (λ name. string_bytes name)) e.no_names,
)
empty_scoped (Err fault) name least most e = tt

pub returns-clause-ok : goal.returns-clause-ok
returns-clause-ok c = empty_scoped c.empty_algorithm.result _ 0 0 c.empty_algorithm.ensures.ok
