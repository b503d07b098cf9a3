use Rattle.std.proofs.Common.{◌≡◌, ℕ, Bool, false, cond, List, Option, Some, None, Result, sym, ap, ◌∙◌, subst, bytes_eq, position}
use Rattle.std.specs.Option.{option_copied}
use Rattle.algorithms.specs.declared.fault.ReadFault.{ReadFault}
use Rattle.algorithms.specs.declared.fault.ReadFault.TheVariants.{NotAssignable, TooBig}
use Rattle.algorithm_texts.specs.declared.tokens.Token.{Token}
use Rattle.algorithm_texts.specs.Parts.{OperandPart, ◌>>=◌}
use Rattle.algorithm_texts.specs.Grammar.{Scope, private_name_part}
use Rattle.algorithm_texts.specs.Operands.{MakesName, names_of, scope_of}
use Rattle.algorithm_texts.specs.LineDrafts.{has_declaration, new_name, name_set}
use Rattle.algorithm_texts.specs.LineFaults.{fault_from, new_name_fault, name_set_fault}
use Rattle.algorithm_texts.proofs.names.name_set.Goals as goal

abbrev place_in : Scope → List (List ℕ) → List ℕ → Option (OperandPart × List (List ℕ))
place_in scope names word = private_name_part scope.most names word (position (λ name. bytes_eq name word) names)

set_to : (after : List (List ℕ)) (r : Result ℕ ReadFault) (scope : Scope) (names : List (List ℕ)) (token : Option Token) (word : List ℕ) → new_name token ≡ Some word
    → has_declaration scope word ≡ false → MakesName after r (place_in scope names word) TooBig
    → MakesName after r (name_set scope names token) (name_set_fault scope token)
set_to after r scope names token word e f h =
    subst (λ o. MakesName after r (o >>= (λ w. cond (has_declaration scope w) None (place_in scope names w)))
    (fault_from o (new_name_fault token) (λ w. cond (has_declaration scope w) NotAssignable TooBig))) (sym e)
    (subst (λ (b : Bool). MakesName after r (cond b None (place_in scope names word)) (cond b NotAssignable TooBig)) (sym f) h)

pub returns-clause-name : goal.returns-clause-name
returns-clause-name c =
    let scope = scope_of c.args.algorithm.now in
    let names = names_of c.args.algorithm.now in
    let other = sym (ap (λ w. has_declaration scope w) c.as_bytes.ensures.letters) ∙ sym c.has_declaration.ensures ∙ c.if-has_declaration.false in
    let place = subst (λ w. MakesName (names_of c.place_of.new.algorithm) c.place_of.result (place_in scope names w) TooBig) c.as_bytes-2.ensures.letters c.place_of.ensures.place in
    set_to (names_of c.place_of.new.algorithm) c.place_of.result scope names (option_copied c.args.token) c.in_ok-word.word c.in_ok-word.ensures other place
