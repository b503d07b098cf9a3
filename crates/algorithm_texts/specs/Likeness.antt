-- Algorithms that are the same in all that a text says of them, the numbers of the lines among it.
use Rattle.std.specs.Prelude.{◌≡◌, ℕ, List, map, string_bytes}
use Rattle.std.specs.Option.{option_map}
use Rattle.algorithms.specs.declared.algorithm.Algorithm.{Algorithm}
use Rattle.algorithms.specs.declared.algorithm.Declaration.{Declaration}
use Rattle.algorithms.specs.declared.algorithm.NamedConstant.{NamedConstant}
use Rattle.algorithms.specs.declared.first_values.InitializedAlgorithm.{InitializedAlgorithm}
use Rattle.algorithm_texts.specs.Parts.{Term, term_of}
use Rattle.algorithm_texts.specs.Operands.{names_of, declared_of}
use Rattle.algorithm_texts.specs.Drafts.{head_of, extent_of, extents_of, answers_of, claims_of, lines_of, step_terms}
use Rattle.algorithm_texts.specs.UnreachedLines.{starts_in}
use Rattle.algorithm_texts.specs.Programs.{SpellsAlgorithm}

-- a constant: its name and its value
abbrev pub named_value : NamedConstant → List ℕ × Term
named_value constant = (string_bytes constant.name, term_of constant.value)

abbrev pub named_values : List NamedConstant → List (List ℕ × Term)
named_values constants = map named_value constants

-- two declarations say the same
pub record AreOneDeclaration (a b : Declaration) : Type 0 where
  pub name : string_bytes a.name ≡ string_bytes b.name
  pub extent : extent_of a.extent ≡ extent_of b.extent
  pub bound : option_map (λ v. term_of v) a.bound ≡ option_map (λ v. term_of v) b.bound
  pub home : option_map (λ v. term_of v) a.home ≡ option_map (λ v. term_of v) b.home

-- lists of declarations say the same
pub record AreDeclaredAlike (left right : List Declaration) : Type 0 where
  pub names : map (λ d. string_bytes d.name) left ≡ map (λ d. string_bytes d.name) right
  pub extents : map (λ d. extent_of d.extent) left ≡ map (λ d. extent_of d.extent) right
  pub bounds : map (λ d. option_map (λ v. term_of v) d.bound) left ≡ map (λ d. option_map (λ v. term_of v) d.bound) right
  pub homes : map (λ d. option_map (λ v. term_of v) d.home) left ≡ map (λ d. option_map (λ v. term_of v) d.home) right

-- the first two lines say the same
pub record AreTitledAlike (a b : Algorithm) : Type 0 where
  pub name : string_bytes a.name ≡ string_bytes b.name
  pub least : a.least ≡ b.least
  pub most : a.most ≡ b.most
  pub promises : a.promises ≡ b.promises
  pub step_bounds : step_terms a.step_bounds ≡ step_terms b.step_bounds

-- all before the calls is the same, but for private names and first values
pub record AreHeadedAlike (a b : Algorithm) : Type 0 where
  pub head : head_of a ≡ head_of b
  pub declared : declared_of a ≡ declared_of b
  pub extents : extents_of a ≡ extents_of b

-- the claims are the same, and the labels that they name are at the same places
pub record AreClaimedAlike (a b : Algorithm) : Type 0 where
  pub claims : claims_of a ≡ claims_of b
  pub label_places : a.label_places.items ≡ b.label_places.items

-- the head has the constants with their values
pub record AreOneAlgorithm (a b : Algorithm) : Type 0 where
  pub head : head_of a ≡ head_of b
  pub declared : declared_of a ≡ declared_of b
  pub extents : extents_of a ≡ extents_of b
  pub lasting : a.lasting ≡ b.lasting
  pub names : names_of a ≡ names_of b
  pub answers : answers_of a ≡ answers_of b
  pub claims : AreClaimedAlike a b
  pub lines : lines_of a ≡ lines_of b

pub record AreSpelledAlike (a b : InitializedAlgorithm) : Type 0 where
  pub algorithm : AreOneAlgorithm a.algorithm b.algorithm
  pub first_values : starts_in a.first_values ≡ starts_in b.first_values

-- the algorithms that a text spells are the same
abbrev pub SpellAlike : Type 0
SpellAlike = (text : List ℕ) (a b : InitializedAlgorithm) → SpellsAlgorithm text a → SpellsAlgorithm text b → AreSpelledAlike a b
