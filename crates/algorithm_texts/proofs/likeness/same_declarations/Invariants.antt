use Rattle.std.proofs.Common.{◌≡◌, map, take, string_bytes}
use Rattle.std.specs.Option.{option_map}
use Rattle.algorithm_texts.specs.Parts.{term_of}
use Rattle.algorithm_texts.specs.Drafts.{extent_of}
use Rattle.algorithm_texts.proofs.likeness.same_declarations.Given as goal

-- the declarations so far are the same
abbrev pub invariant-loop-declaration : goal.invariant-loop-declaration
invariant-loop-declaration l = record {
  here : l.place ≡ l.declaration-index;
  names : map (λ d. string_bytes d.name) (take l.declaration-index l.left) ≡ map (λ d. string_bytes d.name) (take l.declaration-index l.right);
  extents : map (λ d. extent_of d.extent) (take l.declaration-index l.left) ≡ map (λ d. extent_of d.extent) (take l.declaration-index l.right);
  bounds : map (λ d. option_map (λ b. term_of b) d.bound) (take l.declaration-index l.left)
      ≡ map (λ d. option_map (λ b. term_of b) d.bound) (take l.declaration-index l.right);
  homes : map (λ d. option_map (λ h. term_of h) d.home) (take l.declaration-index l.left)
      ≡ map (λ d. option_map (λ h. term_of h) d.home) (take l.declaration-index l.right);
}
