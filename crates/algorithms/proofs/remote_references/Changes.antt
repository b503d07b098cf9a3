-- The copies after one more event of a run.
use Rattle.std.proofs.Common.{◌≡◌, ◌∙◌, ℕ, Bool, false, List, [], ◌∷◌, ◌++◌, append-nil, sym, refl, ap}
use Rattle.std.specs.List.{flat_map}
use Rattle.algorithms.specs.declared.access.Address.{Address}
use Rattle.algorithms.specs.declared.remote_references.memory_event.MemoryEvent.{MemoryEvent}
use Rattle.algorithms.specs.remote_references.Copies.{copy_changes, exclusive_changes, has_copy, has_exclusive_copy, last_or}

last_or-append : (before : Bool) (xs ys : List Bool) → last_or before (xs ++ ys) ≡ last_or (last_or before xs) ys
last_or-append before [] ys = refl
last_or-append before (x ∷ xs) ys = last_or-append x xs ys

changed_more : (changes : MemoryEvent → List Bool) (before : Bool) (run : List MemoryEvent) (event : MemoryEvent) → last_or before (flat_map changes (run ++ event ∷ [])) ≡ last_or (last_or before (flat_map changes run)) (changes event)
changed_more changes before [] event = ap (last_or before) (append-nil (changes event))
changed_more changes before (e ∷ run) event =
    last_or-append before (changes e) (flat_map changes (run ++ event ∷ []))
    ∙ changed_more changes (last_or before (changes e)) run event
    ∙ ap (λ b. last_or b (changes event)) (sym (last_or-append before (changes e) (flat_map changes run)))

pub copy_more : (p : ℕ) (word : Address) (run : List MemoryEvent) (event : MemoryEvent) → last_or (has_copy p word run) (copy_changes p word event) ≡ has_copy p word (run ++ event ∷ [])
copy_more p word run event = sym (changed_more (copy_changes p word) false run event)

pub exclusive_more : (p : ℕ) (word : Address) (run : List MemoryEvent) (event : MemoryEvent)
    → last_or (has_exclusive_copy p word run) (exclusive_changes p word event) ≡ has_exclusive_copy p word (run ++ event ∷ [])
exclusive_more p word run event = sym (changed_more (exclusive_changes p word) false run event)
