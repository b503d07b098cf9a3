-- The text that is written of an image.
use Rattle.std.proofs.Common.{◌≡◌, ℕ, List, [], ◌∷◌, false, map, refl}
use Rattle.rmeworld.proofs.ImageCommon.{items_of, Own, Image, whole_data, own_data, written_data}
use Rattle.serde_json.specs.Written.{has_float, items_have_float}

no_float_in_list : (ns : List ℕ) → items_have_float (items_of (map whole_data ns)) ≡ false
no_float_in_list [] = refl
no_float_in_list (n ∷ ns) = no_float_in_list ns

no_float_in_lock : (xs : List Own) → items_have_float (items_of (map own_data xs)) ≡ false
no_float_in_lock [] = refl
no_float_in_lock (x ∷ xs) = no_float_in_lock xs

-- an image has no number that would be written as a float
pub no_float : (i : Image) → has_float (written_data i) ≡ false
no_float i = rw (no_float_in_list i.cells, no_float_in_lock i.lock) refl
