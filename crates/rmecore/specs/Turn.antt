-- What a step of the lock changes in who is in the section.
use Rattle.std.specs.Prelude.{◌≡◌, ℕ, List, Option, Some, None}
use Rattle.rmecore.specs.Place.{Place, Reread, Wait, Inside, Leaving}
use Rattle.rmecore.specs.declared.core_call.CoreCall.{CoreCall}
use Rattle.rmecore.specs.declared.outer.Outer.{Outer}
use Rattle.rmecore.specs.declared.outer.Outer.TheVariants.{Begin, Ready, Enter, Reenter, Leave, Quit}

-- neither inside nor at the start of the exit
abbrev pub Elsewhere : Place → Type 0
Elsewhere Inside = ⊥
Elsewhere Leaving = ⊥
Elsewhere _ = Unit {0}

-- no deed, or a deed of p that is neither an entry nor an exit
abbrev pub Plain : ℕ → Option Outer → Type 0
Plain p None = Unit {0}
Plain p (Some (Begin q)) = q ≡ p
Plain p (Some (Ready q)) = q ≡ p
Plain p (Some (Quit q)) = q ≡ p
Plain p _ = ⊥

-- a step of p from place s to place t with deed d: an entry in line, a re-entry, an exit, no change of place and no deed, or
-- a plain deed that begins and ends elsewhere
pub data Turn (p : ℕ) (s t : Place) (d : Option Outer) : Type 0 where
  Enters : (number : ℕ) → (unpassed : List ℕ) → (looked : Option ℕ) → s ≡ Wait number unpassed looked → t ≡ Inside → d ≡ Some (Enter p) → Turn p s t d
  Reenters : (call : CoreCall) → (seen : List ℕ) → s ≡ Reread call seen → t ≡ Inside → d ≡ Some (Reenter p) → Turn p s t d
  Exits : s ≡ Leaving → Elsewhere t → d ≡ Some (Leave p) → Turn p s t d
  Same : s ≡ t → d ≡ None → Turn p s t d
  Else : Elsewhere s → Elsewhere t → Plain p d → Turn p s t d
