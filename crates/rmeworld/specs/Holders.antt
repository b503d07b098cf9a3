-- Only a process inside puts data words. So from its Enter to the end of its super-passage no other process does.
use Rattle.std.specs.Prelude.{◌≡◌, ℕ, ◌<◌, Bool, true, false, List, [], ◌∷◌, ◌++◌, All}
use Rattle.rmecore.specs.World.{is_store}
use Rattle.rmecore.specs.declared.outer.Outer.TheVariants.{Enter}
use Rattle.rmecore.specs.declared.word.Word.TheVariants.{Data as DataAt}
use Rattle.redomail.specs.Layout.{IsLayout}
use Rattle.redomail.specs.declared.deed.Deed.{Deed}
use Rattle.redomail.specs.declared.deed.Deed.TheVariants as deed
use Rattle.redomail.specs.declared.layout.Layout.{Layout}
use Rattle.judge.specs.Plain.{IsEndOf}
use Rattle.rmeworld.specs.ProcessState.{WorldEvent, Moves, who}
use Rattle.rmeworld.specs.World.{at_first, Execution, last_global_state, deeds}

-- a store into a data word
abbrev pub puts_data : WorldEvent → Bool
puts_data (Moves p kind (DataAt i) v) = is_store kind
puts_data _ = false

-- each store into a data word among these events is p's
abbrev pub AllPutBy : ℕ → List WorldEvent → Type 0
AllPutBy p [] = Unit {0}
AllPutBy p (e ∷ es) = (puts_data e ≡ true → who e ≡ p) × AllPutBy p es

-- no Leave and no Quit of p among these deeds
abbrev pub NoEndOf : ℕ → List Deed → Type 0
NoEndOf p ds = All (λ (d : Deed). IsEndOf p d → ⊥) ds

-- an execution whose first part ends with p's Enter, and whose second part does not end that super-passage. In the second
-- part p may crash and enter again
abbrev pub OnlyHoldersPut : Type 0
OnlyHoldersPut =
    (l : Layout) (limit p : ℕ) (before since : List WorldEvent) (earlier : List Deed) → IsLayout l → p < l.procs → Execution l limit at_first (before ++ since)
    → deeds l limit at_first before ≡ earlier ++ deed.Outer (Enter p) ∷ [] → NoEndOf p (deeds l limit (last_global_state l limit at_first before) since) → AllPutBy p since
