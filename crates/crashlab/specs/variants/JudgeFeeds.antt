-- What the judge of a variant's world makes of a move: it allows or refuses the deed that the move has.
use Rattle.std.specs.Prelude.{◌≡◌, List, [], ◌∷◌, ◌++◌, Option, Some, Err}
use Rattle.rmecore.specs.declared.fault.Fault.{Fault}
use Rattle.redomail.specs.declared.deed.Deed.{Deed}
use Rattle.judge.specs.Kept.{Kept}
use Rattle.judge.specs.Legal.{judged_all}
use Rattle.judge.specs.Stands.{StandsAfter}
use Rattle.judge.specs.Table.{empty_state}
use Rattle.rmeworld.specs.Replayed.{list_of}
use Rattle.crashlab.specs.declared.variants.judge_feed.MoveOutcome.{MoveOutcome}
use Rattle.crashlab.specs.declared.variants.judge_feed.MoveOutcome.TheVariants.{On, Caught}

-- a deed that the judge refuses after this history
pub record IsDeedRefused (history : List Deed) (deed : Option Deed) : Type 0 where
  pub last : Deed
  pub is : deed ≡ Some last
  pub fault : Fault
  pub refused : judged_all (empty_state 3 64) (history ++ last ∷ []) ≡ Err fault

-- the judge was given the deed of the move, if it has one, and allows or refuses it
abbrev pub IsDeedGiven : List Deed → Option Deed → Kept → MoveOutcome → Type 0
IsDeedGiven history deed judge On = StandsAfter (empty_state 3 64) (history ++ list_of deed) judge
IsDeedGiven history deed judge Caught = IsDeedRefused history deed
