-- The recoverable Bakery as lines: what the text examples/algorithms/bakery.lock spells.
use Rattle.std.specs.Prelude.{◌≡◌, ℕ, true, false, List, [], ◌∷◌, map, codes, string_bytes, Option, Some, Box, None}
use Rattle.std.specs.declared.alloc.Global.{Global}
use Rattle.algorithms.specs.declared.algorithm.Algorithm.{Algorithm}
use Rattle.algorithms.specs.declared.algorithm.Declaration.{Declaration}
use Rattle.algorithms.specs.declared.algorithm.Extent.{Extent}
use Rattle.algorithms.specs.declared.algorithm.Extent.TheVariants.{Each}
use Rattle.algorithms.specs.declared.condition.Comparison.TheVariants.{Equal, Less, Greater}
use Rattle.algorithms.specs.declared.condition.Condition.{Condition, Compare, ComparePairs, And', Or'}
use Rattle.algorithms.specs.declared.expression.Expression.{Expression, Number, Private, Me, Limit, Joined'}
use Rattle.algorithms.specs.declared.expression.Operator.TheVariants.{Sum, Maximum}
use Rattle.algorithms.specs.declared.line.Action.{Action}
use Rattle.algorithms.specs.declared.line.Action.TheVariants.{Load, Store, Await}
use Rattle.algorithms.specs.declared.line.AlgorithmDeed.TheVariants.{Begin, Ready, Enter, Reenter, Leave, Quit}
use Rattle.algorithms.specs.declared.line.LineKind.{LineKind}
use Rattle.algorithms.specs.declared.line.LineKind.TheVariants.{Access, Local, Done}
use Rattle.algorithms.specs.declared.line.AlgorithmLine.{AlgorithmLine}
use Rattle.algorithms.specs.declared.line.LocalLine.TheVariants.{Assign, Note, Goto, Branch, First, Next}
use Rattle.algorithms.specs.declared.line.Members.TheVariants.{Others}

-- the boxes of the parts of values and conditions. They mean nothing
abbrev pub Boxes : Type 0
Boxes = ℕ → Box (Unit {0}) Global

-- the private names c, k, i, m, j and v are 0 to 5, the declarations choosing, number and inside 0 to 2
abbrev pub access : ℕ → Expression → Action → LineKind
access declaration index action = Access (record { word = record { declaration = declaration; index = Some index }; action = action; may_withdraw = false })

-- an access with `may withdraw`
abbrev pub waiting : ℕ → Expression → Action → LineKind
waiting declaration index action = Access (record { word = record { declaration = declaration; index = Some index }; action = action; may_withdraw = true })

abbrev pub is_unnumbered : Boxes → Condition
is_unnumbered b = And' (b 0) (Compare Equal (Private 0) (Number 1)) (b 1) (Compare Equal (Private 1) (Number 0))

abbrev pub is_waiting : Boxes → Condition
is_waiting b = And' (b 2) (Compare Greater (Private 1) (Number 0)) (b 3) (Compare Equal (Private 2) (Number 0))

-- v = 0 or (k, me) < (v, j)
abbrev pub may_pass : Boxes → Condition
may_pass b =
    Or' (b 4) (Compare Equal (Private 5) (Number 0)) (b 5)
    (ComparePairs Less (record { first = Private 1; second = Me }) (record { first = Private 5; second = Private 4 }))

-- the lines, from place 0 on
abbrev pub lines : Boxes → Boxes → List LineKind
lines b r =
    -- call lock
    access 0 Me (Load 0)
    ∷ access 1 Me (Load 1)
    ∷ access 2 Me (Load 2)
    ∷ Local (Branch (is_unnumbered b) 5)
    ∷ Local (Goto 16)
    ∷ Local (Branch (Compare Equal (Private 0) (Number 1)) 7)
    ∷ Local (Goto 28)
    ∷ Local (Branch (is_waiting b) 9)
    ∷ Local (Goto 29)
    ∷ Local (Branch (Compare Greater (Private 1) (Number 0)) 12)
    ∷ Local (Note Reenter)
    ∷ Done 0
    ∷ Local (Branch (Compare Equal (Private 2) (Number 1)) 14)
    ∷ access 2 Me (Store (Number 0))
    ∷ access 0 Me (Store (Number 1))
    ∷ Local (Note Begin)
    -- 16, doorway
    ∷ Local (Assign 3 (Number 0))
    ∷ Local (First 4 Others 21)
    ∷ access 1 (Private 4) (Load 5)
    ∷ Local (Assign 3 (Joined' Maximum (b 6) (Private 3) (b 7) (Private 5)))
    ∷ Local (Next 4 Others 18)
    ∷ Local (Branch (Compare Equal (Private 3) Limit) 25)
    ∷ access 0 Me (Store (Number 0))
    ∷ Local (Note Quit)
    ∷ Done 1
    ∷ Local (Assign 1 (Joined' Sum (b 8) (Private 3) (b 9) (Number 1)))
    ∷ access 1 Me (Store (Private 1))
    ∷ Local (Note Ready)
    -- 28, shut
    ∷ access 0 Me (Store (Number 0))
    -- 29, waiting
    ∷ Local (First 4 Others 33)
    ∷ waiting 0 (Private 4) (Await 0 (Compare Equal (Private 0) (Number 0)))
    ∷ waiting 1 (Private 4) (Await 5 (may_pass b))
    ∷ Local (Next 4 Others 30)
    ∷ waiting 2 Me (Store (Number 1))
    ∷ Local (Note Enter)
    ∷ Done 2
    -- 36, call unlock
    ∷ access 1 Me (Store (Number 0))
    ∷ Local (Note Leave)
    ∷ access 2 Me (Store (Number 0))
    ∷ Done 3
    -- 40, call recover
    ∷ access 0 Me (Load 0)
    ∷ access 1 Me (Load 1)
    ∷ access 2 Me (Load 2)
    ∷ Local (Branch (is_unnumbered r) 45)
    ∷ Done 4
    ∷ Local (Branch (Compare Equal (Private 0) (Number 1)) 48)
    ∷ access 0 Me (Store (Number 0))
    ∷ Done 5
    ∷ Local (Branch (is_waiting r) 50)
    ∷ Done 5
    ∷ Local (Branch (Compare Greater (Private 1) (Number 0)) 53)
    ∷ Local (Note Reenter)
    ∷ Done 6
    ∷ Local (Branch (Compare Equal (Private 2) (Number 0)) 55)
    ∷ Done 7
    ∷ access 2 Me (Store (Number 0))
    ∷ Done 8
    -- 57, call withdraw
    ∷ access 1 Me (Store (Number 0))
    ∷ Local (Note Quit)
    ∷ Done 9
    ∷ []

abbrev pub name_of : Declaration → List ℕ
name_of d = string_bytes d.name

abbrev pub extent_of : Declaration → Extent
extent_of d = d.extent

abbrev pub bound_of : Declaration → Option Expression
bound_of d = d.bound

abbrev pub form_of : AlgorithmLine → LineKind
form_of line = line.form

-- the texts of the answers, by their numbers in the lines
abbrev pub answers : List (List ℕ)
answers =
    codes "owner-died"
    ∷ codes "numbers-spent"
    ∷ codes "clean"
    ∷ codes "unlocked"
    ∷ codes "found doorway"
    ∷ codes "found waiting"
    ∷ codes "found inside"
    ∷ codes "found idle"
    ∷ codes "found left"
    ∷ codes "withdrawn"
    ∷ []

-- an algorithm that the text spells
pub record IsBakery (a : Algorithm) : Type 0 where
  pub lock_boxes : Boxes
  pub recover_boxes : Boxes
  pub name : string_bytes a.name ≡ codes "bakery"
  pub least : a.least ≡ 1
  pub most : a.most ≡ 64
  pub promises : a.promises ≡ record { most_inside = 1; reentry = true; order = true; progress = None; bounds = false }
  pub step_bounds : a.step_bounds ≡ record { exit = None; recovery = None; doorway = None }
  pub declared : map name_of a.declarations.items ≡ codes "choosing" ∷ codes "number" ∷ codes "inside" ∷ []
  pub extents : map extent_of a.declarations.items ≡ Each ∷ Each ∷ Each ∷ []
  pub bounds : map bound_of a.declarations.items ≡ Some (Number 1) ∷ Some Limit ∷ Some (Number 1) ∷ []
  pub names : map string_bytes a.names.items ≡ codes "c" ∷ codes "k" ∷ codes "i" ∷ codes "m" ∷ codes "j" ∷ codes "v" ∷ []
  pub lasting : a.lasting ≡ 0
  pub answers : map string_bytes a.answers.items ≡ answers
  pub lines : map form_of a.lines.items ≡ lines lock_boxes recover_boxes
  pub entries : a.entries ≡ record { lock = 0; unlock = 36; recover = Some 40; withdraw = Some 57 }
  pub claims : a.claims.items ≡ []
