-- "Deeds of a run", for the puts of data words.
use Rattle.std.specs.Prelude.{ℕ, ◌-◌, ◌&&◌, ◌==◌, if◌then◌else◌, List, [], ◌∷◌}
use Rattle.redomail.specs.declared.deed.Deed.{Deed}
use Rattle.redomail.specs.declared.deed.Deed.TheVariants as deed
use Rattle.redomail.specs.declared.layout.Layout.{Layout}
use Rattle.redomail.specs.Layout.{Words, row}

-- The deed of a put by p. It is none if the put leaves the word's value. Commit and Show carry the record's number and value
-- in the data words at that put, not those in the task.
abbrev pub deeds_of_put : Layout → ℕ → Words → ℕ → ℕ → List Deed
deeds_of_put l p w i v =
    if w i == v then [] else if (i == 3) && (v == 1) then deed.Commit p (w 5) (row w 6 l.width) ∷ []
    else if i == 2 then deed.Show p (v - 1) (w 5) (row w 6 l.width) ∷ []
    else if (i == 1) && (v == 1) then deed.Close p ∷ []
    else if (i == 0) && (v == 1) then deed.Ruin p ∷ []
    else []
