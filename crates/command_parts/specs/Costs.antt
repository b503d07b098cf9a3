-- What is written of the greatest cost of a passage, or that there is none.
use Rattle.std.specs.Prelude.{ℕ, List, [], ◌∷◌, ◌++◌, length, codes}
use Rattle.std.specs.Fmt.{decimal}
use Rattle.algorithms.specs.declared.remote_references.memory_model.PassageKind.{PassageKind}
use Rattle.algorithms.specs.declared.remote_references.memory_model.PassageKind.TheVariants.{Passage, SuperPassage}
use Rattle.passages.specs.declared.question.PassageCost.{PassageCost}
use Rattle.passages.specs.declared.question.PassageCost.TheVariants.{Greatest, Unbounded}

-- what stands between a process and its cost
abbrev pub kind_text : PassageKind → List ℕ
kind_text Passage = codes " passage cost "
kind_text SuperPassage = codes " super-passage cost "

-- the line `process P passage cost K`
abbrev pub cost_line : PassageKind → ℕ → ℕ → List ℕ
cost_line kind process cost = codes "process " ++ decimal process ++ kind_text kind ++ decimal cost ++ 10 ∷ []

-- the line `process P passage cost unbounded cycle K`
abbrev pub unbounded_line : PassageKind → ℕ → ℕ → List ℕ
unbounded_line kind process cycle = codes "process " ++ decimal process ++ kind_text kind ++ codes "unbounded cycle " ++ decimal cycle ++ 10 ∷ []

-- the line that tells what was found
abbrev pub line_of_cost : {M : Type 0} → PassageKind → PassageCost M → List ℕ
line_of_cost kind (Greatest found) = cost_line kind found.process found.cost
line_of_cost kind (Unbounded lasso) = unbounded_line kind lasso.process (length lasso.cycle.items)

-- the moves of a schedule that reaches the greatest cost, or to the end of a cycle by which there is none
abbrev pub path_of_cost : {M : Type 0} → PassageCost M → List M
path_of_cost (Greatest found) = found.schedule.items
path_of_cost (Unbounded lasso) = lasso.stem.items ++ lasso.cycle.items

-- the exit status: 1 where no cost is the greatest
abbrev pub status_of_cost : {M : Type 0} → PassageCost M → ℕ
status_of_cost (Greatest found) = 0
status_of_cost (Unbounded lasso) = 1
