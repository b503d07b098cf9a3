-- What a session shows of a simulation, whose states are of this type.
use Rattle.std.specs.Prelude.{ℕ, zero, suc, ◌+◌, List, [], ◌∷◌, Option, Some, None, is_some, if◌then◌else◌}
use Rattle.schedule.specs.declared.lines.line.Line.{Line}
use Rattle.schedule.specs.declared.texts.head.Head.{Head}
use Rattle.schedule.specs.Schedules.{Scheduled}
use Rattle.schedule.specs.Fragments.{itself, steps}
use Rattle.schedule.specs.Transitions.{Transitions}

pub record Semantics (S : Type 0) : Type 0 where
  -- where a schedule with this header begins
  pub first : S → Head → S
  -- the number of the refusal of a line, if it is refused
  pub refusal : S → Line → Option ℕ
  -- after a line; where it is refused, nothing has changed
  pub after : S → Line → S
  -- the steps of a line, in words
  pub steps_text : Head → S → Line → List ℕ
  -- where the processes stand, in words
  pub state_text : Head → S → List ℕ
  -- how many steps process p takes alone after this schedule until its call is answered, if a line can have as many
  pub steps_to_answer : Scheduled → S → ℕ → Option ℕ

-- after lines
abbrev pub lines_on : {S : Type 0} → (S → Line → S) → S → List Line → S
lines_on after s [] = s
lines_on after s (line ∷ lines) = lines_on after (after s line) lines

-- the number of the step of p that is refused or ends its call, where k came before and at most n come
module _ {S T C R : Type 0} (m : Transitions S T C R) where
  unfoldable pub steps_to_answer : ℕ → ℕ → ℕ → S → Option ℕ
  steps_to_answer p k zero s = None
  steps_to_answer p k (suc n) s =
      if is_some (m.step_refusal s p) then Some (k + 1) else if m.ends (m.step s p) then Some (k + 1) else steps_to_answer p (k + 1) n (m.stepped s p)

  -- the state after at most n steps of p, until one is refused or ends its call
  unfoldable pub state_after_steps : ℕ → ℕ → S → S
  state_after_steps p n s = (steps m itself p n s).1
