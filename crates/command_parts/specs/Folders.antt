-- What a folder was asked for.
use Rattle.std.specs.Prelude.{ℕ, Bool, true, false, List, String, Vec}
use Rattle.std.specs.declared.alloc.Global.{Global}
use Rattle.cli.specs.declared.arguments.args.Command.{Command}
use Rattle.cli.specs.declared.arguments.args.Command.TheVariants.{Step, StepAlgorithm}

-- the names of the files that were opened, the names of those that were written, and what was written
pub record Used : Type 0 where
  pub opened : List (String Global)
  pub saved : List (String Global)
  pub texts : List (Vec ℕ Global)

-- a session may write files under way
abbrev pub is_session : Command → Bool
is_session (Step file) = true
is_session (StepAlgorithm args) = true
is_session command = false
