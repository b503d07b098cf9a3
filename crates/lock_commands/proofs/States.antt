-- The lines of a variant's states.
use Rattle.std.proofs.Common.{◌≡◌, ℕ, List}
use Rattle.crashlab.specs.space.Numbered.{numbered_rules}
use Rattle.crashlab.specs.space.SearchStateWords.{search_state_words, AreBeside}
use Rattle.crashlab.specs.space.Spaces.{SearchState}
use Rattle.cli.specs.declared.arguments.args.StatesArgs.{StatesArgs}
use Rattle.state_streams.specs.declared.lines.KeyForm.{KeyForm}
use Rattle.lock_commands.specs.States.{machine_of, start_of, state_lines, words_of}
use Rattle.command_parts.specs.StateTexts.{lines_of}

-- the lines of a variant's states
pub lines_are : (args : StatesArgs) (start : SearchState) (machine : List ℕ) (form : KeyForm) → start ≡ start_of args.search → machine ≡ machine_of args.search → form.words ≡ words_of args → form.digits ≡ args.stream.digits
    → lines_of (numbered_rules search_state_words) AreBeside start machine form ≡ state_lines args
lines_are args start machine form start_is machine_is words_are digits_are = λ i. record {
  rules = numbered_rules search_state_words;
  is_state = AreBeside (start_is i);
  start = start_is i;
  machine = machine_is i;
  words = words_are i;
  digits = digits_are i;
}
