use Rattle.std.proofs.Common.{◌≡◌, drop}
use Rattle.std.specs.List.{list_all}
use Rattle.cli.specs.Given.{is_call}
use Rattle.cli.proofs.arguments.explore_words.are_calls.Given as goal

abbrev pub invariant-loop-call : goal.invariant-loop-call
invariant-loop-call l = list_all (λ call. is_call call.now) (drop l.call-index l.calls) ≡ list_all (λ call. is_call call.now) l.calls
