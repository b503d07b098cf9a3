use Rattle.std.proofs.Common.{◌≡◌, string_bytes, take}
use Rattle.std.specs.List.{flat_map}
use Rattle.lock_commands.specs.Tallies.{all_messages, sender_line}
use Rattle.lock_commands.proofs.run_command.lines_of.Given as goal

abbrev pub invariant-loop-tally : goal.invariant-loop-tally
invariant-loop-tally l =
    (string_bytes l.text ≡ flat_map sender_line (take l.tally-index l.tallies)) × (l.total ≡ all_messages (take l.tally-index l.tallies))
