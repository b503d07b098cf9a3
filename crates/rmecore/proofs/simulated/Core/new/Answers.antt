use Rattle.std.proofs.Common.{◌≡◌, length, replicate, rules, arith}
use Rattle.rmecore.proofs.Common.{zeros, new_tally}
use Rattle.std.proofs.lemmas.Grind.{common_steps}
use Rattle.rmecore.proofs.CoreSteps.{reached_first, first_words, first_places, first_configured}
use Rattle.rmecore.proofs.CoreTallies.{tallied_first}
use Rattle.rmecore.proofs.simulated.Core.new.Goals as goal

pub invariant_of-result : goal.invariant_of-result
invariant_of-result c =
    let words : c.in_ok-words.words.items ≡ replicate c.args.procs zeros = search rules in
    let tallies : c.in_ok-tallies.tallies.items ≡ replicate c.args.procs (new_tally zeros) = search rules in
    let each : length c.in_ok-processes.processes.items ≡ c.args.procs = grind (arith, common_steps) in
    let own = first_words _ _ words in
    let places = first_places _ c.args.limit _ each c.in_ok-processes.ensures.each in
    record {
      configured = first_configured _ _ _ _ _ words each tallies c.in_ok-processes.ensures.each;
      reached = reached_first _ _ _ (λ i. record { words = own i; places = places i });
      tallied = tallied_first _ _ _ places tallies;
    }
