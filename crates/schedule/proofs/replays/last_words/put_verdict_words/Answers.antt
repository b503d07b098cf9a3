use Rattle.std.specs.Prelude.{List, ℕ, ◌∷◌}
use Rattle.std.proofs.Common.{◌∙◌, flat_map}
use Rattle.std.proofs.lemmas.Result.{on_ok_weaker}
use Rattle.schedule.proofs.LinesCommon.{decimal}
use Rattle.schedule.proofs.Spaced.{join_words, verdict_made}
use Rattle.schedule.specs.Reports.{words_of_overtaking}
use Rattle.schedule.specs.Verdicts.{number_of_fault}
use Rattle.schedule.proofs.replays.last_words.put_verdict_words.Goals as goal

pub returns : goal.returns
returns c =
    let words = words_of_overtaking c.args.fault in
    let end = flat_map (λ (word : List ℕ). 32 ∷ word) words in
    on_ok_weaker c.put_overtaking.result
    (λ made. made ∙ rw c.in_ok-put_named.ensures (rw c.in_ok-put_start.ensures (rw c.fault_number.ensures (rw (join_words (decimal c.args.at) words) (verdict_made c.args.out.now.items (decimal (number_of_fault c.args.fault)) (decimal c.args.at) end)))))
    c.put_overtaking.ensures
