use Rattle.std.proofs.Common.{ℕ, List, ◌∷◌, ◌++◌, get_or, take, sym, ap, ◌∙◌}
use Rattle.std.proofs.lemmas.List.{flat_map_more, take_more}
use Rattle.schedule.proofs.LinesCommon.{decimal, spaced_numbers}
use Rattle.schedule.proofs.lines.line_writer.put_body.Goals as goal

pub loop-word-preserved : goal.loop-word-preserved
loop-word-preserved c =
    let words : List ℕ = c.as_slice-word-items.result.now in
    let i : ℕ = c.loop-word.word-index in
    let before : List ℕ = c.args.out.now.items in
    c.in_ok-put_number.ensures ∙ ap (λ (t : List ℕ). t ++ 32 ∷ decimal (get_or words i 0)) c.loop-word.invariant
    ∙ flat_map_more (λ n. 32 ∷ decimal n) before (take i words) (get_or words i 0)
    ∙ ap (λ (ws : List ℕ). before ++ spaced_numbers ws) (sym (take_more words i 0 c.loop-word-test.true))
