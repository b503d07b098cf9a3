use Rattle.std.proofs.Common.{◌≡◌, ◌-◌, ℕ, List, length, map, option_map, Some, sym, ap, ◌∙◌, Bor}
use Rattle.std.proofs.lemmas.List.{length-map}
use Rattle.std.proofs.lemmas.Option.{slice_get-map}
use Rattle.std.proofs.lemmas.Simd.{map-map}
use Rattle.std.specs.List.{slice_get}
use Rattle.algorithm_texts.specs.BlockLines.{block_line}
use Rattle.algorithm_texts.specs.FaultDetails.{block_detail}
use Rattle.algorithm_texts.proofs.fault_details.detail_in.Goals as goal

last_line : (lines : List (Bor (List ℕ))) (line : Bor (List ℕ)) → Some line ≡ slice_get lines (length lines - 1)
    → slice_get (map (λ l. l.now) lines) (length (map (λ (l : Bor (List ℕ)). l.now) lines) - 1) ≡ Some line.now
last_line lines line e =
    ap (λ (n : ℕ). slice_get (map (λ l. l.now) lines) (n - 1)) (length-map lines (λ l. l.now)) ∙ slice_get-map (λ l. l.now) lines (length lines - 1) ∙ ap (option_map (λ l. l.now)) (sym e)

pub returns-then-is_of_blocks : goal.returns-then-is_of_blocks
returns-then-is_of_blocks c =
    rw (sym c.is_of_blocks.ensures ∙ c.if-is_of_blocks.true)
    (c.block_detail.ensures ∙ ap block_detail (c.deref.ensures.value ∙ c.in_ok-found.ensures ∙ sym (map-map block_line (λ l. l.now) c.args.first.now)))

pub returns-in-Some : goal.returns-in-Some
returns-in-Some c = rw (sym c.is_of_blocks.ensures ∙ c.if-is_of_blocks.false, last_line c.args.first.now c.in-Some.line.now c.in-Some.ensures.value) c.line_detail.ensures
