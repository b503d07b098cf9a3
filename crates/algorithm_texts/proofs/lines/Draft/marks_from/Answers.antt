use Rattle.std.proofs.Common.{◌≡◌, ℕ, ◌+◌, Bool, true, false, List, length, replicate, set, Vec, Global, sym, ap, ◌∙◌, arith}
use Rattle.std.proofs.lemmas.List.{with_items_is, length-set, length-map}
use Rattle.algorithm_texts.specs.Drafts.{draft_view, line_of}
use Rattle.algorithm_texts.specs.Marks.{marks_from}
use Rattle.algorithm_texts.proofs.lines.Draft.marks_from.Goals as goal
use Rattle.algorithm_texts.proofs.lines.Draft.marks_from.Goals.{then-first, else-first}

pub returns : goal.returns
returns c =
    let zeros : c.in_ok-marks.marks.items ≡ replicate (c.len.result + 1) false = c.in_ok-marks.ensures.items_if_clones_equal (λ y h. h) in
    let lines = length-map c.args.self.now.algorithm.lines.items line_of in
    let count : c.len.result + 1 ≡ length (draft_view c.args.self.now).lines + 1 = omega (arith, lines, c.len.ensures) in
    elim c.if-first.branch [
      | then-first w ↦
          ap (λ (v : Vec Bool Global). v.items) w.marks-is
          ∙ with_items_is c.in_ok-marks.marks w.mark.new.marks (ap length w.mark.ensures ∙ length-set w.as_mut_slice.result.now c.args.call.«from» true ∙ w.as_mut_slice.ensures.len)
          ∙ w.mark.ensures
          ∙ ap (λ (ms : List Bool). set ms c.args.call.«from» true) (w.as_mut_slice.ensures.value ∙ zeros)
          ∙ ap (λ (n : ℕ). marks_from n c.args.call.«from» true) count
          ∙ ap (marks_from (length (draft_view c.args.self.now).lines + 1) c.args.call.«from») (sym w.if-first.true)
      | else-first w ↦
          ap (λ (v : Vec Bool Global). v.items) w.marks-is
          ∙ zeros
          ∙ ap (λ (n : ℕ). marks_from n c.args.call.«from» false) count
          ∙ ap (marks_from (length (draft_view c.args.self.now).lines + 1) c.args.call.«from») (sym w.if-first.false)
    ]
