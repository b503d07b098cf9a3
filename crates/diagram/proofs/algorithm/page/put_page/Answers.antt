use Rattle.std.proofs.Common.{◌≡◌, ◌∙◌, ap, List, ℕ, ◌++◌}
use Rattle.diagram.specs.declared.page_text.TheConstants.{PAGE_HEAD, PAGE_STEP, PAGE_SCRIPT}
use Rattle.diagram.proofs.Joined.{joined, on_ok}
use Rattle.diagram.proofs.algorithm.page.put_page.Goals as goal

pub returns : goal.returns
returns c =
    let old : List ℕ = c.args.out.now.items in
    let one : List ℕ = c.put_text.new.out.items in
    let two : List ℕ = c.put_text-2.new.out.items in
    let three : List ℕ = c.put_text-3.new.out.items in
    let four : List ℕ = c.put_text-4.new.out.items in
    let new : List ℕ = c.put_text-5.new.out.items in
    let lines : List ℕ = c.args.lines.now in
    let script = on_ok c.put_text-5.result _ (new ≡ four ++ PAGE_SCRIPT.now) (λ e. e ∙ ap (λ (t : List ℕ). four ++ t) c.as_bytes-3.ensures.value) c.put_text-5.ensures in
    let from_lines = joined c.put_text-5.result three four new lines PAGE_SCRIPT.now c.in_ok-put_text-4.ensures script in
    let from_step = joined c.put_text-5.result two three new PAGE_STEP.now (lines ++ PAGE_SCRIPT.now)
    (c.in_ok-put_text-3.ensures ∙ ap (λ (t : List ℕ). two ++ t) c.as_bytes-2.ensures.value) from_lines in
    let from_drawing = joined c.put_text-5.result one two new c.args.drawing.now (PAGE_STEP.now ++ (lines ++ PAGE_SCRIPT.now)) c.in_ok-put_text-2.ensures from_step in
    joined c.put_text-5.result old one new PAGE_HEAD.now (c.args.drawing.now ++ (PAGE_STEP.now ++ (lines ++ PAGE_SCRIPT.now)))
    (c.in_ok-put_text.ensures ∙ ap (λ (t : List ℕ). old ++ t) c.as_bytes.ensures.value) from_drawing
