use Rattle.std.proofs.Common.{◌≡◌, ℕ, ◌+◌, ◌∷◌, take, drop, slice_index, ap, sym, ◌∙◌, subst, arith}
use Rattle.robust.proofs.AccessCommon.{steps_of, stored_so_far}
use Rattle.robust.proofs.FreeSteps.{unanswered_none, unanswered_then}
use Rattle.robust.proofs.access.fast_append.put_row.Goals as goal

pub loop-j-init : goal.loop-j-init
loop-j-init c = record {
  at = c.requires.at ∙ ap (stored_so_far c.args.entry.now) (let none : c.args.step ≡ c.args.step + 0 = omega arith in none);
  unanswered = unanswered_none c.args.port.now;
  clear = c.requires.clear;
  of = c.requires.of;
}

pub put-requires-clause-next : goal.put-requires-clause-next
put-requires-clause-next c =
    let e = c.args.entry.now in
    let j = c.loop-j.j in
    let words : take c.width-width.result c.seam_words.result.now ≡ e.value = ap (λ n. take n c.seam_words.result.now) c.width-width.ensures.width ∙ c.seam_words.ensures.words in
    let word : c.row_word-word.result ≡ slice_index (c.args.first ∷ e.seq ∷ e.value) j = c.row_word-word.ensures ∙ ap (λ ws. slice_index (c.args.first ∷ e.seq ∷ ws) j) words in
    subst (λ (v : ℕ). drop (c.args.step + j) (steps_of e) ≡ (c.args.start + j, v) ∷ drop (c.args.step + j + 1) (steps_of e)) (sym word) (c.requires.row j (omega (arith, c.width-width.ensures.width)))

pub loop-j-preserved : goal.loop-j-preserved
loop-j-preserved c = record {
  at = c.put.ensures.at ∙ ap (stored_so_far c.args.entry.now) (let more : (c.args.step + c.loop-j.j) + 1 ≡ c.args.step + (c.loop-j.j + 1) = omega arith in more);
  unanswered = unanswered_then c.args.port.now c.loop-j.port c.put.new.port c.loop-j.j 1 0 c.loop-j.invariant.unanswered c.put.ensures.unanswered;
  clear = c.put.ensures.clear;
  of = c.put.ensures.of;
}
