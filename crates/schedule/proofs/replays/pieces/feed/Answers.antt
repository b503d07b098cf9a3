use Rattle.std.proofs.Common.{◌≡◌, ℕ, List, ◌∷◌, [], ◌++◌, refl, sym, ap, ◌∙◌, append_assoc, arith, length, length-append}
use Rattle.schedule.proofs.ReplaysCommon.{parts_of}
use Rattle.schedule.proofs.Cutting.{parts_of-append}
use Rattle.schedule.proofs.replays.pieces.feed.Goals as goal

pub loop-front-smaller : goal.loop-front-smaller
loop-front-smaller g c = omega (arith, ap length c.in-Some.ensures.whole, length-append c.in-Some.front.now (10 ∷ c.in-Some.after.now), c.take_leading_lines-rest.ensures.shorter)

pub loop-front-preserved : goal.loop-front-preserved
loop-front-preserved g c =
    let buffer = c.loop-front.buffer.items in
    let line : List ℕ = buffer ++ c.in-Some.front.now in
    let cut = parts_of-append buffer c.loop-front.rest.now c.in-Some.front.now (parts_of c.in-Some.after.now) c.loop-front.invariant.whole c.in-Some.ensures.parts in
    let rest = c.take_leading_lines-rest.result.now in
    record {
      taken = λ lines after.
          let so_far = c.loop-front.invariant.taken lines after in
          let more : List (List ℕ) = so_far.0 ++ line ∷ [] in
          let parts : parts_of (c.args.buffer.now.items ++ c.args.piece.now) ≡ more ++ parts_of c.in-Some.after.now =
          so_far.1 ∙ ap (λ (ps : List (List ℕ)). so_far.0 ++ ps) cut ∙ sym (append_assoc so_far.0 (line ∷ []) (parts_of c.in-Some.after.now)) in
          let handed : g.T.TakeLine.after c.hand_on.new.taker (lines ++ more) = rw (sym (append_assoc lines so_far.0 (line ∷ []))) (c.in_ok-hand_on.ensures.taken (lines ++ so_far.0) so_far.2) in
          let fed = c.take_leading_lines-rest.ensures.taken (lines ++ more) handed in
          let all : parts_of (c.args.buffer.now.items ++ c.args.piece.now) ≡ (more ++ fed.0) ++ parts_of rest = parts ∙ ap (λ (ps : List (List ℕ)). more ++ ps) fed.1 ∙ sym (append_assoc more fed.0 (parts_of rest)) in (
            more ++ fed.0,
            rw c.in_ok-hand_on.ensures.cleared all,
            rw (sym (append_assoc lines more fed.0)) fed.2,
          );
      whole = rw c.in_ok-hand_on.ensures.cleared refl;
    }

pub returns-clause-kept : goal.returns-clause-kept
returns-clause-kept g c =
    rw c.in_ok-extend_from_slice.ensures.items (parts_of-append c.loop-front.buffer.items c.loop-front.rest.now c.loop-front.rest.now [] c.loop-front.invariant.whole c.in_default.ensures.parts)

pub returns-clause-taken : goal.returns-clause-taken
returns-clause-taken g c lines after =
    let so_far = c.loop-front.invariant.taken lines after in
    let cut = parts_of-append c.loop-front.buffer.items c.loop-front.rest.now c.loop-front.rest.now [] c.loop-front.invariant.whole c.in_default.ensures.parts in
    (so_far.0, rw c.in_ok-extend_from_slice.ensures.items (so_far.1 ∙ ap (λ (ps : List (List ℕ)). so_far.0 ++ ps) cut), so_far.2)
