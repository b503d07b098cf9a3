use Rattle.std.proofs.Common.{◌≡◌, ◌+◌, ◌≤◌, ◌^◌, List, ℕ, [], ◌∷◌, ◌++◌, take, length, sym, ap, inl, ◌∙◌, append_assoc, arith, length-append, length-take}
use Rattle.std.proofs.KnownBytes.{Consumes-trans}
use Rattle.schedule.proofs.Cutting.{parts_of-pieces}
use Rattle.schedule.proofs.replays.pieces.take_lines.Goals as goal

pub loop-preserved : goal.loop-preserved
loop-preserved g c =
    let inv = c.loop.invariant.text in
    let text : List ℕ = inv.0 in
    let piece : List ℕ = take c.in-Ok.n c.read.new.buf in
    let given : (g.S.Source.reading c.read.new.self).given ≡ (g.S.Source.reading c.args.source.now).given ++ (text ++ piece) =
    c.in-Ok.ensures.given ∙ ap (λ (l : List ℕ). l ++ piece) inv.1 ∙ append_assoc (g.S.Source.reading c.args.source.now).given text piece in
    let taken : length piece ≡ c.in-Ok.n = omega (arith, length-take c.in-Ok.n c.read.new.buf, c.in-Ok.ensures.bound) in
    let more : c.loop.counter + 1 ≤ length (text ++ piece) = omega (arith, inv.2, length-append text piece, c.in-Ok.n-test) in
    let all = ap length given ∙ length-append (g.S.Source.reading c.args.source.now).given (text ++ piece) in
    let few : c.loop.counter + 1 ≤ 2 ^ 63 = omega (arith, c.in-Ok.ensures.finite) in
    record {
      text = (
        text ++ piece,
        given,
        more,
        Consumes-trans _ _ _ text piece inv.3 c.in-Ok.ensures.coming.0,
        λ lines after.
            let so_far = inv.4 lines after in
            let fed = c.in_ok-feed-in-Ok.ensures.taken (lines ++ so_far.0) so_far.2 in
            let rest : List (List ℕ) = c.feed.new.buffer.items ∷ [] in (
              so_far.0 ++ fed.0,
              parts_of-pieces text piece c.loop.buffer.items so_far.0 so_far.1 ∙ ap (λ (ps : List (List ℕ)). so_far.0 ++ ps) fed.1 ∙ sym (append_assoc so_far.0 fed.0 rest),
              rw (sym (append_assoc lines so_far.0 fed.0)) fed.2,
            ),
      );
      unended = c.in-Ok.ensures.goes_on (inl (grind arith)) ∙ c.loop.invariant.unended;
      few = few;
      fine = c.in-Ok.ensures.fine ∙ c.loop.invariant.fine;
      whole = c.in_ok-feed-in-Ok.ensures.kept;
    }
