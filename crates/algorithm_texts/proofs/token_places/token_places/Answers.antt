use Rattle.std.proofs.Common.{length, ap, ◌∙◌, arith, length-drop}
use Rattle.algorithm_texts.specs.TokenPlaces.{token_size}
use Rattle.algorithm_texts.proofs.TokenPlaces.{token_added}
use Rattle.algorithm_texts.proofs.token_places.token_places.Goals as goal

pub loop-place-preserved : goal.loop-place-preserved
loop-place-preserved c = record {
  within = omega (arith, c.token_size-place.ensures.some, c.loop-place-test.true, ap length c.tail.ensures, length-drop c.loop-place.place c.args.code.now);
  whole = token_added c.args.code.now _ c.loop-place.places.items c.push.new.self.items c.loop-place.place c.token_size-place.result c.loop-place.invariant.whole c.in_ok-push.ensures.items
      c.loop-place-test.true c.if-code-place-eq32.false (c.token_size-place.ensures.size ∙ ap token_size c.tail.ensures) c.token_size-place.ensures.some.0;
}
