use Rattle.std.proofs.Common.{refl, inl, arith}
use Rattle.redomail.proofs.laws.new_words.Goals as goal

pub returns : goal.returns
returns c = λ l p w z. record {
  ruined = z 0;
  closed = z 1;
  armed = inl (z 3);
  apart = λ a b. absurd (omega (arith, z 3));
  room = omega (arith, z 2);
  shown = rw (z 2) refl;
  listed = λ _. rw (z 2) record { numbered = λ a h. absurd (omega arith); counted = λ q h. z _ };
  record_rule = λ a. absurd (omega (arith, z 3));
  pending = λ _. rw (z 3) refl;
}
