use Rattle.algorithm_texts.proofs.TokenPlaces.{at_their_places}
use Rattle.algorithm_texts.proofs.laws.tokens_are_at_their_places.Goals as goal

pub returns : goal.returns
returns c = at_their_places
