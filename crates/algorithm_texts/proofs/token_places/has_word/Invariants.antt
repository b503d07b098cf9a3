use Rattle.std.proofs.Common.{◌≡◌, false, take}
use Rattle.std.specs.List.{list_any}
use Rattle.algorithm_texts.specs.TokenPlaces.{is_word_at}
use Rattle.algorithm_texts.proofs.token_places.has_word.Given as goal

-- none of the tokens so far is it
abbrev pub invariant-loop-place : goal.invariant-loop-place
invariant-loop-place l = list_any (is_word_at l.word l.code) (take l.place-index l.places) ≡ false
