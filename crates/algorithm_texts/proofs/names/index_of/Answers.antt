use Rattle.std.proofs.Common.{◌∙◌, ap, bytes_eq, map, position, string_bytes}
use Rattle.algorithm_texts.proofs.names.index_of.Goals as goal

pub returns : goal.returns
returns c = c.text_place.ensures ∙ ap (λ texts. position (λ other. bytes_eq other c.args.word.now) (map (λ other. string_bytes other) texts)) c.as_slice.ensures.value
