use Rattle.std.proofs.Common.{refl}
use Rattle.std.proofs.lemmas.Str.{IsUtf8-from_ascii}
use Rattle.algorithm_texts.proofs.calls.empty_algorithm.Goals as goal

pub returns-clause-ok : goal.returns-clause-ok
returns-clause-ok c = record {
  named = c.in_ok-from_utf8_lossy.ensures.ok (IsUtf8-from_ascii c.args.name.now c.requires);
  least_is = refl;
  most_is = refl;
  no_constants = c.new.ensures.items;
  no_rows = c.new-4.ensures.items;
  no_declarations = c.new-2.ensures.items;
  no_names = c.new-3.ensures.items;
  none_last = refl;
  no_answers = c.new-5.ensures.items;
  no_lines = c.new-6.ensures.items;
  no_claims = c.new-7.ensures.items;
  no_entries = refl;
}
