use Rattle.std.proofs.Common.{◌<◌, length, refl, arith, rules}
use Rattle.std.proofs.lemmas.Grind.{common_steps}
use Rattle.std.proofs.lemmas.Option.{slice_get_read}
use Rattle.algorithm_texts.proofs.Led.{led_lines}
use Rattle.algorithm_texts.proofs.lines.lead_line.Goals as goal

pub returns-in-Some : goal.returns-in-Some
returns-in-Some c =
    let within : c.args.place < length c.args.lines.now.items = first_of (search rules, grind (arith, common_steps)) in
    led_lines c.args.lines.now.items c.args.place c.args.target c.in-Some.line.now (record { number = c.in-Some.line.now.number; form = c.lead_to.new.form })
    (slice_get_read c.args.lines.now.items (length c.args.lines.now.items) c.args.place c.in-Some.line.now refl within c.in-Some.ensures.value) refl c.lead_to.ensures
