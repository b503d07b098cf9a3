use Rattle.robust.proofs.Common.{deeds_of, events_of_run}
use Rattle.table_runs.proofs.Headline.{answered, words_sit}
use Rattle.robust.proofs.laws.every_run_is_sound.Goals as goal

pub returns : goal.returns
returns c s es layout run =
    let e = c.every_execution_is_sound.ensures in
    let l = s.layout in
    let sound = e.sound l s.limit (events_of_run es) layout run in
    let legal = e.legal l s.limit (events_of_run es) layout run in
    record {
      legal = legal;
      plain = c.legal_histories_are_plain.ensures l.procs l.cap (deeds_of s es) legal;
      lock_words = e.lawful l s.limit (events_of_run es) run;
      data_words = words_sit s es sound;
      answered = answered s es sound;
    }
