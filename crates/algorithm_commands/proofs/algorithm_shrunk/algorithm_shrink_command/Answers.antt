use Rattle.std.proofs.Common.{option_copied}
use Rattle.std.proofs.lemmas.Result.{err_from_is_err_and}
use Rattle.algorithms.specs.declared.first_values.InitializedAlgorithm.{InitializedAlgorithm}
use Rattle.schedule.specs.Schedules.{Scheduled}
use Rattle.algorithm_commands.specs.AlgorithmShrinks.{ShrinksAlgorithm}
use Rattle.algorithm_commands.proofs.AlgorithmTexts.{both_read, no_algorithm, no_schedule}
use Rattle.algorithm_commands.proofs.algorithm_shrunk.algorithm_shrink_command.Goals as goal

pub returns-in_err-algorithm-clause-ends : goal.returns-in_err-algorithm-clause-ends
returns-in_err-algorithm-clause-ends g c =
    let p = err_from_is_err_and c.from_residual.result c.from_residual.ensures.1 in
    rw (p.1, p.2) (no_algorithm (option_copied c.args.text) (g.R.Source.reading c.args.r.now) (g.W.Sink.tape c.args.w.now) _ c.in_err-algorithm.ensures.unread)

pub returns-in_err-numbers-clause-ends : goal.returns-in_err-numbers-clause-ends
returns-in_err-numbers-clause-ends g c =
    let p = err_from_is_err_and c.from_residual-in_err-numbers.result c.from_residual-in_err-numbers.ensures.1 in
    rw (p.1, p.2) (
    no_algorithm (option_copied c.args.text) (g.R.Source.reading c.args.r.now) (g.W.Sink.tape c.args.w.now) _
    (c.in_err-numbers.ensures.unread (option_copied c.args.text))
    )

pub returns-in_err-schedule-clause-ends : goal.returns-in_err-schedule-clause-ends
returns-in_err-schedule-clause-ends g c =
    let p = err_from_is_err_and c.from_residual-in_err-schedule.result c.from_residual-in_err-schedule.ensures.1 in
    rw (p.1, p.2) (
    no_schedule (option_copied c.args.text) (g.R.Source.reading c.args.r.now) (g.R.Source.reading c.schedule_read.new.r) (g.W.Sink.tape c.args.w.now) _
    c.in_err-schedule.ensures.wrong c.in_err-schedule.ensures.unread
    )

pub returns-clause-ends : goal.returns-clause-ends
returns-clause-ends g c =
    let read = c.in_ok-schedule.ensures.read in
    both_read (option_copied c.args.text) (λ (a : InitializedAlgorithm) (s : Scheduled). ShrinksAlgorithm a s (g.W.Sink.tape c.args.w.now) (g.W.Sink.tape c.shrink_on_algorithm.new.w) c.shrink_on_algorithm.result)
    (g.R.Source.reading c.args.r.now) (g.R.Source.reading c.schedule_read.new.r) (g.W.Sink.tape c.args.w.now) (g.W.Sink.tape c.shrink_on_algorithm.new.w)
    c.shrink_on_algorithm.result c.in_ok-algorithm.algorithm c.in_ok-schedule.schedule read.0
    c.in_ok-algorithm.ensures.spells c.in_ok-algorithm.ensures.ends c.in_ok-algorithm.ensures.leads read.1 read.2 c.shrink_on_algorithm.ensures.reports
