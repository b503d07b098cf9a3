use Rattle.progress.proofs.ThreadWaiting.{thread_waiting}
use Rattle.progress.proofs.laws.waiting_of_threads_is_bounded.Goals as goal

pub returns : goal.returns
returns c = λ s steps p below run. thread_waiting s steps p below run
