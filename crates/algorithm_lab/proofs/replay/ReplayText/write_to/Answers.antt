use Rattle.std.proofs.Common.{◌≡◌}
use Rattle.std.proofs.lemmas.Result.{err_from_is_err_and}
use Rattle.algorithm_lab.proofs.Replays.{cut_off, written_out}
use Rattle.algorithm_lab.proofs.replay.ReplayText.write_to.Goals as goal

pub returns-in_err-put_out : goal.returns-in_err-put_out
returns-in_err-put_out g c =
    let p = err_from_is_err_and c.from_residual.result c.from_residual.ensures.1 in
    let same : c.as_slice.result.now ≡ c.args.self.now.text.items = cc (c.as_slice.ensures.value) in
    rw (p.1, p.2) (λ run end. cut_off (g.W.Sink.tape c.args.w.now) (g.W.Sink.tape c.put_out.new.w) c.args.self.now.text.items c.as_slice.result.now same c.in_err-put_out.ensures.failed run)

pub returns : goal.returns
returns g c =
    let same : c.as_slice.result.now ≡ c.args.self.now.text.items = cc (c.as_slice.ensures.value) in
    rw c.answer_of.ensures
    (written_out (g.W.Sink.tape c.args.w.now) (g.W.Sink.tape c.put_out.new.w) c.args.self.now.text.items c.as_slice.result.now c.args.self.now.ended same
    c.in_ok-put_out.ensures.written)
