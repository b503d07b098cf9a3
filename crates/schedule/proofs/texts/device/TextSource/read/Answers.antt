use Rattle.std.proofs.Common.{◌≡◌, ◌+◌, ◌-◌, drop, length, arith, take_at, length-take, length-drop, length-append, sym}
use Rattle.std.proofs.Math.Seq.{take-add}
use Rattle.std.proofs.lemmas.List.{take-append-drop, drop-drop, nil_from_length}
use Rattle.schedule.proofs.texts.device.TextSource.read.Goals as goal

pub returns-else-ends-clause-given : goal.returns-else-ends-clause-given
returns-else-ends-clause-given c =
    let s = c.args.self.now in
    let n = c.min-n.result in
    let k : s.at + n - s.at ≡ n = omega arith in
    let len : length c.copy_from_slice.new.self ≡ n = omega (arith, c.copy_from_slice.ensures.len, length-take n c.args.buf.now, c.min-n.ensures, c.min.ensures) in
    rw (take_at c.copy_from_slice.new.self _ n len, c.copy_from_slice.ensures.after, k) (take-add s.at n s.all.now)

pub returns-else-ends-clause-coming : goal.returns-else-ends-clause-coming
returns-else-ends-clause-coming c =
    let s = c.args.self.now in
    let n = c.min-n.result in
    let k : s.at + n - s.at ≡ n = omega arith in
    let len : length c.copy_from_slice.new.self ≡ n = omega (arith, c.copy_from_slice.ensures.len, length-take n c.args.buf.now, c.min-n.ensures, c.min.ensures) in (
      rw (take_at c.copy_from_slice.new.self _ n len, c.copy_from_slice.ensures.after, k, sym (drop-drop n s.at s.all.now)) (sym (take-append-drop n (drop s.at s.all.now))),
      λ none some. nil_from_length _ (omega (arith, none, some, len, length-append c.copy_from_slice.new.self (drop n c.args.buf.now), length-drop n c.args.buf.now, length-drop (s.at + n) s.all.now, c.min-n.ensures, c.min.ensures, c.max.ensures)),
    )
