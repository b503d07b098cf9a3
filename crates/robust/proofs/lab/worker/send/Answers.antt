use Rattle.std.proofs.Common.{◌≡◌, ℕ, true, false, ◌∙◌, sym, ap, subst}
use Rattle.robust.proofs.Common.{TableId, IsAmong, Append, Setup, shown_by}
use Rattle.table_runs.proofs.Ordered.{orders_append}
use Rattle.robust.proofs.Failing.{append_left, append_faults, append_grows, grown_on, reported_from}
use Rattle.robust.proofs.Sending.{sends_append}
use Rattle.robust.proofs.Spent.{append_spent}
use Rattle.table_runs.proofs.Report.{append_reported}
use Rattle.robust.proofs.Working.{sent_seat, fits_seat}
use Rattle.robust.proofs.lab.worker.send.Goals as goal

pub returns-in-Ok-clause-only : goal.returns-in-Ok-clause-only
returns-in-Ok-clause-only g c = λ width k fits old.
    sends_append width k c.loop.member c.append.new.self c.args.seq c.args.value _ _ (fits_seat width k c.loop.member c.args.member.now c.args.seq c.args.value c.loop.invariant.seat fits) (c.loop.invariant.only width k fits old) c.append.result c.append.ensures.replied c.append.ensures.fails

pub returns-in-Ok-clause-shown : goal.returns-in-Ok-clause-shown
returns-in-Ok-clause-shown g c = λ stored.
    let seat = sent_seat c.loop.member c.append.new.self (Append c.args.seq c.args.value) c.args.seq c.args.value _ _ c.append.result c.append.ensures.replied c.append.ensures.fails in
    subst (λ (p : ℕ). IsAmong p c.args.seq (shown_by c.append.new.self.seat_view.setup c.append.new.self.seat_view.seen)) (ap (λ (s : TableId × Setup × ℕ). s.2) (sym seat)) (c.in-Ok.ensures.shown stored)

pub loop-preserved : goal.loop-preserved
loop-preserved g c = record {
  seat = sent_seat c.loop.member c.append.new.self (Append c.args.seq c.args.value) c.args.seq c.args.value _ _ c.append.result c.append.ensures.replied c.append.ensures.fails ∙ c.loop.invariant.seat;
  only = λ width k fits old.
      sends_append width k c.loop.member c.append.new.self c.args.seq c.args.value _ _ (fits_seat width k c.loop.member c.args.member.now c.args.seq c.args.value c.loop.invariant.seat fits) (c.loop.invariant.only width k fits old) c.append.result c.append.ensures.replied c.append.ensures.fails;
  out = (let no = append_left c.loop.member c.append.new.self c.args.seq c.args.value _ _ c.append.result c.append.ensures.fails (c.requires.width ∙ ap (λ (s : TableId × Setup × ℕ). s.1.layout.width) (sym c.loop.invariant.seat)) c.loop.invariant.out in c.append.ensures.out no.0 no.1);
  ordered = λ old. orders_append c.loop.member c.append.new.self c.args.seq c.args.value _ _ (c.loop.invariant.ordered old) c.append.result c.append.ensures.replied c.append.ensures.fails;
  grown = grown_on c.args.member.now c.loop.member c.append.new.self c.loop.invariant.grown (append_grows c.loop.member c.append.new.self c.args.seq c.args.value _ _ c.append.result c.append.ensures.replied c.append.ensures.fails);
}

pub returns-then-not-is_crash : goal.returns-then-not-is_crash
returns-then-not-is_crash g c = record {
  seat = sent_seat c.loop.member c.append.new.self (Append c.args.seq c.args.value) c.args.seq c.args.value _ _ c.append.result c.append.ensures.replied c.append.ensures.fails ∙ c.loop.invariant.seat;
  only = λ width k fits old.
      sends_append width k c.loop.member c.append.new.self c.args.seq c.args.value _ _ (fits_seat width k c.loop.member c.args.member.now c.args.seq c.args.value c.loop.invariant.seat fits) (c.loop.invariant.only width k fits old) c.append.result c.append.ensures.replied c.append.ensures.fails;
  shown = tt;
  reports = tt;
  out = (let no = append_left c.loop.member c.append.new.self c.args.seq c.args.value _ _ c.append.result c.append.ensures.fails (c.requires.width ∙ ap (λ (s : TableId × Setup × ℕ). s.1.layout.width) (sym c.loop.invariant.seat)) c.loop.invariant.out in c.append.ensures.out no.0 no.1);
  kind = tt;
  tells = tt;
  ordered = λ old. orders_append c.loop.member c.append.new.self c.args.seq c.args.value _ _ (c.loop.invariant.ordered old) c.append.result c.append.ensures.replied c.append.ensures.fails;
  ruin = λ old is. append_reported c.loop.member c.append.new.self c.args.seq c.args.value _ _ (c.loop.invariant.ordered old) (orders_append c.loop.member c.append.new.self c.args.seq c.args.value _ _ (c.loop.invariant.ordered old) c.append.result c.append.ensures.replied c.append.ensures.fails) c.append.result c.in-Err.fault c.in-Err.is is c.append.ensures.fails;
  spent = λ is. append_spent c.loop.member c.append.new.self c.args.seq c.args.value _ _ c.append.result c.in-Err.fault c.in-Err.is is c.append.ensures.fails;
  faults = append_faults c.loop.member c.append.new.self c.args.seq c.args.value _ _ c.append.result c.in-Err.fault c.in-Err.is c.append.ensures.fails (c.requires.width ∙ ap (λ (s : TableId × Setup × ℕ). s.1.layout.width) (sym c.loop.invariant.seat)) c.loop.invariant.out (λ e. absurd (let k : false ≡ true = c.if-not-is_crash.ensures.1 e in cc)) c.append.ensures.patient;
}

pub returns-in-Ok-clause-out : goal.returns-in-Ok-clause-out
returns-in-Ok-clause-out g c = let no = append_left c.loop.member c.append.new.self c.args.seq c.args.value _ _ c.append.result c.append.ensures.fails (c.requires.width ∙ ap (λ (s : TableId × Setup × ℕ). s.1.layout.width) (sym c.loop.invariant.seat)) c.loop.invariant.out in c.append.ensures.out no.0 no.1

pub returns-in-Ok-clause-tells : goal.returns-in-Ok-clause-tells
returns-in-Ok-clause-tells g c = reported_from c.args.member.now c.loop.member c.append.new.self c.args.seq _ c.loop.invariant.grown c.loop.invariant.seat c.in-Ok.ensures.tells

pub returns-in-Ok-clause-ordered : goal.returns-in-Ok-clause-ordered
returns-in-Ok-clause-ordered g c = λ old. orders_append c.loop.member c.append.new.self c.args.seq c.args.value _ _ (c.loop.invariant.ordered old) c.append.result c.append.ensures.replied c.append.ensures.fails
