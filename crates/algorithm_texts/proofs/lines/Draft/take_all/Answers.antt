use Rattle.std.proofs.Common.{◌+◌, ◌<◌, cond, MatchBool, refl, sym, ◌∙◌, subst}
use Rattle.std.proofs.lemmas.Bool.{false≢true}
use Rattle.algorithm_texts.specs.Drafts.{draft_view}
use Rattle.algorithm_texts.specs.Rounds.{LeadOn, count_marks}
use Rattle.algorithm_texts.proofs.RoundMarks.{taken_smaller}
use Rattle.algorithm_texts.proofs.lines.Draft.take_all.Goals as goal

pub loop-more-init : goal.loop-more-init
loop-more-init c = record { size = refl; long = c.requires; kept = λ at h. h; rounds = λ r. r; rest = λ e. absurd (false≢true (sym e)) }

pub loop-more-preserved : goal.loop-more-preserved
loop-more-preserved c =
    let was = c.loop-more.invariant in
    let now = c.take_out-more.ensures in
    record {
      size = now.size.0 ∙ was.size;
      long = now.size.1 ∙ was.long;
      kept = λ at h. was.kept at (now.fewer at h);
      rounds = λ r. now.rounds (was.rounds r);
      rest = λ e. subst (λ b. MatchBool b (count_marks c.take_out-more.new.left < count_marks c.loop-more.left) (LeadOn (draft_view c.args.self.now) c.args.call c.take_out-more.new.left)) e now.progress;
    }

pub loop-more-smaller : goal.loop-more-smaller
loop-more-smaller c =
    let now = c.take_out-more.ensures in
    subst (λ b. count_marks c.take_out-more.new.left + cond c.take_out-more.result 1 0 < count_marks c.loop-more.left + cond b 1 0) (sym c.loop-more-test.true)
    (taken_smaller c.take_out-more.result (count_marks c.take_out-more.new.left) (count_marks c.loop-more.left) (LeadOn (draft_view c.args.self.now) c.args.call c.take_out-more.new.left)
    now.count now.progress)

pub returns-clause-rest : goal.returns-clause-rest
returns-clause-rest c = c.loop-more.invariant.rest c.loop-more-test.false
