use Rattle.std.proofs.Common.{sym, inr}
use Rattle.std.proofs.lemmas.Option.{same_Some}
use Rattle.std.proofs.lemmas.Result.{err_from_is_err_and}
use Rattle.algorithm_texts.proofs.LineTokens.{space_read, token_read, not_done, read_to_done, read_to_end, read_to_fault}
use Rattle.algorithm_texts.proofs.tokens.read_tokens.Goals as goal

pub loop-first-preserved-then-first-eq32 : goal.loop-first-preserved-then-first-eq32
loop-first-preserved-then-first-eq32 c =
    space_read c.args.all.now.items c.args.bytes.now c.loop-first.all.items c.loop-first.rest.now c.in-Some.after.now c.in-Some.first.now c.in-Some.ensures.cases.0 c.if-first-eq32.true c.loop-first.invariant

pub returns-in_err-token-clause-err : goal.returns-in_err-token-clause-err
returns-in_err-token-clause-err c =
    let p = err_from_is_err_and c.from_residual.result c.from_residual.ensures.1 in
    rw (p.1, p.2) (inr (read_to_fault c.args.all.now.items c.args.bytes.now c.loop-first.all.items c.loop-first.rest.now c.in-Some.after.now c.in-Some.first.now c.in_err-token.field-0.0
    c.in-Some.ensures.cases.0 c.if-first-eq32.false (sym c.in_err-token.ensures.token) c.loop-first.invariant))

pub loop-first-preserved : goal.loop-first-preserved
loop-first-preserved c =
    token_read c.args.all.now.items c.args.bytes.now c.loop-first.all.items c.push.new.self.items c.loop-first.rest.now c.in-Some.after.now _ c.in-Some.first.now c.in_ok-token.token c.in_ok-token.size
    c.in-Some.ensures.cases.0 c.if-first-eq32.false (sym c.in_ok-token.ensures.token) (not_done c.in_ok-token.token c.is_word.result c.if-is_word.false c.is_word.ensures.is.1) c.in_ok-push.ensures.items
    c.tail-rest.ensures c.loop-first.invariant

pub returns-then-is_word-clause-ok : goal.returns-then-is_word-clause-ok
returns-then-is_word-clause-ok c =
    read_to_done c.args.all.now.items c.args.bytes.now c.loop-first.all.items c.push.new.self.items c.loop-first.rest.now c.in-Some.after.now _ c.in-Some.first.now c.in_ok-token.token c.in_ok-token.size
    c.in-Some.ensures.cases.0 c.if-first-eq32.false (sym c.in_ok-token.ensures.token) (same_Some _ _ (c.is_word.ensures.is.0 c.if-is_word.true)) c.in_ok-push.ensures.items c.tail-rest.ensures
    c.loop-first.invariant

pub returns-clause-ok : goal.returns-clause-ok
returns-clause-ok c = read_to_end c.args.all.now.items c.args.bytes.now c.loop-first.all.items c.loop-first.rest.now c.in_default.ensures.cases c.loop-first.invariant
