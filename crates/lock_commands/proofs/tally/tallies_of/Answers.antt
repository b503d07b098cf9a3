use Rattle.std.proofs.Common.{ap, ◌∙◌, not, take, ◌++◌, ◌∷◌, [], sym, refl, subst, Bool, true, false, ◌≡◌}
use Rattle.std.proofs.lemmas.List.{take_more, take_all}
use Rattle.lock_commands.proofs.Tallies.{AreCounted, counted_none, counted_more, counted_all}
use Rattle.lock_commands.proofs.tally.tallies_of.Goals as goal

pub loop-message-init : goal.loop-message-init
loop-message-init c = counted_none c.args.procs c.in_ok-tallies.tallies.items c.new-met.result.keys c.in_ok-tallies.ensures c.new-met.ensures.len

not_not : (b : Bool) → not (not b) ≡ b
not_not true = refl
not_not false = refl

pub loop-message-preserved : goal.loop-message-preserved
loop-message-preserved c =
    let ms = c.args.messages.now in
    let i = c.loop-message.message-index in
    let m = c.message-item.result in
    let more = take_more ms i m c.loop-message-test.true ∙ ap (λ x. take i ms ++ x ∷ []) (sym c.message-item.is) in
    rw (more, c.count.ensures, c.in_ok-again.ensures.keys)
    (counted_more c.args.procs (take i ms) c.loop-message.tallies.items c.loop-message.met.keys c.loop-message.invariant m (not c.in_ok-again.field-0)
    (ap not c.in_ok-again.ensures.added ∙ not_not _))

pub returns : goal.returns
returns c =
    let ms = c.args.messages.now in
    counted_all c.args.procs ms c.loop-message.tallies.items c.loop-message.met.keys
    (subst (λ some. AreCounted c.args.procs some c.loop-message.tallies.items c.loop-message.met.keys)
    (take_all c.loop-message.message-index ms c.loop-message-test.false) c.loop-message.invariant)
