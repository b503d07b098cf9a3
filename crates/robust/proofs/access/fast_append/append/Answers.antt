use Rattle.std.proofs.Common.{◌≡◌, ℕ, List, ◌+◌, ◌*◌, ◌∙◌, Option, Some, None, IfSome, length, sym, ap, subst, arith}
use Rattle.robust.proofs.AccessCommon.{Reply, Stored, Script, puts, store_steps, record_of, Mail, Setup, at_append, HasLeft, EndsIn, append_decision}
use Rattle.redomail.specs.Script.{Done}
use Rattle.redomail.specs.Tasks.{early_reply, unless_replied}
use Rattle.robust.proofs.FreeSteps.{ends_then}
use Rattle.table_runs.specs.Under.{Appends}
use Rattle.table_runs.proofs.Begun.{early_kind}
use Rattle.robust.proofs.FastAppend.{early_room}
use Rattle.robust.proofs.access.fast_append.append.Goals as goal

-- what is left of an append that has read its three words, from its early reply
left_by : (s t : Setup) (by seq : ℕ) (value : List ℕ) (closed count last : ℕ) (o : Option Reply) → s ≡ t → early_reply s.layout.cap seq closed count last ≡ o
    → append_decision t.layout by seq value closed count last ≡ unless_replied o (puts (store_steps t.layout by (record_of count seq value)) (Done Stored))
left_by s t by seq value closed count last o same is =
    ap (λ p. unless_replied p (puts (store_steps t.layout by (record_of count seq value)) (Done Stored)))
    (ap (λ (x : Setup). early_reply x.layout.cap seq closed count last) (sym same) ∙ is)

pub returns-in-Some-clause-at : goal.returns-in-Some-clause-at
returns-in-Some-clause-at c =
    c.read_heads-heads.ensures.at ∙ ap (at_append c.args.seq c.args.value.now) (left_by c.setup-setup.result c.args.port.now.setup c.args.port.now.by c.args.seq c.args.value.now c.read_heads-heads.result.closed c.read_heads-heads.result.count c.read_heads-heads.result.last (Some c.in-Some.reply) c.setup-setup.ensures.is (sym c.early_reply.ensures ∙ c.in-Some.is))

pub returns-in-Some-clause-ends : goal.returns-in-Some-clause-ends
returns-in-Some-clause-ends c =
    subst (λ (s : Script Reply). HasLeft c.args.port.now 3 s c.read_heads-heads.new.port) (left_by c.setup-setup.result c.args.port.now.setup c.args.port.now.by c.args.seq c.args.value.now c.read_heads-heads.result.closed c.read_heads-heads.result.count c.read_heads-heads.result.last (Some c.in-Some.reply) c.setup-setup.ensures.is (sym c.early_reply.ensures ∙ c.in-Some.is)) c.read_heads-heads.ensures.left

pub returns-in-Some-clause-kind : goal.returns-in-Some-clause-kind
returns-in-Some-clause-kind c = subst (λ o. IfSome o (Appends c.args.seq)) (sym c.early_reply.ensures ∙ c.in-Some.is) (early_kind c.setup-setup.result.layout.cap c.args.seq c.read_heads-heads.result.closed c.read_heads-heads.result.count c.read_heads-heads.result.last)

pub store-requires-clause-room : goal.store-requires-clause-room
store-requires-clause-room c =
    let cap : c.setup-setup.result.layout.cap ≡ c.args.port.now.setup.layout.cap = ap (λ (s : Setup). s.layout.cap) c.setup-setup.ensures.is in
    omega (arith, c.read_heads-heads.ensures.room, early_room c.setup-setup.result.layout.cap c.args.seq c.read_heads-heads.result.closed c.read_heads-heads.result.count c.read_heads-heads.result.last (sym c.early_reply.ensures ∙ c.in-None.is), cap)

pub store-requires-clause-at : goal.store-requires-clause-at
store-requires-clause-at c =
    let heads = c.read_heads-heads.result in
    c.read_heads-heads.ensures.at ∙ ap (at_append c.args.seq c.args.value.now) (left_by c.setup-setup.result c.args.port.now.setup c.args.port.now.by c.args.seq c.args.value.now c.read_heads-heads.result.closed c.read_heads-heads.result.count c.read_heads-heads.result.last None c.setup-setup.ensures.is (sym c.early_reply.ensures ∙ c.in-None.is))
    ∙ (λ i. at_append c.args.seq c.args.value.now (puts (store_steps (sym c.setup-setup.ensures.is i).layout (sym c.by-own.ensures.is i) (record_of heads.count c.args.seq c.args.value.now)) (Done Stored)))

pub returns-in-None-clause-ends : goal.returns-in-None-clause-ends
returns-in-None-clause-ends c =
    let w = c.args.port.now in
    let y = c.read_heads-heads.new.port in
    let three = subst (λ (s : Script Reply). HasLeft w 3 s y) (left_by c.setup-setup.result c.args.port.now.setup c.args.port.now.by c.args.seq c.args.value.now c.read_heads-heads.result.closed c.read_heads-heads.result.count c.read_heads-heads.result.last None c.setup-setup.ensures.is (sym c.early_reply.ensures ∙ c.in-None.is)) c.read_heads-heads.ensures.left in
    let width : w.setup.layout.width ≡ c.setup-setup.result.layout.width = ap (λ (s : Setup). s.layout.width) (sym c.setup-setup.ensures.is) in
    let many : 3 + (8 + 2 * length c.args.value.now) ≡ 11 + 2 * c.setup-setup.result.layout.width = omega arith in
    subst (λ (k : ℕ). EndsIn w k (Mail Stored) c.store.new.port) many (ends_then w y c.store.new.port 3 (8 + 2 * length c.args.value.now) (Mail Stored) three c.store.ensures.ends)
