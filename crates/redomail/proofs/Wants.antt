-- A job that has not ended has a next access.
use Rattle.std.proofs.Common.{◌≡◌, ℕ, zero, suc, ◌+◌, ◌-◌, ◌*◌, ◌<◌, List, [], ◌∷◌, None, length, take, drop, refl, arith}
use Rattle.redomail.specs.declared.layout.Layout.{Layout}
use Rattle.redomail.specs.declared.record.Record.{Record}
use Rattle.redomail.specs.declared.reply.Reply.{Reply}
use Rattle.redomail.specs.declared.stage.JobStage.{JobStage}
use Rattle.redomail.specs.declared.stage.JobStage.TheVariants as stage
use Rattle.redomail.specs.Jobs.{left_at, FitsStage}
use Rattle.redomail.specs.Script.{Script, Done, head, reply_in, puts, gets}
use Rattle.redomail.specs.Tasks.{store_steps, redo}
use Rattle.redomail.proofs.Scripts.{length-store_steps}

puts_want : (xs : List (ℕ × ℕ)) (k : ℕ) (e : Script Reply) → k < length xs → reply_in (head (puts (drop k xs) e)) ≡ None
puts_want [] k e h = absurd (omega arith)
puts_want (x ∷ xs) zero e h = refl
puts_want (x ∷ xs) (suc k) e h = puts_want xs k e (omega arith)

pub store_wants : (l : Layout) (p : ℕ) (r : Record) (k : ℕ) (e : Script Reply) → k < 8 + 2 * length r.value → reply_in (head (puts (drop k (store_steps l p r)) e)) ≡ None
store_wants l p r k e h = let n = length-store_steps l p r in puts_want (store_steps l p r) k e (omega arith)

gets_want : (i n : ℕ) (read : List ℕ) (next : List ℕ → Script Reply) → 0 < n → reply_in (head (gets i n read next)) ≡ None
gets_want i zero read next h = absurd (omega arith)
gets_want i (suc n) read next h = refl

pub stage_wants : (l : Layout) (p : ℕ) (x : JobStage) → FitsStage l x → ((a : Reply) → x ≡ stage.Ended a → ⊥) → reply_in (head (left_at l p x)) ≡ None
stage_wants l p (stage.AskClosed seq value) fits more = refl
stage_wants l p (stage.AskCount seq value closed) fits more = refl
stage_wants l p (stage.AskLast seq value closed count) fits more = refl
stage_wants l p stage.AskUsable fits more = refl
stage_wants l p stage.AskArmed fits more = refl
stage_wants l p stage.AskAt fits more = refl
stage_wants l p (stage.AskSeq at) fits more = refl
stage_wants l p (stage.AskValue at seq words read) fits more =
    let within = fits.read in gets_want (6 + read) (l.width - read) (take read words) (redo l p at seq) (omega (arith, within))
stage_wants l p (stage.Write r step a) fits more =
    let wide = fits.value in
    let within = fits.step in store_wants l p r step (Done a) (omega (arith, wide, within))
stage_wants l p stage.AskOpen fits more = refl
stage_wants l p stage.PutClosed fits more = refl
stage_wants l p (stage.GetBoard i) fits more = refl
stage_wants l p (stage.PutBoard i v) fits more = refl
stage_wants l p stage.PutRuined fits more = refl
stage_wants l p stage.AskRuined fits more = refl
stage_wants l p (stage.Ended a) fits more = absurd (more a refl)
