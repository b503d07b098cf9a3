-- A job that stores a record has a step left after each step but the last.
use Rattle.std.proofs.Common.{◌≡◌, ℕ, true, nat_lt, subst, sym, ◌+◌, ◌*◌, ◌<◌, Option, None, IfSome, length, drop, refl, arith}
use Rattle.redomail.specs.declared.layout.Layout.{Layout}
use Rattle.redomail.specs.declared.record.Record.{Record}
use Rattle.redomail.specs.declared.reply.Reply.{Reply}
use Rattle.std.proofs.lemmas.Bool.{lt-ltb}
use Rattle.redomail.specs.declared.stage.JobStage.TheVariants.{Write}
use Rattle.redomail.specs.Left.{Pending, script_left, job_after_word}
use Rattle.redomail.specs.Jobs.{left_at}
use Rattle.redomail.specs.Stages.{stage_after}
use Rattle.redomail.specs.Script.{Script, Get as Asks, Put as Writes, Done, head, reply_in, puts}
use Rattle.redomail.specs.Tasks.{store_steps}
use Rattle.redomail.proofs.Wants.{store_wants}
use Rattle.rmeworld.specs.ScriptStates.{HasStep}

-- a script without a reply has a step left, and a script with a reply is done
pub goes_on : (e : Script Reply) (r : Option Reply) → r ≡ reply_in (head e) → r ≡ None → HasStep e
goes_on (Asks i next) r is none = tt
goes_on (Writes i v rest) r is none = tt
goes_on (Done reply) r is none = absurd (cc)

pub replied : (e : Script Reply) (r : Option Reply) → r ≡ reply_in (head e) → IfSome r (λ reply. e ≡ Done reply)
replied (Asks i next) r is = rw is tt
replied (Writes i v rest) r is = rw is tt
replied (Done reply) r is = rw is refl

pub store_left : (l : Layout) (p : ℕ) (r : Record) (k : ℕ) (e : Script Reply) → k < 8 + 2 * length r.value → HasStep (puts (drop k (store_steps l p r)) e)
store_left l p r k e h = goes_on _ None (sym (store_wants l p r k e h)) refl

write_on : (l : Layout) (p : ℕ) (r : Record) (k : ℕ) (a : Reply) (word : ℕ) → length r.value ≡ l.width → k + 1 < 8 + 2 * l.width → HasStep (left_at l p (stage_after l (Write r k a) word))
write_on l p r k a word wide h =
    let on : nat_lt (k + 1) (8 + 2 * l.width) ≡ true = lt-ltb (k + 1) (8 + 2 * l.width) h in
    rw on (store_left l p r (k + 1) (Done a) (omega (arith, wide, h)))

-- a job that stores
pub stores_on : (job : Pending) (r : Record) (k : ℕ) (a : Reply) (word : ℕ) → job.stage ≡ Write r k a → length r.value ≡ job.layout.width → k + 1 < 8 + 2 * job.layout.width → HasStep (script_left (job_after_word job word))
stores_on job r k a word is wide h = subst (λ x. HasStep (left_at job.layout job.sender (stage_after job.layout x word))) (sym is) (write_on job.layout job.sender r k a word wide h)
