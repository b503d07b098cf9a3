-- A step of a job, as the process sees it: the job goes on, or ends with its reply.
use Rattle.std.proofs.Common.{◌≡◌, ℕ, zero, suc, ◌+◌, ◌-◌, ◌*◌, ◌<◌, Bool, false, is_none, List, [], ◌∷◌, length, take, drop, Option, Some, None, IsSome, IfSome, refl, arith}
use Rattle.rme_c.proofs.Common.{Access, kind_of, carried_value, Place, Layout, Reply, left_at, Pending, script_left, Done, tail, Script, Get as Asks, Put as Writes, puts, gets, store_steps, redo}
use Rattle.rme_c.proofs.Common.{length-store_steps, Answer, Doing as Does, Purpose, by_script, answer_by, blocked_by, HasStep, next_access, MachineState, job_left, outcome, access_by, with}
use Rattle.redomail.specs.declared.record.Record.{Record}
use Rattle.redomail.specs.declared.stage.JobStage.TheVariants as stage
use Rattle.rmeworld.specs.ProcessState.{Doing}

-- what a script's step answers: it is never blocked
reports : (limit p : ℕ) (s : Place) (b c : Bool) (purpose : Purpose) (e : Script Reply) (v : ℕ) → HasStep e
    → IfSome (access_by limit p s (Doing purpose e)) (λ a. (answer_by s b c (Doing purpose e) (kind_of a) (carried_value a v) ≡ by_script purpose b (tail e v)) × (blocked_by p s (Doing purpose e) (kind_of a) (carried_value a v) ≡ false))
reports limit p s b c purpose (Asks i rest) v h = (refl, refl)
reports limit p s b c purpose (Writes i x rest) v h = (refl, refl)
reports limit p s b c purpose (Done reply) v h = absurd h

-- a script that has a step left has a next access
pub wants : (limit p : ℕ) (s : Place) (purpose : Purpose) (e : Script Reply) → HasStep e → is_none (access_by limit p s (Doing purpose e)) ≡ false
wants limit p s purpose (Asks i rest) h = refl
wants limit p s purpose (Writes i x rest) h = refl
wants limit p s purpose (Done reply) h = absurd h

has_access : (limit p : ℕ) (s : Place) (purpose : Purpose) (e : Script Reply) → HasStep e → IsSome (access_by limit p s (Doing purpose e))
has_access limit p s purpose (Asks i rest) h = cc
has_access limit p s purpose (Writes i x rest) h = cc
has_access limit p s purpose (Done reply) h = absurd h

-- the outcome of a job's step for its call
abbrev pub Report : MachineState → ℕ → Option Answer → Type 0
Report s v answer = ((outcome s (next_access s) v).answer ≡ answer) × ((outcome s (next_access s) v).progress.blocked ≡ false)

pub is_reported : (s : MachineState) (purpose : Purpose) (job : Pending) (v : ℕ) → HasStep (script_left job) → Report (with s (Does purpose job)) v (by_script purpose s.mended (tail (script_left job) v))
is_reported s purpose job v h =
    by (access_by s.limit s.index s.lock (Doing purpose (script_left job))) (reports s.limit s.index s.lock s.mended s.barred purpose (script_left job) v h) (has_access s.limit s.index s.lock purpose (script_left job) h)
  where
    by : (o : Option Access) → IfSome o (λ a. (answer_by s.lock s.mended s.barred (Doing purpose (script_left job)) (kind_of a) (carried_value a v) ≡ by_script purpose s.mended (tail (script_left job) v)) × (blocked_by s.index s.lock (Doing purpose (script_left job)) (kind_of a) (carried_value a v) ≡ false)) → IsSome o
        → ((outcome (with s (Does purpose job)) o v).answer ≡ by_script purpose s.mended (tail (script_left job) v)) × ((outcome (with s (Does purpose job)) o v).progress.blocked ≡ false)
    by None h some = cc
    by (Some a) h some = h

pub stays : (s : MachineState) (purpose : Purpose) (job : Pending) (e : Script Reply) → HasStep e → job_left s purpose job e ≡ record s { script_state = Does purpose job }
stays s purpose job (Asks i rest) h = refl
stays s purpose job (Writes i v rest) h = refl
stays s purpose job (Done reply) h = absurd h

pub no_answer : (purpose : Purpose) (b : Bool) (e : Script Reply) → HasStep e → by_script purpose b e ≡ None
no_answer purpose b (Asks i rest) h = refl
no_answer purpose b (Writes i v rest) h = refl
no_answer purpose b (Done reply) h = absurd h

-- steps that are left
has_put : (xs : List (ℕ × ℕ)) (k : ℕ) (e : Script Reply) → k < length xs → HasStep (puts (drop k xs) e)
has_put [] k e h = absurd (omega arith)
has_put (x ∷ xs) zero e h = tt
has_put (x ∷ xs) (suc k) e h = has_put xs k e (omega arith)

pub storing : (l : Layout) (p : ℕ) (r : Record) (k : ℕ) (reply : Reply) → k < 8 + 2 * length r.value → HasStep (left_at l p (stage.Write r k reply))
storing l p r k reply h = let n = length-store_steps l p r in has_put (store_steps l p r) k (Done reply) (omega arith)

has_get : (i n : ℕ) (read : List ℕ) (next : List ℕ → Script Reply) → 0 < n → HasStep (gets i n read next)
has_get i zero read next h = absurd (omega arith)
has_get i (suc n) read next h = tt

pub reading : (l : Layout) (p at seq read : ℕ) (words : List ℕ) → read < l.width → HasStep (left_at l p (stage.AskValue at seq words read))
reading l p at seq read words h = has_get (6 + read) (l.width - read) (take read words) (redo l p at seq) (omega arith)
