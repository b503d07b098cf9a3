-- A judge allows all that the text reports: of a move, of a line, of a run.
use Rattle.std.proofs.Common.{◌≡◌, ℕ, ◌^◌, ◌≤◌, nat_lt, nat_le, Bool, true, false, ◌&&◌, cond, List, [], ◌++◌, Option, Some, None, Ok, refl, sym, ap, ◌∙◌, subst, leb-true}
use Rattle.rmecore.specs.AbstractLock.{Abstract, nobody}
use Rattle.rmecore.specs.World.{World, at_rest}
use Rattle.rmecore.specs.declared.phase.Phase.{Phase}
use Rattle.redomail.specs.declared.deed.Deed.{Deed}
use Rattle.judge.specs.Legal.{judged_all}
use Rattle.judge.proofs.Histories.{judged_all-append}
use Rattle.algorithms.specs.FirstWords.{from_zeros}
use Rattle.algorithms.specs.Worlds.{new_refusal, value_refusal}
use Rattle.algorithms.specs.declared.algorithm.Algorithm.{Algorithm}
use Rattle.algorithms.specs.declared.algorithm.AlgorithmCall.{AlgorithmCall}
use Rattle.algorithms.specs.declared.process.AlgorithmProcess.{AlgorithmProcess}
use Rattle.algorithms.specs.declared.refusal.AlgorithmRefusal.{AlgorithmRefusal}
use Rattle.algorithms.specs.declared.refusal.AlgorithmRefusal.TheVariants.{BadProcs, BadLimit}
use Rattle.algorithm_lab.specs.Bakery.{IsBakery}
use Rattle.algorithm_lab.specs.Monitors.{MonitorState, first_monitor, part_of_start, start_on, step_on, crash_on}
use Rattle.algorithm_lab.specs.Moves.{MoveResult, moved_by}
use Rattle.algorithm_lab.proofs.BakeryDeeds.{judge_at, deeds_said}
use Rattle.algorithm_lab.proofs.BakeryWorlds.{state, Alike, Matches, start_matches, step_matches, crash_matches, first_alike, first_is}

none_fits : (x y z u low up : Bool) (o : Option AlgorithmRefusal) → cond (x && y && z && u) (cond (low && up) o (Some BadLimit)) (Some BadProcs) ≡ None → (u ≡ true) × (up ≡ true)
none_fits true true true true true true o e = (refl, refl)
none_fits true true true true true false o e = absurd (cc)
none_fits true true true true false up o e = absurd (cc)
none_fits true true true false low up o e = absurd (cc)
none_fits true true false u low up o e = absurd (cc)
none_fits true false z u low up o e = absurd (cc)
none_fits false y z u low up o e = absurd (cc)

-- the sizes of a world are sizes of the lock
pub fitting : (a : Algorithm) (n limit : ℕ) → new_refusal (from_zeros a) n limit ≡ None → (n ≤ 64) × (limit ≤ 2 ^ 62)
fitting a n limit e =
    let h = none_fits (nat_le a.least n) (nat_le n a.most) (nat_le 1 n) (nat_le n 64) (nat_lt 0 limit) (nat_le limit (2 ^ 62)) (value_refusal (from_zeros a) n limit) e in
    (leb-true n 64 h.0, leb-true limit (2 ^ 62) h.1)

module _ (a : Algorithm) (b : IsBakery a) (n limit : ℕ) (most : n ≤ 64) (high : limit ≤ 2 ^ 62) where
  -- some world of the lock is beside this one, with a judge in this state
  pub record Beside (lock : Abstract) (m : MonitorState) : Type 0 where
    pub world : World
    pub rows : List (List ℕ)
    pub processes : List AlgorithmProcess
    pub now : List Phase
    pub is : m ≡ state a b n limit most high rows processes now
    pub alike : Alike a b n limit most high world lock rows processes now

  -- the judge allows these deeds, and then some world of the lock is beside this one
  pub record Led (from : Abstract) (deeds : List Deed) (m : MonitorState) : Type 0 where
    pub lock : Abstract
    pub judged : judged_all (judge_at n from) deeds ≡ Ok (judge_at n lock)
    pub beside : Beside lock m

  pub first_beside : Beside nobody (first_monitor (from_zeros a) n limit)
  first_beside = record { world = at_rest; rows = _; processes = _; now = _; is = first_is a b n limit most high; alike = first_alike a b n limit most high }

  -- nothing happens
  pub stays : (lock : Abstract) (m : MonitorState) → Beside lock m → Led lock [] m
  stays lock m h = record { lock = lock; judged = refl; beside = h }

  -- one after the other
  pub led_on : (from : Abstract) (deeds more : List Deed) (m l : MonitorState) → (first : Led from deeds m) → Led first.lock more l → Led from (deeds ++ more) l
  led_on from deeds more m l first later = record {
    lock = later.lock;
    judged = judged_all-append (judge_at n from) (judge_at n first.lock) deeds more first.judged ∙ later.judged;
    beside = later.beside;
  }

  matched : (from : Abstract) (o : MoveResult World) (q : MoveResult MonitorState) → Matches a b n limit most high from o q → Led from (deeds_said q.said) q.left
  matched from o q h = record {
    lock = h.lock;
    judged = ap (λ (q : MoveResult MonitorState). judged_all (judge_at n from) (deeds_said q.said)) h.is ∙ h.judged;
    beside = record { world = o.left; rows = h.rows; processes = h.processes; now = h.now; is = ap (λ (q : MoveResult MonitorState). q.left) h.is; alike = h.alike };
  }

  -- ---- moves

  -- what a move of this kind does, from a world of the text beside one of the lock
  abbrev LedBy : Abstract → (MonitorState → MoveResult MonitorState) → MonitorState → Type 0
  LedBy lock make m = Led lock (deeds_said (make m).said) (make m).left

  from_beside : (lock : Abstract) (make : MonitorState → MoveResult MonitorState) (m : MonitorState) → (h : Beside lock m) → LedBy lock make (state a b n limit most high h.rows h.processes h.now) → LedBy lock make m
  from_beside lock make m h led = subst (LedBy lock make) (sym h.is) led

  pub start_led : (lock : Abstract) (m : MonitorState) (p : ℕ) (call : AlgorithmCall) → Beside lock m → LedBy lock (λ m. moved_by m (part_of_start (start_on m p call))) m
  start_led lock m p call h = from_beside lock (λ m. moved_by m (part_of_start (start_on m p call))) m h (matched lock _ _ (start_matches a b n limit most high h.world lock h.rows h.processes h.now h.alike p call))

  pub step_led : (lock : Abstract) (m : MonitorState) (p : ℕ) → Beside lock m → LedBy lock (λ m. moved_by m (step_on m p)) m
  step_led lock m p h = from_beside lock (λ m. moved_by m (step_on m p)) m h (matched lock _ _ (step_matches a b n limit most high h.world lock h.rows h.processes h.now h.alike p))

  pub crash_led : (lock : Abstract) (m : MonitorState) (p : ℕ) → Beside lock m → LedBy lock (λ m. moved_by m (crash_on m p)) m
  crash_led lock m p h = from_beside lock (λ m. moved_by m (crash_on m p)) m h (matched lock _ _ (crash_matches a b n limit most high h.world lock h.rows h.processes h.now h.alike p))
