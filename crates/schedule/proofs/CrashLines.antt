-- A crash of all processes is a crash of each in a row.
use Rattle.std.proofs.Common.{◌≡◌, ℕ, zero, suc, ◌+◌, ◌≤◌, nat_lt, lt-ltb, le-ltb, true, false, if◌then◌else◌, List, [], ◌∷◌, map, Some, None, refl, ap, ◌∙◌, arith}
use Rattle.std.specs.List.{range_with_len}
use Rattle.rmecore.specs.declared.refusal.Refusal.TheVariants.{NoSuchProcess}
use Rattle.schedule.proofs.ReplaysCommon.{Refusal, Crash, CrashAll, crashes_in_a_row, reports_by, transitions_of, LockReport, Did, Behaviour, line_on, run_on, WorldState, world_behaviour}
use Rattle.schedule.specs.Runs.{IsSameAsLines}

-- a machine whose worlds have a number of processes, which a crash does not change: just their crashes are not refused
module _ {S : Type 0} (b : Behaviour S) (procs : S → ℕ) (refusal : Refusal) (refuses : (s : S) (p : ℕ) → b.crash_refusal s p ≡ (if nat_lt p (procs s) then None else Some refusal))
    (same : (s : S) (p : ℕ) → procs (b.crashed s p) ≡ procs s) where
  -- the crashes of p and of the processes after it, of which there are n
  each : (n p j k : ℕ) (s : S) → n + p ≡ procs s → n ≤ j
      → ((crashes_in_a_row (transitions_of b) reports_by p j s).0 ≡ (run_on b k s (map Crash (range_with_len p n))).reports)
      × ((crashes_in_a_row (transitions_of b) reports_by p j s).1 ≡ (run_on b k s (map Crash (range_with_len p n))).left)
      × ((run_on b k s (map Crash (range_with_len p n))).refused ≡ None)
  unfolding crashes_in_a_row run_on line_on
  each zero p zero k s count few = (refl, refl, refl)
  each zero p (suc j) k s count few =
      let gone : nat_lt p (procs s) ≡ false = le-ltb p (procs s) (omega (arith, count)) in
      let no : b.crash_refusal s p ≡ Some refusal = refuses s p ∙ rw gone refl in
      rw no (refl, refl, refl)
  each (suc n) p zero k s count few = absurd (omega (arith, few))
  each (suc n) p (suc j) k s count few =
      let there : nat_lt p (procs s) ≡ true = lt-ltb p (procs s) (omega (arith, count)) in
      let may : b.crash_refusal s p ≡ None = refuses s p ∙ rw there refl in
      let rest = each n (p + 1) j (k + 1) (b.crashed s p) (omega (arith, count, same s p)) (omega (arith, few)) in
      rw may (ap (λ (reports : List LockReport). Did (b.crash_deed s p) ∷ reports) rest.0, rest.1, rest.2)

  pub crash_all_is_each : (s : S) → procs s ≤ 64 → IsSameAsLines b s CrashAll (map Crash (range_with_len 0 (procs s)))
  unfolding line_on
  crash_all_is_each s few =
      let all = each (procs s) 0 64 2 s (omega arith) few in
      record { reports = all.0; left = all.1; accepted = refl; all_accepted = all.2 }

pub world_crash_all : (world : WorldState) → world.layout.procs ≤ 64 → IsSameAsLines world_behaviour world CrashAll (map Crash (range_with_len 0 world.layout.procs))
world_crash_all world few = crash_all_is_each world_behaviour (λ (w : WorldState). w.layout.procs) NoSuchProcess (λ w p. refl) (λ w p. refl) world few
