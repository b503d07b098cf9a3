-- Copies after one more event, from what is done to their rows.
use Rattle.std.proofs.Common.{◌≡◌, ◌∙◌, ℕ, ◌*◌, ◌<◌, Bool, true, false, List, [], ◌∷◌, ◌++◌, length, replicate, ◌==◌, sym, ap, subst, arith}
use Rattle.std.specs.Int.{bit_at}
use Rattle.std.proofs.lemmas.List.{get_or-replicate, length-replicate}
use Rattle.std.proofs.lemmas.Nat.Bits.{bit_at-zero}
use Rattle.algorithms.specs.declared.access.Address.{Address}
use Rattle.algorithms.specs.declared.access.WordAccess.{WordAccess}
use Rattle.algorithms.specs.declared.remote_references.memory_event.MemoryEvent.{MemoryEvent}
use Rattle.algorithms.specs.declared.remote_references.memory_event.MemoryEvent.TheVariants.{Access, Crash, CrashAll}
use Rattle.algorithms.specs.remote_references.Copies.{copy_changes, crash_change, exclusive_changes, has_copy, has_exclusive_copy, last_or}
use Rattle.algorithms.specs.remote_references.CopyRows.{AreCopiesAfter, AreRowsOf, CopyRows, bit_of, row_number}
use Rattle.algorithms.proofs.remote_references.Changes.{copy_more, exclusive_more}

-- at the beginning all rows are 0
empty_rows : (n : ℕ) → AreRowsOf (replicate n 0) (λ word q. false)
empty_rows n word within q l =
    let low : row_number word < n = omega (arith, within.1, length-replicate {A = ℕ} n 0) in
    ap (λ row. bit_at row q) (get_or-replicate {A = ℕ} n (row_number word) 0 0 low) ∙ bit_at-zero q

pub none_held : (declarations : ℕ) (held exclusive : List ℕ) → held ≡ replicate (declarations * 64) 0 → exclusive ≡ replicate (declarations * 64) 0
    → AreCopiesAfter declarations [] (record { held = held; exclusive = exclusive })
none_held declarations held exclusive h e =
    record {
      held_all = ap length h ∙ length-replicate (declarations * 64) 0;
      exclusive_all = ap length e ∙ length-replicate (declarations * 64) 0;
      held = subst (λ rows. AreRowsOf rows (λ word q. false)) (sym h) (empty_rows (declarations * 64));
      exclusive = subst (λ rows. AreRowsOf rows (λ word q. false)) (sym e) (empty_rows (declarations * 64));
    }

-- rows of processes that are the same
rows_same : (rows : List ℕ) (holds others : Address → ℕ → Bool) → ((word : Address) (q : ℕ) → holds word q ≡ others word q) → AreRowsOf rows holds → AreRowsOf rows others
rows_same rows holds others same before word within q l = before word within q l ∙ ap bit_of (same word q)

-- what is done to rows by an event
abbrev RowsChange : List ℕ → List ℕ → (ℕ → Address → List Bool) → Type 0
RowsChange old new changes = (holds : Address → ℕ → Bool) → AreRowsOf old holds → AreRowsOf new (λ word q. last_or (holds word q) (changes q word))

event_noted : (declarations : ℕ) (run : List MemoryEvent) (event : MemoryEvent) (old new : CopyRows) → AreCopiesAfter declarations run old
    → length new.held ≡ length old.held → RowsChange old.held new.held (λ q word. copy_changes q word event)
    → length new.exclusive ≡ length old.exclusive → RowsChange old.exclusive new.exclusive (λ q word. exclusive_changes q word event) → AreCopiesAfter declarations (run ++ event ∷ []) new
event_noted declarations run event old new before held_long held exclusive_long exclusive =
    record {
      held_all = held_long ∙ before.held_all;
      exclusive_all = exclusive_long ∙ before.exclusive_all;
      held = rows_same new.held (λ word q. last_or (has_copy q word run) (copy_changes q word event)) (λ word q. has_copy q word (run ++ event ∷ []))
          (λ word q. copy_more q word run event) (held (λ word q. has_copy q word run) before.held);
      exclusive = rows_same new.exclusive (λ word q. last_or (has_exclusive_copy q word run) (exclusive_changes q word event)) (λ word q. has_exclusive_copy q word (run ++ event ∷ []))
          (λ word q. exclusive_more q word run event) (exclusive (λ word q. has_exclusive_copy q word run) before.exclusive);
    }

pub noted_access : (declarations : ℕ) (run : List MemoryEvent) (old new : CopyRows) (p : ℕ) (access : WordAccess) → AreCopiesAfter declarations run old
    → length new.held ≡ length old.held → ((holds : Address → ℕ → Bool) → AreRowsOf old.held holds → AreRowsOf new.held (λ word q. last_or (holds word q) (copy_changes q word (Access p access))))
    → length new.exclusive ≡ length old.exclusive → ((holds : Address → ℕ → Bool) → AreRowsOf old.exclusive holds → AreRowsOf new.exclusive (λ word q. last_or (holds word q) (exclusive_changes q word (Access p access))))
    → AreCopiesAfter declarations (run ++ Access p access ∷ []) new
noted_access declarations run old new p access before held_long held exclusive_long exclusive =
    event_noted declarations run (Access p access) old new before held_long held exclusive_long exclusive

pub noted_crash : (declarations : ℕ) (run : List MemoryEvent) (old new : CopyRows) (p : ℕ) → AreCopiesAfter declarations run old
    → length new.held ≡ length old.held → ((holds : Address → ℕ → Bool) → AreRowsOf old.held holds → AreRowsOf new.held (λ word q. last_or (holds word q) (crash_change (p == q))))
    → length new.exclusive ≡ length old.exclusive → ((holds : Address → ℕ → Bool) → AreRowsOf old.exclusive holds → AreRowsOf new.exclusive (λ word q. last_or (holds word q) (crash_change (p == q))))
    → AreCopiesAfter declarations (run ++ Crash p ∷ []) new
noted_crash declarations run old new p before held_long held exclusive_long exclusive =
    event_noted declarations run (Crash p) old new before held_long held exclusive_long exclusive

pub noted_crash_all : (declarations : ℕ) (run : List MemoryEvent) (old new : CopyRows) → AreCopiesAfter declarations run old
    → length new.held ≡ length old.held → ((holds : Address → ℕ → Bool) → AreRowsOf old.held holds → AreRowsOf new.held (λ word q. last_or (holds word q) (crash_change true)))
    → length new.exclusive ≡ length old.exclusive → ((holds : Address → ℕ → Bool) → AreRowsOf old.exclusive holds → AreRowsOf new.exclusive (λ word q. last_or (holds word q) (crash_change true)))
    → AreCopiesAfter declarations (run ++ CrashAll ∷ []) new
noted_crash_all declarations run old new before held_long held exclusive_long exclusive =
    event_noted declarations run CrashAll old new before held_long held exclusive_long exclusive
