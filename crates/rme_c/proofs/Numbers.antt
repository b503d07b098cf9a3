-- Tests of the sizes.
use Rattle.std.proofs.Common.{◌≡◌, ◌<◌, ◌≤◌, true, false, nat_lt, refl, inl, inr}
use Rattle.rme_c.proofs.Common.{lt-ltb, le-ltb, cases_Bool, le-leb, Layout, Position, Lock, Within, Lost, RmeProcess, layout_of, FitsPosition, position_of, stage_of, script_position_of, by_parts, is_placed, FitsAt}

pub unplaced : (p : RmeProcess) → p.procs ≤ p.index → position_of p ≡ Lost
unplaced p beyond = let no : nat_lt p.index p.procs ≡ false = le-ltb p.index p.procs beyond in rw no refl

pub placed_holds : (p : RmeProcess) → p.index < p.procs → p.procs ≤ 64 → is_placed p ≡ true
placed_holds p below few = rw (lt-ltb p.index p.procs below, le-leb p.procs 64 few) refl

pub stands : (p : RmeProcess) (x : Position) → FitsPosition p x → ((l : Layout) → FitsAt l x → by_parts (stage_of p.position) (script_position_of l p.position) ≡ x) → position_of p ≡ x
stands p Lost h e = elim (cases_Bool (is_placed p)) [ inl placed ↦ rw placed (e (layout_of p) tt) | inr placed ↦ rw placed refl ]
stands p (Lock t) h e = rw (placed_holds p h.0 h.1) (e (layout_of p) tt)
stands p (Within c) h e = rw (placed_holds p h.0 h.1.0) (e (layout_of p) h.1.1)
