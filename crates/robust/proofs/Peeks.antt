-- One more step of a scan.
use Rattle.std.proofs.Common.{◌≡◌, ◌≢◌, ℕ, ◌+◌, ◌<◌, max, List, Some, refl, sym, ap, ◌∙◌, arith}
use Rattle.robust.proofs.AccessCommon.{Load, Peek as Peeks, Number as NumberOf, access, Door, above, first_here, above_first, above_skip, ProcessState, standing, process_state_now, SeatView, CarriesPending, free_process_state, Way}
use Rattle.rmecore.proofs.MachineSteps.{door_goes}
use Rattle.robust.proofs.FreeSteps.{machine_state_of, moves, way_then, way_to}

peek_next : (limit n p j m : ℕ) → j < n → j ≢ p → access limit p (Door (above n p j) m) ≡ Some (Load Peeks (NumberOf j))
peek_next limit n p j m lt ne = ap (λ (js : List ℕ). access limit p (Door js m)) (above_first n p j j (first_here n p j lt ne))

-- the numbers from j on are unread, and this is the greatest one read
module _ (x y : SeatView) (j m k : ℕ) (w : Way x k y (Door (above x.setup.layout.procs x.by j) m)) where
  -- the same others, by the view there
  others_there : (i : ℕ) → above x.setup.layout.procs x.by i ≡ above y.setup.layout.procs y.by i
  others_there i = λ n. above (sym w.same.0 n).layout.procs (sym w.same.1 n) i

  module _ (lt : j < x.setup.layout.procs) (ne : j ≢ x.by) where
    below : j < y.setup.layout.procs
    below = let e : y.setup.layout.procs ≡ x.setup.layout.procs = ap (λ s. s.layout.procs) w.same.0 in omega arith

    other : j ≢ y.by
    other = λ e. ne (e ∙ w.same.1)

    pub peeked : (z : SeatView) (v : ℕ) → CarriesPending y Peeks (NumberOf j) v z → Way x (k + 1) z (Door (above x.setup.layout.procs x.by (j + 1)) (max m v))
    peeked z v adv =
        let n = y.setup.layout.procs in
        let b = (process_state_now y).mended in
        let at : process_state_now y ≡ free_process_state (Door (above n y.by j) m) b = w.at ∙ (λ i. free_process_state (Door (others_there j i) m) (sym (ap (λ (q : ProcessState). q.mended) w.at) i)) in
        let to = door_goes (standing (machine_state_of y (Door (above n y.by j) m) b)) j m j v (first_here n y.by j below other) in
        let step = moves y z (Door (above n y.by j) m) (Door (above n y.by (j + 1)) (max m v)) (Load Peeks (NumberOf j)) v at (peek_next y.setup.limit n y.by j m below other) adv to refl refl refl refl in
        way_to x z (k + 1) (k + 1) (Door (above n y.by (j + 1)) (max m v)) (Door (above x.setup.layout.procs x.by (j + 1)) (max m v)) refl (ap (λ (js : List ℕ). Door js (max m v)) (sym (others_there (j + 1)))) (way_then w step)

  -- the process itself is skipped
  pub passed_over : x.by < x.setup.layout.procs → j ≡ x.by → Way x k y (Door (above x.setup.layout.procs x.by (j + 1)) m)
  passed_over below e =
      let past = ap (above x.setup.layout.procs x.by) e ∙ above_skip x.setup.layout.procs x.by below ∙ ap (λ (i : ℕ). above x.setup.layout.procs x.by (i + 1)) (sym e) in
      way_to x y k k (Door (above x.setup.layout.procs x.by j) m) (Door (above x.setup.layout.procs x.by (j + 1)) m) refl (ap (λ (js : List ℕ). Door js m) past) w
