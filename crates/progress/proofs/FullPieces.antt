-- Each process can always move by a start or a step, so a full piece can always follow.
use Rattle.std.proofs.Common.{◌≡◌, ◌≢◌, ℕ, zero, suc, ◌<◌, ◌≤◌, true, false, ◌&&◌, ◌==◌, nat_lt, List, [], ◌∷◌, All, Option, Some, None, IsSome, IfSome, refl, sym, subst, inl, inr, arith, eq-eqb}
use Rattle.std.proofs.lemmas.List.Elements.{All-nil, All-cons}
use Rattle.progress.proofs.Common.{cases_Bool, cases_eq, and_from, or_left, or_right, Lock, Unlock, Place, Rest, Dead, Reread, Door, Wait, Inside, next, Event, Starts, Steps, process, place_after_start, World, May, after, Run, is_glance, is_move, moves}
use Rattle.progress.specs.Pieces.{IsOrdinary, HasFullPiece}
use Rattle.rmecore.specs.Machine.{access, kind_of, word_of, carried_value}
use Rattle.rmecore.specs.World.{read}
use Rattle.rmecore.specs.declared.access.Access.{Access}
use Rattle.rmecore.proofs.Accesses.{all_allowed}
use Rattle.rmecore.proofs.CoreSteps.{KindFits, kind_fits, reads}
use Rattle.rmecore.proofs.Invariant.{Fits}
use Rattle.rmecore.proofs.SoundWorlds.{Sound, sound_after}

-- the next step is no glance
plain : (limit q : ℕ) (s : Place) → IfSome (access limit q s) (λ a. is_glance (kind_of a) ≡ false)
plain limit q (Door [] m) = elim (cases_Bool (nat_lt m limit)) [ inl e ↦ rw e refl | inr e ↦ rw e refl ]
plain limit q (Reread call (c ∷ k ∷ i ∷ seen)) = tt
plain limit q (Wait k unpassed (Some j)) = refl
plain limit q (Wait k (j ∷ js) None) = refl
plain limit q Rest = tt
plain limit q Dead = tt
plain limit q Inside = tt
plain limit q _ = refl

-- a move of q
record Move (n limit q : ℕ) (w : World) : Type 0 where
  event : Event
  may : May n limit w event
  own : process event ≡ q
  is : is_move event ≡ true
  ordinary : IsOrdinary event

module _ (n limit q : ℕ) (w : World) (below : q < n) where
  step : (s : Place) → w.places q ≡ s → (o : Option Access) → o ≢ None → IfSome o (λ a. (v : ℕ) → IsSome (next n limit q s (kind_of a) (word_of a) (carried_value a v))) → IfSome o KindFits → IfSome o (λ a. is_glance (kind_of a) ≡ false) → Move n limit q w
  step s at None some allowed fits no_glance = absurd (some refl)
  step s at (Some a) some allowed fits no_glance =
      let v : ℕ = carried_value a (read w.words (word_of a)) in
      record {
        event = Steps q (kind_of a) (word_of a) v;
        may = (below, subst (λ t. IsSome (next n limit q t (kind_of a) (word_of a) v)) (sym at) (allowed (read w.words (word_of a))), λ loads. reads w.words a v fits refl loads);
        own = refl;
        is = rw no_glance refl;
        ordinary = tt;
      }

  steps : (s : Place) → w.places q ≡ s → access limit q s ≢ None → Move n limit q w
  steps s at some = step s at (access limit q s) some (all_allowed (record { procs = n; limit = limit; index = q; place = s })) (kind_fits limit q s) (plain limit q s)

  begins : (s : Place) → w.places q ≡ s → Fits (w.words q) s → Move n limit q w
  begins Rest at fits = record { event = Starts q Lock; may = (below, subst (λ t. IsSome (place_after_start t Lock)) (sym at) refl, tt); own = refl; is = refl; ordinary = tt }
  begins Dead at fits = record { event = Starts q Lock; may = (below, subst (λ t. IsSome (place_after_start t Lock)) (sym at) refl, tt); own = refl; is = refl; ordinary = tt }
  begins Inside at fits = record { event = Starts q Unlock; may = (below, subst (λ t. IsSome (place_after_start t Unlock)) (sym at) refl, tt); own = refl; is = refl; ordinary = tt }
  begins (Reread call (c ∷ k ∷ i ∷ seen)) at fits = absurd fits
  begins (Door [] m) at fits = steps (Door [] m) at (elim (cases_Bool (nat_lt m limit)) [ inl e ↦ rw e (λ f. cc) | inr e ↦ rw e (λ f. cc) ])
  begins (Wait k unpassed (Some j)) at fits = steps (Wait k unpassed (Some j)) at (λ e. cc)
  begins (Wait k (j ∷ js) None) at fits = steps (Wait k (j ∷ js) None) at (λ e. cc)
  begins s at fits = steps s at (λ e. cc)

-- the processes below m move
record Piece (n limit m : ℕ) (w : World) : Type 0 where
  piece : List Event
  run : Run n limit w piece
  ordinary : All IsOrdinary piece
  all_move : (q : ℕ) → q < m → moves q piece ≡ true

piece_of : (n limit m : ℕ) → m ≤ n → (w : World) → Sound n w → Piece n limit m w
piece_of n limit zero low w h = record { piece = []; run = tt; ordinary = All-nil IsOrdinary; all_move = λ q less. absurd (omega arith) }
piece_of n limit (suc m) low w h =
    let move = begins n limit m w (omega arith) (w.places m) refl (h.tied.fits m (omega arith)) in
    let rest = piece_of n limit m (omega arith) (after n limit w move.event) (sound_after n limit w move.event move.may h) in
    record {
      piece = move.event ∷ rest.piece;
      run = (move.may, rest.run);
      ordinary = All-cons IsOrdinary move.event rest.piece move.ordinary rest.ordinary;
      all_move = λ q less. elim (cases_eq q m) [
        | inl is ↦ or_left ((process move.event == q) && is_move move.event) (moves q rest.piece) (and_from (process move.event == q) (is_move move.event) (eq-eqb (process move.event) q (let own = move.own in omega arith)) move.is)
        | inr ne ↦ or_right ((process move.event == q) && is_move move.event) (moves q rest.piece) (rest.all_move q (omega arith))
      ];
    }

pub full_piece : (n limit : ℕ) (w : World) → Sound n w → HasFullPiece n limit w
full_piece n limit w h =
    let p = piece_of n limit n (omega arith) w h in
    record { piece = p.piece; run = p.run; ordinary = p.ordinary; all_move = p.all_move }
