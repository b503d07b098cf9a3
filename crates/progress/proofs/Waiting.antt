-- Bounded waiting: in each full piece in which p does not enter there is an effective event or a disturbance.
use Rattle.std.proofs.Common.{◌≡◌, ◌≢◌, ℕ, suc, ◌+◌, ◌*◌, ◌<◌, ◌≤◌, Bool, true, false, if◌then◌else◌, List, [], ◌∷◌, ◌++◌, length, refl, sym, ◌∙◌, inl, inr, arith}
use Rattle.std.proofs.lemmas.Bool.{true_from_ne_false}
use Rattle.std.proofs.lemmas.List.Elements.{All-head, All-tail}
use Rattle.progress.proofs.Common.{cases_eq, Withdraw, Place, Event, Starts, has, process, World, after, Run, final, deeds, deed, entries, NeverWithdraws, is_disturbance, is_effective, count, work, disturbances}
use Rattle.progress.proofs.Common.{Owes, moves, concatenation, Full, most_work, WaitingIsBounded}
use Rattle.progress.proofs.Short.{Kept, kept_after}
use Rattle.progress.proofs.OwnFalls.{InLine}
use Rattle.progress.proofs.Works.{In, not_entered, still_in, work_bounded}
use Rattle.progress.proofs.Owing.{owing, no_moves}

-- a count over two lists of events is the sum
count_append : (test : Place → Event → Bool) (n limit : ℕ) (w : World) (es fs : List Event) → count test n limit w (es ++ fs) ≡ count test n limit w es + count test n limit (final n limit w es) fs
count_append test n limit w [] fs = omega arith
count_append test n limit w (e ∷ es) fs = more (test (w.places (process e)) e) _ _ _ (count_append test n limit (after n limit w e) es fs)
  where
    more : (b : Bool) (x y z : ℕ) → x ≡ y + z → (if b then suc x else x) ≡ (if b then suc y else y) + z
    more true x y z e = omega arith
    more false x y z e = omega arith

module _ (n limit k p : ℕ) (low : p < n) (held : 0 < k) where
  -- p is in line after es as well, and does not enter in fs
  record Goes (w : World) (es fs : List Event) : Type 0 where
    run : Run n limit w es
    later : Run n limit (final n limit w es) fs
    kept : Kept n (final n limit w es)
    in_line : In n limit k p low held (final n limit w es)
    stays : NeverWithdraws p fs
    outside : has (entries (deeds n limit (final n limit w es) fs)) p ≡ false

  goes : (w : World) (es fs : List Event) → Kept n w → In n limit k p low held w → Run n limit w (es ++ fs) → NeverWithdraws p (es ++ fs) → has (entries (deeds n limit w (es ++ fs))) p ≡ false → Goes w es fs
  goes w [] fs h line run stays outside = record { run = tt; later = run; kept = h; in_line = line; stays = stays; outside = outside }
  goes w (e ∷ es) fs h line run stays outside =
      let out = not_entered n limit k p low held (deed (w.places (process e)) e) (deeds n limit (after n limit w e) (es ++ fs)) outside in
      let stay = All-head (λ e. e ≢ Starts p Withdraw) e (es ++ fs) stays in
      let g = goes (after n limit w e) es fs (kept_after n limit w e run.0 h) (still_in n limit k p low held w h line e run.0 stay out.0) run.1 (All-tail (λ e. e ≢ Starts p Withdraw) e (es ++ fs) stays) out.1 in
      record { run = (run.0, g.run); later = g.later; kept = g.kept; in_line = g.in_line; stays = g.stays; outside = g.outside }

  -- somebody who owed a step has moved
  advances : (w : World) (piece : List Event) → Kept n w → In n limit k p low held w → Run n limit w piece → ((q : ℕ) → q < n → Owes n w q → moves q piece ≡ true) → 0 < work n limit w piece + disturbances n limit w piece
  advances w piece h line run full =
      elim (cases_eq (work n limit w piece + disturbances n limit w piece) 0) [
        | inl none ↦
            let number = line.number in
            let o = owing n limit p w low (omega arith) h.sound in
            let still = no_moves n limit w o.who piece o.ready run (omega arith) (omega arith) in
            let bad : true ≡ false = sym (full o.who o.below o.owes) ∙ still in
            absurd (cc)
        | inr some ↦ omega arith
      ]

  pieces_few : (w : World) (pieces : List (List Event)) → Kept n w → In n limit k p low held w → Run n limit w (concatenation pieces) → Full n limit w pieces → NeverWithdraws p (concatenation pieces) → has (entries (deeds n limit w (concatenation pieces))) p ≡ false
      → length pieces ≤ work n limit w (concatenation pieces) + disturbances n limit w (concatenation pieces)
  pieces_few w [] h line run full stays outside = omega arith
  pieces_few w (piece ∷ pieces) h line run full stays outside =
      let g = goes w piece (concatenation pieces) h line run stays outside in
      let rest = pieces_few (final n limit w piece) pieces g.kept g.in_line g.later full.1 g.stays g.outside in
      let here = advances w piece h line g.run full.0 in
      let a = count_append is_effective n limit w piece (concatenation pieces) in
      let b = count_append is_disturbance n limit w piece (concatenation pieces) in
      omega arith

-- too many pieces
too_many : (n most l a d : ℕ) → most + 1 + (3 * n + 5) * d ≤ l → l ≤ a + d → a ≤ most + (3 * n + 4) * d → ⊥
too_many n most l a d e f g = omega arith

pub waiting_bounded : (n limit p : ℕ) (w : World) → p < n → Kept n w → WaitingIsBounded n limit w p
waiting_bounded n limit p w low h pieces line run full stays enough =
    true_from_ne_false (has (entries (deeds n limit w (concatenation pieces))) p) (λ outside.
    let in_line : InLine (w.words p).number (w.words p) (w.places p) = record { number = refl; outside = line.1; stays = line.2 } in
    let few = pieces_few n limit (w.words p).number p low line.0 w pieces h in_line run full stays outside in
    let bound = work_bounded n limit p w low h (concatenation pieces) line run stays outside in
    too_many n (most_work n) (length pieces) (work n limit w (concatenation pieces)) (disturbances n limit w (concatenation pieces)) enough few bound)
