use Rattle.std.proofs.lemmas.List.Sums.{count_by-le-length}
use Rattle.std.specs.Prelude.{IfSome, is_some}
use Rattle.std.proofs.Common.{◌≡◌, ◌<◌, ◌∙◌, ap, subst, arith, get_or, length, List, ℕ, [], slice_index, slice_index_or, if◌then◌else◌, refl, get_or-take, count_by, true, Option, Some, None, length-take}
use Rattle.judge.proofs.Common.{length-map, get_or_default, bit_at, Out, is_named, state_of, false≢true, Message, is_by, IsNextMessage}
use Rattle.judge.proofs.judge.Judge.with_counts.Goals as goal

pub returns-clause-made : goal.returns-clause-made
returns-clause-made c =
    let start = c.args.start.now in
    let holds = c.requires.start in
    let sets = c.as_slice-2.result.now in
    record {
      state = state_of start;
      legal = refl;
      kept = record {
        procs = refl;
        cap = refl;
        most_inside = refl;
        phases = λ k d l.
            let within : k < length start.phases = omega (arith, holds.lock.phases) in
            ap (λ xs. get_or xs k d) (c.in_ok-phases.ensures.items ∙ c.as_slice.ensures) ∙ get_or_default start.phases k d Out within;
        ahead = λ p l q m.
            let within : p < length sets = omega (arith, holds.lock.ahead, ap length c.as_slice-2.ensures, length-map {B = List ℕ} sets (λ names. names.items)) in
            let low : q < 64 = omega (arith, holds.within.procs_most) in
            subst (λ xs. bit_at (slice_index c.in_ok-ahead.ahead.items p) q ≡ (if is_named (slice_index_or xs p []) q then 1 else 0)) c.as_slice-2.ensures
            (c.in_ok-ahead.ensures.rows p within q low);
        counts = λ k d l.
            let low : k < 64 = omega (arith, holds.within.procs_most) in
            ap (λ xs. get_or xs k d) c.in_ok-counts.ensures.items ∙ (get_or-take start.procs c.args.counts.now k d l ∙ c.requires.counts k d low);
        shown = ap length c.as_slice-3.ensures;
        pending = refl;
        closed = refl;
        ruined = refl;
      };
    }

-- what holds beside each pending message
beside : (A : Message → Type 0) {B : Type 0} (pending : Option Message) → IfSome pending (λ m. A m × B) → is_some pending ≡ true → B
beside A (Some m) holds e = holds.1
beside A None holds e = absurd (false≢true e)

pub invariant_of-result : goal.invariant_of-result
invariant_of-result c =
    let start = c.args.start.now in
    let holds = c.requires.start in
    let shown = ap length c.as_slice-3.ensures in
    let sets = c.as_slice-2.result.now in
    let long : length c.in_ok-counts.counts.items ≡ start.procs =
    omega (arith, ap length c.in_ok-counts.ensures.items, length-take start.procs c.args.counts.now, c.told-counts, holds.within.procs_most) in
    record {
      few = holds.within.procs_most;
      small = holds.within.cap_most;
      phases = ap length (c.in_ok-phases.ensures.items ∙ c.as_slice.ensures) ∙ holds.lock.phases;
      ahead = omega (arith, c.in_ok-ahead.ensures.len, holds.lock.ahead, ap length c.as_slice-2.ensures, length-map {B = List ℕ} sets (λ names. names.items));
      counts = long;
      counts_low = λ p below.
          let low : p < 64 = omega (arith, below, holds.within.procs_most) in
          let counted : slice_index c.in_ok-counts.counts.items p ≡ count_by (is_by p) start.shown =
          ap (λ xs. slice_index xs p) c.in_ok-counts.ensures.items ∙ (get_or-take start.procs c.args.counts.now p 0 below ∙ c.requires.counts p 0 low) in
          omega (arith, counted, count_by-le-length (is_by p) start.shown, shown);
      shown_low = omega (arith, holds.mail.room, shown);
      room = λ e. let room = beside (IsNextMessage start.procs start.shown) start.pending holds.mail.pending e in omega (arith, room, shown);
    }
