use Rattle.std.proofs.Common.{◌≡◌, ◌+◌, ◌-◌, length, slice_index, slice_set, refl, ap, ◌∙◌, inl, inr, arith}
use Rattle.redomail.proofs.Common.{length-set, false≢true}
use Rattle.redomail.proofs.Readings.{cases_in, counted_more, others_more, next_number}
use Rattle.redomail.proofs.contents.count_from.Goals as goal

pub loop-a-preserved : goal.loop-a-preserved
loop-a-preserved c =
    let i = c.loop-a.invariant in
    let m = c.entry-message.result in
    elim (cases_in c.args.first (c.args.first + length c.loop-a.counts) m.sender) [
      | inl own ↦
          (let set : c.count_entry.new.counts ≡ slice_set c.loop-a.counts (m.sender - c.args.first) m.seq = c.if-not-count_entry.ensures.counted own.0 own.1 refl in
          let number : slice_index c.loop-a.counts (m.sender - c.args.first) + 1 ≡ m.seq = (c.if-not-count_entry.ensures.next own.0 own.1).0 refl in
          let same : length (slice_set c.loop-a.counts (m.sender - c.args.first) m.seq) ≡ length c.loop-a.counts = length-set c.loop-a.counts (m.sender - c.args.first) m.seq in
          let more = counted_more c.args.layout c.args.words.now c.loop-a.a c.args.first (m.sender - c.args.first) c.loop-a.counts m c.entry-message.ensures c.if-message-layout.false (omega (arith, own.0)) (omega (arith, own.0, own.1)) number i.counts i.numbered in
          record { long = ap length set ∙ same ∙ i.long; counts = rw set more.0; numbered = rw (set, same) more.1 })
      | inr others ↦
          (let same : c.count_entry.new.counts ≡ c.loop-a.counts = (c.if-not-count_entry.ensures.other others).1 in
          let more = others_more c.args.layout c.args.words.now c.loop-a.a c.args.first c.loop-a.counts m c.entry-message.ensures c.if-message-layout.false others i.counts i.numbered in
          record { long = ap length same ∙ i.long; counts = rw same more.0; numbered = rw same more.1 })
    ]

pub returns-then-not-count_entry-clause-numbered : goal.returns-then-not-count_entry-clause-numbered
returns-then-not-count_entry-clause-numbered c = (
  λ h. absurd (false≢true h),
  λ n.
      let i = c.loop-a.invariant in
      let m = c.entry-message.result in
      elim (cases_in c.args.first (c.args.first + length c.loop-a.counts) m.sender) [
        | inl own ↦
            ((c.if-not-count_entry.ensures.next own.0 own.1).1
            (next_number c.args.layout c.args.words.now c.loop-a.a c.args.first (m.sender - c.args.first) (c.args.first + length c.args.counts.now) (slice_index c.args.words.now 2) c.loop-a.counts m c.entry-message.ensures (omega (arith, own.0)) (omega (arith, own.0, own.1)) own.0 (omega (arith, own.1, i.long)) n (omega (arith, c.loop-a-test.true)) i.counts))
        | inr others ↦ (c.if-not-count_entry.ensures.other others).0
      ],
)
