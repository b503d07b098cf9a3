-- A trace's text: reading and spelling are inverse.
use Rattle.std.proofs.Common.{◌≡◌, ℕ, List, [], ◌∷◌, ◌++◌, arith, Ok, refl, ap, subst}
use Rattle.schedule.proofs.TextsCommon.{LineFault, IsHeader, parts_of, text_at, trace_head_at, Traced, words_of_trace_head, trace_head_of, trace_sizes, trace_form, trace_head_with, trace_spelling}
use Rattle.schedule.proofs.TextsCommon.{IsTraceHead, IsTraced, traced_with, trace_at}
use Rattle.schedule.specs.declared.texts.trace.TraceHead.{TraceHead}
use Rattle.schedule.specs.Deeds.{deed_at, words_of_deed, IsDeed}
use Rattle.schedule.proofs.Places.{bind_ok, ok_is}
use Rattle.schedule.proofs.Deeds.{deed_codec}
use Rattle.schedule.proofs.Heads.{of_width, last_width, header_takes, header_again, header_plain}
use Rattle.schedule.proofs.Joins.{IsCodec}
use Rattle.schedule.proofs.WholeTexts.{text_takes, text_again}

-- a header's numbers are its sizes and, unless it is 1, its width
made : (ss : List ℕ) (w : ℕ) → IsHeader trace_form ss w → (trace_sizes (trace_head_with (ss ++ of_width w)) ≡ ss) × ((trace_head_with (ss ++ of_width w)).width ≡ w)
made (n ∷ c ∷ []) w h = (refl, last_width w)
made _ w h = absurd (omega (arith, h.count))

back : (h : TraceHead) → IsTraceHead h → trace_head_with (trace_sizes h ++ of_width h.width) ≡ h
back h valid = ap (λ (w : ℕ). record { procs = h.procs; cap = h.cap; width = w }) (last_width h.width)

head_codec : IsCodec TraceHead trace_head_at words_of_trace_head IsTraceHead
head_codec = record {
  takes = header_takes trace_form trace_head_with trace_sizes (λ h. h.width) made back;
  again = header_again trace_form trace_head_with trace_sizes (λ h. h.width) made back;
  plain = header_plain trace_form trace_head_with trace_sizes (λ h. h.width) made back (refl, (refl, (refl, tt)));
}

pub trace_takes : (text : List ℕ) (trace : Traced) → trace_at text ≡ Ok trace → (text ≡ trace_spelling trace) × IsTraced trace
trace_takes text trace e =
    let a = bind_ok (text_at trace_head_at (λ h. deed_at h.width) (parts_of text)) (λ read. Ok (traced_with read)) trace e in
    let t = text_takes trace_head_at words_of_trace_head IsTraceHead head_codec (λ h. deed_at h.width) words_of_deed (λ h. IsDeed h.width) (λ h fits. deed_codec h.width) text a.0 a.1 in
    subst (λ (p : Traced). (text ≡ trace_spelling p) × IsTraced p) (ok_is {E = ℕ × LineFault} (traced_with a.0) trace a.2) (t.0, record { head = t.1; deeds = t.2 })

pub trace_again : (trace : Traced) → IsTraced trace → trace_at (trace_spelling trace) ≡ Ok trace
trace_again trace valid =
    let t = text_again trace_head_at words_of_trace_head IsTraceHead head_codec (λ h. deed_at h.width) words_of_deed (λ h. IsDeed h.width) (λ h fits. deed_codec h.width) (trace_head_of trace) trace.deeds valid.head valid.deeds in
    rw t refl
