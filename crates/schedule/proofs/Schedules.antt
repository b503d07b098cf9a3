-- A schedule's text: reading and spelling are inverse.
use Rattle.std.proofs.Common.{◌≡◌, ℕ, List, [], ◌∷◌, ◌++◌, arith, Ok, refl, ap, subst}
use Rattle.schedule.proofs.TextsCommon.{LineFault, words_of_line, IsLine, line_at, IsHeader, Scheduled, head_at, schedule_at, scheduled_with, words_of_head, head_of, sizes_of, schedule_form, head_with}
use Rattle.schedule.proofs.TextsCommon.{spelling, IsHead, IsScheduled, parts_of, text_at}
use Rattle.schedule.specs.declared.texts.head.Head.{Head}
use Rattle.schedule.proofs.Places.{bind_ok, ok_is}
use Rattle.schedule.proofs.Commands.{line_codec}
use Rattle.schedule.proofs.Heads.{of_width, last_width, header_takes, header_again, header_plain}
use Rattle.schedule.proofs.Joins.{IsCodec}
use Rattle.schedule.proofs.WholeTexts.{text_takes, text_again}

-- a header's numbers are its sizes and, unless it is 1, its width
made : (ss : List ℕ) (w : ℕ) → IsHeader schedule_form ss w → (sizes_of (head_with (ss ++ of_width w)) ≡ ss) × ((head_with (ss ++ of_width w)).width ≡ w)
made (n ∷ l ∷ c ∷ []) w h = (refl, last_width w)
made _ w h = absurd (omega (arith, h.count))

back : (h : Head) → IsHead h → head_with (sizes_of h ++ of_width h.width) ≡ h
back h valid = ap (λ (w : ℕ). record { procs = h.procs; limit = h.limit; cap = h.cap; width = w }) (last_width h.width)

head_codec : IsCodec Head head_at words_of_head IsHead
head_codec = record {
  takes = header_takes schedule_form head_with sizes_of (λ h. h.width) made back;
  again = header_again schedule_form head_with sizes_of (λ h. h.width) made back;
  plain = header_plain schedule_form head_with sizes_of (λ h. h.width) made back (refl, (refl, (refl, (refl, tt))));
}

pub schedule_takes : (text : List ℕ) (schedule : Scheduled) → schedule_at text ≡ Ok schedule → (text ≡ spelling schedule) × IsScheduled schedule
schedule_takes text schedule e =
    let a = bind_ok (text_at head_at (λ h. line_at h.width) (parts_of text)) (λ read. Ok (scheduled_with read)) schedule e in
    let t = text_takes head_at words_of_head IsHead head_codec (λ h. line_at h.width) words_of_line (λ h. IsLine h.width) (λ h fits. line_codec h.width) text a.0 a.1 in
    subst (λ (p : Scheduled). (text ≡ spelling p) × IsScheduled p) (ok_is {E = ℕ × LineFault} (scheduled_with a.0) schedule a.2) (t.0, record { head = t.1; lines = t.2 })

pub schedule_again : (schedule : Scheduled) → IsScheduled schedule → schedule_at (spelling schedule) ≡ Ok schedule
schedule_again schedule valid =
    let t = text_again head_at words_of_head IsHead head_codec (λ h. line_at h.width) words_of_line (λ h. IsLine h.width) (λ h fits. line_codec h.width) (head_of schedule) schedule.lines valid.head valid.lines in
    rw t refl
