-- Lines that are read in place.
use Rattle.std.proofs.Common.{◌≡◌, ℕ, ◌+◌, ◌-◌, ◌≤◌, List, [], ◌∷◌, ◌++◌, length, drop, Result, Ok, Err, refl, sym, ap, ◌∙◌, arith, length-append}
use Rattle.schedule.proofs.LexerCommon.{LineFault, line_at, Scheduled, head_at, schedule_at, scheduled_with, parts_of, text_at, items_at, words_of, ◌>>=◌}
use Rattle.schedule.specs.declared.texts.fault.TextFault.{TextFault}
use Rattle.schedule.specs.declared.texts.head.Head.{Head}
use Rattle.schedule.specs.Texts.{Fails}
use Rattle.schedule.specs.declared.lines.line.Line.{Line}
use Rattle.schedule.specs.FirstLines.{BeginsWithItem}
use Rattle.std.proofs.Math.Seq.{drop-append_seam}
use Rattle.schedule.specs.declared.texts.fault.TextFault.TheVariants as faults
use Rattle.schedule.proofs.Items.{items_at-cut, with_items, items_go_on, items_stop, items_end, empty_reads}
use Rattle.schedule.proofs.Places.{bind_ok, ok_is}

-- the text after the front of a text
pub drop_first : (text front after : List ℕ) → text ≡ front ++ after → drop (length text - length after) text ≡ after
drop_first text front after e =
    let n : length text - length after ≡ length front = omega (arith, ap length e ∙ length-append front after) in
    ap (λ (k : ℕ). drop k text) n ∙ ap (λ (t : List ℕ). drop (length front) t) e ∙ drop-append_seam front after

no_fault : {A : Type 0} (all : List A) (f : ℕ × LineFault) → Ok all ≡ Err f → ⊥
no_fault all f e = cc

module _ {A : Type 0} (item : List (List ℕ) → Result A LineFault) where
  -- a text that begins with an item's line
  pub items_at-begins : (k : ℕ) (text after : List ℕ) (x : A) → BeginsWithItem item text x after
      → items_at item k (parts_of text) ≡ (items_at item (k + 1) (parts_of after) >>= λ xs. Ok (x ∷ xs))
  items_at-begins k text after x b = rw (items_at-cut item k text b.line after b.parts, b.says) refl

  -- it is as long as its first line, with LF, and the text after it
  pub shorter : (text after : List ℕ) (x : A) → BeginsWithItem item text x after → length after + 1 ≤ length text
  shorter text after x b = omega (arith, ap length b.whole ∙ length-append b.line (10 ∷ after))

  pub cut_begins : (text line after : List ℕ) (x : A) → parts_of text ≡ line ∷ parts_of after → text ≡ line ++ 10 ∷ after → item (words_of line) ≡ Ok x → BeginsWithItem item text x after
  cut_begins text line after x parts whole says = record { line = line; parts = parts; whole = whole; says = says }

  -- ---- what was read before, and is not kept

  abbrev pub GoesOn : Result (List A) (ℕ × LineFault) → ℕ → List ℕ → Type 0
  GoesOn total k text = (front : List A) × (with_items item front (items_at item k (parts_of text)) ≡ total)

  same : (r : Result (List A) (ℕ × LineFault)) → with_items item [] r ≡ r
  same (Ok xs) = refl
  same (Err f) = refl

  pub goes_first : (k : ℕ) (text : List ℕ) → GoesOn (items_at item k (parts_of text)) k text
  goes_first k text = ([], same (items_at item k (parts_of text)))

  pub goes_on : (total : Result (List A) (ℕ × LineFault)) (k : ℕ) (text after : List ℕ) (x : A) → BeginsWithItem item text x after → GoesOn total k text → GoesOn total (k + 1) after
  goes_on total k text after x b so_far = (so_far.0 ++ x ∷ [], items_go_on item so_far.0 k text b.line after x total b.parts b.says so_far.1)

  pub goes_wrong : (total : Result (List A) (ℕ × LineFault)) (k : ℕ) (text : List ℕ) (f : LineFault) → items_at item k (parts_of text) ≡ Err (k, f) → GoesOn total k text → total ≡ Err (k, f)
  goes_wrong total k text f fails so_far = items_stop item so_far.0 (items_at item k (parts_of text)) total (k, f) fails so_far.1

  pub goes_to_end : (total : Result (List A) (ℕ × LineFault)) (k : ℕ) (text : List ℕ) → length text ≡ 0 → GoesOn total k text → (ys : List A) × (total ≡ Ok ys)
  goes_to_end total k text none so_far = (so_far.0, items_end item so_far.0 k text total none so_far.1)

  -- ---- a text that is known to be read

  pub reads_on : (k : ℕ) (text after : List ℕ) (x : A) (all : List A) → BeginsWithItem item text x after → items_at item k (parts_of text) ≡ Ok all
      → (left : List A) × (all ≡ x ∷ left) × (items_at item (k + 1) (parts_of after) ≡ Ok left)
  reads_on k text after x all b e =
      let read = bind_ok (items_at item (k + 1) (parts_of after)) (λ xs. Ok (x ∷ xs)) all (sym (items_at-begins k text after x b) ∙ e) in
      (read.0, sym (ok_is {E = ℕ × LineFault} (x ∷ read.0) all read.2), read.1)

  pub reads_nothing : (k : ℕ) (text : List ℕ) (all : List A) → length text ≡ 0 → items_at item k (parts_of text) ≡ Ok all → all ≡ []
  reads_nothing k text all none e = sym (ok_is {E = ℕ × LineFault} [] all (sym (empty_reads item k text none) ∙ e))

  pub never_fails : (k : ℕ) (text : List ℕ) (all : List A) (f : LineFault) → items_at item k (parts_of text) ≡ Ok all → items_at item k (parts_of text) ≡ Err (k, f) → ⊥
  never_fails k text all f good bad = no_fault all (k, f) (sym good ∙ bad)

-- ---- the schedule of a text

abbrev made_of : Result (Head × List Line) (ℕ × LineFault) → Result Scheduled (ℕ × LineFault)
made_of r = r >>= λ read. Ok (scheduled_with read)

pub is_right : (text : List ℕ) (read : Head × List Line) → text_at head_at (λ h. line_at h.width) (parts_of text) ≡ Ok read → schedule_at text ≡ Ok (scheduled_with read)
is_right text read e = ap made_of e

pub is_wrong : (text : List ℕ) (f : ℕ × LineFault) → text_at head_at (λ h. line_at h.width) (parts_of text) ≡ Err f → schedule_at text ≡ Err f
is_wrong text f e = ap made_of e

pub fails_so : (e : TextFault) (text : List ℕ) → Fails e (text_at head_at (λ h. line_at h.width) (parts_of text)) → Fails e (schedule_at text)
fails_so (faults.At k n) text (f, fails, is) = (f, is_wrong text (k, f) fails, is)
fails_so faults.OutOfMemory text fails = tt
