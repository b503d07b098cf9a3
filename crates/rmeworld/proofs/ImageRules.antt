-- The rules of an image, each from those before it.
use Rattle.std.proofs.Common.{◌≡◌, ◌≢◌, ℕ, ◌<◌, true, length, slice_index, inl, inr, sym, subst, arith}
use Rattle.rmeworld.proofs.Common.{cases_eq, Own, IsLawful, is_before, own_at, Layout, Words, words_of, RecordRule, IsNumbered, Image, layout_of, IsLawfulImage, IsRecorded, KeepsRules}
use Rattle.redomail.specs.Content.{IsContent}
use Rattle.std.proofs.lemmas.Bool.Decides.{nat_tests}
use Rattle.rmeworld.specs.ImageRules.{IsInsideByImage}

pub record_is_numbered : (l : Layout) (p : ℕ) (w : Words) → RecordRule l p w → IsNumbered l w (w 2)
record_is_numbered l p w r = elim r.rule [ inl h ↦ h.numbered | inr h ↦ h.listed.numbered ]

not_both : (k p v q : ℕ) → is_before k p v q ≡ true → is_before v q k p ≡ true → ⊥
not_both k p v q = grind (arith, nat_tests)

-- At most one process is in the section.
pub only_one : (n limit : ℕ) (words : ℕ → Own) (p q : ℕ) → IsLawful n limit words → p < n → q < n → 0 < (words p).number → 0 < (words p).inside → 0 < (words q).number → 0 < (words q).inside → p ≡ q
only_one n limit words p q h lp lq kp ip kq iq =
    elim (cases_eq p q) [
      | inl same ↦ same
      | inr other ↦
          absurd (not_both (words p).number p (words q).number q (h.least p q lp lq (λ e. other (sym e)) kp ip kq) (h.least q p lq lp other kq iq kp))
    ]

-- if the entries aren't numbered, no record rule holds
pub unnumbered : (i : Image) → KeepsRules 7 i → slice_index i.cells 3 ≢ 0 → (IsNumbered (layout_of i) (words_of i.cells) (slice_index i.cells 2) → ⊥) → IsRecorded i → ⊥
unnumbered i k armed none r =
    let heads = k.heads (omega arith) in
    elim (cases_eq (slice_index i.cells 0) 0) [
      | inl clean ↦ (let h = r.clean (omega (arith, heads.armed, armed)) clean in none (record_is_numbered (layout_of i) h.0 (words_of i.cells) h.2))
      | inr ruined ↦ (let h = r.ruined (omega (arith, heads.armed, armed)) (omega (arith, heads.ruined, ruined)) in none (record_is_numbered (layout_of i) h.0 (words_of i.cells) h.2))
    ]

-- in a lock that isn't ruined, the record is that of the process inside
pub by_inside : (i : Image) (p : ℕ) → KeepsRules 7 i → IsInsideByImage i p → slice_index i.cells 3 ≢ 0 → slice_index i.cells 0 ≢ 1 → IsRecorded i → RecordRule (layout_of i) p (words_of i.cells)
by_inside i p k inside armed clean r =
    let heads = k.heads (omega arith) in
    let h = r.clean (omega (arith, heads.armed, armed)) (omega (arith, heads.ruined, clean)) in
    let same = only_one (length i.lock) i.limit (own_at i.lock) h.0 p (k.lawful (omega arith)) h.1.0 inside.0 h.1.1 h.1.2 inside.1 inside.2 in
    subst (λ q. RecordRule (layout_of i) q (words_of i.cells)) same h.2

pub is_recorded_by : (i : Image) (p : ℕ) → IsInsideByImage i p → slice_index i.cells 0 ≢ 1 → RecordRule (layout_of i) p (words_of i.cells) → IsRecorded i
is_recorded_by i p inside clean r = record {
  clean = λ armed c. (p, inside, r);
  ruined = λ armed ruined. absurd (clean ruined);
}

-- the words of a lawful image have content
pub lawful_content : (i : Image) → IsLawfulImage i → IsContent (layout_of i) i.cells
lawful_content i k =
    let heads = k.heads (omega arith) in
    let r = k.recorded (omega arith) in
    record {
      heads = heads;
      entries = record {
        listed = k.listed (omega arith);
        recorded = λ armed.
            elim (cases_eq (slice_index i.cells 0) 0) [
              | inl clean ↦ (let h = r.clean armed clean in (h.0, h.1.0, h.2))
              | inr ruined ↦ r.ruined armed (omega (arith, heads.ruined, ruined))
            ];
      };
    }
