-- The shape carries over from one process inside to the next, wherever a process may leave.
use Rattle.std.proofs.Common.{true, None, is_none, ◌≡◌, ℕ, refl, sym, ◌∙◌, inl, inr, arith, true≢false}
use Rattle.redomail.proofs.Common.{cases_Bool, or_right, Layout, Words, pending_in}
use Rattle.redomail.specs.Laws.{MayLeave, ShapePassesOn}

at_rest : (l : Layout) (p q : ℕ) (w : Words) → w 3 ≡ 0 → pending_in l p w ≡ pending_in l q w
at_rest l p q w off = rw off refl

pub shape_passes_on : ShapePassesOn
shape_passes_on l p q w s free h = record {
  ruined = h.ruined;
  closed = h.closed;
  armed = h.armed;
  apart = h.apart;
  room = h.room;
  shown = h.shown;
  listed = h.listed;
  record_rule = λ on. let r = h.record_rule on in (r.0, r.1, r.2, λ sound. elim free [ inl off ↦ absurd (omega arith) | inr gone ↦ absurd (true≢false (sym gone ∙ sound)) ]);
  pending = λ sound. elim free [ inl off ↦ h.pending sound ∙ at_rest l p q w off | inr gone ↦ absurd (true≢false (sym gone ∙ sound)) ];
}

pub may_leave : MayLeave
may_leave l p q cap w s free h =
    elim free [
      | inl off ↦ (elim (cases_Bool s.ruined) [
        | inl gone ↦ (rw gone (or_right (is_none s.pending) true refl), tt)
        | inr sound ↦ (let none : s.pending ≡ None = h.pending sound ∙ (rw off refl) in rw none refl, tt)
      ])
      | inr gone ↦ (rw gone (or_right (is_none s.pending) true refl), tt)
    ]
