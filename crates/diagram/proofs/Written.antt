-- Texts that are written a part at a time.
use Rattle.std.proofs.Common.{◌≡◌, ℕ, ◌+◌, ◌-◌, ◌^◌, min, List, [], ◌++◌, Result, Ok, Err, refl, sym, ap, ◌∙◌, append_assoc}
use Rattle.diagram.proofs.Common.{append-nil, ReplayFault, WritesFront, Tape, Writes, begins_further, begins_wider, breaks_further, breaks_wider, breaks_nothing, WritesText}
use Rattle.schedule.specs.declared.replays.replay_fault.ReplayFault.TheVariants.{OutOfMemory, Write}

-- a part after what was written, and no more
pub spells_last : (t u v : Tape) (text part whole : List ℕ) (r : Result (Unit {0}) ReplayFault) → Writes t u text → whole ≡ text ++ part → WritesText u v part r → WritesText t v whole r
spells_last t u v text part whole (Ok x) written e h =
    record { taken = h.taken ∙ ap (λ (xs : List ℕ). xs ++ part) written.taken ∙ append_assoc t.taken text part ∙ ap (λ (xs : List ℕ). t.taken ++ xs) (sym e); fine = h.fine ∙ written.fine }
spells_last t u v text part whole (Err Write) written e h =
    (rw e (begins_further t.taken u.taken v.taken text part written.taken h.0), rw (← written.fine) h.1)
spells_last t u v text part whole (Err OutOfMemory) written e h =
    (rw e (breaks_further t.taken u.taken v.taken text part written.taken h.0), h.1 ∙ written.fine)
spells_last t u v text part whole _ written e h = absurd h

-- nothing is written yet
pub nothing_yet : (t : Tape) (whole : List ℕ) → WritesFront t.taken t.taken whole whole
nothing_yet t whole = record { front = []; written = sym (append-nil t.taken); left = refl }

-- a part more is written
pub one_more_part : (t u v : Tape) (whole part after : List ℕ) → WritesFront t.taken u.taken whole (part ++ after) → Writes u v part → WritesFront t.taken v.taken whole after
one_more_part t u v whole part after so_far h =
    record {
      front = so_far.front ++ part;
      written = h.taken ∙ ap (λ (xs : List ℕ). xs ++ part) so_far.written ∙ append_assoc t.taken so_far.front part;
      left = so_far.left ∙ sym (append_assoc so_far.front part after);
    }

-- all is written
pub all_parts : (t u : Tape) (whole : List ℕ) → WritesFront t.taken u.taken whole [] → u.failures ≡ t.failures → Writes t u whole
all_parts t u whole so_far fine =
    record { taken = so_far.written ∙ ap (λ (xs : List ℕ). t.taken ++ xs) (sym (so_far.left ∙ append-nil so_far.front)); fine = fine }

-- a part is not written as a whole
pub stops_within : (t u v : Tape) (whole part after : List ℕ) (fault : ReplayFault) → WritesFront t.taken u.taken whole (part ++ after) → u.failures ≡ t.failures
    → WritesText {A = Unit {0}} u v part (Err fault) → WritesText {A = Unit {0}} t v whole (Err fault)
stops_within t u v whole part after Write so_far fine h =
    (rw so_far.left (begins_further t.taken u.taken v.taken so_far.front (part ++ after) so_far.written (begins_wider u.taken v.taken part after h.0)), rw (← fine) h.1)
stops_within t u v whole part after OutOfMemory so_far fine h =
    (rw so_far.left (breaks_further t.taken u.taken v.taken so_far.front (part ++ after) so_far.written (breaks_wider u.taken v.taken part after h.0)), h.1 ∙ fine)
stops_within t u v whole part after _ so_far fine h = absurd h

-- nothing is written of an empty text
pub writes_none : (t : Tape) (text : List ℕ) → text ≡ [] → Writes t t text
writes_none t text none = record { taken = sym (append-nil t.taken) ∙ ap (λ (xs : List ℕ). t.taken ++ xs) (sym none); fine = refl }

-- out of memory before anything of a text is written
pub wants_memory : (t : Tape) (text : List ℕ) → (text ≡ [] → ⊥) → WritesText {A = Unit {0}} t t text (Err OutOfMemory)
wants_memory t text some = (breaks_nothing t.taken text some, refl)

-- a text was written, and then the sink failed
pub fails_after : (t u v : Tape) (text : List ℕ) → Writes t u text → v.taken ≡ u.taken → v.failures ≡ min (u.failures + 1) (2 ^ 64 - 1) → WritesText {A = Unit {0}} t v text (Err Write)
fails_after t u v text written same failed =
    (([], record { front = text; written = same ∙ written.taken; left = sym (append-nil text) }), rw (← written.fine) failed)

-- the last part after those that are written
pub spells_rest : (t u v : Tape) (whole part : List ℕ) (r : Result (Unit {0}) ReplayFault) → WritesFront t.taken u.taken whole part → u.failures ≡ t.failures → WritesText u v part r → WritesText t v whole r
spells_rest t u v whole part r so_far fine h =
    spells_last t u v so_far.front part whole r (record { taken = so_far.written; fine = fine }) so_far.left h
