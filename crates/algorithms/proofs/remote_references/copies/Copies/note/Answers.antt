use Rattle.std.proofs.Common.{◌≡◌, ◌∙◌, [], ◌∷◌, ◌++◌, length, ap, sym, subst, subst₂}
use Rattle.std.proofs.lemmas.List.{with_items_is}
use Rattle.algorithms.specs.declared.remote_references.memory_event.MemoryEvent.TheVariants.{Access, Crash, CrashAll}
use Rattle.algorithms.specs.remote_references.CopyRows.{AreCopiesAfter, AreRowsOf, CopyRows}
use Rattle.algorithms.proofs.remote_references.CopyEvents.{noted_access, noted_crash, noted_crash_all}
use Rattle.algorithms.proofs.remote_references.copies.Copies.note.Goals as goal

pub returns-in-Access : goal.returns-in-Access
returns-in-Access c = λ declarations run before.
    let old : CopyRows = record { held = c.self.inside.held.items; exclusive = c.self.inside.exclusive.items } in
    let new : CopyRows = record { held = c.note_held.new.rows; exclusive = c.note_exclusive.new.rows } in
    let was : AreCopiesAfter declarations run old = subst (AreCopiesAfter declarations run) (sym c.self.view_is) before in
    let held_is = with_items_is c.self.inside.held c.note_held.new.rows (c.note_held.ensures.long ∙ c.as_mut_slice.ensures.len) in
    let exclusive_is = with_items_is c.self.inside.exclusive c.note_exclusive.new.rows (c.note_exclusive.ensures.long ∙ c.as_mut_slice-in-Access.ensures.len) in
    let is =
    noted_access declarations run old new c.in-Access.p c.in-Access.access was
    (c.note_held.ensures.long ∙ ap length c.as_mut_slice.ensures.value) (λ holds rows. c.note_held.ensures.rows holds (subst (λ rows. AreRowsOf rows holds) (sym c.as_mut_slice.ensures.value) rows))
    (c.note_exclusive.ensures.long ∙ ap length c.as_mut_slice-in-Access.ensures.value) (λ holds rows. c.note_exclusive.ensures.rows holds (subst (λ rows. AreRowsOf rows holds) (sym c.as_mut_slice-in-Access.ensures.value) rows))
    in
    let seen : AreCopiesAfter declarations (run ++ c.args.event ∷ []) new = subst (λ event. AreCopiesAfter declarations (run ++ event ∷ []) new) (sym c.in-Access.is) is in
    subst₂ (λ held exclusive. AreCopiesAfter declarations (run ++ c.args.event ∷ []) (record { held = held; exclusive = exclusive })) (sym held_is) (sym exclusive_is) seen

pub returns-in-Crash : goal.returns-in-Crash
returns-in-Crash c = λ declarations run before.
    let old : CopyRows = record { held = c.self.inside.held.items; exclusive = c.self.inside.exclusive.items } in
    let new : CopyRows = record { held = c.remove_process.new.rows; exclusive = c.remove_process-in-Crash.new.rows } in
    let was : AreCopiesAfter declarations run old = subst (AreCopiesAfter declarations run) (sym c.self.view_is) before in
    let held_is = with_items_is c.self.inside.held c.remove_process.new.rows (c.remove_process.ensures.long ∙ c.as_mut_slice-in-Crash.ensures.len) in
    let exclusive_is = with_items_is c.self.inside.exclusive c.remove_process-in-Crash.new.rows (c.remove_process-in-Crash.ensures.long ∙ c.as_mut_slice-in-Crash-2.ensures.len) in
    let is =
    noted_crash declarations run old new c.in-Crash.p was
    (c.remove_process.ensures.long ∙ ap length c.as_mut_slice-in-Crash.ensures.value) (λ holds rows. c.remove_process.ensures.rows holds (subst (λ rows. AreRowsOf rows holds) (sym c.as_mut_slice-in-Crash.ensures.value) rows))
    (c.remove_process-in-Crash.ensures.long ∙ ap length c.as_mut_slice-in-Crash-2.ensures.value)
    (λ holds rows. c.remove_process-in-Crash.ensures.rows holds (subst (λ rows. AreRowsOf rows holds) (sym c.as_mut_slice-in-Crash-2.ensures.value) rows))
    in
    let seen : AreCopiesAfter declarations (run ++ c.args.event ∷ []) new = subst (λ event. AreCopiesAfter declarations (run ++ event ∷ []) new) (sym c.in-Crash.is) is in
    subst₂ (λ held exclusive. AreCopiesAfter declarations (run ++ c.args.event ∷ []) (record { held = held; exclusive = exclusive })) (sym held_is) (sym exclusive_is) seen

pub returns-in-CrashAll : goal.returns-in-CrashAll
returns-in-CrashAll c = λ declarations run before.
    let old : CopyRows = record { held = c.self.inside.held.items; exclusive = c.self.inside.exclusive.items } in
    let new : CopyRows = record { held = c.clear_rows.new.rows; exclusive = c.clear_rows-in-CrashAll.new.rows } in
    let was : AreCopiesAfter declarations run old = subst (AreCopiesAfter declarations run) (sym c.self.view_is) before in
    let held_is = with_items_is c.self.inside.held c.clear_rows.new.rows (c.clear_rows.ensures.long ∙ c.as_mut_slice-in-CrashAll.ensures.len) in
    let exclusive_is = with_items_is c.self.inside.exclusive c.clear_rows-in-CrashAll.new.rows (c.clear_rows-in-CrashAll.ensures.long ∙ c.as_mut_slice-in-CrashAll-2.ensures.len) in
    let is =
    noted_crash_all declarations run old new was
    (c.clear_rows.ensures.long ∙ ap length c.as_mut_slice-in-CrashAll.ensures.value) (λ holds rows. c.clear_rows.ensures.rows holds (subst (λ rows. AreRowsOf rows holds) (sym c.as_mut_slice-in-CrashAll.ensures.value) rows))
    (c.clear_rows-in-CrashAll.ensures.long ∙ ap length c.as_mut_slice-in-CrashAll-2.ensures.value)
    (λ holds rows. c.clear_rows-in-CrashAll.ensures.rows holds (subst (λ rows. AreRowsOf rows holds) (sym c.as_mut_slice-in-CrashAll-2.ensures.value) rows))
    in
    let seen : AreCopiesAfter declarations (run ++ c.args.event ∷ []) new = subst (λ event. AreCopiesAfter declarations (run ++ event ∷ []) new) (sym c.in-CrashAll.is) is in
    subst₂ (λ held exclusive. AreCopiesAfter declarations (run ++ c.args.event ∷ []) (record { held = held; exclusive = exclusive })) (sym held_is) (sym exclusive_is) seen
