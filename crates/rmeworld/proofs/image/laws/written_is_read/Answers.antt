use Rattle.std.proofs.Common.{◌≡◌, true, sym, subst}
use Rattle.rmeworld.proofs.ImageCommon.{IfOk-weaker, IfErr-weaker, OutOfMemory, Spells, IsUnread}
use Rattle.rmeworld.proofs.ImageSpelt.{one_image, only_unread}
use Rattle.rmeworld.proofs.image.laws.written_is_read.Goals as goal

spelled : (c : goal.After-drop-text) → Spells c.deref.result.now true (record c.args.image.now { version = 2 })
spelled c = subst (λ text. Spells text true (record c.args.image.now { version = 2 })) (sym c.deref.ensures.value) c.in_ok-text.ensures.spelled

pub returns-clause-same : goal.returns-clause-same
returns-clause-same c =
    let i = c.args.image.now in
    IfOk-weaker c.read_image.result _ (λ read. read ≡ record i { version = 2 })
    (λ j h. sym (one_image c.deref.result.now true h.0 (record i { version = 2 }) j (spelled c) h.1).1) c.read_image.ensures.spelled

pub returns-clause-lawful : goal.returns-clause-lawful
returns-clause-lawful c = λ k.
    IfErr-weaker c.read_image.result (IsUnread c.deref.result.now) (λ e. e ≡ OutOfMemory)
    (λ e h. only_unread c.args.image.now c.deref.result.now e k (spelled c) h) c.read_image.ensures.refused
