-- Names that two or more proof files of the laboratory cite, passed on from one place. Declares nothing.
pub use Rattle.std.proofs.lemmas.Bool.{true≢false, cases_lt}
pub use Rattle.std.proofs.lemmas.List.{get_or-map, get_or-take, length-map, length-take-le, take_all, map-append, get_or_append_left}
pub use Rattle.std.proofs.lemmas.List.Elements.{All-more, All-contains, All-get_or, Contains-get_or, All-nil, All-cons, All-head, All-tail, All-push}
pub use Rattle.std.specs.Vec.Iter.{into_iter_items, into_iter_len}
pub use Rattle.redomail.specs.declared.layout.Layout.{Layout}
pub use Rattle.table_runs.specs.declared.lock_fault.LockFault.TheVariants.{Crashed, OutOfMemory, NotRecoverable, NotYet, AlreadyIn, NotOwner, NotInconsistent, BadIndex, BadWidth}
pub use Rattle.table_runs.specs.declared.setup.Setup.{Setup}
pub use Rattle.table_runs.specs.declared.lab.worker_end.WorkerEnd.TheVariants.{AllSent, Fault, Refused}
pub use Rattle.table_runs.specs.declared.lab.lab_fault.LabFault.{LabFault}
pub use Rattle.table_runs.specs.declared.lab.lab_fault.LabFault.TheVariants.{BadSpec, Member}
pub use Rattle.table_runs.specs.declared.lab.spec.Spec.{Spec}
pub use Rattle.table_runs.specs.Endings.{fault_by}
pub use Rattle.one_lock.specs.LabEndings.{HaveAllSent, WantedMemory, IsOfLeast, IsReplyTo, WasSent, WereSent, MayEnd, HaveSentBelow, MayEndLab, WasRefused}
pub use Rattle.table_runs.specs.Lab.{setup_of, words_sent}
pub use Rattle.one_lock.specs.Member.{Seat, KeepsProcess, of_wait, new_seat, new_seats, steps_taken}
pub use Rattle.one_lock.specs.Shown.{place_of, CanSend, AreShown}
