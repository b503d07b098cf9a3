use Rattle.std.proofs.Common.{◌≡◌, ◌∙◌, List, map, All, slice_index, sym, ap, subst}
use Rattle.robust.proofs.Common.{words_of, entries, IsNumbered, Gathers, Seated, AllSent, AreAllSent, Done, IsFirstWorkerFault, AreShownByRun, HasSent, sizes_of, seats_of}
use Rattle.std.specs.Prelude.{vec_len}
use Rattle.table_runs.proofs.Glanced.{both_ok}
use Rattle.robust.proofs.AllSent.{lab_sent, lab_shown, gathered_layout}
use Rattle.robust.proofs.Below.{member_of, by_number}
use Rattle.robust.proofs.LabEnds.{lab_ends}
use Rattle.robust.proofs.Worked.{one_arena, none_missing, all_setups, good_sizes, good_messages, good_layout, members_seats, members_sent}
use Rattle.robust.proofs.lab.lab_run.run.Goals as goal

pub work_all-requires-clause-gates : goal.work_all-requires-clause-gates
work_all-requires-clause-gates g c κs within = (good_sizes c.args.spec (vec_len c.args.gates) c.requires).0 ∙ sym c.in_ok-members.ensures.length

pub work_all-requires-clause-messages : goal.work_all-requires-clause-messages
work_all-requires-clause-messages g c κs within = (good_messages c.args.spec (vec_len c.args.gates) c.requires, (good_sizes c.args.spec (vec_len c.args.gates) c.requires).2)

pub gather-requires : goal.gather-requires
gather-requires g c =
    let s = c.in_ok-members.ensures.seats in
    let seats = ap seats_of c.in-Ok-members_of.ensures ∙ members_seats c.in-Ok.ended.items ∙ c.in-Ok.ensures.seats ∙ s.1 in
    record { arena = one_arena s.0 (sizes_of c.args.spec) c.in-Ok-members_of.members.items seats }

pub unreachable-requires : goal.unreachable-requires
unreachable-requires g c =
    let s = c.in_ok-members.ensures.seats in
    let seats = ap seats_of c.in-Ok-members_of.ensures ∙ members_seats c.in-Ok.ended.items ∙ c.in-Ok.ensures.seats ∙ s.1 in
    none_missing s.0 (sizes_of c.args.spec) c.in-Ok-members_of.members.items seats (good_sizes c.args.spec (vec_len c.args.gates) c.requires).1
    (c.in-Err-default-NotAll.ensures.missing c.in-Err-default-NotAll.field-0-1-is)

pub shown_messages-requires-clause-lawful : goal.shown_messages-requires-clause-lawful
shown_messages-requires-clause-lawful g c = c.in-Ok-gather.ensures.lawful

pub shown_messages-requires-clause-layout : goal.shown_messages-requires-clause-layout
shown_messages-requires-clause-layout g c =
    let s = c.in_ok-members.ensures.seats in
    let xs = c.in-Ok-members_of.members.items in
    let seats = ap seats_of c.in-Ok-members_of.ensures ∙ members_seats c.in-Ok.ended.items ∙ c.in-Ok.ensures.seats ∙ s.1 in
    gathered_layout (sizes_of c.args.spec) xs c.in-Ok-gather.image (all_setups s.0 (sizes_of c.args.spec) xs seats) c.in-Ok-gather.ensures.gathered

pub returns-in-None-clause-all : goal.returns-in-None-clause-all
returns-in-None-clause-all g c =
    let spec = c.args.spec in
    let z = sizes_of spec in
    let s = c.in_ok-members.ensures.seats in
    let xs = c.in-Ok-members_of.members.items in
    let image = c.in-Ok-gather.image in
    let seats = ap seats_of c.in-Ok-members_of.ensures ∙ members_seats c.in-Ok.ended.items ∙ c.in-Ok.ensures.seats ∙ s.1 in
    let ended = subst (All (λ done. done.ending ≡ AllSent)) c.as_slice.ensures.value (c.first_fault-early.ensures.none c.in-None.is) in
    let sent = subst (All (HasSent spec.width spec.messages)) (sym c.in-Ok-members_of.ensures) (members_sent spec c.in-Ok.ended.items c.in-Ok.ensures.worked ended) in
    let layout = good_layout spec (vec_len c.args.gates) c.requires in
    both_ok (λ r. r.messages.items ≡ entries z.layout (words_of image.cells) (slice_index image.cells 2)) (λ r. AreAllSent spec r.messages.items) (IsNumbered z.layout (words_of image.cells) (slice_index image.cells 2)) c.shown_messages.result c.shown_messages.ensures.messages
    c.shown_messages.ensures.numbered
    (λ r is numbered. lab_sent spec xs image r.messages.items layout (all_setups s.0 z xs seats) sent c.in-Ok-gather.ensures.gathered c.messages_were_sent.ensures.sent c.runs_show.ensures is numbered)

pub returns-in-None-clause-run : goal.returns-in-None-clause-run
returns-in-None-clause-run g c =
    let spec = c.args.spec in
    let z = sizes_of spec in
    let s = c.in_ok-members.ensures.seats in
    let xs = c.in-Ok-members_of.members.items in
    let image = c.in-Ok-gather.image in
    let seats = ap seats_of c.in-Ok-members_of.ensures ∙ members_seats c.in-Ok.ended.items ∙ c.in-Ok.ensures.seats ∙ s.1 in
    let ended = subst (All (λ done. done.ending ≡ AllSent)) c.as_slice.ensures.value (c.first_fault-early.ensures.none c.in-None.is) in
    let sent = subst (All (HasSent spec.width spec.messages)) (sym c.in-Ok-members_of.ensures) (members_sent spec c.in-Ok.ended.items c.in-Ok.ensures.worked ended) in
    let layout = good_layout spec (vec_len c.args.gates) c.requires in
    both_ok (λ r. r.messages.items ≡ entries z.layout (words_of image.cells) (slice_index image.cells 2)) (λ r. AreShownByRun spec r.messages.items) (IsNumbered z.layout (words_of image.cells) (slice_index image.cells 2)) c.shown_messages.result c.shown_messages.ensures.messages
    c.shown_messages.ensures.numbered (λ r is numbered. lab_shown spec xs image r.messages.items layout (all_setups s.0 z xs seats) sent c.in-Ok-gather.ensures.gathered c.runs_show.ensures is)

pub returns-in-Ok-gather-clause-ends : goal.returns-in-Ok-gather-clause-ends
returns-in-Ok-gather-clause-ends g c =
    let spec = c.args.spec in
    let z = sizes_of spec in
    let s = c.in_ok-members.ensures.seats in
    let xs = c.in-Ok-members_of.members.items in
    let ended = c.in-Ok.ended.items in
    let members : xs ≡ map member_of ended = c.in-Ok-members_of.ensures in
    let seats = ap seats_of members ∙ members_seats ended ∙ c.in-Ok.ensures.seats ∙ s.1 in
    let setups = subst (All (λ (x : Seated). x.seat_view.setup ≡ z)) members (all_setups s.0 z xs seats) in
    let first = subst (λ (ds : List Done). IsFirstWorkerFault ds c.in-Some.fault) c.as_slice.ensures.value c.in-Some.ensures.first in
    let gathered = subst (λ (ys : List Seated). Gathers ys c.in-Ok-gather.image) members c.in-Ok-gather.ensures.gathered in
    lab_ends spec ended c.in-Ok-gather.image c.in-Some.fault (good_layout spec (vec_len c.args.gates) c.requires) setups c.in-Ok.ensures.worked (by_number s.0 z ended (c.in-Ok.ensures.seats ∙ s.1)) first gathered c.in-Ok-gather.ensures.lawful c.messages_were_sent.ensures.sent c.messages_were_sent.ensures.closed c.runs_show.ensures c.loads_tell.ensures c.nobody_ruins.ensures
