use Rattle.std.proofs.Common.{rules, ◌≡◌, ℕ, List, map, All, Result, Ok, Err, IfOk, OnOk, slice_index, sym, ap, ◌∙◌, subst, Option, Some, refl}
use Rattle.one_lock.proofs.LabCommon.{Layout, Setup, LabFault, HaveAllSent, setup_of, steps_taken, place_of, CanSend, AreShown}
use Rattle.redomail.specs.declared.message.Message.{Message}
use Rattle.redomail.specs.Content.{IsContent}
use Rattle.redomail.specs.Layout.{words_of}
use Rattle.redomail.specs.Shape.{entries}
use Rattle.rmeworld.specs.declared.image.Image.{Image}
use Rattle.rmeworld.specs.ImageRules.{IsLawfulImage}
use Rattle.one_lock.specs.Execution.{AreSizes, IsLeftBy}
use Rattle.one_lock.proofs.Endings.{lab_ended, all_sent, may_end_lab}
use Rattle.one_lock.proofs.Places.{same_fit, same_count, new_ready}
use Rattle.one_lock.proofs.lab.lab_run.run.Goals as goal

pub work_all-requires-clause-ready : goal.work_all-requires-clause-ready
work_all-requires-clause-ready g c =
    let l : Layout = record { procs = c.args.spec.procs; cap = c.args.spec.cap; width = c.args.spec.width } in
    λ lifetimes lives. subst (All (CanSend c.args.spec.width)) (sym c.in-Ok.ensures.ok) (new_ready l c.args.spec.limit c.args.spec.procs)

pub returns-in-Some-clause-ends : goal.returns-in-Some-clause-ends
returns-in-Some-clause-ends g c =
    let ended = lab_ended g.S.Sizes.named c.args.spec (λ d. d.ending) (λ d. d.member) c.in-Ok-work_all.ended.items c.as_slice.result.now c.requires.named c.as_slice.ensures.value c.in-Ok-work_all.ensures.ends (c.in-Ok-work_all.ensures.places ∙ ap (map place_of) c.in-Ok.ensures.ok) in
    may_end_lab (map (λ d. d.ending) c.as_slice.result.now) c.args.spec c.in-Some.fault ended.0 ended.1 (λ wanted. let e = c.in-Some.ensures.memory.1 wanted in cc) c.in-Some.ensures.bad_spec c.in-Some.ensures.least

on_ok : {T : Type 0} (r : Result T LabFault) (P : Type 0) → P → OnOk r P
on_ok (Ok lab) P p = p
on_ok (Err e) P p = tt

pub returns-in-Ok-gather-clause-sent : goal.returns-in-Ok-gather-clause-sent
returns-in-Ok-gather-clause-sent g c =
    let ended = lab_ended g.S.Sizes.named c.args.spec (λ d. d.ending) (λ d. d.member) c.in-Ok-work_all.ended.items c.as_slice.result.now c.requires.named c.as_slice.ensures.value c.in-Ok-work_all.ensures.ends (c.in-Ok-work_all.ensures.places ∙ ap (map place_of) c.in-Ok.ensures.ok) in
    let sent : HaveAllSent (map (λ d. d.ending) c.as_slice.result.now) = search (rules, c.in_default-first_fault.ensures, c.in_default-first_fault.is) in
    on_ok c.all_shown.result _ (all_sent (Some (setup_of c.args.spec)) c.args.spec (map (λ d. d.ending) c.as_slice.result.now) ended.0 ended.1 sent)

pub of_sizes-requires-clause-sizes : goal.of_sizes-requires-clause-sizes
of_sizes-requires-clause-sizes g c =
    let l : Layout = record { procs = c.args.spec.procs; cap = c.args.spec.cap; width = c.args.spec.width } in
    subst (λ (named : Option Setup). AreSizes named l c.args.spec.limit) (sym c.requires.named) (refl, refl)

pub gather-requires : goal.gather-requires
gather-requires g c =
    let same = c.in-Ok-members_of.ensures ∙ c.in-Ok-work_all.ensures.places in
    record { arena = same_fit g.L.Ledger.parts c.in-Ok-members_of.members.items c.in-Ok.members.items same c.in-Ok.ensures.arena }

pub unreachable-requires : goal.unreachable-requires
unreachable-requires g c =
    let same = c.in-Ok-members_of.ensures ∙ c.in-Ok-work_all.ensures.places in
    let all = c.in-Ok.ensures.all in
    c.in-Err-default-NotAll.ensures.missing c.in-Err-default-NotAll.field-0-1-is (all.0, same_count c.in-Ok-members_of.members.items c.in-Ok.members.items same ∙ all.1)

-- what is read from the cells of the image at a run's end
are_shown : {T : Type 0} (messages_of : T → List Message) (l : Layout) (image : Image) (cells : List ℕ) (steps : ℕ) (r : Result T LabFault) → cells ≡ image.cells → IsLeftBy steps image → IsLawfulImage image
    → OnOk r (IsContent l cells) → IfOk r (λ lab. messages_of lab ≡ entries l (words_of cells) (slice_index cells 2)) → IfOk r (λ lab. AreShown l (messages_of lab))
are_shown messages_of l image cells steps (Err e) is left lawful kept shown = tt
are_shown messages_of l image cells steps (Ok lab) is left lawful kept shown =
    record {
      image = image;
      steps = steps;
      left = left;
      lawful = lawful;
      content = subst (IsContent l) is kept;
      shown = subst (λ (xs : List ℕ). messages_of lab ≡ entries l (words_of xs) (slice_index xs 2)) is shown;
    }

pub returns-in-Ok-gather-clause-shown : goal.returns-in-Ok-gather-clause-shown
returns-in-Ok-gather-clause-shown g c =
    let l : Layout = record { procs = c.args.spec.procs; cap = c.args.spec.cap; width = c.args.spec.width } in
    let is : c.as_slice-in-Ok-gather.result.now ≡ c.in-Ok-gather.image.cells = search (rules, c.as_slice-in-Ok-gather.ensures) in
    are_shown (λ lab. lab.messages.items) l c.in-Ok-gather.image c.as_slice-in-Ok-gather.result.now (steps_taken c.in-Ok-members_of.members.items) c.all_shown.result is c.in-Ok-gather.ensures.left
    c.in-Ok-gather.ensures.lawful c.all_shown.ensures.kept c.all_shown.ensures.messages
