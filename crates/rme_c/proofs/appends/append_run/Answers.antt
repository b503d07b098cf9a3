use Rattle.std.proofs.Common.{rules, ◌≡◌, arith}
use Rattle.rme_c.proofs.Common.{Within}
use Rattle.rme_c.specs.declared.script_position.ScriptPosition.TheVariants as script_position
use Rattle.rme_c.proofs.StoredAll.{appended, first_store, stored_from}
use Rattle.rme_c.proofs.appends.append_run.Goals as goal

pub returns-in-Within-Store-default-default-eq0 : goal.returns-in-Within-Store-default-default-eq0
returns-in-Within-Store-default-default-eq0 c =
    let p = c.args.p.now in
    let r = c.requires in
    let some = c.store_all.ensures.some in
    let x = c.in-Within-Store-default-default-eq0 in
    let is : c.after_decision-to.result.0 ≡ Within (script_position.Store x.at x.seq 0) = search (rules, x.is, x.field-0-is, x.field-0-2-test, x.field-0-2-is) in
    let stores = stored_from p c.args.seq c.args.closed c.args.count c.args.last r.here r.few c.after_decision-to.new.p _ _ _ c.after_decision-to.result.0 c.after_decision-to.result.1 _ _ c.after_decision-to.ensures.same c.after_decision-to.ensures.step is c.store_all.ensures.stored in
    appended p c.args.seq c.args.closed c.args.count c.args.last r.here r.few _ _ _
    ((λ h. first_store _ _ some stores.stores), (λ h. some))
    (λ z. absurd (omega (arith, z, some)))
    (λ h. stores)
