use Rattle.std.proofs.Common.{◌<◌, ◌≤◌, refl, ap, ◌∙◌, arith}
use Rattle.redomail.specs.declared.layout.Layout.{Layout}
use Rattle.crashlab.proofs.Common.{VariantState}
use Rattle.crashlab.proofs.hunts.Crashes.{system_crash_ends}
use Rattle.crashlab.proofs.space.SystemCrashes.{crashes_first, crashes_next, crashes_last, heard_none, heard_more}
use Rattle.crashlab.proofs.hunts.system_crash.crash_each.Goals as goal

pub loop-p-init : goal.loop-p-init
loop-p-init c =
    let n = c.args.world.now.layout.procs in
    record { layout = refl; crashed = crashes_first c.args.world.now n; heard = λ s keeps few. heard_none s n c.args.judge.now keeps }

pub crash_one-requires : goal.crash_one-requires
crash_one-requires c =
    let end = ap (λ (l : Layout). l.procs) c.layout-p-end.ensures.layout in
    let here = ap (λ (l : Layout). l.procs) c.loop-p.invariant.layout in
    omega (arith, c.loop-p-test.true, end, here)

pub loop-p-preserved : goal.loop-p-preserved
loop-p-preserved c =
    let i = c.loop-p.invariant in
    let n = c.args.world.now.layout.procs in
    let end = ap (λ (l : Layout). l.procs) c.layout-p-end.ensures.layout in
    let low : c.loop-p.p < c.args.world.now.layout.procs = omega (arith, c.loop-p-test.true, end) in
    record {
      layout = ap (λ (w : VariantState). w.layout) c.crash_one.ensures.crashed ∙ i.layout;
      crashed = crashes_next _ c.loop-p.world c.crash_one.new.world n c.loop-p.p low i.crashed c.crash_one.ensures.crashed;
      heard = λ s keeps few.
          let heard = i.heard s keeps few in
          heard_more s n c.loop-p.p c.loop-p.judge c.crash_one.new.judge low few heard (c.crash_one.ensures.keeps heard.state heard.keeps);
    }

pub returns : goal.returns
returns c = λ variant schedule played.
    let i = c.loop-p.invariant in
    let n = c.args.world.now.layout.procs in
    let end = ap (λ (l : Layout). l.procs) c.layout-p-end.ensures.layout in
    let past : c.args.world.now.layout.procs ≤ c.loop-p.p = omega (arith, c.loop-p-test.false, end) in
    system_crash_ends variant schedule c.args.world.now c.args.judge.now played c.loop-p.world (crashes_last _ c.loop-p.world n c.loop-p.p past i.crashed) c.loop-p.p c.loop-p.judge past i.heard
