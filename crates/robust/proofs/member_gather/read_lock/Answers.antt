use Rattle.std.proofs.Common.{◌≡◌, ℕ, List, [], ◌∷◌, ◌++◌, length, map, sym, ap, ◌∙◌, arith}
use Rattle.robust.proofs.Common.{count_from, end_of, stays_on, length-counted, mapped_more}
use Rattle.rmecore.specs.declared.own.Own.{Own}
use Rattle.robust.proofs.member_gather.read_lock.Goals as goal

pub push_reserved-requires : goal.push_reserved-requires
push_reserved-requires c =
    let i = c.loop-p.invariant in
    let n : length c.loop-p.lock.items ≡ c.loop-p.p = ap length i.read ∙ length-counted _ c.loop-p.p in
    omega (arith, n, i.room, c.loop-p.lock.ok.0)

pub loop-p-preserved : goal.loop-p-preserved
loop-p-preserved c =
    let i = c.loop-p.invariant in
    let r = c.read_own-own.ensures in
    let f : ℕ → Own = (end_of c.args.setup.now c.args.seat.now.me.0.view.seen).words in
    let value : c.read_own-own.result ≡ f c.loop-p.p = r.own ∙ ap (λ (g : ℕ → Own). g c.loop-p.p) i.stays.words in
    record {
      table = r.same ∙ i.table;
      stays = stays_on c.args.setup.now _ _ _ i.stays r.stays;
      read = c.push_reserved.ensures.items ∙ ap (λ (l : List Own). l ++ c.read_own-own.result ∷ []) i.read ∙ ap (λ (x : Own). map f (count_from 0 c.loop-p.p) ++ x ∷ []) value ∙ sym (mapped_more f c.loop-p.p);
      room = omega (arith, c.push_reserved.ensures.capacity, i.room);
    }
