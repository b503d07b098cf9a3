use Rattle.std.proofs.Common.{◌≡◌, ℕ, true, IsSome, sym, ap, subst}
use Rattle.rmecore.specs.declared.kind.Kind.{Kind}
use Rattle.rmecore.specs.declared.word.Word.{Word}
use Rattle.rmecore.specs.World.{is_store}
use Rattle.table_runs.specs.declared.entry.SeatKnowledge.{SeatKnowledge}
use Rattle.table_runs.specs.Rule.{MayStore}
use Rattle.table_runs.specs.Runs.{index}
use Rattle.table_runs.specs.SeatView.{single_seat, pending_events}
use Rattle.table_runs.proofs.Leads.{may}
use Rattle.robust.proofs.AccessCommon.{SeatView, IsSeatView, moved_process_state, InTable}
use Rattle.robust.proofs.access.port.Port.store.Goals as goal

-- a store that the process may take is one that its seat may take
store_as : (x now : SeatView) (k : SeatKnowledge) (kind : Kind) (word : Word) (at value : ℕ) → x ≡ now → k ≡ single_seat x.setup x.by x.seen → IsSeatView x → InTable now.setup word → at ≡ index x.setup word → is_store kind ≡ true → IsSome (moved_process_state now kind word value) → MayStore (pending_events x kind word) at k.view value
store_as x now k kind word at value same e seat_view inside is stores some =
    subst (λ v. MayStore (pending_events x kind word) at v value) (sym (ap (λ (l : SeatKnowledge). l.view) e))
    (is, subst (λ (y : SeatView). InTable y.setup word) (sym same) inside, stores, may x kind word value seat_view (subst (λ (y : SeatView). IsSome (moved_process_state y kind word value)) (sym same) some))

pub store-requires-clause-may : goal.store-requires-clause-may
store-requires-clause-may c =
    store_as _ c.args.self.now c.self.inside.seat.me.0 c.args.kind c.args.word c.index-at.result c.args.new c.self.view_is (ap (λ m. m.0) c.self.invariant.seat) c.self.invariant.seat_view c.requires.table c.index-at.ensures.index c.requires.kind c.requires.may
