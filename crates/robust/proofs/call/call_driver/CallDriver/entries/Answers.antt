use Rattle.std.proofs.Common.{◌≡◌, ℕ, ◌+◌, ◌-◌, ◌<◌, ◌++◌, ◌∷◌, [], List, drop, Bool, true, is_ok, if◌then◌else◌, refl, ap, sym, ◌∙◌, subst, arith}
use Rattle.robust.proofs.CallCommon.{vec_len, place_at, entries, Setup, cells_of, row_words, entry_words, Glances, later_stands, setup_same, glances-append, drop_more, drop_none, words_more}
use Rattle.redomail.specs.declared.message.Message.{Message}
use Rattle.robust.proofs.call.call_driver.CallDriver.entries.Goals as goal

pub loop-a-init : goal.loop-a-init
loop-a-init c =
    let x = c.args.self.now in
    let place = c.args.place in
    let none : 0 ≡ place - place = omega arith in
    record {
      looked = subst (λ (n : ℕ). Glances x (entry_words x.seat_view.setup.layout place n) x) none refl;
      len = c.in_ok-messages.ensures.len ∙ none;
      from = omega arith;
      room = c.in_ok-messages.ensures.capacity;
      read = c.in_ok-messages.ensures.items ∙ sym (drop_none x.seat_view.setup.layout (cells_of x.seat_view.setup x.seat_view.seen) place place (omega arith));
    }

pub entry-message-requires : goal.entry-message-requires
entry-message-requires c =
    let x = c.args.self.now in
    let later = later_stands x (entry_words x.seat_view.setup.layout c.args.place (c.loop-a.a - c.args.place)) c.loop-a.self c.setup-setup.ensures.seat_view c.loop-a.invariant.looked in
    omega (arith, later.0, c.requires.count, c.loop-a-test.true)

pub loop-a-preserved : goal.loop-a-preserved
loop-a-preserved c =
    let x = c.args.self.now in
    let s = x.seat_view.setup in
    let place = c.args.place in
    let i = c.loop-a.invariant in
    let a = c.loop-a.a in
    let y = c.loop-a.self in
    let later = later_stands x (entry_words s.layout place (a - place)) y c.setup-setup.ensures.seat_view i.looked in
    let same : y.seat_view.setup ≡ s = setup_same x (entry_words s.layout place (a - place)) y i.looked in
    let more : Glances y (row_words (place_at s.layout a) (2 + s.layout.width)) c.entry-message.new.self =
    subst (λ (t : Setup). Glances y (row_words (place_at t.layout a) (2 + t.layout.width)) c.entry-message.new.self) same c.entry-message.ensures.glances in
    let below : a < cells_of s x.seat_view.seen 2 = omega (arith, c.requires.count, c.loop-a-test.true) in
    let message = c.entry-message.ensures.message ∙ later.1 a below in
    let ok : is_ok c.push.result ≡ true = ap is_ok c.unwrap.ensures in
    let old = c.loop-a.messages in
    let len : vec_len c.push.new.self ≡ vec_len old + 1 = c.push.ensures.len ∙ ap (λ (b : Bool). if b then vec_len old + 1 else vec_len old) ok in
    let items : c.push.new.self.items ≡ old.items ++ c.entry-message.result ∷ [] = c.push.ensures.items ∙ ap (λ (b : Bool). if b then old.items ++ c.entry-message.result ∷ [] else old.items) ok in
    let w = cells_of s x.seat_view.seen in
    record {
      looked = subst (λ (ws : List _). Glances x ws c.entry-message.new.self) (words_more s.layout place a i.from) (glances-append x (entry_words s.layout place (a - place)) y (row_words (place_at s.layout a) (2 + s.layout.width)) c.entry-message.new.self i.looked more);
      len = omega (arith, len, i.len, i.from);
      from = omega (arith, i.from);
      room = omega (arith, i.room, c.push.ensures.capacity);
      read = items ∙ ap (λ (ms : List Message). ms ++ c.entry-message.result ∷ []) i.read ∙ ap (λ (m : Message). drop place (entries s.layout w a) ++ m ∷ []) message ∙ drop_more s.layout w place a i.from;
    }
