use Rattle.std.proofs.Common.{◌++◌, slice_index_or, slice_set, refl, sym, ap, ◌∙◌, subst, append-nil}
use Rattle.rmeworld.proofs.Common.{Access, word_of, own_at, words_of, Advances, ScanGoesOn, IsWorld, prospect_of, silent_step, outcome, reading_of, WorldState}
use Rattle.rmeworld.proofs.Advancing.{scan_is_silent, scan_tells, load_leaves}
use Rattle.rmeworld.proofs.Taken.{IsNext, Fed, stays, takes, reports_by}
use Rattle.rmeworld.proofs.Worlds.{found}
use Rattle.rmeworld.proofs.world.World.scan_on.Goals as goal

abbrev state : goal.After-self-2-1 → WorldState
state c = record { layout = c.self.inside.layout; limit = c.self.inside.limit; words = c.self.inside.words.items; cells = c.self.inside.cells.items; processes = c.self.inside.processes.items; tallies = c.self.inside.tallies.items; history = c.self.inside.history.items }

abbrev new : goal.After-self-2-1 → WorldState
new c = record (state c) { processes = slice_set c.self.inside.processes.items c.args.p c.scan_on-scanned.new.self; tallies = slice_set c.self.inside.tallies.items c.args.p c.count.new.self }

next : (c : goal.After-self-2-1) → IsNext c.args.self.now c.args.p c.args.access c.load-found.result
next c =
    let goes = c.requires.goes_on in
    let value = c.load-found.ensures ∙ (λ i. reading_of (own_at (c.deref.ensures.value i)) (words_of (c.deref-2.ensures.value i)) (c.word.ensures i)) in
    record { below = c.requires.below; access = goes.next; least = goes.least; found = value ∙ ap (λ (s : WorldState). reading_of (own_at s.words) (words_of s.cells) (word_of c.args.access)) c.self.view_is }

world : (c : goal.After-self-2-1) → IsWorld c.args.self.now
world c = subst IsWorld c.self.view_is c.self.invariant

goes : (c : goal.After-self-2-1) → ScanGoesOn c.index_mut.result.now c.args.scan c.args.access
goes c =
    let at = found c.args.self.now c.args.p c.index_mut.result.now (world c) c.requires.below (c.index_mut.ensures.value ∙ ap (λ (s : WorldState). slice_index_or s.processes c.args.p c.index_mut.result.now) c.self.view_is) in
    subst (λ t. ScanGoesOn t c.args.scan c.args.access) at c.requires.goes_on

fed : (c : goal.After-self-2-1) → Fed c.args.self.now c.args.p c.args.access c.load-found.result c.scan_on-scanned.result (silent_step c.args.access c.load-found.result) (new c)
fed c =
    let a : Access = c.args.access in
    let v = c.load-found.result in
    let s : WorldState = state c in
    let leaves = load_leaves a s.words s.cells (goes c).load in
    let what = c.scan_on-scanned.ensures.outcome ∙ ap (λ x. outcome c.index_mut.result.now x v) (goes c).next in
    let none = ap (prospect_of s c.args.p a) what ∙ scan_is_silent c.index_mut.result.now c.args.scan a s.layout c.args.p (words_of s.cells) v (goes c) in
    subst (λ s. Fed s c.args.p a v c.scan_on-scanned.result (silent_step a v) (new c)) c.self.view_is (record {
      before = c.index_mut.result.now;
      after = c.scan_on-scanned.new.self;
      tally = c.index_mut-2.result.now;
      here = c.index_mut.ensures.value;
      there = c.index_mut-2.ensures.value;
      exact = c.scan_on-scanned.ensures.exact;
      process_state = c.scan_on-scanned.ensures.process_state;
      what = c.scan_on-scanned.ensures.outcome;
      layout = refl;
      limit = refl;
      words = sym leaves.0;
      cells = sym leaves.1;
      processes = refl;
      tallies = ap (slice_set s.tallies c.args.p) c.count.ensures;
      history = sym (append-nil s.history) ∙ ap (λ ds. s.history ++ ds) (sym none);
      tells = scan_tells s c.args.p c.index_mut.result.now c.args.scan a v (goes c) ∙ ap (reports_by s c.args.p a v) (sym what);
    })

pub invariant_of-self : goal.invariant_of-self
invariant_of-self c = stays (world c) (next c) (fed c)

taken : (c : goal.After-self-2-1) → Advances c.args.self.now c.args.p (silent_step c.args.access c.load-found.result) (new c)
taken c = takes (world c) (next c) (fed c)

pub returns-clause-advances : goal.returns-clause-advances
returns-clause-advances c = subst (λ reports. Advances c.args.self.now c.args.p reports (new c)) (taken c).reports (taken c)

pub returns-clause-silent : goal.returns-clause-silent
returns-clause-silent c = sym (taken c).reports
