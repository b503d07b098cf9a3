-- Every event keeps the invariant, so every run does.
use Rattle.std.proofs.Common.{◌≡◌, ◌≢◌, ℕ, ◌+◌, ◌<◌, List, [], ◌∷◌, Option, Some, None, IsSome, unwrap_or, refl, sym, subst, inl, arith}
use Rattle.rmecore.proofs.Common.{Kind, Rereads, Glance as Glances}
use Rattle.rmecore.proofs.Common.{Outer, Begin, Enter, Leave, Quit, Own, Word, Abstract, nobody, Legal, put, Place, Reread}
use Rattle.rmecore.proofs.Common.{next, Event, Starts, Crashes, Steps, process, World, at_rest, May, after, Run, Reads}
use Rattle.rmecore.proofs.Common.{words_after_event, deeds, deed, and_then, step_deed}
use Rattle.rmecore.proofs.Allowing.{needs_hold}
pub use Rattle.rmecore.proofs.AllowedSteps.{guard}
use Rattle.rmecore.proofs.AllowedSteps.{by_step}
use Rattle.rmecore.proofs.Invariant.{Tied, put_same, put_other}
use Rattle.rmecore.proofs.Changes.{Here, knows_nothing, here_of, tied_of}
use Rattle.rmecore.proofs.Rows.{Allowed, after_deed, Outcome, opens, peeks, takes, quits, shuts, looks, weighs, enters, drops, withdraws, unmarks, comes, restarts, crashes, starts}
use Rattle.rmecore.specs.declared.outer.Outer.TheVariants.{Ready}

module _ (n limit : ℕ) (w : World) (a : Abstract) (p : ℕ) (below : p < n) where
  -- a step leaves the words of other processes as they were
  abbrev Effect : (ℕ → Own) → Place → Option Outer → Type 0
  Effect words s d = Outcome n w a p (words p) s d × ((q : ℕ) → q ≢ p → words q ≡ w.words q)

  loaded : (s : Place) (d : Option Outer) → Outcome n w a p (w.words p) s d → Effect w.words s d
  loaded s d h = (h, λ q ne. refl)

  -- a store into a word of the process's own
  own_word : (f : Own → Own) (s : Place) (d : Option Outer) → Outcome n w a p (f (w.words p)) s d → Effect (put w.words p (f (w.words p))) s d
  own_word f s d h = (subst (λ x. Outcome n w a p x s d) (sym (put_same w.words p (f (w.words p)))) h, λ r ne. put_other w.words p (f (w.words p)) r ne)

  steps : (s : Place) (kind : Kind) (word : Word) (v : ℕ) → IsSome (next n limit p s kind word v) → Here n w a p (w.words p) s → Reads w.words (Steps p kind word v)
      → Effect (words_after_event w.words (Steps p kind word v)) (unwrap_or (next n limit p s kind word v) s) (step_deed p s kind v)
  steps =
      by_step {C = λ s kind word v t. Here n w a p (w.words p) s → Reads w.words (Steps p kind word v) → Effect (words_after_event w.words (Steps p kind word v)) t (step_deed p s kind v)} (
      record {
        rereads_choosing = λ call v h reports. loaded _ None (tt, comes below (Reread call (v ∷ [])) h tt (h.fits, reports refl) refl);
        rereads_number = λ call c v h reports. loaded _ None (tt, comes below (Reread call (c ∷ v ∷ [])) h tt (h.fits.0, h.fits.1, reports refl) refl);
        rereads_inside = λ call c k v h reports. loaded _ (step_deed p (Reread call (c ∷ k ∷ [])) Rereads v) (restarts below call c k v h (reports refl));
        opens = λ h reports. own_word (λ x. record x { choosing = 1 }) _ (Some (Begin p)) (opens below 1 h refl);
        peeks = λ unread m j v there h reports. loaded _ None (peeks below j v h (reports refl));
        takes = λ m less h reports. own_word (λ x. record x { number = m + 1 }) _ (Some (Ready p)) (takes below (m + 1) h refl);
        spends = λ m most h reports. own_word (λ x. record x { choosing = 0 }) _ (Some (Quit p)) (quits below 0 h refl);
        shuts = λ call k h reports. own_word (λ x. record x { choosing = 0 }) _ None (shuts below call 0 h refl);
        looks = λ k unpassed j there h reports. loaded _ None (looks below j 0 h (reports refl) refl);
        looks_again = λ k unpassed j v there blocked h reports. loaded _ None (tt, h);
        weighs = λ k unpassed j v passes h reports. loaded _ None (weighs below j v h (reports refl) passes);
        weighs_again = λ k unpassed j v blocked h reports. loaded _ None (tt, h);
        marks = λ k h reports. own_word (λ x. record x { inside = 1 }) _ (Some (Enter p)) (enters below 1 h refl);
        drops = λ h reports. own_word (λ x. record x { number = 0 }) _ (Some (Leave p)) (drops below 0 h refl);
        withdraws = λ h reports. own_word (λ x. record x { number = 0 }) _ (Some (Quit p)) (withdraws below 0 h refl);
        unmarks = λ call h reports. own_word (λ x. record x { inside = 0 }) _ None (unmarks below call 0 h refl);
        glances = λ s word v h reports. glanced s word v h;
      })
    where
      glanced : (s : Place) (word : Word) (v : ℕ) → Here n w a p (w.words p) s → Effect w.words s (step_deed p s Glances v)
      glanced (Reread call (c ∷ k ∷ [])) word v h = loaded _ None (tt, h)
      glanced _ word v h = loaded _ None (tt, h)

-- one event
pub kept :
    (n limit : ℕ) (w : World) (a : Abstract) (e : Event) → May n limit w e → Tied n w a
    → Allowed n a (deed (w.places (process e)) e) × Tied n (after n limit w e) (after_deed a (deed (w.places (process e)) e)) × ((q : ℕ) → q ≢ process e → words_after_event w.words e q ≡ w.words q)
kept n limit w a (Starts p call) may t =
    let r = starts may.0 (w.places p) call (here_of n w a p may.0 t) may.1 in
    (r.0, tied_of w p w.words _ _ (λ q ne. refl) (put_same w.places p _) (put_other w.places p _) n _ r.1, λ q ne. refl)
kept n limit w a (Crashes p) may t =
    let r = crashes may.0 (w.places p) (here_of n w a p may.0 t) in
    (r.0, tied_of w p w.words _ _ (λ q ne. refl) (put_same w.places p _) (put_other w.places p _) n _ r.1, λ q ne. refl)
kept n limit w a (Steps p kind word v) may t =
    let r = steps n limit w a p may.0 (w.places p) kind word v may.1 (here_of n w a p may.0 t) may.2 in
    (r.0.0, tied_of w p (words_after_event w.words (Steps p kind word v)) _ _ r.1 (put_same w.places p _) (put_other w.places p _) n _ r.0.1, r.1)

pub legal : (n limit : ℕ) (w : World) (a : Abstract) (events : List Event) → Tied n w a → Run n limit w events → Legal n a (deeds n limit w events)
legal n limit w a [] t run = tt
legal n limit w a (e ∷ es) t run =
    let r = kept n limit w a e run.0 t in
    go (deed (w.places (process e)) e) r.0 (legal n limit (after n limit w e) _ es r.1 run.1)
  where
    go : (d : Option Outer) → Allowed n a d → Legal n (after_deed a d) (deeds n limit (after n limit w e) es) → Legal n a (and_then d (deeds n limit (after n limit w e) es))
    go None allowed h = h
    go (Some d) allowed h = (needs_hold n a d allowed, h)

pub at_first : (n : ℕ) → Tied n at_rest nobody
at_first n = record { fits = λ p h. (refl, inl refl); phase = λ p h. refl; self = λ p. refl; pairs = λ p i h h' ne. knows_nothing (λ e. omega arith) (λ e. e) (λ e. e) (λ e. cc) }
