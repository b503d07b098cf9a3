-- Continuations of a run: how two are joined, and what a world keeps in all of them.
use Rattle.std.proofs.Common.{◌≡◌, ℕ, List, [], ◌∷◌, ◌++◌, All, Option, Some, None, refl, sym, ap, ◌∙◌, subst}
use Rattle.std.proofs.lemmas.List.Elements.{All-nil, All-cons, All-append, All-weaker}
use Rattle.rmecore.proofs.Common.{Outer, Enter, Event, process, World, May, after, Run, final, deeds, deed, and_then, entries}

-- two lists of events, one after the other

pub run-append : (n limit : ℕ) (w : World) (es fs : List Event) → Run n limit w es → Run n limit (final n limit w es) fs → Run n limit w (es ++ fs)
run-append n limit w [] fs run later = later
run-append n limit w (e ∷ es) fs run later = (run.0, run-append n limit (after n limit w e) es fs run.1 later)

pub final-append : (n limit : ℕ) (w : World) (es fs : List Event) → final n limit w (es ++ fs) ≡ final n limit (final n limit w es) fs
final-append n limit w [] fs = refl
final-append n limit w (e ∷ es) fs = final-append n limit (after n limit w e) es fs

pub deeds-append : (n limit : ℕ) (w : World) (es fs : List Event) → deeds n limit w (es ++ fs) ≡ deeds n limit w es ++ deeds n limit (final n limit w es) fs
deeds-append n limit w [] fs = refl
deeds-append n limit w (e ∷ es) fs = joined (deed (w.places (process e)) e) _ _ _ (deeds-append n limit (after n limit w e) es fs)
  where
    joined : (d : Option Outer) (xs ys zs : List Outer) → xs ≡ ys ++ zs → and_then d xs ≡ and_then d ys ++ zs
    joined None xs ys zs same = same
    joined (Some d) xs ys zs same = ap (λ l. d ∷ l) same

pub entries-append : (ds ds' : List Outer) → entries (ds ++ ds') ≡ entries ds ++ entries ds'
entries-append [] ds' = refl
entries-append (Enter p ∷ ds) ds' = ap (λ l. p ∷ l) (entries-append ds ds')
entries-append (d ∷ ds) ds' = entries-append ds ds'

pub entered-append :
    (n limit : ℕ) (w : World) (es fs : List Event) {line line' : List ℕ} → entries (deeds n limit w es) ≡ line → entries (deeds n limit (final n limit w es) fs) ≡ line'
    → entries (deeds n limit w (es ++ fs)) ≡ line ++ line'
entered-append n limit w es fs {line = line} first later =
    ap entries (deeds-append n limit w es fs) ∙ entries-append (deeds n limit w es) (deeds n limit (final n limit w es) fs) ∙ ap (λ l. l ++ entries (deeds n limit (final n limit w es) fs)) first ∙ ap (λ l. line ++ l) later

-- these events, each with Q, lead from w to a world with G, and these processes enter in them
pub record Continues (n limit : ℕ) (Q : Event → Type 0) (w : World) (line : List ℕ) (G : World → Type 0) : Type 0 where
  pub events : List Event
  pub run : Run n limit w events
  pub each : All Q events
  pub entered : entries (deeds n limit w events) ≡ line
  pub goal : G (final n limit w events)

pub ended : {n limit : ℕ} {Q : Event → Type 0} {w : World} {G : World → Type 0} → G w → Continues n limit Q w [] G
ended {Q = Q} goal = record { events = []; run = tt; each = All-nil Q; entered = refl; goal = goal }

-- one event, and then a continuation
pub event_then :
    {n limit : ℕ} {Q : Event → Type 0} {w : World} {line : List ℕ} {G : World → Type 0} (e : Event) (d : Option Outer) → Q e → May n limit w e → deed (w.places (process e)) e ≡ d → Continues n limit Q (after n limit w e) line G
    → Continues n limit Q w (entries (and_then d []) ++ line) G
event_then {n = n} {limit = limit} {Q = Q} {w = w} {line = line} e d right may is c =
    record {
      events = e ∷ c.events;
      run = (may, c.run);
      each = All-cons Q e c.events right c.each;
      entered = ap (λ o. entries (and_then o (deeds n limit (after n limit w e) c.events))) is ∙ first d _ ∙ ap (λ l. entries (and_then d []) ++ l) c.entered;
      goal = c.goal;
    }
  where
    first : (d : Option Outer) (ds : List Outer) → entries (and_then d ds) ≡ entries (and_then d []) ++ entries ds
    first None ds = refl
    first (Some d) ds = entries-append (d ∷ []) ds

-- a continuation, and then another
pub followed_by : {n limit : ℕ} {Q : Event → Type 0} {w : World} {line line' : List ℕ} {G H : World → Type 0} → (c : Continues n limit Q w line G) → Continues n limit Q (final n limit w c.events) line' H → Continues n limit Q w (line ++ line') H
followed_by {n = n} {limit = limit} {Q = Q} {w = w} {line = line} {H = H} c d =
    record {
      events = c.events ++ d.events;
      run = run-append n limit w c.events d.events c.run d.run;
      each = All-append Q c.events d.events c.each d.each;
      entered = entered-append n limit w c.events d.events c.entered d.entered;
      goal = subst H (sym (final-append n limit w c.events d.events)) d.goal;
    }

pub followed : {n limit : ℕ} {Q : Event → Type 0} {w : World} {line line' : List ℕ} {G H : World → Type 0} → Continues n limit Q w line G → ((w' : World) → G w' → Continues n limit Q w' line' H) → Continues n limit Q w (line ++ line') H
followed c on = followed_by c (on _ c.goal)

pub widened : {n limit : ℕ} {Q R : Event → Type 0} {w : World} {line : List ℕ} {G H : World → Type 0} → ((e : Event) → Q e → R e) → ((w' : World) → G w' → H w') → Continues n limit Q w line G → Continues n limit R w line H
widened {Q = Q} {R = R} weaker further c = record { events = c.events; run = c.run; each = All-weaker Q R weaker c.events c.each; entered = c.entered; goal = further _ c.goal }
