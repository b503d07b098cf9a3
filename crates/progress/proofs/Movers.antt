-- What an event of a run does to the words and places of its own process, and that it leaves all others as they are.
use Rattle.std.proofs.Common.{◌≡◌, ◌≢◌, ℕ, unwrap_or}
use Rattle.progress.proofs.Common.{Place, Event, process, place_after_event, World, May, after}
use Rattle.progress.proofs.Short.{Kept}
use Rattle.rmecore.proofs.Invariant.{put_same, put_other}
use Rattle.rmecore.proofs.Runs.{kept}

module _ (n limit : ℕ) (w : World) (e : Event) where
  -- the place of the mover after the event
  abbrev pub goes : Place
  goes = unwrap_or (place_after_event n limit (w.places (process e)) e) (w.places (process e))

  pub place_of_mover : (after n limit w e).places (process e) ≡ goes
  place_of_mover = put_same w.places (process e) goes

  pub same_place : (q : ℕ) → q ≢ process e → (after n limit w e).places q ≡ w.places q
  same_place q ne = put_other w.places (process e) goes q ne

  pub same_words : Kept n w → May n limit w e → (q : ℕ) → q ≢ process e → (after n limit w e).words q ≡ w.words q
  same_words h may = (kept n limit w h.sound.lock e may h.sound.tied).2
