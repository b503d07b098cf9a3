-- A process whose place is in the section is in the section of the abstract lock.
use Rattle.std.proofs.Common.{◌≡◌, ℕ, ◌<◌, ◌⊎◌, List, [], ◌∷◌, Option, Some, None, refl, sym, ◌∙◌, subst, inl, inr}
use Rattle.rmecore.proofs.Common.{Outer, Within, Abstract, Place, Inside, Leaving, Event, process, all_done, World, after, Run, final, deeds, deed, and_then}
use Rattle.rmecore.proofs.Invariant.{Tied, Fits, phase_of, phase_within}
use Rattle.rmecore.proofs.Rows.{after_deed}
use Rattle.rmecore.proofs.Runs.{kept}

all_done-and_then : (a : Abstract) (d : Option Outer) (ds : List Outer) → all_done a (and_then d ds) ≡ all_done (after_deed a d) ds
all_done-and_then a None ds = refl
all_done-and_then a (Some d) ds = refl

-- the invariant of world and abstract lock holds after a run
pub tied_after : (n limit : ℕ) (w : World) (a : Abstract) (events : List Event) → Tied n w a → Run n limit w events → Tied n (final n limit w events) (all_done a (deeds n limit w events))
tied_after n limit w a [] t run = t
tied_after n limit w a (e ∷ es) t run =
    let r = kept n limit w a e run.0 t in
    subst (Tied n (final n limit (after n limit w e) es)) (sym (all_done-and_then a (deed (w.places (process e)) e) (deeds n limit (after n limit w e) es))) (tied_after n limit (after n limit w e) _ es r.1 run.1)

-- a process at the place inside, or at the start of its exit
pub within : {n : ℕ} {w : World} {a : Abstract} → Tied n w a → (p : ℕ) → p < n → (w.places p ≡ Inside) ⊎ (w.places p ≡ Leaving) → a.phase p ≡ Within
within {w = w} t p below at = t.phase p below ∙ elim at [ inl e ↦ rw e (here Inside e (λ f. f)) | inr e ↦ rw e (here Leaving e (λ f. f)) ]
  where
    here : (s : Place) → w.places p ≡ s → (Fits (w.words p) s → Fits (w.words p) Inside) → phase_of (w.words p) Inside ≡ Within
    here s e same = let f = same (subst (Fits (w.words p)) e (t.fits p below)) in phase_within _ _ _ f.1 f.2
