-- The places of the labels that claims name, one after the other.
use Rattle.std.proofs.Common.{◌≡◌, ℕ, zero, suc, ◌<◌, ◌+◌, Bool, true, false, cond, List, [], ◌∷◌, ◌++◌, length, drop, get_or, slice_get, Option, Some, None, is_some, not, refl, sym, ap, ◌∙◌, subst, append_assoc, append-nil, add-one, arith}
use Rattle.std.specs.List.{find, drop-map}
use Rattle.std.specs.Prelude.{map, position}
use Rattle.algorithms.specs.declared.line.AlgorithmLine.{AlgorithmLine}
use Rattle.std.proofs.lemmas.List.{length-map}
use Rattle.std.proofs.lemmas.Option.{same_Some, slice_get_read}
use Rattle.algorithm_texts.specs.declared.lines.ClaimLabel.{ClaimLabel}
use Rattle.algorithm_texts.specs.Parts.{◌>>=◌}
use Rattle.algorithm_texts.specs.Drafts.{Drafted, line_of}
use Rattle.algorithm_texts.specs.NeverClaims.{access_below, place_from, claimed_place, claimed_places, claimed_places_of, has_no_place, is_access_line}
use Rattle.algorithm_texts.specs.TextFaults.{ClaimsHavePlaces}

-- these places, and those of the labels that are left
abbrev pub places_after : List ℕ → Option (List ℕ) → Option (List ℕ)
places_after places rest = rest >>= (λ more. Some (places ++ more))

-- after the labels before this place, which have places: those are found, and the first without one is among the rest
pub record PlacesSoFar (d : Drafted) (at : ℕ) (places : List ℕ) : Type 0 where
  pub all : claimed_places d ≡ places_after places (claimed_places_of d (drop at d.claim_labels))
  pub first : find (has_no_place d) d.claim_labels ≡ find (has_no_place d) (drop at d.claim_labels)

pub places_begun : (d : Drafted) → PlacesSoFar d 0 []
places_begun d = record { all = by (claimed_places d); first = refl }
  where
    by : (o : Option (List ℕ)) → o ≡ places_after [] o
    by None = refl
    by (Some places) = refl

drop_next : {A : Type 0} (xs : List A) (at : ℕ) (x : A) → slice_get xs at ≡ Some x → drop at xs ≡ x ∷ drop (suc at) xs
drop_next [] zero x e = absurd (cc)
drop_next [] (suc at) x e = absurd (cc)
drop_next (y ∷ ys) zero x e = ap (λ z. z ∷ ys) (same_Some y x e)
drop_next (y ∷ ys) (suc at) x e = drop_next ys at x e

pub places_more : (d : Drafted) (at : ℕ) (places : List ℕ) (claimed : ClaimLabel) (place : ℕ) → PlacesSoFar d at places → slice_get d.claim_labels at ≡ Some claimed → claimed_place d claimed ≡ Some place
    → PlacesSoFar d (suc at) (places ++ place ∷ [])
places_more d at places claimed place so_far there found =
    let rest = drop (suc at) d.claim_labels in
    let next = drop_next d.claim_labels at claimed there in
    record {
      all = so_far.all ∙ ap (λ ls. places_after places (claimed_places_of d ls)) next
          ∙ ap (λ (o : Option ℕ). places_after places (o >>= (λ p. claimed_places_of d rest >>= (λ ps. Some (p ∷ ps))))) found
          ∙ by (claimed_places_of d rest);
      first = so_far.first ∙ ap (find (has_no_place d)) next ∙ ap (λ (o : Option ℕ). cond (not (is_some o)) (Some claimed) (find (has_no_place d) rest)) found;
    }
  where
    by : (o : Option (List ℕ)) → places_after places (o >>= (λ ps. Some (place ∷ ps))) ≡ places_after (places ++ place ∷ []) o
    by None = refl
    by (Some ps) = ap Some (sym (append_assoc places (place ∷ []) ps))

-- the label at this place of the draft
pub claimed_at : (d : Drafted) (all : List ClaimLabel) (at : ℕ) (claimed : ClaimLabel) → all ≡ d.claim_labels → at < length all → claimed ≡ get_or all at claimed → slice_get d.claim_labels at ≡ Some claimed
claimed_at d all at claimed same below is = ap (λ ls. slice_get ls at) (sym same) ∙ slice_get_read all _ _ _ refl below is

-- so it is with the place that was added
pub places_added : (d : Drafted) (at : ℕ) (places now : List ℕ) (claimed : ClaimLabel) (place : ℕ) → PlacesSoFar d at places → slice_get d.claim_labels at ≡ Some claimed → claimed_place d claimed ≡ Some place
    → now ≡ places ++ place ∷ [] → PlacesSoFar d (at + 1) now
places_added d at places now claimed place so_far there found added = rw (add-one, added) (places_more d at places claimed place so_far there found)

-- at the end all are found
pub places_all : (d : Drafted) (at : ℕ) (places : List ℕ) → PlacesSoFar d at places → drop at d.claim_labels ≡ [] → claimed_places d ≡ Some places
places_all d at places so_far over = so_far.all ∙ ap (λ ls. places_after places (claimed_places_of d ls)) over ∙ ap Some (append-nil places)

-- a label without a place is the first such, and not all are found
pub place_missing : (d : Drafted) (at : ℕ) (places : List ℕ) (claimed : ClaimLabel) → PlacesSoFar d at places → slice_get d.claim_labels at ≡ Some claimed → claimed_place d claimed ≡ None
    → (find (has_no_place d) d.claim_labels ≡ Some claimed) × (claimed_places d ≡ None)
place_missing d at places claimed so_far there none =
    let rest = drop (suc at) d.claim_labels in
    let next = drop_next d.claim_labels at claimed there in (
      so_far.first ∙ ap (find (has_no_place d)) next ∙ ap (λ (o : Option ℕ). cond (not (is_some o)) (Some claimed) (find (has_no_place d) rest)) none,
      so_far.all ∙ ap (λ ls. places_after places (claimed_places_of d ls)) next
          ∙ ap (λ (o : Option ℕ). places_after places (o >>= (λ p. claimed_places_of d rest >>= (λ ps. Some (p ∷ ps))))) none,
    )

-- where not all are found, there are no such places
pub no_places : (d : Drafted) → claimed_places d ≡ None → ClaimsHavePlaces d → ⊥
no_places d none w = cc (none, w.1)

-- the lines from a place on are those of the draft
pub access_from : (lines : List AlgorithmLine) (place : ℕ) → position is_access_line (map line_of (drop place lines)) ≡ position is_access_line (drop place (map line_of lines))
access_from lines place = ap (position is_access_line) (sym (drop-map line_of place lines))

-- where no access comes from a place on, it is how many lines there are
pub access_none : (lines : List AlgorithmLine) (place : ℕ) → position is_access_line (map line_of (drop place lines)) ≡ None → access_below (map line_of lines) place ≡ length lines
access_none lines place none =
    ap (place_from (map line_of lines) place) (ap (position is_access_line) (drop-map line_of place lines) ∙ none) ∙ length-map lines line_of
