-- A step of the lock's part, in the numbers of C.
use Rattle.std.proofs.Common.{◌≡◌, ℕ, Bool, true, false, nat_lt, if◌then◌else◌, List, [], ◌∷◌, Option, Some, None, IfSome, is_none, refl, sym, inl, inr}
use Rattle.rme_c.proofs.Common.{cases_Bool, Access, Stage}
use Rattle.rme_c.proofs.Common.{Door as AtDoor, Wait as AtWait, place_of, first, access, word_of}
use Rattle.rme_c.proofs.Common.{InLock, Place, above, Layout, Check, pending_task, Free as IsFree, Doing as Does, Checking, is_entry, InWords, landing, lock_at, script_state_at}
use Rattle.rmeworld.proofs.Projection.{entry_inside}
use Rattle.rmecore.specs.Place.{Door, Wait}
use Rattle.rmecore.specs.Refused.{is_idle}
use Rattle.rmecore.specs.declared.word.Word.{Word}
use Rattle.rmecore.specs.declared.word.Word.TheVariants.{Data}

pub lands : (n p : ℕ) (s t : Place) (to : Stage) (checks : Bool) → checks ≡ is_entry s t → place_of n p to ≡ t → lock_at n p (landing checks to) ≡ t
lands n p s t to true e place = sym (entry_inside s t (sym e))
lands n p s t to false e place = place

pub has_script_state : (l : Layout) (p : ℕ) (words : List ℕ) (s t : Place) (to : Stage) (checks : Bool) → checks ≡ is_entry s t
    → script_state_at l p words (landing checks to) ≡ (if is_entry s t then Does Checking (pending_task l p Check) else IsFree)
has_script_state l p words s t to true e = rw (← e) refl
has_script_state l p words s t to false e = rw (← e) refl

in_words : (n : ℕ) (word : Word) → InLock n word → InWords n word
in_words n (Data i) h = tt
in_words n _ h = h

pub words_of : (n : ℕ) (o : Option Access) → IfSome o (λ a. InLock n (word_of a)) → IfSome o (λ a. InWords n (word_of a))
words_of n None h = tt
words_of n (Some a) h = in_words n (word_of a) h

door_wants : (limit p m : ℕ) (js : List ℕ) → is_none (access limit p (Door js m)) ≡ false
door_wants limit p m [] = elim (cases_Bool (nat_lt m limit)) [ inl e ↦ rw e refl | inr e ↦ rw e refl ]
door_wants limit p m (j ∷ js) = refl

wait_wants : (limit p k : ℕ) (js : List ℕ) (looked : Bool) → is_none (access limit p (Wait k js (if looked then first js else None))) ≡ false
wait_wants limit p k [] true = refl
wait_wants limit p k (j ∷ js) true = refl
wait_wants limit p k _ _ = refl

-- there is no next step exactly where no call is under way
pub idle_access : (limit n p : ℕ) (t : Stage) → is_idle (place_of n p t) ≡ is_none (access limit p (place_of n p t))
idle_access limit n p (AtDoor i m) = sym (door_wants limit p m (above n p i))
idle_access limit n p (AtWait k i looked) = sym (wait_wants limit p k (above n p i) looked)
idle_access limit n p _ = refl
