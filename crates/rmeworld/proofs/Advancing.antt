-- A scan of a world: its next load is silent.
use Rattle.std.proofs.Common.{◌≡◌, ℕ, false, if◌then◌else◌, List, [], Option, Some, None, refl, sym, ap, subst}
use Rattle.rmeworld.proofs.Common.{Access, Load, Store, Kind, Open as Opens, Own, Standing, first, at_scan, answer, Place, above, Door, Wait, is_store}
use Rattle.rmeworld.proofs.Common.{step_deed, Layout, Words, Chore, IsLoad, ScanGoesOn, answer_by, by_lock, done_by, script_state_of, or_else}
use Rattle.rmeworld.proofs.Common.{mail_by, words_of, words_by, cells_by, the_deed, silent_step, outer_by, MachineState, standing, outcome, WorldState}
use Rattle.rmecore.specs.declared.scan.Scan.{Scan}
use Rattle.rmecore.specs.declared.scan.Scan.TheVariants.{Peeking, Waiting}
use Rattle.rmeworld.proofs.Taken.{reports_by}

-- a load is silent at this place
abbrev IsSilent : ℕ → Place → Kind → ℕ → Type 0
IsSilent p s kind x = (step_deed p s kind x ≡ None) × (answer s kind x ≡ None)

-- it is so in the doorway and while waiting
door_is_silent : (p : ℕ) (unread : List ℕ) (m : ℕ) (kind : Kind) (x : ℕ) → is_store kind ≡ false → IsSilent p (Door unread m) kind x
door_is_silent p unread m Opens x h = (cc, cc)
door_is_silent p unread m _ x h = (cc, cc)

line_is_silent : (p k : ℕ) (unpassed : List ℕ) (looked : Option ℕ) (kind : Kind) (x : ℕ) → is_store kind ≡ false → IsSilent p (Wait k unpassed looked) kind x
line_is_silent p k unpassed looked Opens x h = (cc, cc)
line_is_silent p k unpassed looked _ x h = (cc, cc)

place_is_silent : (st : MachineState) (scan : Scan) (kind : Kind) (x : ℕ) → at_scan (standing st) scan ≡ standing st → is_store kind ≡ false → IsSilent st.index st.lock kind x
place_is_silent st (Peeking i m) kind x at h = subst (λ (t : Standing). IsSilent st.index t.place kind x) at (door_is_silent st.index (above st.layout.procs st.index i) m kind x h)
place_is_silent st (Waiting k i looked) kind x at h =
    subst (λ (t : Standing). IsSilent st.index t.place kind x) at (line_is_silent st.index k (above st.layout.procs st.index i) (if looked then first (above st.layout.procs st.index i) else None) kind x h)

-- the next load of a scan is no deed
pub scan_is_silent : (st : MachineState) (scan : Scan) (a : Access) (l : Layout) (p : ℕ) (cells : Words) (v : ℕ) → ScanGoesOn st scan a → or_else (outcome st (Some a) v).progress.outer (mail_by l p cells a) ≡ []
scan_is_silent st scan (Store kind word w) l p cells v goes = absurd goes.load
scan_is_silent st scan (Load kind word) l p cells v goes =
    let none : outer_by st.index st.lock (script_state_of st.script_state) kind v ≡ None = subst (λ (e : Chore). outer_by st.index st.lock (script_state_of e) kind v ≡ None) (sym goes.free) (place_is_silent st scan kind v goes.at goes.own).0 in
    ap (λ o. or_else o (mail_by l p cells (Load kind word))) none

-- and does not end a call
pub scan_ends_nothing : (st : MachineState) (scan : Scan) (a : Access) (v : ℕ) → ScanGoesOn st scan a → ((outcome st (Some a) v).progress.outer ≡ None) × ((outcome st (Some a) v).progress.done ≡ None) × ((outcome st (Some a) v).answer ≡ None)
scan_ends_nothing st scan (Store kind word w) v goes = absurd goes.load
scan_ends_nothing st scan (Load kind word) v goes =
    let silent = place_is_silent st scan kind v goes.at goes.own in (
      subst (λ (e : Chore). outer_by st.index st.lock (script_state_of e) kind v ≡ None) (sym goes.free) silent.0,
      subst (λ (e : Chore). done_by st.lock (script_state_of e) kind v ≡ None) (sym goes.free) silent.1,
      subst (λ (e : Chore). answer_by st.lock st.mended st.barred (script_state_of e) kind v ≡ None) (sym goes.free) (ap (by_lock st.barred) silent.1),
    )

-- the report of the load
pub scan_tells : (s : WorldState) (p : ℕ) (st : MachineState) (scan : Scan) (a : Access) (v : ℕ) → ScanGoesOn st scan a → silent_step a v ≡ reports_by s p a v (outcome st (Some a) v)
scan_tells s p st scan (Store kind word w) v goes = absurd goes.load
scan_tells s p st scan (Load kind word) v goes =
    let ends = scan_ends_nothing st scan (Load kind word) v goes in
    let none = scan_is_silent st scan (Load kind word) s.layout p (words_of s.cells) v goes in
    λ i. record { happened = record { kind = kind; word = word; value = v; outer = sym ends.0 i; done = sym ends.1 i }; deed = the_deed (sym none i); answer = sym ends.2 i }

pub load_leaves : (a : Access) (words : List Own) (cells : List ℕ) → IsLoad a → (words_by words a ≡ words) × (cells_by cells a ≡ cells)
load_leaves (Load kind word) words cells load = (refl, refl)
load_leaves (Store kind word w) words cells load = absurd load
