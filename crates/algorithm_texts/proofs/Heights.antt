-- Lines to which no run comes back by gotos without an access have ranks that fall, within a round of each loop.
use Rattle.std.proofs.Common.{◌≡◌, ◌⊎◌, ℕ, zero, suc, ◌+◌, ◌<◌, ◌≤◌, Bool, true, false, cond, not, ◌||◌, ltb, eqb, max, List, [], ◌∷◌, length, map, get_or, Option, Some, None, slice_get, refl, sym, ap, ◌∙◌, subst, inl, inr, arith}
use Rattle.std.specs.List.{range_with_len}
use Rattle.std.proofs.lemmas.Bool.{false≢true, ltb-true, ltb-false, eqb-true, eq-eqb}
use Rattle.std.proofs.lemmas.List.FromFn.{get_or-map-range_with_len}
use Rattle.algorithm_texts.specs.declared.flow.RunKind.TheVariants.{All, Forward}
use Rattle.algorithm_texts.specs.declared.lines.CallRead.{CallRead}
use Rattle.algorithm_texts.specs.Drafts.{LineForm, Accessing, Assigning, SettingRow, Noting, Going, Branching, Beginning, Repeating, Ending, PlacedLine, Drafted}
use Rattle.algorithm_texts.specs.FinishedDrafts.{loop_has_round, is_within, ways}
use Rattle.algorithm_texts.specs.Runs.{forward_ways, ways_after, ways_from, leads_to, is_access, is_line_in, IsPlaceReached, RunsStay, NoneReturns}
use Rattle.algorithm_texts.proofs.RunMarks.{both_true, true_or_false, or_left, or_right, either, comes_on}
use Rattle.algorithm_texts.proofs.RoundMarks.{way_out, forward_way, round_of}

-- ---- heights

highest : (ℕ → ℕ) → List ℕ → ℕ
highest f [] = 0
highest f (w ∷ ws) = max (f w) (highest f ws)

-- how many local lines a run can make from a place, at most that many
pub height : (ℕ → List ℕ) → (ℕ → Bool) → ℕ → ℕ → ℕ
height W L zero at = 0
height W L (suc n) at = cond (L at) (suc (highest (height W L n) (W at))) 0

highest_above : (f : ℕ → ℕ) (ws : List ℕ) (w : ℕ) → leads_to ws w ≡ true → f w ≤ highest f ws
unfolding highest
highest_above f [] w h = absurd (false≢true h)
highest_above f (x ∷ xs) w h = elim (either (eqb x w) (leads_to xs w) h) [
  | inl e ↦ let same : x ≡ w = eqb-true x w e in subst (λ y. f y ≤ max (f x) (highest f xs)) same (omega arith)
  | inr k ↦ let r = highest_above f xs w k in omega (arith, r)
]

-- the highest is that of a way, or there is none
highest_at : (f : ℕ → ℕ) (ws : List ℕ) → (highest f ws ≡ 0) ⊎ ((w : ℕ) × (leads_to ws w ≡ true) × (highest f ws ≤ f w))
unfolding highest
highest_at f [] = inl refl
highest_at f (x ∷ xs) = elim (true_or_false (ltb (f x) (highest f xs))) [
  | inl t ↦
      let less = ltb-true (f x) (highest f xs) t in
      elim (highest_at f xs) [
        | inl e ↦ absurd (omega (arith, less, e))
        | inr k ↦ let more = k.2 in inr (k.0, or_right (eqb x k.0) (leads_to xs k.0) k.1, omega (arith, more, less))
      ]
  | inr e ↦
      let most = ltb-false (f x) (highest f xs) e in
      inr (x, or_left (eqb x x) (leads_to xs x) (eq-eqb x x refl), omega (arith, most))
]

-- a way that is lower than the line at the next count
height_way : (W : ℕ → List ℕ) (L : ℕ → Bool) (n at w : ℕ) → L at ≡ true → leads_to (W at) w ≡ true → height W L n w < height W L (suc n) at
unfolding height
height_way W L n at w local leads =
    let above = highest_above (height W L n) (W at) w leads in
    subst (λ b. height W L n w < cond b (suc (highest (height W L n) (W at))) 0) (sym local) (omega (arith, above))

height_suc : (W : ℕ → List ℕ) (L : ℕ → Bool) (n m at : ℕ) → suc m ≤ height W L (suc n) at → (L at ≡ true) × (m ≤ highest (height W L n) (W at))
unfolding height
height_suc W L n m at h = elim (true_or_false (L at)) [
  | inl t ↦
      let now : suc m ≤ suc (highest (height W L n) (W at)) = subst (λ b. suc m ≤ cond b (suc (highest (height W L n) (W at))) 0) t h in
      (t, omega (arith, now))
  | inr f ↦
      let now : suc m ≤ 0 = subst (λ b. suc m ≤ cond b (suc (highest (height W L n) (W at))) 0) f h in
      absurd (omega (arith, now))
]

height_zero : (W : ℕ → List ℕ) (L : ℕ → Bool) (at m : ℕ) → suc m ≤ height W L zero at → ⊥
unfolding height
height_zero W L at m h = omega (arith, h)

height_line : (W : ℕ → List ℕ) (L : ℕ → Bool) (n at : ℕ) → L at ≡ true → 0 < height W L (suc n) at
unfolding height
height_line W L n at local = subst (λ b. 0 < cond b (suc (highest (height W L n) (W at))) 0) (sym local) (omega arith)

-- what grows at a count is as high
height_grows : (W : ℕ → List ℕ) (L : ℕ → Bool) (n at : ℕ) → height W L n at < height W L (suc n) at → n < height W L (suc n) at
height_grows W L zero at h = omega (arith, h)
height_grows W L (suc n) at h =
    let one : suc (height W L (suc n) at) ≤ height W L (suc (suc n)) at = omega (arith, h) in
    let s = height_suc W L (suc n) (height W L (suc n) at) at one in
    let high = s.1 in
    elim (highest_at (height W L (suc n)) (W at)) [
      | inl e ↦
          let line = height_line W L n at s.0 in
          absurd (omega (arith, high, e, line))
      | inr k ↦
          let up = height_way W L (suc n) at k.0 s.0 k.1 in
          let below = height_way W L n at k.0 s.0 k.1 in
          let most = k.2 in
          let way = height_grows W L n k.0 (omega (arith, high, most, below)) in
          omega (arith, way, up)
    ]

-- ---- lines of a draft

unfoldable pub is_local_form : LineForm → Bool
is_local_form (Accessing a) = false
is_local_form (Ending answer) = false
is_local_form other = true

unfoldable pub local_where : Option PlacedLine → Bool
local_where None = false
local_where (Some line) = is_local_form line.form

-- a local line leads somewhere
local_leads : (least next : ℕ) (form : LineForm) → is_local_form form ≡ true → (w : ℕ) × (leads_to (forward_ways least next form) w ≡ true)
unfolding is_local_form
local_leads least next (Accessing a) h = absurd (false≢true h)
local_leads least next (Assigning name value) h = (next, or_left (eqb next next) false (eq-eqb next next refl))
local_leads least next (SettingRow row elements value) h = (next, or_left (eqb next next) false (eq-eqb next next refl))
local_leads least next (Noting deed) h = (next, or_left (eqb next next) false (eq-eqb next next refl))
local_leads least next (Going place) h = (place, or_left (eqb place place) false (eq-eqb place place refl))
local_leads least next (Branching condition otherwise) h = (next, or_left (eqb next next) (eqb otherwise next || false) (eq-eqb next next refl))
local_leads least next (Beginning name members after) h = elim (true_or_false (loop_has_round least members)) [
  | inl t ↦ (next, ap (λ b. leads_to (cond b (next ∷ []) (next ∷ (after ∷ []))) next) t ∙ or_left (eqb next next) false (eq-eqb next next refl))
  | inr f ↦ (next, ap (λ b. leads_to (cond b (next ∷ []) (next ∷ (after ∷ []))) next) f ∙ or_left (eqb next next) (eqb after next || false) (eq-eqb next next refl))
]
local_leads least next (Repeating name members body) h = (next, or_left (eqb next next) false (eq-eqb next next refl))
local_leads least next (Ending answer) h = absurd (false≢true h)

pub local_silent : (form : LineForm) → is_local_form form ≡ true → is_access form ≡ false
unfolding is_local_form
local_silent (Accessing a) h = absurd (false≢true h)
local_silent (Assigning name value) h = refl
local_silent (SettingRow row elements value) h = refl
local_silent (Noting deed) h = refl
local_silent (Going place) h = refl
local_silent (Branching condition otherwise) h = refl
local_silent (Beginning name members after) h = refl
local_silent (Repeating name members body) h = refl
local_silent (Ending answer) h = refl

where_leads : (least at : ℕ) (o : Option PlacedLine) → local_where o ≡ true → (w : ℕ) × (leads_to (ways_after least Forward at o) w ≡ true)
unfolding local_where
where_leads least at None h = absurd (false≢true h)
where_leads least at (Some line) h =
    let l = local_leads least (at + 1) line.form h in
    (l.0, ap (λ b. leads_to (cond (not b) (forward_ways least (at + 1) line.form) []) l.0) (local_silent line.form h) ∙ l.1)

-- where the lines of a draft that are no accesses lead within a round of each loop
unfoldable pub draft_ways : Drafted → ℕ → List ℕ
draft_ways d at = ways_after d.head.least Forward at (slice_get d.lines at)

unfoldable pub draft_local : Drafted → ℕ → Bool
draft_local d at = local_where (slice_get d.lines at)

-- from a place a run goes on over that many local lines
record GoesOn (d : Drafted) (call : CallRead) (m at : ℕ) : Type 0 where
  reached : IsPlaceReached d call at
  count : ℕ
  high : m ≤ height (draft_ways d) (draft_local d) count at

pub line_within : (d : Drafted) (call : CallRead) (at : ℕ) → is_line_in d call at ≡ true → (is_within (call.«from», call.to) at ≡ true) × (at < length d.lines)
line_within d call at h =
    let k = both_true (is_within (call.«from», call.to) at) (ltb at (length d.lines)) h in
    (k.0, ltb-true at (length d.lines) k.1)

-- a way of a local line that is reached
local_way : (d : Drafted) (call : CallRead) → RunsStay d call → (at w : ℕ) → IsPlaceReached d call at → draft_local d at ≡ true → leads_to (draft_ways d at) w ≡ true
    → (leads_to (ways_from d call Forward at) w ≡ true) × IsPlaceReached d call w
unfolding draft_ways draft_local
local_way d call stays at w reached local leads =
    let line = line_within d call at (stays at reached) in
    let way = way_out d call Forward at w line.0 leads in
    (way, comes_on d call All (λ first. first ≡ call.«from») at w reached (forward_way d call at w way).0)

leads_somewhere : (d : Drafted) (at : ℕ) → draft_local d at ≡ true → (w : ℕ) × (leads_to (draft_ways d at) w ≡ true)
unfolding draft_ways draft_local
leads_somewhere d at h = where_leads d.head.least at (slice_get d.lines at) h

goes_next : (d : Drafted) (call : CallRead) → RunsStay d call → (m at : ℕ) → (reached : IsPlaceReached d call at) → (n : ℕ) → suc m ≤ height (draft_ways d) (draft_local d) n at
    → (w : ℕ) × (leads_to (ways_from d call Forward at) w ≡ true) × GoesOn d call m w
goes_next d call stays m at reached zero h = absurd (height_zero (draft_ways d) (draft_local d) at m h)
goes_next d call stays m at reached (suc n) h =
    let s = height_suc (draft_ways d) (draft_local d) n m at h in
    let high = s.1 in
    elim (highest_at (height (draft_ways d) (draft_local d) n) (draft_ways d at)) [
      | inl e ↦
          let l = leads_somewhere d at s.0 in
          let r = local_way d call stays at l.0 reached s.0 l.1 in
          (l.0, r.0, record { reached = r.1; count = n; high = omega (arith, high, e) })
      | inr k ↦
          let r = local_way d call stays at k.0 reached s.0 k.1 in
          let most = k.2 in
          (k.0, r.0, record { reached = r.1; count = n; high = omega (arith, high, most) })
    ]

-- no run goes on over as many local lines as there are
none_goes_on : (d : Drafted) (call : CallRead) → RunsStay d call → NoneReturns d call → (at : ℕ) → IsPlaceReached d call at → (n : ℕ)
    → length d.lines ≤ height (draft_ways d) (draft_local d) n at → ⊥
none_goes_on d call stays returns at reached n high =
    let r = round_of d call (length d.lines) (GoesOn d call) (λ m x g. (line_within d call x (stays x g.reached)).1)
    (λ m x g. goes_next d call stays m x g.reached g.count g.high) (length d.lines) at (omega arith)
    (record { reached = reached; count = n; high = high }) in
    returns r.1 r.2.reached r.3

-- ---- ranks

unfoldable pub rank_at : Drafted → ℕ → ℕ
rank_at d at = height (draft_ways d) (draft_local d) (length d.lines) at

-- ranks of the lines of a draft
unfoldable pub draft_ranks : Drafted → List ℕ
draft_ranks d = map (rank_at d) (range_with_len 0 (length d.lines))

pub rank_is : (d : Drafted) (at : ℕ) → at < length d.lines → get_or (draft_ranks d) at 0 ≡ rank_at d at
unfolding draft_ranks
rank_is d at h = get_or-map-range_with_len (rank_at d) 0 (length d.lines) at at 0 h (omega arith)

-- a way of a local line that is reached has a lower rank
pub rank_falls : (d : Drafted) (call : CallRead) → RunsStay d call → NoneReturns d call → (at w : ℕ) → IsPlaceReached d call at → draft_local d at ≡ true
    → leads_to (draft_ways d at) w ≡ true → rank_at d w < rank_at d at
unfolding rank_at
rank_falls d call stays returns at w reached local leads =
    let N = length d.lines in
    let below = height_way (draft_ways d) (draft_local d) N at w local leads in
    elim (true_or_false (ltb (height (draft_ways d) (draft_local d) N at) (height (draft_ways d) (draft_local d) (suc N) at))) [
      | inl t ↦
          let grows = height_grows (draft_ways d) (draft_local d) N at (ltb-true (height (draft_ways d) (draft_local d) N at) (height (draft_ways d) (draft_local d) (suc N) at) t) in
          absurd (none_goes_on d call stays returns at reached (suc N) (omega (arith, grows)))
      | inr f ↦
          let same = ltb-false (height (draft_ways d) (draft_local d) N at) (height (draft_ways d) (draft_local d) (suc N) at) f in
          omega (arith, below, same)
    ]

pub rank_few : (d : Drafted) (call : CallRead) → RunsStay d call → NoneReturns d call → (at : ℕ) → IsPlaceReached d call at → rank_at d at < length d.lines
unfolding rank_at
rank_few d call stays returns at reached = elim (true_or_false (ltb (height (draft_ways d) (draft_local d) (length d.lines) at) (length d.lines))) [
  | inl t ↦ ltb-true (height (draft_ways d) (draft_local d) (length d.lines) at) (length d.lines) t
  | inr f ↦ absurd (none_goes_on d call stays returns at reached (length d.lines)
      (ltb-false (height (draft_ways d) (draft_local d) (length d.lines) at) (length d.lines) f))
]
