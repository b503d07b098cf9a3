-- The command at which `clap` stops is one of the table. It answers the word `help` itself.
use Rattle.std.proofs.Common.{◌≡◌, ◌∙◌, ◌||◌, ◌&&◌, ℕ, Bool, true, false, cond, not, List, [], ◌∷◌, ◌++◌, Option, Some, None, refl, sym, ap, subst, codes, fold, find, option_map, unwrap_or, is_some, true≢false}
use Rattle.std.specs.List.{list_any, list_all}
use Rattle.std.specs.Str.{bytes_eq}
use Rattle.std.proofs.lemmas.List.Folds.{list_any-append}
use Rattle.std.proofs.lemmas.Slice.Eq.{bytes_eq-Decides}
use Rattle.clap.specs.Lexer.{long_of, short_of}
use Rattle.clap.specs.Kinds.{Kinds, or_else}
use Rattle.clap.specs.Simple.{Shape, label_of, entered, rows_at, names_of, built, argument_words, subcommand_of, help_shape}
use Rattle.clap.specs.Faults.{fault_of, other_fault, turn_fault, walk_fault, word_fault, step_fault, level_fault, entered_fault, settle_fault, defaults_fault, check_fault}
use Rattle.clap.specs.Walk.{Rule, Text, Row, Held, Names, Walk, Waiting, idle, option, positional, Outcome, done, waits, plain, refused, Step, next, trailing, subcommand, value}
use Rattle.clap.specs.Walk.{walked, walk, walk_from, nothing_held, stop_after, plain_word, after_flag, long_met, bundle, long_or_other, short_or_plain, subcommand_or_other, word_met, subcommand_met, after_step, to_positional, walked_from, arg_by_long, arg_by_index, answers_to, is_empty, settled, finished}
use Rattle.clap.specs.declared.error.kind.ErrorKind.TheVariants.{DisplayHelp, InvalidSubcommand}
use Rattle.clap.proofs.WalkLemmas.{both}
use Rattle.clap.proofs.SimpleLemmas.{is_nil}
use Rattle.cli.specs.CommandLine.{rmelab}
use Rattle.cli.specs.ReadWords.{IsName}
use Rattle.cli.proofs.Texts.{differ, is_other}

abbrev option_name : Text → Option (Text × List Text) → Text
option_name name None = name
option_name name (Some p) = p.0

alone : (b : Bool) → (b || false) ≡ true → b ≡ true
alone true e = refl
alone false e = e

or_true : (b : Bool) → (b || true) ≡ true
or_true true = refl
or_true false = refl

or_else_nil : (a b : Kinds) → or_else a b ≡ [] → (a ≡ []) × (b ≡ [])
or_else_nil [] b e = (refl, e)
or_else_nil (k ∷ ks) b e = cc

-- ---- one word

abbrev is_stop : Step → Bool
is_stop (next waiting) = false
is_stop (trailing position) = false
is_stop (subcommand name) = true
is_stop value = false

plain_goes_on : (c : List Rule) (waiting : Waiting) (word : Text) (h : Held) → is_stop (plain_word c waiting word h).1 ≡ false
plain_goes_on c idle word h = refl
plain_goes_on c (option id) word h = refl
plain_goes_on c positional word h = refl

flag_goes_on : (c : List Rule) (waiting : Waiting) (word : Text) (h : Held) (o : Outcome) → is_stop (after_flag c waiting word h o).1 ≡ false
flag_goes_on c waiting word h done = refl
flag_goes_on c waiting word h (waits id) = refl
flag_goes_on c waiting word h plain = plain_goes_on c waiting word h
flag_goes_on c waiting word h refused = plain_goes_on c waiting word h

short_goes_on : (c : List Rule) (waiting : Waiting) (word : Text) (short : Option Text) (h : Held) → is_stop (short_or_plain c waiting word short h).1 ≡ false
short_goes_on c waiting word (Some flags) h = flag_goes_on c waiting word (bundle c flags h).0 (bundle c flags h).1
short_goes_on c waiting word None h = plain_goes_on c waiting word h

long_goes_on : (c : List Rule) (waiting : Waiting) (word : Text) (long : Option (Text × Option Text)) (h : Held) → is_stop (long_or_other c waiting word long h).1 ≡ false
long_goes_on c waiting word (Some p) h = flag_goes_on c waiting word (long_met c (arg_by_long c p.0) p.1 h).0 (long_met c (arg_by_long c p.0) p.1 h).1
long_goes_on c waiting word None h = short_goes_on c waiting word (short_of word) h

-- a word is a command only where it names one
met_by_name : (c : List Rule) (waiting : Waiting) (position : ℕ) (word : Text) (h : Held) (n : Text) (met : Option Text)
    → (subcommand_or_other c met waiting position word h).1 ≡ subcommand n → met ≡ Some n
met_by_name c waiting position word h n (Some m) e = cc
met_by_name c waiting position word h n None e = go (bytes_eq word (45 ∷ 45 ∷ [])) e
  where
    go : (b : Bool) → (cond b (h, trailing position) (long_or_other c waiting word (long_of word) h)).1 ≡ subcommand n → None ≡ Some n
    go true e = cc
    go false e = absurd (true≢false (sym (ap is_stop e) ∙ long_goes_on c waiting word (long_of word) h))

met_is : (c : List Rule) (names : Names) (is_trailing : Bool) (waiting : Waiting) (position : ℕ) (word : Text) (h : Held) (n : Text)
    → (word_met c names is_trailing waiting position word h).1 ≡ subcommand n → (is_trailing ≡ false) × (subcommand_met names waiting word ≡ Some n)
met_is c names true waiting position word h n e = cc
met_is c names false waiting position word h n e = (refl, met_by_name c waiting position word h n (subcommand_met names waiting word) e)

value_stays : (c : List Rule) (a : Option Rule) (word : Text) (w : Walk) (h : Held) → w.stopped ≡ None → (to_positional c a word w h).stopped ≡ None
value_stays c None word w h is = is
value_stays c (Some a) word w h is = refl

step_stops : (c : List Rule) (word : Text) (w : Walk) (h : Held) (step : Step) (q : Text × List Text) → w.stopped ≡ None
    → (after_step c word w h step).stopped ≡ Some q → step ≡ subcommand q.0
step_stops c word w h (next waiting) q none e = cc
step_stops c word w h (trailing position) q none e = cc
step_stops c word w h (subcommand name) q none e = ap (λ (o : Option (Text × List Text)). subcommand (option_name name o)) e
step_stops c word w h value q none e = let at = value_stays c (arg_by_index c w.position) word w h none in cc

-- ---- the walk

module _ (s : Shape) (names : Names) (enabled : s.disable_help_subcommand ≡ false) where
  other_than_help : (n word : Text) (h : Held) → other_fault s (Some n) word h ≡ [] → bytes_eq n (codes "help") ≡ false
  other_than_help n word h e =
      go (bytes_eq n (codes "help"))
      (subst (λ (b : Bool). cond (bytes_eq n (codes "help") && not b) (DisplayHelp ∷ InvalidSubcommand ∷ []) [] ≡ []) enabled e)
    where
      go : (b : Bool) → cond (b && true) (DisplayHelp ∷ InvalidSubcommand ∷ []) [] ≡ [] → b ≡ false
      go true e = cc
      go false e = refl

  turn_stops : (w : Walk) (word : Text) (q : Text × List Text) → w.stopped ≡ None → turn_fault s names w word ≡ []
      → (walked s.rules names w word).stopped ≡ Some q → bytes_eq q.0 (codes "help") ≡ false
  unfolding walked
  turn_stops w word q none fine stops =
      let met = word_met s.rules names w.is_trailing w.waiting w.position word w.held in
      let here : (after_step s.rules word w met.0 met.1).stopped ≡ Some q = ap (λ o. (walked_from s.rules names o w word).stopped) (sym none) ∙ stops in
      let named = met_is s.rules names w.is_trailing w.waiting w.position word w.held q.0 (step_stops s.rules word w met.0 met.1 q none here) in
      let parts : or_else (word_fault s names w.is_trailing w.waiting word w.held) (step_fault s w.position met.0 met.1) ≡ [] =
      subst (λ (o : Option (Text × List Text)). cond (is_some o) [] (or_else (word_fault s names w.is_trailing w.waiting word w.held) (step_fault s w.position met.0 met.1)) ≡ []) none fine in
      let own = (or_else_nil (word_fault s names w.is_trailing w.waiting word w.held) (step_fault s w.position met.0 met.1) parts).0 in
      let other : other_fault s (subcommand_met names w.waiting word) word w.held ≡ [] =
      subst (λ (b : Bool). cond b [] (other_fault s (subcommand_met names w.waiting word) word w.held) ≡ []) named.0 own in
      other_than_help q.0 word w.held (subst (λ (o : Option Text). other_fault s o word w.held ≡ []) named.1 other)

  name_stays : (words : List Text) (w : Walk) (q p : Text × List Text) → w.stopped ≡ Some q → (fold (walked s.rules names) w words).stopped ≡ Some p → q.0 ≡ p.0
  unfolding walked
  name_stays [] w q p is e = ap (λ (o : Option (Text × List Text)). option_name q.0 o) (sym is ∙ e)
  name_stays (x ∷ xs) w q p is e = name_stays xs (walked s.rules names w x) (q.0, q.1 ++ x ∷ []) p (ap (λ o. (walked_from s.rules names o w x).stopped) is) e

  pub never_help : (words : List Text) (w : Walk) (p : Text × List Text) → w.stopped ≡ None → walk_fault s names w words ≡ []
      → (fold (walked s.rules names) w words).stopped ≡ Some p → bytes_eq p.0 (codes "help") ≡ false
  unfolding walk_fault
  never_help [] w p none fine e = cc
  never_help (x ∷ xs) w p none fine e =
      let parts = or_else_nil (turn_fault s names w x) (walk_fault s names (walked s.rules names w x) xs) fine in
      go (walked s.rules names w x).stopped refl parts.0 (λ goes_on. never_help xs (walked s.rules names w x) p goes_on parts.1 e)
    where
      go : (o : Option (Text × List Text)) → (walked s.rules names w x).stopped ≡ o → turn_fault s names w x ≡ []
          → ((walked s.rules names w x).stopped ≡ None → bytes_eq p.0 (codes "help") ≡ false) → bytes_eq p.0 (codes "help") ≡ false
      go None is turn rest = rest is
      go (Some q) is turn rest = subst (λ (n : Text). bytes_eq n (codes "help") ≡ false) (name_stays xs (walked s.rules names w x) q p is e) (turn_stops w x q none turn is)

-- ---- the command that is entered

found : (word : Text) (subs : List Shape) (s : Shape) → list_all (λ (x : Shape). is_empty x.aliases) subs ≡ true
    → find (λ (x : Shape). answers_to word (label_of x)) subs ≡ Some s
    → (bytes_eq s.name word ≡ true) × (list_any (λ (x : Shape). bytes_eq x.name s.name) subs ≡ true)
found word [] s bare at = cc
found word (x ∷ xs) s bare at =
    let parts = both _ _ bare in
    go (answers_to word (label_of x)) refl at parts.0 (λ later. found word xs s parts.1 later)
  where
    go : (b : Bool) → answers_to word (label_of x) ≡ b → cond b (Some x) (find (λ (y : Shape). answers_to word (label_of y)) xs) ≡ Some s
        → is_empty x.aliases ≡ true
        → (find (λ (y : Shape). answers_to word (label_of y)) xs ≡ Some s → (bytes_eq s.name word ≡ true) × (list_any (λ (y : Shape). bytes_eq y.name s.name) xs ≡ true))
        → (bytes_eq s.name word ≡ true) × (list_any (λ (y : Shape). bytes_eq y.name s.name) (x ∷ xs) ≡ true)
    go true is first none later =
        let here : x ≡ s = ap (λ (o : Option Shape). unwrap_or o x) first in
        let own : bytes_eq x.name word ≡ true = alone (bytes_eq x.name word)
        (subst (λ (l : List Text). (bytes_eq x.name word || list_any (λ alias. bytes_eq alias word) l) ≡ true) (is_nil x.aliases none) is) in
        let name : x.name ≡ s.name = ap (λ (y : Shape). y.name) here in
        let same : bytes_eq x.name s.name ≡ true = (bytes_eq-Decides x.name s.name).1 name in
        (subst (λ (n : Text). bytes_eq n word ≡ true) name own, ap (λ b. b || list_any (λ (y : Shape). bytes_eq y.name s.name) xs) same)
    go false is first none later =
        let rest = later first in
        (rest.0, ap (λ b. bytes_eq x.name s.name || b) rest.1 ∙ or_true (bytes_eq x.name s.name))

before_help : (name : Text) → bytes_eq name (codes "help") ≡ false → (list_any (λ (x : Shape). bytes_eq x.name name) rmelab.subs || (bytes_eq (codes "help") name || false)) ≡ true → IsName name
before_help name other among =
    let back : bytes_eq (codes "help") name ≡ false = is_other (codes "help") name (λ e. differ name (codes "help") other (sym e)) in
    alone (list_any (λ (x : Shape). bytes_eq x.name name) rmelab.subs) (subst (λ (b : Bool). (list_any (λ (x : Shape). bytes_eq x.name name) rmelab.subs || (b || false)) ≡ true) back among)

-- the command that is entered is one of the table
entered_name : (words : List Text) (stop : Option (Text × List Text)) (command : Text × List Row) → entered (built rmelab) stop ≡ Some command
    → ((p : Text × List Text) → stop ≡ Some p → bytes_eq p.0 (codes "help") ≡ false) → IsName command.0
entered_name words None command at other = cc
entered_name words (Some p) command at other = go (find (λ (s : Shape). answers_to p.0 (label_of s)) (built rmelab).subs) refl at
  where
    go : (o : Option Shape) → find (λ (s : Shape). answers_to p.0 (label_of s)) (built rmelab).subs ≡ o
        → option_map (λ s. rows_at s p.1) o ≡ Some command → IsName command.0
    go None is e = cc
    go (Some s) is e =
        let here = found p.0 (built rmelab).subs s refl is in
        let name : s.name ≡ command.0 = ap (λ (o : Option (Text × List Row)). (unwrap_or o (s.name, [])).0) e in
        let one : p.0 ≡ s.name = sym ((bytes_eq-Decides s.name p.0).0 here.0) in
        let not_help : bytes_eq s.name (codes "help") ≡ false = subst (λ (n : Text). bytes_eq n (codes "help") ≡ false) one (other p refl) in
        let among : (list_any (λ (x : Shape). bytes_eq x.name s.name) rmelab.subs || (bytes_eq (codes "help") s.name || false)) ≡ true =
        sym (list_any-append (λ (x : Shape). bytes_eq x.name s.name) rmelab.subs (help_shape ∷ [])) ∙ here.1 in
        subst IsName name (before_help s.name not_help among)

level_walks : (s : Shape) (names : Names) (h : Held) (words : List Text) (has : Bool) (below : Kinds) → level_fault s names h words has below ≡ []
    → walk_fault s names (walk_from h) words ≡ []
level_walks s names h words has below fine =
    let end = (walk s.rules names h words).held in
    (or_else_nil (walk_fault s names (walk_from h) words)
    (or_else below (or_else (settle_fault s.rules s.args_override_self end)
    (or_else (defaults_fault (settled s.rules end).rows s.rules) (check_fault s (finished s.rules end) has)))) fine).0

pub named : (words : List Text) (command : Text × List Row) → fault_of rmelab words ≡ [] → subcommand_of rmelab words ≡ Some command → IsName command.0
named words command fine at =
    let app = built rmelab in
    let rest = argument_words rmelab words in
    let stop = stop_after app.top.rules (names_of app) rest in
    let walks : walk_fault app.top (names_of app) (walk_from nothing_held) rest ≡ [] =
    level_walks app.top (names_of app) nothing_held rest (is_some (entered app stop)) (entered_fault app stop) fine in
    entered_name words stop command at
    (λ p here. never_help app.top (names_of app) refl rest (walk_from nothing_held) p refl walks here)
