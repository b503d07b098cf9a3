-- A tally grows by one number of its sender.
use Rattle.std.proofs.Common.{arith, ◌≡◌, ℕ, ◌+◌, ◌-◌, ◌<◌, ◌≤◌, Bool, true, false, ◌||◌, ◌&&◌, get_or, List, [], ◌∷◌, ◌++◌, nat_eq, length, length-append, set, append-nil, map, refl, sym, ap, suc, zero, Result, All, ◌∙◌, subst, inl, inr}
use Rattle.std.specs.Prelude.{leb, if◌then◌else◌}
use Rattle.std.specs.List.{list_any, range_with_len}
use Rattle.std.proofs.lemmas.List.Folds.{list_any-append}
use Rattle.std.proofs.lemmas.List.Elements.{filter-append, All-map}
use Rattle.std.proofs.lemmas.List.{map-append, length-set, get_or-set_same, get_or-set_other, ext_get_or}
use Rattle.std.proofs.lemmas.List.FromFn.{length-map-range_with_len, get_or-map-range_with_len, map-range_with_len_more}
use Rattle.std.proofs.lemmas.Bool.{eq-eqb}
use Rattle.std.proofs.lemmas.Bool.Decides.{eqb_tells}
use Rattle.schedule.specs.Tapes.{Tape}
use Rattle.lock_commands.specs.Ends.{TellsTallies}
use Rattle.command_parts.specs.declared.ending.Ending.{Ending}
use Rattle.command_parts.specs.declared.fault.CommandFault.{CommandFault}
use Rattle.command_parts.specs.Endings.{Prints}
use Rattle.table_runs.specs.Lab.{AreAllSent, messages_sent, message_sent}
use Rattle.table_runs.specs.declared.lab.spec.Spec.{Spec}
use Rattle.redomail.specs.declared.message.Message.{Message}
use Rattle.lock_commands.specs.declared.tally.SenderTally.{SenderTally}
use Rattle.redomail.specs.Mailbox.{is_by}
use Rattle.lock_commands.specs.Tallies.{numbers_by, repeats, last_number, never_fall, tally_of, tallies_by, tallies_sent, with_number, IsFine, tallies_text}

pub last_of_more : (ns : List ℕ) (n : ℕ) → last_number (ns ++ n ∷ []) ≡ n
unfolding last_number
last_of_more [] n = refl
last_of_more (m ∷ []) n = refl
last_of_more (m ∷ k ∷ ns) n = last_of_more (k ∷ ns) n

pub order_of_more : (ns : List ℕ) (n : ℕ) → never_fall (ns ++ n ∷ []) ≡ (if never_fall ns then leb (last_number ns) n else false)
unfolding never_fall last_number
order_of_more [] n = grind arith
order_of_more (m ∷ []) n = grind arith
order_of_more (m ∷ k ∷ ns) n = let more = order_of_more (k ∷ ns) n in grind (arith, more)

any_of_more : (ns : List ℕ) (m n : ℕ) → list_any (nat_eq m) (ns ++ n ∷ []) ≡ (list_any (nat_eq m) ns || nat_eq m n)
any_of_more ns m n = grind (arith, list_any-append)

pub repeats_of_more : (ns : List ℕ) (n : ℕ) → repeats (ns ++ n ∷ []) ≡ repeats ns + (if list_any (nat_eq n) ns then 1 else 0)
unfolding repeats
repeats_of_more [] n = refl
repeats_of_more (m ∷ ns) n = let more = repeats_of_more ns n in grind (arith, more, any_of_more)

pub tally_of_more : (p : ℕ) (ns : List ℕ) (n : ℕ) → with_number (tally_of p ns) n (list_any (nat_eq n) ns) ≡ tally_of p (ns ++ n ∷ [])
tally_of_more p ns n = grind (arith, last_of_more, order_of_more, repeats_of_more, length-append)

-- either way round
is_by_number : (p : ℕ) (m : Message) → is_by p m ≡ nat_eq p m.sender
is_by_number p m = elim (eqb_tells p m.sender) [
  | inl same ↦ eq-eqb m.sender p (sym same.1) ∙ sym same.0
  | inr other ↦ elim (eqb_tells m.sender p) [
    | inl also ↦ absurd (other.1 (sym also.1))
    | inr not_so ↦ not_so.0 ∙ sym other.0
  ]
]

numbers_by_more : (p : ℕ) (ms : List Message) (m : Message) → numbers_by p (ms ++ m ∷ []) ≡ numbers_by p ms ++ (if is_by p m then m.seq ∷ [] else [])
numbers_by_more p ms m = grind (arith, filter-append, map-append)

pub numbers_of_more : (p : ℕ) (ms : List Message) (m : Message) → numbers_by p (ms ++ m ∷ []) ≡ numbers_by p ms ++ (if nat_eq p m.sender then m.seq ∷ [] else [])
numbers_of_more p ms m = numbers_by_more p ms m ∙ ap (λ b. numbers_by p ms ++ (if b then m.seq ∷ [] else [])) (is_by_number p m)

-- whether a pair is of this sender and number
abbrev pub is_pair : ℕ × ℕ → ℕ × ℕ → Bool
is_pair x y = nat_eq x.0 y.0 && nat_eq x.1 y.1

-- the messages so far are counted, and their senders and numbers are kept
pub record AreCounted (procs : ℕ) (ms : List Message) (tallies : List SenderTally) (met : List (ℕ × ℕ)) : Type 0 where
  pub size : length tallies ≡ procs
  pub each : (p : ℕ) → p < procs → get_or tallies p (tally_of 0 []) ≡ tally_of p (numbers_by p ms)
  pub pairs : (p n : ℕ) → list_any (is_pair (p, n)) met ≡ list_any (nat_eq n) (numbers_by p ms)

no_any : {X : Type 0} (p : X → Bool) (xs : List X) → length xs ≡ 0 → list_any p xs ≡ false
no_any p [] none = refl
no_any p (x ∷ xs) none = grind (arith, none)

pub counted_none : (procs : ℕ) (tallies : List SenderTally) (met : List (ℕ × ℕ)) → tallies ≡ tallies_by procs [] → length met ≡ 0 → AreCounted procs [] tallies met
counted_none procs tallies met are none =
    record {
      size = ap length are ∙ length-map-range_with_len (λ p. tally_of p []) 0 procs;
      each = λ p below. ap (λ ts. get_or ts p (tally_of 0 [])) are ∙ get_or-map-range_with_len (λ q. tally_of q []) 0 procs p p (tally_of 0 []) below (omega arith);
      pairs = λ p n. no_any (is_pair (p, n)) met none;
    }

pub one_sender_more : (n : ℕ) → tallies_by (n + 1) [] ≡ tallies_by n [] ++ tally_of n [] ∷ []
one_sender_more n = map-range_with_len_more (λ p. tally_of p []) 0 n n (omega arith)

-- what is counted in the end
pub counted_all : (procs : ℕ) (ms : List Message) (tallies : List SenderTally) (met : List (ℕ × ℕ)) → AreCounted procs ms tallies met → tallies ≡ tallies_by procs ms
counted_all procs ms tallies met counted =
    ext_get_or (tally_of 0 []) tallies (tallies_by procs ms) (counted.size ∙ sym (length-map-range_with_len (λ p. tally_of p (numbers_by p ms)) 0 procs))
    (λ p below. let within = subst (λ n. p < n) counted.size below in
    counted.each p within ∙ sym (get_or-map-range_with_len (λ q. tally_of q (numbers_by q ms)) 0 procs p p (tally_of 0 []) within (omega arith)))

any_where : (n q : ℕ) (b : Bool) (ns : List ℕ) → list_any (nat_eq n) (ns ++ (if b then q ∷ [] else [])) ≡ (list_any (nat_eq n) ns || (b && nat_eq n q))
any_where n q true ns = grind (arith, list_any-append)
any_where n q false ns = grind (arith, list_any-append, append-nil)

-- the keys after one more pair
abbrev pub with_pair : List (ℕ × ℕ) → ℕ × ℕ → List (ℕ × ℕ)
with_pair met x = if list_any (is_pair x) met then met else met ++ x ∷ []

is_same : (x y : ℕ × ℕ) → is_pair x y ≡ true → x ≡ y
is_same (a, b) (c, d) same = let first : a ≡ c = grind (arith, same) in let second : b ≡ d = grind (arith, same) in rw (first, second) refl

any_with : (x y : ℕ × ℕ) (met : List (ℕ × ℕ)) → list_any (is_pair x) (with_pair met y) ≡ (list_any (is_pair x) met || is_pair x y)
any_with x y met = grind (arith, list_any-append, is_same)

module _ (procs : ℕ) (ms : List Message) (tallies : List SenderTally) (met : List (ℕ × ℕ)) (counted : AreCounted procs ms tallies met) (m : Message) (again : Bool) (before : again ≡ list_any (is_pair (m.sender, m.seq)) met) where
  abbrev pub new : SenderTally
  new = with_number (get_or tallies m.sender (tally_of 0 [])) m.seq again

  of_sender : m.sender < procs → new ≡ tally_of m.sender (numbers_by m.sender (ms ++ m ∷ []))
  of_sender below = let each = counted.each m.sender below in let pairs = counted.pairs m.sender m.seq in let more = numbers_of_more m.sender ms m in let grown = tally_of_more m.sender (numbers_by m.sender ms) m.seq in
      ap (λ t. with_number t m.seq again) each
      ∙ ap (with_number (tally_of m.sender (numbers_by m.sender ms)) m.seq) (before ∙ pairs)
      ∙ grown
      ∙ sym (ap (tally_of m.sender) (more ∙ ap (λ b. numbers_by m.sender ms ++ (if b then m.seq ∷ [] else [])) (eq-eqb m.sender m.sender refl)))

  each_more : (p : ℕ) → p < procs → get_or (set tallies m.sender new) p (tally_of 0 []) ≡ tally_of p (numbers_by p (ms ++ m ∷ []))
  each_more p below = elim (eqb_tells p m.sender) [
    | inl same ↦ subst (λ q. q < procs → get_or (set tallies m.sender new) q (tally_of 0 []) ≡ tally_of q (numbers_by q (ms ++ m ∷ []))) (sym same.1)
        (λ within. get_or-set_same tallies m.sender new (tally_of 0 []) (subst (λ n. m.sender < n) (sym counted.size) within) ∙ of_sender within) below
    | inr other ↦ get_or-set_other tallies m.sender p new (tally_of 0 []) other.1
        ∙ counted.each p below
        ∙ sym (ap (tally_of p) (numbers_of_more p ms m ∙ ap (λ b. numbers_by p ms ++ (if b then m.seq ∷ [] else [])) other.0 ∙ append-nil (numbers_by p ms)))
  ]

  pub counted_more : AreCounted procs (ms ++ m ∷ []) (set tallies m.sender new) (with_pair met (m.sender, m.seq))
  counted_more = record { size = length-set tallies m.sender new ∙ counted.size; each = each_more; pairs = λ p n. any_with (p, n) (m.sender, m.seq) met ∙ ap (λ b. b || is_pair (p, n) (m.sender, m.seq)) (counted.pairs p n) ∙ sym (ap (list_any (nat_eq n)) (numbers_of_more p ms m) ∙ any_where n m.seq (nat_eq p m.sender) (numbers_by p ms)) }

-- the tally of a sender whose messages are all there
abbrev pub fine : ℕ → ℕ → SenderTally
fine p most = record { sender = p; messages = most; twice = 0; last = most; ordered = true }

-- the numbers of a sender's first messages are those from 1 on, each once and in order
record AreFirst (most : ℕ) (numbers : List ℕ) : Type 0 where
  count : length numbers ≡ most
  once : repeats numbers ≡ 0
  ends : last_number numbers ≡ most
  rises : never_fall numbers ≡ true
  within : (n : ℕ) → most < n → list_any (nat_eq n) numbers ≡ false

first_more : (most : ℕ) (numbers : List ℕ) → AreFirst most numbers → AreFirst (suc most) (numbers ++ suc most ∷ [])
first_more most numbers first =
    record {
      count = length-append numbers (suc most ∷ []) ∙ grind (arith, first.count);
      once = repeats_of_more numbers (suc most) ∙ grind (arith, first.once, first.within);
      ends = last_of_more numbers (suc most);
      rises = order_of_more numbers (suc most) ∙ grind (arith, first.rises, first.ends);
      within = λ n more. any_of_more numbers n (suc most) ∙ grind (arith, first.within, more);
    }

are_first : (width p most : ℕ) → AreFirst most (map (λ m. m.seq) (messages_sent width p most))
unfolding repeats last_number never_fall
are_first width p zero = record { count = refl; once = refl; ends = refl; rises = refl; within = λ n more. refl }
are_first width p (suc most) =
    subst (AreFirst (suc most)) (sym (map-append (λ m. m.seq) (messages_sent width p most) (message_sent width p (suc most) ∷ []))) (first_more most _ (are_first width p most))

tally_of_sent : (width p most : ℕ) → most ≤ 4096 → tally_of p (map (λ m. m.seq) (messages_sent width p most)) ≡ record { sender = p; messages = most; twice = 0; last = most; ordered = true }
tally_of_sent width p most few = let first = are_first width p most in grind (arith, first.count, first.once, first.ends, first.rises, few)

-- where all messages were sent, each sender's tally is fine
pub tallies_of_sent : (s : Spec) (ms : List Message) → AreAllSent s ms → s.messages ≤ 4096 → tallies_by s.procs ms ≡ tallies_sent s.procs s.messages
tallies_of_sent s ms sent few =
    ext_get_or (tally_of 0 []) (tallies_by s.procs ms) (tallies_sent s.procs s.messages)
    (length-map-range_with_len (λ p. tally_of p (numbers_by p ms)) 0 s.procs ∙ sym (length-map-range_with_len (λ p. fine p s.messages) 0 s.procs))
    (λ p below. let within = subst (λ n. p < n) (length-map-range_with_len (λ p. tally_of p (numbers_by p ms)) 0 s.procs) below in
    get_or-map-range_with_len (λ q. tally_of q (numbers_by q ms)) 0 s.procs p p (tally_of 0 []) within (omega arith)
    ∙ ap (λ some. tally_of p (map (λ m. m.seq) some)) (sent.each p within)
    ∙ tally_of_sent s.width p s.messages few
    ∙ sym (get_or-map-range_with_len (λ q. fine q s.messages) 0 s.procs p p (tally_of 0 []) within (omega arith)))

-- all these are fine
pub sent_are_fine : (procs most : ℕ) → All IsFine (tallies_sent procs most)
sent_are_fine procs most = All-map IsFine (λ p. fine p most) (range_with_len 0 procs) (λ k d below. (refl, refl))

-- where these tallies are written, the status is 0
pub prints_sent : (procs most : ℕ) (tallies : List SenderTally) (before now : Tape) (end : Result Ending CommandFault)
    → tallies ≡ tallies_sent procs most → TellsTallies tallies before now end → Prints 0 (tallies_text (tallies_sent procs most)) before now end
prints_sent procs most tallies before now end are tells =
    subst (λ some. Prints 0 (tallies_text some) before now end) are
    (subst (λ status. Prints status (tallies_text tallies) before now end) (tells.fine.1 (subst (All IsFine) (sym are) (sent_are_fine procs most))) tells.prints)
