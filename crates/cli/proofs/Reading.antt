-- What the getters of `clap` read, by the rows.
use Rattle.std.proofs.Common.{◌≡◌, ◌∙◌, ℕ, Bool, true, false, cond, List, [], ◌∷◌, map, Option, Some, None, Result, Ok, Err, refl, sym, ap, arith, unwrap_or}
use Rattle.std.specs.Option.{option_map_or}
use Rattle.std.specs.List.{join_by, flat_map, list_all}
use Rattle.std.proofs.lemmas.List.Folds.{list_all-map}
use Rattle.std.specs.Str.{bytes_eq}
use Rattle.std.specs.Str.Parse.{ParsesUnsigned, ParsesBool, digits_value, without_leading_plus}
use Rattle.std.specs.Borrow.{Bor}
use Rattle.std.specs.Prelude.{codes, ◌++◌}
use Rattle.std.proofs.lemmas.Slice.Eq.{bytes_eq-Decides}
use Rattle.clap.specs.Words.{Text, ReadsOne}
use Rattle.clap.specs.ValueTests.{is_unsigned_in}
use Rattle.clap.specs.declared.builder.value_parser.ValueParser.TheVariants.{Unsigned}
use Rattle.clap.proofs.ValueTestLemmas.{accepts-Accepts, Accepts-accepts}
use Rattle.cli.specs.Given.{is_call, is_algorithm_call, number_in}
use Rattle.cli.proofs.Texts.{is_other}

pub flag_read : (E : Type 0) (o : Option Text) (r : Option Bool) → (o ≡ None → r ≡ None)
    → ((t : Text) → o ≡ Some t → ReadsOne (ParsesBool {E = E}) t r)
    → unwrap_or r false ≡ option_map_or (λ text. bytes_eq text (codes "true")) o false
flag_read E None r none some = ap (λ x. unwrap_or x false) (none refl)
flag_read E (Some t) None none some = sym (is_other t (codes "true") (some t refl).1.0)
flag_read E (Some t) (Some true) none some = sym ((bytes_eq-Decides t (codes "true")).1 (some t refl))
flag_read E (Some t) (Some false) none some = ap (λ (x : Text). bytes_eq x (codes "true")) (sym (some t refl))

pub number_read : {E : Type 0} (gives : Text → Result ℕ E → Type 0) → ((t : Text) (x : Result ℕ E) → gives t x → ParsesUnsigned 64 10 t x)
    → (without : ℕ) (o : Option Text) (r : Option ℕ) → (o ≡ None → r ≡ None) → ((t : Text) → o ≡ Some t → ReadsOne gives t r)
    → unwrap_or r without ≡ option_map_or (number_in without) o without
number_read gives only without None r none some = ap (λ x. unwrap_or x without) (none refl)
number_read gives only without (Some t) None none some = go (is_unsigned_in 0 18446744073709551615 t) refl
  where
    go : (b : Bool) → is_unsigned_in 0 18446744073709551615 t ≡ b → without ≡ number_in without t
    go true is =
        let accepted = accepts-Accepts false (Unsigned 0 18446744073709551615) t is in
        let read = some t refl in
        absurd (only t (Err read.0) read.1 (accepted.0, accepted.1))
    go false is = ap (λ (b : Bool). cond b (digits_value 10 (without_leading_plus t)) without) (sym is)
number_read gives only without (Some t) (Some n) none some =
    let read = only t (Ok n) (some t refl) in
    let bound = read.0.1 in
    let accepted = Accepts-accepts false (Unsigned 0 18446744073709551615) t (read.0.0, bound, omega arith, omega arith) in
    read.1 ∙ ap (λ (b : Bool). cond b (digits_value 10 (without_leading_plus t)) without) (sym accepted)

-- the texts of references, joined
joined_on : (separator : Text) (words : List (Bor Text)) → flat_map (λ word. separator ++ word.now) words ≡ flat_map (λ word. separator ++ word) (map (λ word. word.now) words)
joined_on separator [] = refl
joined_on separator (word ∷ words) = ap (λ rest. (separator ++ word.now) ++ rest) (joined_on separator words)

pub joined : (separator : Text) (words : List (Bor Text)) → join_by (λ word. word.now) separator words ≡ join_by (λ word. word) separator (map (λ word. word.now) words)
joined separator [] = refl
joined separator (word ∷ words) = ap (λ rest. word.now ++ rest) (joined_on separator words)

-- a list of calls, as references and as texts
pub all_calls : (calls : List (Bor Text)) → list_all is_call (map (λ call. call.now) calls) ≡ list_all (λ call. is_call call.now) calls
all_calls calls = list_all-map is_call (λ (call : Bor Text). call.now) calls

pub all_algorithm_calls : (calls : List (Bor Text)) → list_all is_algorithm_call (map (λ call. call.now) calls) ≡ list_all (λ call. is_algorithm_call call.now) calls
all_algorithm_calls calls = list_all-map is_algorithm_call (λ (call : Bor Text). call.now) calls
