-- Tests on texts.
use Rattle.std.proofs.Common.{◌≡◌, ◌≢◌, ◌∙◌, Bool, true, false, sym, refl}
use Rattle.std.specs.Str.{bytes_eq}
use Rattle.std.proofs.lemmas.Bool.{false≢true}
use Rattle.std.proofs.lemmas.Slice.Eq.{bytes_eq-Decides}
use Rattle.clap.specs.Words.{Text}

pub differ : (a b : Text) → bytes_eq a b ≡ false → a ≢ b
differ a b other e = false≢true (sym other ∙ (bytes_eq-Decides a b).1 e)

pub is_other : (a b : Text) → a ≢ b → bytes_eq a b ≡ false
is_other a b other = go (bytes_eq a b) refl
  where
    go : (t : Bool) → bytes_eq a b ≡ t → bytes_eq a b ≡ false
    go true is = absurd (other ((bytes_eq-Decides a b).0 is))
    go false is = is
