-- A text has at most one image, and an image's own line has that image.
use Rattle.std.proofs.Common.{◌≡◌, ◌≤◌, ℕ, Bool, true, false, List, [], ◌∷◌, ◌++◌, map, max, Some, inl, inr, refl, sym, ap, ap₂, subst, ◌∙◌, arith, IsUtf8, true≢false}
use Rattle.rmeworld.proofs.ImageCommon.{tokens, print, array, Items, no_items, item, Members, no_members, member, null, number, unsigned, depth, items_depth, read, max_depth, items_of, Own, Refusal}
use Rattle.rmeworld.proofs.ImageCommon.{OutOfMemory, Image, IsLawfulImage, KeepsRules, whole_data, image_data, own_data, written_data, Spells, IsFirstBrokenAs, IsUnread}
use Rattle.std.proofs.lemmas.Str.{IsUtf8-append}
use Rattle.serde_json.specs.Data.{Data}
use Rattle.json.proofs.Found.{Some_inj}
use Rattle.json.proofs.Printed.Utf8.{IsUtf8-IsGap}
use Rattle.rmeworld.proofs.ImageForms.{rest_of_members, members_or}
use Rattle.rmeworld.proofs.LineFeeds.{read_line}

whole_in : Data → ℕ
whole_in (number (unsigned n)) = n
whole_in d = 0

numbers_in : Items → List ℕ
numbers_in no_items = []
numbers_in (item d ds) = whole_in d ∷ numbers_in ds

list_in : Data → List ℕ
list_in (array ds) = numbers_in ds
list_in d = []

own_of : List ℕ → Own
own_of (c ∷ n ∷ i ∷ []) = record { choosing = c; number = n; inside = i }
own_of ns = record { choosing = 0; number = 0; inside = 0 }

owns_in : Items → List Own
owns_in no_items = []
owns_in (item d ds) = own_of (list_in d) ∷ owns_in ds

lock_in : Data → List Own
lock_in (array ds) = owns_in ds
lock_in d = []

first_of : Members → Data
first_of no_members = null
first_of (member k d ms) = d

is_some : Members → Bool
is_some no_members = false
is_some (member k d ms) = true

width_in : Members → ℕ
width_in no_members = 1
width_in (member k d ms) = whole_in d

after_five : Members → Members
after_five ms = rest_of_members (rest_of_members (rest_of_members (rest_of_members (rest_of_members ms))))

-- the image of these members
image_by : Members → Image
image_by ms =
    let ms1 = rest_of_members ms in
    let ms2 = rest_of_members ms1 in
    let ms3 = rest_of_members ms2 in
    let ms4 = rest_of_members ms3 in
    record {
      cap = whole_in (first_of ms);
      cells = list_in (first_of ms1);
      limit = whole_in (first_of ms2);
      lock = lock_in (first_of ms3);
      version = whole_in (first_of ms4);
      width = width_in (after_five ms);
    }

numbers_again : (ns : List ℕ) → numbers_in (items_of (map whole_data ns)) ≡ ns
unfolding numbers_in whole_in
numbers_again [] = refl
numbers_again (n ∷ ns) = ap (λ l. n ∷ l) (numbers_again ns)

owns_again : (xs : List Own) → owns_in (items_of (map own_data xs)) ≡ xs
unfolding owns_in own_of list_in numbers_in whole_in
owns_again [] = refl
owns_again (x ∷ xs) = ap (λ l. x ∷ l) (owns_again xs)

image_again : (wide : Bool) (i : Image) → (wide ≡ false → i.width ≡ 1) → image_by (members_or (image_data wide i)) ≡ i
unfolding image_by first_of list_in lock_in whole_in width_in after_five
image_again true i narrow = ap₂ (λ cells lock. record i { cells = cells; lock = lock }) (numbers_again i.cells) (owns_again i.lock)
image_again false i narrow =
    ap₂ (λ cells lock. record i { cells = cells; lock = lock; width = 1 }) (numbers_again i.cells) (owns_again i.lock)
    ∙ ap (λ w. record i { width = w }) (sym (narrow refl))

wide_again : (wide : Bool) (i : Image) → is_some (after_five (members_or (image_data wide i))) ≡ wide
unfolding is_some after_five
wide_again true i = refl
wide_again false i = refl

-- a text has at most one image
pub one_image : (text : List ℕ) (wide also : Bool) (i j : Image) → Spells text wide i → Spells text also j → (wide ≡ also) × (i ≡ j)
one_image text wide also i j a b =
    let same = Some_inj (image_data wide i) (image_data also j) (sym a.read ∙ b.read) in (
      sym (wide_again wide i) ∙ ap (λ d. is_some (after_five (members_or d))) same ∙ wide_again also j,
      sym (image_again wide i a.narrow) ∙ ap (λ d. image_by (members_or d)) same ∙ image_again also j b.narrow,
    )

flat : (ns : List ℕ) → items_depth (items_of (map whole_data ns)) ≡ 0
flat [] = refl
flat (n ∷ ns) = ap (max 0) (flat ns)

one_deep : (xs : List Own) → items_depth (items_of (map own_data xs)) ≤ 1
one_deep [] = omega arith
one_deep (x ∷ xs) = omega (arith, one_deep xs)

-- an image is nested less deeply than the reader allows
pub shallow : (i : Image) → depth (written_data i) ≤ max_depth
shallow i = omega (arith, flat i.cells, one_deep i.lock)

-- the line that is written of an image is a text of it
pub line_spells : (i : Image) (text line : List ℕ) → IsUtf8 text → text ≡ print (tokens text) → (depth (written_data i) ≤ max_depth → read text ≡ Some (written_data i)) → line ≡ text ++ 10 ∷ []
    → Spells line true (record i { version = 2 })
line_spells i text line utf8 compact back e = record {
  utf8 = subst IsUtf8 (sym e) (IsUtf8-append text (10 ∷ []) utf8 (IsUtf8-IsGap (10 ∷ []) (inr refl, tt)));
  read = ap read e ∙ read_line text (written_data i) compact (back (shallow i));
  narrow = λ h. absurd (true≢false h);
}

-- a lawful image keeps the rules up to any one, in version 2 too
keeps : (i : Image) (rule : ℕ) → IsLawfulImage i → KeepsRules rule (record i { version = 2 })
keeps i rule k =
    let s = k.sized (omega arith) in
    let r = k.recorded (omega arith) in
    record {
      versioned = λ _. inl refl;
      sized = λ _. record { someone = s.someone; few = s.few; limited = s.limited; low = s.low; room = s.room; small = s.small; least = s.least; most = s.most };
      filled = λ _. k.filled (omega arith);
      rows = λ _. k.rows (omega arith);
      lawful = λ _. k.lawful (omega arith);
      heads = λ _. k.heads (omega arith);
      listed = λ _. k.listed (omega arith);
      recorded = λ _. record { clean = r.clean; ruined = r.ruined };
    }

unbroken : (i : Image) (rule : ℕ) → IsLawfulImage i → IsFirstBrokenAs true rule (record i { version = 2 }) → ⊥
unbroken i rule k (inl h) = h.1 refl
unbroken i rule k (inr h) = h.1.2 (keeps i rule k)

-- a text of a lawful image is refused only for memory
pub only_unread : (i : Image) (line : List ℕ) (e : Refusal) → IsLawfulImage i → Spells line true (record i { version = 2 }) → IsUnread line e → e ≡ OutOfMemory
only_unread i line e k spelled (inl h) = h
only_unread i line e k spelled (inr (inl h)) = absurd (h.1 true (record i { version = 2 }) spelled)
only_unread i line e k spelled (inr (inr (wide, rule, j, other, broken, is))) =
    let one = one_image line true wide (record i { version = 2 }) j spelled other in
    let same = subst (λ x. IsFirstBrokenAs wide rule x) (sym one.1) broken in
    absurd (unbroken i rule k (subst (λ w. IsFirstBrokenAs w rule (record i { version = 2 })) (sym one.0) same))
