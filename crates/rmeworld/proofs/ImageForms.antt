-- Lists in JSON, read back.
use Rattle.std.proofs.Common.{◌≡◌, Bool, true, false, codes, ℕ, zero, suc, ◌<◌, List, [], ◌∷◌, length, get_or, map, Option, Some, None, refl, sym, ap, ◌∙◌, arith}
use Rattle.rmeworld.proofs.ImageCommon.{false≢true, length-map, array, object, Items, no_items, item, Members, no_members, member, view, items_of, items_view, members_view, Image, whole_data, width_member}
use Rattle.rmeworld.proofs.ImageCommon.{image_data, Own}
use Rattle.rmeworld.specs.ImageText.{list_data, lock_data}
use Rattle.serde_json.specs.Data.{Data}
use Rattle.serde_json.specs.Events.{members_len}
use Rattle.serde_json.specs.Find.{as_array}
use Rattle.serde_json.specs.declared.value.Value.{Value}
use Rattle.serde_json.proofs.Views.{Entry, members_len-members_view}

abbrev datas : Items → List Data
datas no_items = []
datas (item d ds) = d ∷ datas ds

datas-items_of : (ds : List Data) → datas (items_of ds) ≡ ds
datas-items_of [] = refl
datas-items_of (d ∷ ds) = ap (λ es. d ∷ es) (datas-items_of ds)

abbrev datas_or : Option Items → List Data
datas_or None = []
datas_or (Some ds) = datas ds

-- the items of a list are these
pub items_are : (vs : List Value) (ds : List Data) (d : Data) → Some (items_view vs) ≡ as_array d → d ≡ array (items_of ds) → map view vs ≡ ds
items_are vs ds d e is = sym (datas-items_of (map view vs)) ∙ ap datas_or (e ∙ ap as_array is) ∙ datas-items_of ds

head_or : Data → List Data → Data
head_or e [] = e
head_or e (d ∷ ds) = d

rest_of : List Data → List Data
rest_of [] = []
rest_of (d ∷ ds) = ds

-- each item is such a value
pub item_is : {A : Type 0} (f : A → Data) (vs : List Value) (xs : List A) (i : ℕ) (v : Value) → map view vs ≡ map f xs → i < length vs → v ≡ get_or vs i v → (x : A) × (view v ≡ f x)
unfolding head_or rest_of
item_is f [] xs i v e h is = absurd (omega arith)
item_is f (w ∷ vs) [] i v e h is = absurd (omega (arith, ap length e))
item_is f (w ∷ vs) (x ∷ xs) zero v e h is = (x, ap view is ∙ ap (head_or (view w)) e)
item_is f (w ∷ vs) (x ∷ xs) (suc i) v e h is = item_is f vs xs i v (ap rest_of e) (omega arith) is

-- an array with an item that is no such value
pub not_all : {A : Type 0} (f : A → Data) (w : Value) (all vs : List Value) (i : ℕ) (v : Value) → Some (items_view all) ≡ as_array (view w) → vs ≡ all → i < length vs → v ≡ get_or vs i v
    → ((x : A) → view v ≡ f x → ⊥) → (xs : List A) → view w ≡ array (items_of (map f xs)) → ⊥
not_all f w all vs i v e same h is not xs spelled =
    let found = item_is f vs xs i v (ap (map view) same ∙ items_are all (map f xs) (view w) e spelled) h is in
    not found.0 found.1

-- an array of another length
pub not_many : {A : Type 0} (f : A → Data) (w : Value) (all : List Value) (xs : List A) → Some (items_view all) ≡ as_array (view w) → view w ≡ array (items_of (map f xs)) → length all ≡ length xs
not_many f w all xs e spelled =
    let same = items_are all (map f xs) (view w) e spelled in
    omega (arith, ap length same, length-map all view, length-map xs f)

-- a member at the position of the width that isn't a width
pub no_width : (es : List Entry) → (length es ≡ 0 → false ≡ true) → ((n : ℕ) (ms : Members) → members_view es ≡ member (codes "width") (whole_data n) ms → ⊥) → (wide : Bool) (w : ℕ)
    → members_view es ≡ width_member wide w → ⊥
no_width es some not true w e = not w no_members e
no_width es some not false w e =
    let len = ap members_len e in
    absurd (false≢true (some (omega (arith, len, members_len-members_view es))))

-- a member after the width
pub more_than_width : (es rest : List Entry) (n : ℕ) → members_view es ≡ member (codes "width") (whole_data n) (members_view rest) → (length rest ≡ 0 → false ≡ true) → (wide : Bool) (w : ℕ)
    → members_view es ≡ width_member wide w → ⊥
more_than_width es rest n first some true w e =
    let one = ap members_len e in
    let all = ap members_len first in
    absurd (false≢true (some (omega (arith, one, all, members_len-members_view rest))))
more_than_width es rest n first some false w e =
    let none = ap members_len e in
    let all = ap members_len first in
    absurd (omega (arith, none, all, members_len-members_view rest))

abbrev pub rest_of_members : Members → Members
rest_of_members no_members = no_members
rest_of_members (member k d ms) = ms

abbrev pub members_or : Data → Members
members_or (object ms) = ms
members_or d = no_members

-- the image's members after the first four
pub after_four : (m0 m1 m2 m3 m4 : Members) (a b c d : Data) (wide : Bool) (i : Image) → object m0 ≡ image_data wide i → m0 ≡ member (codes "cap") a m1 → m1 ≡ member (codes "data") b m2
    → m2 ≡ member (codes "limit") c m3 → m3 ≡ member (codes "lock") d m4 → m4 ≡ member (codes "version") (whole_data i.version) (width_member wide i.width)
after_four m0 m1 m2 m3 m4 a b c d wide i e e1 e2 e3 e4 =
    let behind1 = ap rest_of_members (sym e1 ∙ ap members_or e) in
    let behind2 = ap rest_of_members (sym e2 ∙ behind1) in
    let behind3 = ap rest_of_members (sym e3 ∙ behind2) in
    ap rest_of_members (sym e4 ∙ behind3)

-- nothing of an image is spelt
abbrev NoImage : Members → Type 0
NoImage ms = (wide : Bool) (i : Image) → object ms ≡ image_data wide i → ⊥

-- Where a member is missing, no image is spelt: the first member, or one after others that were taken.
pub no_cap : (m0 : Members) → ((n : ℕ) (ms : Members) → m0 ≡ member (codes "cap") (whole_data n) ms → ⊥) → NoImage m0
no_cap m0 not wide i e = not i.cap _ (ap members_or e)

pub no_cells : (m0 m1 : Members) (a : Data) → m0 ≡ member (codes "cap") a m1 → ((ns : List ℕ) (ms : Members) → m1 ≡ member (codes "data") (list_data ns) ms → ⊥) → NoImage m0
no_cells m0 m1 a e1 not wide i e = not i.cells _ (ap rest_of_members (sym e1 ∙ ap members_or e))

pub no_limit : (m0 m1 m2 : Members) (a b : Data) → m0 ≡ member (codes "cap") a m1 → m1 ≡ member (codes "data") b m2 → ((n : ℕ) (ms : Members) → m2 ≡ member (codes "limit") (whole_data n) ms → ⊥) → NoImage m0
no_limit m0 m1 m2 a b e1 e2 not wide i e = not i.limit _ (ap rest_of_members (sym e2 ∙ ap rest_of_members (sym e1 ∙ ap members_or e)))

pub no_lock : (m0 m1 m2 m3 : Members) (a b c : Data) → m0 ≡ member (codes "cap") a m1 → m1 ≡ member (codes "data") b m2 → m2 ≡ member (codes "limit") c m3
    → ((xs : List Own) (ms : Members) → m3 ≡ member (codes "lock") (lock_data xs) ms → ⊥) → NoImage m0
no_lock m0 m1 m2 m3 a b c e1 e2 e3 not wide i e = not i.lock _ (ap rest_of_members (sym e3 ∙ ap rest_of_members (sym e2 ∙ ap rest_of_members (sym e1 ∙ ap members_or e))))

pub no_last : (m0 m1 m2 m3 m4 : Members) (a b c d : Data) → m0 ≡ member (codes "cap") a m1 → m1 ≡ member (codes "data") b m2 → m2 ≡ member (codes "limit") c m3 → m3 ≡ member (codes "lock") d m4
    → ((version : ℕ) (wide : Bool) (w : ℕ) → m4 ≡ member (codes "version") (whole_data version) (width_member wide w) → ⊥) → NoImage m0
no_last m0 m1 m2 m3 m4 a b c d e1 e2 e3 e4 not wide i e = not i.version wide i.width (after_four m0 m1 m2 m3 m4 a b c d wide i e e1 e2 e3 e4)

-- the image of its members, one after another
pub image_of_members : (m0 m1 m2 m3 m4 : Members) (wide : Bool) (i : Image) → m0 ≡ member (codes "cap") (whole_data i.cap) m1 → m1 ≡ member (codes "data") (list_data i.cells) m2 → m2 ≡ member (codes "limit") (whole_data i.limit) m3
    → m3 ≡ member (codes "lock") (lock_data i.lock) m4 → m4 ≡ member (codes "version") (whole_data i.version) (width_member wide i.width) → object m0 ≡ image_data wide i
image_of_members m0 m1 m2 m3 m4 wide i e1 e2 e3 e4 e5 =
    let f3 = e4 ∙ ap (member (codes "lock") (lock_data i.lock)) e5 in
    let f2 = e3 ∙ ap (member (codes "limit") (whole_data i.limit)) f3 in
    let f1 = e2 ∙ ap (member (codes "data") (list_data i.cells)) f2 in
    ap object (e1 ∙ ap (member (codes "cap") (whole_data i.cap)) f1)
