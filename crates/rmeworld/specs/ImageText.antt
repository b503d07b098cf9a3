-- "Image" of the texts: one JSON object. A text of version 2 has six members, by rising name. A text of version 1 has no
-- width member, and the width is 1.
use Rattle.std.specs.Prelude.{◌≡◌, ◌≢◌, ◌⊎◌, ℕ, List, [], ◌∷◌, ◌++◌, codes, map, Bool, true, false, if◌then◌else◌, Some, IsUtf8}
use Rattle.rmecore.specs.declared.own.Own.{Own}
use Rattle.rmecore.specs.declared.refusal.Refusal.{Refusal}
use Rattle.rmecore.specs.declared.refusal.Refusal.TheVariants.{BadImage, OutOfMemory}
use Rattle.rmeworld.specs.ImageRules.{IsFirstBroken}
use Rattle.rmeworld.specs.declared.image.Image.{Image}
use Rattle.serde_json.specs.Data.{Data, number, unsigned, array, object, Members, member, no_members}
use Rattle.serde_json.specs.Read.{read}
use Rattle.serde_json.specs.View.{items_of}
use Rattle.serde_json.specs.Written.{compact_text}

-- the JSON data of a number, of a list of numbers, of a process's lock words, and of all lock words
abbrev pub whole_data : ℕ → Data
whole_data n = number (unsigned n)

abbrev pub list_data : List ℕ → Data
list_data ns = array (items_of (map whole_data ns))

abbrev pub own_data : Own → Data
own_data x = list_data (x.choosing ∷ x.number ∷ x.inside ∷ [])

abbrev pub lock_data : List Own → Data
lock_data xs = array (items_of (map own_data xs))

-- the member that version 1 lacks
abbrev pub width_member : Bool → ℕ → Members
width_member wide w = if wide then member (codes "width") (whole_data w) no_members else no_members

-- an image as JSON data, with its width member or without
abbrev pub image_data : Bool → Image → Data
image_data wide i =
    object
    (member (codes "cap") (whole_data i.cap)
    (member (codes "data") (list_data i.cells)
    (member (codes "limit") (whole_data i.limit)
    (member (codes "lock") (lock_data i.lock)
    (member (codes "version") (whole_data i.version) (width_member wide i.width))))))

-- the text is a JSON spelling of the image
pub record Spells (text : List ℕ) (wide : Bool) (i : Image) : Type 0 where
  pub utf8 : IsUtf8 text
  pub read : read text ≡ Some (image_data wide i)
  pub narrow : wide ≡ false → i.width ≡ 1

-- the data that is written has version 2
abbrev pub written_data : Image → Data
written_data i = image_data true (record i { version = 2 })

-- the line that is written
abbrev pub image_line : Image → List ℕ
image_line i = compact_text (written_data i) ++ 10 ∷ []

-- the version that goes with the members: 2 with the width, 1 without
abbrev pub version_of : Bool → ℕ
version_of wide = if wide then 2 else 1

-- the text is not an image's JSON (rule 1)
abbrev pub SpellsNone : List ℕ → Type 0
SpellsNone text = (wide : Bool) (i : Image) → Spells text wide i → ⊥

-- the first of the rules 2 to 9 that an image breaks, as the text has it
abbrev pub IsFirstBrokenAs : Bool → ℕ → Image → Type 0
IsFirstBrokenAs wide rule i = ((rule ≡ 2) × (i.version ≢ version_of wide)) ⊎ ((i.version ≡ version_of wide) × IsFirstBroken rule i)

-- why a text is refused: out of memory, rule 1, or the first rule that its image breaks
abbrev pub IsUnread : List ℕ → Refusal → Type 0
IsUnread text e =
    (e ≡ OutOfMemory)
    ⊎ (((e ≡ BadImage 1) × SpellsNone text)
    ⊎ ((wide : Bool) × (rule : ℕ) × (i : Image) × Spells text wide i × IsFirstBrokenAs wide rule i × (e ≡ BadImage rule)))
