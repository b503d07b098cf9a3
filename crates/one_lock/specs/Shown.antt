-- The laboratory over one world under one mutex: the members that its workers hand back, and its result.
use Rattle.std.specs.Prelude.{◌≡◌, ℕ, false, List, slice_index}
use Rattle.redomail.specs.declared.layout.Layout.{Layout}
use Rattle.redomail.specs.declared.message.Message.{Message}
use Rattle.redomail.specs.Content.{IsContent}
use Rattle.redomail.specs.Layout.{words_of}
use Rattle.redomail.specs.Shape.{entries}
use Rattle.rmeworld.specs.declared.image.Image.{Image}
use Rattle.rmeworld.specs.ImageRules.{IsLawfulImage}
use Rattle.one_lock.specs.Member.{Seat, is_in}
use Rattle.one_lock.specs.Execution.{IsLeftBy}

-- which process the member belongs to, and the sizes of its arena
abbrev pub place_of : Seat → ℕ × Layout
place_of m = (m.process, m.layout)

-- a member out of the section, in an arena whose values have this width
abbrev pub CanSend : ℕ → Seat → Type 0
CanSend width m = (is_in m.standing ≡ false) × (m.layout.width ≡ width)

-- These are the messages shown by the data words of a lawful image at the end of some run from all words 0.
pub record AreShown (l : Layout) (messages : List Message) : Type 0 where
  pub image : Image
  pub steps : ℕ
  pub left : IsLeftBy steps image
  pub lawful : IsLawfulImage image
  pub content : IsContent l image.cells
  pub shown : messages ≡ entries l (words_of image.cells) (slice_index image.cells 2)
