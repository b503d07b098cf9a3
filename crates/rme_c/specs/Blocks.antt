-- A block of words that was copied, as an image (Image of docs/dev/texts.md).
use Rattle.std.specs.Prelude.{ℕ, ◌+◌, ◌*◌, ◌==◌, ◌&&◌, Bool, is_none, List, length, map, drop, slice_index}
use Rattle.std.specs.List.{range_with_len}
use Rattle.rmecore.specs.declared.own.Own.{Own}
use Rattle.redomail.specs.declared.layout.Layout.{Layout}
use Rattle.redomail.specs.Layout.{size}
use Rattle.rmeworld.specs.declared.image.Image.{Image}
use Rattle.rme_c.specs.Starts.{size_cause}

-- the words are a block of a world with these sizes
abbrev pub is_block : Layout → ℕ → List ℕ → Bool
is_block l limit words = is_none (size_cause l limit 0) && (length words == 3 * l.procs + size l)

-- the lock words of a process: three consecutive words
abbrev pub own_in : List ℕ → ℕ → Own
own_in words p = record { choosing = slice_index words (3 * p); number = slice_index words (3 * p + 1); inside = slice_index words (3 * p + 2) }

-- the lock words of each process, then the data words
abbrev pub image_of : Layout → ℕ → List ℕ → Image
image_of l limit words =
    record {
      cap = l.cap;
      cells = drop (3 * l.procs) words;
      limit = limit;
      lock = map (own_in words) (range_with_len 0 l.procs);
      version = 2;
      width = l.width;
    }
