-- In which models of memory an access is remote, and how that is written.
use Rattle.std.specs.Prelude.{ℕ, nat_lt, ◌&&◌, ◌||◌, Bool, List, [], ◌++◌, codes, Option, Some, None, if◌then◌else◌}
use Rattle.algorithms.specs.declared.access.Address.{Address}
use Rattle.algorithms.specs.declared.access.WordAccess.{WordAccess}
use Rattle.algorithms.specs.declared.remote_references.memory_event.MemoryEvent.{MemoryEvent}
use Rattle.algorithms.specs.declared.remote_references.memory_model.MemoryModel.TheVariants.{Distributed, WriteThrough, WriteBack}
use Rattle.algorithms.specs.remote_references.RemoteReferences.{is_remote}
use Rattle.diagram.specs.declared.remote_marks.RemoteMarks.{RemoteMarks}

-- one of at most 64 processes, and a word of this many declarations: it has a place among the copies. All accesses of a run have one
abbrev pub has_place : ℕ → ℕ → Address → Bool
has_place declarations p word = nat_lt p 64 && (nat_lt word.index 64 && nat_lt word.declaration declarations)

-- in which models p's access is remote after this run, where its word has this home
abbrev pub marks_of_home : Option ℕ → List MemoryEvent → ℕ → WordAccess → RemoteMarks
marks_of_home home run p access =
    record {
      distributed = is_remote Distributed home run p access;
      write_through = is_remote WriteThrough home run p access;
      write_back = is_remote WriteBack home run p access;
    }

-- the same of a word of this many declarations
abbrev pub marks_at : ℕ → Option ℕ → List MemoryEvent → ℕ → WordAccess → Option RemoteMarks
marks_at declarations home run p access = if has_place declarations p access.address then Some (marks_of_home home run p access) else None

-- ---- how they are written

abbrev pub text_if : Bool → List ℕ → List ℕ
text_if holds text = if holds then text else []

-- remote in one of the models
abbrev pub is_remote_in_some : RemoteMarks → Bool
is_remote_in_some m = m.distributed || (m.write_through || m.write_back)

-- an access that is remote in no model has no mark
abbrev pub marks_text : Option RemoteMarks → List ℕ
marks_text None = []
marks_text (Some m) =
    text_if (is_remote_in_some m) (codes " remote")
    ++ text_if m.distributed (codes " dsm") ++ text_if m.write_through (codes " write-through") ++ text_if m.write_back (codes " write-back")

-- true or false, as JSON
abbrev pub truth_text : Bool → List ℕ
truth_text holds = if holds then codes "true" else codes "false"

-- the marks as a member of an object. What is no access has none
abbrev pub marks_member : Option RemoteMarks → List ℕ
marks_member None = codes ",\"remote\":null"
marks_member (Some m) =
    codes ",\"remote\":{\"dsm\":" ++ truth_text m.distributed ++ codes ",\"write-through\":" ++ truth_text m.write_through
    ++ codes ",\"write-back\":" ++ truth_text m.write_back ++ codes "}"
