-- Traces as texts (the specification's Trace).
use Rattle.std.specs.Prelude.{ℕ, List, [], ◌∷◌, ◌++◌, Result, Ok, codes, slice_index, slice_index_or}
use Rattle.std.specs.List.{AllByRecursion, flat_map}
use Rattle.schedule.specs.declared.lines.fault.LineFault.{LineFault}
use Rattle.redomail.specs.declared.deed.Deed.{Deed}
use Rattle.schedule.specs.declared.texts.trace.TraceHead.{TraceHead}
use Rattle.schedule.specs.Words.{◌>>=◌, line_of, parts_of}
use Rattle.schedule.specs.Headers.{HeaderForm, IsHeader, words_of_header, header_at}
use Rattle.schedule.specs.Deeds.{words_of_deed, IsDeed, deed_at}
use Rattle.schedule.specs.Texts.{text_at}

-- a trace as a value, without its memory
pub record Traced : Type 0 where
  pub procs : ℕ
  pub cap : ℕ
  pub width : ℕ
  pub deeds : List Deed

-- the form of a trace's header
abbrev pub trace_form : HeaderForm
trace_form = record { word = codes "trace"; names = codes "procs" ∷ codes "cap" ∷ [] }

-- the sizes of a header, in their order
abbrev pub trace_sizes : TraceHead → List ℕ
trace_sizes h = h.procs ∷ h.cap ∷ []

-- the header of a trace
abbrev pub trace_head_of : Traced → TraceHead
trace_head_of trace = record { procs = trace.procs; cap = trace.cap; width = trace.width }

-- ---- each trace has one spelling

-- the words of a header
abbrev pub words_of_trace_head : TraceHead → List (List ℕ)
words_of_trace_head h = words_of_header trace_form (trace_sizes h) h.width

-- the text of a trace
abbrev pub trace_spelling : Traced → List ℕ
trace_spelling trace = line_of (words_of_trace_head (trace_head_of trace)) ++ flat_map (λ deed. line_of (words_of_deed deed)) trace.deeds

-- what the types guarantee
abbrev pub IsTraceHead : TraceHead → Type 0
IsTraceHead h = IsHeader trace_form (trace_sizes h) h.width

-- a trace whose header and deeds keep to their types
pub record IsTraced (trace : Traced) : Type 0 where
  pub head : IsTraceHead (trace_head_of trace)
  pub deeds : AllByRecursion (IsDeed trace.width) trace.deeds

-- ---- reading

-- the header that these numbers make; without a third one the width is 1
abbrev pub trace_head_with : List ℕ → TraceHead
trace_head_with ns = record { procs = slice_index ns 0; cap = slice_index ns 1; width = slice_index_or ns 2 1 }

-- the header that these words say, or its fault
abbrev pub trace_head_at : List (List ℕ) → Result TraceHead LineFault
trace_head_at ws = header_at trace_form trace_head_with ws

-- the trace of a header and deeds
abbrev pub traced_with : TraceHead × List Deed → Traced
traced_with read = record { procs = read.0.procs; cap = read.0.cap; width = read.0.width; deeds = read.1 }

-- the trace of a text, or its fault
abbrev pub trace_at : List ℕ → Result Traced (ℕ × LineFault)
trace_at text = text_at trace_head_at (λ h. deed_at h.width) (parts_of text) >>= λ read. Ok (traced_with read)
