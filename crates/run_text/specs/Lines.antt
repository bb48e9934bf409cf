-- The lines of a run: what happens in it, its frames, and its end (this profile).
use Rattle.std.specs.Prelude.{ℕ, ◌+◌, Bool, true, false, List, [], ◌∷◌, ◌++◌, drop, slice_get, codes}
use Rattle.std.specs.List.{flat_map}
use Rattle.std.specs.Option.{option_map_or}
use Rattle.std.specs.Fmt.{decimal}
use Rattle.hex.specs.Hex.{encode_lower}
use Rattle.reload_base.specs.declared.air.AirFrame.{AirFrame}
use Rattle.text_words.specs.Labelled.{labelled}
use Rattle.text_words.specs.Lines.{ended, spaced, spaced_by}
use Rattle.text_words.specs.Transaction.{transaction_text}
use Rattle.request_words.specs.declared.node.DeclaredNode.{DeclaredNode}
use Rattle.transcript_text.specs.Transcript.{decided_line, found_kind}
use Rattle.transcript_text.specs.Words.{counter_text}
use Rattle.node_model.specs.declared.notice.Told.{Told}
use Rattle.node_model.specs.declared.notice.Told.TheVariants.{Stored, Fetched, Failed}
use Rattle.node_model.specs.declared.notice.Notice.{Notice}
use Rattle.node_model.specs.declared.notice.Notice.TheVariants.{Decision, Answered, TimedOut}
use Rattle.run_model.specs.declared.happening.Happening.{Happening}
use Rattle.run_model.specs.declared.happening.Happening.TheVariants.{Tells, NoSuchFrame, UnknownNode, Busy}

-- ---- what happens

-- the answer that a client took, each word behind a space
unfoldable pub told_text : Told → List ℕ
told_text (Stored counters) = spaced (codes "ok") ++ flat_map (spaced_by counter_text) counters
told_text (Fetched kinds) = flat_map (spaced_by found_kind) kinds
told_text (Failed code counters) =
    spaced (codes "error") ++ spaced (decimal code) ++ flat_map (spaced_by counter_text) counters

-- answer H.L ANSWER
unfoldable pub answer_line : ℕ → Told → List ℕ
answer_line id told = codes "answer" ++ spaced (transaction_text id) ++ told_text told

-- timeout H.L
unfoldable pub timeout_line : ℕ → List ℕ
timeout_line id = codes "timeout" ++ spaced (transaction_text id)

-- what the node with a number tells: decide P T RES REQUEST -> ANSWER, answer H.L ANSWER, or
-- timeout H.L
unfoldable pub notice_line : List DeclaredNode → ℕ → Notice → List ℕ
notice_line names number (Decision time resource origin id asked answer acted) =
    decided_line names number time resource.0 origin.0 id asked answer
notice_line names number (Answered id told) = answer_line id told
notice_line names number (TimedOut id) = timeout_line id

-- refused L WORD
unfoldable pub refused_line : ℕ → List ℕ → List ℕ
refused_line line word = codes "refused" ++ spaced (decimal line) ++ spaced word

-- why an event is refused that names a frame that wasn't sent
unfoldable pub no_such_frame : List ℕ
no_such_frame = codes "no-such-frame"

-- why one is that names a node that isn't there, or that doesn't ask or isn't asked
unfoldable pub unknown_node : List ℕ
unknown_node = codes "unknown-node"

-- what happens, as a line
unfoldable pub happening_line : List DeclaredNode → Happening → List ℕ
happening_line names (Tells number notice) = notice_line names number notice
happening_line names (NoSuchFrame line) = refused_line line no_such_frame
happening_line names (UnknownNode line) = refused_line line unknown_node
happening_line names (Busy line) = refused_line line (codes "busy")

-- the line of a value, with the line feed that ends it
unfoldable pub ended_by : {A : Type 0} → (A → List ℕ) → A → List ℕ
ended_by line x = ended (line x)

-- the lines of all that happens, in order
unfoldable pub happened_text : List DeclaredNode → List Happening → List ℕ
happened_text names all = flat_map (ended_by (happening_line names)) all

-- ---- frames

-- frame K FROM TO
unfoldable pub flown_text : ℕ → AirFrame → List ℕ
flown_text k f =
    codes "frame" ++ spaced (decimal k) ++ spaced (decimal f.from) ++ spaced (decimal f.to)

-- frame K FROM TO HEX
unfoldable pub frame_line : ℕ → AirFrame → List ℕ
frame_line k f = flown_text k f ++ spaced (encode_lower f.bytes)

-- the lines of frames, of which the first has number k
unfoldable pub frame_lines : ℕ → List AirFrame → List ℕ
frame_lines k [] = []
frame_lines k (f ∷ fs) = ended (frame_line k f) ++ frame_lines (k + 1) fs

-- the lines of the frames behind the first `from` of all, which are counted from 1
unfoldable pub frames_text : ℕ → List AirFrame → List ℕ
frames_text from frames = frame_lines (from + 1) (drop from frames)

-- the line of the frame at a place, counted from 0, and nothing where there is none
unfoldable pub frame_at : ℕ → List AirFrame → List ℕ
frame_at at frames =
    option_map_or (λ f. ended (frame_line (at + 1) f)) (slice_get frames at) []

-- ---- the end

-- end frames=F bytes=B clock=T
unfoldable pub counts_text : ℕ → ℕ → ℕ → List ℕ
counts_text frames bytes clock =
    codes "end" ++ spaced (labelled (codes "frames=") frames)
    ++ spaced (labelled (codes "bytes=") bytes) ++ spaced (labelled (codes "clock=") clock)

-- whether a world is settled: settled=yes, or settled=no
abbrev pub settled_text : Bool → List ℕ
settled_text true = codes "settled=yes"
settled_text false = codes "settled=no"

-- end frames=F bytes=B clock=T settled=yes, or no
unfoldable pub end_line : ℕ → ℕ → ℕ → Bool → List ℕ
end_line frames bytes clock settled =
    counts_text frames bytes clock ++ spaced (settled_text settled)
