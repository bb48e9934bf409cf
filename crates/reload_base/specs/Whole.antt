-- Reading to the end, and writing a whole text.
use Rattle.std.specs.Prelude.{◌≡◌, ◌+◌, ◌<◌, ◌≤◌, ℕ, List, ◌++◌, length, Result, Ok, Err}
use Rattle.std.specs.Io.KnownBytes.{IsAtEnd}
use Rattle.reload_base.specs.Outside.{SourceView, SinkView, Takes, TakesThenFails, Adds, AddsThenFails}
use Rattle.reload_base.specs.declared.reading.TheConstants.{MAX_READ}
use Rattle.reload_base.specs.declared.reading.ReadError.{ReadError}
use Rattle.reload_base.specs.declared.reading.ReadError.TheVariants as read_error
use Rattle.reload_base.specs.declared.writing.WriteError.{WriteError}
use Rattle.reload_base.specs.declared.writing.WriteError.TheVariants as write_error

-- reading stopped behind some bytes: too long with the read that brought more than `most`
abbrev pub StopsReading : ℕ → SourceView → SourceView → ReadError → Type 0
StopsReading most old new read_error.Failed =
    (bytes : List ℕ) × (length bytes ≤ most) × TakesThenFails old new bytes
StopsReading most old new read_error.TooLong =
    (bytes : List ℕ) × (most < length bytes) × (length bytes ≤ most + MAX_READ)
    × Takes old new bytes
StopsReading most old new read_error.NoMemory =
    (bytes : List ℕ) × (length bytes ≤ most) × Takes old new bytes

-- at most `most` bytes were read, and they end there, or reading stopped
abbrev pub ReadsAll : ℕ → SourceView → SourceView → Result (List ℕ) ReadError → Type 0
ReadsAll most old new (Ok text) = (length text ≤ most) × Takes old new text × IsAtEnd new.left
ReadsAll most old new (Err e) = StopsReading most old new e

-- a front of a text was written, behind which writing stopped
abbrev pub StopsWriting : SinkView → SinkView → List ℕ → WriteError → Type 0
StopsWriting old new text write_error.Failed =
    (front rest : List ℕ) × (front ++ rest ≡ text) × AddsThenFails old new front
StopsWriting old new text write_error.NoMemory =
    (front rest : List ℕ) × (front ++ rest ≡ text) × Adds old new front

-- a text was written whole, or writing stopped
abbrev pub WritesAll : {T : Type 0} → SinkView → SinkView → List ℕ → Result T WriteError → Type 0
WritesAll old new text (Ok _) = Adds old new text
WritesAll old new text (Err e) = StopsWriting old new text e
