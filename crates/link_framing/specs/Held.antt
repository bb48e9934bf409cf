-- What a reader of frames holds.
use Rattle.std.specs.Prelude.{ℕ, ◌*◌, ◌≤◌, length}
use Rattle.wire_core.specs.Part.{Part}

-- what was fed and not taken, as a part of the stream, and how many bytes it keeps in memory
pub record Held : Type 0 where
  pub left : Part
  pub kept : ℕ

-- It keeps at most twice the bytes that were fed and not taken (this profile).
abbrev pub IsLean : Held → Type 0
IsLean held = held.kept ≤ 2 * length held.left.bytes
