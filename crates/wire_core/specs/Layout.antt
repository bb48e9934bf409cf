-- What it means that a reader and a spelling are one layout.
use Rattle.std.specs.Prelude.{◌≡◌, ℕ, ◌+◌, ◌≤◌, List, ◌++◌, length, Ok, Err}
use Rattle.wire_core.specs.declared.bad.Bad.{Bad}
use Rattle.wire_core.specs.Part.{Part, part, end_of}
use Rattle.wire_core.specs.Spelling.{AreBytes}
use Rattle.wire_core.specs.Reading.{Reader}

-- q is what is left of p behind a text
pub record Follows (p : Part) (text : List ℕ) (q : Part) : Type 0 where
  pub bytes : p.bytes ≡ text ++ q.bytes
  pub place : q.place ≡ p.place + length text

-- what is left of a part behind a text at its front, where that is `rest`
abbrev pub behind_text : List ℕ → List ℕ → Part → Part
behind_text text rest p = part (p.place + length text) rest

-- What is read fits and is spelled so, what fits and is spelled so is read, and a fault lies in its
-- part or at its end.
pub record IsLayout
    {Y : Type 0} (Fits : Y → Type 0) (spell : Y → List ℕ) (read : Reader Y) : Type 0 where
  pub takes : (p : Part) (y : Y) (q : Part) → AreBytes p.bytes → read p ≡ Ok (y, q)
      → Fits y × Follows p (spell y) q
  pub again : (place : ℕ) (y : Y) (rest : List ℕ) → Fits y →
      read (part place (spell y ++ rest)) ≡ Ok (y, part (place + length (spell y)) rest)
  pub within : (p : Part) (bad : Bad) → AreBytes p.bytes → read p ≡ Err bad → bad.place ≤ end_of p
