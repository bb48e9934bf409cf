-- Reading from the front of a part: a value and what is left of the part, or the first fault.
use Rattle.std.specs.Prelude.{◌≡◌, ℕ, zero, suc, List, [], ◌∷◌, length, take, Bool, Option, Some, None, Result, Ok, Err, nat_lt, nat_le, ◌==◌, if◌then◌else◌}
use Rattle.byteorder.specs.Endian.{big_number}
use Rattle.wire_core.specs.declared.bad.Bad.{Bad}
use Rattle.wire_core.specs.declared.bad.Reason.{Reason}
use Rattle.wire_core.specs.declared.bad.Reason.TheVariants.{Short, LengthPast, BadValue, Trailing, TooLarge}
use Rattle.wire_core.specs.declared.bad.DecodeFault.{DecodeFault}
use Rattle.wire_core.specs.declared.bad.DecodeFault.TheVariants as faults
use Rattle.wire_core.specs.Part.{Part, part, end_of, behind}

-- from a part to a value and what is left, or to the first fault
abbrev pub Reader : Type 0 → Type 0
Reader A = Part → Result (A × Part) Bad

-- what was read, and then what follows
abbrev pub and_then : {A B : Type 0} → Result (A × Part) Bad → (A → Reader B)
    → Result (B × Part) Bad
and_then (Ok x) next = next x.0 x.1
and_then (Err bad) next = Err bad

-- a field, and then what follows
infixl 10 ◌>>=◌
abbrev pub ◌>>=◌ : {A B : Type 0} → Reader A → (A → Reader B) → Reader B
◌>>=◌ read next p = and_then (read p) next

-- a test, and then what follows
infixl 10 ◌>>◌
abbrev pub ◌>>◌ : {B : Type 0} → Reader (Unit {0}) → Reader B → Reader B
◌>>◌ test next p = and_then (test p) (λ _. next)

-- a value without a further byte
abbrev pub done : {A : Type 0} → A → Reader A
done x p = Ok (x, p)

-- a fault
abbrev pub refused : {A : Type 0} → ℕ → Reason → Reader A
refused place reason p = Err (record { place = place; reason = reason })

-- a fault unless the test holds
unfoldable pub allowed : Bool → ℕ → Reason → Reader (Unit {0})
allowed test place reason = if test then done tt else refused place reason

-- a value, or a fault where there is none
unfoldable pub given : {A : Type 0} → Option A → ℕ → Reason → Reader A
given (Some x) place reason = done x
given None place reason = refused place reason

-- the place of the next byte
unfoldable pub place_at : Reader ℕ
place_at p = Ok (p.place, p)

-- the number of bytes that are left
abbrev pub left_at : Reader ℕ
left_at p = Ok (length p.bytes, p)

-- a fault unless the part is at its end
abbrev pub ended : Reader (Unit {0})
ended p = allowed (length p.bytes == 0) p.place Trailing p

-- all bytes that are left
abbrev pub rest_at : Reader (List ℕ)
rest_at p = Ok (p.bytes, record { place = end_of p; bytes = [] })

-- the next n bytes
unfoldable pub bytes_at : ℕ → Reader (List ℕ)
bytes_at n p =
    if nat_lt (length p.bytes) n then refused (end_of p) Short p
    else Ok (take n p.bytes, behind n p)

-- a number in n bytes, the highest first
unfoldable pub number_at : ℕ → Reader ℕ
number_at n = do
  front ← bytes_at n
  done (big_number n front)

-- this number in n bytes, and no other
unfoldable pub exact_at : ℕ → ℕ → Reader (Unit {0})
exact_at n value = do
  place ← place_at
  x ← number_at n
  allowed (x == value) place BadValue

-- a length in n bytes that may not pass a limit
unfoldable pub limited_at : ℕ → ℕ → Reader ℕ
limited_at n limit = do
  place ← place_at
  x ← number_at n
  allowed (nat_le x limit) place TooLarge
  done x

-- one byte, 0 or 1
unfoldable pub boolean_at : Reader Bool
boolean_at = do
  place ← place_at
  n ← number_at 1
  allowed (nat_lt n 2) place BadValue
  done (n == 1)

-- the next len bytes as a part of their own, where their length stands at a place
unfoldable pub stretch_at : ℕ → ℕ → Reader Part
stretch_at place len p =
    if nat_lt (length p.bytes) len then refused place LengthPast p
    else Ok (record { place = p.place; bytes = take len p.bytes }, behind len p)

-- a length in n bytes, and so many bytes as a part of their own
unfoldable pub part_at : ℕ → Reader Part
part_at n = do
  place ← place_at
  len ← number_at n
  stretch_at place len

-- the same, where any other length is refused
unfoldable pub sized_part_at : ℕ → ℕ → Reader Part
sized_part_at n size = do
  place ← place_at
  len ← number_at n
  allowed (len == size) place BadValue
  stretch_at place len

-- what was read, and not what is left
abbrev pub value_of : {A : Type 0} → Result (A × Part) Bad → Result A Bad
value_of (Ok x) = Ok x.0
value_of (Err bad) = Err bad

-- what fills a part of its own, and then reading goes on behind that part
abbrev pub inside : {A : Type 0} → Part → Reader A → Reader A
inside content read p = and_then (read content) (λ x left. and_then (ended left) (λ _ _. done x p))

-- what fills the next len bytes, where their length stands at a place
unfoldable pub filled_at : {A : Type 0} → ℕ → ℕ → Reader A → Reader A
filled_at place len read = do
  stretch ← stretch_at place len
  inside stretch read

-- a length in n bytes, and what fills so many bytes
unfoldable pub vector_at : {A : Type 0} → ℕ → Reader A → Reader A
vector_at n read = do
  content ← part_at n
  inside content read

-- the same, where any other length is refused
unfoldable pub sized_at : {A : Type 0} → ℕ → ℕ → Reader A → Reader A
sized_at n size read = do
  content ← sized_part_at n size
  inside content read

-- what a number in n bytes stands for; a number that stands for nothing is a bad value
unfoldable pub code_at : {A : Type 0} → ℕ → (ℕ → Option A) → Reader A
code_at n meaning = do
  place ← place_at
  code ← number_at n
  given (meaning code) place BadValue

-- one field, and then another
unfoldable pub pair_at : {A B : Type 0} → Reader A → Reader B → Reader (A × B)
pair_at one other = do
  first ← one
  second ← other
  done (first, second)

-- at most n entries, up to the end of the part
unfoldable pub entries_at : {A : Type 0} → Reader A → ℕ → Reader (List A)
entries_at read zero p = Ok ([], p)
entries_at read (suc n) p =
    if length p.bytes == 0 then Ok ([], p)
    else and_then (read p) (λ x. entries_at read n >>= λ xs. done (x ∷ xs))

-- the entries up to the end of the part, each of which takes a byte at least
unfoldable pub list_at : {A : Type 0} → Reader A → Reader (List A)
list_at read p = entries_at read (length p.bytes) p

-- what all of some bytes spell, the first of which stands at place 0
abbrev pub whole_of : {A : Type 0} → Reader A → List ℕ → Result A Bad
whole_of read bytes = value_of (inside (part 0 bytes) read (part 0 bytes))

-- A call answered what this reading gives, and left what it leaves.
abbrev pub Reads : {A : Type 0} → Result A Bad → Part → Result (A × Part) Bad → Type 0
Reads (Ok x) left read = read ≡ Ok (x, left)
Reads (Err bad) left read = read ≡ Err bad

-- the same, unless memory ran out
abbrev pub Decodes : {A : Type 0} → Result A DecodeFault → Part → Result (A × Part) Bad → Type 0
Decodes (Ok x) left read = read ≡ Ok (x, left)
Decodes (Err (faults.Bad bad)) left read = read ≡ Err bad
Decodes (Err faults.NoMemory) left read = Unit {0}

-- A call that reads the whole input answered this, unless memory ran out.
abbrev pub Gives : {A : Type 0} → Result A DecodeFault → Result A Bad → Type 0
Gives (Ok x) read = read ≡ Ok x
Gives (Err (faults.Bad bad)) read = read ≡ Err bad
Gives (Err faults.NoMemory) read = Unit {0}
