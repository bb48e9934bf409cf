-- The forwarding header: its spelling, and how it is read (RFC 6940, 6.3.2).
use Rattle.std.specs.Prelude.{◌≡◌, ℕ, ◌<◌, ◌≤◌, ◌^◌, List, [], ◌∷◌, ◌++◌, length, All, Result, Ok, Err, nat_le}
use Rattle.wire_core.specs.declared.bad.Bad.{Bad}
use Rattle.wire_core.specs.declared.bad.Reason.TheVariants.{LengthPast, Trailing}
use Rattle.wire_core.specs.Part.{Part}
use Rattle.wire_core.specs.Spelling.{number, joined}
use Rattle.wire_core.specs.Reading.{Reader, ◌>>=◌, ◌>>◌, done, allowed, place_at, number_at, exact_at, limited_at, filled_at, list_at}
use Rattle.wire_core.specs.declared.limits.TheConstants.{MAX_MESSAGE}
use Rattle.forwarding_header.specs.declared.header.TheConstants.{TOKEN, VERSION, WHOLE, MAX_HEADER_LIST}
use Rattle.forwarding_header.specs.declared.header.Header.{Header}
use Rattle.forwarding_header.specs.Destinations.{destinations, destination_at, IsSpelledDestination, IsDestinationInRange}
use Rattle.forwarding_header.specs.Options.{options, option_at, IsSpelledOption, IsOptionInRange}

-- the fields of fixed size; the fragment field says that the message is whole
unfoldable pub fixed : Header → List ℕ
fixed h = joined (
    number 4 TOKEN ∷ number 4 h.overlay ∷ number 2 h.sequence ∷ number 1 VERSION ∷ number 1 h.ttl
    ∷ number 4 WHOLE ∷ number 4 h.length ∷ number 8 h.id ∷ number 4 h.max_response ∷ [])

-- the three lists behind their lengths
unfoldable pub lists : Header → List ℕ
lists h = joined (
    number 2 (length (destinations h.via)) ∷ number 2 (length (destinations h.dest))
    ∷ number 2 (length (options h.options))
    ∷ destinations h.via ∷ destinations h.dest ∷ options h.options ∷ [])

-- a header's bytes
abbrev pub header : Header → List ℕ
header h = fixed h ++ lists h

-- Each entry fits its length, and each list spells at most so many bytes (this profile).
pub record IsSpelledHeader (h : Header) : Type 0 where
  pub each_via : All IsSpelledDestination h.via
  pub each_dest : All IsSpelledDestination h.dest
  pub each_option : All IsSpelledOption h.options
  pub via_length : length (destinations h.via) ≤ MAX_HEADER_LIST
  pub dest_length : length (destinations h.dest) ≤ MAX_HEADER_LIST
  pub options_length : length (options h.options) ≤ MAX_HEADER_LIST

-- a value with the place behind it
abbrev pub placed_behind : {A : Type 0} → Result (A × Part) Bad → Result (A × ℕ) Bad
placed_behind (Ok x) = Ok (x.0, x.1.place)
placed_behind (Err bad) = Err bad

-- the whole message's length, where the message ends at a place
unfoldable pub message_length_at : ℕ → Reader ℕ
message_length_at end = do
  place ← place_at
  len ← limited_at 4 MAX_MESSAGE
  allowed (nat_le len end) place LengthPast
  allowed (nat_le end len) len Trailing
  done len

-- the fields of fixed size, and no lists yet
unfoldable pub fixed_at : ℕ → Reader Header
fixed_at end = do
  exact_at 4 TOKEN
  overlay ← number_at 4
  sequence ← number_at 2
  exact_at 1 VERSION
  ttl ← number_at 1
  exact_at 4 WHOLE
  length ← message_length_at end
  id ← number_at 8
  max_response ← number_at 4
  done (record {
    overlay = overlay;
    sequence = sequence;
    ttl = ttl;
    length = length;
    id = id;
    max_response = max_response;
    via = [];
    dest = [];
    options = [];
  })

-- the lists of a header whose other fields were read
unfoldable pub lists_at : Header → Reader Header
lists_at h = do
  via_place ← place_at
  via_length ← limited_at 2 MAX_HEADER_LIST
  dest_place ← place_at
  dest_length ← limited_at 2 MAX_HEADER_LIST
  options_place ← place_at
  options_length ← limited_at 2 MAX_HEADER_LIST
  via ← filled_at via_place via_length (list_at destination_at)
  dest ← filled_at dest_place dest_length (list_at destination_at)
  options ← filled_at options_place options_length (list_at option_at)
  done (record h { via = via; dest = dest; options = options })

-- the header of a message that ends at a place
unfoldable pub header_at : ℕ → Reader Header
header_at end = do
  h ← fixed_at end
  lists_at h

-- each number fits its field
pub record IsHeaderInRange (h : Header) : Type 0 where
  pub overlay : h.overlay < 2 ^ 32
  pub sequence : h.sequence < 2 ^ 16
  pub ttl : h.ttl < 2 ^ 8
  pub id : h.id < 2 ^ 64
  pub max_response : h.max_response < 2 ^ 32
  pub via : All IsDestinationInRange h.via
  pub dest : All IsDestinationInRange h.dest
  pub options : All IsOptionInRange h.options

-- These bytes are a whole message with this header: they begin with its spelling, and its length is
-- theirs.
pub record IsMessage (h : Header) (bytes : List ℕ) : Type 0 where
  pub is_spelled : IsSpelledHeader h
  pub in_range : IsHeaderInRange h
  pub length_is : h.length ≡ length bytes
  pub within : h.length ≤ MAX_MESSAGE
  pub begins : (contents : List ℕ) × (bytes ≡ header h ++ contents)

-- what a whole message has in front, and the place of what follows; or the first fault
unfoldable pub message_at : List ℕ → Result (Header × ℕ) Bad
message_at bytes = placed_behind (header_at (length bytes) (record { place = 0; bytes = bytes }))
