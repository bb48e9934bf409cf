-- Names as words: 1 to 64 visible bytes of ASCII.
use Rattle.std.specs.Prelude.{ℕ, ◌≤◌, ◌&&◌, nat_le, Bool, List, length, codes}
use Rattle.std.specs.List.{list_all, AllByRecursion}
use Rattle.text_words.specs.declared.name.TheConstants.{MAX_NAME}
use Rattle.text_words.specs.Separator.{byte_of}

-- from `!` to `~`
abbrev pub is_visible : ℕ → Bool
is_visible byte = nat_le (byte_of (codes "!")) byte && nat_le byte (byte_of (codes "~"))

-- the test of a name
unfoldable pub is_name : List ℕ → Bool
is_name word = nat_le 1 (length word) && nat_le (length word) MAX_NAME && list_all is_visible word

-- 1 to 64 bytes from `!` to `~`
abbrev pub IsName : List ℕ → Type 0
IsName word =
    (1 ≤ length word) × (length word ≤ MAX_NAME)
    × AllByRecursion (λ byte. (byte_of (codes "!") ≤ byte) × (byte ≤ byte_of (codes "~"))) word
