-- The kinds of a Store: `kind=ID/GEN` and the words of its values.
use Rattle.std.specs.Prelude.{ℕ, ◌-◌, ◌^◌, ◌≤◌, ◌==◌, not, List, [], ◌∷◌, ◌++◌, length, map, Option, Some, None, codes}
use Rattle.std.specs.List.{AllByRecursion, flat_map}
use Rattle.text_words.specs.Decimal.{decimal_of}
use Rattle.text_words.specs.Separator.{behind, byte_of, upto}
use Rattle.text_words.specs.Steps.{◌>>=◌, allowed, first_of}
use Rattle.request_words.specs.declared.groups.GroupWords.{GroupWords}
use Rattle.request_words.specs.declared.groups.OpenGroups.{OpenGroups}
use Rattle.request_words.specs.Specifiers.{slashed}
use Rattle.request_words.specs.Values.{value_of, value_text, IsValue}

-- kind=ID/GEN
unfoldable pub head_text : ℕ → ℕ → List ℕ
head_text kind generation = codes "kind=" ++ slashed kind generation

-- the words of a group: its head, and its values
abbrev pub group_words : GroupWords → List (List ℕ)
group_words group = head_text group.kind group.generation ∷ map value_text group.values

-- a group within its limits, with at least one value
pub record IsGroup (group : GroupWords) : Type 0 where
  pub kind : group.kind ≤ 2 ^ 32 - 1
  pub generation : group.generation ≤ 2 ^ 64 - 1
  pub some : 1 ≤ length group.values
  pub values : AllByRecursion IsValue group.values

-- at least one group
abbrev pub AreGroups : List GroupWords → Type 0
AreGroups groups = (1 ≤ length groups) × AllByRecursion IsGroup groups

-- the kind and the generation counter behind `kind=`
unfoldable pub head_of : List ℕ → Option (ℕ × ℕ)
head_of rest = do
  parts ← upto (byte_of (codes "/")) rest
  kind ← decimal_of (2 ^ 32 - 1) parts.0
  generation ← decimal_of (2 ^ 64 - 1) parts.1
  Some (kind, generation)

-- the kind and the generation counter of a group's first word
unfoldable pub head_word_of : List ℕ → Option (ℕ × ℕ)
head_word_of word = do
  rest ← behind (codes "kind=") word
  head_of rest

-- a Kind-ID and a generation counter within their fields
abbrev pub IsHead : ℕ × ℕ → Type 0
IsHead head = (head.0 ≤ 2 ^ 32 - 1) × (head.1 ≤ 2 ^ 64 - 1)

-- a group without values yet
abbrev pub opened : ℕ × ℕ → GroupWords
opened head = record { kind = head.0; generation = head.1; values = [] }

-- the groups, where the last one has a value
unfoldable pub closed : OpenGroups → Option (List GroupWords)
closed so_far = do
  some ← allowed (not (length so_far.last.values == 0))
  Some (so_far.before ++ so_far.last ∷ [])

-- the groups with the head of a further one, or with a value of the last one
abbrev pub with_head : OpenGroups → List ℕ → Option OpenGroups
with_head so_far rest = do
  head ← head_of rest
  before ← closed so_far
  Some (record { before = before; last = opened head })

-- the groups with one more value of the last one
abbrev pub with_value : OpenGroups → List ℕ → Option OpenGroups
with_value so_far word = do
  value ← value_of word
  Some (record so_far { last = record so_far.last { values = so_far.last.values ++ value ∷ [] } })

-- the groups with one more word
abbrev pub with_head_or_value : OpenGroups → List ℕ → Option (List ℕ) → Option OpenGroups
with_head_or_value so_far word (Some rest) = with_head so_far rest
with_head_or_value so_far word None = with_value so_far word

-- the groups with one more word
unfoldable pub with_word : OpenGroups → List ℕ → Option OpenGroups
with_word so_far word = with_head_or_value so_far word (behind (codes "kind=") word)

-- the groups with all words that are left
unfoldable pub with_words : OpenGroups → List (List ℕ) → Option (List GroupWords)
with_words so_far [] = closed so_far
with_words so_far (word ∷ words) = do
  next ← with_word so_far word
  with_words next words

-- the first group, from its head
unfoldable pub first_group_of : List ℕ → Option OpenGroups
first_group_of word = do
  head ← head_word_of word
  Some (record { before = []; last = opened head })

-- the groups that words say
unfoldable pub groups_of : List (List ℕ) → Option (List GroupWords)
groups_of words = do
  first ← first_of words
  so_far ← first_group_of first.0
  with_words so_far first.1
