-- `kind ID MODEL POLICY COUNT SIZE MULT`
use Rattle.std.specs.Prelude.{ℕ, ◌-◌, ◌^◌, ◌≤◌, ◌==◌, ◌&&◌, nat_le, Bool, true, false, List, [], ◌∷◌, Option, Some, codes}
use Rattle.std.specs.Fmt.{decimal}
use Rattle.text_words.specs.Decimal.{decimal_of, number_of}
use Rattle.text_words.specs.Steps.{◌>>=◌, allowed, part_of, only_of, fixed_of}
use Rattle.access_policy.specs.declared.Policy.{Policy}
use Rattle.access_policy.specs.declared.Policy.TheVariants.{UserMatch, NodeMatch, UserNodeMatch, NodeMultiple}
use Rattle.data_models.specs.declared.config.TheConstants.{MAX_COUNT, MAX_SIZE, MAX_MULTIPLE}
use Rattle.data_models.specs.declared.config.DataModel.{DataModel}
use Rattle.data_models.specs.declared.config.DataModel.TheVariants.{Single, Array, Dictionary}
use Rattle.data_models.specs.declared.config.KindDef.{KindDef}
use Rattle.data_models.specs.Configs.{IsKind}

-- the word of a model
unfoldable pub model_text : DataModel → List ℕ
model_text Single = codes "single"
model_text Array = codes "array"
model_text Dictionary = codes "dictionary"

-- the model of a word
unfoldable pub model_of : List ℕ → Option DataModel
model_of word = fixed_of model_text (Single ∷ Array ∷ Dictionary ∷ []) word

-- the word of a policy
unfoldable pub policy_text : Policy → List ℕ
policy_text UserMatch = codes "user-match"
policy_text NodeMatch = codes "node-match"
policy_text UserNodeMatch = codes "user-node-match"
policy_text NodeMultiple = codes "node-multiple"

-- the policy of a word
unfoldable pub policy_of : List ℕ → Option Policy
policy_of word =
    fixed_of policy_text (UserMatch ∷ NodeMatch ∷ UserNodeMatch ∷ NodeMultiple ∷ []) word

-- the words behind `kind`
abbrev pub kind_words : KindDef → List (List ℕ)
kind_words kind =
    decimal kind.id ∷ model_text kind.model ∷ policy_text kind.policy ∷ decimal kind.max_count
    ∷ decimal kind.max_size
    ∷ decimal kind.multiple ∷ []

-- a number of resources goes with NODE-MULTIPLE alone
abbrev pub is_multiple : Policy → ℕ → Bool
is_multiple NodeMultiple multiple = nat_le 1 multiple
is_multiple policy multiple = multiple == 0

-- USER-NODE-MATCH goes with dictionaries alone
abbrev pub is_keyed : Policy → DataModel → Bool
is_keyed UserNodeMatch Single = false
is_keyed UserNodeMatch Array = false
is_keyed policy model = true

-- the numbers of a kind: the most slots, the most bytes, and the number of resources
unfoldable pub limits_in : List (List ℕ) → Option (ℕ × ℕ × ℕ)
limits_in words = do
  count ← part_of (number_of 1 MAX_COUNT) words
  size ← part_of (decimal_of MAX_SIZE) count.1
  multiple ← only_of (decimal_of MAX_MULTIPLE) size.1
  Some (count.0, size.0, multiple)

-- the kind that words say
unfoldable pub kind_of : List (List ℕ) → Option KindDef
kind_of words = do
  id ← part_of (decimal_of (2 ^ 32 - 1)) words
  model ← part_of model_of id.1
  policy ← part_of policy_of model.1
  limits ← limits_in policy.1
  fits ← allowed (is_multiple policy.0 limits.2 && is_keyed policy.0 model.0)
  Some (record {
    id = id.0;
    model = model.0;
    policy = policy.0;
    max_count = limits.0;
    max_size = limits.1;
    multiple = limits.2;
  })

-- a kind within its limits, with an id of 32 bits
abbrev pub IsKindLine : KindDef → Type 0
IsKindLine kind = (kind.id ≤ 2 ^ 32 - 1) × IsKind kind
