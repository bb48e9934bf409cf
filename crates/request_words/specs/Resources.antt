-- The words of resources.
use Rattle.std.specs.Prelude.{ℕ, ◌^◌, ◌<◌, List, Option, Some, None, codes}
use Rattle.text_words.specs.Id.{id_of, id_text}
use Rattle.text_words.specs.Labelled.{at_name}
use Rattle.text_words.specs.Name.{is_name, IsName}
use Rattle.text_words.specs.Separator.{behind}
use Rattle.text_words.specs.Steps.{◌>>=◌, allowed}
use Rattle.request_words.specs.declared.resource.ResourceName.{ResourceName}
use Rattle.request_words.specs.declared.resource.ResourceName.TheVariants.{Name, Id}

-- `@NAME`, or the digits of the Resource-ID
unfoldable pub resource_text : ResourceName → List ℕ
resource_text (Name name) = at_name name
resource_text (Id resource) = id_text resource.0

-- a name, or a number of 128 bits
abbrev pub IsResource : ResourceName → Type 0
IsResource (Name name) = IsName name
IsResource (Id resource) = resource.0 < 2 ^ 128

-- a resource by what is behind an `@`
abbrev pub named_resource : List ℕ → Option (List ℕ) → Option ResourceName
named_resource word (Some name) = do
  fits ← allowed (is_name name)
  Some (Name name)
named_resource word None = do
  id ← id_of word
  Some (Id (record { 0 = id }))

-- the resource of a word
unfoldable pub resource_of : List ℕ → Option ResourceName
resource_of word = named_resource word (behind (codes "@") word)
