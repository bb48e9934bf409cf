-- The words of resources are read exactly where they are what they spell.
use Rattle.std.proofs.Common.{◌≡◌, ℕ, ◌^◌, ◌<◌, List, [], ◌∷◌, ◌++◌, Option, Some, None, refl, ap, subst, ◌∙◌}
use Rattle.std.specs.Prelude.{codes}
use Rattle.std.proofs.lemmas.Option.{same_Some}
use Rattle.text_words.specs.Codec.{IsCodec}
use Rattle.text_words.specs.Id.{id_of, id_text}
use Rattle.text_words.specs.Labelled.{at_name}
use Rattle.text_words.specs.Name.{is_name, IsName}
use Rattle.text_words.specs.Separator.{Lacks, behind}
use Rattle.text_words.specs.Steps.{◌>>=◌, allowed}
use Rattle.text_words.proofs.IdLaws.{id_codec}
use Rattle.text_words.proofs.Lacking.{Lacks-fixed, id_text-has_no, name-has_no}
use Rattle.text_words.proofs.NameLaws.{is_name-IsName}
use Rattle.text_words.proofs.SeparatorLaws.{Lacks-append, behind-takes, behind-append, behind-other}
use Rattle.text_words.proofs.StepsLaws.{bind_some, allowed_some}
use Rattle.request_words.specs.declared.resource.ResourceName.{ResourceName}
use Rattle.request_words.specs.declared.resource.ResourceName.TheVariants.{Name, Id}
use Rattle.request_words.specs.Resources.{named_resource, resource_of, resource_text, IsResource}

abbrev SpellsResource : List ℕ → ResourceName → Type 0
SpellsResource word resource = IsResource resource × (word ≡ resource_text resource)

resource_of-takes : (word : List ℕ) (resource : ResourceName) → resource_of word ≡ Some resource → SpellsResource word resource
unfolding resource_of resource_text at_name
resource_of-takes word resource e = by_sign (behind (codes "@") word) refl e
  where
    by_sign : (found : Option (List ℕ)) → behind (codes "@") word ≡ found → named_resource word found ≡ Some resource → SpellsResource word resource
    by_sign None other e =
        let a = bind_some (id_of word) _ resource e in
        subst (SpellsResource word) (same_Some (Id (record { 0 = a.0 })) resource a.2) (id_codec.takes word a.0 a.1)
    by_sign (Some name) is e =
        let a = bind_some (allowed (is_name name)) _ resource e in
        subst (SpellsResource word) (same_Some (Name name) resource a.2) ((is_name-IsName name).0 (allowed_some (is_name name) a.0 a.1), behind-takes (codes "@") word name is)

named-again : (name : List ℕ) → IsName name → named_resource (codes "@" ++ name) (behind (codes "@") (codes "@" ++ name)) ≡ Some (Name name)
named-again name is = rw (behind-append (codes "@") name, (is_name-IsName name).1 is) refl

id-again : (id : ℕ) → id < 2 ^ 128 → named_resource (id_text id) (behind (codes "@") (id_text id)) ≡ Some (Id (record { 0 = id }))
id-again id is = rw (behind-other 64 [] (id_text id) (id_text-has_no 64 id refl), id_codec.again id is) refl

resource_of-again : (resource : ResourceName) → IsResource resource → resource_of (resource_text resource) ≡ Some resource
unfolding resource_of resource_text at_name
resource_of-again (Name name) is = named-again name is
resource_of-again (Id resource) is = id-again resource.0 is

pub resource_codec : IsCodec resource_of resource_text IsResource
resource_codec = record { takes = resource_of-takes; again = resource_of-again }

pub resource_text-lacks : (resource : ResourceName) → IsResource resource → Lacks 32 (resource_text resource)
unfolding resource_text at_name
resource_text-lacks (Name name) is = Lacks-append 32 (codes "@") name (Lacks-fixed 32 (codes "@") refl) (name-has_no 32 name is refl)
resource_text-lacks (Id resource) is = id_text-has_no 32 resource.0 refl
