-- `fetch C P RES [ttl=N] [max=N] SPEC..`
use Rattle.std.specs.Prelude.{◌≡◌, ℕ, ◌-◌, ◌^◌, ◌≤◌, ◌==◌, ◌&&◌, not, Bool, true, false, List, [], ◌∷◌, ◌++◌, length, map, Option, Some, None, IfSome, codes}
use Rattle.std.specs.List.{AllByRecursion, list_all}
use Rattle.text_words.specs.Labelled.{labelled_words, optional_of}
use Rattle.text_words.specs.Steps.{◌>>=◌, allowed, each_of}
use Rattle.data_models.specs.declared.fetched.Selector.{Selector}
use Rattle.data_models.specs.declared.fetched.Selector.TheVariants.{Whole, Ranges, Names, Raw}
use Rattle.scenario_text.specs.declared.scenario.FetchEvent.{FetchEvent}
use Rattle.request_words.specs.declared.specifier.SpecifierWord.{SpecifierWord}
use Rattle.scenario_text.specs.Requests.{address_of, address_words, IsAddress}
use Rattle.request_words.specs.Specifiers.{specifier_of, specifier_text, IsSpecifier}

-- a scenario asks for no empty list of ranges, and for no kind's bytes
abbrev pub is_asked : Selector → Bool
is_asked (Ranges []) = false
is_asked (Raw bytes) = false
is_asked selector = true

-- at least one kind
unfoldable pub are_asked : List SpecifierWord → Bool
are_asked specifiers =
    not (length specifiers == 0) && list_all (λ specifier. is_asked specifier.selector) specifiers

-- the words behind `fetch`
abbrev pub fetch_words : FetchEvent → List (List ℕ)
fetch_words e =
    address_words (record { client = e.client; peer = e.peer; resource = e.resource })
    (labelled_words (codes "ttl=") e.ttl ++ (labelled_words (codes "seq=") e.seq
    ++ (labelled_words (codes "max=") e.max
    ++ map specifier_text e.specifiers)))

-- the Fetch that words say
unfoldable pub fetch_of : List (List ℕ) → Option FetchEvent
fetch_of words = do
  address ← address_of words
  ttl ← optional_of (codes "ttl=") 255 address.1
  max ← optional_of (codes "max=") (2 ^ 32 - 1) ttl.1
  specifiers ← each_of specifier_of max.1
  fits ← allowed (are_asked specifiers)
  Some (record {
    client = address.0.client;
    peer = address.0.peer;
    resource = address.0.resource;
    ttl = ttl.0;
    seq = None;
    max = max.0;
    specifiers = specifiers;
  })

-- a Fetch within its limits; no line says a configuration yet
pub record IsFetch (e : FetchEvent) : Type 0 where
  pub address : IsAddress (record { client = e.client; peer = e.peer; resource = e.resource })
  pub ttl : IfSome e.ttl (λ n. n ≤ 255)
  pub seq : e.seq ≡ None
  pub max : IfSome e.max (λ most. most ≤ 2 ^ 32 - 1)
  pub asked : are_asked e.specifiers ≡ true
  pub specifiers : AllByRecursion IsSpecifier e.specifiers
