-- `store C P RES [ttl=N] GROUP..`
use Rattle.std.specs.Prelude.{◌≡◌, ℕ, ◌≤◌, List, Option, Some, None, IfSome, ◌++◌, codes}
use Rattle.std.specs.List.{flat_map}
use Rattle.text_words.specs.Labelled.{labelled_words, optional_of}
use Rattle.text_words.specs.Steps.{◌>>=◌}
use Rattle.scenario_text.specs.declared.scenario.StoreEvent.{StoreEvent}
use Rattle.request_words.specs.Groups.{group_words, groups_of, AreGroups}
use Rattle.scenario_text.specs.Requests.{address_of, address_words, IsAddress}

-- the words behind `store`
abbrev pub store_words : StoreEvent → List (List ℕ)
store_words e =
    address_words (record { client = e.client; peer = e.peer; resource = e.resource })
    (labelled_words (codes "ttl=") e.ttl ++ (labelled_words (codes "seq=") e.seq
    ++ flat_map group_words e.groups))

-- the Store that words say
unfoldable pub store_of : List (List ℕ) → Option StoreEvent
store_of words = do
  address ← address_of words
  ttl ← optional_of (codes "ttl=") 255 address.1
  groups ← groups_of ttl.1
  Some (record {
    client = address.0.client;
    peer = address.0.peer;
    resource = address.0.resource;
    ttl = ttl.0;
    seq = None;
    groups = groups;
  })

-- a Store within its limits; no line says a configuration yet
pub record IsStore (e : StoreEvent) : Type 0 where
  pub address : IsAddress (record { client = e.client; peer = e.peer; resource = e.resource })
  pub ttl : IfSome e.ttl (λ n. n ≤ 255)
  pub seq : e.seq ≡ None
  pub groups : AreGroups e.groups
