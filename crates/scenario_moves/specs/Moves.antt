-- What the events of a scenario make a world do.
use Rattle.std.specs.Prelude.{ℕ, Bool, true, false, List, [], map, replicate, codes, unwrap_or}
use Rattle.reload_ids.specs.Ids.{resource_id}
use Rattle.wire_core.specs.declared.signature.Signature.{Signature}
use Rattle.wire_core.specs.declared.signature.SignerIdentity.TheVariants as signers
use Rattle.text_words.specs.Separator.{byte_of}
use Rattle.data_models.specs.declared.stored_data.StoredData.{StoredData}
use Rattle.data_models.specs.declared.fetched.Specifier.{Specifier}
use Rattle.data_models.specs.declared.fetched.StoreKind.{StoreKind}
use Rattle.data_models.specs.declared.fetched.KindValues.TheVariants.{Known}
use Rattle.request_words.specs.declared.groups.GroupWords.{GroupWords}
use Rattle.request_words.specs.declared.value.ValueWord.{ValueWord}
use Rattle.request_words.specs.declared.specifier.SpecifierWord.{SpecifierWord}
use Rattle.request_words.specs.declared.resource.ResourceName.{ResourceName}
use Rattle.request_words.specs.declared.resource.ResourceName.TheVariants.{Name, Id}
use Rattle.request_words.specs.declared.data.Data.{Data}
use Rattle.request_words.specs.declared.data.Data.TheVariants.{Nonexistent, Bytes, Fill}
use Rattle.scenario_text.specs.declared.scenario.EventKind.{EventKind}
use Rattle.scenario_text.specs.declared.scenario.EventKind.TheVariants.{Clock, Deliver, Lose, Drain, Store, Fetch}
use Rattle.scenario_text.specs.declared.scenario.StoreEvent.{StoreEvent}
use Rattle.scenario_text.specs.declared.scenario.FetchEvent.{FetchEvent}
use Rattle.node_model.specs.declared.command.StoreCommand.{StoreCommand}
use Rattle.node_model.specs.declared.command.FetchCommand.{FetchCommand}
use Rattle.node_model.specs.declared.command.Command.TheVariants as commands
use Rattle.run_model.specs.declared.moves.Move.{Move}
use Rattle.run_model.specs.declared.moves.Move.TheVariants as moves

-- ---- words

-- the Resource-ID that a scenario names
abbrev pub id_of_resource : ResourceName → ℕ
id_of_resource (Name name) = resource_id name
id_of_resource (Id resource) = resource.0

-- whether a value exists
abbrev pub is_present : Data → Bool
is_present Nonexistent = false
is_present (Bytes bytes) = true
is_present (Fill n) = true

-- a value's bytes, none where it doesn't exist
abbrev pub bytes_of : Data → List ℕ
bytes_of Nonexistent = []
bytes_of (Bytes bytes) = bytes
bytes_of (Fill n) = replicate n (byte_of (codes "a"))

-- a signature as long as those of the stand-in signer; nobody looks at it
unfoldable pub blank_signature : Signature
blank_signature = record {
  hash = 4;
  algorithm = 224;
  identity = signers.CertHash 4 (replicate 32 0);
  value = replicate 32 0;
}

-- the StoredData of a value
unfoldable pub stored_of : ValueWord → StoredData
stored_of w = record {
  key = w.key;
  storage_time = w.storage_time;
  lifetime = w.lifetime;
  present = is_present w.value;
  value = bytes_of w.value;
  signature = blank_signature;
}

-- a kind of a Fetch
unfoldable pub specifier_of : SpecifierWord → Specifier
specifier_of w = record {
  kind = w.kind;
  generation = unwrap_or w.generation 0;
  selector = w.selector;
}

-- ---- commands

-- the values of a kind, as a client is told to store them
unfoldable pub kind_of : GroupWords → StoreKind
kind_of g = record {
  kind = g.kind;
  generation = g.generation;
  values = Known (map stored_of g.values);
}

-- a Store, as a client is told to ask for it: the event names the peer, so Node-ID 0 stands here
unfoldable pub store_command : StoreEvent → StoreCommand
store_command e = record {
  peer = record { 0 = 0 };
  resource = record { 0 = id_of_resource e.resource };
  ttl = e.ttl;
  sequence = e.seq;
  kinds = map kind_of e.groups;
}

-- a Fetch, as a client is told to ask for it: the event names the peer, so Node-ID 0 stands here
unfoldable pub fetch_command : FetchEvent → FetchCommand
fetch_command e = record {
  peer = record { 0 = 0 };
  resource = record { 0 = id_of_resource e.resource };
  ttl = e.ttl;
  sequence = e.seq;
  max = unwrap_or e.max 0;
  specifiers = map specifier_of e.specifiers;
}

-- ---- events

-- what an event makes a world do
abbrev pub move_of : EventKind → Move
move_of (Clock ms) = moves.Clock ms
move_of (Deliver k) = moves.Deliver k
move_of (Lose k) = moves.Lose k
move_of (Drain n) = moves.Drain n
move_of (Store e) = moves.Ask e.client e.peer (commands.Store (store_command e))
move_of (Fetch e) = moves.Ask e.client e.peer (commands.Fetch (fetch_command e))
