-- The requests of a client (RFC 6940, 7.4).
use Rattle.std.specs.Prelude.{ℕ, [], ◌∷◌, map, Option, unwrap_or}
use Rattle.reload_ids.specs.declared.NodeId.{NodeId}
use Rattle.reload_ids.specs.declared.ResourceId.{ResourceId}
use Rattle.security_block.specs.declared.about.About.{About}
use Rattle.data_models.specs.declared.stored_data.StoredData.{StoredData}
use Rattle.data_models.specs.declared.fetched.StoreKind.{StoreKind}
use Rattle.data_models.specs.declared.fetched.KindValues.{KindValues}
use Rattle.data_models.specs.declared.fetched.KindValues.TheVariants.{Known, Raw}
use Rattle.data_models.specs.Stored.{signed_part}
use Rattle.forwarding_header.specs.declared.header.Header.{Header}
use Rattle.forwarding_header.specs.declared.destination.Destination.TheVariants as to
use Rattle.message_bodies.specs.declared.body.Body.{Body}
use Rattle.message_bodies.specs.declared.body.Body.TheVariants as bodies
use Rattle.node_messages.specs.Signed.{SignerWords}
use Rattle.node_model.specs.declared.command.StoreCommand.{StoreCommand}
use Rattle.node_model.specs.declared.command.FetchCommand.{FetchCommand}
use Rattle.node_model.specs.declared.question.Question.{Question}
use Rattle.node_model.specs.declared.question.Question.TheVariants as questions
use Rattle.node_model.specs.declared.limits.TheConstants.{MAX_TTL}
use Rattle.node_model.specs.Nodes.{Node, next_id, overlay_of}

-- a request that a client makes: to which peer, with which header and body, and what it asks for
pub record Request : Type 0 where
  pub peer : NodeId
  pub header : Header
  pub body : Body
  pub question : Question

-- the header of a node's next request for a resource: with a TTL, the number of a configuration and
-- a limit to its answer that it names, or else its own
unfoldable pub request_header : Node → ResourceId → Option ℕ → Option ℕ → ℕ → Header
request_header n resource ttl sequence max = record {
  overlay = overlay_of n;
  sequence = unwrap_or sequence n.config.sequence;
  ttl = unwrap_or ttl MAX_TTL;
  length = 0;
  id = next_id n;
  max_response = max;
  via = [];
  dest = to.Resource resource ∷ [];
  options = [];
}

-- a value that someone signs (RFC 6940, 7.1)
unfoldable pub signed_value : SignerWords → About → ℕ → ℕ → StoredData → StoredData
signed_value words who resource kind v =
    let certificate = words.certificate_of who in
    record v { signature = words.signature_of certificate (signed_part resource kind v) }

-- the values of a kind, each signed
abbrev pub signed_values : SignerWords → About → ℕ → ℕ → KindValues → KindValues
signed_values words who resource kind (Known vs) =
    Known (map (signed_value words who resource kind) vs)
signed_values words who resource kind (Raw bytes) = Raw bytes

-- a kind of a Store for a resource, whose values are signed
unfoldable pub signed_kind : SignerWords → About → ℕ → StoreKind → StoreKind
signed_kind words who resource k =
    record k { values = signed_values words who resource k.kind k.values }

-- a client's next Store
unfoldable pub store_request : SignerWords → Node → StoreCommand → Request
store_request words n c = record {
  peer = c.peer;
  header = request_header n c.resource c.ttl c.sequence 0;
  body = bodies.Store c.resource 0 (map (signed_kind words n.about c.resource.0) c.kinds);
  question = questions.Store;
}

-- a client's next Fetch
unfoldable pub fetch_request : Node → FetchCommand → Request
fetch_request n c = record {
  peer = c.peer;
  header = request_header n c.resource c.ttl c.sequence c.max;
  body = bodies.Fetch c.resource c.specifiers;
  question = questions.Fetch;
}
