-- The lines of a transcript.
use Rattle.std.specs.Prelude.{ℕ, ◌==◌, ◌&&◌, Bool, true, false, List, [], ◌∷◌, ◌++◌, Option, Some, None, option_map, find, codes, if◌then◌else◌}
use Rattle.std.specs.List.{flat_map}
use Rattle.std.specs.Fmt.{decimal}
use Rattle.std.specs.Str.{bytes_eq}
use Rattle.text_words.specs.Id.{id_text}
use Rattle.text_words.specs.Labelled.{labelled}
use Rattle.text_words.specs.Lines.{ended, spaced, spaced_by}
use Rattle.text_words.specs.Transaction.{transaction_text}
use Rattle.security_block.specs.declared.about.About.{About}
use Rattle.data_models.specs.declared.stored_data.StoredData.{StoredData}
use Rattle.data_models.specs.declared.fetched.Specifier.{Specifier}
use Rattle.data_models.specs.declared.fetched.StoreKind.{StoreKind}
use Rattle.data_models.specs.declared.fetched.KindValues.{KindValues}
use Rattle.data_models.specs.declared.fetched.KindValues.TheVariants.{Known, Raw}
use Rattle.storage_model.specs.declared.request.AskedValues.{AskedValues}
use Rattle.storage_model.specs.declared.request.AskedValues.TheVariants as group
use Rattle.storage_model.specs.declared.request.Value.{Value}
use Rattle.storage_model.specs.declared.request.AskedKind.{AskedKind}
use Rattle.storage_model.specs.declared.request.StoreAsked.{StoreAsked}
use Rattle.storage_model.specs.declared.request.FetchAsked.{FetchAsked}
use Rattle.storage_model.specs.declared.request.JoinAsked.{JoinAsked}
use Rattle.storage_model.specs.declared.request.Asked.{Asked}
use Rattle.storage_model.specs.declared.request.Asked.TheVariants as asked
use Rattle.storage_model.specs.declared.answer.Answer.{Answer}
use Rattle.storage_model.specs.declared.answer.Answer.TheVariants.{Decided, Found, Joined}
use Rattle.storage_model.specs.Decisions.{Decision}
use Rattle.request_words.specs.declared.data.Data.{Data}
use Rattle.request_words.specs.declared.data.Data.TheVariants.{Nonexistent, Bytes}
use Rattle.request_words.specs.declared.node.DeclaredNode.{DeclaredNode}
use Rattle.request_words.specs.declared.node.Role.{Role}
use Rattle.request_words.specs.declared.node.Role.TheVariants.{Peer, Client}
use Rattle.request_words.specs.declared.value.ValueWord.{ValueWord}
use Rattle.request_words.specs.Nodes.{is_role}
use Rattle.request_words.specs.Raw.{raw_text}
use Rattle.request_words.specs.Groups.{head_text}
use Rattle.request_words.specs.Specifiers.{specifier_text}
use Rattle.request_words.specs.Values.{value_text}
use Rattle.transcript_text.specs.Words.{counter_text, decided_text, number_text}

-- the bytes of a value, and all of it, as words tell them
abbrev pub datum_of : StoredData → Data
datum_of stored = if stored.present then Bytes stored.value else Nonexistent

-- a stored value as its word tells it
abbrev pub word_of : StoredData → ValueWord
word_of stored =
    record {
      key = stored.key;
      storage_time = stored.storage_time;
      lifetime = stored.lifetime;
      value = datum_of stored;
    }

-- KEY:TIME:LIFE:DATA
unfoldable pub stored_text : StoredData → List ℕ
stored_text stored = value_text (word_of stored)

-- the number of the node with a Node-ID, and of the node that a certificate is about
unfoldable pub number_of : List DeclaredNode → ℕ → Option ℕ
number_of nodes id = option_map (λ node. node.number) (find (λ node. node.node.0 == id) nodes)

-- the role of a certificate: of a peer or a client
abbrev pub role_of : Bool → Role
role_of true = Peer
role_of false = Client

-- a node is the one that a certificate is about: by Node-ID, role and user
unfoldable pub is_about : About → DeclaredNode → Bool
is_about about node =
    node.node.0 == about.node.0 && is_role (role_of about.peer) node.role
    && bytes_eq node.user about.user

-- the number of the node that signed, where one did
unfoldable pub signer_of : List DeclaredNode → Option About → Option ℕ
signer_of nodes None = None
signer_of nodes (Some about) = option_map (λ node. node.number) (find (is_about about) nodes)

-- KEY:TIME:LIFE:DATA:SIGNER:SIZE
unfoldable pub asked_value : List DeclaredNode → Value → List ℕ
asked_value nodes v =
    decided_text (record {
      value = word_of v.stored;
      signer = signer_of nodes v.signer;
      size = v.size;
    })

-- the values that are asked for, and the bytes of those of a kind without a definition
abbrev pub asked_values : List DeclaredNode → AskedValues → List ℕ
asked_values nodes (group.Known values) = flat_map (spaced_by (asked_value nodes)) values
asked_values nodes (group.Raw bytes) = spaced (raw_text bytes)

-- kind=ID/GEN and its values
unfoldable pub asked_kind : List DeclaredNode → AskedKind → List ℕ
asked_kind nodes a = head_text a.kind a.generation ++ asked_values nodes a.values

-- KIND/GEN[:SEL]
abbrev pub asked_specifier : Specifier → List ℕ
asked_specifier s =
    specifier_text (record { kind = s.kind; generation = Some s.generation; selector = s.selector })

-- the word for an unknown critical extension
abbrev pub strange_text : Bool → List ℕ
strange_text true = spaced (codes "strange")
strange_text false = []

-- who asks, with which transaction id, and whether strangely
unfoldable pub asker_text : List DeclaredNode → ℕ → ℕ → Bool → List ℕ
asker_text nodes origin id strange =
    spaced (number_text (number_of nodes origin)) ++ spaced (transaction_text id)
    ++ strange_text strange

-- a Store, as a decision tells it
unfoldable pub store_text : List DeclaredNode → ℕ → ℕ → StoreAsked → List ℕ
store_text nodes origin id q =
    codes "store" ++ asker_text nodes origin id q.strange
    ++ flat_map (spaced_by (asked_kind nodes)) q.kinds

-- a Fetch, as a decision tells it
unfoldable pub fetch_text : List DeclaredNode → ℕ → ℕ → FetchAsked → List ℕ
fetch_text nodes origin id q =
    codes "fetch" ++ asker_text nodes origin id q.strange ++ spaced (labelled (codes "max=") q.max)
    ++ flat_map (spaced_by asked_specifier) q.specifiers

-- a Join, as a decision tells it
unfoldable pub join_text : List DeclaredNode → ℕ → ℕ → JoinAsked → List ℕ
join_text nodes origin id q = codes "join" ++ asker_text nodes origin id q.strange

-- what a peer is asked to decide
abbrev pub request_text : List DeclaredNode → ℕ → ℕ → Asked → List ℕ
request_text nodes origin id asked.Bad = codes "bad"
request_text nodes origin id asked.Unsigned = codes "unsigned"
request_text nodes origin id (asked.Store q) = store_text nodes origin id q
request_text nodes origin id (asked.Fetch q) = fetch_text nodes origin id q
request_text nodes origin id (asked.Join q) = join_text nodes origin id q

-- the values that were found, and the bytes of a kind without a definition
abbrev pub found_values : KindValues → List ℕ
found_values (Known values) = flat_map (spaced_by stored_text) values
found_values (Raw bytes) = spaced (raw_text bytes)

-- kind=ID/GEN and the values that were found
unfoldable pub found_kind : StoreKind → List ℕ
found_kind kind = head_text kind.kind kind.generation ++ found_values kind.values

-- ok, or an error's code
unfoldable pub code_text : ℕ → List ℕ
code_text code =
    if code == 0 then spaced (codes "ok") else spaced (codes "error") ++ spaced (decimal code)

-- an answer, each word behind a space
unfoldable pub answer_text : Answer → List ℕ
answer_text (Decided code counters) = code_text code ++ flat_map (spaced_by counter_text) counters
answer_text (Found kinds) = flat_map (spaced_by found_kind) kinds
answer_text Joined = spaced (codes "joined")

-- decide P T RES
unfoldable pub place_text : ℕ → ℕ → ℕ → List ℕ
place_text peer time resource =
    codes "decide" ++ spaced (decimal peer) ++ spaced (decimal time) ++ spaced (id_text resource)

-- decide P T RES REQUEST -> ANSWER
unfoldable pub decided_line : List DeclaredNode → ℕ → ℕ → ℕ → ℕ → ℕ → Asked → Answer → List ℕ
decided_line nodes peer time resource origin id request answer =
    place_text peer time resource ++ spaced (request_text nodes origin id request)
    ++ spaced (codes "->")
    ++ answer_text answer

-- the line of a decision, whatever its configuration
abbrev pub decide_line : List DeclaredNode → Decision → List ℕ
decide_line nodes d =
    decided_line nodes d.peer d.time d.resource d.origin.0 d.id d.asked d.answer

-- bad line N
unfoldable pub bad_line : ℕ → List ℕ
bad_line n = codes "bad line" ++ spaced (decimal n)

-- air full B
unfoldable pub air_full_line : ℕ → List ℕ
air_full_line bytes = codes "air full" ++ spaced (decimal bytes)

-- node full N
unfoldable pub node_full_line : ℕ → List ℕ
node_full_line number = codes "node full" ++ spaced (decimal number)
