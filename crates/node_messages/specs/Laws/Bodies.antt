-- It is decided whether contents have a spelling.
use Rattle.std.proofs.Common.{ℕ, ◌<◌, ◌^◌, List, length, All}
use Rattle.std.proofs.Math.Decide.{map_dec}
use Rattle.reload_ids.specs.declared.NodeId.{NodeId}
use Rattle.data_models.specs.declared.fetched.StoreKind.{StoreKind}
use Rattle.data_models.specs.declared.fetched.Specifier.{Specifier}
use Rattle.data_models.specs.StoreKinds.{IsSpelledStoreKind}
use Rattle.data_models.specs.Specifiers.{IsSpelledSpecifier}
use Rattle.path_diagnostics.specs.declared.diag_response.DiagResponse.{DiagResponse}
use Rattle.path_diagnostics.specs.DiagResponses.{diag_infos, IsSpelledDiagInfo, IsSpelledDiagResponse}
use Rattle.message_bodies.specs.declared.store_ans.StoreKindResponse.{StoreKindResponse}
use Rattle.message_bodies.specs.declared.leave.ChordLeave.{ChordLeave}
use Rattle.message_bodies.specs.declared.leave.ChordLeave.TheVariants as leaves
use Rattle.message_bodies.specs.declared.update.ChordUpdate.{ChordUpdate}
use Rattle.message_bodies.specs.declared.update.ChordUpdate.TheVariants as updates
use Rattle.message_bodies.specs.declared.body.Body.{Body}
use Rattle.message_bodies.specs.declared.body.Body.TheVariants as bodies
use Rattle.message_bodies.specs.declared.contents.Contents.{Contents}
use Rattle.message_bodies.specs.NodeIds.{node_ids}
use Rattle.message_bodies.specs.Probe.{probe_questions}
use Rattle.message_bodies.specs.ProbeAns.{probe_facts}
use Rattle.message_bodies.specs.Store.{store_kinds, IsSpelledKinds}
use Rattle.message_bodies.specs.StoreAns.{store_responses, IsSpelledStoreResponse, IsSpelledStoreAns}
use Rattle.message_bodies.specs.Fetch.{specifiers, IsSpelledFetch}
use Rattle.message_bodies.specs.Leave.{chord_leave, IsSpelledChordLeave, IsSpelledLeave}
use Rattle.message_bodies.specs.Update.{FitNodes, IsSpelledChordUpdate}
use Rattle.message_bodies.specs.Bodies.{has_layout, bytes_of, IsSpelledBody}
use Rattle.message_bodies.specs.Extensions.{extensions, IsSpelledExtension}
use Rattle.message_bodies.specs.Contents.{IsSpelledContents}
use Rattle.node_messages.specs.Laws.Decided.{both, each, fewer, is_false}
use Rattle.node_messages.specs.Laws.Values.{store_kind_spelled, specifier_spelled}

nodes_fit : (nodes : List NodeId) → Dec (FitNodes nodes)
nodes_fit nodes = fewer (node_ids nodes) (2 ^ 16)

kinds_spelled : (kinds : List StoreKind) → Dec (IsSpelledKinds kinds)
kinds_spelled kinds =
    map_dec (λ p. record { each = p.0; fits = p.1 }) (λ s. (s.each, s.fits))
    (both (each IsSpelledStoreKind store_kind_spelled kinds) (fewer (store_kinds kinds) (2 ^ 32)))

fetch_spelled : (ss : List Specifier) → Dec (IsSpelledFetch ss)
fetch_spelled ss =
    map_dec (λ p. record { each = p.0; fits = p.1 }) (λ s. (s.each, s.fits))
    (both (each IsSpelledSpecifier specifier_spelled ss) (fewer (specifiers ss) (2 ^ 16)))

store_ans_spelled : (rs : List StoreKindResponse) → Dec (IsSpelledStoreAns rs)
store_ans_spelled rs =
    map_dec (λ p. record { each = p.0; fits = p.1 }) (λ s. (s.each, s.fits))
    (both (each IsSpelledStoreResponse (λ r. nodes_fit r.replicas) rs)
    (fewer (store_responses rs) (2 ^ 16)))

chord_leave_spelled : (told : ChordLeave) → Dec (IsSpelledChordLeave told)
chord_leave_spelled (leaves.FromSucc nodes) = nodes_fit nodes
chord_leave_spelled (leaves.FromPred nodes) = nodes_fit nodes

leave_spelled : (told : ChordLeave) → Dec (IsSpelledLeave told)
leave_spelled told =
    map_dec (λ p. record { each = p.0; fits = p.1 }) (λ s. (s.each, s.fits))
    (both (chord_leave_spelled told) (fewer (chord_leave told) (2 ^ 16)))

update_spelled : (told : ChordUpdate) → Dec (IsSpelledChordUpdate told)
update_spelled updates.PeerReady = yes tt
update_spelled (updates.Neighbors before behind) = both (nodes_fit before) (nodes_fit behind)
update_spelled (updates.Full before behind fingers) =
    map_dec (λ p. (p.0, p.1.0, p.1.1)) (λ s. (s.0, (s.1, s.2)))
    (both (nodes_fit before) (both (nodes_fit behind) (nodes_fit fingers)))

diag_response_spelled : (d : DiagResponse) → Dec (IsSpelledDiagResponse d)
diag_response_spelled d =
    map_dec (λ p. record { each = p.0; fits = p.1 }) (λ s. (s.each, s.fits))
    (both (each IsSpelledDiagInfo (λ i. fewer i.value (2 ^ 16)) d.info)
    (fewer (diag_infos d.info) (2 ^ 16)))

body_spelled : (b : Body) → Dec (IsSpelledBody b)
unfolding IsSpelledBody
body_spelled (bodies.Probe asks) = fewer (probe_questions asks) (2 ^ 8)
body_spelled (bodies.ProbeAns facts) = fewer (probe_facts facts) (2 ^ 16)
body_spelled (bodies.Store resource replica kinds) = kinds_spelled kinds
body_spelled (bodies.StoreAns responses) = store_ans_spelled responses
body_spelled (bodies.Fetch resource specifiers) = fetch_spelled specifiers
body_spelled (bodies.FetchAns kinds) = kinds_spelled kinds
body_spelled (bodies.Join peer bytes) = fewer bytes (2 ^ 16)
body_spelled (bodies.JoinAns bytes) = fewer bytes (2 ^ 16)
body_spelled (bodies.Leave peer told) = leave_spelled told
body_spelled bodies.LeaveAns = yes tt
body_spelled (bodies.Update uptime told) = update_spelled told
body_spelled bodies.UpdateAns = yes tt
body_spelled (bodies.Ping padding) = fewer padding (2 ^ 16)
body_spelled (bodies.PingAns id time) = yes tt
body_spelled (bodies.PathTrack t) = yes tt
body_spelled (bodies.PathTrackAns t) = diag_response_spelled t.diag
body_spelled (bodies.Error code info) = fewer info (2 ^ 16)
body_spelled (bodies.Other code bytes) = is_false (has_layout code)

pub contents_spelled : (c : Contents) → Dec (IsSpelledContents c)
contents_spelled c =
    map_dec (λ p. record { body = p.0; each = p.1.0; body_fits = p.1.1.0; fits = p.1.1.1 })
    (λ s. (s.body, (s.each, (s.body_fits, s.fits))))
    (both (body_spelled c.body)
    (both (each IsSpelledExtension (λ e. fewer e.contents (2 ^ 32)) c.extensions)
    (both (fewer (bytes_of c.body) (2 ^ 32)) (fewer (extensions c.extensions) (2 ^ 32)))))
