-- Bodies by their message codes: their spelling, and how they are read (RFC 6940, 6.3.3).
use Rattle.std.specs.Prelude.{◌≡◌, ℕ, ◌<◌, ◌^◌, ◌==◌, List, [], ◌∷◌, length, All, Bool, true, false, if◌then◌else◌}
use Rattle.std.specs.List.{list_any}
use Rattle.wire_core.specs.Spelling.{AreBytes}
use Rattle.wire_core.specs.Reading.{Reader, ◌>>=◌, done, rest_at}
use Rattle.data_models.specs.declared.config.Config.{Config}
use Rattle.data_models.specs.StoreKinds.{IsStoreKindInRange, IsStoreKindOf}
use Rattle.data_models.specs.Specifiers.{IsSpecifierOf}
use Rattle.path_diagnostics.specs.Tracks.{track_request, track_answer, IsSpelledTrackAnswer, IsTrackRequestInRange, IsTrackAnswerInRange}
use Rattle.message_bodies.specs.declared.code.TheConstants.{PROBE, PROBE_ANS, STORE, STORE_ANS, FETCH, FETCH_ANS, JOIN, JOIN_ANS, LEAVE, LEAVE_ANS, UPDATE, UPDATE_ANS, PING, PING_ANS, PATH_TRACK, PATH_TRACK_ANS, ERROR}
use Rattle.message_bodies.specs.declared.body.Body.{Body}
use Rattle.message_bodies.specs.declared.body.Body.TheVariants as bodies
use Rattle.message_bodies.specs.Probe.{probe, probe_at, IsSpelledProbe}
use Rattle.message_bodies.specs.ProbeAns.{probe_ans, probe_ans_at, IsSpelledProbeAns, IsProbeFactInRange}
use Rattle.message_bodies.specs.Store.{store, store_at, IsSpelledKinds, IsStoreInRange}
use Rattle.message_bodies.specs.StoreAns.{store_ans, store_ans_at, IsSpelledStoreAns, IsStoreResponseInRange}
use Rattle.message_bodies.specs.Fetch.{fetch, fetch_at, IsSpelledFetch, IsFetchInRange}
use Rattle.message_bodies.specs.FetchAns.{fetch_ans, fetch_ans_at}
use Rattle.message_bodies.specs.Join.{join, join_at, IsJoinInRange}
use Rattle.message_bodies.specs.JoinAns.{join_ans, join_ans_at}
use Rattle.message_bodies.specs.Leave.{leave, leave_at, IsSpelledLeave, IsLeaveInRange}
use Rattle.message_bodies.specs.Update.{update, update_at, IsSpelledChordUpdate, IsUpdateInRange}
use Rattle.message_bodies.specs.Ping.{ping, ping_at}
use Rattle.message_bodies.specs.PingAns.{ping_ans, ping_ans_at}
use Rattle.message_bodies.specs.PathTrack.{path_track_at, path_track_ans_at}
use Rattle.message_bodies.specs.Error.{error, error_at, IsErrorInRange}

-- whether there is a layout for the body of a message with this code
unfoldable pub has_layout : ℕ → Bool
has_layout code = list_any (λ known. code == known)
    (PROBE ∷ PROBE_ANS ∷ STORE ∷ STORE_ANS ∷ FETCH ∷ FETCH_ANS ∷ JOIN ∷ JOIN_ANS ∷ LEAVE ∷ LEAVE_ANS
    ∷ UPDATE ∷ UPDATE_ANS
    ∷ PING ∷ PING_ANS ∷ PATH_TRACK ∷ PATH_TRACK_ANS ∷ ERROR ∷ [])

-- a body's message code
unfoldable pub code_of : Body → ℕ
code_of (bodies.Probe asks) = PROBE
code_of (bodies.ProbeAns facts) = PROBE_ANS
code_of (bodies.Store resource replica kinds) = STORE
code_of (bodies.StoreAns responses) = STORE_ANS
code_of (bodies.Fetch resource specifiers) = FETCH
code_of (bodies.FetchAns kinds) = FETCH_ANS
code_of (bodies.Join peer bytes) = JOIN
code_of (bodies.JoinAns bytes) = JOIN_ANS
code_of (bodies.Leave peer told) = LEAVE
code_of bodies.LeaveAns = LEAVE_ANS
code_of (bodies.Update uptime told) = UPDATE
code_of bodies.UpdateAns = UPDATE_ANS
code_of (bodies.Ping padding) = PING
code_of (bodies.PingAns id time) = PING_ANS
code_of (bodies.PathTrack t) = PATH_TRACK
code_of (bodies.PathTrackAns t) = PATH_TRACK_ANS
code_of (bodies.Error code info) = ERROR
code_of (bodies.Other code bytes) = code

-- a body's bytes; those of an unknown code are as they are
unfoldable pub bytes_of : Body → List ℕ
bytes_of (bodies.Probe asks) = probe asks
bytes_of (bodies.ProbeAns facts) = probe_ans facts
bytes_of (bodies.Store resource replica kinds) = store resource replica kinds
bytes_of (bodies.StoreAns responses) = store_ans responses
bytes_of (bodies.Fetch resource specifiers) = fetch resource specifiers
bytes_of (bodies.FetchAns kinds) = fetch_ans kinds
bytes_of (bodies.Join peer bytes) = join peer bytes
bytes_of (bodies.JoinAns bytes) = join_ans bytes
bytes_of (bodies.Leave peer told) = leave peer told
bytes_of bodies.LeaveAns = []
bytes_of (bodies.Update uptime told) = update uptime told
bytes_of bodies.UpdateAns = []
bytes_of (bodies.Ping padding) = ping padding
bytes_of (bodies.PingAns id time) = ping_ans id time
bytes_of (bodies.PathTrack t) = track_request t
bytes_of (bodies.PathTrackAns t) = track_answer t
bytes_of (bodies.Error code info) = error code info
bytes_of (bodies.Other code bytes) = bytes

-- Each vector fits its length, and bytes of an unknown code have one that has no layout.
unfoldable pub IsSpelledBody : Body → Type 0
IsSpelledBody (bodies.Probe asks) = IsSpelledProbe asks
IsSpelledBody (bodies.ProbeAns facts) = IsSpelledProbeAns facts
IsSpelledBody (bodies.Store resource replica kinds) = IsSpelledKinds kinds
IsSpelledBody (bodies.StoreAns responses) = IsSpelledStoreAns responses
IsSpelledBody (bodies.Fetch resource specifiers) = IsSpelledFetch specifiers
IsSpelledBody (bodies.FetchAns kinds) = IsSpelledKinds kinds
IsSpelledBody (bodies.Join peer bytes) = length bytes < 2 ^ 16
IsSpelledBody (bodies.JoinAns bytes) = length bytes < 2 ^ 16
IsSpelledBody (bodies.Leave peer told) = IsSpelledLeave told
IsSpelledBody bodies.LeaveAns = Unit {0}
IsSpelledBody (bodies.Update uptime told) = IsSpelledChordUpdate told
IsSpelledBody bodies.UpdateAns = Unit {0}
IsSpelledBody (bodies.Ping padding) = length padding < 2 ^ 16
IsSpelledBody (bodies.PingAns id time) = Unit {0}
IsSpelledBody (bodies.PathTrack t) = Unit {0}
IsSpelledBody (bodies.PathTrackAns t) = IsSpelledTrackAnswer t
IsSpelledBody (bodies.Error code info) = length info < 2 ^ 16
IsSpelledBody (bodies.Other code bytes) = has_layout code ≡ false

-- each number fits its field
unfoldable pub IsBodyInRange : Body → Type 0
IsBodyInRange (bodies.Probe asks) = Unit {0}
IsBodyInRange (bodies.ProbeAns facts) = All IsProbeFactInRange facts
IsBodyInRange (bodies.Store resource replica kinds) = IsStoreInRange resource replica kinds
IsBodyInRange (bodies.StoreAns responses) = All IsStoreResponseInRange responses
IsBodyInRange (bodies.Fetch resource specifiers) = IsFetchInRange resource specifiers
IsBodyInRange (bodies.FetchAns kinds) = All IsStoreKindInRange kinds
IsBodyInRange (bodies.Join peer bytes) = IsJoinInRange peer bytes
IsBodyInRange (bodies.JoinAns bytes) = AreBytes bytes
IsBodyInRange (bodies.Leave peer told) = IsLeaveInRange peer told
IsBodyInRange bodies.LeaveAns = Unit {0}
IsBodyInRange (bodies.Update uptime told) = IsUpdateInRange uptime told
IsBodyInRange bodies.UpdateAns = Unit {0}
IsBodyInRange (bodies.Ping padding) = AreBytes padding
IsBodyInRange (bodies.PingAns id time) = (id < 2 ^ 64) × (time < 2 ^ 64)
IsBodyInRange (bodies.PathTrack t) = IsTrackRequestInRange t
IsBodyInRange (bodies.PathTrackAns t) = IsTrackAnswerInRange t
IsBodyInRange (bodies.Error code info) = IsErrorInRange code info
IsBodyInRange (bodies.Other code bytes) = (code < 2 ^ 16) × AreBytes bytes

-- Each kind's values, or what is wanted of them, are as a configuration says of the kind.
unfoldable pub IsBodyOf : Config → Body → Type 0
IsBodyOf config (bodies.Store resource replica kinds) = All (IsStoreKindOf config) kinds
IsBodyOf config (bodies.Fetch resource specifiers) = All (IsSpecifierOf config) specifiers
IsBodyOf config (bodies.FetchAns kinds) = All (IsStoreKindOf config) kinds
IsBodyOf config _ = Unit {0}

-- any bytes, of a code that has no layout
unfoldable pub other_at : ℕ → Reader Body
other_at code = do
  bytes ← rest_at
  done (bodies.Other code bytes)

-- the body of a message with this code that isn't about kinds
unfoldable pub overlay_body_at : ℕ → Reader Body
overlay_body_at code =
    if code == JOIN then join_at
    else (if code == JOIN_ANS then join_ans_at
    else (if code == LEAVE then leave_at
    else (if code == LEAVE_ANS then done bodies.LeaveAns
    else (if code == UPDATE then update_at
    else (if code == UPDATE_ANS then done bodies.UpdateAns
    else other_at code)))))

-- the body of a message with this code that asks a peer about itself, or an error
unfoldable pub peer_body_at : ℕ → Reader Body
peer_body_at code =
    if code == PROBE then probe_at
    else (if code == PROBE_ANS then probe_ans_at
    else (if code == PING then ping_at
    else (if code == PING_ANS then ping_ans_at
    else (if code == PATH_TRACK then path_track_at
    else (if code == PATH_TRACK_ANS then path_track_ans_at
    else (if code == ERROR then error_at
    else overlay_body_at code))))))

-- the body of a message with this code
unfoldable pub body_at : Config → ℕ → Reader Body
body_at config code =
    if code == STORE then store_at config
    else (if code == STORE_ANS then store_ans_at
    else (if code == FETCH then fetch_at config
    else (if code == FETCH_ANS then fetch_ans_at config
    else peer_body_at code)))
