-- A body is read, under its message code, as it is spelled.
use Rattle.std.proofs.Common.{◌≡◌, ℕ, ◌^◌, ◌<◌, false, eqb, List, [], ◌∷◌, ◌++◌, length, All, refl}
use Rattle.std.proofs.lemmas.List.{append-nil}
use Rattle.wire_core.specs.Spelling.{AreBytes, number, vector}
use Rattle.wire_core.specs.Ids.{node_id, resource_id}
use Rattle.wire_core.specs.Layout.{IsLayout}
use Rattle.wire_core.specs.Reading.{rest_at, vector_at, list_at}
use Rattle.wire_core.specs.Laws.Ids.{node_id_laid, resource_id_laid}
use Rattle.wire_core.specs.Laws.Lists.{vector_of}
use Rattle.wire_core.specs.Laws.Steps.{Anything, Nothing, Always, Lays, known, at_end}
use Rattle.wire_core.specs.Laws.Forms.{Takes, Again, HasCode, takes_made, again_made, forms_laid, again_end, done_takes, done_again, two_take, two_again, three_take, three_again}
use Rattle.wire_core.specs.Laws.Words.{number_laid, vector_laid, rest_laid}
use Rattle.data_models.specs.declared.config.Config.{Config}
use Rattle.data_models.specs.StoreKinds.{IsSpelledStoreKind, IsStoreKindInRange, IsStoreKindOf, store_kind_at}
use Rattle.data_models.specs.Specifiers.{specifier_at}
use Rattle.data_models.specs.Laws.StoreKinds.{store_kind_is_layout, store_kind-some}
use Rattle.data_models.specs.Laws.Specifiers.{specifier_is_layout, specifier-some}
use Rattle.path_diagnostics.specs.Laws.Tracks.{track_request_laid, track_answer_laid}
use Rattle.message_bodies.specs.declared.code.TheConstants.{PROBE, PROBE_ANS, STORE, STORE_ANS, FETCH, FETCH_ANS, JOIN, JOIN_ANS, LEAVE, LEAVE_ANS, UPDATE, UPDATE_ANS, PING, PING_ANS, PATH_TRACK, PATH_TRACK_ANS, ERROR}
use Rattle.message_bodies.specs.declared.body.Body.{Body}
use Rattle.message_bodies.specs.declared.body.Body.TheVariants as bodies
use Rattle.message_bodies.specs.Probe.{probe, probe_at}
use Rattle.message_bodies.specs.ProbeAns.{probe_ans, probe_ans_at}
use Rattle.message_bodies.specs.Store.{store_kinds, store, store_at}
use Rattle.message_bodies.specs.StoreAns.{store_ans, store_ans_at}
use Rattle.message_bodies.specs.Fetch.{specifiers, fetch, fetch_at}
use Rattle.message_bodies.specs.FetchAns.{fetch_ans, fetch_ans_at}
use Rattle.message_bodies.specs.Join.{join, join_at}
use Rattle.message_bodies.specs.JoinAns.{join_ans, join_ans_at}
use Rattle.message_bodies.specs.Leave.{leave, leave_at}
use Rattle.message_bodies.specs.Update.{update, update_at}
use Rattle.message_bodies.specs.Ping.{ping, ping_at}
use Rattle.message_bodies.specs.PingAns.{ping_ans, ping_ans_at}
use Rattle.message_bodies.specs.PathTrack.{path_track_at, path_track_ans_at}
use Rattle.message_bodies.specs.Error.{error, error_at}
use Rattle.message_bodies.specs.Bodies.{has_layout, code_of, bytes_of, IsSpelledBody, IsBodyInRange, IsBodyOf, other_at, overlay_body_at, peer_body_at, body_at}
use Rattle.message_bodies.specs.Laws.Probe.{probe_question_laid, probe_question-some}
use Rattle.message_bodies.specs.Laws.ProbeAns.{probe_fact_laid, probe_fact-some}
use Rattle.message_bodies.specs.Laws.StoreAns.{store_response_laid, store_response-some}
use Rattle.message_bodies.specs.Laws.Leave.{chord_leave_laid}
use Rattle.message_bodies.specs.Laws.Update.{chord_update_laid}
use Rattle.message_bodies.specs.Laws.Codes.{BodyFits, takes_known, none_of}

-- a code that passes each test has no layout
no_layout : (code : ℕ) → eqb code PROBE ≡ false → eqb code PROBE_ANS ≡ false → eqb code STORE
    ≡ false → eqb code STORE_ANS ≡ false → eqb code FETCH ≡ false → eqb code FETCH_ANS ≡ false
    → eqb code JOIN ≡ false → eqb code JOIN_ANS ≡ false → eqb code LEAVE ≡ false
    → eqb code LEAVE_ANS ≡ false → eqb code UPDATE ≡ false → eqb code UPDATE_ANS ≡ false
    → eqb code PING ≡ false → eqb code PING_ANS ≡ false → eqb code PATH_TRACK ≡ false
    → eqb code PATH_TRACK_ANS ≡ false → eqb code ERROR ≡ false → has_layout code ≡ false
unfolding has_layout
no_layout code a b c d e f g h i j k l m o p q r = rw (
  a,
  b,
  c,
  d,
  e,
  f,
  g,
  h,
  i,
  j,
  k,
  l,
  m,
  o,
  p,
  q,
  r,
) refl

-- a code without a layout passes each test
other_reads : (config : Config) (code : ℕ) → has_layout code ≡ false
    → body_at config code ≡ other_at code
unfolding has_layout body_at peer_body_at overlay_body_at
other_reads config code none =
    let t = none_of (λ known. eqb code known)
    (PROBE ∷ PROBE_ANS ∷ STORE ∷ STORE_ANS ∷ FETCH ∷ FETCH_ANS ∷ JOIN ∷ JOIN_ANS ∷ LEAVE ∷
    LEAVE_ANS ∷ UPDATE ∷ UPDATE_ANS ∷ PING ∷ PING_ANS ∷ PATH_TRACK ∷ PATH_TRACK_ANS ∷
    ERROR ∷ []) none in
    rw (
      t.1.1.0,
      t.1.1.1.0,
      t.1.1.1.1.0,
      t.1.1.1.1.1.0,
      t.0,
      t.1.0,
      t.1.1.1.1.1.1.1.1.1.1.1.1.0,
      t.1.1.1.1.1.1.1.1.1.1.1.1.1.0,
      t.1.1.1.1.1.1.1.1.1.1.1.1.1.1.0,
      t.1.1.1.1.1.1.1.1.1.1.1.1.1.1.1.0,
      t.1.1.1.1.1.1.1.1.1.1.1.1.1.1.1.1.0,
      t.1.1.1.1.1.1.0,
      t.1.1.1.1.1.1.1.0,
      t.1.1.1.1.1.1.1.1.0,
      t.1.1.1.1.1.1.1.1.1.0,
      t.1.1.1.1.1.1.1.1.1.1.0,
      t.1.1.1.1.1.1.1.1.1.1.1.0,
    ) refl

module _ {n : ℕ} (config : Config) where
  -- ---- what is read under each code

  other_takes : (code : ℕ) → code < 256 ^ 2 → has_layout code ≡ false
      → Takes n (HasCode code_of code) (BodyFits config) bytes_of (other_at code)
  unfolding other_at code_of bytes_of IsSpelledBody IsBodyInRange IsBodyOf
  other_takes code lt none = takes_made (bodies.Other code) rest_laid (λ bytes f. (
    (refl, tt),
    (none, ((lt, f), tt)),
    refl,
  ))

  overlay_takes : (code : ℕ)
      → (eqb code JOIN ≡ false → eqb code JOIN_ANS ≡ false → eqb code LEAVE ≡ false
      → eqb code LEAVE_ANS ≡ false → eqb code UPDATE ≡ false → eqb code UPDATE_ANS ≡ false
      → Takes n (HasCode code_of code) (BodyFits config) bytes_of (other_at code))
      → Takes n (HasCode code_of code) (BodyFits config) bytes_of (overlay_body_at code)
  unfolding overlay_body_at join_at join_ans_at leave_at update_at join join_ans leave update
      code_of bytes_of IsSpelledBody IsBodyInRange IsBodyOf
  overlay_takes code others =
      takes_known JOIN (two_take (known node_id_laid) (vector_laid 2 rest_laid) bodies.Join
      (λ peer bytes f g. ((refl, tt), (g.0, (record { peer = f.1; bytes = g.1 }, tt)), refl)))
      (λ a.
      takes_known JOIN_ANS (takes_made bodies.JoinAns (vector_laid 2 rest_laid) (λ bytes f. (
        (
          refl,
          tt,
        ),
        (f.0, (f.1, tt)),
        refl,
      ))) (λ b.
      takes_known LEAVE (two_take (known node_id_laid) (vector_laid 2 (at_end
      (known chord_leave_laid))) bodies.Leave
      (λ peer told f g. (
        (refl, tt),
        (
          record { each = g.1.0; fits = g.0 },
          (record { peer = f.1; told = g.1.1 }, tt),
        ),
        refl,
      ))) (λ c.
      takes_known LEAVE_ANS (done_takes bodies.LeaveAns (refl, tt) (tt, (tt, tt)) refl) (λ d.
      takes_known UPDATE (two_take (number_laid 4) (known chord_update_laid) bodies.Update
      (λ uptime told f g. ((refl, tt), (g.0, (record { uptime = f; told = g.1 }, tt)), refl)))
      (λ e.
      takes_known UPDATE_ANS (done_takes bodies.UpdateAns (refl, tt) (tt, (tt, tt)) refl) (λ f.
      others a b c d e f))))))

  peer_takes : (code : ℕ)
      → (eqb code PROBE ≡ false → eqb code PROBE_ANS ≡ false → eqb code PING ≡ false
      → eqb code PING_ANS ≡ false → eqb code PATH_TRACK ≡ false → eqb code PATH_TRACK_ANS
      ≡ false → eqb code ERROR ≡ false
      → Takes n (HasCode code_of code) (BodyFits config) bytes_of (overlay_body_at code))
      → Takes n (HasCode code_of code) (BodyFits config) bytes_of (peer_body_at code)
  unfolding peer_body_at probe_at probe_ans_at ping_at ping_ans_at path_track_at path_track_ans_at
      error_at probe probe_ans ping ping_ans error code_of bytes_of IsSpelledBody IsBodyInRange
      IsBodyOf
  peer_takes code others =
      takes_known PROBE (takes_made bodies.Probe (vector_of 1 probe_question_laid (λ x _.
      probe_question-some x)) (λ asks f. ((refl, tt), (f.0, (tt, tt)), refl))) (λ a.
      takes_known PROBE_ANS (takes_made bodies.ProbeAns (vector_of 2 probe_fact_laid (λ x _.
      probe_fact-some x)) (λ facts f. ((refl, tt), (f.0, (f.1.1, tt)), refl))) (λ b.
      takes_known PING (takes_made bodies.Ping (vector_laid 2 rest_laid) (λ bytes f. (
        (refl, tt),
        (f.0, (f.1, tt)),
        refl,
      ))) (λ c.
      takes_known PING_ANS (two_take (number_laid 8) (number_laid 8) bodies.PingAns (λ id time f g.
      ((refl, tt), (tt, ((f, g), tt)), refl))) (λ d.
      takes_known PATH_TRACK (takes_made bodies.PathTrack (known track_request_laid) (λ t f. (
        (
          refl,
          tt,
        ),
        (tt, (f.1, tt)),
        refl,
      ))) (λ e.
      takes_known PATH_TRACK_ANS (takes_made bodies.PathTrackAns (known track_answer_laid) (λ t f.
      ((refl, tt), (f.0, (f.1, tt)), refl))) (λ f.
      takes_known ERROR (two_take (number_laid 2) (vector_laid 2 rest_laid) bodies.Error
      (λ code info f g. ((refl, tt), (g.0, (record { code = f; info = g.1 }, tt)), refl))) (λ g.
      others a b c d e f g)))))))

  kinds_laid : Lays n Anything Always
      (λ kinds. (length (store_kinds kinds) < 256 ^ 4) × (All IsSpelledStoreKind kinds
      × All (λ k. IsStoreKindInRange k × IsStoreKindOf config k) kinds))
      (λ kinds. vector 4 (store_kinds kinds)) (vector_at 4 (list_at (store_kind_at config)))
  kinds_laid = vector_of 4 (store_kind_is_layout config) (λ k _. store_kind-some k)

  data_takes : (code : ℕ)
      → (eqb code STORE ≡ false → eqb code STORE_ANS ≡ false → eqb code FETCH ≡ false
      → eqb code FETCH_ANS ≡ false
      → Takes n (HasCode code_of code) (BodyFits config) bytes_of (peer_body_at code))
      → Takes n (HasCode code_of code) (BodyFits config) bytes_of (body_at config code)
  unfolding body_at store_at store_ans_at fetch_at fetch_ans_at store store_ans fetch fetch_ans
      code_of bytes_of IsSpelledBody IsBodyInRange IsBodyOf
  data_takes code others =
      takes_known STORE (three_take (known resource_id_laid) (number_laid 1) kinds_laid bodies.Store
      (λ resource replica kinds f g h. (
        (refl, tt),
        (
          record { each = h.1.0; fits = h.0 },
          (
            record { resource = f.1; replica = g; kinds = λ i c at. (h.1.1 i c at).0 },
            λ i c at.
                (h.1.1 i c at).1,
          ),
        ),
        refl,
      ))) (λ a.
      takes_known STORE_ANS (takes_made bodies.StoreAns (vector_of 2 store_response_laid (λ x _.
      store_response-some x))
      (λ rs f. ((refl, tt), (record { each = f.1.0; fits = f.0 }, (f.1.1, tt)), refl))) (λ b.
      takes_known FETCH (two_take (known resource_id_laid) (vector_of 2 (specifier_is_layout config)
      (λ x _. specifier-some x)) bodies.Fetch
      (λ resource ss f g. (
        (refl, tt),
        (
          record { each = g.1.0; fits = g.0 },
          (
            record { resource = f.1; specifiers = λ i c at. (g.1.1 i c at).0 },
            λ i c at.
                (g.1.1 i c at).1,
          ),
        ),
        refl,
      ))) (λ c.
      takes_known FETCH_ANS (takes_made bodies.FetchAns kinds_laid
      (λ kinds f. (
        (refl, tt),
        (
          record { each = f.1.0; fits = f.0 },
          (
            λ i c at.
                (f.1.1 i c at).0,
            λ i c at. (f.1.1 i c at).1,
          ),
        ),
        refl,
      ))) (λ d. others a b c d))))

  takes : (code : ℕ) → code < 256 ^ 2 → Takes n (HasCode code_of code) (BodyFits config) bytes_of
      (body_at config code)
  takes code lt =
      data_takes code (λ store store_ans fetch fetch_ans.
      peer_takes code (λ probe probe_ans ping ping_ans track track_ans error.
      overlay_takes code (λ join join_ans leave leave_ans update update_ans.
      other_takes code lt (no_layout code probe probe_ans store store_ans fetch fetch_ans join
      join_ans leave leave_ans update update_ans ping ping_ans track track_ans error))))

  -- ---- and what is spelled is read under its code

  other_again : (code : ℕ) (bytes : List ℕ) → has_layout code ≡ false → AreBytes bytes
      → Again n Nothing (bodies.Other code bytes) bytes (body_at config code)
  unfolding other_at
  other_again code bytes none fits = rw (other_reads config code none) (again_made
      (bodies.Other code) rest_laid bytes fits)

  again : (b : Body) → BodyFits config b → Again n Nothing b (bytes_of b) (body_at config
      (code_of b))
  unfolding body_at peer_body_at overlay_body_at probe_at probe_ans_at store_at store_ans_at
      fetch_at fetch_ans_at join_at join_ans_at leave_at update_at ping_at ping_ans_at path_track_at
      path_track_ans_at error_at
      probe probe_ans store store_ans fetch fetch_ans join join_ans leave update ping ping_ans error
      code_of bytes_of IsSpelledBody IsBodyInRange IsBodyOf
  again (bodies.Probe asks) f = again_end (again_made bodies.Probe (vector_of 1 probe_question_laid
      (λ x _. probe_question-some x)) asks (f.0, (λ i x at. tt, λ i x at. tt)))
  again (bodies.ProbeAns facts) f = again_end (again_made bodies.ProbeAns
      (vector_of 2 probe_fact_laid (λ x _. probe_fact-some x)) facts (f.0, (λ i x at. tt, f.1.0)))
  again (bodies.Store resource replica kinds) f = again_end (three_again (known resource_id_laid)
      (number_laid 1) kinds_laid bodies.Store resource replica kinds
      (tt, f.1.0.resource) f.1.0.replica (
        f.0.fits,
        (
          f.0.each,
          λ i c at. (
            f.1.0.kinds i c at,
            f.1.1 i c at,
          ),
        ),
      ))
  again (bodies.StoreAns rs) f = again_end (again_made bodies.StoreAns
      (vector_of 2 store_response_laid (λ x _. store_response-some x)) rs (
        f.0.fits,
        (
          f.0.each,
          f.1.0,
        ),
      ))
  again (bodies.Fetch resource ss) f = again_end (two_again (known resource_id_laid) (vector_of 2
      (specifier_is_layout config) (λ x _. specifier-some x)) bodies.Fetch resource ss
      (tt, f.1.0.resource) (
        f.0.fits,
        (
          f.0.each,
          λ i c at. (
            f.1.0.specifiers i c at,
            f.1.1 i c at,
          ),
        ),
      ))
  again (bodies.FetchAns kinds) f = again_end (again_made bodies.FetchAns kinds_laid kinds
      (f.0.fits, (f.0.each, λ i c at. (f.1.0 i c at, f.1.1 i c at))))
  again (bodies.Join peer bytes) f = again_end (two_again (known node_id_laid)
      (vector_laid 2 rest_laid) bodies.Join peer bytes (tt, f.1.0.peer) (f.0, f.1.0.bytes))
  again (bodies.JoinAns bytes) f = again_end (again_made bodies.JoinAns
      (vector_laid 2 rest_laid) bytes (f.0, f.1.0))
  again (bodies.Leave peer told) f = again_end (two_again (known node_id_laid) (vector_laid 2
      (at_end (known chord_leave_laid))) bodies.Leave peer told (tt, f.1.0.peer) (
        f.0.fits,
        (f.0.each, f.1.0.told),
      ))
  again bodies.LeaveAns f = again_end (done_again bodies.LeaveAns)
  again (bodies.Update uptime told) f = again_end (two_again (number_laid 4)
      (known chord_update_laid) bodies.Update uptime told f.1.0.uptime (f.0, f.1.0.told))
  again bodies.UpdateAns f = again_end (done_again bodies.UpdateAns)
  again (bodies.Ping padding) f = again_end (again_made bodies.Ping
      (vector_laid 2 rest_laid) padding (f.0, f.1.0))
  again (bodies.PingAns id time) f = again_end (two_again (number_laid 8)
      (number_laid 8) bodies.PingAns id time f.1.0.0 f.1.0.1)
  again (bodies.PathTrack t) f = again_end (again_made bodies.PathTrack (known track_request_laid) t
      (tt, f.1.0))
  again (bodies.PathTrackAns t) f = again_end (again_made bodies.PathTrackAns
      (known track_answer_laid) t (f.0, f.1.0))
  again (bodies.Error code info) f = again_end (two_again (number_laid 2)
      (vector_laid 2 rest_laid) bodies.Error code info f.1.0.code (f.0, f.1.0.info))
  again (bodies.Other code bytes) f = other_again code bytes f.0 f.1.0.1

  -- both at once: the body of a message with this code
  pub body_lays : (code : ℕ) → code < 256 ^ 2 → Lays n Nothing (HasCode code_of code)
      (BodyFits config) bytes_of (body_at config code)
  body_lays code lt = forms_laid {limit = 256 ^ 2} takes again code lt
