-- What is found out: its spelling, and how it is read (this profile, after RFC 7851).
use Rattle.std.specs.Prelude.{ℕ, ◌<◌, ◌^◌, List, [], ◌∷◌, length, All}
use Rattle.std.specs.List.{flat_map}
use Rattle.wire_core.specs.Spelling.{AreBytes, number, vector, joined}
use Rattle.wire_core.specs.Reading.{Reader, ◌>>=◌, done, rest_at, number_at, vector_at, list_at}
use Rattle.path_diagnostics.specs.declared.diag_response.DiagInfo.{DiagInfo}
use Rattle.path_diagnostics.specs.declared.diag_response.DiagResponse.{DiagResponse}

-- the bytes of a fact
unfoldable pub diag_info : DiagInfo → List ℕ
diag_info i = joined (number 2 i.kind ∷ vector 2 i.value ∷ [])

-- the facts of a list, one after the other
abbrev pub diag_infos : List DiagInfo → List ℕ
diag_infos infos = flat_map diag_info infos

-- a response's bytes
unfoldable pub diag_response : DiagResponse → List ℕ
diag_response d = joined (number 8 d.expiration ∷ number 8 d.received ∷ number 1 d.hops ∷ vector 2
    (diag_infos d.info) ∷ [])

-- A fact has at most 65,535 bytes.
abbrev pub IsSpelledDiagInfo : DiagInfo → Type 0
IsSpelledDiagInfo i = length i.value < 2 ^ 16

-- Each fact fits its length, and all of them have at most 65,535 bytes.
pub record IsSpelledDiagResponse (d : DiagResponse) : Type 0 where
  pub each : All IsSpelledDiagInfo d.info
  pub fits : length (diag_infos d.info) < 2 ^ 16

-- each number fits its field
pub record IsDiagInfoInRange (i : DiagInfo) : Type 0 where
  pub kind : i.kind < 2 ^ 16
  pub value : AreBytes i.value

-- each number fits its field
pub record IsDiagResponseInRange (d : DiagResponse) : Type 0 where
  pub expiration : d.expiration < 2 ^ 64
  pub received : d.received < 2 ^ 64
  pub hops : d.hops < 2 ^ 8
  pub info : All IsDiagInfoInRange d.info

-- a fact, whatever its kind
unfoldable pub diag_info_at : Reader DiagInfo
diag_info_at = do
  kind ← number_at 2
  value ← vector_at 2 rest_at
  done (record { kind = kind; value = value })

-- a response
unfoldable pub diag_response_at : Reader DiagResponse
diag_response_at = do
  expiration ← number_at 8
  received ← number_at 8
  hops ← number_at 1
  info ← vector_at 2 (list_at diag_info_at)
  done (record { expiration = expiration; received = received; hops = hops; info = info })
