-- Requests for diagnostics: their spelling, and how they are read (this profile, after RFC 7851).
use Rattle.std.specs.Prelude.{ℕ, ◌<◌, ◌^◌, List, [], ◌∷◌}
use Rattle.wire_core.specs.Spelling.{number, joined}
use Rattle.wire_core.specs.Reading.{Reader, ◌>>=◌, done, number_at}
use Rattle.path_diagnostics.specs.declared.diag_request.DiagRequest.{DiagRequest}

-- a request's bytes
unfoldable pub diag_request : DiagRequest → List ℕ
diag_request d = joined (number 8 d.expiration ∷ number 8 d.initiated ∷ number 8 d.flags ∷ [])

-- each number fits its field
pub record IsDiagRequestInRange (d : DiagRequest) : Type 0 where
  pub expiration : d.expiration < 2 ^ 64
  pub initiated : d.initiated < 2 ^ 64
  pub flags : d.flags < 2 ^ 64

-- a request
unfoldable pub diag_request_at : Reader DiagRequest
diag_request_at = do
  expiration ← number_at 8
  initiated ← number_at 8
  flags ← number_at 8
  done (record { expiration = expiration; initiated = initiated; flags = flags })
