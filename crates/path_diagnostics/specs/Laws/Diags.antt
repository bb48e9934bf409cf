-- Requests for diagnostics and responses are read as they are spelled.
use Rattle.std.proofs.Common.{◌≡◌, ℕ, ◌<◌, length, refl, length-append, arith}
use Rattle.wire_core.specs.Layout.{IsLayout}
use Rattle.wire_core.specs.Laws.Bytes.{length-number}
use Rattle.wire_core.specs.Laws.Steps.{Anything, Always, Lays, laid, seq, done_laid, fits_as}
use Rattle.wire_core.specs.Laws.Words.{number_laid, vector_laid, rest_laid}
use Rattle.wire_core.specs.Laws.Lists.{vector_of}
use Rattle.path_diagnostics.specs.declared.diag_request.DiagRequest.{DiagRequest}
use Rattle.path_diagnostics.specs.declared.diag_response.DiagInfo.{DiagInfo}
use Rattle.path_diagnostics.specs.declared.diag_response.DiagResponse.{DiagResponse}
use Rattle.path_diagnostics.specs.DiagRequests.{diag_request, IsDiagRequestInRange, diag_request_at}
use Rattle.path_diagnostics.specs.DiagResponses.{diag_info, diag_response, IsSpelledDiagInfo, IsSpelledDiagResponse, IsDiagInfoInRange, IsDiagResponseInRange, diag_info_at, diag_response_at}

-- ---- requests

same_request : (a b : DiagRequest) → a.expiration ≡ b.expiration → a.initiated ≡ b.initiated
    → a.flags ≡ b.flags → a ≡ b
same_request a b e f g = λ i. record { expiration = e i; initiated = f i; flags = g i }

abbrev pub RequestFits : DiagRequest → Type 0
RequestFits d = Unit {0} × IsDiagRequestInRange d

pub diag_request_laid : IsLayout RequestFits diag_request diag_request_at
unfolding diag_request diag_request_at
diag_request_laid = laid (λ n.
    fits_as _ (seq {n = n} {Known = Always} (λ d. d.expiration) (number_laid 8) (λ expiration _. seq
    (λ d. d.initiated) (number_laid 8) (λ initiated _. seq (λ d. d.flags) (number_laid 8)
    (λ flags _.
    done_laid (record { expiration = expiration; initiated = initiated; flags = flags }) (
      refl,
      (refl, (refl, tt)),
    ) (λ d k. same_request d _ k.1.1.0 k.1.0 k.0)))))
    (λ d k f. (tt, record { expiration = f.0; initiated = f.1.0; flags = f.1.1.0 }))
    (λ d k f. (f.1.expiration, (f.1.initiated, (f.1.flags, tt)))))

-- it has a byte at least
pub diag_request-some : (d : DiagRequest) → 0 < length (diag_request d)
unfolding diag_request
diag_request-some d = omega (arith, length-number 8 d.expiration, length-append {A = ℕ})

-- ---- responses

same_info : (a b : DiagInfo) → a.kind ≡ b.kind → a.value ≡ b.value → a ≡ b
same_info a b e f = λ i. record { kind = e i; value = f i }

abbrev pub InfoFits : DiagInfo → Type 0
InfoFits i = IsSpelledDiagInfo i × IsDiagInfoInRange i

pub diag_info_laid : IsLayout InfoFits diag_info diag_info_at
unfolding diag_info diag_info_at
diag_info_laid = laid (λ n.
    fits_as _ (seq {n = n} {Known = Always} (λ i. i.kind) (number_laid 2) (λ kind _. seq (λ i.
    i.value) (vector_laid 2 rest_laid) (λ value _.
    done_laid (record { kind = kind; value = value }) (refl, (refl, tt)) (λ i k.
    same_info i _ k.1.0 k.0))))
    (λ i k f. (f.1.0.0, record { kind = f.0; value = f.1.0.1 }))
    (λ i k f. (f.1.kind, ((f.0, f.1.value), tt))))

-- it has a byte at least
pub diag_info-some : (i : DiagInfo) → 0 < length (diag_info i)
unfolding diag_info
diag_info-some i = omega (arith, length-number 2 i.kind, length-append {A = ℕ})

same_response : (a b : DiagResponse) → a.expiration ≡ b.expiration → a.received ≡ b.received
    → a.hops ≡ b.hops → a.info ≡ b.info → a ≡ b
same_response a b e f g h = λ i. record { expiration = e i; received = f i; hops = g i; info = h i }

abbrev pub ResponseFits : DiagResponse → Type 0
ResponseFits d = IsSpelledDiagResponse d × IsDiagResponseInRange d

pub diag_response_laid : IsLayout ResponseFits diag_response diag_response_at
unfolding diag_response diag_response_at
diag_response_laid = laid (λ n.
    fits_as _ (seq {n = n} {Known = Always} (λ d. d.expiration) (number_laid 8) (λ expiration _. seq
    (λ d. d.received) (number_laid 8) (λ received _. seq (λ d. d.hops) (number_laid 1)
    (λ hops _.
    seq (λ d. d.info) (vector_of 2 diag_info_laid (λ i _. diag_info-some i)) (λ info _.
    done_laid (record { expiration = expiration; received = received; hops = hops; info = info })
    (refl, (refl, (refl, (refl, tt)))) (λ d k.
    same_response d _ k.1.1.1.0 k.1.1.0 k.1.0 k.0))))))
    (λ d k f. (
      record { each = f.1.1.1.0.1.0; fits = f.1.1.1.0.0 },
      record { expiration = f.0; received = f.1.0; hops = f.1.1.0; info = f.1.1.1.0.1.1 },
    ))
    (λ d k f. (f.1.expiration, (f.1.received, (f.1.hops, ((f.0.fits, (f.0.each, f.1.info)), tt))))))

-- it has a byte at least
pub diag_response-some : (d : DiagResponse) → 0 < length (diag_response d)
unfolding diag_response
diag_response-some d = omega (arith, length-number 8 d.expiration, length-append {A = ℕ})
