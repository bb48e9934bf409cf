-- Why a request is refused: the error codes (RFC 6940, 6.3.3.1), and the first of several causes.
use Rattle.std.specs.Prelude.{ℕ, Bool, List, [], ◌∷◌, Option, option_map, find, nat_lt}
use Rattle.data_models.specs.declared.config.Config.{Config}
use Rattle.storage_model.specs.declared.refusal.Refusal.{Refusal}
use Rattle.storage_model.specs.declared.refusal.Refusal.TheVariants.{Forbidden, NotFound, RequestTimeout, GenerationCounterTooLow, IncompatibleWithOverlay, UnsupportedForwardingOption, DataTooLarge, DataTooOld, TtlExceeded, MessageTooLarge, UnknownKind, UnknownExtension, ResponseTooLarge, ConfigTooOld, ConfigTooNew, InProgress, InvalidMessage}

abbrev pub error_code : Refusal → ℕ
error_code Forbidden = 2
error_code NotFound = 3
error_code RequestTimeout = 4
error_code GenerationCounterTooLow = 5
error_code IncompatibleWithOverlay = 6
error_code UnsupportedForwardingOption = 7
error_code DataTooLarge = 8
error_code DataTooOld = 9
error_code TtlExceeded = 10
error_code MessageTooLarge = 11
error_code UnknownKind = 12
error_code UnknownExtension = 13
error_code ResponseTooLarge = 14
error_code ConfigTooOld = 15
error_code ConfigTooNew = 16
error_code InProgress = 17
error_code InvalidMessage = 20

-- a cause of a refusal, and whether it holds
abbrev pub Cause : Type 0
Cause = Refusal × Bool

-- the first of the causes that holds
unfoldable pub first_cause : List Cause → Option Refusal
first_cause causes = option_map (λ c. c.0) (find (λ c. c.1) causes)

-- the asker's configuration is older or newer than the one that stands
unfoldable pub sequence_causes : Config → ℕ → List Cause
sequence_causes config sequence =
    (ConfigTooOld, nat_lt sequence config.sequence)
    ∷ (ConfigTooNew, nat_lt config.sequence sequence)
    ∷ []
