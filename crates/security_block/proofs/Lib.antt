pub mod OwnSignature
pub mod StandInExact
