pub mod BytesLaws
pub mod GroupLaws
pub mod RawLaws
pub mod ResourceLaws
pub mod SpecifierLaws
pub mod ValueLaws
