pub mod ScanLaws
pub mod ScanLemmas
pub mod VerifiedLemmas
