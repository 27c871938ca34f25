pub mod DisjointMasks
pub mod ScanCounts
