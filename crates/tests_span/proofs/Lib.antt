pub mod BitDomainEnds
pub mod DomainEnds
pub mod ElementLemmas
pub mod FilledBitLemmas
pub mod FilledMemoryLemmas
pub mod LentBitLemmas
pub mod LentMemory
