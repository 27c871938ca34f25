mod FreeRunLemmas
pub mod HistoryLemmas
mod LevelLemmas
mod LoanLemmas
mod MapLemmas
mod RunLemmas
mod SearchLemmas
mod StretchRuns
mod SummaryLemmas
mod WordLemmas
