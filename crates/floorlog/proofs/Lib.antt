mod Forms
pub mod Outcomes
pub mod LastLineEnds
mod NoLogPrints
pub mod DidSpelt
pub mod LogOpenings
pub mod EventsLeave
pub mod OnePlace
pub mod Driven
pub mod EventSeconds
pub mod KeptText
mod NextKept
pub mod Observing
pub mod Replayed
pub mod UnplayedBy
pub mod UnplayedFits
pub mod Samples
pub mod Settled
pub mod HistoriesKnown
pub mod ShortLines
