pub mod HistoryText
pub mod LogText
pub mod HistoryMade
pub mod HistoryPlaying
pub mod HostsReplayed
