pub mod Made
pub mod HistoryPlayed
pub mod LinesPlayed
pub mod LogsPlayed
pub mod LogsBegun
pub mod HostsReplayed
