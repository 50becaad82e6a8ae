pub mod Workroom
pub mod MeantThrough
pub mod ShowsWhatWasMeant
pub mod PanelDemand
pub mod PanelCallsDone
pub mod TwoPanels
pub mod WrongPanels
pub mod Computing
