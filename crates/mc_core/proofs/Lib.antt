mod LogLemmas
mod StepLemmas
mod FoldLemmas
mod NotedEvents
mod Sending
mod SmallNumbers
mod Deciding
mod Safe
pub mod MachineLemmas
pub mod Refusals
pub mod OwnSection
pub mod HeldWorlds
pub mod HeldSteps
pub mod Taking
pub mod Recorded
pub mod Clearing
pub mod NextRequest
pub mod FaultlessRequests
pub mod HistorySteps
pub mod LongerFolds
pub mod Recording
pub mod Upcoming
pub mod SameWorlds
