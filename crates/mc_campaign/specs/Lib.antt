-- What the public contracts cite.
pub mod Meetings
pub mod Outcomes
pub mod Messages
pub mod Reports
pub mod ReportText
pub mod ReportLines
pub mod ReportStatus
pub mod Runs
