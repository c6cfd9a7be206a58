pub mod AllRan
pub mod Closing
pub mod Judged
pub mod MoreJobs
pub mod Runs
pub mod ShortKeys
pub mod ShownReport
