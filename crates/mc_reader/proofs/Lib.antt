-- What these proofs alone cite.
mod AskFeeding
mod AskSteps
mod AskUnfinished
mod AskUnique
mod AskWordCuts
mod AskWritten
mod AskWrittenLines
mod Blocks
mod Feeding
mod FirstLines
mod Fits
mod Gathers
mod ItemLemmas
mod LineEnds
mod Searches
mod StepLemmas
mod TextLemmas
mod Unfinished
pub mod Unique
mod Written
mod WrittenHits
mod WrittenLines
