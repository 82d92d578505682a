mod CodedBytes
mod InOrder
mod Matching
mod FoundRows
