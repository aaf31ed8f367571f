-- The call `hist`.
pub mod Blocks
pub mod ByIndex
pub mod HistAnnounced
pub mod HistAnswered
pub mod Indexing
pub mod Knowing
pub mod KnownNames
pub mod NamesHeld
pub mod NamesAndSpecs
pub mod OneName
pub mod OwnNames
pub mod Opening
pub mod RecordRead
pub mod Recorded
pub mod SameLawful
pub mod NameSearch
pub mod Settled
