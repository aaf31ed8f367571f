mod AddCall
mod BatchCall
mod DeltaCall
mod HistCall
mod Left
mod Makes
mod Parts
mod SnapshotCall
mod Walks
mod Exchanging
pub mod Worlds
