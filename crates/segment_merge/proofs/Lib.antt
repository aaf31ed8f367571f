mod Items
mod Taken
pub mod Merged
mod Batches
mod Underway
pub mod MergedImage
mod MarkSteps
mod CutSteps
mod CostSteps
mod KeptUnits
mod MarkedSteps
mod FollowSteps
mod AddsUp
mod Totals
mod NewUnits
mod FewerUnits
mod Fallen
mod MarkedOnes
mod Within
mod InOrder
mod DeltasTook
