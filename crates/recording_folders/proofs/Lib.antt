pub mod Padded
pub mod Counting
pub mod Sound
pub mod NameKinds
pub mod Hyphen
pub mod MarkBytes
pub mod FoldMay
