pub mod Bitmap
pub mod Marking
