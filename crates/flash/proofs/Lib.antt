-- Laws for the callers that lend a part of an image.
pub mod Lent
