-- The laws that the readers of an image need.
pub mod PastTheEnd
pub mod SameFields
pub mod Linked
pub mod FirstByte
