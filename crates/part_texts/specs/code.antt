-- How the code's own values stand for parts.
pub mod ReadParts
