pub mod StartLaws
pub mod LineLaws
pub mod TextLaws
pub mod FeedLaws
pub mod Rows
pub mod BoundLaws
