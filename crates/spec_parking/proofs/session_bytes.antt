-- Laws of the calls over bytes.
pub mod NumberLaws
pub mod CallLaws
pub mod FeedLaws
pub mod Rows
pub mod TextRows
