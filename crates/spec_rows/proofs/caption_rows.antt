-- Laws of what a line and a block give, of rows, and of the walk.
pub mod LineLaws
pub mod BlockLaws
pub mod RowLaws
pub mod TurnLaws
pub mod WalkLaws
pub mod EnoughLaws
pub mod AgreeAss
pub mod AgreeBlocks
pub mod ReadLaws
pub mod AgreeText
pub mod CallLaws
pub mod FaultRows
pub mod RefusedRows
