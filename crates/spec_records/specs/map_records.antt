-- Maps as lists of records.
pub mod Records
