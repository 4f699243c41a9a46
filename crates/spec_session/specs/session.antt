-- The session's calls: what open, feed and finish answer; and how the loop's numbers stand for the text taken.
pub mod SessionCalls
pub mod Stand
