-- Text taken byte by byte, sessions and their calls, the plain reader, and the lists of calls that both answer. Generic in the kind of captions.
pub mod Counts
pub mod Cut
pub mod Machine
pub mod Reader
pub mod Session
pub mod Calls
