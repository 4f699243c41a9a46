pub mod parked_blocks
