-- Caption times: the kinds, units and ticks, how far a written time may lie from where it belongs.
pub mod Kind
pub mod Convert
pub mod Near
