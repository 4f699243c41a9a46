-- Demand 3. `Promise` has the claim from the bytes of a sheet and a trim list; it stands on `Runs` (lists of calls as a caller makes them),
-- `Demand` (what is right for each part) and `Plain` (document 01's plain reader). `Stronger` says that nothing is lost by its words.
pub mod Plain
pub mod Whole
pub mod Again
pub mod Hours
pub mod Demand
pub mod Bounds
pub mod Foreign
pub mod Runs
pub mod Promise
pub mod Stronger
