pub mod ThroughLaws
