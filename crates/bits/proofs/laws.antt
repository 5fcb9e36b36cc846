pub mod Tab
pub mod Sum
pub mod Value
pub mod Check
pub mod Cases
pub mod Parts
pub mod Total
pub mod Missing
