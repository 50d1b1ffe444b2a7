pub mod FaultlessLines
pub mod FineRows
pub mod FirstFaults
