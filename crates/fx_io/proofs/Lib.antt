pub mod FaultLines
pub mod SinkBytes
