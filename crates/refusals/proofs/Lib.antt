pub mod SetRows
pub mod ProxyRows
pub mod AssemblerRows
pub mod ReplayRows
pub mod TableProof
pub mod ExportProof
