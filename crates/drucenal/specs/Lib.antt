pub mod Exports
pub mod AssemblerExports
pub mod ProxyExports
