pub mod ExportLaws
pub mod AssemblerLaws
pub mod ProxyLaws
