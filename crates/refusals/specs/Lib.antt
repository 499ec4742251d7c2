pub mod RefusalTable
pub mod ExportTable
