pub mod MapDocument
pub mod MapNames
pub mod MapValues
pub mod MapIn
