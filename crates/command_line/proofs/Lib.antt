pub mod Lists
pub mod FirstItems
pub mod Computed
pub mod Fitting
pub mod Right
pub mod Limits
