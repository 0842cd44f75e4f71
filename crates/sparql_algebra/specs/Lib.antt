pub mod Cuts
pub mod SplitTrees
pub mod Prepared
