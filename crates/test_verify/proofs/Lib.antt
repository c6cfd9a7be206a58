pub mod NoStructure
