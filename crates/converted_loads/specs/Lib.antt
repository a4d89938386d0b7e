pub mod ConvertedLoads
