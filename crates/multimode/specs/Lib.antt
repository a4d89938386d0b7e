pub mod Multimode
