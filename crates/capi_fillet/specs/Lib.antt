pub mod Fillet
