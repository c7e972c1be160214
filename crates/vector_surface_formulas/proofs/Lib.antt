pub mod SurfaceEntries
pub mod SurfaceNorms
