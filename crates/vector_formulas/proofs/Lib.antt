pub mod Vectors
pub mod VectorCurves
pub mod VectorSurfaces
