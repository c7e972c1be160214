pub mod SurfaceInfo
