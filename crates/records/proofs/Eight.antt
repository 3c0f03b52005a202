-- Laws of hours over E8 that crates not yet over `Code` use: the general ones at eight coordinates.
pub mod Hours
