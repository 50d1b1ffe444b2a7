pub mod bits
