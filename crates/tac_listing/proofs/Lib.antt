pub mod layouts
