pub mod Gauge
