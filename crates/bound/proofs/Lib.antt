pub mod Bisecting
