pub mod Stages
