mod Texts
mod Runs
