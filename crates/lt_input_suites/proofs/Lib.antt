mod Said
mod Sets
mod Singles
mod Puts
mod Drafted
mod Fronts
mod Differ
