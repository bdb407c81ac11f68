mod Marks
mod Reading
mod Walking
