mod TableFronts
mod OneText
mod Members
mod OneMerge
mod Grouped
