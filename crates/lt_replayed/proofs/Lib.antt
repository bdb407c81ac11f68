mod Members
mod OneTable
mod Units
mod WithoutFacts
