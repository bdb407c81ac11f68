mod Lists
mod EntryLaws
mod DefaultLaws
mod BoundLaws
