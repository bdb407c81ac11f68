-- Coverage files of both versions: the forms of names, the table, the text that stands for it, what reading answers, and merges.
pub mod Names
pub mod Table
pub mod Text
pub mod Records
pub mod Rows
pub mod Draft
pub mod Reading
pub mod Merge
