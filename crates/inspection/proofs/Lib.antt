mod Entries
mod Members
mod Rows
