mod Alone
mod Entries
mod Telling
