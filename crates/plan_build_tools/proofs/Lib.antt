mod Rows
mod NamingLemmas
