pub mod SetWords
