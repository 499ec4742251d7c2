pub mod SetWordsLaws
