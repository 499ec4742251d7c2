pub mod GoodProps
