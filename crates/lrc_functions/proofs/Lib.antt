pub mod NumberLemmas
pub mod FunctionLemmas
