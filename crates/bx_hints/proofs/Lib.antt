pub mod AgreeingLemmas
