pub mod EnoughAsked
