pub mod VbiLines
