pub mod StackSizes
