pub mod Enqueue
pub mod Dequeue
pub mod Batch
pub mod Dequeues
pub mod Calls
pub mod Met
