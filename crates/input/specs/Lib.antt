-- What reading standard input leaves.
pub mod Input
