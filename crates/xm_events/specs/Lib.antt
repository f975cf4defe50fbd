pub mod Examples
pub mod Life
pub mod Seen
pub mod SeenStory
pub mod Story
