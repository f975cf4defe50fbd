mod Apart
mod Crosses
mod Kept
mod Merging
mod Sectioned
mod Telling
