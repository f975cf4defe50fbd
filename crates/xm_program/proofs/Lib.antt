mod Calls
mod Ends
mod Numbers
mod Runs
mod Sent
mod Walks
