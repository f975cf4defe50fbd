mod Chains
mod Crosses
mod Gathered
mod RoundRows
mod SharedOut
mod Sharing
mod Stands
mod Worked
