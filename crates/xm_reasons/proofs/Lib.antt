mod Deciding
mod FewUnits
mod InOrder
mod Passing
mod Ruling
mod Walking
